pub mod InOctets
