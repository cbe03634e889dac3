pub mod Identity
