pub mod Looking
