pub mod ReadsBack
