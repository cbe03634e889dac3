-- Columns and tests, what a turn of a loop leaves, the octets of a desk piece by piece, and the way from octets to their desk and back to
-- them.
pub mod Columns
pub mod Tests
pub mod Turns
pub mod Pieces
pub mod Flags
pub mod Phases
pub mod Tables
pub mod Lengths
pub mod Facts
pub mod InOctets
pub mod Forth
