-- What the proofs share, and laws of the list in the room.
pub mod Laws
