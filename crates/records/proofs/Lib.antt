-- What callers may rely on, and what the proofs of the code share.
pub mod Columns
pub mod Bars
pub mod Joints
pub mod Given
pub mod Taken
