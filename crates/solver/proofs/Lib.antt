-- What the proofs of the code share.
mod Testing
mod Summing
pub mod Sounding
mod Filling
mod Placing
pub mod Deciding
mod Counting
