-- What callers may rely on, and what the proofs of the code share.
pub mod Given
pub mod Groups
pub mod Order
pub mod Promises
pub mod Same
mod Sharing
mod There
mod Ladder
mod Passed
