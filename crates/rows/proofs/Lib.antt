-- What the proofs of the code share.
mod Joining
mod Weighing
mod Linking
pub mod Parted
pub mod Paired
pub mod Slots
mod Joinable
pub mod Reading
pub mod Rebuilding
pub mod Filling
pub mod Guards
mod Climbing
