-- Words read back, the copy's blocks, and what the crates above may rely on: Accepted, Copies, Agreeing and Answers.
mod Concat
mod Put
mod Barred
mod Fourth
pub mod Lengths
mod Columns
mod Counts
mod Putting
mod Whole
pub mod Fields
pub mod Bounds
pub mod Accepted
pub mod Copies
pub mod Rising
pub mod Agreeing
pub mod Answers
