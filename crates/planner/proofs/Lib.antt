-- What the proofs of the code share, and laws of the planner's answers and tables.
mod Solving
pub mod Listed
pub mod Kept
pub mod Lending
pub mod Order
pub mod Solved
pub mod Preparing
pub mod After
pub mod Powers
