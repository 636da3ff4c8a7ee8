-- What the planner answers, and what it leaves in the memory lent to it. Inner need not be read.
pub mod Answers
pub mod Lent
pub mod Kept
pub mod Bounds
pub mod Inner
