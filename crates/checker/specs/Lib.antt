-- What the check answers, and the load of a link. Inner need not be read.
pub mod Check
pub mod Answers
pub mod Loads
pub mod Inner
