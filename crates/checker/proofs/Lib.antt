-- Answers has the laws of the check's answers, Carried those of a link's load. The other files are what the proofs of the code share.
pub mod Answers
pub mod Carried
mod Told
mod Placing
mod Marks
mod Flows
mod Walking
mod Deciding
