-- What the tidy copy of a sheet is. To be read in this order; Inner need not be read.
pub mod Words
pub mod Copy
pub mod Answers
pub mod Agree
pub mod Inner
