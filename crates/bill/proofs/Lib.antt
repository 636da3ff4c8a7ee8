-- Laws of bills.
pub mod Put
pub mod Figures
pub mod Begun
pub mod Answers
