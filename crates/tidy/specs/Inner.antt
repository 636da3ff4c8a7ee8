-- What only private functions and proofs cite.
pub mod Put
pub mod Limited
pub mod Counted
pub mod Columns
