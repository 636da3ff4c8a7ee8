-- What only private functions and proofs cite.
pub mod Tables
pub mod Decided
pub mod Prepared
