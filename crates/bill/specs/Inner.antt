-- What only private functions and proofs cite.
pub mod Put
pub mod Billable
