-- What only private functions and proofs cite.
pub mod Within
pub mod Fields
