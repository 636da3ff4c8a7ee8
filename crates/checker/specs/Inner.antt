-- What only private functions and proofs cite.
pub mod Records
pub mod Flows
pub mod Walk
