-- The words of the demands, and the worked cases as one table.
pub mod Promised
pub mod Cases
