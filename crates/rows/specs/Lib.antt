-- Rows of the tables rebuilt, whatever the tables hold.
pub mod Cabinets
pub mod Charges
pub mod Keys
pub mod Reads
pub mod Joins
pub mod Rebuilds
pub mod Paths
