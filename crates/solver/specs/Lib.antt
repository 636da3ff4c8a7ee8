-- What the core decides and leaves in the tables, over the net of the records.
pub mod Sums
pub mod Sound
pub mod Tables
