-- What the planner's mathematics is about, in the order to read it: least charges on a tree for any charges whatever, their rows, counts and read-back, keys, by which ties are settled, and kept tables.
pub mod Masks
pub mod Loop
pub mod Totals
pub mod Encoded
pub mod Net
pub mod Splits
pub mod Join
pub mod Rows
pub mod Count
pub mod Folds
pub mod Rebuild
pub mod Back
pub mod Keys
pub mod Kept
pub mod Local
