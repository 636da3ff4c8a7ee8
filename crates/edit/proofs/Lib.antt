-- Laws of edits: which instances they go between, what is refused beforehand, the rows of both tables, and that their contract can be met; and of lists
-- of calls, on one span and on the spans of two roads.
pub mod Changing
pub mod Before
pub mod Tables
pub mod Accepting
pub mod Possible
pub mod Lists
pub mod Roads
mod Reworking
mod Lifting
