-- One cabinet changed: which instances an edit goes between, what a call answers and leaves, lists of calls on one span and on the spans of two roads.
-- Inner need not be read.
pub mod Calls
pub mod Changed
pub mod Edits
pub mod Lists
pub mod Roads
pub mod Inner
