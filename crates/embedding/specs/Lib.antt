-- The rule of planning: Definition 1 of source document 000, 01's plans and splits on a road, the first of the cheapest plans, and one road written twice. Inner need not be read.
pub mod Definition1
pub mod Road
pub mod Limits
pub mod Plan
pub mod First
pub mod Splits
pub mod Rehung
pub mod Inner
