-- What a planning sheet is: 01's section "The planning sheet" and the reader's refusals. To be read in this order; Inner need not be read.
pub mod Limits
pub mod Layout
pub mod Conditions
pub mod Refusals
pub mod Reading
pub mod Instance
pub mod Said
pub mod Records
pub mod Inner
