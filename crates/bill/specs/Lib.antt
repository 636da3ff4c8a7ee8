-- What a bill is: the tariff, the lines and the sums, and what the call answers. Inner need not be read.
pub mod Tariff
pub mod Lines
pub mod Answers
pub mod Inner
