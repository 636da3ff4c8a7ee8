-- What the program prints. Inner need not be read.
pub mod Text
pub mod Inner
