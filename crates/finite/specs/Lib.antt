-- Mathematics that every crate shares: sums and tests over the numbers below n.
pub mod Below
