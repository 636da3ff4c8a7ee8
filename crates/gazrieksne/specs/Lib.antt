-- What each entry point returns and writes.
pub mod Reads
pub mod Plans
pub mod Copies
pub mod Bills
