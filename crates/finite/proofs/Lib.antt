-- The laws of sums, tests and maps below a number, of Booleans, and of lists whose front or middle is written over.
pub mod Booleans
pub mod Fronts
pub mod Middles
pub mod Sums
pub mod Tests
pub mod Ranges
pub mod OneToOne
pub mod Decides
