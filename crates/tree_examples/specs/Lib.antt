pub mod Plain
pub mod Sums
