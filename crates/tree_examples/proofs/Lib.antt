pub mod PlainLeaves
pub mod Sums
