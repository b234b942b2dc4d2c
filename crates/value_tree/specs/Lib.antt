pub mod Between
pub mod Found
pub mod Kept
pub mod Need
pub mod Parts
pub mod Walk
