pub mod Classes
pub mod Shelves
