pub mod Class
pub mod Pool
pub mod Shelf
