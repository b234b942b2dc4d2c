pub mod Changes
pub mod Composing
pub mod Known
pub mod Rooms
pub mod Tables
