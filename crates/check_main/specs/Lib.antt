pub mod Calls
pub mod Complete
pub mod Top
