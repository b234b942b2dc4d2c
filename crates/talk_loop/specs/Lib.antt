pub mod Conversed
pub mod Finished
pub mod InStep
