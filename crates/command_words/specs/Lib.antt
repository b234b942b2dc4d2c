pub mod Arguments
pub mod Given
pub mod Grammar
pub mod Numbers
pub mod Request
pub mod Taken
