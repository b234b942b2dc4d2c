mod Last
mod Loop
pub mod Steps
