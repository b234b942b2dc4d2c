pub mod Bodies
pub mod Judgements
pub mod Runs
