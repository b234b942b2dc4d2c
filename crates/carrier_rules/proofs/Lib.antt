pub mod Effects
pub mod EachCarrier
