pub mod BodySteps
pub mod BrokenLines
