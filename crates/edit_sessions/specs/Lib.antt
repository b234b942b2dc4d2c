pub mod Core
pub mod Laws
pub mod Shared
pub mod Talks
