pub mod AskedEdits
pub mod AskedEntries
pub mod Comings
pub mod CoreLaws
pub mod Takes
pub mod Turns
pub mod Talked
