pub mod CompactText
pub mod EntryPlaces
pub mod LiveReports
pub mod Names
pub mod PassLines
pub mod PlainText
pub mod ToldLines
