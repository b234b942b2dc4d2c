pub mod Entries
mod RowLists
pub mod Search
pub mod TableLines
pub mod TextTables
