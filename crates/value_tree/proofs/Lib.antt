pub mod LeafLists
pub mod Changes
pub mod TreeParts
pub mod Stretches
pub mod Offsets
pub mod Descents
pub mod Starts
pub mod Needs
