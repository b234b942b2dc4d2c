pub mod Faces
pub mod LineRanges
pub mod Lots
mod Pieces
