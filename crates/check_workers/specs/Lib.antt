pub mod Faces
pub mod Pieces
pub mod Texts
