pub mod CutLines
pub mod Pieces
pub mod PlacesBehind
pub mod Texts
pub mod WholeLines
