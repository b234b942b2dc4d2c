pub mod Fronts
pub mod HeardOpenings
pub mod Laws
pub mod Openings
