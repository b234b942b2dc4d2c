mod Endings
mod HeardSoFar
mod OneOpening
mod ReadLines
mod TakenLines
