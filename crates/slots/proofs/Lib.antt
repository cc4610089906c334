pub mod FilmBytes
pub mod NetArrays
pub mod Stamping
pub mod Tracks
