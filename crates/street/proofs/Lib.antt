-- The laws that proofs about orders and places cite.
pub mod Cells
pub mod CellNumbers
pub mod PlaceBits
pub mod PlaceTable
