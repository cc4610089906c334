pub mod Stamps
pub mod Wires
pub mod Moves
pub mod Nodes
pub mod Walks
