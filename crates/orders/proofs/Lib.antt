pub mod Ways
pub mod Nodes
pub mod Filling
pub mod Pruning
pub mod Staying
pub mod Picking
pub mod Joining
pub mod Entering
