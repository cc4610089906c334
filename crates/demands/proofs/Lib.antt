pub mod Stated
pub mod Reorder
pub mod Demand2
pub mod Demand3
pub mod EndToEnd
pub mod Impostors
pub mod Filling
