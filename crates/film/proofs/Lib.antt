pub mod Aims
pub mod Cells
pub mod Finish
pub mod Joints
pub mod Steadiness
pub mod Sweeps
pub mod Trips
