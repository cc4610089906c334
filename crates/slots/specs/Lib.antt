pub mod Heights
pub mod Levels
pub mod Stamps
pub mod Slots
pub mod Runs
