pub mod Fields
pub mod Told
pub mod Walk
pub mod GivenBack
pub mod InTurn
