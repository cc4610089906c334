pub mod Walk
pub mod Search
pub mod Routed
