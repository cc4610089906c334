pub mod Text
pub mod Digits
pub mod Wrote
pub mod Puts
