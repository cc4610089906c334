pub mod Tabled
pub mod Open
pub mod Told
