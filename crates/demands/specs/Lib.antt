pub mod Causes
pub mod Demands
pub mod Impostors
