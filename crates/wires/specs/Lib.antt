pub mod Levels
pub mod Laying
