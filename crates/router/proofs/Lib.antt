-- The laws that this crate's proofs cite.
pub mod Bridge
pub mod Holding
pub mod Turning
pub mod Walking
pub mod Laying
pub mod Searching
pub mod Checking
pub mod Demand
