-- The laws that this crate's proofs and the router's cite.
pub mod Laying
