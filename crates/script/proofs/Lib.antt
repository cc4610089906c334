-- The laws that this crate's proofs and the router's cite.
pub mod Noting
pub mod Renaming
pub mod Touched
pub mod Lining
pub mod ByKind
pub mod Telling
pub mod Passed
