-- The laws that this crate's proofs cite.
pub mod Decimals
pub mod Lengths
pub mod Writing
pub mod Lines
pub mod FrontFields
pub mod RoutedText
pub mod InputText
pub mod Specimens
