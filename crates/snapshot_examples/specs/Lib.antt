pub mod Example
pub mod Refusals
