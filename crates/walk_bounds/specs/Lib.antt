pub mod Bounds
pub mod Effects
