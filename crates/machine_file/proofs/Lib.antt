pub mod Counted
pub mod Lengths
mod Parts
