pub mod Marks
pub mod Stages
pub mod Bounds
