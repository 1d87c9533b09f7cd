pub mod Settled
pub mod Instructions
pub mod Burst
pub mod Step
pub mod Advance
