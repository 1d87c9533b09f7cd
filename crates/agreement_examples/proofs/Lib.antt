pub mod Same
pub mod Example
pub mod Tables
pub mod Capacity
pub mod Interrupt
