pub mod Known
pub mod Carried
pub mod Modes
