pub mod Taken
pub mod Quiet
