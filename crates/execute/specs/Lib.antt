pub mod Computed
pub mod Ahead
