pub mod Unit
pub mod Closest
pub mod Patterns
pub mod Rounding
pub mod Fields
pub mod Narrowed
