pub mod Arithmetic
pub mod Comparison
pub mod Single
pub mod Whole
pub mod NextWhole
pub mod Numbers
