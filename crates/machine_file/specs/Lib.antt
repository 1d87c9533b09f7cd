pub mod Layout
pub mod Judged
