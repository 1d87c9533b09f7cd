pub mod Match
pub mod Table
pub mod Sets
pub mod Undecoded
