pub mod Left
pub mod Loop
pub mod Entries
pub mod Whole
