pub mod Mnemonics
pub mod Cells
pub mod Line
