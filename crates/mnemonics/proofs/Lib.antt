mod Cells
pub mod Columns
mod Lines
pub mod Table
