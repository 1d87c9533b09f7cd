mod Equal
pub mod Exactly
mod Lines
pub mod Reading
mod Tests
mod Witness
pub mod Words
