pub mod Adds
pub mod Ascii
pub mod Digits
pub mod Hex
pub mod Signed
pub mod Written
