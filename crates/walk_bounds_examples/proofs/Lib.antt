pub mod Example
pub mod FiveMet
pub mod TwiceMet
pub mod Needed
pub mod SixtyFive
