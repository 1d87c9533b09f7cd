pub mod BoolLaws
pub mod Conversion
pub mod Division
pub mod SignBit
pub mod Magnitudes
pub mod Shift
pub mod Extension
