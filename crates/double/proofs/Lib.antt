pub mod Nan
pub mod Signs
pub mod Magnitudes
pub mod Cuts
pub mod Wholes
