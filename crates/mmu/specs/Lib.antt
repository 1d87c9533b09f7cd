pub mod Good
pub mod Translates
pub mod Probes
pub mod Bus
