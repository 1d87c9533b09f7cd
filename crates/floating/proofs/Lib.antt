pub mod EightBytes
pub mod Laws
