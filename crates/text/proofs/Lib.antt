pub mod HexLaws
pub mod Laws
mod Value
