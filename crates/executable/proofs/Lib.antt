mod Laws
pub mod Accepted
