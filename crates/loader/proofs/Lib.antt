mod Image
pub mod Accepted
pub mod Refused
