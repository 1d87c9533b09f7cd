pub mod View
pub mod Refusal
