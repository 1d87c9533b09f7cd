pub mod Answers
mod Order
mod Saving
mod Reading
pub mod Within
