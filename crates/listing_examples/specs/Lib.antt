pub mod Line
pub mod Files
pub mod Words
pub mod Back
