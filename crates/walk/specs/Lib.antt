pub mod Directory
pub mod Found
