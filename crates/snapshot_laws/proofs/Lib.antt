mod NumbersBack
mod Blocks
pub mod SavedRead
pub mod ReadSaved
pub mod Runs
pub mod Continued
