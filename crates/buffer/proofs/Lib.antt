pub mod Slots
pub mod Search
pub mod Keeping
pub mod Packing
pub mod Entries
pub mod Hits
pub mod Packed
