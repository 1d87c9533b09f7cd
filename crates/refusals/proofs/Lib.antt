pub mod Slots
pub mod Order
pub mod Views
pub mod Turns
