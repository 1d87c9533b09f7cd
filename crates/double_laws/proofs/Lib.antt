pub mod Singles
pub mod Canonical
pub mod Words
pub mod Fractions
pub mod Order
pub mod Signs
