pub mod Advance
pub mod UnderWay
