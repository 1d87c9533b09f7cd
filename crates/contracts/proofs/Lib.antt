pub mod Trees
pub mod Laws
pub mod FloatLaws
pub mod Steps
