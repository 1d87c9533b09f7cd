pub mod Choices
pub mod Returning
pub mod AddressSpace
pub mod Rest
pub mod OlderGrants
