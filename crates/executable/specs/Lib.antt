pub mod Executable
