pub mod Copies
pub mod Naming
