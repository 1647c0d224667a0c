pub mod Keyed
pub mod Repair
