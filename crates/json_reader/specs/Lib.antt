pub mod Faults
pub mod Feeding
pub mod inner
