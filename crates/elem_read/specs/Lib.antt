pub mod Elements
pub mod Faults
pub mod Reading
pub mod inner
