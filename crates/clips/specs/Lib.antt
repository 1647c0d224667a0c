pub mod Clips
pub mod Faults
pub mod Placed
pub mod inner
