pub mod Kept
pub mod Settled
pub mod Shown
pub mod Steps
pub mod inner
