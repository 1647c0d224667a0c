pub mod Checks
pub mod Lines
pub mod Reading
pub mod inner
