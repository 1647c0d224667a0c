pub mod Carried
pub mod Pending
pub mod Touched
pub mod inner
