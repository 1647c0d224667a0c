pub mod Merged
pub mod Restored
pub mod Table
pub mod inner
