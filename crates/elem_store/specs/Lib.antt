pub mod Places
pub mod Stock
pub mod Updates
pub mod inner
