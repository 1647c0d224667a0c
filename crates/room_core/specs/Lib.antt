pub mod Closing
pub mod Members
pub mod Planned
pub mod Rooms
pub mod Scripts
pub mod Serving
pub mod Told
pub mod inner
