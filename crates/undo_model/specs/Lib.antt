pub mod Carrying
pub mod Differing
pub mod Entries
pub mod Leaving
pub mod Steps
pub mod Undoing
