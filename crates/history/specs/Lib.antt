pub mod Pairs
pub mod Stacks
pub mod Steps
pub mod Undone
pub mod inner
