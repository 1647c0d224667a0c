pub mod Faults
pub mod Heads
pub mod Layouts
pub mod Reading
pub mod Scenes
pub mod Texts
pub mod Whole
pub mod inner
