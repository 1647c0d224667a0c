pub mod Deeds
pub mod Draws
pub mod Drills
pub mod Elements
pub mod Facts
pub mod Texts
pub mod inner
