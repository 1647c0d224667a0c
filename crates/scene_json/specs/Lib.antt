pub mod Layout
pub mod Lines
pub mod Named
pub mod Passes
pub mod TheOne
pub mod Walks
pub mod inner
