pub mod Answering
pub mod Lines
pub mod Texts
pub mod inner
