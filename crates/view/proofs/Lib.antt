pub mod InOrder
pub mod Kept
pub mod OrderLaws
pub mod Originals
pub mod SceneOrder
pub mod SettledLaws
pub mod ShownLaws
pub mod NamerLaws
mod SpotLaws
pub mod ContentLaws
pub mod StepLaws
pub mod CallerLemmas
