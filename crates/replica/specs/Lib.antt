pub mod Back
pub mod Boards
pub mod Sound
pub mod Standing
pub mod State
pub mod inner
