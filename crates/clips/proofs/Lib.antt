pub mod PlacedReading
pub mod RepeatLaws
pub mod Questions
pub mod ClipOnce
pub mod ClipTold
pub mod WholeClips
pub mod WholeCopies
pub mod Existing
mod Rows
pub mod CallerLemmas
