pub mod Appending
pub mod Distinct
pub mod FormsOnce
pub mod Once
pub mod KeyTexts
mod Headers
pub mod Kept
mod Leaving
mod Merging
pub mod OrderLaws
mod Rows
pub mod Saying
pub mod Sorting
pub mod TellingLaws
pub mod CallerLemmas
