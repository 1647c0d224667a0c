pub mod Back
pub mod Existing
pub mod Once
pub mod Told
pub mod Written
pub mod CallerLemmas
