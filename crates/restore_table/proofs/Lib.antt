pub mod Listings
pub mod Merging
pub mod Nesting
pub mod RestoredLaws
pub mod Rows
pub mod CallerLemmas
