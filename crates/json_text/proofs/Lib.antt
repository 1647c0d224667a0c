-- In the order in which they are read: each uses those above it.
pub mod Strings
pub mod Reading
pub mod Appending
pub mod Contents
pub mod Masks
pub mod Spans
pub mod Collapsed
pub mod CompactLaws
pub mod Forms
pub mod FirstLaws
pub mod Lists
pub mod Blanks
pub mod CallerLemmas
