pub mod Lists
pub mod SetsOfIds
pub mod CopyNames
pub mod CopyKept
mod Rows
pub mod CallerLemmas
