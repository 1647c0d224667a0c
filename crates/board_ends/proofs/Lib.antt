pub mod Moved
pub mod Opens
pub mod Safe
pub mod CallerLemmas
