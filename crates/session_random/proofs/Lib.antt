pub mod WordLaws
pub mod CallerLemmas
