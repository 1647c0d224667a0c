pub mod HeldIds
pub mod CallerLemmas
