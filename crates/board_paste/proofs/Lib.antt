pub mod StoredIds
pub mod PastedLaws
pub mod CallerLemmas
