pub mod ShownTexts
pub mod ShownWhole
pub mod CallerLemmas
