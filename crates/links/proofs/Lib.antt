pub mod Among
pub mod ArrowLaws
pub mod EntryLaws
pub mod LookLaws
pub mod Members
pub mod Near
pub mod RowEdits
pub mod RowLaws
pub mod RowPlaces
pub mod RowSweep
pub mod SettledLaws
pub mod Sorting
pub mod Tabled
pub mod TextLaws
mod Unlinked
pub mod UnplacedLaws
pub mod CallerLemmas
