pub mod Lists
pub mod Ids
pub mod Leader
pub mod BestUpdates
pub mod Rising
pub mod StoreLaws
pub mod Edits
pub mod Placed
mod MovedOut
mod Wanted
mod Given
mod SortedPlaces
pub mod Stored
pub mod Woven
pub mod Fronts
pub mod CallerLemmas
