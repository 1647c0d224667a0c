-- In the order in which they are read: each uses those above it.
pub mod Decimals
mod Behind
mod Passing
pub mod Depths
mod Skipped
mod Spread
pub mod Laid
pub mod ItemsLeft
pub mod MembersLeft
mod Placed
mod FirstBytes
pub mod Pairs
pub mod Lookups
pub mod Rising
mod Quotes
pub mod Appended
pub mod CallerLemmas
