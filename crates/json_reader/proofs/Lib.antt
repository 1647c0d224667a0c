-- In the order in which they are read: each uses those above it.
-- ---- the machine against the grammar: where it ends a value stands, and where it refuses the first fault is
mod NumberRuns
mod Sequences
mod Digits
mod Steps
mod Numbers
mod ValueRuns
mod Moves
pub mod FirstFaults
pub mod Outcomes
pub mod Feeds
-- ---- the writer: what it has written is the compact text of the value that was read
mod Placing
mod Drafting
mod Ready
mod Written
mod PlainStrings
mod Copying
mod SimpleValues
mod ItemRuns
pub mod CallerLemmas
