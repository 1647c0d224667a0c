-- What only this crate's own bodies and proofs need.
pub mod Changes
pub mod Coming
pub mod Following
pub mod Putting
pub mod Reached
pub mod Replacing
pub mod Runs
pub mod Unsettled
