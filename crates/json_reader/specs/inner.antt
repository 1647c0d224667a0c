-- What only this crate's own bodies and proofs need.
pub mod Brackets
pub mod Drafts
pub mod Items
pub mod Machine
pub mod Places
pub mod Runs
pub mod Writing
