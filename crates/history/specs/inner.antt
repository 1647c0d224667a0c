-- What only this crate's own bodies and proofs need.
pub mod Places
pub mod Stacks
pub mod Steps
