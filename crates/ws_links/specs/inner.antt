-- What only this crate's own bodies and proofs need.
pub mod Held
pub mod Leaving
pub mod Sums
pub mod Texts
