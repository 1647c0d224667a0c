-- What only this crate's own bodies and proofs need.
pub mod Behind
pub mod Gathered
pub mod Kept
pub mod Named
