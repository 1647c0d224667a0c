-- What only this crate's own bodies and proofs need.
pub mod Begun
pub mod Texts
