-- What only this crate's own bodies and proofs need.
pub mod Concerning
pub mod Copied
pub mod Prepared
