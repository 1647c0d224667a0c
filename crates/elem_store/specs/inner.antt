-- What only this crate's own bodies and proofs need.
pub mod Arranging
pub mod Fronts
pub mod Indexed
pub mod Places
