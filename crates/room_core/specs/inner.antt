-- What only this crate's own bodies and proofs need.
pub mod Kept
pub mod Planned
pub mod Serving
