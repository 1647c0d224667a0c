-- What only this crate's own bodies and proofs need.
pub mod Spans
pub mod Stretches
pub mod Walk
