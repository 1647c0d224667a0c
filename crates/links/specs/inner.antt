-- What only this crate's own bodies and proofs need.
pub mod Keys
pub mod Rows
pub mod Settled
pub mod Tables
