-- What only this crate's own bodies and proofs need.
pub mod Filed
pub mod Found
pub mod Printing
