-- What only this crate's own bodies and proofs need.
pub mod Causes
pub mod Drills
pub mod Ends
pub mod Faults
pub mod Readers
pub mod Services
pub mod Serving
pub mod SessionTexts
pub mod Shelves
