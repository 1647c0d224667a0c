pub mod Own
pub mod Told
pub mod Turning
