pub mod Table
pub mod References
pub mod Picture
