pub mod Digits
pub mod Keys
pub mod Between
pub mod Rising
