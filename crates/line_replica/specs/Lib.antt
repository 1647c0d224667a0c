pub mod Asking
pub mod Living
pub mod Sessions
pub mod Standing
pub mod Talks
pub mod inner
pub mod Turning
