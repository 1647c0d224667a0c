pub mod Lists
pub mod FrameLaws
pub mod GroupLaws
pub mod FrameIds
pub mod CallerLemmas
