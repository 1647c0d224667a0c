pub mod LineLaws
pub mod Feeds
pub mod Answered
pub mod Blanks
pub mod Leads
pub mod Streams
pub mod CallerLemmas
