mod JoinedLinks
mod Printed
mod Steps
pub mod Tries
mod Served
mod MemberLaws
mod Closing
mod Traces
mod Scripts
pub mod CallerLemmas
