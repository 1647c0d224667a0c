pub mod CallerLemmas
mod Existing
mod JudgedLaws
mod KeptLaws
mod Leads
mod Named
mod Once
mod Steps
mod Told
