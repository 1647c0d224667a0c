mod GivenLaws
mod StoredLaws
mod BoardLaws
mod TouchingLaws
mod TurnLaws
mod ReplicaLaws
mod CallLaws
pub mod TakenAt
pub mod Leading
pub mod Agreeing
pub mod Changing
pub mod Ways
pub mod Moving
pub mod Delivering
pub mod CallerLemmas
