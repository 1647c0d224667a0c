pub mod EntryPairs
pub mod PlanLaws
pub mod Reverting
pub mod StackPairs
pub mod StepLaws
pub mod UndoneLaws
pub mod CallerLemmas
