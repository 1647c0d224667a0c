pub mod DifferingLaws
pub mod LeavingLaws
pub mod StepLaws
pub mod TakenLaws
pub mod UndoneLaws
pub mod CallerLemmas
