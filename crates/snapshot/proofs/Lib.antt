pub mod PutLaws
pub mod CapturedLaws
pub mod PendingLaws
pub mod PlanLaws
pub mod StoredLaws
pub mod TouchedLaws
pub mod CallerLemmas
