-- The lemmas that crates above cite; nothing else of this folder is cited there.
pub use Rattle.elem.proofs.Distinct.{AllByRecursion-append, IsDistinct-element, each-list_any, list_any-each}
pub use Rattle.elem.proofs.FormsOnce.{kind_of_name-once, members-once, names-rise, names-rising, null-no-text}
pub use Rattle.elem.proofs.FormsOnce.{others-once, pairs-once, rising-names, text-once, text_or_null-once, texts-once}
pub use Rattle.elem.proofs.FormsOnce.{whole-once}
pub use Rattle.elem.proofs.Once.{array-once, object-once}
pub use Rattle.elem.proofs.KeyTexts.{IsUtf8-key}
pub use Rattle.elem.proofs.Kept.{AreKept, HasText, IsEnd, IsIndex, IsKept, element_with_deleted, element_with_stamp}
pub use Rattle.elem.proofs.Kept.{kept-from, kept-to, texts_with_deleted, texts_with_stamp, with_bound, with_container}
pub use Rattle.elem.proofs.Kept.{with_deleted, with_end', with_frame, with_groups, with_index, with_parts, with_stamp}
pub use Rattle.elem.proofs.Kept.{with_start}
pub use Rattle.elem.proofs.OrderLaws.{beats-asym, beats-below, beats-neither}
pub use Rattle.elem.proofs.Saying.{AreMembers-deeper, Says-once, element-are, element-found, element-says, named-is}
pub use Rattle.elem.proofs.Saying.{text-of-one}
pub use Rattle.elem.proofs.Sorting.{AllByRecursion-map, AllByRecursion-sorted, AllByRecursion-weaker}
pub use Rattle.elem.proofs.Sorting.{IsPermutation-sorted, IsRising, IsRising-from, IsRising-sorted, are_rising-from}
pub use Rattle.elem.proofs.Sorting.{same_rising}
pub use Rattle.elem.proofs.TellingLaws.{names-each}
