-- The lemmas that crates above cite; nothing else of this folder is cited there.
pub use Rattle.scene_json.proofs.Decimals.{digit_of_decimal, value_of_decimal}
pub use Rattle.scene_json.proofs.Depths.{deepest, depth-seen, level_after}
pub use Rattle.scene_json.proofs.Laid.{laid-Value}
pub use Rattle.scene_json.proofs.ItemsLeft.{behind-ends, behind-split, item-opens}
pub use Rattle.scene_json.proofs.MembersLeft.{behind_member}
pub use Rattle.scene_json.proofs.Pairs.{AreMembers-distinct, AreMembers-values, names-pairs, pairs-each}
pub use Rattle.scene_json.proofs.Lookups.{IsBelow, IsBelow-less, bytes_eq-less, bytes_eq-tied, distinct_moved}
pub use Rattle.scene_json.proofs.Lookups.{less_turned, rising_distinct, rising_from, rising_from_sort, rising_none}
pub use Rattle.scene_json.proofs.Lookups.{rising_parts, rising_same, same_moved, value_at-below, value_at-found}
pub use Rattle.scene_json.proofs.Rising.{tabled}
pub use Rattle.scene_json.proofs.Appended.{array-closed, mapped-compact, mapped-step}
pub use Rattle.scene_json.proofs.Quotes.{quote-once, quotes-compact, quotes-once}
