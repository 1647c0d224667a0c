-- The lemmas that crates above cite; nothing else of this folder is cited there.
pub use Rattle.elem_store.proofs.Lists.{Contains-cases, Contains-cons, Contains-filter, Contains-head, filter-Contains}
pub use Rattle.elem_store.proofs.Lists.{find-None, find-Some, is_some-find, list_any-false}
pub use Rattle.elem_store.proofs.Ids.{is_at-among, is_at-bytes, of_itself, of_other, of_same, same_id}
pub use Rattle.elem_store.proofs.Leader.{joined_leader, leader, stored-append, stored-leader}
pub use Rattle.elem_store.proofs.BestUpdates.{IsBestOf-stored, stored-None}
pub use Rattle.elem_store.proofs.Rising.{above, earlier_less, less-less, less-other, member, none_above, same_elements}
pub use Rattle.elem_store.proofs.StoreLaws.{AreBest-stored, AreStored-best, AreStored-from_best, AreStored-ids}
pub use Rattle.elem_store.proofs.StoreLaws.{AreStored-itself, AreStored-push, AreStored-stored, elements-stored}
pub use Rattle.elem_store.proofs.StoreLaws.{ids-stay, store-unique, stores-converge, takings-stored}
pub use Rattle.elem_store.proofs.Edits.{HasTaken-insert, HasTaken-not, element-at, element-gap, ids-set, is_taken-gap}
pub use Rattle.elem_store.proofs.Placed.{element-found, found, get-last, some_within, within_stored}
pub use Rattle.elem_store.proofs.Stored.{stored-exist}
