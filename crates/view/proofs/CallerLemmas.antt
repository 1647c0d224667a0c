-- The lemmas that crates above cite; nothing else of this folder is cited there.
pub use Rattle.view.proofs.InOrder.{AllPairs-in_order, HaveDistinctIds-permuted, in_order-from_sort, in_order-only}
pub use Rattle.view.proofs.InOrder.{in_order-permuted, same_sorted}
pub use Rattle.view.proofs.Kept.{live-kept, map-some, or-some, shown-kept}
pub use Rattle.view.proofs.NamerLaws.{namer-among}
pub use Rattle.view.proofs.OrderLaws.{by_keys_and_ids, comes_before-cmp, comes_before-order, place_cmp, place_cmp-total}
pub use Rattle.view.proofs.SceneOrder.{IsPermutation-in_scene_order, scene_order}
pub use Rattle.view.proofs.SettledLaws.{distinct-settled, map-less, unsettled-settled}
pub use Rattle.view.proofs.ShownLaws.{HaveDistinctIds-rising, IsViewOf-from, deleted_one, ids_of-keyed, indices-keyed}
pub use Rattle.view.proofs.ShownLaws.{keys-placed, live_elements-live, live_elements-rise, live_one, others-keyed}
pub use Rattle.view.proofs.ShownLaws.{placed-distinct, shown-again, shown-is, shown-keys, shown-settled}
pub use Rattle.view.proofs.ContentLaws.{shown-redrawn, stamps-play_no_part}
pub use Rattle.view.proofs.StepLaws.{settled-keys, settled-looks, settled-seen}
