-- The lemmas that crates above cite; nothing else of this folder is cited there.
pub use Rattle.links.proofs.Among.{distinct-among, filter-among, find-among}
pub use Rattle.links.proofs.ArrowLaws.{ArrowsAgree-settled, HaveOneText-settled, NameTargets-settled}
pub use Rattle.links.proofs.ArrowLaws.{TextsAgree-settled}
pub use Rattle.links.proofs.LookLaws.{container-named, end-named, found-own, found-settled, looks-alike, seen-alone}
pub use Rattle.links.proofs.Members.{Contains-map, bytes_eq-refl, find-Some, find-map, list_any-found, list_any-from, map-map}
pub use Rattle.links.proofs.Near.{near-all, near-seen}
pub use Rattle.links.proofs.RowLaws.{rows_of-named}
pub use Rattle.links.proofs.SettledLaws.{distinct-texts, links-again, unlinked-links}
pub use Rattle.links.proofs.Tabled.{list_any-filter, list_any-map, seen-more}
pub use Rattle.links.proofs.TextLaws.{is_id-from, settled_texts-again}
pub use Rattle.links.proofs.Unlinked.{filter-none_of}
pub use Rattle.links.proofs.UnplacedLaws.{links-unplaced}
