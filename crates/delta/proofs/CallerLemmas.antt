-- The lemmas that crates above cite; nothing else of this folder is cited there.
pub use Rattle.delta.proofs.ChangeLaws.{IsElement-rest, OnOk-weaker, names-inverted}
pub use Rattle.delta.proofs.JoinLaws.{are_same-exact, are_same-same, is_in-first}
pub use Rattle.delta.proofs.PairLaws.{entry-exchanged, entry-more, entry-none, entry-same, entry-unstamped}
pub use Rattle.delta.proofs.PairLaws.{scalars-same-but-stamp}
pub use Rattle.delta.proofs.PartLaws.{applied-apart, applied-back, applied-undone, bound-turned, change-inverted}
pub use Rattle.delta.proofs.PartLaws.{groups-turned, inverse-twice, same-unstamped, scalar-turned, turned, undone-from}
pub use Rattle.delta.proofs.PartLaws.{undone_list-now, undone_scalar-now}
pub use Rattle.delta.proofs.Placing.{each-put, item-member, item-put, none-earlier, rising-put, same_members}
pub use Rattle.delta.proofs.RestLaws.{each-with_value, named-with_value, risen, rises, rising-with_value}
pub use Rattle.delta.proofs.RisingIds.{earlier_less, later_greater, rising-front, rising-push}
pub use Rattle.delta.proofs.ToldLaws.{not-named}
