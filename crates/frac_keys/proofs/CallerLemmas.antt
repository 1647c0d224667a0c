-- The lemmas that crates above cite; nothing else of this folder is cited there.
pub use Rattle.frac_keys.proofs.OrderLaws.{alike, bytes-below, bytes-neither, bytes_eq-less, bytes_less-asym}
pub use Rattle.frac_keys.proofs.OrderLaws.{bytes_less-trans, bytes_less-turned, bytes_less_itself}
pub use Rattle.frac_keys.proofs.BetweenLaws.{key_between-law}
pub use Rattle.frac_keys.proofs.KeysLaws.{AreBetween, AreBetween-join, ends_rise-none, ends_rise-trans}
pub use Rattle.frac_keys.proofs.KeysLaws.{keys_between-law, lies_between-risen, rise_between-ends, rise_between-filter}
pub use Rattle.frac_keys.proofs.KeysLaws.{rise_between-join, rise_between-lower, sorted-rising}
pub use Rattle.frac_keys.proofs.PartLemmas.{bytes_less-lt}
