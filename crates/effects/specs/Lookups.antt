-- What a command may rely on of what it looks up. This project's own.
use Rattle.std.specs.Prelude.{◌≡◌, true, IsPermutation}
use Rattle.frac_keys.specs.Rising.{are_rising}
use Rattle.elem_store.specs.Updates.{ids_of}
use Rattle.index_repair.specs.Keyed.{HaveRisingKeys}
use Rattle.view.specs.Kept.{AreOthersAsStored, AreOthersKeyedAsStored, HaveRowsOf}
use Rattle.view.specs.Settled.{AreSettled}
use Rattle.view.specs.Shown.{live_elements}
use Rattle.effects.specs.declared.lookup.Lookup.{Lookup}

-- The ids of what is stored rise. What is shown has the ids of the live elements, has rising keys,
-- and is settled. The table is of who of the live elements names whom, each element but the
-- unsettled ones is shown as it is stored, and each but the rekeyed ones with the key that is
-- stored.
pub record IsLookup (lookup : Lookup) : Type 0 where
  pub ordered : are_rising (ids_of lookup.store.now.elements) ≡ true
  pub ids : IsPermutation (ids_of (live_elements lookup.store.now.elements))
      (ids_of lookup.shown.now)
  pub keys : HaveRisingKeys lookup.shown.now
  pub settled : AreSettled lookup.shown.now
  pub table : HaveRowsOf (live_elements lookup.store.now.elements) lookup.names.now.rows
  pub others : AreOthersAsStored lookup.unsettled.now (live_elements lookup.store.now.elements)
      lookup.shown.now
  pub keyed : AreOthersKeyedAsStored lookup.rekeyed.now (live_elements lookup.store.now.elements)
      lookup.shown.now
