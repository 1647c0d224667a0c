use Rattle.std.proofs.Common.{◌≡◌, ◌++◌, All, filter, map}
use Rattle.elem.specs.ElementValue.{ElementValue}
use Rattle.view.specs.Shown.{without_index}
use Rattle.kept_view.specs.inner.Putting.{puts_of, IsInPlace}
use Rattle.elem_store.specs.Updates.{is_among}
use Rattle.kept_view.proofs.replacing.puts_near.Given as goal

-- the elements so far that are near are put, and the others are left
abbrev pub invariant-loop-e : goal.invariant-loop-e
invariant-loop-e l = record {
  placed : All (IsInPlace l.shown.items) l.puts.items;
  drawn : map without_index (puts_of l.puts.items)
      ≡ map without_index (filter (λ (e : ElementValue). is_among l.near.list.items e.id) l.yielded);
  parts : l.fn.elements ≡ l.yielded ++ l.e-iterator.rest.items;
}
