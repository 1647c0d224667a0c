use Rattle.std.proofs.Common.{◌≡◌, All, take}
use Rattle.kept_view.specs.inner.Putting.{puts_of, IsInPlace}
use Rattle.kept_view.proofs.replacing.held_puts.Given as goal

abbrev pub invariant-loop-e : goal.invariant-loop-e
invariant-loop-e l = record {
  are : puts_of l.puts.items ≡ take l.e-index l.news.items;
  placed : All (IsInPlace l.live.items) l.puts.items;
}
