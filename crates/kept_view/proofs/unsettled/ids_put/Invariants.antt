use Rattle.std.proofs.Common.{◌≡◌, take}
use Rattle.kept_view.specs.inner.Unsettled.{put_ids}
use Rattle.kept_view.proofs.unsettled.ids_put.Given as goal

abbrev pub invariant-loop-put : goal.invariant-loop-put
invariant-loop-put l = l.ids.items ≡ put_ids (take l.put-index l.puts.items)
