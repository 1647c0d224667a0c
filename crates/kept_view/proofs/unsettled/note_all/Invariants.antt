use Rattle.std.proofs.Common.{take}
use Rattle.kept_view.specs.inner.Unsettled.{HaveNoted, StillHave}
use Rattle.kept_view.proofs.unsettled.note_all.Given as goal

abbrev pub invariant-loop-id : goal.invariant-loop-id
invariant-loop-id l = record {
  kept : StillHave l.initial.unsettled l.unsettled;
  noted : HaveNoted (take l.id-index l.ids.items) l.unsettled;
}
