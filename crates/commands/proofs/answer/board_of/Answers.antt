use Rattle.std.proofs.Common.{[], sym, subst, append-nil}
use Rattle.elem_store.specs.Updates.{AreStored}
use Rattle.scene_file.specs.Heads.{IsJoinedHead}
use Rattle.commands.proofs.Joining.{nothing-joined}
use Rattle.commands.proofs.answer.board_of.Goals as goal

pub returns : goal.returns
returns c = record {
  joined = c.in_ok-join.ensures.joined [] (subst (IsJoinedHead []) (sym c.new-head.ensures) nothing-joined);
  stores = subst (λ es. AreStored es c.in_ok-store.store.elements) (sym (append-nil c.args.scene.elements))
      c.in_ok-store.ensures;
}
