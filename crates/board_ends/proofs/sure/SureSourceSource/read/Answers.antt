use Rattle.std.proofs.Common.{◌≤◌, ◌-◌, ℕ, length, ap, sym, arith}
use Rattle.std.proofs.lemmas.List.{length-take, length-drop}
use Rattle.board_ends.specs.Sure.{SureSourceState}
use Rattle.board_ends.proofs.Moved.{left-next}
use Rattle.board_ends.proofs.sure.SureSourceSource.read.Goals as goal

pub returns-clause-given : goal.returns-clause-given
returns-clause-given c =
    let is = ap (λ (source : SureSourceState). source.left) (sym c.self.view_is) in
    let count = rw c.as_slice.ensures at c.copy_front-n.ensures.count in
    let copied = rw c.as_slice.ensures at c.copy_front-n.ensures.copied in
    let within : c.copy_front-n.result ≤ length c.self.inside.bytes - c.self.inside.given =
    omega (arith, count, length-take {A = ℕ}, length-drop {A = ℕ}) in
    left-next _ _ _ _ _ is within copied
