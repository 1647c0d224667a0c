use Rattle.std.proofs.Common.{[], ◌∷◌, ◌++◌, sym, ap, ◌∙◌}
use Rattle.std.proofs.lemmas.Option.{none-some}
use Rattle.clash.proofs.FirstLaws.{clash-told, firsts_with-found}
use Rattle.clash.proofs.MarkLaws.{found-first, found-none}
use Rattle.clash.proofs.clash.Clash.note.Goals as goal

pub returns-in-Some-clause-clash : goal.returns-in-Some-clause-clash
returns-in-Some-clause-clash c =
    let s = c.self.inside in
    let first = found-first s.firsts.items s.places.entries c.in_ok-mark.mark c.args.e.now c.index-first.result.now
    c.in-Some.place c.self.invariant c.in_ok-mark.ensures c.in-Some.ensures c.index-first.ensures in
    rw (← c.self.view_is) (clash-told s.firsts.items c.args.e.now c.index-first.result.now c.same.result first
    c.same.ensures)

pub returns-in-Some-clause-noted : goal.returns-in-Some-clause-noted
returns-in-Some-clause-noted c =
    let s = c.self.inside in
    let first = found-first s.firsts.items s.places.entries c.in_ok-mark.mark c.args.e.now c.index-first.result.now
    c.in-Some.place c.self.invariant c.in_ok-mark.ensures c.in-Some.ensures c.index-first.ensures in
    rw (← c.self.view_is) (firsts_with-found s.firsts.items c.args.e.now c.index-first.result.now first)

pub returns-in_ok-add-in-None-clause-clash : goal.returns-in_ok-add-in-None-clause-clash
returns-in_ok-add-in-None-clause-clash c = λ first found.
    let s = c.self.inside in
    absurd
    (none-some first (sym (found-none s.firsts.items s.places.entries c.in_ok-mark.mark c.args.e.now
    c.self.invariant c.in_ok-mark.ensures c.in-None.ensures) ∙ rw (← c.self.view_is) at found))

pub returns-in_ok-add-in-None-clause-noted : goal.returns-in_ok-add-in-None-clause-noted
returns-in_ok-add-in-None-clause-noted c =
    let s = c.self.inside in
    let none = found-none s.firsts.items s.places.entries c.in_ok-mark.mark c.args.e.now
    c.self.invariant c.in_ok-mark.ensures c.in-None.ensures in
    rw (← c.self.view_is, none) (c.in_ok-add-in-None.ensures.firsts
    ∙ ap (λ e. s.firsts.items ++ e ∷ []) c.in_ok-try_clone-in-None.ensures)
