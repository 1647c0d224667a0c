-- The step over the elements is what will be stored, and its entry stands for all of that.
use Rattle.std.proofs.Common.{◌≡◌, true, IsSome, sym, ap, ◌∙◌, subst}
use Rattle.frac_keys.specs.Rising.{are_rising}
use Rattle.elem_store.specs.Stock.{Stock}
use Rattle.elem_store.specs.Updates.{element_of, ids_of, is_among}
use Rattle.delta.specs.Pairs.{EntryStandsFor}
use Rattle.undo_model.specs.Carrying.{with_all_put, taken_all}
use Rattle.undo_model.proofs.CallerLemmas.{pending-stands, taken_all-elements}
use Rattle.snapshot.specs.Pending.{pairs_since}
use Rattle.snapshot.proofs.PutLaws.{all-rise}
use Rattle.snapshot.proofs.PlanLaws.{plan-step, stands-over}
use Rattle.snapshot.proofs.snapshot.Snapshot.plan_capture.Goals as goal

pub differing-requires-clause-untouched : goal.differing-requires-clause-untouched
differing-requires-clause-untouched c id f =
    ap (λ (s : Stock). element_of s.elements id) c.self.view_is
    ∙ c.requires.untouched id (ap (λ ids. is_among ids id) (sym c.touched.view_is) ∙ f)

pub parts_to-requires-clause-news : goal.parts_to-requires-clause-news
parts_to-requires-clause-news c =
    ap (λ es. are_rising (ids_of es)) c.in_ok-put_copies.ensures
    ∙ all-rise c.args.changed.now c.in_ok-step.step.items c.in_ok-step.ensures.ordered

pub invariant_of-result : goal.invariant_of-result
invariant_of-result c =
    ap (λ es. are_rising (ids_of es)) c.in_ok-put_copies.ensures
    ∙ all-rise c.args.changed.now c.in_ok-step.step.items c.in_ok-step.ensures.ordered

pub returns-clause-step : goal.returns-clause-step
returns-clause-step c =
    let is = ap (λ (s : Stock). s.elements) c.self.view_is in
    subst (λ es. with_all_put c.put_copies.new.elements.items es
    ≡ taken_all c.args.changed.now c.args.store.now.elements) is
    (plan-step c.self.inside.elements.items c.args.store.now.elements c.args.changed.now c.in_ok-step.step.items
    c.put_copies.new.elements.items
    c.self.invariant c.in_ok-step.ensures.stored c.requires.rise c.in_ok-step.ensures.ordered
    (λ id some. c.requires.known id (subst (λ es. IsSome (element_of es id)) is some)) c.requires.stored
    c.in_ok-step.ensures.over c.in_ok-put_copies.ensures)

pub returns-clause-pairs : goal.returns-clause-pairs
returns-clause-pairs c =
    let captured = c.args.self.now.elements in
    let is = ap (λ (s : Stock). s.elements) c.self.view_is in
    let step = c.put_copies.new.elements.items in
    let rise : are_rising (ids_of step) ≡ true = ap (λ es. are_rising (ids_of es)) c.in_ok-put_copies.ensures
    ∙ all-rise c.args.changed.now c.in_ok-step.step.items c.in_ok-step.ensures.ordered in
    subst (λ parts. EntryStandsFor parts
    (pairs_since captured (taken_all c.args.changed.now c.args.store.now.elements))) (sym c.from_vec.ensures)
    (subst (λ es. EntryStandsFor c.in_ok-parts.parts.items (pairs_since captured es)) (returns-clause-step c)
    (stands-over captured step rise (subst (λ es. are_rising (ids_of es) ≡ true) is c.self.invariant)
    c.in_ok-parts.parts.items
    (subst (λ es. EntryStandsFor c.in_ok-parts.parts.items (pairs_since es step)) is c.in_ok-parts.ensures)))

pub returns-clause-entry : goal.returns-clause-entry
returns-clause-entry c captured stored changed =
    pending-stands c.args.self.now.elements (taken_all c.args.changed.now c.args.store.now.elements) _ captured
    (taken_all-elements c.args.store.now.elements c.args.changed.now stored changed) (returns-clause-pairs c)
