-- What the change makes of the element of its id, in the step or captured, is put into the step.
use Rattle.std.proofs.Common.{◌≡◌, true, option_copied, if◌then◌else◌, sym, ap, ap₂, ◌∙◌}
use Rattle.frac_keys.specs.Rising.{are_rising}
use Rattle.elem.specs.ElementValue.{ElementValue}
use Rattle.elem_store.specs.Updates.{element_of, ids_of, is_newer, is_taken}
use Rattle.delta.proofs.CallerLemmas.{OnOk-weaker}
use Rattle.undo_model.specs.Carrying.{with_put, with_all_put, carried_over}
use Rattle.snapshot.specs.inner.Carried.{carried_to}
use Rattle.snapshot.proofs.CapturedLaws.{found-id}
use Rattle.snapshot.proofs.PlanLaws.{carried-step, made-rises}
use Rattle.snapshot.proofs.carrying.carry_one.Goals as goal

pub carried-requires-clause-captured_id : goal.carried-requires-clause-captured_id
carried-requires-clause-captured_id c =
    let now = with_all_put c.args.step.now.items c.args.captured.now.items in
    found-id now c.args.e.now.id (option_copied c.find_over.result) (c.find_over.ensures
    ∙ ap (element_of now) (ap (λ (e : ElementValue). e.id) c.e.view_is))

pub carried-requires-clause-id : goal.carried-requires-clause-id
carried-requires-clause-id c =
    let now = with_all_put c.args.newer.now.items c.args.store.now.elements in
    found-id now c.args.e.now.id (option_copied c.stored_over-old.result) (c.stored_over-old.ensures.element
    ∙ ap (element_of now) (ap (λ (e : ElementValue). e.id) c.e.view_is))

pub returns-clause-step : goal.returns-clause-step
returns-clause-step c =
    let e = c.args.e.now in
    let stored = with_all_put c.args.newer.now.items c.args.store.now.elements in
    let step = c.args.step.now.items in
    let captured = c.args.captured.now.items in
    let now = with_all_put step captured in
    let id = ap (λ (e : ElementValue). e.id) c.e.view_is in
    let old : option_copied c.stored_over-old.result ≡ element_of stored e.id =
    c.stored_over-old.ensures.element ∙ ap (element_of stored) id in
    let own : option_copied c.find_over.result ≡ element_of now e.id = c.find_over.ensures ∙ ap (element_of now) id in
    let taken : is_taken stored e ≡ true =
    ap (is_newer e) (sym old) ∙ sym c.is_newer.ensures ∙ c.if-not-is_newer.false in
    OnOk-weaker c.put.result (c.put.new.elements.items ≡ with_put c.in_ok-copy.field-0 c.args.newer.now.items)
    (with_all_put c.put_made.new.elements.items captured
    ≡ (if is_taken stored e then carried_over (element_of stored e.id) e now else now))
    (λ put. carried-step captured step stored e c.in_ok-made.made c.put_made.new.elements.items c.requires.captured
    c.requires.step taken c.in_ok-put_made.ensures.ok
    (c.in_ok-made.ensures.to ∙ ap₂ (λ h o. carried_to h o e) own old))
    c.put.ensures.ok

pub returns-clause-ordered : goal.returns-clause-ordered
returns-clause-ordered c =
    OnOk-weaker c.put.result (c.put.new.elements.items ≡ with_put c.in_ok-copy.field-0 c.args.newer.now.items)
    (are_rising (ids_of c.put_made.new.elements.items) ≡ true)
    (λ put. ap (λ es. are_rising (ids_of es)) c.in_ok-put_made.ensures.ok
    ∙ made-rises c.in_ok-made.made c.args.step.now.items c.requires.step)
    c.put.ensures.ok
