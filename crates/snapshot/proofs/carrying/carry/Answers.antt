-- What the change makes of the captured element is put.
use Rattle.std.proofs.Common.{◌≡◌, option_copied, sym, ap, ◌∙◌, subst}
use Rattle.elem.specs.ElementValue.{ElementValue}
use Rattle.elem_store.specs.Updates.{element_of}
use Rattle.delta.proofs.CallerLemmas.{OnOk-weaker}
use Rattle.undo_model.specs.Carrying.{carried_over}
use Rattle.snapshot.specs.Carried.{IsCarried, HasCarried}
use Rattle.snapshot.specs.inner.Carried.{carried_to, with_made}
use Rattle.snapshot.proofs.CapturedLaws.{found-id, HasCarried-made}
use Rattle.snapshot.proofs.PlanLaws.{carried_over-to}
use Rattle.snapshot.proofs.carrying.carry.Goals as goal

pub carried-requires-clause-captured_id : goal.carried-requires-clause-captured_id
carried-requires-clause-captured_id c =
    found-id c.args.elements.now.items c.args.new.now.id (option_copied c.find.result)
    (c.find.ensures ∙ ap (element_of c.args.elements.now.items) (ap (λ (e : ElementValue). e.id) c.new.view_is))

pub returns-clause-ok : goal.returns-clause-ok
returns-clause-ok c =
    let before = c.args.elements.now.items in
    let old = option_copied c.args.old in
    let new = c.args.new.now in
    let made = c.in_ok-made.made in
    let captured : option_copied c.find.result ≡ element_of before new.id =
    c.find.ensures ∙ ap (element_of before) (ap (λ (e : ElementValue). e.id) c.new.view_is) in
    OnOk-weaker c.put_made.result (c.put_made.new.elements.items ≡ with_made made before)
    (HasCarried before old new c.put_made.new.elements.items)
    (λ put. subst (HasCarried before old new) (sym put) (HasCarried-made before old new made c.requires.rise
    (subst (λ h. IsCarried h old new made) captured c.in_ok-made.ensures.is) (c.in_ok-made.ensures.to
    ∙ ap (λ h. carried_to h old new) captured)))
    c.put_made.ensures.ok

pub returns-clause-over : goal.returns-clause-over
returns-clause-over c =
    let before = c.args.elements.now.items in
    let old = option_copied c.args.old in
    let new = c.args.new.now in
    let made = c.in_ok-made.made in
    let captured : option_copied c.find.result ≡ element_of before new.id =
    c.find.ensures ∙ ap (element_of before) (ap (λ (e : ElementValue). e.id) c.new.view_is) in
    OnOk-weaker c.put_made.result (c.put_made.new.elements.items ≡ with_made made before) (c.put_made.new.elements.items
    ≡ carried_over old new before)
    (λ put. put ∙ ap (λ m. with_made m before) (c.in_ok-made.ensures.to ∙ ap (λ h. carried_to h old new) captured)
    ∙ sym (carried_over-to old new before))
    c.put_made.ensures.ok
