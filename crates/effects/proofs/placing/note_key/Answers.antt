-- A new id gets its key, and another one keeps its own.
use Rattle.std.proofs.Common.{Some, is_some, nat_cmp, sym, ap, ◌∙◌, subst}
use Rattle.std.specs.BTreeMap.{get, Updates}
use Rattle.std.specs.Cmp.Lexicographic.{slice_cmp}
use Rattle.elem.specs.ElementValue.{ElementValue}
use Rattle.effects.proofs.PlacingLaws.{HasKeys-known, HasKeys-new, copied}
use Rattle.effects.proofs.placing.note_key.Goals as goal

pub returns-then-is_some : goal.returns-then-is_some
returns-then-is_some c = λ elements has. HasKeys-known c.args.keys.now elements c.args.e.now has
    (ap (λ (d : ElementValue). is_some (get (slice_cmp nat_cmp) c.args.keys.now d.id)) (sym c.e.view_is)
    ∙ ap is_some (sym c.get.ensures.value) ∙ copied c.get.result ∙ sym c.is_some.ensures ∙ c.if-is_some.true)

pub returns : goal.returns
returns c = λ elements has. HasKeys-new c.args.keys.now c.insert.new.self elements c.args.e.now has
    (ap (λ (d : ElementValue). is_some (get (slice_cmp nat_cmp) c.args.keys.now d.id)) (sym c.e.view_is)
    ∙ ap is_some (sym c.get.ensures.value) ∙ copied c.get.result ∙ sym c.is_some.ensures ∙ c.if-is_some.false)
    (subst (λ key. Updates (slice_cmp nat_cmp) c.args.keys.now c.insert.new.self c.args.e.now.id (Some key))
    (c.in_ok-key.ensures ∙ ap (λ (d : ElementValue). d.index) c.e.view_is)
    (subst (λ id. Updates (slice_cmp nat_cmp) c.args.keys.now c.insert.new.self id (Some c.in_ok-key.key))
    (c.in_ok-try_clone.ensures ∙ ap (λ (d : ElementValue). d.id) c.e.view_is) c.in_ok-insert.ensures.updates))
