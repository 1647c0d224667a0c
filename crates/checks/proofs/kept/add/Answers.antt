use Rattle.std.proofs.Common.{◌≡◌, true, nat_cmp, is_some, ap, sym, subst, ◌∙◌}
use Rattle.std.specs.BTreeMap.{get}
use Rattle.std.specs.Cmp.Lexicographic.{slice_cmp}
use Rattle.json_text.proofs.CallerLemmas.{none-is}
use Rattle.elem.specs.ElementValue.{ElementValue}
use Rattle.checks.proofs.KeptLaws.{kept-beaten, kept-known, kept-new}
use Rattle.checks.proofs.kept.add.Goals as goal

pub returns-then-not-is_unbeaten : goal.returns-then-not-is_unbeaten
returns-then-not-is_unbeaten c = λ updates last are.
    kept-beaten c.args.store.now.elements updates c.args.e.now c.args.kept.now
    (sym c.is_unbeaten.ensures ∙ c.if-not-is_unbeaten.true) are

pub returns-then-contains_key : goal.returns-then-contains_key
returns-then-contains_key c = λ updates last are.
    kept-known c.args.store.now.elements updates c.args.e.now c.args.kept.now
    (subst (λ id. is_some (get (slice_cmp nat_cmp) c.args.kept.now id) ≡ true)
    (ap (λ (d : ElementValue). d.id) c.e.view_is) (sym c.contains_key.ensures ∙ c.if-contains_key.true)) are

pub returns : goal.returns
returns c = λ updates last are.
    let own = ap (λ (d : ElementValue). d.id) c.e.view_is in
    kept-new c.args.store.now.elements updates c.args.e.now c.args.kept.now c.insert.new.self
    c.in_ok-try_clone.field-0 c.args.n (c.in_ok-try_clone.ensures ∙ own) last
    (ap (get (slice_cmp nat_cmp) c.args.kept.now) (sym own)
    ∙ none-is _ (sym c.contains_key.ensures ∙ c.if-contains_key.false))
    (sym c.is_unbeaten.ensures ∙ c.if-not-is_unbeaten.false) c.in_ok-insert.ensures.updates are
