use Rattle.std.proofs.Common.{◌≡◌, Some, ap, sym, ◌∙◌}
use Rattle.elem.specs.ElementValue.{ElementValue}
use Rattle.checks.proofs.Named.{named-none, named-some}
use Rattle.checks.proofs.files.add_name.Goals as goal

pub returns-in_ok-insert-in-Some : goal.returns-in_ok-insert-in-Some
returns-in_ok-insert-in-Some c = λ elements are.
    let some : c.args.e.now.file ≡ Some c.in_ok-try_clone-in-Some.field-0 =
    sym (ap (λ (d : ElementValue). d.file) c.e.view_is) ∙ (c.in-Some.is ∙ ap Some (sym c.in_ok-try_clone-in-Some.ensures)) in
    named-some c.args.named.now c.insert.new.self elements c.args.e.now c.in_ok-try_clone-in-Some.field-0 some
    c.in_ok-insert-in-Some.ensures.updates are

pub returns-in-None : goal.returns-in-None
returns-in-None c = λ elements are.
    named-none c.args.named.now elements c.args.e.now
    (sym (ap (λ (d : ElementValue). d.file) c.e.view_is) ∙ c.in-None.is) are
