-- The members of the text are those of a binding: its target and the further ones.
use Rattle.std.proofs.Common.{◌≡◌, Some, None, sym, ap, ◌∙◌, subst}
use Rattle.std.proofs.lemmas.Bool.{false≢true}
use Rattle.elem.specs.Facts.{IsBinding}
use Rattle.elem.specs.Texts.{binding_text}
use Rattle.delta.specs.Headers.{value_named}
use Rattle.delta.specs.Rest.{with_value}
use Rattle.delta.proofs.Injective.{IsFound, binding-found, binding-rise, binding-string, binding-made}
use Rattle.delta.proofs.binding.binding_of.Goals as goal
use Rattle.delta.proofs.binding.binding_of.Goals.{In_ok-rest}

found : (c : In_ok-rest) → IsFound c.args.value.now c.in_ok-rest.rest.items
found c =
    binding-found c.args.value.now c.requires.0 c.requires.1 c.requires.2
    (λ e. false≢true (sym c.if-is_null.false ∙ c.is_null.ensures.1 e)) c.in_ok-rest.rest.items
    c.in_ok-rest.ensures.spelled c.in_ok-rest.ensures.are_members.valued

pub target_in-requires-clause-rise : goal.target_in-requires-clause-rise
target_in-requires-clause-rise c = binding-rise (found (goal.at.target_in-requires-clause-rise c).In_ok-rest)

pub target_in-requires-clause-string : goal.target_in-requires-clause-string
target_in-requires-clause-string c =
    let f = found (goal.at.target_in-requires-clause-string c).In_ok-rest in
    (f.binding.target, ap (λ name. value_named name c.in_ok-rest.rest.items) c.in_ok-name.ensures ∙ binding-string f)

pub put_value-requires : goal.put_value-requires
put_value-requires c = binding-rise (found (goal.at.put_value-requires c).In_ok-rest)

made : (c : goal.After-drop-name-inside-2) → (f : IsFound c.args.value.now c.in_ok-rest.rest.items)
    → f.binding ≡ record { target = c.in_ok-target.target; rest = c.in_ok-further.further }
made c f =
    binding-made f c.in_ok-target.target c.in_ok-further.further
    (ap (λ name. value_named name c.in_ok-rest.rest.items) (sym c.in_ok-name.ensures) ∙ c.in_ok-target.ensures)
    (c.in_ok-further.ensures ∙ c.from_vec.ensures ∙ c.in_ok-put_value.ensures
    ∙ ap (λ name. with_value name None c.in_ok-rest.rest.items) c.in_ok-name.ensures)

pub returns-clause-text : goal.returns-clause-text
returns-clause-text c =
    let f = found (goal.at.returns-clause-text c).In_ok-rest in
    sym (f.text ∙ ap (λ b. binding_text (Some b)) (made c f))

pub returns-clause-is_binding : goal.returns-clause-is_binding
returns-clause-is_binding c =
    let f = found (goal.at.returns-clause-is_binding c).In_ok-rest in
    subst IsBinding (made c f) f.is_binding
