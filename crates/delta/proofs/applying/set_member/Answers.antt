-- The member is put among the further ones, whose names rise and are no header names.
use Rattle.std.proofs.Common.{◌≡◌, ap, ◌∙◌, subst, None}
use Rattle.elem.specs.ElementValue.{ElementValue}
use Rattle.delta.specs.Headers.{header_named}
use Rattle.delta.specs.inner.Kept.{IsScalarSet}
use Rattle.delta.specs.Rest.{with_value}
use Rattle.delta.proofs.ChangeLaws.{IsScalarSet-member, IsElement-rest}
use Rattle.delta.proofs.HeaderLaws.{not-header}
use Rattle.delta.proofs.RestLaws.{risen}
use Rattle.delta.proofs.applying.set_member.Goals as goal

put : (c : goal.After-drop-e-inside) → c.in_ok-e-inside.field-0
    ≡ with_value c.args.name.now c.args.value c.e.inside.rest
put c =
    c.in_ok-e-inside.ensures ∙ c.from_vec.ensures ∙ c.in_ok-put_value.ensures
    ∙ ap (with_value c.args.name.now c.args.value)
    (c.into_vec-rest.ensures ∙ c.in_ok-into_list.ensures ∙ c.replace.ensures.value)

other : (c : goal.After-drop-e-inside) → header_named c.e.inside.kind c.args.name.now ≡ None
other c = ap (λ e. header_named e.kind c.args.name.now) c.e.view_is ∙ c.requires.other

pub invariant_of-e-2 : goal.invariant_of-e-2
invariant_of-e-2 c =
    IsElement-rest _ c.args.name.now c.args.value c.in_ok-e-inside.field-0 c.e.invariant
    (not-header c.e.inside.kind c.args.name.now c.requires.free (other c)) c.requires.value (put c)

abbrev before : goal.After-drop-e-inside → ElementValue
before c = record {
  id = c.e.inside.id;
  kind = c.e.inside.kind;
  version = c.e.inside.version;
  nonce = c.e.inside.nonce;
  updated = c.e.inside.updated;
  deleted = c.e.inside.deleted;
  index = c.e.inside.index;
  groups = c.e.inside.groups;
  frame = c.e.inside.frame;
  bound = c.e.inside.bound;
  container = c.e.inside.container;
  start_binding = c.e.inside.start_binding;
  end_binding = c.e.inside.end_binding;
  file = c.e.inside.file;
  rest = c.e.inside.rest;
}

pub returns-clause-set : goal.returns-clause-set
returns-clause-set c =
    let new : ElementValue = record (before c) { rest = c.in_ok-e-inside.field-0 } in
    subst (λ e. IsScalarSet e new c.args.name.now c.args.value) c.e.view_is
    (IsScalarSet-member (before c) c.args.name.now c.args.value c.in_ok-e-inside.field-0 (other c)
    (risen c.e.inside.rest c.e.invariant.rise) (put c))

pub returns-clause-element : goal.returns-clause-element
returns-clause-element c =
    IsElement-rest (before c) c.args.name.now c.args.value c.in_ok-e-inside.field-0 c.e.invariant
    (not-header c.e.inside.kind c.args.name.now c.requires.free (other c)) c.requires.value (put c)
