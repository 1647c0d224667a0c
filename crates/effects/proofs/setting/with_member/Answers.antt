-- The member is none of the header, and its value nests less deep than an element may.
use Rattle.std.proofs.Common.{◌≡◌, Some, sym, ap, ◌∙◌, arith}
use Rattle.elem.specs.ElementValue.{ElementValue}
use Rattle.delta.specs.Rest.{with_value}
use Rattle.delta.proofs.CallerLemmas.{IsElement-rest}
use Rattle.effects.proofs.SettingLaws.{nests-more, free-header}
use Rattle.effects.proofs.setting.with_member.Goals as goal

put : (c : goal.After-drop-changed-inside) → c.in_ok-rest.rest
    ≡ with_value c.args.name.now (Some c.in_ok-value.value) c.changed.inside.rest
put c =
    c.in_ok-rest.ensures ∙ c.from_vec.ensures ∙ c.in_ok-put_value.ensures
    ∙ ap (with_value c.args.name.now (Some c.in_ok-value.value))
    (c.into_vec-members.ensures ∙ c.in_ok-to_list.ensures
    ∙ ap (λ (d : ElementValue). d.rest) (c.e.view_is ∙ sym (c.changed.view_is ∙ c.in_ok-changed.ensures)))

pub invariant_of-changed : goal.invariant_of-changed
invariant_of-changed c =
    IsElement-rest _ c.args.name.now (Some c.in_ok-value.value) c.in_ok-rest.rest c.changed.invariant
    (free-header c.changed.inside.kind c.args.name.now c.requires.free)
    (nests-more 100 119 c.in_ok-value.value (omega arith) c.in_ok-value.ensures.nests) (put c)
