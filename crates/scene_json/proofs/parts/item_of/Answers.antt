use Rattle.std.proofs.Common.{◌≡◌, List, [], refl, sym, ap, subst, ◌∙◌}
use Rattle.json_text.specs.Parts.{AreMembers}
use Rattle.json_text.specs.Compact.{Member as Pair, object_text}
use Rattle.json_text.proofs.CallerLemmas.{Value-Form, starts-same, object-starts, form-membered}
use Rattle.scene_json.proofs.MembersLeft.{whole-opened}
use Rattle.scene_json.proofs.parts.item_of.Goals as goal
use Rattle.scene_json.proofs.parts.item_of.Goals.{Else-not-begins_with}

pub returns-then-not-begins_with : goal.returns-then-not-begins_with
returns-then-not-begins_with c =
    λ members e. c.if-not-begins_with.ensures.no refl (object-starts members).0 (c.as_bytes.ensures.value ∙ e
    ∙ (object-starts members).1)

whole : (c : Else-not-begins_with) → (all : List Pair) × AreMembers 127 all × (c.args.value.now ≡ object_text all)
whole c = form-membered 128 c.args.value.now (Value-Form c.as_bytes.ensures.compact)
    (starts-same 123 c.as_bytes.ensures.value (c.if-not-begins_with.ensures.yes refl))

pub members_from-requires : goal.members_from-requires
members_from-requires c = let w = whole c in (w.0, [], whole-opened c.args.value.now w.0 w.1 w.2)

pub returns : goal.returns
returns c =
    let w = whole (goal.at.returns c).Else-not-begins_with in
    let f = c.in_ok-members.ensures.found w.0 [] (whole-opened c.args.value.now w.0 w.1 w.2) in
    (subst (AreMembers 127) (sym f.0) w.1, w.2 ∙ ap object_text (sym f.0))
