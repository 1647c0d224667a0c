use Rattle.std.proofs.Common.{◌≡◌, ◌++◌, List, [], refl, sym, ap, ◌∙◌}
use Rattle.json_text.specs.Parts.{AreMembers}
use Rattle.json_text.specs.Compact.{Member as Pair, object_text}
use Rattle.json_text.specs.Members.{pairs}
use Rattle.json_text.proofs.CallerLemmas.{Value-Form, starts-same, object-starts, form-membered}
use Rattle.scene_json.proofs.MembersLeft.{whole-opened, all-ended}
use Rattle.scene_json.proofs.parts.members.Goals as goal
use Rattle.scene_json.proofs.parts.members.Goals.{After-found-1}

pub returns-then-not-begins_with-clause-shape : goal.returns-then-not-begins_with-clause-shape
returns-then-not-begins_with-clause-shape c =
    λ _ others e. c.if-not-begins_with.ensures.no refl (object-starts others).0 (c.as_bytes.ensures.value ∙ e
    ∙ (object-starts others).1)

whole : (c : After-found-1) → (all : List Pair) × AreMembers 127 all × (c.args.value.now ≡ object_text all)
whole c = form-membered 128 c.args.value.now (Value-Form c.as_bytes.ensures.compact)
    (starts-same 123 c.as_bytes.ensures.value (c.if-not-begins_with.ensures.yes refl))

pub push_members-requires : goal.push_members-requires
push_members-requires c = let w = whole c in (w.0, [], whole-opened c.args.value.now w.0 w.1 w.2)

found : (c : goal.After-from_vec) (all : List Pair) → AreMembers 127 all → c.args.value.now ≡ object_text all
    → pairs c.from_vec.result ≡ all
found c all are e =
    let f = c.in_ok-push_members.ensures.found all [] (whole-opened c.args.value.now all are e) in
    ap pairs c.from_vec.ensures ∙ f.1 ∙ ap (λ ms. pairs ms ++ f.0) c.new-found.ensures.items ∙ (all-ended f.2).0

pub returns-clause-spelled : goal.returns-clause-spelled
returns-clause-spelled c =
    let w = whole (goal.at.returns-clause-spelled c).After-found-1 in w.2 ∙ ap object_text (sym (found c w.0 w.1 w.2))

pub returns-clause-kept : goal.returns-clause-kept
returns-clause-kept c = let w = whole (goal.at.returns-clause-kept c).After-found-1 in rw (found c w.0 w.1 w.2) w.1

pub returns-clause-only : goal.returns-clause-only
returns-clause-only c = found c
