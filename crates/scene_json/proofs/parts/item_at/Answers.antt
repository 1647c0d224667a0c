use Rattle.std.proofs.Common.{◌++◌, ap, sym, subst, ◌∙◌}
use Rattle.json_text.specs.Compact.{object_text}
use Rattle.json_text.specs.Parts.{AreMembers}
use Rattle.json_text.proofs.CallerLemmas.{drop-after}
use Rattle.scene_json.specs.inner.Passes.{EndsAt}
use Rattle.scene_json.proofs.FirstBytes.{inside, object-here, object-first}
use Rattle.scene_json.proofs.MembersLeft.{object-opened}
use Rattle.scene_json.proofs.parts.item_at.Goals as goal

pub bounds-bytes-at : goal.bounds-bytes-at
bounds-bytes-at c = rw c.as_bytes-bytes.ensures.value (inside c.args.array.now c.args.at c.requires.2)

pub members_from-requires : goal.members_from-requires
members_from-requires c =
    let object = object-here c.args.array.now c.args.at c.requires.2
    (rw (← c.as_bytes-bytes.ensures.value) c.if-bytes-at-eq123.true) in (
      object.0,
      c.requires.1,
      object-opened c.args.array.now c.args.at object.0 c.requires.1 object.1 (c.requires.2.parts
          ∙ ap (λ item. item ++ c.requires.1) object.2),
    )

pub returns-then-bytes-at-eq123-clause-item : goal.returns-then-bytes-at-eq123-clause-item
returns-then-bytes-at-eq123-clause-item c =
    λ item rest here.
    let object =
    object-here c.args.array.now c.args.at here (rw (← c.as_bytes-bytes.ensures.value) c.if-bytes-at-eq123.true) in
    let f = c.in_ok-members.ensures.found object.0 rest (object-opened c.args.array.now c.args.at object.0 rest object.1
    (here.parts ∙ ap (λ item. item ++ rest) object.2)) in (
      (subst (AreMembers 127) (sym f.0) object.1, object.2 ∙ ap object_text (sym f.0)),
      drop-after c.args.array.now c.in_ok-members.end f.1,
    )

pub returns-clause-item : goal.returns-clause-item
returns-clause-item c =
    λ item rest here.
    let ends : EndsAt c.args.array.now c.args.at c.next_end.result =
    rw (← c.as_bytes-bytes.ensures.value) c.next_end.ensures.end in (
      λ members e. c.if-bytes-at-eq123.false
          (rw c.as_bytes-bytes.ensures.value (object-first c.args.array.now c.args.at here members e)),
      (ends item rest here).0,
    )
