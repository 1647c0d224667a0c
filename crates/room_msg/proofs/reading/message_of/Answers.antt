use Rattle.std.proofs.Common.{Err, inl, inr, refl, ap, subst}
use Rattle.std.proofs.lemmas.Bool.{both_ways}
use Rattle.std.proofs.lemmas.Option.{MatchOption-at_some}
use Rattle.std.proofs.lemmas.Result.{err_from_is_err_and}
use Rattle.json_text.specs.Characters.{quote}
use Rattle.json_text.specs.Members.{pairs}
use Rattle.scene_json.specs.TheOne.{IsTheOne}
use Rattle.elem_read.proofs.CallerLemmas.{stop-same}
use Rattle.room_msg.specs.Messages.{init_tag, update_tag, HasTag, IsPresence}
use Rattle.room_msg.proofs.Told.{has-tag, has-elements, presence, payload-fault}
use Rattle.room_msg.proofs.reading.message_of.Goals as goal
use Rattle.room_msg.proofs.reading.message_of.Goals.{In-Some-2}

pub returns-in_err-elements_of-clause-fault : goal.returns-in_err-elements_of-clause-fault
unfolding quote
returns-in_err-elements_of-clause-fault c =
    let tag = has-tag (pairs c.in-Some.found) init_tag refl (c.has_value.ensures.0 c.if-has_value.true) in
    let p =
    err_from_is_err_and c.from_residual-in_err-elements_of.result c.from_residual-in_err-elements_of.ensures.1 in
    rw (p.1, p.2) (λ fault e. payload-fault c.args.value (pairs c.in-Some.found) fault
    (MatchOption-at_some _ _ c.in-Some.found c.in-Some.is c.in_ok-found.ensures) (inl tag)
    (c.in_err-elements_of.ensures.fault fault (ap Err (stop-same _ _ _ e))))

pub returns-then-has_value-clause-message : goal.returns-then-has_value-clause-message
unfolding quote
returns-then-has_value-clause-message c =
    has-elements c.args.value init_tag (pairs c.in-Some.found) c.in_ok-elements_of.field-0
    (MatchOption-at_some _ _ c.in-Some.found c.in-Some.is c.in_ok-found.ensures)
    (has-tag (pairs c.in-Some.found) init_tag refl (c.has_value.ensures.0 c.if-has_value.true))
    c.in_ok-elements_of.ensures.read

pub returns-in_err-elements_of-2-clause-fault : goal.returns-in_err-elements_of-2-clause-fault
unfolding quote
returns-in_err-elements_of-2-clause-fault c =
    let tag = has-tag (pairs c.in-Some.found) update_tag refl (c.has_value-2.ensures.0 c.if-has_value-2.true) in
    let p = err_from_is_err_and c.from_residual-in_err-elements_of-2.result
    c.from_residual-in_err-elements_of-2.ensures.1 in
    rw (p.1, p.2) (λ fault e. payload-fault c.args.value (pairs c.in-Some.found) fault
    (MatchOption-at_some _ _ c.in-Some.found c.in-Some.is c.in_ok-found.ensures) (inr tag)
    (c.in_err-elements_of-2.ensures.fault fault (ap Err (stop-same _ _ _ e))))

pub returns-then-has_value-2-clause-message : goal.returns-then-has_value-2-clause-message
unfolding quote
returns-then-has_value-2-clause-message c =
    has-elements c.args.value update_tag (pairs c.in-Some.found) c.in_ok-elements_of-2.field-0
    (MatchOption-at_some _ _ c.in-Some.found c.in-Some.is c.in_ok-found.ensures)
    (has-tag (pairs c.in-Some.found) update_tag refl (c.has_value-2.ensures.0 c.if-has_value-2.true))
    c.in_ok-elements_of-2.ensures.read

present : (c : In-Some-2) → IsPresence c.args.value
unfolding quote
present c =
    let has = subst (IsTheOne (HasTag (pairs c.in-Some.found))) c.in-Some-2.is c.in_ok-_tag.ensures in
    presence c.args.value (pairs c.in-Some.found) c.in-Some-2._tag
    (MatchOption-at_some _ _ c.in-Some.found c.in-Some.is c.in_ok-found.ensures) has.0
    (λ found. both_ways _ c.if-has_value.false (c.has_value.ensures.1 found))
    (λ found. both_ways _ c.if-has_value-2.false (c.has_value-2.ensures.1 found))

pub returns-in-Some-2-clause-message : goal.returns-in-Some-2-clause-message
returns-in-Some-2-clause-message c =
    (refl, present (goal.at.returns-in-Some-2-clause-message c).In-Some-2)

pub returns-in-Some-2-clause-whole : goal.returns-in-Some-2-clause-whole
returns-in-Some-2-clause-whole c = present (goal.at.returns-in-Some-2-clause-whole c).In-Some-2
