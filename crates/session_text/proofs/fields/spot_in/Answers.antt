use Rattle.std.proofs.Common.{codes, subst}
use Rattle.std.proofs.lemmas.Bool.{both_ways}
use Rattle.std.proofs.lemmas.Option.{MatchOption-at_some}
use Rattle.json_text.specs.Characters.{quote}
use Rattle.json_text.specs.Members.{pairs}
use Rattle.scene_json.specs.Named.{value_at}
use Rattle.scene_json.specs.TheOne.{IsTheOne}
use Rattle.elem.specs.Forms.{IsText}
use Rattle.elem.proofs.CallerLemmas.{members-once}
use Rattle.session_text.proofs.FormsOne.{no-spot}
use Rattle.session_text.proofs.fields.spot_in.Goals as goal

pub returns : goal.returns
unfolding quote
returns c =
    let value = c.args.value.now in
    let found = pairs c.in-Some.found in
    let object = MatchOption-at_some _ _ c.in-Some.found c.in-Some.is c.in_ok-found.ensures in
    let none = subst (IsTheOne (IsText (value_at (codes "after") found))) c.in-None.is c.in_ok-id.ensures in
    no-spot value (λ e. both_ways _ c.if-is.false (c.is.ensures.1 e))
    (λ e. both_ways _ c.if-is-2.false (c.is-2.ensures.1 e))
    (λ id after. none id (subst (λ members. IsText (value_at (codes "after") members) id)
    (members-once value after.0 found after.1 object) after.2))
