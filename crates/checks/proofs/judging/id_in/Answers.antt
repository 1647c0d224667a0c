use Rattle.std.proofs.Common.{ℕ, List, Option, Some, None, codes, subst}
use Rattle.std.proofs.lemmas.Option.{MatchOption-at_some}
use Rattle.std.proofs.lemmas.Result.{IfOk-weaker}
use Rattle.json_text.specs.Compact.{Member as Pair}
use Rattle.json_text.specs.Members.{pairs}
use Rattle.scene_json.specs.Named.{value_at}
use Rattle.scene_json.specs.TheOne.{IsTheOne}
use Rattle.elem.specs.Forms.{IsObject, IsText}
use Rattle.checks.specs.Reading.{IsIdIn}
use Rattle.checks.proofs.JudgedLaws.{objects-once}
use Rattle.checks.proofs.judging.id_in.Goals as goal

id-found : (value : List ℕ) (members : List Pair) (found : Option (List ℕ)) → IsObject value members
    → IsTheOne (IsText (value_at (codes "id") members)) found → IsIdIn value found
id-found value members None object none = λ others id also is.
    none id (subst (λ ms. IsText (value_at (codes "id") ms) id) (objects-once value others members also object) is)
id-found value members (Some id) object one = (members, object, one.0)

pub returns-in-Some : goal.returns-in-Some
returns-in-Some c =
    let object = MatchOption-at_some _ _ c.in-Some.members c.in-Some.is c.in_ok-members.ensures in
    IfOk-weaker c.text_named.result _ _ (λ found one. id-found c.args.value.now (pairs c.in-Some.members) found object one)
    c.text_named.ensures
