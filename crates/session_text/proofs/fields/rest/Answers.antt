use Rattle.std.proofs.Common.{◌≡◌, Some, codes, refl, sym, ap, subst, ◌∙◌}
use Rattle.std.specs.Option.{option_copied}
use Rattle.std.proofs.lemmas.Option.{MatchOption-at_none}
use Rattle.json_text.specs.Members.{pairs}
use Rattle.scene_json.specs.Named.{value_at}
use Rattle.elem_read.specs.Faults.{Lacks}
use Rattle.session_text.specs.Forms.{IsRest}
use Rattle.session_text.proofs.fields.rest.Goals as goal

pub returns-in-None : goal.returns-in-None
returns-in-None c =
    let none = MatchOption-at_none _ _ c.in-None.is c.in_ok-rest.ensures in
    let at : value_at (codes "binding") (pairs c.args.members.now) ≡ Some c.in-Some.value.now =
    sym c.value_named.ensures ∙ ap option_copied c.in-Some.is in
    record { read = (subst (λ found. Lacks (IsRest found)) (sym at) none, refl) }
