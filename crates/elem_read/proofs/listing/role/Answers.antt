use Rattle.std.proofs.Common.{codes, refl}
use Rattle.std.proofs.lemmas.Bool.{both_ways}
use Rattle.json_text.specs.Characters.{quote}
use Rattle.json_text.specs.Members.{pairs}
use Rattle.json_text.proofs.CallerLemmas.{ascii-utf8}
use Rattle.scene_json.specs.Named.{value_at}
use Rattle.elem_read.proofs.Parts.{no-role}
use Rattle.elem_read.proofs.listing.role.Goals as goal

pub returns-then-has_value : goal.returns-then-has_value
unfolding quote
returns-then-has_value c = (ascii-utf8 (codes "arrow") refl, c.has_value.ensures.0 c.if-has_value.true)

pub returns-then-has_value-2 : goal.returns-then-has_value-2
unfolding quote
returns-then-has_value-2 c =
    (ascii-utf8 (codes "text") refl, c.has_value-else-has_value.ensures.0 c.if-has_value-2.true)

pub returns-else-has_value-2 : goal.returns-else-has_value-2
unfolding quote
returns-else-has_value-2 c =
    no-role (value_at (codes "type") (pairs c.args.members.now))
    (λ is. both_ways _ c.if-has_value.false (c.has_value.ensures.1 is))
    (λ is. both_ways _ c.if-has_value-2.false (c.has_value-else-has_value.ensures.1 is))
