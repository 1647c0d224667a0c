use Rattle.std.proofs.Common.{inl, inr, refl}
use Rattle.std.proofs.lemmas.Bool.{both_ways}
use Rattle.json_text.specs.Characters.{quote}
use Rattle.library.proofs.ItemForms.{no-status}
use Rattle.library.proofs.forms.status_named.Goals as goal
use Rattle.library.proofs.forms.status_named.Goals.{then-is_missing-via-then-is_missing, then-is_missing-via-else-is_missing+then-has_value-2}

pub returns-then-has_value : goal.returns-then-has_value
unfolding quote
returns-then-has_value c = c.if-has_value.ensures.0 refl

pub returns-then-is_missing : goal.returns-then-is_missing
unfolding quote
returns-then-is_missing c = elim c.then-is_missing.branch [
  | then-is_missing-via-then-is_missing w ↦ inl (w.if-is_missing.ensures.0 refl)
  | then-is_missing-via-else-is_missing+then-has_value-2 w ↦ inr (w.if-has_value-2.ensures.0 refl)
]

pub returns : goal.returns
unfolding quote
returns c =
    no-status _ (λ e. both_ways _ refl (c.if-has_value.ensures.1 e))
    (λ null. both_ways _ refl (c.if-is_missing.ensures.1 null))
    (λ e. both_ways _ refl (c.if-has_value-2.ensures.1 e))
