-- The inverse of a part makes one element alone, but for the stamp.
use Rattle.std.proofs.Common.{◌≡◌, ◌⊎◌, false, ap, ◌∙◌, inl, inr}
use Rattle.elem.specs.ElementValue.{ElementValue}
use Rattle.delta.specs.Parts.{inverse}
use Rattle.delta.proofs.CallerLemmas.{applied-apart}
use Rattle.history.proofs.step.is_part_seen.Goals as goal

pub returns-clause-unseen : goal.returns-clause-unseen
returns-clause-unseen c hidden seen =
    let now = c.args.now.now in
    let e = c.in_ok-e.e in
    let own = c.in_ok-e.ensures in
    applied-apart (inverse c.args.part.now) now e seen.0 own.is_element seen.1.is_element own.applied seen.1.applied
    (λ same. c.is_shown_change.ensures.hidden hidden (λ stays. seen.2 (stays ∙ same))
    (live e seen.0 (ap (λ (x : ElementValue). x.deleted) same) seen.3))
  where
    live : (e other : ElementValue) → e.deleted ≡ other.deleted → (c.args.now.now.deleted ≡ false)
        ⊎ (other.deleted ≡ false) → (c.args.now.now.deleted ≡ false) ⊎ (e.deleted ≡ false)
    live e other same (inl before) = inl before
    live e other same (inr after) = inr (same ∙ after)
