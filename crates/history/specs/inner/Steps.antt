-- One step: an entry is taken back from the stored elements. This project's own, after Excalidraw's
-- history.
-- Only this crate's own bodies and proofs need it.
use Rattle.std.specs.Prelude.{◌≡◌, ◌≢◌, ℕ, Option, Some, None}
use Rattle.elem.specs.ElementValue.{ElementValue}
use Rattle.elem.specs.Facts.{greatest_whole}
use Rattle.elem.specs.Order.{unstamped}
use Rattle.elem.specs.Stamp.{stamped}
use Rattle.delta.specs.Delta.{Delta}
use Rattle.history.specs.Steps.{Reverts, Differ}

-- The inverse of the part makes of the stored element that one but for the stamp.
pub record StaysSame (part : Delta) (now : ElementValue) : Type 0 where
  pub reverted : ElementValue
  pub reverts : Reverts part now reverted
  pub same : unstamped now ≡ unstamped reverted

-- This is the new version of the stored element: what the inverse of the part makes of it differs,
-- and no version is full.
pub record IsNewVersion (part : Delta) (now : ElementValue) (time nonce : ℕ)
    (e : ElementValue) : Type 0 where
  pub reverted : ElementValue
  pub reverts : Reverts part now reverted
  pub differs : Differ now reverted
  pub room : now.version ≢ greatest_whole
  pub is : e ≡ stamped time nonce reverted

-- What comes of one part: nothing where the stored element stays, and else its new version.
abbrev pub ComesOf : Delta → ElementValue → ℕ → ℕ → Option ElementValue → Type 0
ComesOf part now time nonce None = StaysSame part now
ComesOf part now time nonce (Some e) = IsNewVersion part now time nonce e
