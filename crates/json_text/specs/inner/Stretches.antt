-- The bytes of a stretch, wherever they are held.
use Rattle.std.specs.Prelude.{ℕ, List}
use Rattle.json_text.specs.inner.Spans.{bytes_at, StandsQuoted}
use Rattle.json_text.specs.declared.stretch.Backing.{Backing}
use Rattle.json_text.specs.declared.stretch.Backing.TheVariants.{Shared, Quoted, Fixed}

abbrev pub bytes_of : Backing → List ℕ
bytes_of (Shared part) = bytes_at part
bytes_of (Quoted part) = bytes_at part
bytes_of (Fixed bytes) = bytes.now

abbrev pub IsHeld : Backing → Type 0
IsHeld (Quoted part) = StandsQuoted part.source part.start part.end
IsHeld held = Unit {0}
