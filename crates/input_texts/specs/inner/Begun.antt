-- A line whose end hasn't come yet. This project's own.
use Rattle.std.specs.Prelude.{◌≡◌, List, ℕ, false}
use Rattle.input_texts.specs.declared.line.Begun.{Begun}

-- These bytes of the line have come: they are held, where no memory was wanting for them.
abbrev pub IsBegun : Begun → List ℕ → Type 0
IsBegun begun bytes = begun.is_lost ≡ false → begun.bytes.items ≡ bytes
