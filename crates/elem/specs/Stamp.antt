-- What a change sets.
use Rattle.std.specs.Prelude.{ℕ, ◌+◌}
use Rattle.elem.specs.ElementValue.{ElementValue}

-- the element with the stamp of a change: the next version, the nonce and the time
abbrev pub stamped : ℕ → ℕ → ElementValue → ElementValue
stamped time nonce e = record e { version = e.version + 1; nonce = nonce; updated = time }
