-- How bytes of memory are added up. This project's own.
use Rattle.std.specs.Prelude.{◌+◌, ◌-◌, ◌^◌, ℕ, min}

-- a sum that stays at the greatest number of its type
abbrev pub capped : ℕ → ℕ → ℕ
capped a b = min (a + b) (2 ^ 64 - 1)

-- how many bytes are held: what came, twice the half of the reader, and what is to leave
abbrev pub held_with : ℕ → ℕ → ℕ → ℕ
held_with input half outbox = capped (capped (capped input half) half) outbox
