use Rattle.std.specs.Prelude.{ℕ, ◌+◌, ◌-◌, ◌^◌, ◌≤◌, min}

-- one more, and never above the end of a 64-bit number
abbrev pub one_more : ℕ → ℕ
one_more count = min (count + 1) (2 ^ 64 - 1)

-- A count of faults rose in a call where it is greater than at the call's start, or stands at the
-- end of a 64-bit number. This project's own.
abbrev pub Rose : ℕ → ℕ → Type 0
Rose before after = one_more before ≤ after
