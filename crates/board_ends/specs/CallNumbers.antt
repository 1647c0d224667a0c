use Rattle.std.specs.Prelude.{ℕ, ◌+◌, ◌-◌, ◌^◌, ◌==◌, nat_lt, if◌then◌else◌, Bool, false, List, Option, Some, None}
use Rattle.std.specs.List.{list_any}

-- Calls that are numbered from 0: the number of the next one, and none beyond the end of a 64-bit
-- number; and the numbers that are listed. This project's own.
pub record CallNumbers : Type 0 where
  pub next : Option ℕ
  pub listed : List ℕ

-- whether a number is there, and among these
abbrev pub is_among : List ℕ → Option ℕ → Bool
is_among listed None = false
is_among listed (Some number) = list_any (λ n. n == number) listed

-- whether the next call is listed
abbrev pub is_listed : CallNumbers → Bool
is_listed calls = is_among calls.listed calls.next

-- the number after this one
abbrev pub number_after : Option ℕ → Option ℕ
number_after None = None
number_after (Some number) = if nat_lt number (2 ^ 64 - 1) then Some (number + 1) else None

-- the calls after the next one
abbrev pub after_call : CallNumbers → CallNumbers
after_call calls = record calls { next = number_after calls.next }

-- the calls before the first one
abbrev pub from_first : List ℕ → CallNumbers
from_first listed = record { next = Some 0; listed = listed }
