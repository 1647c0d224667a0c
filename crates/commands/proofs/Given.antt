-- How much an input gave.
use Rattle.std.proofs.Common.{◌≡◌, ℕ, ◌≤◌, List, [], ◌++◌, length, Option, Some, None, IsSome, IfSome, sym, ap, arith, ◌∙◌, length-append, append-nil}
use Rattle.std.specs.Option.{option_map}
use Rattle.board_ends.specs.Ends.{SourceEnd}
use Rattle.commands.specs.Ends.{Span, span, GaveWithin, GaveTooMuch, WasRead, HasLeft}
use Rattle.commands.specs.inner.Ends.{IsInputFault, IsNeverRefused}
use Rattle.commands.specs.declared.status.Fault.{Fault}
use Rattle.commands.specs.declared.status.Fault.TheVariants as fault
use Rattle.commands.specs.declared.status.InputRefusal.{InputRefusal}

-- Where the content is told, what was given has one length.
one-length : (before after : Option (List ℕ)) (x y : List ℕ) → IsSome before
    → before ≡ option_map (λ rest. x ++ rest) after → before ≡ option_map (λ rest. y ++ rest) after
    → length x ≡ length y
one-length None after x y told first second = cc
one-length (Some all) None x y told first second = cc
one-length (Some all) (Some rest) x y told first second =
    let e : x ++ rest ≡ y ++ rest = cc in
    omega (arith, ap length e, length-append x rest, length-append y rest)

-- Where the content is told, no more than the limit isn't more than the limit.
pub within-excludes : (most : Option ℕ) (before after : SourceEnd) → IsSome before.left
    → GaveTooMuch most (span before after) → GaveWithin most (span before after) → ⊥
within-excludes None before after told none within = none
within-excludes (Some most) before after told (x, long, first) (y, short, second) =
    omega (arith, one-length before.left after.left x y told first second)

-- Where the content is told, what was read within the limit isn't more than the limit.
pub read-excludes : (most : Option ℕ) (bytes : List ℕ) (before after : SourceEnd) → IsSome before.left
    → GaveTooMuch most (span before after) → WasRead most (span before after) bytes → ⊥
read-excludes None bytes before after told none read = none
read-excludes (Some most) bytes before after told (x, long, first) read =
    let short : length bytes ≤ most = read.within in
    omega (arith, short, one-length before.left after.left x bytes told first read.given)

given-less : (bytes given : List ℕ) (before after : Option (List ℕ)) → before ≡ Some bytes
    → before ≡ option_map (λ rest. given ++ rest) after → length given ≤ length bytes
given-less bytes given before None told gave = let no : Some bytes ≡ None = sym told ∙ gave in cc
given-less bytes given before (Some rest) told gave =
    let some : Some bytes ≡ Some (given ++ rest) = sym told ∙ gave in
    let all : bytes ≡ given ++ rest = cc in
    omega (arith, ap length all, length-append given rest)

-- What is left within the limit isn't more than the limit.
pub left-excludes : (most : Option ℕ) (bytes : List ℕ) (before after : SourceEnd) → HasLeft most before bytes
    → GaveTooMuch most (span before after) → ⊥
left-excludes None bytes before after has none = none
left-excludes (Some most) bytes before after has (given, more, gave) =
    let short : length bytes ≤ most = has.within in
    omega (arith, short, given-less bytes given before.left after.left has.told gave)

all-given : (bytes given : List ℕ) (before after : Option (List ℕ)) → before ≡ Some bytes
    → before ≡ option_map (λ rest. given ++ rest) after
    → IfSome after (λ rest. rest ≡ []) → given ≡ bytes
all-given bytes given before None told gave ended = let no : Some bytes ≡ None = sym told ∙ gave in cc
all-given bytes given before (Some rest) told gave ended =
    let some : Some bytes ≡ Some (given ++ rest) = sym told ∙ gave in
    let all : bytes ≡ given ++ rest = cc in
    sym (all ∙ (ap (λ r. given ++ r) ended ∙ append-nil given))

-- What was read to the end is what was left.
pub read-whole : (most : Option ℕ) (bytes given : List ℕ) (before after : SourceEnd) → HasLeft most before bytes
    → WasRead most (span before after) given → given ≡ bytes
read-whole most bytes given before after has read =
    all-given bytes given before.left after.left has.told read.given read.at_end

-- A fault of reading alone is one, whatever is refused.
pub unread : (most : Option ℕ) (IsRefused : List ℕ → InputRefusal → Type 0) (input : Span SourceEnd) (f : Fault)
    → IsInputFault most IsNeverRefused input f → IsInputFault most IsRefused input f
unread most IsRefused input fault.Memory is = is
unread most IsRefused input fault.Usage is = is
unread most IsRefused input fault.Read is = is
unread most IsRefused input fault.TooLong is = is
unread most IsRefused input (fault.Refused found) (bytes, read, none) = absurd none
unread most IsRefused input fault.Write is = is
