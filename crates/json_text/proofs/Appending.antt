-- What stands behind the bytes that were there.
use Rattle.std.proofs.Common.{◌≡◌, ℕ, List, [], ◌++◌, sym, ap, ◌∙◌, append_assoc, append-nil, Result, Ok, Err, OnErr}
use Rattle.std.proofs.lemmas.Result.{on_err_weaker}
use Rattle.json_text.specs.Appending.{Extends}

-- bytes that are as before, and those behind which some were appended
pub extends_same : (a b : List ℕ) → b ≡ a → Extends a b
extends_same a b is = record { more = []; is = is ∙ sym (append-nil a) }

pub extends_by : (a b x : List ℕ) → b ≡ a ++ x → Extends a b
extends_by a b x is = record { more = x; is = is }

pub extends_then : (a b c : List ℕ) → Extends a b → Extends b c → Extends a c
extends_then a b c one two = record {
  more = one.more ++ two.more;
  is = two.is ∙ ap (λ t. t ++ two.more) one.is
      ∙ append_assoc a one.more two.more;
}

-- what holds holds where a call failed
pub on_err : {A E P : Type 0} (r : Result A E) → P → OnErr r P
on_err (Ok a) p = tt
on_err (Err e) p = p

pub on_err_same : {A E : Type 0} (r : Result A E) (a b : List ℕ) → OnErr r (b ≡ a) → OnErr r (Extends a b)
on_err_same r a b = on_err_weaker r (extends_same a b)

pub on_err_then : {A E : Type 0} (r : Result A E) (a b c : List ℕ) → Extends a b → OnErr r (Extends b c)
    → OnErr r (Extends a c)
on_err_then r a b c one = on_err_weaker r (extends_then a b c one)
