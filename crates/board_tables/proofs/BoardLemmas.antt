-- What writes make of boards.
use Rattle.std.proofs.Common.{◌≡◌, ℕ, ◌+◌, ◌<◌, Bool, true, false, not, Result, Ok, Err, OnOk, List, [], ◌∷◌, ◌++◌, length, get_or, take, Option, bytes_eq, refl, sym, ap, ◌∙◌}
use Rattle.std.specs.declared.alloc.AllocError.{AllocError}
use Rattle.std.proofs.lemmas.Bool.{cond-true, cond-false}
use Rattle.std.proofs.lemmas.List.{take_more}
use Rattle.elem.specs.ElementValue.{ElementValue}
use Rattle.board_tables.specs.declared.board.Board.{Board}
use Rattle.board_tables.specs.declared.writes.Write.{Write}
use Rattle.board_tables.specs.Boards.{Boards, IsBoard, changed_head, changed_element, written, all_written}

-- the board that the write names
pub IsBoard-written : (boards : Boards) (write : Write) (name : List ℕ) (found : Option Board)
    → bytes_eq write.board name ≡ true
    → IsBoard (changed_head write.change (boards.head name))
    (λ id. changed_element write.change id (boards.element name id)) found
    → IsBoard ((written boards write).head name) ((written boards write).element name) found
IsBoard-written boards write name found t is = record {
  is_head = is.is_head ∙ sym (cond-true (bytes_eq write.board name) _ _ t);
  ordered = is.ordered;
  each = λ id. is.each id ∙ sym (cond-true (bytes_eq write.board name) _ _ t);
}

-- and every other one
pub IsBoard-other : (boards : Boards) (write : Write) (name : List ℕ) (found : Option Board)
    → bytes_eq write.board name ≡ false → IsBoard (boards.head name) (boards.element name) found
    → IsBoard ((written boards write).head name) ((written boards write).element name) found
IsBoard-other boards write name found f is = record {
  is_head = is.is_head ∙ sym (cond-false (bytes_eq write.board name) _ _ f);
  ordered = is.ordered;
  each = λ id. is.each id ∙ sym (cond-false (bytes_eq write.board name) _ _ f);
}

-- one more write
pub all_written-more : (boards : Boards) (writes : List Write) (write : Write)
    → all_written boards (writes ++ write ∷ []) ≡ written (all_written boards writes) write
all_written-more boards [] write = refl
all_written-more boards (first ∷ writes) write = all_written-more (written boards first) writes write

-- the writes up to behind a place
pub all_written-next : (boards : Boards) (writes : List Write) (i : ℕ) (d : Write) → i < length writes
    → all_written boards (take (i + 1) writes) ≡ written (all_written boards (take i writes)) (get_or writes i d)
all_written-next boards writes i d within =
    ap (all_written boards) (take_more writes i d within)
    ∙ all_written-more boards (take i writes) (get_or writes i d)

-- a test that isn't false is true
pub from_not : (b : Bool) → not b ≡ false → b ≡ true
from_not true h = refl
from_not false h = cc

-- the board that the write names, after its change, if that came to its end
pub IsBoard-changed : (done : Result (Unit {0}) AllocError) (write : Write) (name : List ℕ) (old new : Option Board)
    → bytes_eq write.board name ≡ true
    → OnOk done ((head : Option (List ℕ)) (element : List ℕ → Option ElementValue) → IsBoard head element old
    → IsBoard (changed_head write.change head) (λ id. changed_element write.change id (element id)) new)
    → OnOk done ((boards : Boards) → IsBoard (boards.head name) (boards.element name) old
    → IsBoard ((written boards write).head name) ((written boards write).element name) new)
IsBoard-changed (Ok _) write name old new t changed =
    λ boards is. IsBoard-written boards write name new t (changed (boards.head name) (boards.element name) is)
IsBoard-changed (Err _) write name old new t changed = tt
