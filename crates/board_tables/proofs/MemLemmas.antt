-- What calls make of tables over memory, as it is seen.
use Rattle.std.proofs.Common.{◌≡◌, Bool, [], ◌∷◌, Some, Result, Ok, Err, OnOk, refl, sym, ap, ap₂, ◌∙◌, subst, inl, inr}
use Rattle.std.proofs.lemmas.Bool.{both_ways}
use Rattle.std.proofs.lemmas.List.{take-append-le}
use Rattle.std.proofs.lemmas.Option.{same_Some}
use Rattle.board_tables.specs.declared.tables.TableError.{TableError}
use Rattle.board_tables.specs.declared.writes.Write.{Write}
use Rattle.board_tables.specs.Boards.{Boards, no_boards, all_written, written}
use Rattle.board_tables.specs.Tables.{Kept, MayBeLeft, IsWritten}
use Rattle.board_tables.specs.Memory.{MemTablesState, mem_kept, mem_end, MemLeaves, HasKept}
use Rattle.board_tables.proofs.BoardLemmas.{all_written-more}

abbrev kept_of : Boards → Boards → Bool → Kept
kept_of committed now is_shut = record { committed = committed; now = now; is_shut = is_shut }

module _ (old new : MemTablesState) where
  -- what is told of the new tables is what they keep
  told : (kept : Kept) → (mem_end new).kept ≡ Some kept → mem_kept new ≡ kept
  told kept is = same_Some (mem_kept new) kept is

  module _ (write : Write) (put : HasKept old new write) where
    kept-written : mem_kept new ≡ record (mem_kept old) { now = written (all_written no_boards old.writes) write }
    kept-written =
        ap mem_kept put.is
        ∙ ap₂ (λ committed now. kept_of committed now old.is_shut)
        (ap (all_written no_boards) (take-append-le old.committed old.writes (write ∷ []) put.within))
        (all_written-more no_boards old.writes write)

    pub IsWritten-kept : IsWritten (mem_end old) (mem_end new) write
    IsWritten-kept kept is = (mem_kept old, refl, (put.was_open, sym (told kept is) ∙ kept-written))

    pub left-written : (boards : Boards) → MemLeaves new boards → MemLeaves old boards
    left-written boards left =
        elim (subst (λ kept. MayBeLeft kept boards) kept-written left) [
          | inl same ↦ inl same
          | inr late ↦ absurd (both_ways old.is_shut put.was_open late.0)
        ]

pub IsWritten-done : (old new : MemTablesState) (write : Write) (done : Result (Unit {0}) TableError)
    → OnOk done (HasKept old new write) → OnOk done (IsWritten (mem_end old) (mem_end new) write)
IsWritten-done old new write (Ok _) put = IsWritten-kept old new write put
IsWritten-done old new write (Err _) put = tt
