-- What the writer has written of the bytes so far, along the machine.
use Rattle.std.proofs.Common.{◌≡◌, ℕ, ◌+◌, ◌<◌, ◌≤◌, length, drop, get_or, List, [], ◌∷◌, ◌++◌, refl, sym, ap, subst, ◌∙◌, arith, append_assoc, append-nil}
use Rattle.json_text.specs.Compact.{compact}
use Rattle.json_text.specs.Tree.{spelling}
use Rattle.json_text.specs.Value.{Stands}
use Rattle.json_reader.specs.inner.Drafts.{fresh, grown}
use Rattle.json_reader.specs.inner.Machine.{Machine, GoesOn, state}
use Rattle.json_reader.specs.inner.Runs.{RunsOn}
use Rattle.json_reader.specs.inner.Writing.{Writer, between, Ready, HasWritten, stretch, writing_at, Fits, CanPut, IsPut, HasRead, Ends, Came}
use Rattle.json_reader.specs.declared.reader.Taken.TheVariants as taken
use Rattle.json_reader.proofs.Steps.{run, start, run-append}
use Rattle.json_reader.proofs.ValueRuns.{runs_begins}
use Rattle.json_reader.proofs.Outcomes.{parted, one_more, stretch_more, whole_value, read_on, ends_stands}
use Rattle.json_reader.proofs.Ready.{blank-ready, tree-ready}
use Rattle.json_reader.proofs.Copying.{alone}

-- of no bytes
pub written_starts : HasWritten [] (between fresh [])
written_starts blank more tree is good e =
    subst (Ready (compact tree) (between fresh [])) e (blank-ready (compact tree) blank (spelling tree) fresh [] is
    (subst (Ready (compact tree) (between fresh [])) (append-nil (spelling tree))
    (tree-ready (compact tree) tree [] fresh [] good refl)))

-- along the machine
module _ (bytes : List ℕ) (at next : ℕ) (machine : Machine) (writer : Writer)
    (read : HasRead bytes at next machine writer) where
  -- where it ends a value stands, and is written
  pub value-written : Ends machine.mode machine.brackets (drop next bytes)
      → (text : List ℕ) × Stands (drop at bytes) text (drop next bytes)
      × (writing_at bytes next writer ≡ between (grown fresh text) [])
  value-written ends =
      let found = ends_stands (stretch bytes at next) machine.mode machine.brackets read.runs (drop next bytes) ends in
      let s : Stands (drop at bytes) found.0 (drop next bytes) =
      subst (λ xs. Stands xs found.0 (drop next bytes)) (sym (parted bytes at next read.low)) found.1 in (
        found.0,
        s,
        read.written s.blank [] s.reads.tree s.space s.reads.good (ap (λ x. s.blank ++ x) s.reads.spells
            ∙ sym (whole_value bytes at next read.low found.0 s) ∙ sym (append-nil _))
            ∙ ap (λ t. between (grown fresh t) []) s.reads.means,
      )

  pub has-ended : ((more : List ℕ) → Ends machine.mode machine.brackets (drop next bytes ++ more)) → (value : List ℕ)
      → Stands (drop at bytes) value (drop next bytes) → Came bytes at (taken.Ended value next)
  has-ended ends value stands = (
    read.low,
    read.high,
    record {
      mode = machine.mode;
      brackets = machine.brackets;
      ran =
          read.runs;
      ends = ends;
    },
    stands,
  )

  -- what is read on
  module _ (end : ℕ) (after : Machine) (new : Writer) (up : next ≤ end) (high : end ≤ length bytes) where
    onward : run 128 start (stretch bytes at end) ≡ state after.mode after.brackets → Fits end new
        → ((text more : List ℕ) → Ready text (writing_at bytes next writer) (stretch bytes next end ++ more)
        → Ready text (writing_at bytes end new) more) → HasRead bytes at end after new
    onward ran fits ready = record {
      low = omega (arith, read.low);
      high = high;
      runs = ran;
      fits = fits;
      written = λ blank more tree is good e. ready (compact tree) more
          (read.written blank (stretch bytes next end ++ more) tree is good
          (e ∙ ap (λ xs. xs ++ more) (stretch_more bytes at next read.low end up)
          ∙ append_assoc (stretch bytes at next) (stretch bytes next end) more));
    }

  -- a stretch over which the machine runs
  pub has_run : (end : ℕ) (after : Machine) (new : Writer) → next ≤ end → end ≤ length bytes
      → RunsOn machine (stretch bytes next end) after
      → ((text more : List ℕ) → Ready text (writing_at bytes next writer) (stretch bytes next end ++ more)
      → Ready text (writing_at bytes end new) more) → Fits end new
      → HasRead bytes at end after new
  has_run end after new up high ran ready fits =
      onward end after new up high (rw (stretch_more bytes at next read.low end up, run-append, read.runs) ran) fits
      ready

  -- a byte that the machine takes can be written, and is read then
  module _ (after : Machine) (high : next < length bytes) (goes : GoesOn machine (get_or bytes next 0) after) where
    ran : run 128 start (stretch bytes at (next + 1)) ≡ state after.mode after.brackets
    ran = read_on bytes at next read.low machine.mode machine.brackets read.runs (state after.mode after.brackets) high
        goes

    pub can_put : CanPut bytes next writer
    can_put =
        let b = get_or bytes next 0 in
        let begins = runs_begins 128 (stretch bytes at next ++ b ∷ [])
        (record {
          mode = after.mode;
          brackets = after.brackets;
          reached =
              rw (one_more bytes at next read.low high) at ran;
        }) in
        let v = begins.reads in
        (read.written begins.blank (b ∷ begins.more) v.tree begins.space v.good (ap (λ x. begins.blank ++ x) v.spells
        ∙ sym begins.parts ∙ append_assoc _ (b ∷ []) begins.more)).0

    pub has_put : (new : Writer) → IsPut bytes next writer new → HasRead bytes at (next + 1) after new
    has_put new put = onward (next + 1) after new (omega arith) (omega arith) ran put.fits
        (λ text more ready. (subst (λ xs. Ready text (writing_at bytes next writer) (xs ++ more))
        (alone bytes next high) ready).1 (writing_at bytes (next + 1) new) put.done)
