-- What a command gives are elements.
use Rattle.std.proofs.Common.{◌≡◌, ℕ, ◌+◌, ◌≤◌, ◌==◌, Bool, true, false, cond, ◌&&◌, List, [], ◌∷◌, Option, Some, None, is_some, Result, Ok, Err, IfSome, map, length, find, if◌then◌else◌, refl, sym, ap, subst, lit≤, arith}
use Rattle.std.specs.List.{cons_option, list_all}
use Rattle.std.specs.Str.{IsUtf8}
use Rattle.std.proofs.ByRecursion.{all_kept_by}
use Rattle.std.proofs.lemmas.Bool.{and_parts, eqb-false}
use Rattle.frac_keys.specs.Keys.{bytes_less, is_key}
use Rattle.elem.specs.ElementValue.{ElementValue}
use Rattle.elem.specs.Facts.{greatest_whole}
use Rattle.elem.specs.Said.{AreElements}
use Rattle.elem.specs.Stamp.{stamped}
use Rattle.elem_store.specs.Updates.{element_of, is_among}
use Rattle.copies.specs.Copies.{copies_of}
use Rattle.copies.proofs.CallerLemmas.{copies-elements}
use Rattle.index_repair.specs.Keyed.{HaveRisingKeys, keyed}
use Rattle.view.specs.Shown.{live_elements, with_element, shown}
use Rattle.elem.proofs.CallerLemmas.{IsKept, AreKept, kept-from, kept-to, with_deleted, with_index, with_stamp}
use Rattle.index_repair.proofs.CallerLemmas.{kept-keys}
use Rattle.view.proofs.CallerLemmas.{live-kept, shown-kept, shown-keys}
use Rattle.board_commands.specs.declared.command.Command.{Command}
use Rattle.board_commands.specs.declared.command.Command.TheVariants as commands
use Rattle.board_commands.specs.declared.command.Spot.{Spot}
use Rattle.effects.specs.declared.refusal.Refusal.{Refusal}
use Rattle.effects.specs.Copying.{as_new, copies_at, shown_among}
use Rattle.effects.specs.Changed.{is_changed, is_full, change_of, changes_of, created, with_created, with_new, outcome, outcome_from, outcome_unless}
use Rattle.effects.specs.Effects.{effect}
use Rattle.board_commands.specs.Limits.{IsWithinLimits}
use Rattle.effects.specs.Placing.{key_at, keys_at}
use Rattle.effects.specs.Refusals.{existing, missing, misfit, guarded, refusal_of}
use Rattle.effects.proofs.CallerLemmas.{guarded-none, Self, effect-keeps}
use Rattle.board_commands.specs.Written.{IsWrittenCommand}
use Rattle.effect_laws.proofs.EffectLaws.{effect-kept}
use Rattle.effect_laws.proofs.SpotLaws.{key_at-is, keys_at-are}

-- ---- elements that change
one-below : (version greatest : ℕ) → version ≤ greatest → (version ≡ greatest → ⊥) → version + 1 ≤ greatest
one-below version greatest within other = omega arith

none-found : (p : ElementValue → Bool) (e : ElementValue) (es : List ElementValue) → find p (e ∷ es) ≡ None
    → (p e ≡ false) × (find p es ≡ None)
none-found p e es none = by (p e) refl none
  where
    by : (b : Bool) → p e ≡ b → cond b (Some e) (find p es) ≡ None → (p e ≡ false) × (find p es ≡ None)
    by true is h = cc
    by false is h = (is, h)

added : (o : Option ElementValue) (es : List ElementValue) → IfSome o IsKept → AreKept es → AreKept (cons_option o es)
added None es is all = all
added (Some e) es is all = (is, all)

module _ (makes : ElementValue → ElementValue) (time nonce : ℕ) (each : (e : ElementValue) → IsKept e
    → IsKept (makes e)) (same : (e : ElementValue) → (makes e).version ≡ e.version) (early : time ≤ greatest_whole)
    (small : nonce ≤ greatest_whole) where
  change-kept : (e : ElementValue) → IsKept e → is_full makes e ≡ false → IfSome (change_of makes time nonce e) IsKept
  change-kept e kept other = by (is_changed makes e) other
    where
      by : (changed : Bool) → (changed && e.version == greatest_whole) ≡ false
          → IfSome (if changed then Some (stamped time nonce (makes e)) else None) IsKept
      by false h = tt
      by true h =
          with_stamp (makes e) (each e kept) ((makes e).version + 1) nonce time
          (subst (λ v. v + 1 ≤ greatest_whole) (sym (same e))
          (one-below e.version greatest_whole kept.element.version (eqb-false e.version greatest_whole h))) small
          early

  changes-kept : (stored : List ElementValue) → AreKept stored → find (is_full makes) stored ≡ None
      → AreKept (changes_of makes time nonce stored)
  changes-kept [] all none = tt
  changes-kept (e ∷ es) all none =
      let parts = none-found (is_full makes) e es none in
      added (change_of makes time nonce e) (changes_of makes time nonce es) (change-kept e all.0 parts.0)
      (changes-kept es all.1 parts.1)

-- ---- new elements
as_new-kept : (time nonce : ℕ) → time ≤ greatest_whole → nonce ≤ greatest_whole → (e : ElementValue) → IsKept e
    → IsKept (as_new time nonce e)
as_new-kept time nonce early small e kept =
    let new : ElementValue = record e { version = 1; nonce = nonce; updated = time } in
    with_deleted new (with_stamp e kept 1 nonce time (lit≤ tt) small early) false

all-new : (time nonce : ℕ) → time ≤ greatest_whole → nonce ≤ greatest_whole → (es : List ElementValue) → AreKept es
    → AreKept (map (as_new time nonce) es)
all-new time nonce early small [] all = tt
all-new time nonce early small (e ∷ es) all =
    (as_new-kept time nonce early small e all.0, all-new time nonce early small es all.1)

all-keyed : (es : List ElementValue) (keys : List (List ℕ)) → AreKept es → list_all is_key keys ≡ true
    → AreKept (keyed es keys)
all-keyed [] keys all are = tt
all-keyed (e ∷ es) [] all are = tt
all-keyed (e ∷ es) (key ∷ keys) all are =
    let parts = and_parts (is_key key) (list_all is_key keys) are in
    (with_index e all.0 (Some key) parts.0, all-keyed es keys all.1 parts.1)

copies-kept : (view list : List ElementValue) (prefix : List ℕ) (spot : Spot) (time nonce : ℕ) → AreKept view
    → HaveRisingKeys view → AreKept list → IsUtf8 prefix → time ≤ greatest_whole → nonce ≤ greatest_whole
    → AreKept (copies_at view list prefix spot time nonce)
copies-kept view list prefix spot time nonce seen rise all text early small =
    all-new time nonce early small (keyed (copies_of list prefix) (keys_at view spot (length (copies_of list prefix))))
    (all-keyed (copies_of list prefix) (keys_at view spot (length (copies_of list prefix)))
    (kept-from (copies_of list prefix) (copies-elements list prefix text (kept-to list all)))
    (keys_at-are view spot (length (copies_of list prefix)) seen rise))

created-kept : (view : List ElementValue) (command : Command) (time nonce : ℕ) → AreKept view → HaveRisingKeys view
    → IsWrittenCommand command → time ≤ greatest_whole → nonce ≤ greatest_whole
    → AreKept (created view command time nonce)
created-kept view (commands.Create element spot) time nonce all rise written early small = (
  with_index (as_new time nonce element)
      (as_new-kept time nonce early small element (record { element = written.0; written = written.1 }))
      (key_at view spot None None) (key_at-is view spot None None all rise tt),
  tt,
)
created-kept view (commands.Duplicate ids prefix spot) time nonce all rise written early small =
    copies-kept view (shown_among ids view) prefix spot time nonce all rise
    (all_kept_by (λ (e : ElementValue). is_among ids e.id) IsKept view all) written early small
created-kept view (commands.Paste elements prefix spot) time nonce all rise written early small =
    copies-kept view elements prefix spot time nonce all rise (kept-from elements written.0) written.1 early small
created-kept view _ time nonce all rise written early small = tt

inserted : (e : ElementValue) (es : List ElementValue) → IsKept e → AreKept es
    → AreKept (with_element (λ other new. bytes_less other.id new.id) e es)
inserted e [] is all = (is, tt)
inserted e (other ∷ others) is all =
    let more = with_element (λ (other new : ElementValue). bytes_less other.id new.id) e others in
    elim (bytes_less other.id e.id) as (λ (b : Bool). AreKept (if b then other ∷ more else e ∷ other ∷ others)) [
      | true ↦ (all.0, inserted e others is all.1)
      | false ↦ (is, all)
    ]

with_new-kept : (e : ElementValue) (es : List ElementValue) → IsKept e → AreKept es → AreKept (with_new e es)
with_new-kept e es is all =
    let more = with_element (λ (other new : ElementValue). bytes_less other.id new.id) e es in
    elim (is_some (element_of es e.id)) as (λ (b : Bool). AreKept (if b then es else more)) [
      | true ↦ all
      | false ↦ inserted e es is all
    ]

with_created-kept : (new es : List ElementValue) → AreKept new → AreKept es → AreKept (with_created new es)
with_created-kept [] es is all = all
with_created-kept (e ∷ new) es is all = with_created-kept new (with_new e es) is.1 (with_new-kept e es is.0 all)

-- ---- the outcome
abbrev or-these : List ElementValue → Result (List ElementValue) Refusal → List ElementValue
or-these these (Ok es) = es
or-these these (Err refusal) = these

same-given : (r : Result (List ElementValue) Refusal) (given : List ElementValue) → r ≡ Ok given
    → or-these given r ≡ given
same-given r given is = ap (or-these given) is

given-kept : (stored view given : List ElementValue) (command : Command) (time nonce : ℕ) → AreKept stored
    → AreKept view → HaveRisingKeys view → IsWithinLimits command → IsWrittenCommand command
    → time ≤ greatest_whole → nonce ≤ greatest_whole → outcome stored view command time nonce ≡ Ok given → AreKept given
given-kept stored view given command time nonce all seen rise limits written early small is =
    by-refusal (refusal_of stored view command) refl is
  where
    by-full : (o : Option ElementValue) → refusal_of stored view command ≡ None
        → find (is_full (effect stored view command)) stored ≡ o
        → outcome_from o (created view command time nonce) (changes_of (effect stored view command) time nonce stored)
        ≡ Ok given → AreKept given
    by-full (Some full) free found h = cc
    by-full None free found h =
        subst AreKept
        (same-given
        (Ok (with_created (created view command time nonce)
        (changes_of (effect stored view command) time nonce stored))) given h)
        (with_created-kept (created view command time nonce) (changes_of (effect stored view command) time nonce stored)
        (created-kept view command time nonce seen rise written early small)
        (changes-kept (effect stored view command) time nonce
        (λ e kept. effect-kept stored view command e seen rise limits written
        (guarded-none (existing stored command) (missing stored command) (misfit stored view command)
        (guarded command) free) kept)
        (λ e. ap (λ (s : Self). s.version) (effect-keeps stored view command e)) early small stored all found))

    by-refusal : (o : Option Refusal) → refusal_of stored view command ≡ o
        → outcome_unless o stored view command time nonce ≡ Ok given → AreKept given
    by-refusal (Some refusal) refused h = cc
    by-refusal None free h = by-full (find (is_full (effect stored view command)) stored) free refl h

-- on a board that shows elements with rising keys, a command gives elements
pub given-elements : (stored view given : List ElementValue) (command : Command) (time nonce : ℕ) → AreElements stored
    → AreElements view → HaveRisingKeys view → IsWithinLimits command → IsWrittenCommand command
    → time ≤ greatest_whole → nonce ≤ greatest_whole → outcome stored view command time nonce ≡ Ok given
    → AreElements given
given-elements stored view given command time nonce all seen rise limits written early small is =
    kept-to given (given-kept stored view given command time nonce (kept-from stored all) (kept-from view seen) rise
    limits written early small is)

-- what a board of elements shows is such
pub view-elements : (stored : List ElementValue) → AreElements stored → AreElements (shown (live_elements stored))
view-elements stored all =
    kept-to (shown (live_elements stored)) (shown-kept (live_elements stored) (live-kept stored (kept-from stored all)))

pub view-keys : (stored : List ElementValue) → AreElements stored → HaveRisingKeys (shown (live_elements stored))
view-keys stored all =
    shown-keys (live_elements stored) (kept-keys (live_elements stored) (live-kept stored (kept-from stored all)))

pub board-given : (stored given : List ElementValue) (command : Command) (time nonce : ℕ) → AreElements stored
    → IsWithinLimits command → IsWrittenCommand command
    → time ≤ greatest_whole → nonce ≤ greatest_whole → outcome stored (shown (live_elements stored)) command time nonce
    ≡ Ok given → AreElements given
board-given stored given command time nonce all limits written early small is =
    given-elements stored (shown (live_elements stored)) given command time nonce all (view-elements stored all)
    (view-keys stored all) limits written early small is
