-- A stack of entries as a way over what was stored, and one step on it.
use Rattle.std.proofs.Common.{◌≡◌, ◌≤◌, ℕ, true, List, [], ◌∷◌, Option, Some, None, Result, Ok, Err, map, refl, sym, ap, ◌∙◌, subst}
use Rattle.std.specs.Option.{option_map}
use Rattle.std.proofs.lemmas.Bool.{cond-true}
use Rattle.std.proofs.lemmas.Option.{none-some, same_Some}
use Rattle.frac_keys.specs.Rising.{are_rising}
use Rattle.elem.specs.ElementValue.{ElementValue}
use Rattle.elem.specs.Facts.{greatest_whole}
use Rattle.elem.specs.Said.{AreElements}
use Rattle.elem_store.specs.Updates.{element_of, ids_of}
use Rattle.delta.specs.Pairs.{Pair, exchanged}
use Rattle.undo_model.specs.Carrying.{taken_all}
use Rattle.undo_model.specs.Entries.{IsEntry}
use Rattle.undo_model.specs.Steps.{is_seen, given, full_id, made, Sought, sought, Turn, turn_of, turn_unless, step}
use Rattle.undo_model.proofs.CallerLemmas.{step-turn, step-stops, full-is, given-elements, made-entry, taken_all-elements, taken_all-rising}
use Rattle.replica.specs.Back.{AgreesWith, IsFound}
use Rattle.replica.proofs.Agreeing.{agrees-same}
use Rattle.replica.proofs.Leading.{SameAs, Meets, met-same, Leads, leads-once, leads-from, IsVisible, seen-met, leads-on, leads-back, visible-back}

-- Undoing the entries of a stack, the topmost one first, leads from these elements to what agrees with each of the
-- lists.
abbrev pub IsWay : List (List ElementValue) → List ElementValue → List (List Pair) → Type 0
IsWay [] elements stack = Unit {0}
IsWay (target ∷ targets) elements [] = ⊥
IsWay (target ∷ targets) elements (entry ∷ stack) =
    IsEntry entry × IsVisible entry × Meets entry elements
    × ((next : List ElementValue) → Leads entry elements next → AgreesWith target next × IsWay targets next stack)

pub way-same : (targets : List (List ElementValue)) (a b : List ElementValue) (stack : List (List Pair)) → SameAs a b
    → IsWay targets a stack → IsWay targets b stack
way-same [] a b stack same way = tt
way-same (target ∷ targets) a b [] same way = way
way-same (target ∷ targets) a b (entry ∷ stack) same way = (
  way.0,
  way.1,
  λ pair c. met-same pair a b same (way.2 pair c),
  λ next leads. way.3 next (leads-from entry a b next same leads),
)

-- After a step: it agrees with the next list, the way goes on, and the other stack is the way back.
pub record IsStepped (target here : List ElementValue) (targets others : List (List ElementValue))
    (stored : List ElementValue) (turn : Turn) : Type 0 where
  pub elements : AreElements (taken_all turn.given stored)
  pub rise : are_rising (ids_of (taken_all turn.given stored)) ≡ true
  pub agrees : AgreesWith target (taken_all turn.given stored)
  pub on : IsWay targets (taken_all turn.given stored) turn.from
  pub back : IsWay (here ∷ others) (taken_all turn.given stored) turn.to

module _ (target here : List ElementValue) (targets others : List (List ElementValue)) (stored : List ElementValue)
    (time nonce : ℕ)
    (are : AreElements stored) (rise : are_rising (ids_of stored) ≡ true) (in_time : time ≤ greatest_whole)
    (in_nonce : nonce ≤ greatest_whole)
    (agrees : AgreesWith here stored) where
  module _ (entry : List Pair) (below to : List (List Pair)) (way : IsWay (target ∷ targets) stored (entry ∷ below))
      (other : IsWay others stored to)
      (free : full_id stored entry ≡ None) where
    abbrev top : Sought
    top = record { entry = entry; below = below; to = to }

    stepped : IsStepped target here targets others stored (turn_of stored time nonce top)
    stepped =
        let news : List ElementValue = taken_all (given stored time nonce entry) stored in
        let next = way.3 news (leads-on stored entry are way.0 way.2 time nonce rise) in
        let back = leads-back stored entry are way.0 way.2 time nonce rise in
        record {
          elements = taken_all-elements stored (given stored time nonce entry) are
              (given-elements stored time nonce entry are way.0 in_time in_nonce free);
          rise = taken_all-rising stored (given stored time nonce entry) rise;
          agrees = next.0;
          on = next.1;
          back = (
            made-entry stored time nonce entry are way.0 in_time in_nonce free,
            visible-back stored entry are way.0 way.2 time nonce rise way.1,
            λ pair c. let own = back.each pair c in record { now = own.old; found = own.was; same = own.from },
            λ again leads.
                let same = leads-once (made stored (given stored time nonce entry)) news stored again back leads in
                (agrees-same here stored again agrees same, way-same others stored again to same other),
          );
        }

  -- the topmost entry is the one that is sought
  pub way-stepped : (from to : List (List Pair)) → IsWay (target ∷ targets) stored from → IsWay others stored to
      → (turn : Turn) → step stored time nonce from to ≡ Some (Ok turn)
      → IsStepped target here targets others stored turn
  way-stepped [] to way other turn is = absurd way
  way-stepped (entry ∷ below) to way other turn is =
      let t = step-turn stored time nonce (entry ∷ below) to turn is in
      let top : Sought = record { entry = entry; below = below; to = to } in
      let seen = seen-met stored entry are way.0 way.2 way.1 in
      let same : top ≡ t.seen =
      same_Some top t.seen
      (sym (cond-true (is_seen stored entry) (Some top) (sought stored below (map exchanged entry ∷ to)) seen)
      ∙ t.is_sought) in
      subst (IsStepped target here targets others stored) (sym (t.is ∙ ap (turn_of stored time nonce) (sym same)))
      (stepped entry below to way other (ap (λ (s : Sought). full_id stored s.entry) same ∙ t.free))

-- an entry is found where there is a way
pub way-found : (target : List ElementValue) (targets : List (List ElementValue)) (stored : List ElementValue)
    → AreElements stored → (from to : List (List Pair)) → IsWay (target ∷ targets) stored from
    → (time nonce : ℕ) → step stored time nonce from to ≡ None → ⊥
way-found target targets stored are [] to way time nonce none = way
way-found target targets stored are (entry ∷ below) to way time nonce none =
    let top : Sought = record { entry = entry; below = below; to = to } in
    let seen = seen-met stored entry are way.0 way.2 way.1 in
    let found = cond-true (is_seen stored entry) (Some top) (sought stored below (map exchanged entry ∷ to)) seen in
    none-some (turn_unless (full_id stored entry) (turn_of stored time nonce top))
    (sym none ∙ ap (option_map (λ (s : Sought). turn_unless (full_id stored s.entry) (turn_of stored time nonce s)))
    found)

-- a step that is found is made, or refused for a full version
pub step-found : (stored : List ElementValue) (time nonce : ℕ) (from to : List (List Pair))
    → (step stored time nonce from to ≡ None → ⊥) → IsFound stored (step stored time nonce from to)
step-found stored time nonce from to some = by (step stored time nonce from to) refl
  where
    by : (o : Option (Result Turn (List ℕ))) → step stored time nonce from to ≡ o → IsFound stored o
    by None is = some is
    by (Some (Ok turn)) is = tt
    by (Some (Err id)) is =
        let stopped = step-stops stored time nonce from to id is in
        let full = full-is stored stopped.0.entry id stopped.2 in
        (full.now, ap (element_of stored) (sym full.id) ∙ full.found, full.version)
