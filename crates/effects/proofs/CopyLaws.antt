-- What copies leave stored: themselves at their spot, and all else but for its key.
use Rattle.std.proofs.Common.{◌≡◌, ℕ, Bool, true, false, not, List, [], ◌∷◌, Option, Some, None, Ok, Contains, IsSomeAnd, length, map, inl, inr, refl, sym, ap, ap₂, ◌∙◌, arith}
use Rattle.std.proofs.lemmas.Bool.{both_ways, cases_Bool, false≢true}
use Rattle.frac_keys.specs.Rising.{are_rising}
use Rattle.frac_keys.proofs.CallerLemmas.{AreBetween, keys_between-law}
use Rattle.elem.specs.ElementValue.{ElementValue}
use Rattle.elem.specs.Order.{unstamped, HaveDistinctIds}
use Rattle.elem_store.specs.Updates.{element_of, ids_of}
use Rattle.elem_store.proofs.CallerLemmas.{Contains-cons, Contains-head}
use Rattle.index_repair.specs.Keyed.{index_of, keyed, HaveRisingKeys, HaveKeysOrNone}
use Rattle.view.specs.Shown.{is_live}
use Rattle.copies.specs.Copies.{copies_of, copy_among}
use Rattle.copies.proofs.CallerLemmas.{copies-length, original}
use Rattle.board_commands.specs.declared.command.Command.{Command}
use Rattle.board_commands.specs.declared.command.Command.TheVariants as commands
use Rattle.board_commands.specs.declared.command.Spot.{Spot}
use Rattle.effects.specs.Changed.{created, outcome}
use Rattle.effects.specs.Copying.{as_new, copies_at, settled_for, shown_among, unplaced}
use Rattle.effects.specs.Differing.{differs}
use Rattle.effects.specs.Effects.{effect}
use Rattle.effects.specs.Given.{stored_after, Stays}
use Rattle.effects.specs.Placing.{gap_of, keys_at, settled_key, with_view_key}
use Rattle.effects.proofs.ChangedLaws.{copies-at-distinct, duplicates-distinct}
use Rattle.effects.proofs.CommandLaws.{spot-open}
use Rattle.effects.proofs.CreatedLaws.{created-unknown}
use Rattle.effects.proofs.DifferingLaws.{differs-not}
use Rattle.effects.proofs.NamedLaws.{of-live, stays}
use Rattle.effects.proofs.OutcomeLaws.{created-given, none-existing, not-given, stored_after-given, stored_after-kept}

-- ---- keys
pub keys-between : (shown : List ElementValue) (spot : Spot) (count : ℕ) → HaveRisingKeys shown → HaveKeysOrNone shown
    → AreBetween (gap_of shown spot None).low (gap_of shown spot None).high count (keys_at shown spot count)
keys-between shown spot count rising keys =
    let beside = spot-open shown spot None rising keys in
    keys_between-law (gap_of shown spot None).low (gap_of shown spot None).high count beside.low beside.high
    beside.rises

new-indices : (time nonce : ℕ) (es : List ElementValue) (keys : List (List ℕ)) → length keys ≡ length es
    → map index_of (map (as_new time nonce) (keyed es keys)) ≡ map Some keys
new-indices time nonce [] [] same = refl
new-indices time nonce [] (key ∷ keys) same = absurd (omega arith)
new-indices time nonce (e ∷ es) [] same = absurd (omega arith)
new-indices time nonce (e ∷ es) (key ∷ keys) same =
    ap (λ indices. Some key ∷ indices) (new-indices time nonce es keys (omega arith))

not-deleted : (e : ElementValue) → is_live e ≡ true → e.deleted ≡ false
not-deleted e live = elim (cases_Bool e.deleted) [
  | inl dead ↦ absurd (false≢true (sym (ap not dead) ∙ live))
  | inr alive ↦ alive
]

copies-live : (list : List ElementValue) (prefix : List ℕ) (copy : ElementValue) → Contains (copies_of list prefix) copy
    → is_live copy ≡ true
unfolding copy_among
copies-live list prefix copy c = let from = original list prefix copy c in ap is_live (sym from.2)

new-rest : (time nonce : ℕ) (es : List ElementValue) (keys : List (List ℕ)) → length keys ≡ length es
    → ((e : ElementValue) → Contains es e → is_live e ≡ true) → map unplaced (map (as_new time nonce) (keyed es keys))
    ≡ map unplaced es
new-rest time nonce [] keys same live = refl
new-rest time nonce (e ∷ es) [] same live = absurd (omega arith)
new-rest time nonce (e ∷ es) (key ∷ keys) same live =
    ap₂ (λ (deleted : Bool) rest. unplaced (record e { deleted = deleted }) ∷ rest)
    (sym (not-deleted e (live e (Contains-head e es))))
    (new-rest time nonce es keys (omega arith) (λ d c. live d (Contains-cons e es d c)))

module _ (shown list : List ElementValue) (prefix : List ℕ) (spot : Spot) (time nonce : ℕ)
    (rising : HaveRisingKeys shown) (keys : HaveKeysOrNone shown) where
  abbrev copies : List ElementValue
  copies = copies_of list prefix

  count : length (keys_at shown spot (length copies)) ≡ length copies
  count = (keys-between shown spot (length copies) rising keys).count

  pub copies-keys : map index_of (copies_at shown list prefix spot time nonce)
      ≡ map Some (keys_at shown spot (length list))
  copies-keys = new-indices time nonce copies (keys_at shown spot (length copies)) count
      ∙ ap (λ n. map Some (keys_at shown spot n)) (copies-length list prefix)

  pub copies-rest : map unplaced (copies_at shown list prefix spot time nonce) ≡ map unplaced copies
  copies-rest = new-rest time nonce copies (keys_at shown spot (length copies)) count (copies-live list prefix)

-- ---- what is stored
module _ (stored shown given : List ElementValue) (time nonce : ℕ) (ordered : are_rising (ids_of stored) ≡ true) where
  new-stored : (command : Command) → outcome stored shown command time nonce ≡ Ok given
      → HaveDistinctIds (created shown command time nonce) → (copy : ElementValue)
      → Contains (created shown command time nonce) copy
      → (element_of stored copy.id ≡ None) × (stored_after stored given copy.id ≡ Some copy)
  new-stored command told distinct copy c = (
    created-unknown stored shown time nonce command copy (none-existing stored shown command time nonce given told) c,
    stored_after-given stored given copy.id copy (created-given stored shown command time nonce given told ordered
        distinct copy c),
  )

  pub duplicates-stored : (ids : List (List ℕ)) (prefix : List ℕ) (spot : Spot) → HaveDistinctIds shown
      → outcome stored shown (commands.Duplicate ids prefix spot) time nonce ≡ Ok given
      → (copy : ElementValue) → Contains (copies_at shown (shown_among ids shown) prefix spot time nonce) copy
      → (element_of stored copy.id ≡ None) × (stored_after stored given copy.id ≡ Some copy)
  duplicates-stored ids prefix spot distinct told =
      new-stored (commands.Duplicate ids prefix spot) told
      (duplicates-distinct shown ids prefix spot time nonce distinct)

  pub pasted-stored : (elements : List ElementValue) (prefix : List ℕ) (spot : Spot) → HaveDistinctIds elements
      → outcome stored shown (commands.Paste elements prefix spot) time nonce ≡ Ok given
      → (copy : ElementValue) → Contains (copies_at shown elements prefix spot time nonce) copy
      → (element_of stored copy.id ≡ None) × (stored_after stored given copy.id ≡ Some copy)
  pasted-stored elements prefix spot distinct told =
      new-stored (commands.Paste elements prefix spot) told
      (copies-at-distinct shown elements prefix spot time nonce distinct)

  -- ---- what stays
  settled-rest : (command : Command) (seen : List ElementValue)
      → ((e : ElementValue) → effect stored shown command e ≡ with_view_key seen e)
      → outcome stored shown command time nonce ≡ Ok given
      → (id : List ℕ) (old : ElementValue) → element_of stored id ≡ Some old → is_live old ≡ true
      → IsSomeAnd (stored_after stored given id) (λ (e : ElementValue). unstamped e
      ≡ unstamped (with_view_key seen old))
  settled-rest command seen made told id old found live =
      of-live stored shown command time nonce given told ordered (λ (e : ElementValue). unstamped e
      ≡ unstamped (with_view_key seen old)) id old found live
      (λ e same. same ∙ ap unstamped (made old))

  pub duplicate-rest : (ids : List (List ℕ)) (prefix : List ℕ) (spot : Spot)
      → outcome stored shown (commands.Duplicate ids prefix spot) time nonce ≡ Ok given
      → (id : List ℕ) (old : ElementValue) → element_of stored id ≡ Some old → is_live old ≡ true
      → IsSomeAnd (stored_after stored given id) (λ (e : ElementValue). unstamped e
      ≡ unstamped (with_view_key (settled_for (shown_among ids shown) shown) old))
  duplicate-rest ids prefix spot =
      settled-rest (commands.Duplicate ids prefix spot) (settled_for (shown_among ids shown) shown) (λ e. refl)

  pub paste-rest : (elements : List ElementValue) (prefix : List ℕ) (spot : Spot)
      → outcome stored shown (commands.Paste elements prefix spot) time nonce ≡ Ok given
      → (id : List ℕ) (old : ElementValue) → element_of stored id ≡ Some old → is_live old ≡ true
      → IsSomeAnd (stored_after stored given id) (λ (e : ElementValue). unstamped e
      ≡ unstamped (with_view_key (settled_for elements shown) old))
  paste-rest elements prefix spot =
      settled-rest (commands.Paste elements prefix spot) (settled_for elements shown) (λ e. refl)

  settled-kept : (command : Command) (seen : List ElementValue)
      → ((e : ElementValue) → effect stored shown command e ≡ with_view_key seen e)
      → outcome stored shown command time nonce ≡ Ok given
      → (id : List ℕ) (old : ElementValue) → element_of stored id ≡ Some old → settled_key seen old ≡ old.index
      → Stays stored given id
  settled-kept command seen made told id old found same =
      let kept : effect stored shown command old ≡ old =
      made old ∙ ap (λ (key : Option (List ℕ)). record old { index = key }) same in
      stored_after-kept stored given id
      (not-given stored shown command time nonce given told ordered id old found
      (λ live differ. both_ways (differs old (effect stored shown command old))
      (differs-not old (effect stored shown command old) (ap unstamped (sym kept))) differ))

  pub duplicate-kept : (ids : List (List ℕ)) (prefix : List ℕ) (spot : Spot)
      → outcome stored shown (commands.Duplicate ids prefix spot) time nonce ≡ Ok given
      → (id : List ℕ) (old : ElementValue) → element_of stored id ≡ Some old
      → settled_key (settled_for (shown_among ids shown) shown) old ≡ old.index → Stays stored given id
  duplicate-kept ids prefix spot =
      settled-kept (commands.Duplicate ids prefix spot) (settled_for (shown_among ids shown) shown) (λ e. refl)

  pub paste-kept : (elements : List ElementValue) (prefix : List ℕ) (spot : Spot)
      → outcome stored shown (commands.Paste elements prefix spot) time nonce ≡ Ok given
      → (id : List ℕ) (old : ElementValue) → element_of stored id ≡ Some old
      → settled_key (settled_for elements shown) old ≡ old.index → Stays stored given id
  paste-kept elements prefix spot =
      settled-kept (commands.Paste elements prefix spot) (settled_for elements shown) (λ e. refl)

  none-at : (list : List ElementValue) (prefix : List ℕ) (spot : Spot) → list ≡ []
      → copies_at shown list prefix spot time nonce ≡ []
  unfolding copies_of
  none-at list prefix spot none = rw none refl

  pub none-duplicated : (ids : List (List ℕ)) (prefix : List ℕ) (spot : Spot) → shown_among ids shown ≡ []
      → outcome stored shown (commands.Duplicate ids prefix spot) time nonce ≡ Ok given → (id : List ℕ)
      → Stays stored given id
  none-duplicated ids prefix spot none told id =
      stays stored shown (commands.Duplicate ids prefix spot) time nonce given told ordered
      (none-at (shown_among ids shown) prefix spot none) id
      (λ old found. ap (λ (es : List ElementValue). with_view_key (settled_for es shown) old) none)

  pub none-pasted : (prefix : List ℕ) (spot : Spot) → outcome stored shown (commands.Paste [] prefix spot) time nonce
      ≡ Ok given → (id : List ℕ) → Stays stored given id
  none-pasted prefix spot told id =
      stays stored shown (commands.Paste [] prefix spot) time nonce given told ordered (none-at [] prefix spot refl) id
      (λ old found. refl)
