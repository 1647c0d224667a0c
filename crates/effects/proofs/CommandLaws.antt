-- What single commands leave stored: bound arrows, deleted elements, and keys at a spot.
use Rattle.std.proofs.Common.{◌≡◌, ℕ, Bool, true, false, not, ◌&&◌, ◌||◌, List, [], ◌∷◌, ◌++◌, map, Option, Some, None, Ok, Contains, IsSomeAnd, bytes_eq, if◌then◌else◌, inl, inr, refl, sym, ap, ◌∙◌, subst}
use Rattle.std.specs.List.{list_any, list_all}
use Rattle.std.specs.Option.{option_map_or}
use Rattle.std.proofs.lemmas.Bool.{cases_Bool, false≢true, both_ways, and_parts, and_from, or_from, or_left, or_right, cond-true, cond-false}
use Rattle.std.proofs.lemmas.List.Folds.{list_any-append}
use Rattle.std.proofs.lemmas.Option.{none-some, same_Some}
use Rattle.json_text.proofs.CallerLemmas.{bytes_eq-same, bytes_eq-apart}
use Rattle.json_text.specs.declared.text.Member.{Member}
use Rattle.frac_keys.specs.Between.{key_between}
use Rattle.frac_keys.specs.Rising.{ends_rise, are_rising, is_key_or_none}
use Rattle.frac_keys.proofs.CallerLemmas.{key_between-law, ends_rise-none}
use Rattle.elem.specs.declared.parts.Binding.{Binding}
use Rattle.elem.specs.declared.parts.BoundRef.{BoundRef}
use Rattle.elem.specs.ElementValue.{ElementValue}
use Rattle.elem.specs.Order.{unstamped, has_id}
use Rattle.elem_store.specs.Updates.{element_of, ids_of, is_among}
use Rattle.elem_store.proofs.CallerLemmas.{same_id, Contains-head, Contains-cons, find-Some, list_any-false}
use Rattle.links.specs.Arrows.{names_target}
use Rattle.elem.specs.Listings.{same_listing_entry}
use Rattle.links.specs.Entries.{arrow_entry, lists}
use Rattle.links.specs.Names.{is_id, is_arrow, target_of}
use Rattle.links.specs.Tables.{with_listing_entry}
use Rattle.index_repair.specs.Keyed.{index_of, HaveRisingKeys, HaveKeysOrNone}
use Rattle.view.specs.Shown.{is_live}
use Rattle.board_commands.specs.declared.command.Command.{Command}
use Rattle.board_commands.specs.declared.command.Command.TheVariants as commands
use Rattle.effects.specs.declared.refusal.Refusal.TheVariants.{WrongKind}
use Rattle.board_commands.specs.declared.command.Side.{Side}
use Rattle.board_commands.specs.declared.command.Side.TheVariants.{Start, End}
use Rattle.board_commands.specs.declared.command.Spot.{Spot}
use Rattle.board_commands.specs.declared.command.Spot.TheVariants.{Bottom, Top, After}
use Rattle.effects.specs.Changed.{outcome, created_at}
use Rattle.effects.specs.Deleting.{kept_name, kept_end, kept_entries, without_names, deleted_from, has_gone_names}
use Rattle.effects.specs.Effects.{effect}
use Rattle.effects.specs.Given.{stored_after}
use Rattle.effects.specs.Linking.{end_at, with_end, with_end_of, listed, unlisted, without_listing_entry, old_target}
use Rattle.effects.specs.Naming.{is_some_that, apart_from}
use Rattle.effects.specs.Placing.{Gap, is_of, others, first_key, last_key_or, gap_above, gap_at, gap_of, lies_within, key_within, key_at, key_in, with_view_key}
use Rattle.effects.specs.Refusals.{is_kind_of, spot_ids, unless_right}
use Rattle.effects.proofs.KeepingLaws.{Self, with_end_of-keeps}
use Rattle.effects.proofs.CreatedLaws.{distinct-one, some-or-none}
use Rattle.effects.proofs.OutcomeLaws.{or-none, none-misfit, created-given, stored_after-given, stored_after-kept, after-live}
use Rattle.effects.proofs.NamedLaws.{at-some, named-live, named-after, live-before}
use Rattle.effects.proofs.PlacingLaws.{Rises, Rises-shown, Rises-lower}

-- ---- bound arrows
pub end-unstamped : (side : Side) (e : ElementValue) → end_at side (unstamped e) ≡ end_at side e
end-unstamped Start e = refl
end-unstamped End e = refl

end-bound : (side : Side) (e : ElementValue) (bound : List BoundRef)
    → end_at side (record e { bound = bound }) ≡ end_at side e
end-bound Start e bound = refl
end-bound End e bound = refl

pub end-given : (side : Side) (binding : Option Binding) (e : ElementValue)
    → end_at side (with_end side binding e) ≡ binding
end-given Start binding e = refl
end-given End binding e = refl

pub end-either : (side : Side) (b : Bool) (e : ElementValue) (bound : List BoundRef)
    → end_at side (if b then record e { bound = bound } else e) ≡ end_at side e
end-either side true e bound = end-bound side e bound
end-either side false e bound = refl

pub right-kind : (b : Bool) (id : List ℕ) → unless_right b id ≡ None → b ≡ true
right-kind true id h = refl
right-kind false id h = absurd (none-some (WrongKind id) (sym h))

pub kind-at : (stored : List ElementValue) (id : List ℕ) (old : ElementValue) → element_of stored id ≡ Some old
    → is_kind_of stored is_arrow id ≡ true → is_arrow old.kind ≡ true
kind-at stored id old found h =
    sym (ap (λ (o : Option ElementValue). option_map_or (λ (e : ElementValue). is_arrow e.kind) o false) found) ∙ h

-- ---- names of what is gone
kept-name : (gone : List ℕ → Bool) (name : Option (List ℕ)) → is_some_that gone (kept_name gone name) ≡ false
kept-name gone name = elim (cases_Bool (is_some_that gone name)) [
  | inl t ↦ ap (is_some_that gone) (cond-true (is_some_that gone name) None name t)
  | inr f ↦ ap (is_some_that gone) (cond-false (is_some_that gone name) None name f) ∙ f
]

kept-end : (gone : List ℕ → Bool) (end' : Option Binding) → is_some_that gone (target_of (kept_end gone end')) ≡ false
kept-end gone end' = elim (cases_Bool (is_some_that gone (target_of end'))) [
  | inl t ↦ ap (λ (b : Option Binding). is_some_that gone (target_of b))
      (cond-true (is_some_that gone (target_of end')) None end' t)
  | inr f ↦ ap (λ (b : Option Binding). is_some_that gone (target_of b))
      (cond-false (is_some_that gone (target_of end')) None end' f) ∙ f
]

kept-entries : (gone : List ℕ → Bool) (entries : List BoundRef)
    → list_any (λ (entry : BoundRef). gone entry.id) (kept_entries gone entries) ≡ false
kept-entries gone [] = refl
kept-entries gone (entry ∷ entries) = elim (cases_Bool (gone entry.id)) [
  | inl t ↦ rw t (kept-entries gone entries)
  | inr f ↦ rw (f, f) (kept-entries gone entries)
]

unnamed : (gone : List ℕ → Bool) (e : ElementValue) → has_gone_names gone (without_names gone e) ≡ false
unnamed gone e =
    let entries = list_any (λ (entry : BoundRef). gone entry.id) (kept_entries gone e.bound) in
    let start = is_some_that gone (target_of (kept_end gone e.start_binding)) in
    let end' = is_some_that gone (target_of (kept_end gone e.end_binding)) in
    let container = is_some_that gone (kept_name gone e.container) in
    or_from (is_some_that gone (kept_name gone e.frame)) (container || (start || (end' || entries)))
    (kept-name gone e.frame)
    (or_from container (start || (end' || entries)) (kept-name gone e.container)
    (or_from start (end' || entries) (kept-end gone e.start_binding)
    (or_from end' entries (kept-end gone e.end_binding) (kept-entries gone e.bound))))

-- what lists the entry
pub lists-added : (entry : BoundRef) (entries : List BoundRef) → same_listing_entry entry entry ≡ true
    → lists (with_listing_entry entries entry) entry ≡ true
lists-added entry entries own = elim (cases_Bool (lists entries entry)) [
  | inl t ↦ ap (λ es. lists es entry) (cond-true (lists entries entry) entries (entries ++ entry ∷ []) t) ∙ t
  | inr f ↦ ap (λ es. lists es entry) (cond-false (lists entries entry) entries (entries ++ entry ∷ []) f)
      ∙ list_any-append (same_listing_entry entry) entries (entry ∷ [])
      ∙ or_right (lists entries entry) (lists (entry ∷ []) entry) (or_left (same_listing_entry entry entry) false own)
]

pub apart : (target : List ℕ) (old : Option (List ℕ)) (id : List ℕ) → id ≡ target
    → is_id id (apart_from (Some target) old) ≡ false
apart target None id is = refl
apart target (Some other) id is = elim (cases_Bool (bytes_eq other target)) [
  | inl same ↦ rw same refl
  | inr differ ↦ rw differ (bytes_eq-apart id other
      (λ same. both_ways (bytes_eq other target) differ (subst (λ i. bytes_eq i target ≡ true) (sym is
      ∙ same) (bytes_eq-same target))))
]

lists-bound : (target : List ℕ) (entry : BoundRef) (old : Option (List ℕ)) (e : ElementValue) → e.id ≡ target
    → same_listing_entry entry entry ≡ true
    → lists (unlisted (apart_from (Some target) old) entry (listed (Some target) entry e)).bound entry ≡ true
lists-bound target entry old e is own =
    let more = record e { bound = with_listing_entry e.bound entry } in
    let one : listed (Some target) entry e ≡ more =
    cond-true (bytes_eq e.id target) more e (subst (λ i. bytes_eq e.id i ≡ true) is (bytes_eq-same e.id)) in
    let two : unlisted (apart_from (Some target) old) entry more ≡ more =
    cond-false (is_id e.id (apart_from (Some target) old))
    (record more { bound = without_listing_entry entry more.bound }) more (apart target old e.id is) in
    ap (λ (d : ElementValue). lists d.bound entry) (ap (unlisted (apart_from (Some target) old) entry) one ∙ two)
    ∙ lists-added entry e.bound own

module _ (stored shown : List ElementValue) (time nonce : ℕ) (given : List ElementValue)
    (ordered : are_rising (ids_of stored) ≡ true) where
  module _ (arrow : List ℕ) (side : Side) (target : List ℕ) (rest : List Member)
      (told : outcome stored shown (commands.Bind arrow side target rest) time nonce ≡ Ok given) where
    abbrev binding : Option Binding
    binding = Some (record { target = target; rest = rest })

    abbrev bind : Command
    bind = commands.Bind arrow side target rest

    -- the arrow's end names the target
    pub bound-end : IsSomeAnd (stored_after stored given arrow) (λ (e : ElementValue). end_at side e ≡ binding)
    bound-end = named-after stored shown bind time nonce given told ordered (λ (e : ElementValue). end_at side e
        ≡ binding) arrow (Contains-head arrow (target ∷ []))
        (λ old found live e same.
        let own = same_id arrow old (find-Some (has_id arrow) stored old found).1 in
        let kind = kind-at stored arrow old found
        (right-kind (is_kind_of stored is_arrow arrow) arrow
        (or-none (unless_right (is_kind_of stored is_arrow arrow) arrow)
        (unless_right (names_target shown (Some target)) target)
        (none-misfit stored shown bind time nonce given told)).0) in
        let ended = with_end_of arrow side binding old in
        let listing = listed (target_of binding) (arrow_entry arrow) ended in
        sym (end-unstamped side e) ∙ ap (end_at side) same ∙ end-unstamped side (effect stored shown bind old)
        ∙ end-either side (is_id listing.id (apart_from (target_of binding) (old_target stored arrow side))) listing
        (without_listing_entry (arrow_entry arrow) listing.bound)
        ∙ end-either side (is_id ended.id (target_of binding)) ended
        (with_listing_entry ended.bound (arrow_entry arrow))
        ∙ ap (end_at side) (cond-true (bytes_eq arrow old.id && is_arrow old.kind) (with_end side binding old) old
        (and_from (bytes_eq arrow old.id) (is_arrow old.kind)
        (subst (λ i. bytes_eq arrow i ≡ true) own (bytes_eq-same arrow)) kind))
        ∙ end-given side binding old)

    -- and the target lists the arrow
    pub bound-listed : IsSomeAnd (stored_after stored given target)
        (λ (e : ElementValue). lists e.bound (arrow_entry arrow) ≡ true)
    bound-listed = named-after stored shown bind time nonce given told ordered
        (λ (e : ElementValue). lists e.bound (arrow_entry arrow) ≡ true) target
        (Contains-cons arrow (target ∷ []) target (Contains-head target []))
        (λ old found live e same.
        let own = same_id target old (find-Some (has_id target) stored old found).1 in
        let ended = with_end_of arrow side binding old in
        ap (λ (d : ElementValue). lists d.bound (arrow_entry arrow)) same
        ∙ lists-bound target (arrow_entry arrow) (old_target stored arrow side) ended
        (ap (λ (s : Self). s.id) (with_end_of-keeps arrow side binding old) ∙ sym own) (bytes_eq-same arrow))

  -- ---- deleted elements
  module _ (ids : List (List ℕ)) (told : outcome stored shown (commands.Delete ids) time nonce ≡ Ok given) where
    abbrev gone : List ℕ → Bool
    gone = is_among ids

    delete-made : (id : List ℕ) (old : ElementValue) → Contains ids id → element_of stored id ≡ Some old
        → deleted_from gone old ≡ record old { deleted = true }
    delete-made id old c found =
        let own = same_id id old (find-Some (has_id id) stored old found).1 in
        cond-true (gone old.id) (record old { deleted = true }) (without_names gone old)
        (subst (λ i. gone i ≡ true) own (among ids id c))
      where
        among : (ids : List (List ℕ)) (id : List ℕ) → Contains ids id → is_among ids id ≡ true
        among ids id c = elim (cases_Bool (is_among ids id)) [
          | inl t ↦ t
          | inr f ↦ absurd (both_ways (bytes_eq id id) (list_any-false (bytes_eq id) ids id f c) (bytes_eq-same id))
        ]

    -- each named element is given as a deleted one
    pub deleted-given : (id : List ℕ) → Contains ids id
        → IsSomeAnd (element_of given id) (λ (e : ElementValue). e.deleted ≡ true)
    deleted-given id c =
        let old = named-live stored shown (commands.Delete ids) time nonce given told id c in
        let new = after-live stored shown (commands.Delete ids) time nonce given told ordered id old.0 old.1 old.2 in
        let dead : new.0.deleted ≡ true =
        ap (λ (d : ElementValue). d.deleted) (new.2 ∙ ap unstamped (delete-made id old.0 c old.1)) in
        elim (some-or-none (element_of given id)) [
          | inl none ↦ absurd
              (let same = same_Some new.0 old.0 (sym new.1 ∙ stored_after-kept stored given id none ∙ old.1) in
              false≢true (sym (ap not dead) ∙ ap is_live same ∙ old.2))
          | inr some ↦
              let same = same_Some some.0 new.0 (sym (stored_after-given stored given id some.0 some.1) ∙ new.1) in
              at-some (λ (e : ElementValue). e.deleted ≡ true) (element_of given id) some.0 some.1
              (ap (λ (d : ElementValue). d.deleted) same ∙ dead)
        ]

    -- and no live element that is stored then names one of them
    pub deleted-unnamed : (id : List ℕ) (e : ElementValue) → stored_after stored given id ≡ Some e → is_live e ≡ true
        → has_gone_names gone e ≡ false
    deleted-unnamed id e is live =
        let from = live-before stored shown (commands.Delete ids) time nonce given told ordered refl id e is live in
        elim (cases_Bool (gone from.0.id)) [
          | inl t ↦ absurd (false≢true
              (sym
              (ap is_live (from.2
              ∙ ap unstamped (cond-true (gone from.0.id) (record from.0 { deleted = true })
              (without_names gone from.0) t))) ∙ live))
          | inr f ↦ ap (has_gone_names gone) (from.2
              ∙ ap unstamped (cond-false (gone from.0.id) (record from.0 { deleted = true }) (without_names gone from.0)
              f)) ∙ unnamed gone from.0
        ]

-- ---- keys at a spot
-- the keys beside a spot are keys, and rise
pub record IsOpen (gap : Gap) : Type 0 where
  pub low : is_key_or_none gap.low ≡ true
  pub high : is_key_or_none gap.high ≡ true
  pub rises : ends_rise gap.low gap.high ≡ true

others-keys : (except : Option (List ℕ)) (es : List ElementValue) → HaveKeysOrNone es
    → HaveKeysOrNone (others except es)
others-keys except [] h = h
others-keys except (e ∷ es) h =
    let parts = and_parts (is_key_or_none e.index) (list_all is_key_or_none (map index_of es)) h in
    elim (cases_Bool (is_of except e)) [
      | inl same ↦ rw same (others-keys except es parts.1)
      | inr other ↦ rw other (and_from (is_key_or_none e.index)
          (list_all is_key_or_none (map index_of (others except es))) parts.0 (others-keys except es parts.1))
    ]

others-rise : (except : Option (List ℕ)) (low : Option (List ℕ)) (es : List ElementValue) → Rises low es
    → Rises low (others except es)
others-rise except low [] h = tt
others-rise except low (e ∷ es) h = elim (cases_Bool (is_of except e)) [
  | inl same ↦ rw same (Rises-lower low h.0 (others except es) h.2 (others-rise except (Some h.0) es h.3))
  | inr other ↦ rw other (h.0, h.1, h.2, others-rise except (Some h.0) es h.3)
]

first-key : (es : List ElementValue) → HaveKeysOrNone es → is_key_or_none (first_key es) ≡ true
first-key [] h = refl
first-key (e ∷ es) h = (and_parts (is_key_or_none e.index) (list_all is_key_or_none (map index_of es)) h).0

last-key : (key : Option (List ℕ)) (es : List ElementValue) → is_key_or_none key ≡ true → HaveKeysOrNone es
    → is_key_or_none (last_key_or key es) ≡ true
last-key key [] k h = k
last-key key (e ∷ es) k h =
    let parts = and_parts (is_key_or_none e.index) (list_all is_key_or_none (map index_of es)) h in
    last-key e.index es parts.0 parts.1

first-rises : (low : Option (List ℕ)) (es : List ElementValue) → Rises low es → ends_rise low (first_key es) ≡ true
first-rises low [] h = ends_rise-none low
first-rises low (e ∷ es) h = ap (ends_rise low) h.1 ∙ h.2

above-open : (below : List ℕ) (low : Option (List ℕ)) (es : List ElementValue) → Rises low es → HaveKeysOrNone es
    → IsOpen (gap_above below es)
above-open below low [] r h = record { low = refl; high = refl; rises = refl }
above-open below low (e ∷ es) r h =
    let parts = and_parts (is_key_or_none e.index) (list_all is_key_or_none (map index_of es)) h in
    elim (cases_Bool (bytes_eq below e.id)) [
      | inl here ↦ rw here (record {
        low = parts.0;
        high = first-key es parts.1;
        rises = ap (λ key. ends_rise key (first_key es)) r.1 ∙ first-rises (Some r.0) es r.3;
      })
      | inr later ↦ rw later (above-open below (Some r.0) es r.3 parts.1)
    ]

gap-open : (spot : Spot) (es : List ElementValue) → Rises None es → HaveKeysOrNone es → IsOpen (gap_at spot es)
gap-open Bottom es r h = record { low = refl; high = first-key es h; rises = refl }
gap-open Top es r h =
    record { low = last-key None es refl h; high = refl; rises = ends_rise-none (last_key_or None es) }
gap-open (After id) es r h = above-open id None es r h

within-open : (gap : Gap) (old : Option (List ℕ)) → IsOpen gap → lies_within gap (key_within gap old) ≡ true
within-open gap old is = elim (cases_Bool (lies_within gap old)) [
  | inl t ↦ ap (lies_within gap) (cond-true (lies_within gap old) old (Some (key_between gap.low gap.high)) t) ∙ t
  | inr f ↦
      let law = key_between-law gap.low gap.high is.low is.high is.rises in
      ap (lies_within gap) (cond-false (lies_within gap old) old (Some (key_between gap.low gap.high)) f)
      ∙ and_from (ends_rise gap.low (Some (key_between gap.low gap.high)))
      (ends_rise (Some (key_between gap.low gap.high)) gap.high) law.above law.below
]

-- what is beside a spot among shown elements is open
pub spot-open : (shown : List ElementValue) (spot : Spot) (except : Option (List ℕ)) → HaveRisingKeys shown
    → HaveKeysOrNone shown → IsOpen (gap_of shown spot except)
spot-open shown spot except rising keys =
    gap-open spot (others except shown) (others-rise except None shown (Rises-shown shown rising))
    (others-keys except shown keys)

-- a key at a spot lies strictly between the keys beside it
pub key-within : (shown : List ElementValue) (spot : Spot) (except old : Option (List ℕ)) → HaveRisingKeys shown
    → HaveKeysOrNone shown → lies_within (gap_of shown spot except) (key_at shown spot except old) ≡ true
key-within shown spot except old rising keys =
    within-open (gap_of shown spot except) old (spot-open shown spot except rising keys)

module _ (stored shown : List ElementValue) (time nonce : ℕ) (given : List ElementValue)
    (ordered : are_rising (ids_of stored) ≡ true) (rising : HaveRisingKeys shown) (keys : HaveKeysOrNone shown) where
  -- so a new element has a key there
  pub created-within : (element : ElementValue) (spot : Spot)
      → outcome stored shown (commands.Create element spot) time nonce ≡ Ok given
      → IsSomeAnd (element_of given element.id) (λ (e : ElementValue). lies_within (gap_of shown spot None) e.index
      ≡ true)
  created-within element spot told =
      let new = created_at shown element spot time nonce in
      at-some (λ (e : ElementValue). lies_within (gap_of shown spot None) e.index ≡ true) (element_of given element.id)
      new
      (created-given stored shown (commands.Create element spot) time nonce given told ordered (distinct-one new) new
      (Contains-head new []))
      (key-within shown spot None None rising keys)

  -- and one that is placed
  pub placed-within : (id : List ℕ) (spot : Spot) → outcome stored shown (commands.Place id spot) time nonce ≡ Ok given
      → IsSomeAnd (stored_after stored given id) (λ (e : ElementValue). lies_within (gap_of shown spot (Some id))
      e.index ≡ true)
  placed-within id spot told =
      named-after stored shown (commands.Place id spot) time nonce given told ordered
      (λ (e : ElementValue). lies_within (gap_of shown spot (Some id)) e.index ≡ true) id
      (Contains-head id (spot_ids spot))
      (λ old found live e same.
      let own = same_id id old (find-Some (has_id id) stored old found).1 in
      let key = key_at shown spot (Some id) (key_in shown id) in
      ap (λ (d : ElementValue). lies_within (gap_of shown spot (Some id)) d.index) same
      ∙ ap (λ (d : ElementValue). lies_within (gap_of shown spot (Some id)) d.index)
      (cond-true (bytes_eq id old.id) (record (with_view_key shown old) { index = key }) (with_view_key shown old)
      (subst (λ i. bytes_eq id i ≡ true) own (bytes_eq-same id)))
      ∙ key-within shown spot (Some id) (key_in shown id) rising keys)
