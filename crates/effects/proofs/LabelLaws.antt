-- What labels and unlabels leave stored: who names whom, who lists whom, and what stays.
use Rattle.std.proofs.Common.{◌≡◌, ◌≢◌, ℕ, Bool, true, false, not, ◌&&◌, ◌||◌, List, [], ◌∷◌, ◌++◌, Option, Some, None, Ok, IsSomeAnd, filter, bytes_eq, if◌then◌else◌, inl, inr, refl, sym, ap, ◌∙◌, subst}
use Rattle.std.specs.Option.{option_map_or, option_and_then}
use Rattle.std.proofs.lemmas.Bool.{cases_Bool, false≢true, both_ways, and_from, and_left, or_from, cond-true, cond-false}
use Rattle.std.proofs.lemmas.List.Elements.{filter-append}
use Rattle.std.proofs.lemmas.List.Folds.{list_any-append}
use Rattle.std.proofs.lemmas.Option.{none-some}
use Rattle.json_text.proofs.CallerLemmas.{bytes_eq-same, bytes_eq-apart, bytes_eq-true}
use Rattle.frac_keys.specs.Rising.{are_rising}
use Rattle.elem.specs.Listings.{same_role, same_listing_entry, same_listing_entry-same}
use Rattle.elem.specs.declared.kind.Role.{Role}
use Rattle.elem.specs.declared.kind.Role.TheVariants as roles
use Rattle.elem.specs.declared.parts.BoundRef.{BoundRef}
use Rattle.elem.specs.ElementValue.{ElementValue}
use Rattle.elem_store.specs.Updates.{element_of, ids_of}
use Rattle.elem_store.proofs.CallerLemmas.{Contains-head, Contains-cons}
use Rattle.links.specs.Entries.{text_entry, lists}
use Rattle.links.specs.Names.{is_id, is_text, can_hold_text}
use Rattle.links.specs.Tables.{with_listing_entry}
use Rattle.links.specs.Texts.{is_for_text}
use Rattle.view.specs.Shown.{is_live}
use Rattle.board_commands.specs.declared.command.Command.{Command}
use Rattle.board_commands.specs.declared.command.Command.TheVariants as commands
use Rattle.links.proofs.CallerLemmas.{is_id-from}
use Rattle.effects.specs.Changed.{outcome}
use Rattle.effects.specs.Given.{stored_after, Stays}
use Rattle.effects.specs.Keeping.{unlabelled_rest, arrow_entries, LabelKeeps, UnlabelKeeps}
use Rattle.effects.specs.Linking.{unlisted, without_listing_entry, old_container, with_container_of, without_other_texts, with_text_alone, with_text_of, labelled, without_container_of, unlabelled}
use Rattle.effects.specs.Naming.{apart_from}
use Rattle.effects.specs.Refusals.{is_kind_of, unless_right}
use Rattle.effects.proofs.CommandLaws.{right-kind, lists-added, apart}
use Rattle.effects.proofs.KeepingLaws.{Self, with_container_of-keeps, with_text_of-keeps, without_container_of-keeps}
use Rattle.effects.proofs.NamedLaws.{named-after, own-id, stays, of-live, live-before}
use Rattle.effects.proofs.OutcomeLaws.{or-none, none-misfit}

-- ---- listings
-- a listing without an entry doesn't have it, and without it again is the same
pub lists-dropped : (entry : BoundRef) (entries : List BoundRef) → lists (without_listing_entry entry entries) entry
    ≡ false
lists-dropped entry [] = refl
lists-dropped entry (other ∷ entries) = elim (cases_Bool (same_listing_entry entry other)) [
  | inl t ↦ rw t (lists-dropped entry entries)
  | inr f ↦ rw (f, f) (lists-dropped entry entries)
]

pub dropped-twice : (entry : BoundRef) (entries : List BoundRef)
    → without_listing_entry entry (without_listing_entry entry entries) ≡ without_listing_entry entry entries
dropped-twice entry [] = refl
dropped-twice entry (other ∷ entries) = elim (cases_Bool (same_listing_entry entry other)) [
  | inl t ↦ rw t (dropped-twice entry entries)
  | inr f ↦ rw (f, f) (ap (λ others. other ∷ others) (dropped-twice entry entries))
]

-- an entry of another text isn't that text's, and isn't among those that a text stands alone in
other-entry : (role : Role) (text other id : List ℕ) → other ≢ text
    → (not (is_for_text role) || bytes_eq text id) ≡ true → (same_role roles.Text role && bytes_eq other id) ≡ false
other-entry roles.Arrow text other id apart h = refl
other-entry roles.Text text other id apart h =
    bytes_eq-apart other id (λ same. apart (same ∙ sym (bytes_eq-true text id h)))

alone : (text other : List ℕ) (entries : List BoundRef) → other ≢ text
    → lists (without_other_texts text entries) (text_entry other) ≡ false
alone text other [] apart = refl
alone text other (entry ∷ entries) apart = elim (cases_Bool (not (is_for_text entry.role) || bytes_eq text entry.id)) [
  | inl t ↦ rw t
      (or_from (same_listing_entry (text_entry other) entry)
      (lists (without_other_texts text entries) (text_entry other))
      (other-entry entry.role text other entry.id apart t) (alone text other entries apart))
  | inr f ↦ rw f (alone text other entries apart)
]

lists-more : (entry : BoundRef) (entries : List BoundRef) (other : BoundRef) → same_listing_entry other entry ≡ false
    → lists entries other ≡ false → lists (with_listing_entry entries entry) other ≡ false
lists-more entry entries other differ none = elim (cases_Bool (lists entries entry)) [
  | inl t ↦ ap (λ es. lists es other) (cond-true (lists entries entry) entries (entries ++ entry ∷ []) t) ∙ none
  | inr f ↦ ap (λ es. lists es other) (cond-false (lists entries entry) entries (entries ++ entry ∷ []) f)
      ∙ list_any-append (same_listing_entry other) entries (entry ∷ [])
      ∙ or_from (lists entries other) (lists (entry ∷ []) other) none
      (or_from (same_listing_entry other entry) false differ refl)
]

-- a text that stands alone in a listing is the one that it has
text-alone : (text other : List ℕ) (entries : List BoundRef) → lists (with_text_alone text entries) (text_entry other)
    ≡ bytes_eq other text
text-alone text other entries = elim (cases_Bool (bytes_eq other text)) [
  | inl t ↦
      subst (λ (i : List ℕ). lists (with_text_alone text entries) (text_entry i) ≡ true)
      (sym (bytes_eq-true other text t))
      (lists-added (text_entry text) (without_other_texts text entries) (same_listing_entry-same (text_entry text)))
      ∙ sym t
  | inr f ↦
      lists-more (text_entry text) (without_other_texts text entries) (text_entry other) f
      (alone text other entries (λ same. both_ways (bytes_eq other text) f
      (ap (λ (i : List ℕ). bytes_eq other i) (sym same) ∙ bytes_eq-same other)))
      ∙ sym f
]

-- entries of arrows stay where those of texts come and go
kept-arrow : (role : Role) (passes : Bool) → (not (is_for_text role) ≡ true → passes ≡ true) → passes ≡ false
    → not (is_for_text role) ≡ false
kept-arrow roles.Arrow passes h f = absurd (both_ways passes f (h refl))
kept-arrow roles.Text passes h f = refl

arrows-filter : (passes : BoundRef → Bool) (entries : List BoundRef)
    → ((entry : BoundRef) → not (is_for_text entry.role) ≡ true → passes entry ≡ true)
    → arrow_entries (filter passes entries) ≡ arrow_entries entries
arrows-filter passes [] h = refl
arrows-filter passes (entry ∷ entries) h = elim (cases_Bool (passes entry)) [
  | inl t ↦ rw t (ap (λ (es : List BoundRef). if not (is_for_text entry.role) then entry ∷ es else es)
      (arrows-filter passes entries h))
  | inr f ↦ rw (f, kept-arrow entry.role (passes entry) (h entry) f) (arrows-filter passes entries h)
]

arrow-apart : (role : Role) (text id : List ℕ) → not (is_for_text role) ≡ true
    → not (same_role roles.Text role && bytes_eq text id) ≡ true
arrow-apart roles.Arrow text id h = refl
arrow-apart roles.Text text id h = absurd (false≢true h)

no-other : (role : Role) (text id : List ℕ) → not (is_for_text role) ≡ true
    → (not (is_for_text role) || bytes_eq text id) ≡ true
no-other roles.Arrow text id h = refl
no-other roles.Text text id h = absurd (false≢true h)

arrows-dropped : (text : List ℕ) (entries : List BoundRef)
    → arrow_entries (without_listing_entry (text_entry text) entries) ≡ arrow_entries entries
arrows-dropped text entries = arrows-filter (λ other. not (same_listing_entry (text_entry text) other)) entries
    (λ entry h. arrow-apart entry.role text entry.id h)

pub append-none : (entries : List BoundRef) → entries ++ [] ≡ entries
append-none [] = refl
append-none (entry ∷ entries) = ap (λ es. entry ∷ es) (append-none entries)

arrows-alone : (text : List ℕ) (entries : List BoundRef)
    → arrow_entries (with_text_alone text entries) ≡ arrow_entries entries
arrows-alone text entries =
    let left = without_other_texts text entries in
    let passed = arrows-filter (λ (other : BoundRef). not (is_for_text other.role) || bytes_eq text other.id) entries
    (λ entry h. no-other entry.role text entry.id h) in
    elim (cases_Bool (lists left (text_entry text))) [
      | inl t ↦ ap arrow_entries (cond-true (lists left (text_entry text)) left (left ++ text_entry text ∷ []) t)
          ∙ passed
      | inr f ↦ ap arrow_entries (cond-false (lists left (text_entry text)) left (left ++ text_entry text ∷ []) f)
          ∙ filter-append (λ (entry : BoundRef). not (is_for_text entry.role)) left (text_entry text ∷ [])
          ∙ append-none (arrow_entries left) ∙ passed
    ]

-- ---- names
pub is_id-apart : (id : List ℕ) (o : Option (List ℕ)) → o ≢ Some id → is_id id o ≡ false
is_id-apart id None apart = refl
is_id-apart id (Some other) apart = bytes_eq-apart id other (λ same. apart (ap Some (sym same)))

pub apart-still : (id : List ℕ) (new old : Option (List ℕ)) → old ≢ Some id → is_id id (apart_from new old) ≡ false
apart-still id new None apart = none new
  where
    none : (new : Option (List ℕ)) → is_id id (apart_from new None) ≡ false
    none None = refl
    none (Some x) = refl
apart-still id None (Some other) apart = is_id-apart id (Some other) apart
apart-still id (Some new) (Some other) apart = elim (cases_Bool (bytes_eq other new)) [
  | inl t ↦ rw t refl
  | inr f ↦ rw f (is_id-apart id (Some other) apart)
]

pub apart-there : (other new : List ℕ) → other ≢ new → is_id other (apart_from (Some new) (Some other)) ≡ true
apart-there other new apart = rw (bytes_eq-apart other new apart) (bytes_eq-same other)

-- ---- what a new listing or container leaves of an element
pub either-bound : (b : Bool) (e : ElementValue) (bound : List BoundRef)
    → (if b then record e { bound = bound } else e).bound ≡ (if b then bound else e.bound)
either-bound true e bound = refl
either-bound false e bound = refl

either-container : (b : Bool) (e : ElementValue) (bound : List BoundRef)
    → (if b then record e { bound = bound } else e).container ≡ e.container
either-container true e bound = refl
either-container false e bound = refl

either-rest : (b : Bool) (e : ElementValue) (bound : List BoundRef)
    → unlabelled_rest (if b then record e { bound = bound } else e) ≡ unlabelled_rest e
either-rest true e bound = refl
either-rest false e bound = refl

freed-container : (b : Bool) (e : ElementValue) → (if b then record e { container = None } else e).container
    ≡ (if b then None else e.container)
freed-container true e = refl
freed-container false e = refl

freed-bound : (b : Bool) (e : ElementValue) → (if b then record e { container = None } else e).bound ≡ e.bound
freed-bound true e = refl
freed-bound false e = refl

freed-rest : (b : Bool) (e : ElementValue) → unlabelled_rest (if b then record e { container = None } else e)
    ≡ unlabelled_rest e
freed-rest true e = refl
freed-rest false e = refl

named-container : (b c : Bool) (e : ElementValue) (name : Option (List ℕ))
    → (if b then record e { container = name } else (if c then record e { container = None } else e)).container
    ≡ (if b then name else (if c then None else e.container))
named-container true c e name = refl
named-container false c e name = freed-container c e

named-bound : (b c : Bool) (e : ElementValue) (name : Option (List ℕ))
    → (if b then record e { container = name } else (if c then record e { container = None } else e)).bound ≡ e.bound
named-bound true c e name = refl
named-bound false c e name = freed-bound c e

named-rest : (b c : Bool) (e : ElementValue) (name : Option (List ℕ))
    → unlabelled_rest (if b then record e { container = name } else (if c then record e { container = None } else e))
    ≡ unlabelled_rest e
named-rest true c e name = refl
named-rest false c e name = freed-rest c e

-- the listing of an element of an id, which loses an entry if something of that id does
abbrev pub unlisting : Option (List ℕ) → BoundRef → List ℕ → List BoundRef → List BoundRef
unlisting old entry id bound = if is_id id old then without_listing_entry entry bound else bound

pub unlisting-others : (old : Option (List ℕ)) (entry : BoundRef) (id : List ℕ) (bound : List BoundRef)
    → without_listing_entry entry (unlisting old entry id bound) ≡ without_listing_entry entry bound
unlisting-others old entry id bound = elim (cases_Bool (is_id id old)) [
  | inl t ↦ ap (without_listing_entry entry) (cond-true (is_id id old) (without_listing_entry entry bound) bound t)
      ∙ dropped-twice entry bound
  | inr f ↦ ap (without_listing_entry entry) (cond-false (is_id id old) (without_listing_entry entry bound) bound f)
]

unlisting-arrows : (old : Option (List ℕ)) (text id : List ℕ) (bound : List BoundRef)
    → arrow_entries (unlisting old (text_entry text) id bound) ≡ arrow_entries bound
unlisting-arrows old text id bound = elim (cases_Bool (is_id id old)) [
  | inl t ↦ ap arrow_entries (cond-true (is_id id old) (without_listing_entry (text_entry text) bound) bound t)
      ∙ arrows-dropped text bound
  | inr f ↦ ap arrow_entries (cond-false (is_id id old) (without_listing_entry (text_entry text) bound) bound f)
]

pub unlisting-lists : (old : Option (List ℕ)) (entry : BoundRef) (id : List ℕ) (bound : List BoundRef)
    → is_id id old ≡ true → lists (unlisting old entry id bound) entry ≡ false
unlisting-lists old entry id bound is =
    ap (λ (es : List BoundRef). lists es entry) (cond-true (is_id id old) (without_listing_entry entry bound) bound is)
    ∙ lists-dropped entry bound

-- ---- a label of an element
module _ (text container : List ℕ) (old : Option (List ℕ)) (e : ElementValue) where
  abbrev one : ElementValue
  one = with_container_of text container e

  abbrev two : ElementValue
  two = with_text_of text container one

  abbrev gone : Option (List ℕ)
  gone = apart_from (Some container) old

  abbrev new_container : Option (List ℕ)
  new_container = if bytes_eq text e.id
      && is_text e.kind then Some container else (if is_id container e.container then None else e.container)

  -- the listing of an element of an id, where that text stands alone if it is the container
  abbrev relisting : List ℕ → List BoundRef → List BoundRef
  relisting id bound = if bytes_eq container id then with_text_alone text bound else bound

  one-id : one.id ≡ e.id
  one-id = ap (λ (s : Self). s.id) (with_container_of-keeps text container e)

  two-id : two.id ≡ e.id
  two-id = ap (λ (s : Self). s.id) (with_text_of-keeps text container one) ∙ one-id

  pub labelled-container : (labelled text container old e).container ≡ new_container
  labelled-container =
      either-container (is_id two.id gone) two (without_listing_entry (text_entry text) two.bound)
      ∙ either-container (bytes_eq container one.id) one (with_text_alone text one.bound)
      ∙ named-container (bytes_eq text e.id && is_text e.kind) (is_id container e.container) e (Some container)

  pub labelled-bound : (labelled text container old e).bound
      ≡ unlisting gone (text_entry text) e.id (relisting e.id e.bound)
  labelled-bound =
      either-bound (is_id two.id gone) two (without_listing_entry (text_entry text) two.bound)
      ∙ ap (λ (i : List ℕ). unlisting gone (text_entry text) i two.bound) two-id
      ∙ ap (unlisting gone (text_entry text) e.id)
      (either-bound (bytes_eq container one.id) one (with_text_alone text one.bound)
      ∙ ap (λ (i : List ℕ). relisting i one.bound) one-id
      ∙ ap (relisting e.id) (named-bound (bytes_eq text e.id && is_text e.kind) (is_id container e.container) e
      (Some container)))

  pub labelled-rest : unlabelled_rest (labelled text container old e) ≡ unlabelled_rest e
  labelled-rest =
      either-rest (is_id two.id gone) two (without_listing_entry (text_entry text) two.bound)
      ∙ either-rest (bytes_eq container one.id) one (with_text_alone text one.bound)
      ∙ named-rest (bytes_eq text e.id && is_text e.kind) (is_id container e.container) e (Some container)

  -- the container lists that text alone
  pub labelled-alone : container ≡ e.id → (labelled text container old e).bound ≡ with_text_alone text e.bound
  labelled-alone is =
      let here = cond-true (bytes_eq container e.id) (with_text_alone text e.bound) e.bound
      (subst (λ (i : List ℕ). bytes_eq container i ≡ true) is (bytes_eq-same container)) in
      labelled-bound
      ∙ cond-false (is_id e.id gone) (without_listing_entry (text_entry text) (relisting e.id e.bound))
      (relisting e.id e.bound) (apart container old e.id (sym is))
      ∙ here

  relisted-other : e.id ≢ container → relisting e.id e.bound ≡ e.bound
  relisted-other differ = cond-false (bytes_eq container e.id) (with_text_alone text e.bound) e.bound
      (bytes_eq-apart container e.id (λ same. differ (sym same)))

  -- what isn't concerned stays
  pub labelled-other : e.id ≢ text → e.id ≢ container → old ≢ Some e.id → e.container ≢ Some container
      → labelled text container old e ≡ e
  labelled-other no-text no-container no-old unnamed =
      let first : one ≡ e =
      cond-false (bytes_eq text e.id && is_text e.kind) (record e { container = Some container })
      (if is_id container e.container then record e { container = None } else e)
      (and_left (bytes_eq text e.id) (is_text e.kind) (bytes_eq-apart text e.id (λ same. no-text (sym same))))
      ∙ cond-false (is_id container e.container) (record e { container = None }) e
      (is_id-apart container e.container unnamed) in
      let second : with_text_of text container e ≡ e =
      cond-false (bytes_eq container e.id) (record e { bound = with_text_alone text e.bound }) e
      (bytes_eq-apart container e.id (λ same. no-container (sym same))) in
      ap (λ (d : ElementValue). unlisted gone (text_entry text) (with_text_of text container d)) first
      ∙ ap (unlisted gone (text_entry text)) second
      ∙ cond-false (is_id e.id gone) (record e { bound = without_listing_entry (text_entry text) e.bound }) e
      (apart-still e.id (Some container) old no-old)

  new_container-other : e.id ≢ text → e.container ≢ Some container → new_container ≡ e.container
  new_container-other no-text unnamed =
      cond-false (bytes_eq text e.id && is_text e.kind) (Some container)
      (if is_id container e.container then None else e.container)
      (and_left (bytes_eq text e.id) (is_text e.kind) (bytes_eq-apart text e.id (λ same. no-text (sym same))))
      ∙ cond-false (is_id container e.container) None e.container (is_id-apart container e.container unnamed)

  -- nothing but the text names the container
  new_container-only : new_container ≡ Some container → text ≡ e.id
  new_container-only is = elim (cases_Bool (bytes_eq text e.id)) [
    | inl t ↦ bytes_eq-true text e.id t
    | inr f ↦
        let later =
        sym (cond-false (bytes_eq text e.id && is_text e.kind) (Some container)
        (if is_id container e.container then None else e.container)
        (and_left (bytes_eq text e.id) (is_text e.kind) f)) ∙ is in
        absurd (elim (cases_Bool (is_id container e.container)) [
          | inl names ↦ none-some container (sym (cond-true (is_id container e.container) None e.container names)
              ∙ later)
          | inr other ↦ both_ways (is_id container e.container) other
              (is_id-from container e.container (sym (cond-false (is_id container e.container) None e.container other)
              ∙ later))
        ])
  ]

  relisting-arrows : arrow_entries (relisting e.id e.bound) ≡ arrow_entries e.bound
  relisting-arrows = elim (cases_Bool (bytes_eq container e.id)) [
    | inl t ↦ ap arrow_entries (cond-true (bytes_eq container e.id) (with_text_alone text e.bound) e.bound t)
        ∙ arrows-alone text e.bound
    | inr f ↦ ap arrow_entries (cond-false (bytes_eq container e.id) (with_text_alone text e.bound) e.bound f)
  ]

-- ---- an unlabel of an element
module _ (text : List ℕ) (old : Option (List ℕ)) (e : ElementValue) where
  abbrev freed : ElementValue
  freed = without_container_of text e

  freed-id : freed.id ≡ e.id
  freed-id = ap (λ (s : Self). s.id) (without_container_of-keeps text e)

  pub unlabelled-container : (unlabelled text old e).container ≡ (if bytes_eq text e.id then None else e.container)
  unlabelled-container =
      either-container (is_id freed.id old) freed (without_listing_entry (text_entry text) freed.bound)
      ∙ freed-container (bytes_eq text e.id) e

  pub unlabelled-bound : (unlabelled text old e).bound ≡ unlisting old (text_entry text) e.id e.bound
  unlabelled-bound =
      either-bound (is_id freed.id old) freed (without_listing_entry (text_entry text) freed.bound)
      ∙ ap (λ (i : List ℕ). unlisting old (text_entry text) i freed.bound) freed-id
      ∙ ap (unlisting old (text_entry text) e.id) (freed-bound (bytes_eq text e.id) e)

  pub unlabelled-kept : unlabelled_rest (unlabelled text old e) ≡ unlabelled_rest e
  unlabelled-kept =
      either-rest (is_id freed.id old) freed (without_listing_entry (text_entry text) freed.bound)
      ∙ freed-rest (bytes_eq text e.id) e

  pub unlabelled-other : e.id ≢ text → old ≢ Some e.id → unlabelled text old e ≡ e
  unlabelled-other no-text no-old =
      ap (unlisted old (text_entry text)) (cond-false (bytes_eq text e.id) (record e { container = None }) e
      (bytes_eq-apart text e.id (λ same. no-text (sym same))))
      ∙ cond-false (is_id e.id old) (record e { bound = without_listing_entry (text_entry text) e.bound }) e
      (is_id-apart e.id old no-old)

-- ---- what is stored then
module _ (stored shown : List ElementValue) (time nonce : ℕ) (given : List ElementValue)
    (ordered : are_rising (ids_of stored) ≡ true) where
  module _ (container text : List ℕ) (told : outcome stored shown (commands.Label container text) time nonce ≡ Ok given)
    where
      abbrev label : Command
      label = commands.Label container text

      abbrev before : Option (List ℕ)
      before = old_container stored text

      is-text : (old : ElementValue) → element_of stored text ≡ Some old → is_text old.kind ≡ true
      is-text old found =
          sym (ap (λ (o : Option ElementValue). option_map_or (λ (e : ElementValue). is_text e.kind) o false) found)
          ∙ right-kind (is_kind_of stored is_text text) text
          (or-none (unless_right (is_kind_of stored can_hold_text container) container)
          (unless_right (is_kind_of stored is_text text) text)
          (none-misfit stored shown label time nonce given told)).1

      -- the text names the container
      pub label-names : IsSomeAnd (stored_after stored given text) (λ (e : ElementValue). e.container ≡ Some container)
      label-names = named-after stored shown label time nonce given told ordered (λ (e : ElementValue). e.container
          ≡ Some container) text (Contains-cons container (text ∷ []) text (Contains-head text []))
          (λ old found live e same.
          ap (λ (d : ElementValue). d.container) same ∙ labelled-container text container before old
          ∙ cond-true (bytes_eq text old.id && is_text old.kind) (Some container)
          (if is_id container old.container then None else old.container)
          (and_from (bytes_eq text old.id) (is_text old.kind)
          (subst (λ (i : List ℕ). bytes_eq text i ≡ true) (own-id stored text old found) (bytes_eq-same text))
          (is-text old found)))

      -- the container lists it, and no other text
      pub label-lists : (other : List ℕ) → IsSomeAnd (stored_after stored given container)
          (λ (e : ElementValue). lists e.bound (text_entry other) ≡ bytes_eq other text)
      label-lists other = named-after stored shown label time nonce given told ordered
          (λ (e : ElementValue). lists e.bound (text_entry other) ≡ bytes_eq other text) container
          (Contains-head container (text ∷ []))
          (λ old found live e same.
          ap (λ (d : ElementValue). lists d.bound (text_entry other)) same
          ∙ ap (λ (bound : List BoundRef). lists bound (text_entry other))
          (labelled-alone text container before old (own-id stored container old found))
          ∙ text-alone text other old.bound)

      -- no other live element names the container
      pub label-only : (id : List ℕ) (e : ElementValue) → stored_after stored given id ≡ Some e → is_live e ≡ true
          → e.container ≡ Some container → id ≡ text
      label-only id e is live names =
          let from = live-before stored shown label time nonce given told ordered refl id e is live in
          own-id stored id from.0 from.1
          ∙ sym (new_container-only text container before from.0
          (sym (ap (λ (d : ElementValue). d.container) from.2 ∙ labelled-container text container before from.0)
          ∙ names))

      -- what the text named before doesn't list it any more
      pub label-left : (id : List ℕ) (e : ElementValue) → before ≡ Some id → id ≢ container
          → stored_after stored given id ≡ Some e → is_live e ≡ true → lists e.bound (text_entry text) ≡ false
      label-left id e was differ is live =
          let from = live-before stored shown label time nonce given told ordered refl id e is live in
          let there : is_id from.0.id (apart_from (Some container) before) ≡ true =
          ap (λ (o : Option (List ℕ)). is_id from.0.id (apart_from (Some container) o)) was
          ∙ ap (λ (i : List ℕ). is_id i (apart_from (Some container) (Some id))) (sym (own-id stored id from.0 from.1))
          ∙ apart-there id container differ in
          ap (λ (d : ElementValue). lists d.bound (text_entry text)) from.2
          ∙ ap (λ (bound : List BoundRef). lists bound (text_entry text)) (labelled-bound text container before from.0)
          ∙ unlisting-lists (apart_from (Some container) before) (text_entry text) from.0.id
          (relisting text container before from.0 from.0.id from.0.bound) there

      -- all else of a live element stays
      pub label-keeps : (id : List ℕ) (old : ElementValue) → element_of stored id ≡ Some old → is_live old ≡ true
          → IsSomeAnd (stored_after stored given id) (λ (e : ElementValue). LabelKeeps stored container text old e)
      label-keeps id old found live = of-live stored shown label time nonce given told ordered
          (λ (e : ElementValue). LabelKeeps stored container text old e) id old found live
          (λ e same.
          let listing : e.bound ≡ unlisting (apart_from (Some container) before) (text_entry text) old.id
          (relisting text container before old old.id old.bound) =
          ap (λ (d : ElementValue). d.bound) same ∙ labelled-bound text container before old in
          record {
            rest = ap unlabelled_rest same ∙ labelled-rest text container before old;
            named = λ no-text unnamed.
                ap (λ (d : ElementValue). d.container) same ∙ labelled-container text container before old
                ∙ new_container-other text container before old no-text unnamed;
            listing = λ no-container no-old.
                listing
                ∙ cond-false (is_id old.id (apart_from (Some container) before))
                (without_listing_entry (text_entry text) (relisting text container before old old.id old.bound))
                (relisting text container before old old.id old.bound)
                (apart-still old.id (Some container) before no-old)
                ∙ relisted-other text container before old no-container;
            arrows = ap arrow_entries listing
                ∙ unlisting-arrows (apart_from (Some container) before) text old.id
                (relisting text container before old old.id old.bound) ∙ relisting-arrows text container before old;
            others = λ no-container.
                ap (without_listing_entry (text_entry text)) listing
                ∙ unlisting-others (apart_from (Some container) before) (text_entry text) old.id
                (relisting text container before old old.id old.bound)
                ∙ ap (without_listing_entry (text_entry text)) (relisted-other text container before old no-container);
          })

      -- and what isn't concerned stays whole
      pub label-kept : (id : List ℕ) → id ≢ text → id ≢ container → before ≢ Some id
          → old_container stored id ≢ Some container → Stays stored given id
      label-kept id no-text no-container no-old unnamed = stays stored shown label time nonce given told ordered refl id
          (λ old found.
          let own = own-id stored id old found in
          labelled-other text container before old (λ same. no-text (own ∙ same)) (λ same. no-container (own ∙ same))
          (λ same. no-old (same ∙ ap Some (sym own)))
          (λ same. unnamed (ap (option_and_then (λ (e : ElementValue). e.container)) found ∙ same)))

  module _ (text : List ℕ) (told : outcome stored shown (commands.Unlabel text) time nonce ≡ Ok given) where
    abbrev unlabel : Command
    unlabel = commands.Unlabel text

    abbrev held : Option (List ℕ)
    held = old_container stored text

    -- the text names no container
    pub unlabel-frees : IsSomeAnd (stored_after stored given text) (λ (e : ElementValue). e.container ≡ None)
    unlabel-frees = named-after stored shown unlabel time nonce given told ordered (λ (e : ElementValue). e.container
        ≡ None) text (Contains-head text [])
        (λ old found live e same.
        ap (λ (d : ElementValue). d.container) same ∙ unlabelled-container text held old
        ∙ cond-true (bytes_eq text old.id) None old.container
        (subst (λ (i : List ℕ). bytes_eq text i ≡ true) (own-id stored text old found) (bytes_eq-same text)))

    -- and what it named doesn't list it
    pub unlabel-left : (id : List ℕ) (e : ElementValue) → held ≡ Some id → stored_after stored given id ≡ Some e
        → is_live e ≡ true → lists e.bound (text_entry text) ≡ false
    unlabel-left id e was is live =
        let from = live-before stored shown unlabel time nonce given told ordered refl id e is live in
        ap (λ (d : ElementValue). lists d.bound (text_entry text)) from.2
        ∙ ap (λ (bound : List BoundRef). lists bound (text_entry text)) (unlabelled-bound text held from.0)
        ∙ unlisting-lists held (text_entry text) from.0.id from.0.bound
        (is_id-from from.0.id held (was ∙ ap Some (own-id stored id from.0 from.1)))

    pub unlabel-keeps : (id : List ℕ) (old : ElementValue) → element_of stored id ≡ Some old → is_live old ≡ true
        → IsSomeAnd (stored_after stored given id) (λ (e : ElementValue). UnlabelKeeps stored text old e)
    unlabel-keeps id old found live = of-live stored shown unlabel time nonce given told ordered
        (λ (e : ElementValue). UnlabelKeeps stored text old e) id old found live
        (λ e same.
        let listing : e.bound ≡ unlisting held (text_entry text) old.id old.bound =
        ap (λ (d : ElementValue). d.bound) same ∙ unlabelled-bound text held old in
        record {
          rest = ap unlabelled_rest same ∙ unlabelled-kept text held old;
          named = λ no-text.
              ap (λ (d : ElementValue). d.container) same ∙ unlabelled-container text held old
              ∙ cond-false (bytes_eq text old.id) None old.container
              (bytes_eq-apart text old.id (λ same. no-text (sym same)));
          listing = λ no-old. listing ∙ cond-false (is_id old.id held)
              (without_listing_entry (text_entry text) old.bound) old.bound (is_id-apart old.id held no-old);
          others = ap (without_listing_entry (text_entry text)) listing
              ∙ unlisting-others held (text_entry text) old.id old.bound;
        })

    pub unlabel-kept : (id : List ℕ) → id ≢ text → held ≢ Some id → Stays stored given id
    unlabel-kept id no-text no-old = stays stored shown unlabel time nonce given told ordered refl id
        (λ old found.
        let own = own-id stored id old found in
        unlabelled-other text held old (λ same. no-text (own ∙ same)) (λ same. no-old (same ∙ ap Some (sym own))))
