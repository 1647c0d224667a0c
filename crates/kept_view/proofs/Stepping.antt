-- What is reached from ids over links, and the frames that are named there, one id more each time.
use Rattle.std.proofs.Common.{◌≡◌, ℕ, ◌+◌, ◌<◌, Bool, true, false, ◌||◌, List, [], ◌∷◌, ◌++◌, length, take, get_or, Some, None, All, Contains, bytes_eq, filter, map, refl, sym, ap, ◌∙◌, subst, inl, inr}
use Rattle.std.proofs.lemmas.Bool.{or_cases, or_left, or_right}
use Rattle.std.proofs.lemmas.List.{take_more}
use Rattle.std.proofs.lemmas.List.Elements.{All-more, All-weaker}
use Rattle.std.proofs.lemmas.List.Folds.{list_any-append}
use Rattle.std.proofs.lemmas.Slice.Eq.{bytes_eq-Decides}
use Rattle.frac_keys.specs.Rising.{are_rising}
use Rattle.elem.specs.ElementValue.{ElementValue}
use Rattle.elem_store.specs.Updates.{element_of, ids_of, is_among}
use Rattle.links.specs.declared.rows.LinkRow.{LinkRow}
use Rattle.links.specs.Rows.{is_for, namer_of}
use Rattle.links.specs.Names.{is_id, end_names}
use Rattle.links.specs.Steps.{links_to, names_id}
use Rattle.view.proofs.CallerLemmas.{namer-among}
use Rattle.elem_store.proofs.CallerLemmas.{member}
use Rattle.kept_view.specs.inner.Reached.{AreAmong, HaveFrames, HaveLinked, HaveNamers, HasNamers, IsStartedBy, AreStartedBy, StaysKind}
use Rattle.view.specs.Kept.{HaveRowsOf}

-- ---- from one id
one_only : (id x : List ℕ) → is_among (id ∷ []) x ≡ true → x ≡ id
one_only id x h = (bytes_eq-Decides x id).0 (by (bytes_eq x id) h) where
  by : (b : Bool) → (b || false) ≡ true → b ≡ true
  by true h = refl
  by false h = h

-- what links to an id names it, and so does what names it as its frame
links-named : (id : List ℕ) (e : ElementValue) → links_to id e ≡ true → names_id id e ≡ true
links-named id e h =
    elim (or_cases (is_id id e.container) (end_names id e.start_binding || end_names id e.end_binding) h) [
      | inl is ↦ or_left (is_id id e.container || is_id id e.frame) _
          (or_left (is_id id e.container) (is_id id e.frame) is)
      | inr is ↦ or_right (is_id id e.container || is_id id e.frame) _ is
    ]

pub framed-named : (id : List ℕ) (e : ElementValue) → e.frame ≡ Some id → names_id id e ≡ true
framed-named id e h =
    or_left (is_id id e.container || is_id id e.frame) _
    (or_right (is_id id e.container) (is_id id e.frame) (ap (is_id id) h ∙ (bytes_eq-Decides id id).1 refl))

-- all that name an id are among the namers of its rows
pub linking-among : (live : List ElementValue) (rows : List LinkRow) (id : List ℕ) (e : ElementValue)
    → are_rising (ids_of live) ≡ true → HaveRowsOf live rows
    → Contains live e → links_to id e ≡ true → is_among (map namer_of (filter (is_for id) rows)) e.id ≡ true
linking-among live rows id e rising have c links = namer-among live rows id e rising have c (links-named id e links)

pub namers-among : (live : List ElementValue) (rows : List LinkRow) (id : List ℕ) → are_rising (ids_of live) ≡ true
    → HaveRowsOf live rows
    → HasNamers live (map namer_of (filter (is_for id) rows)) id
namers-among live rows id rising have e c names = namer-among live rows id e rising have c names

-- ---- from one id more
among-more : (ids : List (List ℕ)) (i : ℕ) (id x : List ℕ) → i < length ids → id ≡ get_or ids i id
    → is_among (take (i + 1) ids) x ≡ (is_among (take i ids) x || is_among (id ∷ []) x)
among-more ids i id x within there =
    ap (λ xs. is_among xs x) (take_more ids i id within ∙ ap (λ y. take i ids ++ y ∷ []) (sym there))
    ∙ list_any-append (bytes_eq x) (take i ids) (id ∷ [])

pub linked-none : (live : List ElementValue) (from to : List (List ℕ))
    → ((x : List ℕ) → is_among to x ≡ is_among from x) → HaveLinked live [] from to
linked-none live from to same = record { kept = λ x h. same x ∙ h; linked = λ e x c own links. cc }

pub linked-more : (live : List ElementValue) (ids : List (List ℕ)) (i : ℕ) (id : List ℕ)
    (from mid to : List (List ℕ)) → are_rising (ids_of live) ≡ true
    → i < length ids → id ≡ get_or ids i id → HaveLinked live (take i ids) from mid
    → AreAmong mid to
    → ((e : ElementValue) (x : List ℕ) → element_of live id ≡ Some e → links_to x e ≡ true → is_among to x ≡ true)
    → HaveLinked live (take (i + 1) ids) from to
linked-more live ids i id from mid to rising within there before kept linked = record {
  kept = λ x h. kept x (before.kept x h);
  linked = λ e x c own links. elim (or_cases (is_among (take i ids) e.id) (is_among (id ∷ []) e.id)
      (sym (among-more ids i id e.id within there) ∙ own)) [
        | inl first ↦ kept x (before.linked e x c first links)
        | inr last ↦ linked e x (ap (element_of live) (sym (one_only id e.id last))
            ∙ member None None live e rising c) links
      ];
}

pub namers-none : (passes : List ℕ → ElementValue → Bool) (live : List ElementValue) (from to : List (List ℕ))
    → ((x : List ℕ) → is_among to x ≡ is_among from x) → HaveNamers passes live [] from to
namers-none passes live from to same =
    record { kept = λ x h. same x ∙ h; naming = λ e x c own links is. cc }

pub namers-more : (passes : List ℕ → ElementValue → Bool) (live : List ElementValue) (ids : List (List ℕ)) (i : ℕ)
    (id : List ℕ) (from mid to : List (List ℕ)) → i < length ids → id ≡ get_or ids i id
    → HaveNamers passes live (take i ids) from mid → AreAmong mid to
    → ((e : ElementValue) → Contains live e → links_to id e ≡ true → passes id e ≡ true → is_among to e.id ≡ true)
    → HaveNamers passes live (take (i + 1) ids) from to
namers-more passes live ids i id from mid to within there before kept naming = record {
  kept = λ x h. kept x (before.kept x h);
  naming = λ e x c own links is. elim (or_cases (is_among (take i ids) x) (is_among (id ∷ []) x)
      (sym (among-more ids i id x within there) ∙ own)) [
        | inl first ↦ kept e.id (before.naming e x c first links is)
        | inr last ↦
            let same : x ≡ id = one_only id x last in
            naming e c (ap (λ n. links_to n e) (sym same) ∙ links) (ap (λ n. passes n e) (sym same) ∙ is)
      ];
}

-- what names some ids does with more ids
pub namers-kept : (passes : List ℕ → ElementValue → Bool) (live : List ElementValue) (over from old new : List (List ℕ))
    → AreAmong old new → HaveNamers passes live over from old → HaveNamers passes live over from new
namers-kept passes live over from old new kept have = record {
  kept = λ x h. kept x (have.kept x h);
  naming = λ e x c own links is. kept e.id (have.naming e x c own links is);
}

-- ---- what links to an id, one namer more
abbrev pub LinkAmong : (ElementValue → Bool) → List ElementValue → List ℕ → List (List ℕ) → List (List ℕ) → Type 0
LinkAmong passes live id namers ids =
    (e : ElementValue) → Contains live e → links_to id e ≡ true → passes e ≡ true → is_among namers e.id ≡ true
    → is_among ids e.id ≡ true

pub linking-more : (passes : ElementValue → Bool) (live : List ElementValue) (id : List ℕ) (namers : List (List ℕ))
    (i : ℕ) (namer : List ℕ) (old new : List (List ℕ)) → are_rising (ids_of live) ≡ true
    → i < length namers → namer ≡ get_or namers i namer → LinkAmong passes live id (take i namers) old
    → AreAmong old new
    → ((e : ElementValue) → element_of live namer ≡ Some e → links_to id e ≡ true → passes e ≡ true
    → is_among new namer ≡ true) → LinkAmong passes live id (take (i + 1) namers) new
linking-more passes live id namers i namer old new rising within there before kept linking e c links is own =
    elim (or_cases (is_among (take i namers) e.id) (is_among (namer ∷ []) e.id)
    (sym (among-more namers i namer e.id within there) ∙ own)) [
      | inl first ↦ kept e.id (before e c links is first)
      | inr last ↦
          let same : e.id ≡ namer = one_only namer e.id last in
          ap (is_among new) same ∙ linking e (ap (element_of live) (sym same) ∙ member None None live e rising c)
          links is
    ]

-- ---- frames that are named, of one id or element more
pub frames-none : (live : List ElementValue) (to : List (List ℕ)) → HaveFrames live [] to
frames-none live to e id c own names = cc

pub frames-more : (live : List ElementValue) (ids : List (List ℕ)) (i : ℕ) (id : List ℕ) (old new : List (List ℕ))
    → are_rising (ids_of live) ≡ true
    → i < length ids → id ≡ get_or ids i id → HaveFrames live (take i ids) old
    → AreAmong old new
    → ((e : ElementValue) (frame : List ℕ) → element_of live id ≡ Some e → e.frame ≡ Some frame
    → is_among new frame ≡ true) → HaveFrames live (take (i + 1) ids) new
frames-more live ids i id old new rising within there before kept named e frame c own names =
    elim (or_cases (is_among (take i ids) e.id) (is_among (id ∷ []) e.id)
    (sym (among-more ids i id e.id within there)
    ∙ own)) [
      | inl first ↦ kept frame (before e frame c first names)
      | inr last ↦ named e frame (ap (element_of live) (sym (one_only id e.id last))
          ∙ member None None live e rising c) names
    ]

abbrev pub HasFrame : List (List ℕ) → ElementValue → Type 0
HasFrame ids e = (frame : List ℕ) → e.frame ≡ Some frame → is_among ids frame ≡ true

pub frames_of-more : (elements : List ElementValue) (i : ℕ) (e : ElementValue) (old new : List (List ℕ))
    → i < length elements → e ≡ get_or elements i e → All (HasFrame old) (take i elements)
    → ((x : List ℕ) → is_among new x ≡ (is_id x e.frame || is_among old x))
    → All (HasFrame new) (take (i + 1) elements)
frames_of-more elements i e old new within there before are =
    All-more (HasFrame new) elements i e within
    (All-weaker (HasFrame old) (HasFrame new) (λ f has frame names. are frame
    ∙ or_right (is_id frame e.frame) (is_among old frame) (has frame names)) (take i elements) before)
    (subst (HasFrame new) there (λ frame names. are frame
    ∙ or_left (is_id frame e.frame) (is_among old frame) (ap (is_id frame) names
    ∙ (bytes_eq-Decides frame frame).1 refl)))

-- ---- the kinds of one element more
pub stays-kept : (live : List ElementValue) (old new : List (List ℕ))
    → AreAmong old new → (e : ElementValue) → StaysKind live old e → StaysKind live new e
stays-kept live old new kept e (inl same) = inl same
stays-kept live old new kept e (inr has) = inr (λ m c names. kept m.id (has m c names))

pub kinds-more : (live elements : List ElementValue) (i : ℕ) (e : ElementValue) (old new : List (List ℕ))
    → i < length elements → e ≡ get_or elements i e → All (StaysKind live old) (take i elements)
    → AreAmong old new → StaysKind live new e → All (StaysKind live new) (take (i + 1) elements)
kinds-more live elements i e old new within there before kept own =
    All-more (StaysKind live new) elements i e within
    (All-weaker (StaysKind live old) (StaysKind live new) (stays-kept live old new kept) (take i elements) before)
    (subst (StaysKind live new) there own)

-- what began some elements begins them with more ids
pub started-kept : (elements : List ElementValue) (old new : List (List ℕ)) → AreAmong old new
    → AreStartedBy old elements → AreStartedBy new elements
started-kept elements old new kept started =
    All-weaker (IsStartedBy old) (IsStartedBy new) (λ e is. (kept e.id is.0, λ x links. kept x (is.1 x links)))
    elements
    started

-- ---- where it begins
pub started-more : (elements : List ElementValue) (i : ℕ) (e : ElementValue) (old mid new : List (List ℕ))
    → i < length elements → e ≡ get_or elements i e → AreStartedBy old (take i elements)
    → ((x : List ℕ) → is_among mid x ≡ (bytes_eq x e.id || is_among old x))
    → ((x : List ℕ) → is_among new x ≡ (links_to x e || is_among mid x)) → AreStartedBy new (take (i + 1) elements)
started-more elements i e old mid new within there before first second =
    All-more (IsStartedBy new) elements i e within
    (All-weaker (IsStartedBy old) (IsStartedBy new) (λ f is. (grown f.id is.0, λ x links. grown x (is.1 x links)))
    (take i elements) before)
    (subst (IsStartedBy new) there (
      grown' e.id (first e.id
          ∙ or_left (bytes_eq e.id e.id) (is_among old e.id) ((bytes_eq-Decides e.id e.id).1 refl)),
      λ x links. second x
          ∙ or_left (links_to x e) (is_among mid x) links,
    ))
  where
    grown' : (x : List ℕ) → is_among mid x ≡ true → is_among new x ≡ true
    grown' x h = second x ∙ or_right (links_to x e) (is_among mid x) h

    grown : (x : List ℕ) → is_among old x ≡ true → is_among new x ≡ true
    grown x h = grown' x (first x ∙ or_right (bytes_eq x e.id) (is_among old x) h)
