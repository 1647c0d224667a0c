-- For what wasn't reached from a change settling looks at the same before and after it, and what surrounds what was
-- reached is all at which it looks for that.
use Rattle.std.proofs.Common.{◌≡◌, ◌⊎◌, ℕ, Bool, true, false, not, ◌||◌, List, [], ◌∷◌, Some, None, Option, Contains, filter, find, map, refl, sym, ap, ◌∙◌, subst, inl, inr}
use Rattle.std.specs.List.Sorted.{IsPermutation}
use Rattle.std.specs.Option.{option_map, option_map_or}
use Rattle.std.proofs.lemmas.Bool.{both_ways, and_parts, cases_Bool, false_from_ne_true, or_left, or_right}
use Rattle.std.proofs.lemmas.List.Elements.{All-contains}
use Rattle.std.proofs.lemmas.List.Sorted.{Contains-permutation, IsPermutation-sym}
use Rattle.frac_keys.specs.Rising.{are_rising}
use Rattle.elem.specs.ElementValue.{ElementValue}
use Rattle.elem.specs.Order.{has_id, HaveDistinctIds}
use Rattle.elem_store.specs.Updates.{element_of, ids_of, is_among}
use Rattle.elem_store.proofs.CallerLemmas.{find-Some, member, same_id}
use Rattle.links.specs.Looks.{kind_at, ends_at, HaveItsContainer, HaveOneTarget, HasItsContainer, LookAlike}
use Rattle.links.specs.Names.{id_of, is_id, is_text, names_container, has_end_at}
use Rattle.links.specs.Steps.{links_to}
use Rattle.links.proofs.CallerLemmas.{Contains-map, container-named, end-named, filter-among, find-among, find-map, found-own}
use Rattle.view.specs.Shown.{in_scene_order, without_index}
use Rattle.view.specs.Steps.{HasAllSeenFramed}
use Rattle.view.proofs.CallerLemmas.{HaveDistinctIds-permuted, HaveDistinctIds-rising, IsPermutation-in_scene_order}
use Rattle.kept_view.specs.inner.Reached.{is_text_or_to, is_to_text, AreSurrounded, HaveReached, IsStartedBy, AreStartedBy}
use Rattle.kept_view.proofs.Framed.{AreKindsKept}

-- each element of a list is one of others, but for its key
abbrev pub IsOneOf : List ElementValue → ElementValue → Type 0
IsOneOf others e = (f : ElementValue) × Contains others f × (without_index e ≡ without_index f)

abbrev pub AreOf : List ElementValue → List ElementValue → List ElementValue → Type 0
AreOf live news list = (e : ElementValue) → Contains list e → IsOneOf live e ⊎ IsOneOf news e

module _ (live news : List ElementValue) (start near : List (List ℕ)) (started : AreStartedBy start news)
    (reached : HaveReached live start near) where
  begins : (e : ElementValue) → Contains news e → IsStartedBy start e
  begins e c = All-contains (IsStartedBy start) news e started c

  pub started-near : (id : List ℕ) → is_among start id ≡ true → is_among near id ≡ true
  started-near id h = reached.to_texts.kept id (reached.texts.kept id (reached.linked.kept id h))

  two-out : (id : List ℕ) → is_among near id ≡ false → is_among reached.two id ≡ false
  two-out id out =
      false_from_ne_true (is_among reached.two id) (λ h. both_ways (is_among near id) out (reached.to_texts.kept id h))

  one-out : (id : List ℕ) → is_among reached.two id ≡ false → is_among reached.one id ≡ false
  one-out id out = false_from_ne_true (is_among reached.one id)
      (λ h. both_ways (is_among reached.two id) out (reached.texts.kept id h))

  start-out : (id : List ℕ) → is_among reached.one id ≡ false → is_among start id ≡ false
  start-out id out =
      false_from_ne_true (is_among start id) (λ h. both_ways (is_among reached.one id) out (reached.linked.kept id h))

  abbrev off : ElementValue → Bool
  off e = not (is_among start e.id)

  -- ---- what wasn't reached
  module _ (rising : are_rising (ids_of live) ≡ true) (after before drawn : List ElementValue)
      (kinds : AreKindsKept live after start)
      (of-before : (e : ElementValue) → Contains before e → IsOneOf live e) (of-drawn : AreOf live news drawn)
      (kinds-before : (id : List ℕ) → kind_at before id ≡ kind_at live id)
      (kinds-drawn : (id : List ℕ) → kind_at drawn id ≡ kind_at after id)
      (same : filter off before ≡ filter off drawn) where
    far-link : (c : List ℕ) → is_among reached.one c ≡ false → (e : ElementValue) → IsOneOf live e ⊎ IsOneOf news e
        → links_to c e ≡ true → off e ≡ true
    far-link c out e (inl f) links =
        ap not (false_from_ne_true (is_among start e.id) (λ h. both_ways (is_among reached.one c) out
        (reached.linked.linked f.0 c f.1 (sym (ap (λ (x : ElementValue). is_among start x.id) f.2) ∙ h)
        (sym (ap (links_to c) f.2) ∙ links))))
    far-link c out e (inr f) links = absurd (both_ways (is_among start c) (start-out c out)
        ((begins f.0 f.1).1 c (sym (ap (links_to c) f.2) ∙ links)))

    same-namers : (p : ElementValue → Bool) (c : List ℕ) → is_among reached.one c ≡ false
        → ((e : ElementValue) → p e ≡ true → links_to c e ≡ true) → filter p before ≡ filter p drawn
    same-namers p c out links =
        sym (filter-among off p before (λ e there h. far-link c out e (inl (of-before e there)) (links e h)))
        ∙ ap (filter p) same
        ∙ filter-among off p drawn (λ e there h. far-link c out e (of-drawn e there) (links e h))

    off-own : (id : List ℕ) → is_among start id ≡ false → (e : ElementValue) → has_id id e ≡ true → off e ≡ true
    off-own id out e own = ap not (ap (is_among start) (sym (same_id id e own)) ∙ out)

    same-own : (id : List ℕ) → is_among start id ≡ false → find (has_id id) before ≡ find (has_id id) drawn
    same-own id out =
        sym (find-among off (has_id id) before (λ e there own. off-own id out e own)) ∙ ap (find (has_id id)) same
        ∙ find-among off (has_id id) drawn (λ e there own. off-own id out e own)

    container-far : (e : ElementValue) → Contains before e → is_among reached.two e.id ≡ false
        → HaveItsContainer before drawn e
    container-far e there out c names =
        let f = of-before e there in
        let named : names_container c f.0 ≡ true = sym (ap (names_container c) f.2) ∙ names in
        let far : is_among reached.one c ≡ false =
        false_from_ne_true (is_among reached.one c) (λ h. both_ways (is_among reached.two e.id) out
        (ap (λ (x : ElementValue). is_among reached.two x.id) f.2
        ∙ reached.texts.naming f.0 c f.1 h (container-named c f.0 named)
        (and_parts (is_text f.0.kind) (is_id c f.0.container) named).0)) in
        record {
          own = same-own c (start-out c far);
          texts = λ x is. ap (map id_of) (same-namers (names_container c) c far (container-named c));
        }

    -- what is held of a text's id is a text
    to-text : (t : List ℕ) (x e : ElementValue) → Contains before x → has_id t x ≡ true → is_text x.kind ≡ true
        → is_to_text live t e ≡ true
    to-text t x e there own text =
        let g = of-before x there in
        let named : t ≡ g.0.id = same_id t x own ∙ ap (λ (y : ElementValue). y.id) g.2 in
        ap (λ o. option_map_or (λ (y : ElementValue). is_text y.kind) o false)
        (ap (element_of live) named ∙ member None None live g.0 rising g.1)
        ∙ sym (ap (λ (y : ElementValue). is_text y.kind) g.2) ∙ text

    target-far : (e : ElementValue) (t : List ℕ) → Contains before e → is_among near e.id ≡ false
        → ends_at t e ≡ true → HaveOneTarget before drawn t
    target-far e t there out ends =
        let f = of-before e there in
        let named : ends_at t f.0 ≡ true = sym (ap (ends_at t) f.2) ∙ ends in
        let links : links_to t f.0 ≡ true = or_right (is_id t f.0.container) _ named in
        let off_start : is_among start f.0.id ≡ false =
        sym (ap (λ (x : ElementValue). is_among start x.id) f.2)
        ∙ start-out e.id (one-out e.id (two-out e.id out)) in
        record {
          kind = kinds-before t
              ∙ kinds f.0 t f.1 (or_right (is_id t f.0.container || is_id t f.0.frame) _ named) off_start
              ∙ sym (kinds-drawn t);
          text = λ x at' text.
              let found = find-Some (has_id t) before x at' in
              let far : is_among reached.two t ≡ false =
              false_from_ne_true (is_among reached.two t) (λ h. both_ways (is_among near e.id) out
              (ap (λ (y : ElementValue). is_among near y.id) f.2
              ∙ reached.to_texts.naming f.0 t f.1 h links (to-text t x f.0 found.0 found.1 text))) in (
                sym (same-own t (start-out t (one-out t far))) ∙ at',
                container-far x found.0 (subst (λ n. is_among reached.two n ≡ false) (same_id t x found.1) far),
              );
        }

    pub far-looks : (id : List ℕ) → is_among near id ≡ false → LookAlike before drawn id
    far-looks id out =
        let two = two-out id out in
        let one = one-out id two in
        record {
          own = same-own id (start-out id one);
          arrows = λ e is. ap (map id_of) (same-namers (has_end_at id) id one (end-named id));
          texts = λ e is. ap (map id_of) (same-namers (names_container id) id one (container-named id));
          container = λ e is.
              let found = find-Some (has_id id) before e is in
              container-far e found.0 (subst (λ n. is_among reached.two n ≡ false) (same_id id e found.1) two);
          targets = λ e t is ends.
              let found = find-Some (has_id id) before e is in
              target-far e t found.0 (subst (λ n. is_among near n ≡ false) (same_id id e found.1) out) ends;
        }

  -- ---- what surrounds what was reached
  module _ (list : List ElementValue) (wide : List (List ℕ)) (of : AreOf live news list)
      (around : AreSurrounded live news near wide) where
    in-two : (id : List ℕ) → is_among near id ≡ true → is_among around.two id ≡ true
    in-two id h = around.again.kept id (around.linked.kept id h)

    in-wide : (id : List ℕ) → is_among near id ≡ true → is_among wide id ≡ true
    in-wide id h = around.namers.kept id (in-two id h)

    to-one : (e : ElementValue) (c : List ℕ) → Contains list e → is_among near e.id ≡ true → links_to c e ≡ true
        → is_among around.one c ≡ true
    to-one e c there is links = by (of e there) where
      by : IsOneOf live e ⊎ IsOneOf news e → is_among around.one c ≡ true
      by (inl f) = around.linked.linked f.0 c f.1 (sym (ap (λ (x : ElementValue). is_among near x.id) f.2) ∙ is)
          (sym (ap (links_to c) f.2) ∙ links)
      by (inr f) =
          around.linked.kept c (started-near c ((begins f.0 f.1).1 c (sym (ap (links_to c) f.2) ∙ links)))

    to-two : (e : ElementValue) (c : List ℕ) → Contains list e → is_among around.one e.id ≡ true → links_to c e ≡ true
        → is_among around.two c ≡ true
    to-two e c there is links = by (of e there) where
      by : IsOneOf live e ⊎ IsOneOf news e → is_among around.two c ≡ true
      by (inl f) = around.again.linked f.0 c f.1 (sym (ap (λ (x : ElementValue). is_among around.one x.id) f.2) ∙ is)
          (sym (ap (links_to c) f.2) ∙ links)
      by (inr f) = in-two c (started-near c ((begins f.0 f.1).1 c (sym (ap (links_to c) f.2) ∙ links)))

    to-wide : (e : ElementValue) (c : List ℕ) → Contains list e → is_among around.two c ≡ true → links_to c e ≡ true
        → is_text_or_to near c e ≡ true → is_among wide e.id ≡ true
    to-wide e c there is links passes = by (of e there) where
      by : IsOneOf live e ⊎ IsOneOf news e → is_among wide e.id ≡ true
      by (inl f) = ap (λ (x : ElementValue). is_among wide x.id) f.2
          ∙ around.namers.naming f.0 c f.1 is (sym (ap (links_to c) f.2) ∙ links)
          (sym (ap (is_text_or_to near c) f.2) ∙ passes)
      by (inr f) = ap (λ (x : ElementValue). is_among wide x.id) f.2
          ∙ in-wide f.0.id (started-near f.0.id (begins f.0 f.1).0)

    its-container : (x : ElementValue) → Contains list x → is_among around.one x.id ≡ true
        → HasItsContainer (λ (e : ElementValue). is_among wide e.id) list x
    its-container x there one c names =
        let two = to-two x c there one (container-named c x names) in
        record {
          own = λ y at' own. subst (λ n. is_among wide n ≡ true) (same_id c y own) (around.namers.kept c two);
          texts = λ y t at' own there' h. to-wide t c there' two (container-named c t h)
              (or_right (is_among near c) _ (and_parts (is_text t.kind) (is_id c t.container) h).0);
        }

    pub surrounded-near : (id : List ℕ) → is_among near id ≡ true
        → HasAllSeenFramed (λ (e : ElementValue). is_among wide e.id) list id
    surrounded-near id is = record {
      linked = record {
        own = λ e there own. subst (λ n. is_among wide n ≡ true) (same_id id e own) (in-wide id is);
        namers = λ e other there own at' links. to-wide other id at' (in-two id is) links
            (or_left (is_among near id) (is_text other.kind) is);
        container = λ e there own. its-container e there
            (subst (λ n. is_among around.one n ≡ true) (same_id id e own) (around.linked.kept id is));
        targets = λ e t there own at' ends.
            let one = to-one e t.id there (subst (λ n. is_among near n ≡ true) (same_id id e own) is)
            (or_right (is_id t.id e.container) _ ends) in
            (around.namers.kept t.id (around.again.kept t.id one), its-container t at' one);
      };
      framed = λ e frame at' names there is_one.
          let found = find-Some (has_id id) list e at' in
          let near_it : is_among near e.id ≡ true =
          subst (λ n. is_among near n ≡ true) (same_id id e found.1) is in
          by e frame.id near_it names (of e found.0);
    }
      where
        by : (e : ElementValue) (frame : List ℕ) → is_among near e.id ≡ true → e.frame ≡ Some frame → IsOneOf live e
            ⊎ IsOneOf news e → is_among wide frame ≡ true
        by e frame near_it names (inl f) =
            around.frames f.0 frame f.1 (sym (ap (λ (x : ElementValue). is_among near x.id) f.2)
            ∙ near_it) (sym (ap (λ (x : ElementValue). x.frame) f.2) ∙ names)
        by e frame near_it names (inr f) =
            around.new_frames f.0 frame f.1 (sym (ap (λ (x : ElementValue). is_among near x.id) f.2)
            ∙ near_it) (sym (ap (λ (x : ElementValue). x.frame) f.2) ∙ names)

-- ---- a test of ids passes over keys
pub keyless-filter : (q : List ℕ → Bool) (es : List ElementValue)
    → map without_index (filter (λ (e : ElementValue). q e.id) es)
    ≡ filter (λ (e : ElementValue). q e.id) (map without_index es)
keyless-filter q [] = refl
keyless-filter q (e ∷ es) = elim (cases_Bool (q e.id)) [
  | inl is ↦ rw is (ap (λ xs. without_index e ∷ xs) (keyless-filter q es))
  | inr not ↦ rw not (keyless-filter q es)
]

-- ---- elements in another order, with whatever keys
found-moved : (es fs : List ElementValue) → IsPermutation es fs → HaveDistinctIds es → HaveDistinctIds fs
    → (id : List ℕ) → find (has_id id) fs ≡ find (has_id id) es
found-moved es fs moved apart apart' id = by (find (has_id id) es) (find (has_id id) fs) refl refl where
  by : (o p : Option ElementValue) → find (has_id id) es ≡ o → find (has_id id) fs ≡ p
      → find (has_id id) fs ≡ find (has_id id) es
  by (Some e) p is also =
      let found = find-Some (has_id id) es e is in
      found-own fs id e apart' (Contains-permutation es fs e moved found.0) found.1 ∙ sym is
  by None None is also = also ∙ sym is
  by None (Some f) is also =
      let found = find-Some (has_id id) fs f also in
      let never = sym is ∙ found-own es id f apart
      (Contains-permutation fs es f (IsPermutation-sym _ _ moved) found.0) found.1 in
      cc

kinds-moved : (es drawn : List ElementValue) → are_rising (ids_of es) ≡ true
    → map without_index drawn ≡ map without_index (in_scene_order es)
    → (id : List ℕ) → kind_at (map without_index drawn) id ≡ kind_at es id
kinds-moved es drawn rising same id =
    let apart = HaveDistinctIds-rising es rising in
    let moved = IsPermutation-in_scene_order es in
    ap (λ xs. kind_at xs id) same
    ∙ ap (option_map (λ (e : ElementValue). e.kind)) (find-map (has_id id) without_index (in_scene_order es))
    ∙ by (find (has_id id) (in_scene_order es))
    ∙ ap (option_map (λ (e : ElementValue). e.kind))
    (found-moved es (in_scene_order es) moved apart (HaveDistinctIds-permuted es _ moved apart) id)
  where
    by : (o : Option ElementValue) → option_map (λ (e : ElementValue). e.kind) (option_map without_index o)
        ≡ option_map (λ (e : ElementValue). e.kind) o
    by None = refl
    by (Some e) = refl

of-keyless : (live news list : List ElementValue) → AreOf live news list → AreOf live news (map without_index list)
of-keyless live news list of e there =
    let x = Contains-map without_index list e there in
    by x.0 (ap without_index (sym x.2)) (of x.0 x.1)
  where
    by : (x : ElementValue) → without_index e ≡ without_index x → IsOneOf live x ⊎ IsOneOf news x
        → IsOneOf live e ⊎ IsOneOf news e
    by x same (inl f) = inl (f.0, f.1, same ∙ f.2)
    by x same (inr f) = inr (f.0, f.1, same ∙ f.2)

-- Two lists look alike to what wasn't reached from a change, if they are the elements before it and after it in scene
-- order, with whatever keys.
pub placed-far : (live news after before drawn : List ElementValue) (start near : List (List ℕ))
    → AreStartedBy start news → HaveReached live start near → are_rising (ids_of live) ≡ true
    → are_rising (ids_of after) ≡ true → AreKindsKept live after start
    → map without_index before ≡ map without_index (in_scene_order live)
    → map without_index drawn ≡ map without_index (in_scene_order after)
    → ((e : ElementValue) → Contains before e → IsOneOf live e) → AreOf live news drawn
    → map without_index (filter (λ (e : ElementValue). not (is_among start e.id)) before)
    ≡ map without_index (filter (λ (e : ElementValue). not (is_among start e.id)) drawn)
    → (id : List ℕ) → is_among near id ≡ false → LookAlike (map without_index before) (map without_index drawn) id
placed-far live news after before drawn start near started reached rising rising_after kinds before-is drawn-is
    of-before of-drawn kept =
    far-looks live news start near started reached rising after (map without_index before) (map without_index drawn)
    kinds from-live (of-keyless live news drawn of-drawn) (kinds-moved live before rising before-is)
    (kinds-moved after drawn rising_after drawn-is)
    (sym (keyless-filter (λ id. not (is_among start id)) before) ∙ kept
    ∙ keyless-filter (λ id. not (is_among start id)) drawn)
  where
    from-live : (e : ElementValue) → Contains (map without_index before) e → IsOneOf live e
    from-live e there =
        let x = Contains-map without_index before e there in
        let f = of-before x.0 x.1 in
        (f.0, f.1, ap without_index (sym x.2) ∙ f.2)
