-- The least entry of an id.
use Rattle.std.proofs.Common.{◌≡◌, ℕ, true, false, cond, ◌⊎◌, ◌↔◌, List, [], ◌∷◌, ◌++◌, Option, Some, None, Contains, bytes_eq, refl, sym, ap, ◌∙◌, subst, inl, inr, arith}
use Rattle.std.specs.List.{AllByRecursion, IsDistinct}
use Rattle.std.proofs.lemmas.Bool.{cases_Bool, cond-true, cond-false}
use Rattle.std.proofs.lemmas.List.Elements.{Contains-append_left, Contains-append_right, Contains-append_cases, Contains-push, Contains-push_cases}
use Rattle.std.proofs.lemmas.Slice.Eq.{bytes_eq-Decides}
use Rattle.json_text.specs.Compact.{Member as Pair}
use Rattle.json_text.specs.Parts.{names_of}
use Rattle.json_text.proofs.CallerLemmas.{bytes_eq-true}
use Rattle.scene_json.specs.Named.{value_at, HaveRisingNames}
use Rattle.scene_json.proofs.CallerLemmas.{rising_distinct, rising_same, rising_none}
use Rattle.frac_keys.specs.Keys.{bytes_less}
use Rattle.frac_keys.proofs.CallerLemmas.{bytes_less_itself, bytes-neither}
use Rattle.file_table.specs.Table.{lesser, lesser_of, least_entry, IsLeast, AreLeastEntries}
use Rattle.file_table.proofs.Lesser.{less_order, lesser_either, lesser_of-either}

-- ---- of two lists joined end to end
pub least-append : (given others : List Pair) (id : List ℕ)
    → least_entry (given ++ others) id ≡ lesser_either (least_entry given id) (least_entry others id)
least-append [] others id = refl
least-append (file ∷ given) others id =
    elim (bytes_eq id file.0) as (λ b. cond b (Some (lesser_of file.1 (least_entry (given ++ others) id)))
    (least_entry (given ++ others) id)
    ≡ lesser_either (cond b (Some (lesser_of file.1 (least_entry given id))) (least_entry given id))
    (least_entry others id)) [
      | true ↦ ap (λ o. Some (lesser_of file.1 o)) (least-append given others id)
          ∙ ap Some (lesser_of-either file.1 (least_entry given id) (least_entry others id))
      | false ↦ least-append given others id
    ]

-- ---- of a list in which no id comes twice

absent : (id : List ℕ) (files : List Pair) → AllByRecursion (λ other. bytes_eq id other ≡ false) (names_of files)
    → value_at id files ≡ None
absent id [] h = refl
absent id (file ∷ files) h = cond-false (bytes_eq id file.0) (Some file.1) (value_at id files) h.0 ∙ absent id files h.1

pub least-distinct : (files : List Pair) (id : List ℕ) → IsDistinct bytes_eq (names_of files)
    → least_entry files id ≡ value_at id files
unfolding IsDistinct
least-distinct [] id h = refl
least-distinct (file ∷ files) id h =
    let rest = least_entry files id in
    elim (cases_Bool (bytes_eq id file.0)) [
      | inl t ↦ cond-true (bytes_eq id file.0) (Some (lesser_of file.1 rest)) rest t
          ∙ ap (λ o. Some (lesser_of file.1 o)) (least-distinct files id h.1
          ∙ ap (λ i. value_at i files) (bytes_eq-true id file.0 t) ∙ absent file.0 files h.0)
          ∙ sym (cond-true (bytes_eq id file.0) (Some file.1) (value_at id files) t)
      | inr f ↦ cond-false (bytes_eq id file.0) (Some (lesser_of file.1 rest)) rest f ∙ least-distinct files id h.1
          ∙ sym (cond-false (bytes_eq id file.0) (Some file.1) (value_at id files) f)
    ]

pub least-own : (files : List Pair) (id : List ℕ) → HaveRisingNames files → least_entry files id ≡ value_at id files
least-own files id rising = least-distinct files id (rising_distinct files rising)

-- ---- it is the least
here : (file : Pair) (files : List Pair) (id entry : List ℕ) → file.0 ≡ id → file.1 ≡ entry
    → Contains (file ∷ files) (id, entry)
here file files id entry p q = subst (Contains (file ∷ files)) (λ i. (p i, q i))
    (Contains-append_left (file ∷ []) files file (Contains-push [] file))

there : (file : Pair) (files : List Pair) (other : Pair) → Contains files other → Contains (file ∷ files) other
there file files other c = Contains-append_right (file ∷ []) files other c

which : (file : Pair) (files : List Pair) (other : Pair) → Contains (file ∷ files) other → (file ≡ other)
    ⊎ Contains files other
which file files other c =
    elim (Contains-append_cases (file ∷ []) files other c) [
      | inl first ↦ elim (Contains-push_cases [] file other first) [
        | inl none ↦ absurd (nothing none)
        | inr same ↦ inl same
      ]
      | inr later ↦ inr later
    ]
  where
    nothing : Contains [] other → ⊥
    nothing c = let l = c.1 in omega arith

least-among : (given : List Pair) (id entry : List ℕ) → least_entry given id ≡ Some entry → Contains given (id, entry)
least-among [] id entry h = absurd (cc)
least-among (file ∷ given) id entry h =
    elim (cases_Bool (bytes_eq id file.0)) [
      | inl t ↦ first (least-among given id entry) t (least_entry given id) refl
          (sym (cond-true (bytes_eq id file.0) (Some (lesser_of file.1 (least_entry given id))) (least_entry given id)
          t) ∙ h)
      | inr f ↦ there file given (id, entry) (least-among given id entry
          (sym (cond-false (bytes_eq id file.0) (Some (lesser_of file.1 (least_entry given id))) (least_entry given id)
          f) ∙ h))
    ]
  where
    first : (least_entry given id ≡ Some entry → Contains given (id, entry)) → bytes_eq id file.0 ≡ true
        → (o : Option (List ℕ)) → least_entry given id ≡ o → Some (lesser_of file.1 o) ≡ Some entry
        → Contains (file ∷ given) (id, entry)
    first later t None is e = here file given id entry (sym (bytes_eq-true id file.0 t)) (cc)
    first later t (Some x) is e =
        elim (cases_Bool (bytes_less x file.1)) [
          | inl l ↦ let one : lesser file.1 x ≡ x = cond-true (bytes_less x file.1) x file.1 l in
              there file given (id, entry) (later (is ∙ ap Some (sym one) ∙ e))
          | inr g ↦ let one : lesser file.1 x ≡ file.1 = cond-false (bytes_less x file.1) x file.1 g in
              here file given id entry (sym (bytes_eq-true id file.0 t)) (cc)
        ]

-- no entry that was given for the id is less
least-bound : (given : List Pair) (id entry : List ℕ) → Contains given (id, entry) → (found : List ℕ)
    × (least_entry given id ≡ Some found) × (bytes_less entry found ≡ false)
least-bound [] id entry c = absurd (let l = c.1 in omega arith)
least-bound (file ∷ given) id entry c =
    elim (which file given (id, entry) c) [
      | inl same ↦
          let t : bytes_eq id file.0 ≡ true = (bytes_eq-Decides id file.0).1 (sym (ap (λ (p : Pair). p.0) same)) in (
            lesser_of file.1 (least_entry given id),
            cond-true (bytes_eq id file.0) (Some (lesser_of file.1 (least_entry given id))) (least_entry given id) t,
            ap (λ e. bytes_less e (lesser_of file.1 (least_entry given id))) (sym (ap (λ (p : Pair). p.1) same))
                ∙ not_below file.1 (least_entry given id),
          )
      | inr later ↦
          let (found, is, bound) = least-bound given id entry later in
          elim (cases_Bool (bytes_eq id file.0)) [
            | inl t ↦ (
              lesser file.1 found,
              cond-true (bytes_eq id file.0) (Some (lesser_of file.1 (least_entry given id))) (least_entry given id) t
                  ∙ ap (λ o. Some (lesser_of file.1 o)) is,
              still file.1 found bound,
            )
            | inr f ↦ (
              found,
              cond-false (bytes_eq id file.0) (Some (lesser_of file.1 (least_entry given id)))
                  (least_entry given id) f ∙ is,
              bound,
            )
          ]
    ]
  where
    not_below : (e : List ℕ) (o : Option (List ℕ)) → bytes_less e (lesser_of e o) ≡ false
    not_below e None = bytes_less_itself e
    not_below e (Some x) =
        elim (cases_Bool (bytes_less x e)) [
          | inl l ↦ ap (bytes_less e) (cond-true (bytes_less x e) x e l) ∙ less_order.one_way x e l
          | inr g ↦ ap (bytes_less e) (cond-false (bytes_less x e) x e g) ∙ bytes_less_itself e
        ]

    still : (first found : List ℕ) → bytes_less entry found ≡ false → bytes_less entry (lesser first found) ≡ false
    still first found bound =
        elim (cases_Bool (bytes_less found first)) [
          | inl l ↦ ap (bytes_less entry) (cond-true (bytes_less found first) found first l) ∙ bound
          | inr g ↦ ap (bytes_less entry) (cond-false (bytes_less found first) found first g)
              ∙ less_order.chain entry found first bound g
        ]

IsLeast-from : (given : List Pair) (id entry : List ℕ) → least_entry given id ≡ Some entry → IsLeast given id entry
IsLeast-from given id entry h = record {
  among = least-among given id entry h;
  least = λ other c.
      let (found, is, bound) = least-bound given id other c in
      let same : found ≡ entry = cc in
      ap (bytes_less other) (sym same) ∙ bound;
}

least-from : (given : List Pair) (id entry : List ℕ) → IsLeast given id entry → least_entry given id ≡ Some entry
least-from given id entry h =
    let (found, is, bound) = least-bound given id entry h.among in
    is ∙ ap Some (sym (bytes-neither entry found bound (h.least found (least-among given id found is))))

pub least-is : (given : List Pair) (id entry : List ℕ) → (least_entry given id ≡ Some entry) ↔ IsLeast given id entry
least-is given id entry = (IsLeast-from given id entry, least-from given id entry)

-- ---- order and repeats
IsLeast-moved : (given others : List Pair) (id entry : List ℕ)
    → ((file : Pair) → Contains given file ↔ Contains others file) → IsLeast given id entry → IsLeast others id entry
IsLeast-moved given others id entry same h = record {
  among = (same (id, entry)).0 h.among;
  least = λ other c. h.least other ((same (id, other)).1 c);
}

pub least-moved : (given others : List Pair) (id : List ℕ)
    → ((file : Pair) → Contains given file ↔ Contains others file) → least_entry given id ≡ least_entry others id
least-moved given others id same = go (least_entry given id) (least_entry others id) refl refl
  where
    go : (o p : Option (List ℕ)) → least_entry given id ≡ o → least_entry others id ≡ p → o ≡ p
    go None None is as' = refl
    go None (Some e) is other =
        sym is
        ∙ least-from given id e (IsLeast-moved others given id e (λ f. ((same f).1, (same f).0))
        (IsLeast-from others id e other))
    go (Some e) p is other =
        sym (least-from others id e (IsLeast-moved given others id e same (IsLeast-from given id e is))) ∙ other

-- ---- tables
pub AreLeastEntries-unique : (given files others : List Pair) → AreLeastEntries given files
    → AreLeastEntries given others → files ≡ others
AreLeastEntries-unique given files others h k =
    rising_same files others h.ordered k.ordered (λ id. h.each id ∙ sym (k.each id))

pub AreLeastEntries-none : AreLeastEntries [] []
AreLeastEntries-none = record { ordered = rising_none; each = λ id. refl }

pub AreLeastEntries-moved : (given others files : List Pair)
    → ((file : Pair) → Contains given file ↔ Contains others file) → AreLeastEntries given files
    → AreLeastEntries others files
AreLeastEntries-moved given others files same h =
    record { ordered = h.ordered; each = λ id. h.each id ∙ least-moved given others id same }

pub AreLeastEntries-join : (given files others more all : List Pair) → AreLeastEntries given files
    → AreLeastEntries others more → AreLeastEntries (files ++ more) all → AreLeastEntries (given ++ others) all
AreLeastEntries-join given files others more all h k m = record {
  ordered = m.ordered;
  each = λ id.
      m.each id ∙ least-append files more id
      ∙ ap (λ o. lesser_either o (least_entry more id)) (least-own files id h.ordered ∙ h.each id)
      ∙ ap (lesser_either (least_entry given id)) (least-own more id k.ordered ∙ k.each id)
      ∙ sym (least-append given others id);
}

pub AreLeastEntries-own : (files : List Pair) → HaveRisingNames files → AreLeastEntries files files
AreLeastEntries-own files rising = record { ordered = rising; each = λ id. sym (least-own files id rising) }
