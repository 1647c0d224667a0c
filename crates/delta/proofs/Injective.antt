-- Compact texts tell what they are of: texts, keys, truths and bindings.
use Rattle.std.proofs.Common.{◌≡◌, ◌≢◌, ℕ, ◌+◌, ◌*◌, ◌==◌, nat_le, Bool, true, false, not, ◌&&◌, ◌||◌, List, [], ◌∷◌, ◌++◌, get_or, map, Option, Some, None, IfSome, ◌⊎◌, inl, inr, codes, bytes_eq, refl, sym, ap, ◌∙◌, subst, append_assoc, arith}
use Rattle.std.specs.List.{AllByRecursion, flat_map, join_with_byte}
use Rattle.std.proofs.lemmas.Bool.{agree_below_at, cases_lt, and_parts, not-true, or_cases}
use Rattle.std.proofs.lemmas.Bool.Decides.{nat_tests}
use Rattle.std.proofs.lemmas.Option.{same_Some}
use Rattle.json_text.specs.Characters.{quote, quoted_byte, hex_value}
use Rattle.json_text.specs.Compact.{Member as Pair, member_text, object_text}
use Rattle.json_text.specs.Members.{pairs}
use Rattle.json_text.specs.Tree.{letter_meaning, null_word, object}
use Rattle.json_text.specs.Value.{IsCompact, Stands, Follows}
use Rattle.json_text.specs.declared.text.Member.{Member}
use Rattle.json_text.proofs.CallerLemmas.{bytes_eq-true, Value-Form, Value-deeper, form-quoted, tree-Head, first-same, tail-same, Stands-once, heads-differ}
use Rattle.scene_json.specs.Passes.{behind_item}
use Rattle.scene_json.proofs.CallerLemmas.{behind-split, pairs-each}
use Rattle.elem.specs.declared.parts.Binding.{Binding}
use Rattle.elem.specs.Facts.{IsBinding, names}
use Rattle.elem.specs.Texts.{truth_text, text_or_null, binding_text}
use Rattle.elem.proofs.CallerLemmas.{AllByRecursion-weaker, pairs-once}
use Rattle.delta.specs.Headers.{value_named}
use Rattle.delta.specs.Rest.{with_value}
use Rattle.delta.proofs.RestLaws.{risen, each-with_value, named-with_value, sorted-with_value, with_value-back, rises, rising-with_value}
use Rattle.frac_keys.specs.Rising.{are_rising}

-- ---- how a byte stands in a quote
data Coded (c : ℕ) : List ℕ → Type 0 where
  plain : c ≢ 34 → c ≢ 92 → Coded c (c ∷ [])
  letter : (l : ℕ) → l ≢ 117 → letter_meaning l ≡ c → Coded c (92 ∷ l ∷ [])
  unit : (h l : ℕ) → hex_value h * 16 + hex_value l ≡ c → Coded c (92 ∷ 117 ∷ 48 ∷ 48 ∷ h ∷ l ∷ [])

stands_plain : ℕ → Bool
stands_plain c = bytes_eq (quoted_byte c) (c ∷ []) && (not (c == 34) && not (c == 92))

stands_letter : ℕ → Bool
stands_letter c =
    bytes_eq (quoted_byte c) (92 ∷ get_or (quoted_byte c) 1 0 ∷ [])
    && (not (get_or (quoted_byte c) 1 0 == 117) && letter_meaning (get_or (quoted_byte c) 1 0) == c)

stands_unit : ℕ → Bool
stands_unit c =
    bytes_eq (quoted_byte c) (92 ∷ 117 ∷ 48 ∷ 48 ∷ get_or (quoted_byte c) 4 0 ∷ get_or (quoted_byte c) 5 0 ∷ [])
    && (hex_value (get_or (quoted_byte c) 4 0) * 16 + hex_value (get_or (quoted_byte c) 5 0) == c)

stands_coded : ℕ → Bool
stands_coded c = stands_plain c || (stands_letter c || stands_unit c)

differs : (a b : ℕ) → not (a == b) ≡ true → a ≢ b
differs a b h = let f : (a == b) ≡ false = not-true _ h in λ e. grind (arith, nat_tests)

low-Coded : (c : ℕ) → stands_coded c ≡ true → Coded c (quoted_byte c)
unfolding stands_coded stands_plain stands_letter stands_unit
low-Coded c h = elim (or_cases (stands_plain c) (stands_letter c || stands_unit c) h) [
  | inl p ↦
      let parts = and_parts (bytes_eq (quoted_byte c) (c ∷ [])) (not (c == 34) && not (c == 92)) p in
      let apart = and_parts (not (c == 34)) (not (c == 92)) parts.1 in
      subst (Coded c) (sym (bytes_eq-true _ _ parts.0)) (plain (differs c 34 apart.0) (differs c 92 apart.1))
  | inr q ↦ elim (or_cases (stands_letter c) (stands_unit c) q) [
    | inl p ↦
        let l = get_or (quoted_byte c) 1 0 in
        let parts = and_parts (bytes_eq (quoted_byte c) (92 ∷ l ∷ [])) (not (l == 117) && letter_meaning l == c) p in
        let both = and_parts (not (l == 117)) (letter_meaning l == c) parts.1 in
        let means : letter_meaning l ≡ c = equal (letter_meaning l) c both.1 in
        subst (Coded c) (sym (bytes_eq-true _ _ parts.0)) (letter l (differs l 117 both.0) means)
    | inr p ↦
        let h = get_or (quoted_byte c) 4 0 in
        let l = get_or (quoted_byte c) 5 0 in
        let parts = and_parts (bytes_eq (quoted_byte c) (92 ∷ 117 ∷ 48 ∷ 48 ∷ h ∷ l ∷ []))
        (hex_value h * 16 + hex_value l == c) p in
        subst (Coded c) (sym (bytes_eq-true _ _ parts.0)) (unit h l (equal (hex_value h * 16 + hex_value l) c parts.1))
  ]
]
  where
    equal : (a b : ℕ) → (a == b) ≡ true → a ≡ b
    equal a b h = grind (arith, nat_tests)

quoted-Coded : (c : ℕ) → Coded c (quoted_byte c)
unfolding stands_coded stands_plain stands_letter stands_unit
quoted-Coded c = elim (cases_lt c 93) [
  | inl low ↦ low-Coded c (agree_below_at stands_coded (λ _. true) 93 c refl low)
  | inr high ↦
      let a : (c == 34) ≡ false = grind (arith, nat_tests) in
      let b : (c == 92) ≡ false = grind (arith, nat_tests) in
      let d : nat_le 32 c ≡ true = grind (arith, nat_tests) in
      let e : quoted_byte c ≡ c ∷ [] = rw (a, b, d) refl in
      subst (Coded c) (sym e) (plain (λ e. grind (arith, nat_tests)) (λ e. grind (arith, nat_tests)))
]

coded-split : {c d : ℕ} {q p : List ℕ} (r s : List ℕ) → Coded c q → Coded d p → q ++ r ≡ p ++ s → (c ≡ d) × (r ≡ s)
coded-split r s (plain m n) (plain m' n') e = (first-same e, tail-same e)
coded-split r s (plain m n) (letter l m' n') e = absurd (n (first-same e))
coded-split r s (plain m n) (unit h l m') e = absurd (n (first-same e))
coded-split r s (letter l m n) (plain m' n') e = absurd (n' (sym (first-same e)))
coded-split r s (letter l m n) (letter k m' n') e =
    (sym n ∙ ap letter_meaning (first-same (tail-same e)) ∙ n', tail-same (tail-same e))
coded-split r s (letter l m n) (unit h k m') e = absurd (m (first-same (tail-same e)))
coded-split r s (unit h l m) (plain m' n') e = absurd (n' (sym (first-same e)))
coded-split r s (unit h l m) (letter k m' n') e = absurd (m' (sym (first-same (tail-same e))))
coded-split r s (unit h l m) (unit g k m') e =
    let high = first-same (tail-same (tail-same (tail-same (tail-same e)))) in
    let low = first-same (tail-same (tail-same (tail-same (tail-same (tail-same e))))) in (
      sym m ∙ ap (λ x. hex_value x * 16 + hex_value l) high ∙ ap (λ x. hex_value g * 16 + hex_value x) low
          ∙ m',
      tail-same (tail-same (tail-same (tail-same (tail-same (tail-same e))))),
    )

coded-open : {c : ℕ} {q : List ℕ} (r s : List ℕ) → Coded c q → q ++ r ≡ 34 ∷ s → ⊥
coded-open r s (plain m n) e = m (first-same e)
coded-open r s (letter l m n) e = heads-differ 92 34 _ _ refl e
coded-open r s (unit h l m) e = heads-differ 92 34 _ _ refl e

inner-split : (a b x y : List ℕ) → flat_map quoted_byte a ++ 34 ∷ x ≡ flat_map quoted_byte b ++ 34 ∷ y → (a ≡ b)
    × (x ≡ y)
inner-split [] [] x y e = (refl, tail-same e)
inner-split [] (d ∷ ds) x y e =
    absurd (coded-open _ x (quoted-Coded d) (sym (append_assoc (quoted_byte d) (flat_map quoted_byte ds) (34 ∷ y))
    ∙ sym e))
inner-split (c ∷ cs) [] x y e =
    absurd (coded-open _ y (quoted-Coded c) (sym (append_assoc (quoted_byte c) (flat_map quoted_byte cs) (34 ∷ x)) ∙ e))
inner-split (c ∷ cs) (d ∷ ds) x y e =
    let both = coded-split _ _ (quoted-Coded c) (quoted-Coded d)
    (sym (append_assoc (quoted_byte c) (flat_map quoted_byte cs) (34 ∷ x)) ∙ e
    ∙ append_assoc (quoted_byte d) (flat_map quoted_byte ds) (34 ∷ y)) in
    let rest = inner-split cs ds x y both.1 in
    (λ i. both.0 i ∷ rest.0 i, rest.1)

-- the quote of a text ends where the text does
quote-split : (a b x y : List ℕ) → quote a ++ x ≡ quote b ++ y → (a ≡ b) × (x ≡ y)
unfolding quote
quote-split a b x y e =
    inner-split a b x y (sym (append_assoc (flat_map quoted_byte a) (34 ∷ []) x) ∙ tail-same e
    ∙ append_assoc (flat_map quoted_byte b) (34 ∷ []) y)

pub quote-same : (a b : List ℕ) → quote a ≡ quote b → a ≡ b
quote-same a b e = (quote-split a b [] [] (ap (λ q. q ++ []) e)).0

-- ---- values that end by themselves: compact ones and quotes
abbrev pub EndsItself : List ℕ → Type 0
EndsItself v = IsCompact 127 v ⊎ ((t : List ℕ) × (v ≡ quote t))

stands : (v r : List ℕ) → IsCompact 127 v → Follows v r → Stands (v ++ r) v r
stands v r compact ends = record {
  blank = [];
  value = v;
  parts = refl;
  space = refl;
  reads =
      Value-deeper (omega arith) compact;
  ends = ends;
}

compact-quote : (v u r s : List ℕ) → IsCompact 127 v → v ++ r ≡ quote u ++ s → (v ≡ quote u) × (r ≡ s)
unfolding quote
compact-quote v u r s compact e =
    let head = tree-Head compact.tree compact.good in
    let starts : v ≡ head.first ∷ head.more = sym compact.spells ∙ head.parts in
    let first : head.first ≡ 34 = first-same (sym (ap (λ w. w ++ r) starts) ∙ e) in
    let form = form-quoted 127 v (Value-Form compact) (head.more, starts ∙ ap (λ b. b ∷ head.more) first) in
    let both = quote-split form.0 u r s (sym (ap (λ w. w ++ r) form.2) ∙ e) in
    (form.2 ∙ ap quote both.0, both.1)

value-split : (v w r s : List ℕ) → EndsItself v → EndsItself w → Follows v r → Follows w s → v ++ r ≡ w ++ s → (v ≡ w)
    × (r ≡ s)
value-split v w r s (inl c) (inl d) f g e =
    Stands-once (stands v r c f) (subst (λ b. Stands b w s) (sym e) (stands w s d g))
value-split v w r s (inl c) (inr (u, q)) f g e =
    let both = compact-quote v u r s c (e ∙ ap (λ x. x ++ s) q) in
    (both.0 ∙ sym q, both.1)
value-split v w r s (inr (t, p)) (inl d) f g e =
    let both = compact-quote w t s r d (sym e ∙ ap (λ x. x ++ r) p) in
    (p ∙ sym both.0, sym both.1)
value-split v w r s (inr (t, p)) (inr (u, q)) f g e =
    let both = quote-split t u r s (sym (ap (λ x. x ++ r) p) ∙ e ∙ ap (λ x. x ++ s) q) in
    (p ∙ ap quote both.0 ∙ sym q, both.1)

-- ---- members of an object
abbrev after : List Pair → List ℕ
after ms = behind_item object [] (map member_text ms)

follows-after : (v : List ℕ) (ms : List Pair) → Follows v (after ms)
follows-after v [] = λ _. refl
follows-after v (m ∷ ms) = λ _. refl

split : (m : Pair) (ms : List Pair) → join_with_byte 44 (map member_text (m ∷ ms)) ++ 125 ∷ [] ≡ quote m.0
    ++ (58 ∷ (m.1 ++ after ms))
split m ms =
    behind-split object [] (member_text m) (map member_text ms) ∙ append_assoc (quote m.0) (58 ∷ m.1) (after ms)

quoted-open : (t r : List ℕ) → quote t ++ r ≡ 125 ∷ [] → ⊥
unfolding quote
quoted-open t r e = heads-differ 34 125 _ _ refl e

abbrev AreEnding : List Pair → Type 0
AreEnding ms = AllByRecursion (λ (m : Pair). EndsItself m.1) ms

after-same : (ms ns : List Pair) → AreEnding ms → AreEnding ns → after ms ≡ after ns → ms ≡ ns
after-same [] [] are are' e = refl
after-same [] (n ∷ ns) are are' e = absurd (heads-differ 125 44 _ _ refl e)
after-same (m ∷ ms) [] are are' e = absurd (heads-differ 44 125 _ _ refl e)
after-same (m ∷ ms) (n ∷ ns) are are' e =
    let name = quote-split m.0 n.0 _ _ (sym (split m ms) ∙ tail-same e ∙ split n ns) in
    let value = value-split m.1 n.1 (after ms) (after ns) are.0 are'.0 (follows-after m.1 ms) (follows-after n.1 ns)
    (tail-same name.1) in
    let rest = after-same ms ns are.1 are'.1 value.1 in
    λ i. (name.0 i, value.0 i) ∷ rest i

members-same : (ms ns : List Pair) → AreEnding ms → AreEnding ns → join_with_byte 44 (map member_text ms) ++ 125 ∷ []
    ≡ join_with_byte 44 (map member_text ns) ++ 125 ∷ [] → ms ≡ ns
members-same [] [] are are' e = refl
members-same [] (n ∷ ns) are are' e = absurd (quoted-open n.0 _ (sym (split n ns) ∙ sym e))
members-same (m ∷ ms) [] are are' e = absurd (quoted-open m.0 _ (sym (split m ms) ∙ e))
members-same (m ∷ ms) (n ∷ ns) are are' e = after-same (m ∷ ms) (n ∷ ns) are are' (ap (λ r. 44 ∷ r) e)

pub object-same : (ms ns : List Pair) → AllByRecursion (λ (m : Pair). EndsItself m.1) ms
    → AllByRecursion (λ (m : Pair). EndsItself m.1) ns → object_text ms ≡ object_text ns → ms ≡ ns
unfolding object_text
object-same ms ns are are' e = members-same ms ns are are' (tail-same e)

-- ---- the members of a binding
abbrev pub binding_members : Binding → List Member
binding_members binding = with_value (codes "elementId") (Some (quote binding.target)) binding.rest

pub binding-object : (binding : Binding) → IsBinding binding
    → binding_text (Some binding) ≡ object_text (pairs (binding_members binding))
binding-object binding is = ap object_text (sorted-with_value (codes "elementId") (quote binding.target) binding.rest
    (risen binding.rest is.rise) is.free)

pub binding-ends : (binding : Binding) → IsBinding binding
    → AllByRecursion (λ (m : Pair). EndsItself m.1) (pairs (binding_members binding))
binding-ends binding is =
    let P : Member → Type 0 = λ m. EndsItself m.value in
    pairs-each (λ m. EndsItself m.1) (binding_members binding)
    (each-with_value P (codes "elementId") (Some (quote binding.target)) binding.rest (inr (binding.target, refl), tt)
    (AllByRecursion-weaker (λ (m : Member). IsCompact 118 m.value) P binding.rest
    (λ m v. inl (Value-deeper (omega arith) v)) is.nest))

-- the target and the further members of a binding, from all its members
pub binding-target : (binding : Binding) → IsBinding binding → value_named (codes "elementId") (binding_members binding)
    ≡ Some (quote binding.target)
binding-target binding is =
    named-with_value (codes "elementId") (codes "elementId") (Some (quote binding.target)) binding.rest
    (risen binding.rest is.rise)

pub binding-rest : (binding : Binding) → IsBinding binding
    → with_value (codes "elementId") None (binding_members binding) ≡ binding.rest
binding-rest binding is = with_value-back (codes "elementId") (quote binding.target) binding.rest is.free

pub binding-same : (a b : Option Binding) → IfSome a IsBinding → IfSome b IsBinding → binding_text a ≡ binding_text b
    → a ≡ b
unfolding object_text
binding-same None None is is' e = refl
binding-same None (Some b) is is' e = absurd (heads-differ 110 123 _ _ refl e)
binding-same (Some a) None is is' e = absurd (heads-differ 123 110 _ _ refl e)
binding-same (Some a) (Some b) is is' e =
    let all = pairs-once _ _ (object-same _ _ (binding-ends a is) (binding-ends b is') (sym (binding-object a is) ∙ e
    ∙ binding-object b is')) in
    let target = quote-same a.target b.target (same_Some _ _ (sym (binding-target a is)
    ∙ ap (value_named (codes "elementId")) all ∙ binding-target b is')) in
    let rest = sym (binding-rest a is) ∙ ap (with_value (codes "elementId") None) all ∙ binding-rest b is' in
    λ i. Some (record { target = target i; rest = rest i })

-- ---- texts and truths
pub text-same : (a b : Option (List ℕ)) → text_or_null a ≡ text_or_null b → a ≡ b
unfolding quote
text-same None None e = refl
text-same None (Some b) e = absurd (heads-differ 110 34 _ _ refl e)
text-same (Some a) None e = absurd (heads-differ 34 110 _ _ refl e)
text-same (Some a) (Some b) e = ap Some (quote-same a b e)

pub truth-same : (a b : Bool) → truth_text a ≡ truth_text b → a ≡ b
truth-same true true e = refl
truth-same false false e = refl
truth-same true false e = absurd (heads-differ 116 102 _ _ refl e)
truth-same false true e = absurd (heads-differ 102 116 _ _ refl e)

-- the members of a binding's text are those of the binding
pub record IsFound (value : List ℕ) (found : List Member) : Type 0 where
  pub binding : Binding
  pub is_binding : IsBinding binding
  pub text : value ≡ binding_text (Some binding)
  pub members : found ≡ binding_members binding

pub binding-found : (value : List ℕ) (binding : Option Binding) → IfSome binding IsBinding
    → value ≡ binding_text binding → (value ≡ null_word → ⊥) → (found : List Member) → value ≡ object_text (pairs found)
    → AllByRecursion (λ (m : Pair). IsCompact 127 m.1) (pairs found) → IsFound value found
binding-found value None is e not-null found spelled compact = absurd (not-null e)
binding-found value (Some b) is e not-null found spelled compact = record {
  binding = b;
  is_binding = is;
  text = e;
  members =
      pairs-once _ _ (object-same _ _ (AllByRecursion-weaker (λ (m : Pair). IsCompact 127 m.1) (λ m. EndsItself m.1)
      (pairs found) (λ m v. inl v) compact) (binding-ends b is) (sym spelled ∙ e ∙ binding-object b is));
}

pub binding-rise : {value : List ℕ} {found : List Member} → IsFound value found → are_rising (names found) ≡ true
binding-rise f =
    ap (λ ms. are_rising (names ms)) f.members
    ∙ rises (binding_members f.binding) (rising-with_value (codes "elementId") (Some (quote f.binding.target))
    f.binding.rest (risen f.binding.rest f.is_binding.rise))

pub binding-string : {value : List ℕ} {found : List Member} (f : IsFound value found)
    → value_named (codes "elementId") found ≡ Some (quote f.binding.target)
binding-string f = ap (value_named (codes "elementId")) f.members ∙ binding-target f.binding f.is_binding

-- the binding that is made of them
pub binding-made : {value : List ℕ} {found : List Member} (f : IsFound value found) (target : List ℕ)
    (rest : List Member) → value_named (codes "elementId") found ≡ Some (quote target)
    → rest ≡ with_value (codes "elementId") None found → f.binding ≡ record { target = target; rest = rest }
binding-made f target rest named is =
    let same = quote-same f.binding.target target (same_Some _ _ (sym (binding-string f) ∙ named)) in
    let others =
    sym (binding-rest f.binding f.is_binding) ∙ ap (with_value (codes "elementId") None) (sym f.members) ∙ sym is in
    λ i. record { target = same i; rest = others i }
