-- Texts of strings, arrays and objects are read in one way alone.
use Rattle.std.proofs.Common.{◌≡◌, ℕ, List, [], ◌∷◌, ◌++◌, map, refl, sym, ap, ap₂, ◌∙◌, subst, lit≤, arith, append_assoc, IsUtf8, true, false}
use Rattle.std.specs.List.{AllByRecursion, join_with_byte}
use Rattle.std.proofs.lemmas.Bool.Decides.{nat_tests}
use Rattle.json_text.specs.Characters.{quote, ends_value}
use Rattle.json_text.specs.Tree.{array, object}
use Rattle.json_text.specs.Compact.{Member as Pair, content, member_text, array_text, object_text}
use Rattle.json_text.specs.Parts.{AreMembers}
use Rattle.json_text.specs.Value.{IsCompact, Stands, extends_number, Follows}
use Rattle.scene_json.specs.Passes.{IsEnd}
use Rattle.json_text.proofs.CallerLemmas.{Value-deeper, Stands-once, tail-same, utf8-Quotes, pieces-once, heads-differ}
use Rattle.scene_json.specs.Passes.{behind_item}
use Rattle.scene_json.proofs.CallerLemmas.{behind-split, behind-ends, item-opens, behind_member}

-- ---- strings
quote-front : (a b r t : List ℕ) → IsUtf8 a → IsUtf8 b → quote a ++ r ≡ quote b ++ t → (a ≡ b) × (r ≡ t)
quote-front a b r t one two e =
    let p = utf8-Quotes a one in
    let q = utf8-Quotes b two in
    let same = ap (λ s. s ++ r) p.spells ∙ e ∙ sym (ap (λ s. s ++ t) q.spells) in
    let read = pieces-once p.pieces q.pieces r t p.good q.good
    (sym (append_assoc _ (34 ∷ []) r) ∙ tail-same same ∙ append_assoc _ (34 ∷ []) t) in
    (sym p.means ∙ (ap content read.0 ∙ q.means), read.1)

-- ---- a value in a container
no-number : (b : ℕ) → ends_value b ≡ true → extends_number b ≡ false
no-number b h = grind (arith, nat_tests)

ends-Follows : (v rest : List ℕ) → IsEnd rest → Follows v rest
ends-Follows v [] h = tt
ends-Follows v (b ∷ bs) h = λ number. no-number b h

value-Stands : (v rest : List ℕ) → IsCompact 127 v → IsEnd rest → Stands (v ++ rest) v rest
value-Stands v rest is ends = record {
  blank = [];
  value = v;
  parts = refl;
  space = refl;
  reads =
      Value-deeper (lit≤ tt) is;
  ends = ends-Follows v rest ends;
}

value-front : (v w r t : List ℕ) → IsCompact 127 v → IsCompact 127 w → IsEnd r → IsEnd t → v ++ r ≡ w ++ t → (v ≡ w)
    × (r ≡ t)
value-front v w r t one two left right e =
    Stands-once (value-Stands v r one left) (subst (λ s. Stands s w t) (sym e) (value-Stands w t two right))

-- ---- arrays
rest-once : (vs ws : List (List ℕ)) → AllByRecursion (IsCompact 127) vs → AllByRecursion (IsCompact 127) ws
    → behind_item array [] vs ≡ behind_item array [] ws → vs ≡ ws
rest-once [] [] one two e = refl
rest-once [] (w ∷ ws) one two e = absurd (heads-differ 93 44 _ _ refl e)
rest-once (v ∷ vs) [] one two e = absurd (heads-differ 44 93 _ _ refl e)
rest-once (v ∷ vs) (w ∷ ws) one two e =
    let both = value-front v w (behind_item array [] vs) (behind_item array [] ws) one.0 two.0 (behind-ends array [] vs)
    (behind-ends array [] ws)
    (sym (behind-split array [] v vs) ∙ tail-same e ∙ behind-split array [] w ws) in
    ap₂ (λ x xs. x ∷ xs) both.0 (rest-once vs ws one.1 two.1 both.1)

items-bare : (vs ws : List (List ℕ)) → array_text vs ≡ array_text ws
    → join_with_byte 44 vs ++ 93 ∷ [] ≡ join_with_byte 44 ws ++ 93 ∷ []
unfolding array_text
items-bare vs ws e = tail-same e

-- the text of an array that has an item and of one that has none
filled-apart : (v : List ℕ) (vs : List (List ℕ)) → AllByRecursion (IsCompact 127) (v ∷ vs)
    → array_text (v ∷ vs) ≡ array_text [] → ⊥
filled-apart v vs is e = item-opens v vs [] [] is.0 (items-bare (v ∷ vs) [] e)

pub array-once : (vs ws : List (List ℕ)) → AllByRecursion (IsCompact 127) vs → AllByRecursion (IsCompact 127) ws
    → array_text vs ≡ array_text ws → vs ≡ ws
array-once [] [] one two e = refl
array-once [] (w ∷ ws) one two e = absurd (filled-apart w ws two (sym e))
array-once (v ∷ vs) [] one two e = absurd (filled-apart v vs one e)
array-once (v ∷ vs) (w ∷ ws) one two e =
    rest-once (v ∷ vs) (w ∷ ws) one two (ap (λ s. 44 ∷ s) (items-bare (v ∷ vs) (w ∷ ws) e))

-- ---- objects
member-front : (m n : Pair) (ms ns : List Pair) → IsUtf8 m.0 → IsUtf8 n.0 → IsCompact 127 m.1 → IsCompact 127 n.1
    → member_text m ++ behind_member [] ms ≡ member_text n ++ behind_member [] ns → (m ≡ n)
    × (behind_member [] ms ≡ behind_member [] ns)
member-front m n ms ns one two first second e =
    let name = quote-front m.0 n.0 (58 ∷ (m.1 ++ behind_member [] ms)) (58 ∷ (n.1 ++ behind_member [] ns)) one two
    (sym (append_assoc (quote m.0) (58 ∷ m.1) (behind_member [] ms)) ∙ e
    ∙ append_assoc (quote n.0) (58 ∷ n.1) (behind_member [] ns)) in
    let value = value-front m.1 n.1 (behind_member [] ms) (behind_member [] ns) first second
    (behind-ends object [] (map member_text ms)) (behind-ends object [] (map member_text ns)) (tail-same name.1) in
    (λ i. (name.0 i, value.0 i), value.1)

members-rest : (ms ns : List Pair) → AllByRecursion (λ (m : Pair). IsUtf8 m.0) ms
    → AllByRecursion (λ (m : Pair). IsCompact 127 m.1) ms
    → AllByRecursion (λ (m : Pair). IsUtf8 m.0) ns → AllByRecursion (λ (m : Pair). IsCompact 127 m.1) ns
    → behind_member [] ms ≡ behind_member [] ns → ms ≡ ns
members-rest [] [] named valued other more e = refl
members-rest [] (n ∷ ns) named valued other more e = absurd (heads-differ 125 44 _ _ refl e)
members-rest (m ∷ ms) [] named valued other more e = absurd (heads-differ 44 125 _ _ refl e)
members-rest (m ∷ ms) (n ∷ ns) named valued other more e =
    let both = member-front m n ms ns named.0 other.0 valued.0 more.0
    (sym (behind-split object [] (member_text m) (map member_text ms)) ∙ tail-same e
    ∙ behind-split object [] (member_text n) (map member_text ns)) in
    ap₂ (λ x xs. x ∷ xs) both.0 (members-rest ms ns named.1 valued.1 other.1 more.1 both.1)

-- the text of an object that has a member and of one that has none
member-apart : (m : Pair) (ms : List Pair) → object_text (m ∷ ms) ≡ object_text [] → ⊥
unfolding object_text quote
member-apart m ms e =
    heads-differ 34 125 _ _ refl (sym (behind-split object [] (member_text m) (map member_text ms)) ∙ tail-same e)

members-bare : (ms ns : List Pair) → object_text ms ≡ object_text ns → join_with_byte 44 (map member_text ms) ++ 125
    ∷ [] ≡ join_with_byte 44 (map member_text ns) ++ 125 ∷ []
unfolding object_text
members-bare ms ns e = tail-same e

pub object-once : (ms ns : List Pair) → AreMembers 127 ms → AreMembers 127 ns → object_text ms ≡ object_text ns
    → ms ≡ ns
object-once [] [] one two e = refl
object-once [] (n ∷ ns) one two e = absurd (member-apart n ns (sym e))
object-once (m ∷ ms) [] one two e = absurd (member-apart m ms e)
object-once (m ∷ ms) (n ∷ ns) one two e = members-rest (m ∷ ms) (n ∷ ns) one.named one.valued two.named two.valued
    (ap (λ s. 44 ∷ s) (members-bare (m ∷ ms) (n ∷ ns) e))
