-- What compact texts are made of, and that they are made so; how a value is spelled, and the earlier values of its
-- repeated names, play no part in its compact text.
use Rattle.std.proofs.Common.{◌≡◌, ◌≢◌, ◌<◌, ◌≤◌, ◌^◌, inl, inr, decimal, ℕ, ◌+◌, ◌-◌, List, [], ◌∷◌, ◌++◌, true, false, not, bytes_eq, filter, map, if◌then◌else◌, refl, sym, ap, ap₂, ◌∙◌, subst, arith, lit≤, codes, IsUtf8, append_assoc, append-nil, ◌⊎◌, le_trans, take_all, get_or, take, length, All}
use Rattle.std.proofs.lemmas.Bool.{cases_Bool}
use Rattle.std.proofs.lemmas.List.{map-id, take_more, length-take-le, length-map, get_or-map}
use Rattle.std.proofs.lemmas.List.Elements.{All-more}
use Rattle.std.proofs.lemmas.Map.Views.{any-filter_same}
use Rattle.std.specs.Char.{encode_utf8}
use Rattle.std.specs.List.{AllByRecursion, IsDistinct, join_with_byte, list_all, list_any}
use Rattle.json_text.specs.Alike.{AreAlike, AreItemsAlike, AreLastAlike, first_names, last_named}
use Rattle.json_text.specs.Characters.{quote, is_digit}
use Rattle.json_text.specs.Tree.{Piece, bare, letter, unit, Container, array, object, unnamed, named, Tree, scalar, text, empty, filled, Values, last, next, IsNumber, IsWord, IsIntegerPart, IsGood, AreGood, spelling, values_spelling, string_spelling, depth, values_depth}
use Rattle.json_text.specs.Compact.{Member, member_text, last_value, has_other_name, collapsed, content, label_name, array_text, object_text, compact, members}
use Rattle.json_text.specs.Value.{Value, IsCompact, Stands}
pub use Rattle.json_text.specs.Parts.{AreMembers}
use Rattle.json_text.proofs.Reading.{decimal-number, number, whole_number}
use Rattle.json_text.proofs.Strings.{utf8-Quotes, content-utf8}
use Rattle.json_text.proofs.Collapsed.{names_of, bytes_eq-true, bytes_eq-same, bytes_eq-flip, collapsed-same, collapsed-distinct, collapsed-names, collapsed-values}

-- a tree is a value
pub tree-Value : (limit : ℕ) (t : Tree) → IsGood t → depth t ≤ limit → Value limit (spelling t) (compact t)
tree-Value limit t good shallow = record { tree = t; good = good; shallow = shallow; spells = refl; means = refl }

-- the quote of a text, and a number or a word
pub quote-compact : (limit : ℕ) (s : List ℕ) → IsUtf8 s → IsCompact limit (quote s)
quote-compact limit s h = let q = utf8-Quotes s h in
    record { tree = text q.pieces; good = q.good; shallow = omega arith; spells = q.spells; means = ap quote q.means }

pub literal-compact : (limit : ℕ) (s : List ℕ) → IsNumber s ⊎ IsWord s → IsCompact limit s
literal-compact limit s h = tree-Value limit (scalar s) h (omega arith)

pub decimal_nests : (limit number : ℕ) → number < 2 ^ 64 → IsCompact limit (decimal number)
decimal_nests limit number small = literal-compact limit (decimal number) (inl (decimal-number number small))

-- a deeper limit
pub Value-deeper : {limit more : ℕ} {bytes s : List ℕ} → limit ≤ more → Value limit bytes s → Value more bytes s
Value-deeper h v =
    record { tree = v.tree; good = v.good; shallow = le_trans v.shallow h; spells = v.spells; means = v.means }

-- values of a container that spell these texts between commas, and what is kept of their members
pub record Spelled (c : Container) (limit : ℕ) (ts : List (List ℕ)) {X : Type 0} (kept : Member → X) (xs : List X) :
    Type 0 where
  pub values : Values
  pub good : AreGood c values
  pub shallow : values_depth values ≤ limit
  pub spells : values_spelling values ≡ join_with_byte 44 ts
  pub means : map kept (members values) ≡ xs

pub items : (limit : ℕ) (t : List ℕ) (ts : List (List ℕ)) → AllByRecursion (IsCompact limit) (t ∷ ts)
    → Spelled array limit (t ∷ ts) (λ m. m.1) (t ∷ ts)
items limit t [] h = record {
  values = last (unnamed []) h.0.tree [];
  good = (refl, h.0.good, refl);
  shallow = h.0.shallow;
  spells = append-nil (spelling h.0.tree) ∙ h.0.spells;
  means = ap (λ s. s ∷ []) h.0.means;
}
items limit t (u ∷ us) h = let others = items limit u us h.1 in record {
  values = next (unnamed []) h.0.tree [] others.values;
  good = (refl, h.0.good, refl, others.good);
  shallow = omega (arith, h.0.shallow, others.shallow);
  spells = rw (h.0.spells, others.spells) refl;
  means = rw (h.0.means, others.means) refl;
}

pub array-compact : (limit : ℕ) (ts : List (List ℕ)) → AllByRecursion (IsCompact limit) ts
    → IsCompact (limit + 1) (array_text ts)
unfolding array_text
array-compact limit [] h = tree-Value (limit + 1) (empty array []) refl (omega arith)
array-compact limit (t ∷ ts) h = let all = items limit t ts h in record {
  tree = filled array all.values;
  good = all.good;
  shallow = omega (arith, all.shallow);
  spells = rw all.spells refl;
  means = rw all.means refl;
}

pub fields : (limit : ℕ) (m : Member) (ms : List Member) → AllByRecursion (λ (m : Member). IsUtf8 m.0) (m ∷ ms)
    → AllByRecursion (λ (m : Member). IsCompact limit m.1) (m ∷ ms)
    → Spelled object limit (map member_text (m ∷ ms)) (λ n. n) (m ∷ ms)
fields limit m [] name value = let q = utf8-Quotes m.0 name.0 in record {
  values = last (named [] q.pieces [] []) value.0.tree [];
  good = ((refl, q.good, refl, refl), value.0.good, refl);
  shallow = value.0.shallow;
  spells = append_assoc (string_spelling q.pieces) (58 ∷ []) _
      ∙ ap₂ (λ s v. s ++ 58 ∷ v) q.spells (append-nil (spelling value.0.tree) ∙ value.0.spells);
  means = rw (q.means, value.0.means) refl;
}
fields limit m (n ∷ ns) name value =
    let q = utf8-Quotes m.0 name.0 in let others = fields limit n ns name.1 value.1 in record {
      values = next (named [] q.pieces [] []) value.0.tree [] others.values;
      good = ((refl, q.good, refl, refl), value.0.good, refl, others.good);
      shallow = omega (arith, value.0.shallow, others.shallow);
      spells = grind (arith, append_assoc, q.spells, value.0.spells, others.spells);
      means = rw (q.means, value.0.means, others.means) refl;
    }

pub object-compact : (limit : ℕ) (ms : List Member) → AreMembers limit ms → IsCompact (limit + 1) (object_text ms)
unfolding object_text
object-compact limit [] h = tree-Value (limit + 1) (empty object []) refl (omega arith)
object-compact limit (m ∷ ms) h = let all = fields limit m ms h.named h.valued in record {
  tree = filled object all.values;
  good = all.good;
  shallow = omega (arith, all.shallow);
  spells = rw all.spells refl;
  means = ap object_text (ap collapsed (sym (map-id (members all.values)) ∙ all.means)
      ∙ collapsed-same (m ∷ ms) h.distinct);
}

-- the names of an object are texts
pub members-utf8 : (vs : Values) → AreGood object vs → AllByRecursion (λ (m : Member). IsUtf8 m.0) (members vs)
members-utf8 (last (named before name between after) value blank) good = (content-utf8 name good.0.1, tt)
members-utf8 (next (named before name between after) value blank values) good =
    (content-utf8 name good.0.1, members-utf8 values good.3)
members-utf8 values good = absurd good.0

-- What a compact text is made of: it is a number or a word, the quote of a text, an array or an object.
pub data Form (limit : ℕ) (s : List ℕ) : Type 0 where
  literal : IsNumber s ⊎ IsWord s → Form limit s
  quoted : (t : List ℕ) → IsUtf8 t → s ≡ quote t → Form limit s
  listed : (ts : List (List ℕ)) → AllByRecursion (IsCompact (limit - 1)) ts → 1 ≤ limit → s ≡ array_text ts
      → Form limit s
  membered : (ms : List Member) → AreMembers (limit - 1) ms → 1 ≤ limit → s ≡ object_text ms → Form limit s

-- whatever has a form is compact
Form-compact : (limit : ℕ) (s : List ℕ) → Form limit s → IsCompact limit s
Form-compact limit s (literal h) = literal-compact limit s h
Form-compact limit s (quoted t u e) = rw e (quote-compact limit t u)
Form-compact limit s (listed ts all some e) = rw e (Value-deeper (omega arith) (array-compact (limit - 1) ts all))
Form-compact limit s (membered ms are some e) = rw e (Value-deeper (omega arith) (object-compact (limit - 1) ms are))

-- the compact text of a tree has a form
mutual
  unfolding array_text object_text IsDistinct

  compact-Form : (t : Tree) (limit : ℕ) → IsGood t → depth t ≤ limit → Form limit (compact t)
  compact-Form (scalar s) limit good shallow = literal good
  compact-Form (text pieces) limit good shallow = quoted (content pieces) (content-utf8 pieces good) refl
  compact-Form (empty array blank) limit good shallow = listed [] tt shallow refl
  compact-Form (empty object blank) limit good shallow =
      membered [] (record { named = tt; valued = tt; distinct = tt }) shallow refl
  compact-Form (filled array values) limit good shallow =
      listed _ (members-compact array values (limit - 1) good (omega (arith, shallow))) (omega (arith, shallow)) refl
  compact-Form (filled object values) limit good shallow =
      membered _ (record {
        named = collapsed-names IsUtf8 (members values) (members-utf8 values good);
        valued = collapsed-values (IsCompact (limit - 1)) (members values)
            (members-compact object values (limit - 1) good (omega (arith, shallow)));
        distinct = collapsed-distinct (members values);
      }) (omega (arith, shallow)) refl

  members-compact : (c : Container) (vs : Values) (limit : ℕ) → AreGood c vs → values_depth vs ≤ limit
      → AllByRecursion (IsCompact limit) (map (λ (m : Member). m.1) (members vs))
  members-compact c (last label value blank) limit good shallow =
      (Form-compact limit _ (compact-Form value limit good.1 shallow), tt)
  members-compact c (next label value blank values) limit good shallow = (
    Form-compact limit _ (compact-Form value limit good.1 (omega (arith, shallow))),
    members-compact c values limit good.3 (omega (arith, shallow)),
  )

pub Value-Form : {limit : ℕ} {bytes s : List ℕ} → Value limit bytes s → Form limit s
Value-Form {limit} {bytes} {s} v = subst (Form limit) v.means (compact-Form v.tree limit v.good v.shallow)

-- a compact text is its own compact text
pub Value-compact : {limit : ℕ} {bytes s : List ℕ} → Value limit bytes s → IsCompact limit s
Value-compact {limit} {bytes} {s} v = Form-compact limit s (Value-Form v)

-- texts that are compact as they stand
pub ruleset compact_texts = (literal-compact, quote-compact, decimal_nests)

-- ---- members, each name once: its first place, its last value
-- the name with its last value
abbrev member_at : List Member → List ℕ → Member
member_at ms name = (name, last_value name [] ms)

others_at : (name value : List ℕ) (ms : List Member) (names : List (List ℕ)) →
    filter (has_other_name name) (map (member_at ms) names)
    ≡ map (member_at ((name, value) ∷ ms)) (filter (λ (other : List ℕ). not (bytes_eq name other)) names)
others_at name value ms [] = refl
others_at name value ms (n ∷ ns) = grind (arith, others_at name value ms ns, bytes_eq-flip name n)

collapsed-at : (ms : List Member) → collapsed ms ≡ map (member_at ms) (first_names (names_of ms))
collapsed-at [] = refl
collapsed-at (m ∷ ms) =
    grind (arith, collapsed-at ms, bytes_eq-same m.0, others_at m.0 m.1 ms (first_names (names_of ms)))

-- ---- the last value of a name
-- the value so far counts only where the name doesn't come
last_value-given : (name value : List ℕ) (ms : List Member)
    → last_value name value ms ≡ (if list_any (bytes_eq name) (names_of ms) then last_value name [] ms else value)
last_value-given name value [] = refl
last_value-given name value (m ∷ ms) = grind (arith, last_value-given name value ms)

compact-last_named : (name : List ℕ) (tree : Tree) (vs : Values)
    → compact (last_named name tree vs) ≡ last_value name (compact tree) (members vs)
compact-last_named name tree (last label value blank) = grind arith
compact-last_named name tree (next label value blank values) =
    grind (arith, compact-last_named name value values, compact-last_named name tree values)

-- a name comes among the first places where it comes at all
any-first_names : (name : List ℕ) (names : List (List ℕ))
    → list_any (bytes_eq name) (first_names names) ≡ list_any (bytes_eq name) names
any-first_names name [] = refl
any-first_names name (n ∷ ns) =
    let kept = λ (e : bytes_eq name n ≡ false). any-filter_same (bytes_eq name)
    (λ (other : List ℕ). not (bytes_eq n other)) true
    (λ k same. grind (arith, bytes_eq-true name k, bytes_eq-flip name n)) (first_names ns) in
    grind (arith, kept, any-first_names name ns)

-- members with the same first places and the same last values
collapsed-alike : (ms ns : List Member) → first_names (names_of ms) ≡ first_names (names_of ns)
    → ((n d : List ℕ) → list_any (bytes_eq n) (names_of ms) ≡ true
    → last_value n d ms ≡ last_value n (last_value n d ms) ns) → collapsed ms ≡ collapsed ns
collapsed-alike ms ns firsts lasts =
    let each : (n : List ℕ) → last_value n [] ms ≡ last_value n [] ns =
    λ n. grind (
      arith,
      lasts n [],
      any-first_names n (names_of ms),
      any-first_names n (names_of ns),
      ap (list_any (bytes_eq n)) firsts,
      last_value-given n,
    ) in
    collapsed-at ms ∙ ap (map (member_at ms)) firsts ∙ (λ i. map (λ n. (n, each n i)) (first_names (names_of ns)))
    ∙ sym (collapsed-at ns)

-- ---- alike trees
mutual
  pub alike_compact : (t u : Tree) → AreAlike t u → compact t ≡ compact u
  alike_compact (filled array values) (filled array others) same = ap array_text (items-alike values others same)
  alike_compact (filled object values) (filled object others) same =
      ap object_text (collapsed-alike (members values) (members others) same.0 (lasts values others same.1))
  alike_compact t u same = grind arith

  items-alike : (vs ws : Values) → AreItemsAlike vs ws → map (λ (m : Member). m.1) (members vs)
      ≡ map (λ (m : Member). m.1) (members ws)
  items-alike (last label value blank) (last other another more) same = cc (alike_compact value another same)
  items-alike (next label value blank values) (next other another more others) same =
      cc (alike_compact value another same.0, items-alike values others same.1)
  items-alike vs ws same = absurd same

  lasts : (vs ws : Values) → AreLastAlike vs ws → (n d : List ℕ) → list_any (bytes_eq n) (names_of (members vs)) ≡ true
      → last_value n d (members vs) ≡ last_value n (last_value n d (members vs)) (members ws)
  lasts (last label value blank) ws same n d here =
      grind (
        arith,
        alike_compact value (last_named (label_name label) value ws) same,
        compact-last_named (label_name label) value ws,
        bytes_eq-true n (label_name label),
      )
  lasts (next label value blank values) ws same n d here =
      let only = λ (none : list_any (bytes_eq (label_name label)) (names_of (members values)) ≡ false). alike_compact
      value (last_named (label_name label) value ws) (same.0 none) in
      elim (cases_Bool (list_any (bytes_eq n) (names_of (members values)))) [
        | inl more ↦ grind (arith, lasts values ws same.1 n (compact value) more, lasts values ws same.1 n d more)
        | inr none ↦ grind (
          arith,
          only,
          compact-last_named (label_name label) value ws,
          last_value-given n (compact value) (members values),
          bytes_eq-true n (label_name label),
        )
      ]

-- ---- a value stands for itself, and so does its compact text
pub stands-alone : (bytes means : List ℕ) → Value 128 bytes means → Stands bytes means []
stands-alone bytes means is =
    record { blank = []; value = bytes; parts = sym (append-nil bytes); space = refl; reads = is; ends = tt }

pub alike_stand : (tree other : Tree) → IsGood tree → IsGood other → depth tree ≤ 128 → depth other ≤ 128
    → AreAlike tree other
    → (text : List ℕ) × Stands (spelling tree) text [] × Stands (spelling other) text []
alike_stand tree other good fine low within alike =
    let read = λ (t : Tree) (good : IsGood t) (low : depth t ≤ 128). stands-alone (spelling t) (compact t)
    (tree-Value 128 t good low) in
    (compact tree, read tree good low, rw (alike_compact tree other alike) (read other fine within))

pub ruleset read_whole = (stands-alone, Value-compact)

-- ---- texts that are written piece by piece
-- one more text between commas
pub join-push : (c : ℕ) (ts : List (List ℕ)) (t : List ℕ) → 0 < length ts →
    join_with_byte c (ts ++ t ∷ []) ≡ join_with_byte c ts ++ c ∷ t
join-push c [] t h = absurd (omega arith)
join-push c (u ∷ ts) t h = grind (arith, join-push c ts t, append_assoc u)

-- one turn of a loop that writes items between commas, behind what stands before them
pub items-step : (front : List ℕ) (ts : List (List ℕ)) (t : List ℕ) (i : ℕ) (out comma done : List ℕ) → i < length ts
    → t ≡ get_or ts i t →
    out ≡ front ++ join_with_byte 44 (take i ts) → ((0 < i) × (comma ≡ out ++ 44 ∷ [])) ⊎ ((i ≡ 0) × (comma ≡ out))
    → done ≡ comma ++ t →
    done ≡ front ++ join_with_byte 44 (take (i + 1) ts)
items-step front ts t i out comma done l at before between behind =
    grind (arith, take_more ts i t l, length-take-le i ts, join-push 44 (take i ts) t, append_assoc, append-nil)

-- the closing bracket of an array and of an object
pub array-written : (ts : List (List ℕ)) (i : ℕ) (out done : List ℕ) → length ts ≤ i
    → out ≡ 91 ∷ join_with_byte 44 (take i ts) → done ≡ out ++ 93 ∷ [] → done ≡ array_text ts
unfolding array_text
array-written ts i out done all before behind = rw (behind, before, take_all i ts all) refl

-- the first members of an object are written, and their names are texts
pub record Written (i : ℕ) (out : List ℕ) (ms : List Member) : Type 0 where
  pub text : out ≡ 123 ∷ join_with_byte 44 (take i (map member_text ms))
  pub named : All (λ (m : Member). IsUtf8 m.0) (take i ms)

pub members-step : (ms : List Member) (m : Member) (i : ℕ) (out comma done : List ℕ) → i < length ms → m ≡ get_or ms i m
    → IsUtf8 m.0 →
    Written i out ms → ((0 < i) × (comma ≡ out ++ 44 ∷ [])) ⊎ ((i ≡ 0) × (comma ≡ out)) → done ≡ comma ++ member_text m
    → Written (i + 1) done ms
members-step ms m i out comma done l at utf8 before between behind = record {
  text = items-step (123 ∷ []) (map member_text ms) (member_text m) i out comma done (rw length-map l)
      (ap member_text at ∙ sym (get_or-map member_text ms i m (member_text m) l)) before.text between behind;
  named = All-more (λ (m : Member). IsUtf8 m.0) ms i m l before.named (subst (λ (m : Member). IsUtf8 m.0) at utf8);
}

pub object-written : (ms : List Member) (i : ℕ) (out done : List ℕ) → length ms ≤ i
    → out ≡ 123 ∷ join_with_byte 44 (take i (map member_text ms)) → done ≡ out ++ 125 ∷ [] → done ≡ object_text ms
unfolding object_text
object-written ms i out done all before behind =
    rw (behind, before, take_all i (map member_text ms) (rw length-map all)) refl

-- ---- the definitions tried on two texts
-- White space goes; the last value of a name counts, and stands at the first one's place; `\/` and `\u001F` are not
-- kept, and the other escapes and numbers are.
mixed :
    Value 2
    (codes "[[ \t\n] ,{\r } ,{\"a\":1,\"b\":2,\"\\u0061\":3} ,\"\\\"\\\\\\/\\b\\f\\n\\r\\t\\u001F\" ,1.50 ,1e21 ,-0]")
    (codes "[[],{},{\"a\":3,\"b\":2},\"\\\"\\\\/\\b\\f\\n\\r\\t\\u001f\",1.50,1e21,-0]")
unfolding quote content array_text object_text encode_utf8
mixed =
    let item = λ (tree : Tree) (others : Values). next (unnamed []) tree (32 ∷ []) others in
    let member = λ (name : List Piece) (digit : ℕ) (others : Values). next (named [] name [] []) (scalar (digit ∷ []))
    [] others in
    let digit = λ (d : ℕ) (other : d ≢ 48) (is : list_all is_digit (d ∷ []) ≡ true). whole_number (d ∷ [])
    (inr (d, [], refl, other, is)) in
    let one : IsIntegerPart (49 ∷ []) = inr (49, [], refl, omega arith, refl) in
    let fraction = number [] (49 ∷ []) (codes ".50") [] (inl refl) one
    (inr (codes "50", refl, (53, 48 ∷ [], refl, refl))) (inl refl) in
    let exponent = number [] (49 ∷ []) [] (codes "e21") (inl refl) one (inl refl)
    (inr (101, [], codes "21", refl, inl refl, inl refl, (50, 49 ∷ [], refl, refl))) in
    let zero = number (45 ∷ []) (48 ∷ []) [] [] (inr refl) (inl refl) (inl refl) (inl refl) in
    tree-Value 2 (filled array (item (empty array (32 ∷ 9 ∷ 10 ∷ [])) (item (empty object (13 ∷ 32 ∷ []))
    (item
    (filled object (member (bare 97 ∷ []) 49
    (member (bare 98 ∷ []) 50 (last (named [] (unit 48 48 54 49 ∷ []) [] []) (scalar (51 ∷ [])) []))))
    (item (text (letter 34 ∷ letter 92 ∷ letter 47 ∷ letter 98 ∷ letter 102 ∷ letter 110 ∷ letter 114 ∷ letter 116
    ∷ unit 48 48 49 70 ∷ []))
    (item (scalar (codes "1.50")) (item (scalar (codes "1e21")) (last (unnamed []) (scalar (codes "-0")) []))))))))
    (grind (arith, digit 49, digit 50, digit 51, fraction, exponent, zero)) (lit≤ tt)

-- U+007F and U+2028 stand as they are; a pair is U+1F600; a surrogate alone, before `A` and before a pair, is U+FFFD
surrogates : Value 0 (34 ∷ 0x7F ∷ 0xE2 ∷ 0x80 ∷ 0xA8 ∷ codes "\\ud83d\\ude00\\ud800\\u0041\\ud800\\ud800\\udc00\"")
    (34 ∷ 0x7F ∷ 0xE2 ∷ 0x80 ∷ 0xA8 ∷ 0xF0 ∷ 0x9F ∷ 0x98 ∷ 0x80 ∷ 0xEF ∷ 0xBF ∷ 0xBD ∷ 65 ∷ 0xEF ∷ 0xBF ∷ 0xBD ∷ 0xF0
    ∷ 0x90 ∷ 0x80 ∷ 0x80 ∷ 34 ∷ [])
unfolding quote content encode_utf8
surrogates = tree-Value 0 (text (bare 0x7F ∷ bare 0x2028 ∷ unit 100 56 51 100 ∷ unit 100 101 48 48 ∷ unit 100 56 48 48
    ∷ unit 48 48 52 49 ∷
    unit 100 56 48 48 ∷ unit 100 56 48 48 ∷ unit 100 99 48 48 ∷ [])) (grind arith) (lit≤ tt)
