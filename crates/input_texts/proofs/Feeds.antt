-- A compact text has no line feed.
use Rattle.std.proofs.Common.{◌≡◌, ℕ, ◌≤◌, List, [], ◌∷◌, true, bytes_eq, filter, flat_map, map, refl, subst, arith}
use Rattle.std.specs.List.{list_all, AllByRecursion, join_with_byte}
use Rattle.std.proofs.lemmas.Bool.{cond_both}
use Rattle.std.proofs.lemmas.Bool.Decides.{nat_tests}
use Rattle.json_text.specs.Characters.{quote, quoted_byte, hex_digit}
use Rattle.json_text.specs.Compact.{Member, member_text, last_value, has_other_name, collapsed, content, array_text, object_text, compact, members, container_text}
use Rattle.json_text.specs.Tree.{Container, array, object, opening, closing, Tree, scalar, text, empty, filled, Values, last, next, IsGood, AreGood}
use Rattle.json_text.specs.Value.{IsCompact}
use Rattle.json_text.proofs.CallerLemmas.{is_part_of_literal, literal-plain, list_all-each}
use Rattle.input_texts.specs.Lines.{is_within_line}
use Rattle.input_texts.proofs.LineLaws.{NoFeed, joined}

high : (b : ℕ) → 32 ≤ b → is_within_line b ≡ true
high b h = grind (arith, nat_tests)

digit : (n : ℕ) → is_within_line (hex_digit n) ≡ true
digit n = grind (arith, nat_tests)

quoted : (b : ℕ) → NoFeed (quoted_byte b)
quoted b = grind (arith, nat_tests, digit)

all-quoted : (bytes : List ℕ) → NoFeed (flat_map quoted_byte bytes)
all-quoted [] = refl
all-quoted (b ∷ bytes) = joined (quoted_byte b) (flat_map quoted_byte bytes) (quoted b) (all-quoted bytes)

pub quote-none : (bytes : List ℕ) → NoFeed (quote bytes)
unfolding quote
quote-none bytes = joined (flat_map quoted_byte bytes) (34 ∷ []) (all-quoted bytes) refl

literal-none : (s : List ℕ) → list_all is_part_of_literal s ≡ true → NoFeed s
literal-none = list_all-each is_part_of_literal is_within_line (λ b h. grind (arith, nat_tests))

-- ---- members
abbrev Valued : List Member → Type 0
Valued ms = AllByRecursion (λ (m : Member). NoFeed m.1) ms

last-none : (name value : List ℕ) (ms : List Member) → NoFeed value → Valued ms → NoFeed (last_value name value ms)
last-none name value [] h all = h
last-none name value (m ∷ ms) h all =
    cond_both (bytes_eq name m.0) (last_value name m.1 ms) (last_value name value ms) NoFeed
    (λ _. last-none name m.1 ms all.0 all.1) (λ _. last-none name value ms h all.1)

filter-none : (p : Member → _) (ms : List Member) → Valued ms → Valued (filter p ms)
filter-none p [] all = tt
filter-none p (m ∷ ms) all = cond_both (p m) (m ∷ filter p ms) (filter p ms) Valued
    (λ _. (all.0, filter-none p ms all.1)) (λ _. filter-none p ms all.1)

collapsed-none : (ms : List Member) → Valued ms → Valued (collapsed ms)
collapsed-none [] all = tt
collapsed-none (m ∷ ms) all =
    (last-none m.0 m.1 ms all.0 all.1, filter-none (has_other_name m.0) (collapsed ms) (collapsed-none ms all.1))

-- texts between commas
abbrev Texts : List (List ℕ) → Type 0
Texts ts = AllByRecursion NoFeed ts

join-none : (ts : List (List ℕ)) → Texts ts → NoFeed (join_with_byte 44 ts)
join-none [] all = refl
join-none (t ∷ []) all = all.0
join-none (t ∷ u ∷ ts) all = joined t (44 ∷ join_with_byte 44 (u ∷ ts)) all.0 (join-none (u ∷ ts) all.1)

values-none : (ms : List Member) → Valued ms → Texts (map (λ (m : Member). m.1) ms)
values-none [] all = tt
values-none (m ∷ ms) all = (all.0, values-none ms all.1)

members-none : (ms : List Member) → Valued ms → Texts (map member_text ms)
members-none [] all = tt
members-none (m ∷ ms) all = (joined (quote m.0) (58 ∷ m.1) (quote-none m.0) all.0, members-none ms all.1)

pub array-none : (ts : List (List ℕ)) → Texts ts → NoFeed (array_text ts)
unfolding array_text
array-none ts all = joined (join_with_byte 44 ts) (93 ∷ []) (join-none ts all) refl

pub object-none : (ms : List Member) → Valued ms → NoFeed (object_text ms)
unfolding object_text
object-none ms all = joined (join_with_byte 44 (map member_text ms)) (125 ∷ [])
    (join-none (map member_text ms) (members-none ms all)) refl

container-none : (c : Container) (ms : List Member) → Valued ms → NoFeed (container_text c ms)
container-none array ms all = array-none (map (λ (m : Member). m.1) ms) (values-none ms all)
container-none object ms all = object-none (collapsed ms) (collapsed-none ms all)

-- ---- trees
empty-none : (c : Container) → NoFeed (opening c ∷ closing c ∷ [])
empty-none array = refl
empty-none object = refl

mutual
  tree-none : (t : Tree) → IsGood t → NoFeed (compact t)
  tree-none (scalar literal) good = literal-none literal (literal-plain literal good)
  tree-none (text pieces) good = quote-none (content pieces)
  tree-none (empty c blank) good = empty-none c
  tree-none (filled c values) good = container-none c (members values) (all-none c values good)

  all-none : (c : Container) (values : Values) → AreGood c values → Valued (members values)
  all-none c (last label value blank) good = (tree-none value good.1, tt)
  all-none c (next label value blank values) good = (tree-none value good.1, all-none c values good.3)

pub compact-none : (limit : ℕ) (bytes : List ℕ) → IsCompact limit bytes → NoFeed bytes
compact-none limit bytes v = subst NoFeed v.means (tree-none v.tree v.good)
