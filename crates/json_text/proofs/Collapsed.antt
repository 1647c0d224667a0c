-- Members of an object whose names are kept once.
use Rattle.std.proofs.Common.{◌≡◌, ℕ, List, [], ◌∷◌, ◌++◌, Bool, true, false, if◌then◌else◌, refl, sym, ◌∙◌, filter, map, bytes_eq, arith}
use Rattle.std.proofs.lemmas.Bool.{false_from_ne_true, false≢true}
use Rattle.std.proofs.lemmas.Map.Made.{IsDistinct-keys_filter}
use Rattle.std.proofs.lemmas.Slice.Eq.{bytes_eq-Decides}
use Rattle.std.specs.List.{AllByRecursion, IsDistinct, list_any}
use Rattle.json_text.specs.Compact.{Member, has_other_name, last_value, collapsed}
pub use Rattle.json_text.specs.Parts.{names_of}

-- equal names are told by `bytes_eq`
pub bytes_eq-true : (a b : List ℕ) → bytes_eq a b ≡ true → a ≡ b
bytes_eq-true a b = (bytes_eq-Decides a b).0

pub bytes_eq-same : (a : List ℕ) → bytes_eq a a ≡ true
bytes_eq-same a = (bytes_eq-Decides a a).1 refl

pub bytes_eq-apart : (a b : List ℕ) → (a ≡ b → ⊥) → bytes_eq a b ≡ false
bytes_eq-apart a b h = false_from_ne_true (bytes_eq a b) (λ e. h (bytes_eq-true a b e))

pub bytes_eq-flip : (a b : List ℕ) → bytes_eq a b ≡ false → bytes_eq b a ≡ false
bytes_eq-flip a b h = bytes_eq-apart b a (λ e. false≢true (sym h ∙ (rw e (bytes_eq-same a))))

abbrev pub name_of : Member → List ℕ
name_of member = member.0

-- no member has this name
abbrev pub IsAbsent : List ℕ → List Member → Type 0
IsAbsent name members = AllByRecursion (λ other. bytes_eq name other ≡ false) (names_of members)

-- where no item passes a test, each fails it
pub none_passes : {X : Type 0} (test : X → Bool) (xs : List X) → list_any test xs ≡ false
    → AllByRecursion (λ x. test x ≡ false) xs
none_passes test [] h = tt
none_passes test (x ∷ xs) h = grind (arith, none_passes test xs)

-- what holds of each member holds of each that a filter keeps, and of each collapsed one
filter-All : (P : Member → Type 0) (p : Member → Bool) (ms : List Member) → AllByRecursion P ms
    → AllByRecursion P (filter p ms)
filter-All P p [] h = tt
filter-All P p (m ∷ ms) h = grind (arith, filter-All P p ms)

last_value-All : (P : List ℕ → Type 0) (name value : List ℕ) (ms : List Member) → P value
    → AllByRecursion P (map (λ m. m.1) ms) → P (last_value name value ms)
last_value-All P name value [] here h = here
last_value-All P name value (m ∷ ms) here h =
    grind (arith, last_value-All P name m.1 ms, last_value-All P name value ms)

pub collapsed-names : (P : List ℕ → Type 0) (ms : List Member) → AllByRecursion (λ m. P m.0) ms
    → AllByRecursion (λ m. P m.0) (collapsed ms)
collapsed-names P [] h = tt
collapsed-names P (m ∷ ms) h =
    (h.0, filter-All (λ m. P m.0) (has_other_name m.0) (collapsed ms) (collapsed-names P ms h.1))

pub collapsed-values : (P : List ℕ → Type 0) (ms : List Member) → AllByRecursion P (map (λ m. m.1) ms)
    → AllByRecursion (λ m. P m.1) (collapsed ms)
collapsed-values P [] h = tt
collapsed-values P (m ∷ ms) h =
    grind (arith, last_value-All P m.0 m.1 ms, filter-All (λ n. P n.1) (has_other_name m.0), collapsed-values P ms)

-- collapsed names are distinct
filter-IsAbsent : (name : List ℕ) (ms : List Member) → IsAbsent name (filter (has_other_name name) ms)
filter-IsAbsent name [] = tt
filter-IsAbsent name (m ∷ ms) = grind (arith, filter-IsAbsent name ms)

pub collapsed-distinct : (ms : List Member) → IsDistinct bytes_eq (names_of (collapsed ms))
unfolding IsDistinct
collapsed-distinct [] = tt
collapsed-distinct (m ∷ ms) = (
  filter-IsAbsent m.0 (collapsed ms),
  IsDistinct-keys_filter bytes_eq (has_other_name m.0) (collapsed ms) (collapsed-distinct ms),
)

-- distinct names are left as they are
filter-same : (name : List ℕ) (ms : List Member) → IsAbsent name ms → filter (has_other_name name) ms ≡ ms
filter-same name [] h = refl
filter-same name (m ∷ ms) h = grind (arith, filter-same name ms)

pub last_value-same : (name value : List ℕ) (ms : List Member) → IsAbsent name ms → last_value name value ms ≡ value
last_value-same name value [] h = refl
last_value-same name value (m ∷ ms) h = rw h.0 (last_value-same name value ms h.1)

pub collapsed-same : (ms : List Member) → IsDistinct bytes_eq (names_of ms) → collapsed ms ≡ ms
unfolding IsDistinct
collapsed-same [] h = refl
collapsed-same (m ∷ ms) h =
    rw (last_value-same m.0 m.1 ms h.0, collapsed-same ms h.1, filter-same m.0 ms h.0) refl

-- the members with one more: its value stands at the place of its name, and a new name at the end
abbrev pub insert_entry : List Member → List ℕ → List ℕ → List Member
insert_entry [] name value = (name, value) ∷ []
insert_entry (m ∷ ms) name value = if bytes_eq name m.0 then (m.0, value) ∷ ms else m ∷ insert_entry ms name value

last_value-push : (name value : List ℕ) (ms : List Member) (new : Member) →
    last_value name value (ms ++ new ∷ []) ≡ (if bytes_eq name new.0 then new.1 else last_value name value ms)
last_value-push name value [] new = refl
last_value-push name value (m ∷ ms) new =
    grind (arith, last_value-push name m.1 ms new, last_value-push name value ms new)

filter-insert_entry-same : (name value : List ℕ) (ms : List Member)
    → filter (has_other_name name) (insert_entry ms name value) ≡ filter (has_other_name name) ms
filter-insert_entry-same name value [] = rw (bytes_eq-same name) refl
filter-insert_entry-same name value (m ∷ ms) = grind (arith, filter-insert_entry-same name value ms)

filter-insert_entry-other : (name value other : List ℕ) (ms : List Member) → bytes_eq other name ≡ false →
    filter (has_other_name other) (insert_entry ms name value)
    ≡ insert_entry (filter (has_other_name other) ms) name value
filter-insert_entry-other name value other [] apart = rw apart refl
filter-insert_entry-other name value other (m ∷ ms) apart =
    grind (arith, filter-insert_entry-other name value other ms, bytes_eq-true name m.0)

-- one more member at the end
pub collapsed-push : (ms : List Member) (name value : List ℕ)
    → collapsed (ms ++ (name, value) ∷ []) ≡ insert_entry (collapsed ms) name value
collapsed-push [] name value = refl
collapsed-push (m ∷ ms) name value =
    grind (
      arith,
      last_value-push,
      collapsed-push ms name value,
      bytes_eq-true m.0 name,
      bytes_eq-same,
      bytes_eq-flip,
      filter-insert_entry-same,
      filter-insert_entry-other,
    )
