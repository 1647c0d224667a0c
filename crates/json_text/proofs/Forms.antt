-- What a compact text is, told by its first byte; that it has a form or hasn't is decided.
use Rattle.std.proofs.Common.{◌≡◌, ◌≢◌, ◌⊎◌, inl, inr, ◌-◌, ℕ, List, [], ◌∷◌, ◌++◌, eqb, eqb-true, refl, sym, ap, ◌∙◌, IsUtf8, arith}
use Rattle.std.specs.List.{AllByRecursion}
use Rattle.std.proofs.lemmas.Bool.{cases_Bool, cases_lt}
use Rattle.std.proofs.lemmas.Bool.Decides.{nat_tests}
use Rattle.json_text.specs.Characters.{quote}
use Rattle.json_text.specs.Compact.{Member, array_text, object_text}
use Rattle.json_text.specs.Tree.{depth}
use Rattle.json_text.specs.Value.{IsCompact}
use Rattle.json_text.specs.Walk.{Quoted}
use Rattle.json_text.proofs.CompactLaws.{AreMembers, Form, literal, quoted, listed, membered, Value-Form}
use Rattle.json_text.proofs.Reading.{scalar-Head, tree-once}
use Rattle.json_text.proofs.Strings.{utf8-Quotes, heads-differ}

-- a first byte
abbrev pub StartsWith : ℕ → List ℕ → Type 0
StartsWith first bytes = (more : List ℕ) × (bytes ≡ first ∷ more)

pub quote-starts : (t : List ℕ) → StartsWith 34 (quote t)
unfolding quote
quote-starts t = (_, refl)

pub array-starts : (ts : List (List ℕ)) → StartsWith 91 (array_text ts)
unfolding array_text
array-starts ts = (_, refl)

pub object-starts : (ms : List Member) → StartsWith 123 (object_text ms)
unfolding object_text
object-starts ms = (_, refl)

pub starts-same : (b : ℕ) {bytes text : List ℕ} → bytes ≡ text → StartsWith b bytes → StartsWith b text
starts-same b e h = (h.0, sym e ∙ h.1)

pub form-quoted : (limit : ℕ) (s : List ℕ) → Form limit s → StartsWith 34 s → (t : List ℕ) × IsUtf8 t × (s ≡ quote t)
unfolding quote array_text object_text
form-quoted limit s (quoted t u e) starts = (t, u, e)
form-quoted limit s (literal h) starts = absurd (grind (arith, nat_tests, scalar-Head s h))
form-quoted limit s (listed ts all some e) starts = absurd (grind arith)
form-quoted limit s (membered ms all some e) starts = absurd (grind arith)

pub form-listed : (limit : ℕ) (s : List ℕ) → Form limit s → StartsWith 91 s → (ts : List (List ℕ))
    × AllByRecursion (IsCompact (limit - 1)) ts × (s ≡ array_text ts)
unfolding quote array_text object_text
form-listed limit s (listed ts all some e) starts = (ts, all, e)
form-listed limit s (literal h) starts = absurd (grind (arith, nat_tests, scalar-Head s h))
form-listed limit s (quoted t u e) starts = absurd (grind arith)
form-listed limit s (membered ms all some e) starts = absurd (grind arith)

pub form-membered : (limit : ℕ) (s : List ℕ) → Form limit s → StartsWith 123 s → (ms : List Member)
    × AreMembers (limit - 1) ms × (s ≡ object_text ms)
unfolding quote array_text object_text
form-membered limit s (membered ms all some e) starts = (ms, all, e)
form-membered limit s (literal h) starts = absurd (grind (arith, nat_tests, scalar-Head s h))
form-membered limit s (quoted t u e) starts = absurd (grind arith)
form-membered limit s (listed ts all some e) starts = absurd (grind arith)

-- the quote of a text is a string for it
pub quote-Quoted : (bytes t rest : List ℕ) → IsUtf8 t → bytes ≡ quote t ++ rest → Quoted bytes t rest
quote-Quoted bytes t rest u e =
    let q = utf8-Quotes t u in
    record { pieces = q.pieces; good = q.good; parts = e ∙ ap (λ x. x ++ rest) (sym q.spells); means = q.means }

-- ---- a compact text has a form or hasn't
-- what is known of texts with this first byte decides each text
decided : {A : Type 0} (b : ℕ) (text : List ℕ) (P : A → Type 0) (make : A → List ℕ) → ((a : A) → StartsWith b (make a))
    → (StartsWith b text → (a : A) × P a × (text ≡ make a))
    → ((a : A) × P a × (text ≡ make a)) ⊎ ((a : A) → text ≢ make a)
decided b [] P make starts known = inr (λ a is. let other = is ∙ (starts a).1 in cc)
decided b (x ∷ more) P make starts known = elim (cases_Bool (eqb x b)) [
  | inl e ↦ inl (known (more, ap (λ y. y ∷ more) (eqb-true x b e)))
  | inr e ↦ inr (λ a is. heads-differ x b more (starts a).0 e (is ∙ (starts a).1))
]

pub string-or-not : (text : List ℕ) → IsCompact 128 text → ((string : List ℕ) × IsUtf8 string × (text ≡ quote string))
    ⊎ ((string : List ℕ) → text ≢ quote string)
string-or-not text is = decided 34 text IsUtf8 quote quote-starts (form-quoted 128 text (Value-Form is))

pub array-or-not : (text : List ℕ) → IsCompact 128 text
    → ((items : List (List ℕ)) × AllByRecursion (IsCompact 127) items × (text ≡ array_text items))
    ⊎ ((items : List (List ℕ)) → text ≢ array_text items)
array-or-not text is =
    decided 91 text (AllByRecursion (IsCompact 127)) array_text array-starts (form-listed 128 text (Value-Form is))

pub object-or-not : (text : List ℕ) → IsCompact 128 text
    → ((members : List Member) × AreMembers 127 members × (text ≡ object_text members))
    ⊎ ((members : List Member) → text ≢ object_text members)
object-or-not text is =
    decided 123 text (AreMembers 127) object_text object-starts (form-membered 128 text (Value-Form is))

-- ---- how deep it nests
pub nests-or-not : (text : List ℕ) (limit : ℕ) → IsCompact 128 text → IsCompact limit text ⊎ (IsCompact limit text → ⊥)
nests-or-not text limit is = elim (cases_lt limit (depth is.tree)) [
  | inl deeper ↦ inr (λ other.
      let same = tree-once is.tree other.tree [] [] is.good other.good tt tt
      (ap (λ s. s ++ []) (is.spells ∙ sym other.spells)) in
      omega (arith, other.shallow, ap depth same.0))
  | inr within ↦ inl (record { tree = is.tree; good = is.good; shallow = within; spells = is.spells; means = is.means })
]
