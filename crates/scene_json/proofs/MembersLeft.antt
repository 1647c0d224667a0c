-- The members of an object that are left while it is taken apart.
use Rattle.std.proofs.Common.{◌≡◌, ◌≢◌, ◌<◌, ◌+◌, ◌-◌, inl, inr, ℕ, List, [], ◌∷◌, ◌++◌, Option, None, All, length, map, take, drop, get_or, refl, sym, ap, ◌∙◌, arith, append_assoc, append-nil, length-append, length-drop, IsUtf8}
use Rattle.std.specs.List.{AllByRecursion, join_with_byte}
use Rattle.json_text.specs.Characters.{quote}
use Rattle.json_text.specs.Tree.{object}
use Rattle.json_text.specs.Compact.{Member, member_text, object_text}
use Rattle.json_text.specs.Value.{IsCompact}
use Rattle.json_text.specs.Walk.{Quoted}
use Rattle.json_text.specs.Parts.{AreMembers}
use Rattle.json_text.proofs.CallerLemmas.{array-starts, quote-Quoted, drop-after, inside-after}
use Rattle.scene_json.specs.Passes.{IsEnd, left_text, behind_item}
use Rattle.scene_json.specs.inner.Passes.{Compacted, EndsAt, StandHere, IsPassed, IsStopped, HaveEnded}
use Rattle.scene_json.proofs.ItemsLeft.{front-is, behind-split, behind-ends, ends-inside}

-- what follows the first member that is left: the closing bracket, or a comma and the others
abbrev pub behind_member : List ℕ → List Member → List ℕ
behind_member rest more = behind_item object rest (map member_text more)

-- A member of an object stands at the front; the rest follows it.
pub record IsFirst (bytes : List ℕ) (member : Member) (rest : List ℕ) : Type 0 where
  pub named : IsUtf8 member.0
  pub valued : IsCompact 127 member.1
  pub parts : bytes ≡ quote member.0 ++ (58 ∷ (member.1 ++ rest))
  pub ends : IsEnd rest

first-here : (rest bytes : List ℕ) (m : Member) (ms : List Member) → IsUtf8 m.0 → IsCompact 127 m.1
    → bytes ≡ left_text object rest (map member_text (m ∷ ms)) → IsFirst bytes m (behind_member rest ms)
first-here rest bytes m ms named valued e = record {
  named = named;
  valued = valued;
  parts = e ∙ behind-split object rest (member_text m) (map member_text ms)
      ∙ append_assoc (quote m.0) (58 ∷ m.1) (behind_member rest ms);
  ends = behind-ends object rest (map member_text ms);
}

-- ---- the start
pub object-opened : (bytes : List ℕ) (start : ℕ) (all : List Member) (rest : List ℕ) → AreMembers 127 all
    → drop start bytes ≡ object_text all ++ rest → StandHere (drop (start + 1) bytes) all rest
unfolding object_text
object-opened bytes start all rest are e = record {
  named = are.named;
  valued = are.valued;
  here = drop-after bytes start e ∙ append_assoc (join_with_byte 44 (map member_text all)) (125 ∷ []) rest;
}

pub whole-opened : (value : List ℕ) (all : List Member) → AreMembers 127 all → value ≡ object_text all
    → StandHere (drop 1 value) all []
whole-opened value all are e = object-opened value 0 all [] are (e ∙ sym (append-nil (object_text all)))

-- ---- a step
-- The first of these members stands here; behind it are the others.
pub record IsNextMember (bytes : List ℕ) (all : List Member) (rest : List ℕ) : Type 0 where
  pub item : Member
  pub more : List Member
  pub parts : all ≡ item ∷ more
  pub first : IsFirst bytes item (behind_member rest more)
  pub named : AllByRecursion (λ (m : Member). IsUtf8 m.0) more
  pub valued : AllByRecursion (λ (m : Member). IsCompact 127 m.1) more

module _ (bytes : List ℕ) (at : ℕ) where
  pub members-inside : (all : List Member) (rest : List ℕ) → StandHere (drop at bytes) all rest → at < length bytes
  members-inside all rest s = omega (
    arith,
    ap length s.here,
    length-drop at bytes,
    length-append (join_with_byte 44 (map member_text all)) (125 ∷ rest),
  )

  -- At the closing bracket there is none.
  pub members-none : (all : List Member) (rest : List ℕ) → StandHere (drop at bytes) all rest → get_or bytes at 0 ≡ 125
      → (all ≡ []) × (drop at bytes ≡ 125 ∷ rest)
  unfolding quote
  members-none [] rest s closed = (refl, s.here)
  members-none (m ∷ ms) rest s closed =
      absurd
      (omega (
        arith,
        closed,
        front-is bytes at (first-here rest (drop at bytes) m ms s.named.0 s.valued.0
            s.here).parts,
      ))

  pub members-next : (all : List Member) (rest : List ℕ) → StandHere (drop at bytes) all rest → get_or bytes at 0 ≢ 125
      → IsNextMember (drop at bytes) all rest
  members-next [] rest s other = absurd (other (front-is bytes at s.here))
  members-next (m ∷ ms) rest s other = record {
    item = m;
    more = ms;
    parts = refl;
    first = first-here rest (drop at bytes) m ms s.named.0 s.valued.0 s.here;
    named = s.named.1;
    valued = s.valued.1;
  }

-- All members are those that were passed and those that are left; the rest follows.
pub record ArePassed (stop : Option (List ℕ)) (all old new : List Member) (rest bytes : List ℕ) : Type 0 where
  pub passed : List Member
  pub left : List Member
  pub parts : all ≡ passed ++ left
  pub taken : new ≡ old ++ passed
  pub others : All (IsPassed stop) passed
  pub here : StandHere bytes left rest

-- ---- the end
-- At an opening bracket it stopped, and elsewhere all are passed.
module _ (bytes : List ℕ) (end : ℕ) {stop : Option (List ℕ)} {all passed : List Member} {rest : List ℕ} where
  pub stopped-here : HaveEnded stop all passed rest (drop end bytes) → get_or bytes end 0 ≡ 91
      → IsStopped stop all passed rest (drop end bytes)
  stopped-here e bracket = grind (arith, front-is bytes end)

  pub ended-here : HaveEnded stop all passed rest (drop end bytes) → get_or bytes end 0 ≢ 91 → (passed ≡ all)
      × All (IsPassed stop) passed
  ended-here (inl ended) other = (ended.0, ended.1)
  ended-here (inr stopped) other = grind (arith, front-is bytes end, stopped.here, array-starts stopped.items)

pub all-ended : {all passed : List Member} {rest bytes : List ℕ} → HaveEnded None all passed rest bytes → (passed ≡ all)
    × (bytes ≡ 125 ∷ rest)
all-ended e = grind arith

-- ---- the first member
pub quoted-here : {bytes rest : List ℕ} {m : Member} → IsFirst bytes m rest → Quoted bytes m.0 (58 ∷ (m.1 ++ rest))
quoted-here {bytes} {rest} {m} first = quote-Quoted bytes m.0 (58 ∷ (m.1 ++ rest)) first.named first.parts

-- this text is what any string at an offset is for, and it ends at the other one
abbrev pub IsText : List ℕ → ℕ → List ℕ → ℕ → Type 0
IsText bytes at text end =
    (other after : List ℕ) → Quoted (drop at bytes) other after → (text ≡ other) × (drop end bytes ≡ after)

module _ (bytes : List ℕ) (at colon : ℕ) (name : List ℕ) {m : Member} {rest : List ℕ}
    (first : IsFirst (drop at bytes) m rest) (found : IsText bytes at name colon) where
  pub value-here : (name ≡ m.0) × (colon < length bytes) × Compacted (drop (colon + 1) bytes) m.1 rest
  value-here =
      let here = found m.0 (58 ∷ (m.1 ++ rest)) (quoted-here first) in (
        here.0,
        inside-after bytes colon here.1,
        record {
          compact = first.valued;
          parts = drop-after bytes colon here.1;
          ends = first.ends;
        },
      )

  pub end-here : (end : ℕ) → EndsAt bytes (colon + 1) end → (drop end bytes ≡ rest)
      × (take (end - (colon + 1)) (drop (colon + 1) bytes) ≡ m.1) × (end < length bytes)
  end-here end ends =
      let here = ends m.1 rest value-here.2 in (here.0, here.1, ends-inside bytes end [] rest first.ends here.0)
