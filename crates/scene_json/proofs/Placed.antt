-- A member of an object that is taken by its place.
use Rattle.std.proofs.Common.{◌≡◌, ◌<◌, ◌≤◌, ◌+◌, ◌-◌, ℕ, List, [], ◌∷◌, ◌++◌, length, drop, map, get_or, sym, ap, ap₂, subst, ◌∙◌, arith, append_assoc, length-drop, IsUtf8}
use Rattle.std.proofs.lemmas.List.{map-append}
use Rattle.std.specs.List.{prefix_len}
use Rattle.json_text.specs.Characters.{is_plain, quote}
use Rattle.json_text.specs.Compact.{Member, member_text}
use Rattle.json_text.specs.Members.{pairs, pair_of}
use Rattle.json_text.specs.Value.{IsCompact}
use Rattle.json_text.proofs.CallerLemmas.{Value-deeper, run-within, unescaped}
use Rattle.members.specs.Standing.{cut, member_at, Stands}
use Rattle.members.specs.declared.standing.Place.{Place}
use Rattle.scene_json.specs.inner.Passes.{EndsAt}
use Rattle.scene_json.proofs.ItemsLeft.{between-is}
use Rattle.scene_json.proofs.MembersLeft.{IsFirst, IsText, quoted-here, value-here, end-here}

-- The member stands at the place, and behind it the rest.
pub record IsPlaced (value : List ℕ) (p : Place) (m : Member) (rest : List ℕ) : Type 0 where
  pub stands : Stands value p
  pub is : pair_of (member_at value p) ≡ m
  pub behind : drop p.end value ≡ rest
  pub inside : p.end < length value

-- A run of plain bytes from behind the mark of the name on ends here.
module _ {bytes value : List ℕ} (at mark : ℕ) (m : Member) (rest : List ℕ) (same : bytes ≡ value)
    (first : IsFirst (drop at value) m rest)
    (is : mark ≡ at + 1 + prefix_len is_plain (drop (at + 1) bytes)) where
  pub mark-inside : mark < length bytes
  mark-inside = run-within at same (quoted-here first) is

  named-here : get_or bytes mark 0 ≡ 34 → IsText value at (cut value (at + 1) mark) (mark + 1)
  named-here stop other after q = let own = unescaped at same q is stop in (own.2, own.3)

  pub colon-inside : get_or bytes mark 0 ≡ 34 → mark + 1 < length bytes
  colon-inside stop =
      rw same (value-here value at (mark + 1) (cut value (at + 1) mark) first (named-here stop)).1

  pub placed : get_or bytes mark 0 ≡ 34 → (end : ℕ) → EndsAt value (mark + 1 + 1) end → mark + 1 + 1 ≤ end
      → IsPlaced value (record { start = at; colon = mark + 1; end = end }) m rest
  placed stop end ends after =
      let found = named-here stop in
      let v = value-here value at (mark + 1) (cut value (at + 1) mark) first found in
      let e = end-here value at (mark + 1) (cut value (at + 1) mark) first found end ends in
      let p : Place = record { start = at; colon = mark + 1; end = end } in
      let back : mark + 1 - 1 ≡ mark = omega arith in
      let name : cut value (at + 1) (mark + 1 - 1) ≡ m.0 = rw back v.0 in
      let pair : pair_of (member_at value p) ≡ m = ap₂ (λ n v. (n, v)) name e.1 in
      let whole = between-is value (member_text m) rest at end (omega (arith, is, e.2, after))
      (omega (arith, e.2, ap length e.0, length-drop end value))
      (first.parts ∙ sym (append_assoc (quote m.0) (58 ∷ m.1) rest)) in record {
        stands = record {
          named = omega (arith, is);
          valued = omega (arith, after);
          within = omega (arith, e.2);
          same = whole.1 ∙ ap member_text (sym pair);
          utf8 = subst IsUtf8 (sym name) first.named;
          compact = subst (IsCompact 128) (sym e.1) (Value-deeper (omega arith) first.valued);
        };
        is = pair;
        behind = e.0;
        inside = e.2;
      }

-- One more place is one more member.
pub pushed-places : (value : List ℕ) (old new : List Place) (p : Place) {m : Member} {rest : List ℕ}
    → IsPlaced value p m rest → new ≡ old ++ p ∷ []
    → pairs (map (member_at value) new) ≡ pairs (map (member_at value) old) ++ m ∷ []
pushed-places value old new p placed e =
    ap (λ ps. pairs (map (member_at value) ps)) e ∙ ap pairs (map-append (member_at value) old (p ∷ []))
    ∙ map-append pair_of (map (member_at value) old) (member_at value p ∷ [])
    ∙ ap (λ m. pairs (map (member_at value) old) ++ m ∷ []) placed.is
