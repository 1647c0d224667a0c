-- Values in a container, by their first bytes.
use Rattle.std.proofs.Common.{◌≡◌, ◌<◌, ℕ, List, ◌∷◌, ◌++◌, length, drop, get_or, sym, ap, subst, ◌∙◌, lit≤}
use Rattle.std.specs.List.{AllByRecursion}
use Rattle.json_text.specs.Compact.{Member, array_text, object_text}
use Rattle.json_text.specs.Parts.{AreMembers}
use Rattle.json_text.specs.Value.{IsCompact}
use Rattle.json_text.proofs.CallerLemmas.{Value-deeper, Value-Form, StartsWith, form-listed, form-membered, array-starts, object-starts, begins_value, Head, tree-Head, first-same}
use Rattle.scene_json.specs.inner.Passes.{Compacted}
use Rattle.scene_json.proofs.ItemsLeft.{front, front-is, ends-inside}

module _ (bytes : List ℕ) (at : ℕ) {item rest : List ℕ} (h : Compacted (drop at bytes) item rest) where
  pub inside : at < length bytes
  inside = ends-inside bytes at item rest h.ends h.parts

  starts : {b : ℕ} → get_or bytes at 0 ≡ b → StartsWith b item
  starts first =
      let v = h.compact in
      let head : Head begins_value item = subst (Head begins_value) v.spells (tree-Head v.tree v.good) in
      let same = first-same (sym (ap (λ i. i ++ rest) head.parts) ∙ sym h.parts ∙ front bytes at inside first) in
      (head.more, head.parts ∙ ap (λ x. x ∷ head.more) same)

  -- One that begins with an opening brace is an object, and every object does; a square bracket opens an array.
  pub object-here : get_or bytes at 0 ≡ 123 → (ms : List Member) × AreMembers 127 ms × (item ≡ object_text ms)
  object-here first = form-membered 128 item (Value-Form (Value-deeper (lit≤ tt) h.compact)) (starts first)

  pub object-first : (ms : List Member) → item ≡ object_text ms → get_or bytes at 0 ≡ 123
  object-first ms e = front-is bytes at (h.parts ∙ ap (λ i. i ++ rest) (e ∙ (object-starts ms).1))

  pub array-here : get_or bytes at 0 ≡ 91 → (ts : List (List ℕ)) × AllByRecursion (IsCompact 127) ts
      × (item ≡ array_text ts)
  array-here first = form-listed 128 item (Value-Form (Value-deeper (lit≤ tt) h.compact)) (starts first)

  pub array-first : (ts : List (List ℕ)) → item ≡ array_text ts → get_or bytes at 0 ≡ 91
  array-first ts e = front-is bytes at (h.parts ∙ ap (λ i. i ++ rest) (e ∙ (array-starts ts).1))
