-- What is left of lists that stand one behind the other.
use Rattle.std.proofs.Common.{◌≡◌, ◌∙◌, ◌+◌, ◌-◌, ◌<◌, ◌≤◌, ℕ, false, cond, List, [], ◌∷◌, ◌++◌, length, map, take}
use Rattle.std.proofs.Common.{drop, sym, ap, subst, arith, append-nil, append_assoc, length-append, length-drop}
use Rattle.std.proofs.Common.{drop-drop}
use Rattle.std.specs.Prelude.{slice_index_or}
use Rattle.std.specs.List.{concat}
use Rattle.std.proofs.lemmas.List.{drop-append-le, drop_at, drop_all}
use Rattle.std.proofs.Math.Seq.{take-length}
use Rattle.ws_links.specs.inner.Leaving.{Outgoing, first_of, first_left, has_reply_first}

-- all but the first so many
pub rest-taken : (n : ℕ) (xs : List ℕ) → take (length xs - n) (drop n xs) ≡ drop n xs
rest-taken n xs = subst (λ k. take k (drop n xs) ≡ drop n xs) (length-drop n xs) (take-length (drop n xs))

-- one list more stands behind all bytes
pub concat-push : (xss : List (List ℕ)) (xs : List ℕ) → concat (xss ++ xs ∷ []) ≡ concat xss ++ xs
concat-push [] xs = append-nil xs
concat-push (ys ∷ xss) xs = ap (λ bytes. ys ++ bytes) (concat-push xss xs) ∙ sym (append_assoc ys (concat xss) xs)

-- the first list is a part of all
pub first-within : (n : ℕ) (xss : List (List ℕ)) → n ≤ length (first_of xss) → n ≤ length (concat xss)
first-within n [] within = within
first-within n (xs ∷ xss) within = let e = length-append xs (concat xss) in omega arith

-- what is left, with a list more
pub left-push : (n : ℕ) (xss : List (List ℕ)) (xs : List ℕ) → n ≤ length (first_of xss)
    → drop n (concat (xss ++ xs ∷ [])) ≡ drop n (concat xss) ++ xs
left-push n xss xs within =
    ap (λ bytes. drop n bytes) (concat-push xss xs) ∙ drop-append-le n (concat xss) xs (first-within n xss within)

-- a list more leaves the first one, where there was one
pub first-push : (n : ℕ) (xss : List (List ℕ)) (xs : List ℕ) → n ≤ length (first_of xss)
    → n ≤ length (first_of (xss ++ xs ∷ []))
first-push n [] xs within = omega arith
first-push n (ys ∷ xss) xs within = within

-- the first of what is made of items is made of the first item
pub first-made : {X : Type 0} (f : X → List ℕ) (items : List X) (x : X) → 0 < length items
    → x ≡ slice_index_or items 0 x → first_of (map f items) ≡ f x
first-made f [] x some e = absurd (omega arith)
first-made f (y ∷ items) x some e = ap f (sym e)

-- the first list has left
pub left-first : {X : Type 0} (f : X → List ℕ) (items : List X) (x : X) (n k : ℕ) → 0 < length items
    → x ≡ slice_index_or items 0 x → length (f x) ≡ n + k
    → concat (map f (drop 1 items)) ≡ drop k (drop n (concat (map f items)))
left-first f [] x n k some e whole = absurd (omega arith)
left-first f (y ∷ items) x n k some e whole =
    sym (drop-drop k n (f y ++ concat (map f items))
    ∙ drop_at (f y) (concat (map f items)) (n + k) (ap (λ z. length (f z)) (sym e) ∙ whole))

-- nothing is made of no items
pub none-made : {X : Type 0} (f : X → List ℕ) (items : List X) (n : ℕ) → length items ≤ 0
    → [] ≡ drop n (first_of (map f items))
none-made f [] n none = sym (drop_all n [] (omega arith))
none-made f (x ∷ items) n none = absurd (omega arith)

-- so many bytes of the rest are so many of all
pub within-rest : (n k : ℕ) (xs : List ℕ) → n ≤ length xs → k ≤ length (drop n xs) → n + k ≤ length xs
within-rest n k xs within asked = let e = length-drop n xs in let all = subst (λ m. k ≤ m) e asked in omega arith

-- what leaves is a part of the first frame, where no reply goes before it
pub leaves-within : {X : Type 0} (f : X → List ℕ) (items : List X) (x : X) (n k : ℕ) (outgoing : Outgoing)
    → 0 < length items
    → x ≡ slice_index_or items 0 x → map f items ≡ outgoing.frames
    → n ≡ outgoing.begun → false ≡ has_reply_first outgoing
    → n ≤ length (first_of (map f items)) → k ≤ length (first_left outgoing) → n + k ≤ length (f x)
leaves-within f items x n k outgoing some e frames begun is-frame within asked =
    let first = first-made f items x some e in
    let rest = ap (drop n) (sym first)
    ∙ ap (λ xss. drop n (first_of xss)) frames
    ∙ ap (λ m. drop m (first_of outgoing.frames)) begun
    ∙ ap (λ b. cond b outgoing.replies.bytes (drop outgoing.begun (first_of outgoing.frames))) is-frame in
    within-rest _ _ _ (subst (λ bytes. n ≤ length bytes) first within)
    (subst (λ bytes. k ≤ length bytes) (sym rest) asked)
