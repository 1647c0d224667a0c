use Rattle.std.proofs.Common.{◌≡◌, ℕ, ◌+◌, ◌-◌, ◌<◌, ◌≤◌, List, [], ◌++◌, length, take, drop, get_or, flat_map, Option, Some, None, append_assoc, append-nil, take-add, refl, ap, sym, subst, arith, ◌∙◌}
use Rattle.std.proofs.Math.Seq.{take-append-add}
use Rattle.std.proofs.lemmas.List.{take-take, take-append-drop, take-append-le, length-append, drop-drop, take_more, flat_map_more}
use Rattle.std.proofs.lemmas.Grind.{common_steps, flat_map-append}
use Rattle.std.specs.Option.{option_map}

-- What a source gave and a sink took, said of the contents alone.
abbrev pub Gave : Option (List ℕ) → Option (List ℕ) → List ℕ → Type 0
Gave before after bytes = before ≡ option_map (λ rest. bytes ++ rest) after

abbrev pub Took : Option (List ℕ) → Option (List ℕ) → List ℕ → Type 0
Took before after bytes = after ≡ option_map (λ held. held ++ bytes) before

-- What two reads give is given one after the other.
pub Gave-more : (first middle last : Option (List ℕ)) (x y : List ℕ) → Gave first middle x → Gave middle last y
    → Gave first last (x ++ y)
Gave-more first middle None x y given more = given ∙ ap (option_map (λ rest. x ++ rest)) more
Gave-more first middle (Some rest) x y given more =
    given ∙ ap (option_map (λ rest. x ++ rest)) more ∙ ap Some (sym (append_assoc x y rest))

-- What is left from a place on is the bytes that a read gives, and then what is left behind them.
pub left-next : (left bytes buf : List ℕ) (at n : ℕ) → left ≡ drop at bytes → n ≤ length bytes - at
    → take n buf ≡ take n (take (length bytes - at) (drop at bytes))
    → Some left ≡ Some (take n buf ++ drop (at + n) bytes)
left-next left bytes buf at n is within copied =
    let part : take n buf ≡ take n (drop at bytes) = copied ∙ take-take n (length bytes - at) (drop at bytes) within in
    ap Some (is ∙ rw (part, ← drop-drop) (sym (take-append-drop n (drop at bytes))))

-- Where a source gave these bytes and then a first part of some more, what it gave is no longer than both.
pub Gave-part : (first middle last : Option (List ℕ)) (x y : List ℕ) (room : ℕ) → Gave first middle x → (n : ℕ)
    × (n ≤ room) × Gave middle last (take n y) → (given : List ℕ) × (length given ≤ length x + room)
    × Gave first last given
Gave-part first middle last x y room given (n, within, more) =
    (x ++ take n y, grind (arith, common_steps), Gave-more first middle last x (take n y) given more)

-- Nothing was taken where nothing happened.
pub Took-none : (held : Option (List ℕ)) → Took held held []
Took-none None = refl
Took-none (Some held) = ap Some (sym (append-nil held))

-- What two writes take is taken one after the other.
pub Took-more : (first middle last : Option (List ℕ)) (x y : List ℕ) → Took first middle x → Took middle last y
    → Took first last (x ++ y)
Took-more None middle last x y taken more = more ∙ ap (option_map (λ held. held ++ y)) taken
Took-more (Some before) middle last x y taken more =
    more ∙ ap (option_map (λ held. held ++ y)) taken ∙ ap Some (append_assoc before x y)

-- What a write takes of the bytes from a place on comes behind what was taken of them before.
pub Took-next : (first middle last : Option (List ℕ)) (bytes : List ℕ) (out n : ℕ) → n ≤ length bytes - out
    → Took first middle (take out bytes) → Took middle last (take n (take (length bytes - out) (drop out bytes)))
    → Took first last (take (out + n) bytes)
Took-next first middle last bytes out n within taken more =
    rw (take-add out n bytes) (Took-more first middle last (take out bytes) (take n (drop out bytes)) taken
    (rw (take-take n (length bytes - out) (drop out bytes) within) at more))

-- Where bytes were taken and then a first part of some more, a first part of all that was to be written is taken.
pub Took-part : (first middle last : Option (List ℕ)) (x y z : List ℕ) → Took first middle x → (n : ℕ) × (n ≤ length y)
    × Took middle last (take n y) → (m : ℕ) × (m ≤ length (x ++ (y ++ z))) × Took first last (take m (x ++ (y ++ z)))
Took-part first middle last x y z taken (n, within, more) =
    let cut : take (length x + n) (x ++ (y ++ z)) ≡ x ++ take n y =
    take-append-add x (y ++ z) n ∙ ap (λ t. x ++ t) (take-append-le n y z within) in (
      length x + n,
      omega (arith, within, length-append x (y ++ z), length-append y z),
      subst (Took first last) (sym cut) (Took-more first middle last x (take n y) taken more),
    )

-- A line is what its pieces before one say, what that one says, and the rest.
pub pieces-at : {X : Type 0} (f : X → List ℕ) (xs : List X) (i : ℕ) (d : X) → i < length xs
    → flat_map f xs ≡ flat_map f (take i xs) ++ (f (get_or xs i d) ++ flat_map f (drop (i + 1) xs))
pieces-at f xs i d within =
    let rest = flat_map f (drop (i + 1) xs) in
    let front : flat_map f (take (i + 1) xs) ≡ flat_map f (take i xs) ++ f (get_or xs i d) =
    ap (flat_map f) (take_more xs i d within) ∙ sym (flat_map_more f [] (take i xs) (get_or xs i d)) in
    ap (flat_map f) (sym (take-append-drop (i + 1) xs))
    ∙ (flat_map-append f (take (i + 1) xs) (drop (i + 1) xs)
    ∙ (ap (λ t. t ++ rest) front ∙ append_assoc (flat_map f (take i xs)) (f (get_or xs i d)) rest))

-- Where the pieces of a line before one were taken and then that one, the line up to behind it is taken.
pub Took-piece : {X : Type 0} (f : X → List ℕ) (xs : List X) (i : ℕ) (d : X) (first middle last : Option (List ℕ))
    → i < length xs → Took first middle (flat_map f (take i xs)) → Took middle last (f (get_or xs i d))
    → Took first last (flat_map f (take (i + 1) xs))
Took-piece f xs i d first middle last within taken more =
    let front : flat_map f (take (i + 1) xs) ≡ flat_map f (take i xs) ++ f (get_or xs i d) =
    ap (flat_map f) (take_more xs i d within) ∙ sym (flat_map_more f [] (take i xs) (get_or xs i d)) in
    subst (Took first last) (sym front) (Took-more first middle last (flat_map f (take i xs)) (f (get_or xs i d)) taken
    more)

-- Where the pieces of a line before one were taken and a first part of that one, a first part of the line is taken.
pub pieces-part : {X : Type 0} (f : X → List ℕ) (xs : List X) (i : ℕ) (d : X) (first middle last : Option (List ℕ))
    → i < length xs → Took first middle (flat_map f (take i xs)) → (n : ℕ) × (n ≤ length (f (get_or xs i d)))
    × Took middle last (take n (f (get_or xs i d)))
    → (m : ℕ) × (m ≤ length (flat_map f xs)) × Took first last (take m (flat_map f xs))
pieces-part f xs i d first middle last within taken some =
    subst (λ line. (m : ℕ) × (m ≤ length line) × Took first last (take m line)) (sym (pieces-at f xs i d within))
    (Took-part first middle last (flat_map f (take i xs)) (f (get_or xs i d)) (flat_map f (drop (i + 1) xs)) taken some)
