-- Members that are written one after another, those of two rising lists in the order of their names.
use Rattle.std.proofs.Common.{◌≡◌, ◌≢◌, ℕ, ◌+◌, ◌<◌, true, false, eqb, if◌then◌else◌, List, [], ◌∷◌, ◌++◌, All, length, map, bytes_eq, inl, inr, refl, sym, ap, ◌∙◌, subst, arith, append-nil, append_assoc}
use Rattle.std.specs.List.{AllByRecursion, IsDistinct, join_with_byte}
use Rattle.std.specs.List.Sorted.{IsPermutation}
use Rattle.std.specs.Str.{IsUtf8}
use Rattle.std.proofs.lemmas.Bool.{cases_Bool, eq-eqb, ne_eqb}
use Rattle.std.proofs.lemmas.List.{map-append, length-append}
use Rattle.std.proofs.lemmas.List.Elements.{All-nil, All-cons, All-append, All-from_recursion, recursion_from_All}
use Rattle.std.proofs.lemmas.List.Sorted.{All-permutation, IsPermutation-refl, IsPermutation-sym, IsPermutation-cons, IsPermutation-trans, IsPermutation-middle, IsPermutation-append_comm, IsPermutation-append_left, IsPermutation-append_right}
use Rattle.json_text.specs.Appending.{Extends}
use Rattle.json_text.specs.Characters.{quote}
use Rattle.json_text.specs.Compact.{Member as Pair, member_text, object_text}
use Rattle.json_text.specs.Members.{pairs, pair_of}
use Rattle.json_text.specs.Value.{IsCompact}
use Rattle.json_text.specs.declared.text.Member.{Member}
use Rattle.json_text.proofs.CallerLemmas.{names_of, object-compact, join-push}
use Rattle.frac_keys.specs.Keys.{bytes_less}
use Rattle.frac_keys.proofs.CallerLemmas.{bytes_less-trans, bytes_less-turned}
use Rattle.scene_json.proofs.CallerLemmas.{distinct_moved}
use Rattle.elem.specs.inner.Printing.{opened, IsBegun, mark, members_below, members_not_below, merged, AreSound}
use Rattle.elem.specs.Texts.{sorted_members}
use Rattle.elem.proofs.Appending.{extends_same, extends_then}
use Rattle.elem.proofs.Distinct.{IsDistinct-rising, AllByRecursion-append}
use Rattle.elem.proofs.Sorting.{IsRising, IsRising-sorted, IsPermutation-sorted, AllByRecursion-weaker, same_rising}

-- ---- members behind an opening bracket
opened-more : (n : Pair) (ns : List Pair) (m : Pair) → opened ((n ∷ ns) ++ m ∷ []) ≡ opened (n ∷ ns) ++ 44
    ∷ member_text m
opened-more n ns m =
    ap (λ ts. 123 ∷ join_with_byte 44 ts) (map-append member_text (n ∷ ns) (m ∷ []))
    ∙ ap (λ x. 123 ∷ x) (join-push 44 (map member_text (n ∷ ns)) (member_text m) (omega arith))

-- one more member
pub opened-step : (before : List ℕ) (ms : List Pair) (m : Pair) (start : ℕ) (out done : List ℕ) → start ≡ length before
    → IsBegun before ms out → done ≡ (out ++ mark start out ∷ []) ++ member_text m → IsBegun before (ms ++ m ∷ []) done
opened-step before [] m start out done at is last =
    let bare : out ≡ before = is ∙ append-nil before in
    let first : eqb (length out) start ≡ true = eq-eqb (length out) start (ap length bare ∙ sym at) in
    last ∙ ap (λ t. (out ++ (if t then 123 else 44) ∷ []) ++ member_text m) first
    ∙ ap (λ o. (o ++ 123 ∷ []) ++ member_text m) bare ∙ append_assoc before (123 ∷ []) (member_text m)
opened-step before (n ∷ ns) m start out done at is last =
    let text = opened (n ∷ ns) in
    let longer : length out ≢ start = λ e. omega (arith, ap length is, length-append before text) in
    let later : eqb (length out) start ≡ false = ne_eqb (length out) start longer in
    last ∙ ap (λ t. (out ++ (if t then 123 else 44) ∷ []) ++ member_text m) later
    ∙ ap (λ o. (o ++ 44 ∷ []) ++ member_text m) is
    ∙ append_assoc (before ++ text) (44 ∷ []) (member_text m) ∙ append_assoc before text (44 ∷ member_text m)
    ∙ ap (λ t. before ++ t) (sym (opened-more n ns m))

-- one more member, whose name was begun
pub begun-step : (before : List ℕ) (ms : List Pair) (name value : List ℕ) (start : ℕ) (out begun done : List ℕ)
    → start ≡ length before → IsBegun before ms out
    → begun ≡ (out ++ mark start out ∷ []) ++ (quote name ++ 58 ∷ []) → done ≡ begun ++ value
    → IsBegun before (ms ++ (name, value) ∷ []) done
begun-step before ms name value start out begun done at is first last =
    let marked = out ++ mark start out ∷ [] in
    opened-step before ms (name, value) start out done at is
    (last ∙ ap (λ b. b ++ value) first ∙ append_assoc marked (quote name ++ 58 ∷ []) value
    ∙ ap (λ t. marked ++ t) (append_assoc (quote name) (58 ∷ []) value))

-- the closing bracket
pub closed : (before : List ℕ) (ms : List Pair) (out done : List ℕ) → 0 < length ms → IsBegun before ms out
    → done ≡ out ++ 125 ∷ [] → done ≡ before ++ object_text ms
unfolding object_text
closed before [] out done some is last = absurd (omega arith)
closed before (m ∷ ms) out done some is last =
    last ∙ ap (λ o. o ++ 125 ∷ []) is ∙ append_assoc before (opened (m ∷ ms)) (125 ∷ [])

-- ---- members that are kept
-- Between two states of the bytes, these members are appended to an object that begins at an offset.
pub record Appended (start : ℕ) (old out : List ℕ) (done : List Member) : Type 0 where
  pub begun : (before : List ℕ) (first : List Pair) → start ≡ length before → IsBegun before first old
      → IsBegun before (first ++ pairs done) out
  pub named : All (λ (m : Member). IsUtf8 m.name) done
  pub kept : Extends old out

appended-none : (start : ℕ) (out : List ℕ) → Appended start out out []
appended-none start out = record {
  begun = λ before first at is. subst (λ ms. IsBegun before ms out) (sym (append-nil first)) is;
  named = All-nil (λ (m : Member). IsUtf8 m.name);
  kept = extends_same out out refl;
}

-- One more member is appended.
abbrev pub Adds : ℕ → List ℕ → List ℕ → Member → Type 0
Adds start out more m = (before : List ℕ) (first : List Pair) → start ≡ length before → IsBegun before first out
    → IsBegun before (first ++ pair_of m ∷ []) more

appended-more : (start : ℕ) (old out more : List ℕ) (done : List Member) (m : Member) → Appended start old out done
    → IsUtf8 m.name → Adds start out more m → Extends out more → Appended start old more (done ++ m ∷ [])
appended-more start old out more done m so_far utf8 adds grown = record {
  begun = λ before ms at is.
      subst (λ ps. IsBegun before ps more) (append_assoc ms (pairs done) (pair_of m ∷ [])
      ∙ ap (λ ps. ms ++ ps) (sym (map-append pair_of done (m ∷ []))))
      (adds before (ms ++ pairs done) at (so_far.begun before ms at is));
  named = All-append (λ (m : Member). IsUtf8 m.name) done (m ∷ []) so_far.named
      (All-cons (λ (m : Member). IsUtf8 m.name) m [] utf8 (All-nil (λ (m : Member). IsUtf8 m.name)));
  kept = extends_then old out more so_far.kept grown;
}

-- Of these members the first ones are appended, and the others are left.
pub record Parted (start : ℕ) (old out : List ℕ) (members left : List Member) : Type 0 where
  pub done : List Member
  pub are : Appended start old out done
  pub all : done ++ left ≡ members

pub parted-none : (start : ℕ) (out : List ℕ) (members : List Member) → Parted start out out members members
parted-none start out members = record { done = []; are = appended-none start out; all = refl }

pub parted-more : (start : ℕ) (old out more : List ℕ) (members others : List Member) (m : Member)
    → Parted start old out members (m ∷ others) → IsUtf8 m.name → Adds start out more m → Extends out more
    → Parted start old more members others
parted-more start old out more members others m so_far utf8 adds grown = record {
  done = so_far.done ++ m ∷ [];
  are = appended-more start old out more so_far.done m so_far.are utf8 adds grown;
  all = append_assoc so_far.done (m ∷ []) others ∙ so_far.all;
}

-- where none is left
pub parted-all : (start : ℕ) (old out : List ℕ) (members left : List Member) → Parted start old out members left
    → left ≡ [] → Appended start old out members
parted-all start old out members left so_far none =
    subst (Appended start old out) (sym (append-nil so_far.done) ∙ ap (λ ms. so_far.done ++ ms) (sym none)
    ∙ so_far.all) so_far.are

-- ---- the members below a name, and the others
-- Of these members the first ones, whose names are less, are appended, and the others are left.
pub record Passed (name : List ℕ) (start : ℕ) (old out : List ℕ) (members left : List Member) : Type 0 where
  pub done : List Member
  pub below : done ++ members_below name left ≡ members_below name members
  pub behind : members_not_below name left ≡ members_not_below name members
  pub are : Appended start old out done

pub passed-none : (name : List ℕ) (start : ℕ) (out : List ℕ) (members : List Member)
    → Passed name start out out members members
passed-none name start out members =
    record { done = []; below = refl; behind = refl; are = appended-none start out }

-- one more of them
pub passed-more : (name : List ℕ) (start : ℕ) (old out more : List ℕ) (members others : List Member) (m : Member)
    → Passed name start old out members (m ∷ others) → bytes_less m.name name ≡ true → IsUtf8 m.name
    → Adds start out more m → Extends out more → Passed name start old more members others
passed-more name start old out more members others m so_far less utf8 adds grown = record {
  done = so_far.done ++ m ∷ [];
  below = append_assoc so_far.done (m ∷ []) (members_below name others) ∙ rw less at so_far.below;
  behind = rw less at so_far.behind;
  are = appended-more start old out more so_far.done m so_far.are utf8 adds grown;
}

-- where none of the others is below
pub passed-all : (name : List ℕ) (start : ℕ) (old out : List ℕ) (members left : List Member)
    → Passed name start old out members left → members_below name left ≡ []
    → Appended start old out (members_below name members)
passed-all name start old out members left so_far none =
    subst (Appended start old out) (sym (append-nil so_far.done) ∙ ap (λ ms. so_far.done ++ ms) (sym none)
    ∙ so_far.below) so_far.are

pub none_below : (name : List ℕ) (ms : List Member) → members_below name ms ≡ [] → members_not_below name ms ≡ ms
none_below name [] none = refl
none_below name (m ∷ ms) none = elim (cases_Bool (bytes_less m.name name)) [
  | inl e ↦ absurd (let some : m ∷ members_below name ms ≡ [] = rw e at none in cc)
  | inr e ↦ rw e refl
]

members_below-members_not_below : (name : List ℕ) (ms : List Member)
    → pairs (members_below name ms) ++ pairs (members_not_below name ms) ≡ pairs ms
members_below-members_not_below name [] = refl
members_below-members_not_below name (m ∷ ms) = elim (cases_Bool (bytes_less m.name name)) [
  | inl e ↦ rw e (ap (λ others. pair_of m ∷ others) (members_below-members_not_below name ms))
  | inr e ↦ rw e refl
]

members_below-less : (name : List ℕ) (ms : List Member)
    → AllByRecursion (λ (m : Pair). bytes_less m.0 name ≡ true) (pairs (members_below name ms))
members_below-less name [] = tt
members_below-less name (m ∷ ms) = elim (cases_Bool (bytes_less m.name name)) [
  | inl e ↦ rw e (e, members_below-less name ms)
  | inr e ↦ rw e tt
]

pub members_below-all : (P : Pair → Type 0) (name : List ℕ) (ms : List Member) → AllByRecursion P (pairs ms)
    → AllByRecursion P (pairs (members_below name ms))
members_below-all P name [] h = tt
members_below-all P name (m ∷ ms) h = elim (cases_Bool (bytes_less m.name name)) [
  | inl e ↦ rw e (h.0, members_below-all P name ms h.1)
  | inr e ↦ rw e tt
]

pub members_not_below-all : (P : Pair → Type 0) (name : List ℕ) (ms : List Member) → AllByRecursion P (pairs ms)
    → AllByRecursion P (pairs (members_not_below name ms))
members_not_below-all P name [] h = tt
members_not_below-all P name (m ∷ ms) h = elim (cases_Bool (bytes_less m.name name)) [
  | inl e ↦ rw e (members_not_below-all P name ms h.1)
  | inr e ↦ rw e h
]

IsRising-members_below : (name : List ℕ) (ms : List Member) → IsRising (pairs ms)
    → IsRising (pairs (members_below name ms))
IsRising-members_below name [] rise = tt
IsRising-members_below name (m ∷ ms) rise = elim (cases_Bool (bytes_less m.name name)) [
  | inl e ↦ rw e (
    members_below-all (λ n. bytes_less m.name n.0 ≡ true) name ms rise.0,
    IsRising-members_below name ms rise.1,
  )
  | inr e ↦ rw e tt
]

IsRising-members_not_below : (name : List ℕ) (ms : List Member) → IsRising (pairs ms)
    → IsRising (pairs (members_not_below name ms))
IsRising-members_not_below name [] rise = tt
IsRising-members_not_below name (m ∷ ms) rise = elim (cases_Bool (bytes_less m.name name)) [
  | inl e ↦ rw e (IsRising-members_not_below name ms rise.1)
  | inr e ↦ rw e rise
]

members_not_below-greater : (name : List ℕ) (ms : List Member) → IsRising (pairs ms)
    → AllByRecursion (λ (m : Pair). bytes_eq name m.0 ≡ false) (pairs ms)
    → AllByRecursion (λ (m : Pair). bytes_less name m.0 ≡ true) (pairs (members_not_below name ms))
members_not_below-greater name [] rise apart = tt
members_not_below-greater name (m ∷ ms) rise apart = elim (cases_Bool (bytes_less m.name name)) [
  | inl e ↦ rw e (members_not_below-greater name ms rise.1 apart.1)
  | inr e ↦
      let first = bytes_less-turned name m.name apart.0 e in
      rw e (
        first,
        AllByRecursion-weaker _ _ (pairs ms) (λ o above. bytes_less-trans name m.name o.0 first above)
            rise.0,
      )
]

-- ---- two lists merged
exchanged : (xs ys zs : List Pair) → IsPermutation (xs ++ (ys ++ zs)) (ys ++ (xs ++ zs))
exchanged xs ys zs =
    subst (λ l. IsPermutation l (ys ++ (xs ++ zs))) (append_assoc xs ys zs)
    (subst (IsPermutation ((xs ++ ys) ++ zs)) (append_assoc ys xs zs)
    (IsPermutation-append_left zs (xs ++ ys) (ys ++ xs) (IsPermutation-append_comm xs ys)))

-- the others move behind what is merged
moved_front : (name : List ℕ) (hs : List Pair) (rest : List Member)
    → IsPermutation (hs ++ pairs rest) (pairs (members_below name rest) ++ (hs ++ pairs (members_not_below name rest)))
moved_front name hs rest =
    subst (λ l. IsPermutation (hs ++ l) (pairs (members_below name rest)
    ++ (hs ++ pairs (members_not_below name rest)))) (members_below-members_not_below name rest)
    (exchanged hs (pairs (members_below name rest)) (pairs (members_not_below name rest)))

pub IsPermutation-merged : (hs : List Pair) (rest : List Member) → IsPermutation (hs ++ pairs rest) (merged hs rest)
IsPermutation-merged [] rest = IsPermutation-refl (pairs rest)
IsPermutation-merged (h ∷ hs) rest =
    let below = pairs (members_below h.0 rest) in
    let others = hs ++ pairs (members_not_below h.0 rest) in
    let all = merged hs (members_not_below h.0 rest) in
    IsPermutation-trans _ (h ∷ (below ++ others)) _ (IsPermutation-cons h _ _ (moved_front h.0 hs rest))
    (IsPermutation-trans _ (h ∷ (below ++ all)) _
    (IsPermutation-cons h _ _ (IsPermutation-append_right below others all
    (IsPermutation-merged hs (members_not_below h.0 rest))))
    (IsPermutation-sym _ _ (IsPermutation-middle below h all)))

-- a rising list below the first of another one
rising_before : (xs : List Pair) (h : Pair) (ys : List Pair) → IsRising xs
    → AllByRecursion (λ (x : Pair). bytes_less x.0 h.0 ≡ true) xs → IsRising (h ∷ ys) → IsRising (xs ++ h ∷ ys)
rising_before [] h ys low below rise = rise
rising_before (x ∷ xs) h ys low below rise = (
  AllByRecursion-append _ xs (h ∷ ys) low.0 (
    below.0,
    AllByRecursion-weaker _ _ ys (λ y above. bytes_less-trans x.0 h.0 y.0 below.0 above) rise.0,
  ),
  rising_before xs h ys low.1 below.1 rise,
)

apart_right : (P : List ℕ → Type 0) (xs ys : List Pair) → AllByRecursion P (names_of (xs ++ ys))
    → AllByRecursion (λ (m : Pair). P m.0) ys
apart_right P [] [] h = tt
apart_right P [] (y ∷ ys) h = (h.0, apart_right P [] ys h.1)
apart_right P (x ∷ xs) ys h = apart_right P xs ys h.1

distinct_right : (xs ys : List Pair) → IsDistinct bytes_eq (names_of (xs ++ ys)) → IsDistinct bytes_eq (names_of ys)
unfolding IsDistinct
distinct_right [] ys h = h
distinct_right (x ∷ xs) ys h = distinct_right xs ys h.1

moved_all : (P : Pair → Type 0) (xs ys : List Pair) → IsPermutation xs ys → AllByRecursion P xs → AllByRecursion P ys
moved_all P xs ys moved h = recursion_from_All P ys (All-permutation P xs ys moved (All-from_recursion P xs h))

pub IsRising-merged : (hs : List Pair) (rest : List Member) → IsRising hs → IsRising (pairs rest)
    → IsDistinct bytes_eq (names_of (hs ++ pairs rest)) → IsRising (merged hs rest)
unfolding IsDistinct
IsRising-merged [] rest up rise apart = rise
IsRising-merged (h ∷ hs) rest up rise apart =
    let others = members_not_below h.0 rest in
    let distinct = distinct_right (pairs (members_below h.0 rest)) (hs ++ pairs others)
    (distinct_moved _ _ (moved_front h.0 hs rest) apart.1) in
    let greater =
    members_not_below-greater h.0 rest rise (apart_right (λ y. bytes_eq h.0 y ≡ false) hs (pairs rest) apart.0) in
    let above =
    moved_all _ _ _ (IsPermutation-merged hs others) (AllByRecursion-append _ hs (pairs others) up.0 greater) in
    rising_before (pairs (members_below h.0 rest)) h (merged hs others) (IsRising-members_below h.0 rest rise)
    (members_below-less h.0 rest)
    (above, IsRising-merged hs others up.1 (IsRising-members_not_below h.0 rest rise) distinct)

-- what is merged is sorted
pub merged-sorted : (headers hs : List Pair) (rest : List Member) → IsPermutation headers hs → IsRising hs
    → IsRising (pairs rest) → IsDistinct bytes_eq (names_of (headers ++ pairs rest))
    → merged hs rest ≡ sorted_members (headers ++ pairs rest)
merged-sorted headers hs rest moved up rise apart =
    let all = IsPermutation-append_left (pairs rest) headers hs moved in
    same_rising (merged hs rest) (sorted_members (headers ++ pairs rest))
    (IsRising-merged hs rest up rise (distinct_moved _ _ all apart)) (IsRising-sorted (headers ++ pairs rest) apart)
    (IsPermutation-trans _ (headers ++ pairs rest) _
    (IsPermutation-trans _ (hs ++ pairs rest) _ (IsPermutation-sym _ _ (IsPermutation-merged hs rest))
    (IsPermutation-sym _ _ all)) (IsPermutation-sorted (headers ++ pairs rest)))

-- ---- the object of rising members
named : (limit : ℕ) (ms : List Pair) → AreSound limit ms → AllByRecursion (λ (m : Pair). IsUtf8 m.0) ms
named limit ms h = AllByRecursion-weaker _ _ ms (λ m both. both.0) h

valued : (limit : ℕ) (ms : List Pair) → AreSound limit ms → AllByRecursion (λ (m : Pair). IsCompact limit m.1) ms
valued limit ms h = AllByRecursion-weaker _ _ ms (λ m both. both.1) h

pub sound-compact : (limit : ℕ) (ms : List Pair) → AreSound limit ms → IsRising ms
    → IsCompact (limit + 1) (object_text ms)
sound-compact limit ms h rise = object-compact limit ms
    (record { named = named limit ms h; valued = valued limit ms h; distinct = IsDistinct-rising ms rise })

-- ---- an object whose members are merged while they are written
-- Behind what was there, members are written; with the header members and the others that are left they are all.
pub record Merging (limit : ℕ) (before out : List ℕ) (hs : List Pair) (rest : List Member) (headers : List Pair)
    (others : List Member) : Type 0 where
  pub written : List Pair
  pub begun : IsBegun before written out
  pub left : written ++ merged hs rest ≡ merged headers others
  pub sound : AreSound limit written
  pub nest : AllByRecursion (λ (m : Pair). IsCompact limit m.1) (pairs rest)

pub merging-from : (limit : ℕ) (before : List ℕ) (hs : List Pair) (rest : List Member)
    → AllByRecursion (λ (m : Pair). IsCompact limit m.1) (pairs rest) → Merging limit before before hs rest hs rest
merging-from limit before hs rest nest =
    record { written = []; begun = sym (append-nil before); left = refl; sound = tt; nest = nest }

both : (limit : ℕ) (ms : List Member) → AllByRecursion (λ (m : Member). IsUtf8 m.name) ms
    → AllByRecursion (λ (m : Pair). IsCompact limit m.1) (pairs ms) → AreSound limit (pairs ms)
both limit [] named nest = tt
both limit (m ∷ ms) named nest = ((named.0, nest.0), both limit ms named.1 nest.1)

-- the others below a header member, and that member
pub merging-step : (limit : ℕ) (before out low done : List ℕ) (h : Pair) (hs : List Pair) (rest left : List Member)
    (headers : List Pair) (others : List Member)
    → Merging limit before out (h ∷ hs) rest headers others
    → ((first : List Pair) → IsBegun before first out → IsBegun before (first ++ pairs (members_below h.0 rest)) low)
    → left ≡ members_not_below h.0 rest → AllByRecursion (λ (m : Member). IsUtf8 m.name) (members_below h.0 rest)
    → ((first : List Pair) → IsBegun before first low → IsBegun before (first ++ h ∷ []) done)
    → IsUtf8 h.0 → IsCompact limit h.1 → Merging limit before done hs left headers others
merging-step limit before out low done h hs rest left headers others so_far below behind named header text compact =
    let lower = pairs (members_below h.0 rest) in
    record {
      written = (so_far.written ++ lower) ++ h ∷ [];
      begun = header (so_far.written ++ lower) (below so_far.written so_far.begun);
      left = ap (λ l. ((so_far.written ++ lower) ++ h ∷ []) ++ merged hs l) behind
          ∙ append_assoc (so_far.written ++ lower) (h ∷ []) (merged hs (members_not_below h.0 rest))
          ∙ append_assoc so_far.written lower (h ∷ merged hs (members_not_below h.0 rest)) ∙ so_far.left;
      sound = AllByRecursion-append _ (so_far.written ++ lower) (h ∷ [])
          (AllByRecursion-append _ so_far.written lower so_far.sound
          (both limit (members_below h.0 rest) named (members_below-all _ h.0 rest so_far.nest))) (
            (text, compact),
            tt,
          );
      nest = subst (λ l. AllByRecursion (λ (m : Pair). IsCompact limit m.1) (pairs l)) (sym behind)
          (members_not_below-all _ h.0 rest so_far.nest);
    }

-- All members, once the others are written.
pub record Merged (limit : ℕ) (before done : List ℕ) (all : List Pair) : Type 0 where
  pub text : done ≡ before ++ object_text all
  pub sound : AreSound limit all

pub merging-closed : (limit : ℕ) (before out last done : List ℕ) (rest : List Member) (headers : List Pair)
    (others : List Member)
    → Merging limit before out [] rest headers others
    → ((first : List Pair) → IsBegun before first out → IsBegun before (first ++ pairs rest) last)
    → AllByRecursion (λ (m : Member). IsUtf8 m.name) rest → done ≡ last ++ 125 ∷ [] → 0 < length (merged headers others)
    → Merged limit before done (merged headers others)
merging-closed limit before out last done rest headers others so_far others_too named end some =
    let all = so_far.written ++ pairs rest in
    let begun = subst (λ ms. IsBegun before ms last) so_far.left (others_too so_far.written so_far.begun) in
    record {
      text = closed before (merged headers others) last done some begun end;
      sound = subst (AreSound limit) so_far.left (AllByRecursion-append _ so_far.written (pairs rest) so_far.sound
          (both limit rest named so_far.nest));
    }

pub length-merged : (h : Pair) (hs : List Pair) (rest : List Member) → 0 < length (merged (h ∷ hs) rest)
length-merged h hs rest =
    omega (arith, length-append (pairs (members_below h.0 rest)) (h ∷ merged hs (members_not_below h.0 rest)))
