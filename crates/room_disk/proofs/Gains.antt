-- What a journal takes, call by call, and how much of it is safe.
use Rattle.std.proofs.Common.{◌≡◌, ℕ, ◌+◌, ◌≤◌, List, [], ◌∷◌, ◌++◌, length, take, drop, Option, Some, None, IfSome, refl, sym, ap, subst, ◌∙◌, append_assoc, append-nil, arith}
use Rattle.std.specs.Option.{option_map}
use Rattle.std.proofs.lemmas.List.{length-append, take-append-drop}
use Rattle.board_ends.specs.Ends.{SinkEnd, Took, KeepsSafe, IsSynced}
use Rattle.input_texts.proofs.CallerLemmas.{took-more}
use Rattle.room_disk.specs.Records.{bytes_of, record_of}
use Rattle.room_disk.specs.Keeping.{HasGained, IsLeft}
use Rattle.room_disk.specs.inner.KeptSteps.{IsSafeBy}

-- ---- of contents alone
safe_more : (first middle last : Option ℕ) → IfSome first (λ least. (safe : ℕ) × (middle ≡ Some safe) × (least ≤ safe))
    → IfSome middle (λ least. (safe : ℕ) × (last ≡ Some safe) × (least ≤ safe))
    → IfSome first (λ least. (safe : ℕ) × (last ≡ Some safe) × (least ≤ safe))
safe_more None middle last kept more = tt
safe_more (Some least) middle last (safe, is, within) more =
    let next = rw is at more in
    (next.0, next.1, omega (arith, within, next.2))

safe_same : (first : Option ℕ) → IfSome first (λ least. (safe : ℕ) × (first ≡ Some safe) × (least ≤ safe))
safe_same None = tt
safe_same (Some least) = (least, refl, omega arith)

-- ---- of journals
pub keeps-more : (a b c : SinkEnd) → KeepsSafe a b → KeepsSafe b c → KeepsSafe a c
keeps-more a b c kept more = safe_more a.safe b.safe c.safe kept more

pub keeps-same : (a : SinkEnd) → KeepsSafe a a
keeps-same a = safe_same a.safe

bytes_of-append : (xs ys : List (List ℕ)) → bytes_of (xs ++ ys) ≡ bytes_of xs ++ bytes_of ys
bytes_of-append [] ys = refl
bytes_of-append (x ∷ xs) ys =
    ap (λ b. x ++ b) (bytes_of-append xs ys) ∙ sym (append_assoc x (bytes_of xs) (bytes_of ys))

-- all of some records, and then a first part of others
pub gained-behind : (xs ys : List (List ℕ)) (a b c : SinkEnd) → Took a b (bytes_of xs) → HasGained ys b c
    → HasGained (xs ++ ys) a c
gained-behind xs ys a b c taken more = record {
  part = bytes_of xs ++ more.part;
  rest = more.rest;
  parts = bytes_of-append xs ys ∙ ap (λ b. bytes_of xs ++ b) more.parts
      ∙ sym (append_assoc (bytes_of xs) more.part more.rest);
  took = took-more a b c (bytes_of xs) more.part taken more.took;
}

-- all of them
pub gained-all : (xs : List (List ℕ)) (a b : SinkEnd) → Took a b (bytes_of xs) → HasGained xs a b
gained-all xs a b taken = record { part = bytes_of xs; rest = []; parts = sym (append-nil (bytes_of xs)); took = taken }

pub all-behind : (xs ys : List (List ℕ)) (a b c : SinkEnd) → Took a b (bytes_of xs) → Took b c (bytes_of ys)
    → Took a c (bytes_of (xs ++ ys))
all-behind xs ys a b c taken more =
    subst (Took a c) (sym (bytes_of-append xs ys)) (took-more a b c (bytes_of xs) (bytes_of ys) taken more)

-- a first part of a record's text, and then of its line feed
pub part-first : (text : List ℕ) (a b : SinkEnd) → (n : ℕ) × (n ≤ length text) × Took a b (take n text)
    → HasGained (record_of text ∷ []) a b
part-first text a b (n, within, taken) = record {
  part = take n text;
  rest = drop n text ++ 10 ∷ [];
  parts = append-nil (record_of text) ∙ ap (λ t. t ++ 10 ∷ []) (sym (take-append-drop n text))
      ∙ append_assoc (take n text) (drop n text) (10 ∷ []);
  took = taken;
}

pub part-last : (text : List ℕ) (a b c : SinkEnd) → Took a b text → (n : ℕ) × (n ≤ 1) × Took b c (take n (10 ∷ []))
    → HasGained (record_of text ∷ []) a c
part-last text a b c taken (n, within, more) = record {
  part = text ++ take n (10 ∷ []);
  rest = drop n (10 ∷ []);
  parts = append-nil (record_of text) ∙ ap (λ t. text ++ t) (sym (take-append-drop n (10 ∷ [])))
      ∙ sym (append_assoc text (take n (10 ∷ [])) (drop n (10 ∷ [])));
  took = took-more a b c text (take n (10 ∷ [])) taken more;
}

-- all of it, where no more is held after a sync
pub part-whole : (text : List ℕ) (a b c d : SinkEnd) → Took a b text → Took b c (10 ∷ []) → d.held ≡ c.held
    → HasGained (record_of text ∷ []) a d
part-whole text a b c d taken more same = record {
  part = record_of text;
  rest = [];
  parts = refl;
  took = same ∙ took-more a b c text (10 ∷ []) taken more;
}

-- ---- what is safe
safe_part : (held : Option (List ℕ)) (safe after : Option ℕ) → safe ≡ option_map length held
    → IfSome safe (λ least. (more : ℕ) × (after ≡ Some more) × (least ≤ more))
    → IfSome held (λ bytes. (more : ℕ) × (after ≡ Some more) × (length bytes + 0 ≤ more))
safe_part None safe after synced kept = tt
safe_part (Some bytes) safe after synced kept =
    let next = rw synced at kept in
    (next.0, next.1, omega (arith, next.2))

-- after a sync, whatever comes
pub safe-still : (a b : SinkEnd) → IsSynced a → KeepsSafe a b → IsSafeBy a b []
safe-still a b synced kept = safe_part a.held a.safe b.safe synced kept

safe_less : (held : Option (List ℕ)) (safe : Option ℕ) (x : List ℕ)
    → IfSome held (λ bytes. (more : ℕ) × (safe ≡ Some more) × (length bytes + length x ≤ more))
    → IfSome held (λ bytes. (more : ℕ) × (safe ≡ Some more) × (length bytes + 0 ≤ more))
safe_less None safe x kept = tt
safe_less (Some bytes) safe x kept = (kept.0, kept.1, omega (arith, kept.2))

pub safe-less : (a b : SinkEnd) (x : List ℕ) → IsSafeBy a b x → IsSafeBy a b []
safe-less a b x kept = safe_less a.held b.safe x kept

safe_all : (before after : Option (List ℕ)) (safe : Option ℕ) (bytes : List ℕ)
    → after ≡ option_map (λ held. held ++ bytes) before → safe ≡ option_map length after
    → IfSome before (λ held. (more : ℕ) × (safe ≡ Some more) × (length held + length bytes ≤ more))
safe_all None after safe bytes taken synced = tt
safe_all (Some held) after safe bytes taken synced =
    (length (held ++ bytes), synced ∙ ap (option_map length) taken, omega (arith, length-append held bytes))

-- what was taken before a sync
pub safe-all : (a b : SinkEnd) (bytes : List ℕ) → Took a b bytes → IsSynced b → IsSafeBy a b bytes
safe-all a b bytes taken synced = safe_all a.held b.held b.safe bytes taken synced

safe_behind : (before middle : Option (List ℕ)) (safe : Option ℕ) (x y : List ℕ)
    → middle ≡ option_map (λ held. held ++ x) before
    → IfSome middle (λ held. (more : ℕ) × (safe ≡ Some more) × (length held + length y ≤ more))
    → IfSome before (λ held. (more : ℕ) × (safe ≡ Some more) × (length held + length (x ++ y) ≤ more))
safe_behind None middle safe x y taken kept = tt
safe_behind (Some held) middle safe x y taken kept =
    let next = rw taken at kept in
    (next.0, next.1, omega (arith, next.2, length-append held x, length-append x y))

pub safe-behind : (a b c : SinkEnd) (x y : List ℕ) → Took a b x → IsSafeBy b c y → IsSafeBy a c (x ++ y)
safe-behind a b c x y taken kept = safe_behind a.held b.held c.safe x y taken kept

pub safe-records : (xs ys : List (List ℕ)) (a b c : SinkEnd) → Took a b (bytes_of xs) → IsSafeBy b c (bytes_of ys)
    → IsSafeBy a c (bytes_of (xs ++ ys))
safe-records xs ys a b c taken kept =
    subst (IsSafeBy a c) (sym (bytes_of-append xs ys)) (safe-behind a b c (bytes_of xs) (bytes_of ys) taken kept)

-- ---- what a stop leaves
same_bytes : (held x y : List ℕ) → Some (held ++ x) ≡ Some (held ++ y) → x ≡ y
same_bytes [] x y same = cc
same_bytes (b ∷ held) x y same = same_bytes held x y cc

left_part : (was is : Option (List ℕ)) (held part left lost : List ℕ) → was ≡ Some held
    → is ≡ Some (held ++ (left ++ lost)) → is ≡ option_map (λ bytes. bytes ++ part) was → part ≡ left ++ lost
left_part was is held part left lost before after taken =
    same_bytes held part (left ++ lost) (sym (taken ∙ ap (option_map (λ bytes. bytes ++ part)) before) ∙ after)

-- it is a first part of the records
pub left-of : (xs : List (List ℕ)) (a b : SinkEnd) (left : List ℕ) → HasGained xs a b → (stop : IsLeft a b left)
    → (lost : List ℕ) × (bytes_of xs ≡ left ++ lost)
left-of xs a b left gained stop =
    let part = left_part a.held b.held stop.held gained.part left stop.lost stop.was stop.is gained.took in
    (stop.lost ++ gained.rest, gained.parts ∙ ap (λ p. p ++ gained.rest) part ∙ append_assoc left stop.lost gained.rest)

left_long : (was : Option (List ℕ)) (safe : Option ℕ) (held bytes left : List ℕ) → was ≡ Some held
    → IfSome was (λ held. (more : ℕ) × (safe ≡ Some more) × (length held + length bytes ≤ more))
    → IfSome safe (λ safe. safe ≤ length held + length left) → length bytes ≤ length left
left_long was safe held bytes left before kept within =
    let next = rw before at kept in
    let few = rw next.1 at within in
    omega (arith, next.2, few)

-- with all that is safe
pub left-long : (a b : SinkEnd) (bytes left : List ℕ) → IsSafeBy a b bytes → (stop : IsLeft a b left)
    → length bytes ≤ length left
left-long a b bytes left kept stop = left_long a.held b.safe stop.held bytes left stop.was kept stop.safe
