-- The ids of elements that may be shown otherwise than they are stored, or with another key, and what a change leaves
-- as it was.
use Rattle.std.proofs.Common.{◌≡◌, ℕ, zero, suc, ◌+◌, ◌<◌, ◌≤◌, Bool, true, false, cond, ◌||◌, List, [], ◌∷◌, ◌++◌, length, map, take, drop, get_or, set, insert, remove, Option, Some, None, is_some, IsSomeAnd, slice_get, bytes_eq, nat_cmp, refl, sym, ap, ap₂, ◌∙◌, subst, arith, append_assoc}
use Rattle.std.specs.BTreeMap.{is_at}
use Rattle.std.specs.BTreeSet.{BTreeSet, contains}
use Rattle.std.specs.Cmp.Lexicographic.{slice_cmp, nat_list_eq_equiv}
use Rattle.std.specs.List.{AllByRecursion, IsDistinct, list_any}
use Rattle.std.specs.List.Sorted.{IsPermutation}
use Rattle.std.specs.Option.{option_map, option_or}
use Rattle.std.proofs.lemmas.Bool.{both_ways, cond-true, cond-false, false_from_ne_true}
use Rattle.std.proofs.lemmas.List.{take_more, map-append}
use Rattle.std.proofs.lemmas.List.Elements.{recursion_from_All}
use Rattle.std.proofs.lemmas.List.Folds.{list_any-append}
use Rattle.std.proofs.lemmas.List.Sorted.{list_any-IsPermutation}
use Rattle.std.proofs.lemmas.Option.{same_Some}
use Rattle.std.proofs.lemmas.Slice.Eq.{bytes_eq-Decides}
use Rattle.elem.specs.ElementValue.{ElementValue}
use Rattle.elem.specs.Order.{has_id, HaveDistinctIds}
use Rattle.elem_store.specs.Places.{IsAt}
use Rattle.elem_store.specs.Updates.{element_of, ids_of, is_among}
use Rattle.elem_store.proofs.CallerLemmas.{same_id, of_itself, find-Some, is_some-find, is_at-bytes}
use Rattle.index_repair.specs.Keyed.{index_of}
use Rattle.view.specs.Shown.{IsView}
use Rattle.view.proofs.CallerLemmas.{HaveDistinctIds-rising, shown-is}
use Rattle.json_text.proofs.CallerLemmas.{none-is}
use Rattle.kept_view.specs.declared.places.Put.{Put}
use Rattle.kept_view.specs.inner.Changes.{redrawn_as}
use Rattle.kept_view.specs.inner.Coming.{part_with, rekeyed, HasGone, IsComing, IsGoing}
use Rattle.kept_view.specs.inner.Runs.{stored_keys, AreKeysWith, AreKeysWithout}
use Rattle.kept_view.specs.declared.unsettled.Unsettled.{Unsettled}
use Rattle.kept_view.specs.inner.Unsettled.{put_ids, run_ids, touched_ids, AreNoted, HasNoted, HaveNoted, IsWalked, StillHas, StillHave}
use Rattle.kept_view.specs.inner.Putting.{IsInPlace, all_put}
use Rattle.kept_view.specs.inner.Replacing.{AreRepairs, HaveReplaced}
use Rattle.kept_view.proofs.IdLaws.{others-of}
use Rattle.kept_view.proofs.OrderedLaws.{map-insert, map-remove}
use Rattle.kept_view.proofs.PlacedLaws.{shown-distinct}
use Rattle.kept_view.proofs.PuttingLaws.{ids-all_put, next}
use Rattle.kept_view.proofs.Redrawn.{at_place, element-redrawn}
use Rattle.kept_view.proofs.RekeyedLaws.{map-drop, map-take}

-- ---- one id more, or less
neither : (b c : Bool) → (b || c) ≡ false → (b ≡ false) × (c ≡ false)
neither true c h = cc
neither false c h = (refl, h)

not-either : (b c : Bool) → cond b true c ≡ false → c ≡ false
not-either true c h = cc
not-either false c h = h

pub kept-more : (old new : BTreeSet (List ℕ)) (id : List ℕ)
    → ((q : List ℕ) → contains (slice_cmp nat_cmp) new q
    ≡ cond (is_at (slice_cmp nat_cmp id) q) true (contains (slice_cmp nat_cmp) old q)) → StillHas old new
kept-more old new id updates q f =
    not-either (is_at (slice_cmp nat_cmp id) q) (contains (slice_cmp nat_cmp) old q) (sym (updates q) ∙ f)

pub kept-same : (old new : BTreeSet (List ℕ)) → new.keys ≡ old.keys → StillHas old new
kept-same old new same q f = ap (list_any (is_at (slice_cmp nat_cmp q))) (sym same) ∙ f

pub noted-more : (ids : List (List ℕ)) (i : ℕ) (id : List ℕ) → i < length ids → id ≡ get_or ids i id
    → (old new : BTreeSet (List ℕ)) → StillHas old new → contains (slice_cmp nat_cmp) new id ≡ true
    → HasNoted (take i ids) old → HasNoted (take (i + 1) ids) new
noted-more ids i id within there old new kept has so_far q f =
    let off : bytes_eq q id ≡ false = false_from_ne_true (bytes_eq q id)
    (λ same. both_ways (contains (slice_cmp nat_cmp) new q) f
    (ap (contains (slice_cmp nat_cmp) new) ((bytes_eq-Decides q id).0 same) ∙ has)) in
    others-of ids i id within there q ∙ ap₂ (λ a b. a || b) off (so_far q (kept q f))

-- each id but these has one value of what is shown and of what is stored
abbrev pub AreOthersAlike : {X : Type 0} → (Option ElementValue → X) → BTreeSet (List ℕ) → List ElementValue
    → List ElementValue → Type 0
AreOthersAlike value set live drawn =
    (id : List ℕ) → contains (slice_cmp nat_cmp) set id ≡ false
    → value (element_of drawn id) ≡ value (element_of live id)

-- an element itself, and its key
abbrev pub itself : Option ElementValue → Option ElementValue
itself o = o

abbrev pub key_of : Option ElementValue → Option (Option (List ℕ))
key_of o = option_map index_of o

pub others-less : {X : Type 0} (value : Option ElementValue → X) (old new : BTreeSet (List ℕ)) (id : List ℕ)
    → (live drawn : List ElementValue)
    → ((q : List ℕ) → contains (slice_cmp nat_cmp) new q
    ≡ cond (is_at (slice_cmp nat_cmp id) q) false (contains (slice_cmp nat_cmp) old q))
    → value (element_of drawn id) ≡ value (element_of live id) → AreOthersAlike value old live drawn
    → AreOthersAlike value new live drawn
others-less {X} value old new id live drawn updates is others q f = by (bytes_eq q id) refl where
  by : (b : Bool) → bytes_eq q id ≡ b → value (element_of drawn q) ≡ value (element_of live q)
  by true same =
      let to : q ≡ id = (bytes_eq-Decides q id).0 same in
      ap (λ n. value (element_of drawn n)) to ∙ (is ∙ sym (ap (λ n. value (element_of live n)) to))
  by false off =
      others q (sym (updates q ∙ ap (λ b. cond b false (contains (slice_cmp nat_cmp) old q)) (is_at-bytes id q ∙ off))
      ∙ f)

-- the id that is taken out is this one
pub less-of : (old new : BTreeSet (List ℕ)) (id own : List ℕ) → id ≡ own
    → ((q : List ℕ) → contains (slice_cmp nat_cmp) new q
    ≡ cond (is_at (slice_cmp nat_cmp id) q) false (contains (slice_cmp nat_cmp) old q)) → (q : List ℕ)
    → contains (slice_cmp nat_cmp) new q
    ≡ cond (is_at (slice_cmp nat_cmp own) q) false (contains (slice_cmp nat_cmp) old q)
less-of old new id own same updates q =
    updates q ∙ ap (λ n. cond (is_at (slice_cmp nat_cmp n) q) false (contains (slice_cmp nat_cmp) old q)) same

-- one set has an id less
pub rekeyed-less : (old new : Unsettled) (e s : ElementValue) (live drawn : List ElementValue) → new.ids ≡ old.ids
    → ((q : List ℕ) → contains (slice_cmp nat_cmp) new.rekeyed q
    ≡ cond (is_at (slice_cmp nat_cmp e.id) q) false (contains (slice_cmp nat_cmp) old.rekeyed q))
    → element_of live e.id ≡ Some e → element_of drawn e.id ≡ Some s → s.index ≡ e.index
    → AreNoted old live drawn → AreNoted new live drawn
rekeyed-less old new e s live drawn same updates stored seen index noted = record {
  others = λ id f. noted.others id (ap (λ set. contains (slice_cmp nat_cmp) set id) (sym same) ∙ f);
  keyed = others-less key_of old.rekeyed new.rekeyed e.id live drawn updates
      (ap key_of seen ∙ ap Some index ∙ sym (ap key_of stored)) noted.keyed;
}

pub ids-less : (old new : Unsettled) (id : List ℕ) (live drawn : List ElementValue) → new.rekeyed ≡ old.rekeyed
    → ((q : List ℕ) → contains (slice_cmp nat_cmp) new.ids q
    ≡ cond (is_at (slice_cmp nat_cmp id) q) false (contains (slice_cmp nat_cmp) old.ids q))
    → element_of drawn id ≡ element_of live id → AreNoted old live drawn → AreNoted new live drawn
ids-less old new id live drawn same updates is noted = record {
  others = others-less itself old.ids new.ids id live drawn updates is noted.others;
  keyed = λ q f. noted.keyed q (ap (λ set. contains (slice_cmp nat_cmp) set q) (sym same) ∙ f);
}

pub both-less : (old new : Unsettled) (id : List ℕ) (live drawn : List ElementValue)
    → ((q : List ℕ) → contains (slice_cmp nat_cmp) new.ids q
    ≡ cond (is_at (slice_cmp nat_cmp id) q) false (contains (slice_cmp nat_cmp) old.ids q))
    → ((q : List ℕ) → contains (slice_cmp nat_cmp) new.rekeyed q
    ≡ cond (is_at (slice_cmp nat_cmp id) q) false (contains (slice_cmp nat_cmp) old.rekeyed q))
    → element_of drawn id ≡ element_of live id → AreNoted old live drawn → AreNoted new live drawn
both-less old new id live drawn updates rekeyed is noted = record {
  others = others-less itself old.ids new.ids id live drawn updates is noted.others;
  keyed = others-less key_of old.rekeyed new.rekeyed id live drawn rekeyed (ap key_of is) noted.keyed;
}

-- ---- a list of ids, one more each time
pub push-part : {X : Type 0} (f : X → List ℕ) (base ids : List (List ℕ)) (xs : List X) (i : ℕ) (x : X) → i < length xs
    → x ≡ get_or xs i x → ids ≡ base ++ map f (take i xs)
    → ids ++ f x ∷ [] ≡ base ++ map f (take (i + 1) xs)
push-part f base ids xs i x within there so_far =
    ap (λ ys. ys ++ f x ∷ []) so_far ∙ append_assoc base (map f (take i xs)) (f x ∷ [])
    ∙ ap (λ ys. base ++ ys) (sym (ap (map f) (take_more xs i x within ∙ ap (λ y. take i xs ++ y ∷ []) (sym there))
    ∙ map-append f (take i xs) (x ∷ [])))

-- ---- what is shown and what is stored of an id
element-push : (es : List ElementValue) (e : ElementValue) (id : List ℕ)
    → element_of (es ++ e ∷ []) id ≡ option_or (element_of es id) (cond (has_id id e) (Some e) None)
element-push [] e id = refl
element-push (x ∷ es) e id =
    elim (has_id id x) as (λ b. cond b (Some x) (element_of (es ++ e ∷ []) id)
    ≡ option_or (cond b (Some x) (element_of es id)) (cond (has_id id e) (Some e) None)) [
      | true ↦ refl
      | false ↦ element-push es e id
    ]

-- what is found of an id is found of its own
pub own-found : (es : List ElementValue) (id : List ℕ) (e : ElementValue) → Some e ≡ element_of es id
    → element_of es e.id ≡ Some e
own-found es id e found =
    ap (element_of es) (sym (same_id id e (find-Some (has_id id) es e (sym found)).1)) ∙ sym found

-- of the first shown elements, each of another id than these is stored as it is shown, or has the stored key
abbrev pub AreWalkedAs : {X : Type 0} → (Option ElementValue → X) → List ElementValue → BTreeSet (List ℕ)
    → List ElementValue → Type 0
AreWalkedAs value live set firsts =
    (id : List ℕ) → contains (slice_cmp nat_cmp) set id ≡ false → (e : ElementValue)
    → element_of firsts id ≡ Some e → value (element_of live id) ≡ value (Some e)

pub record AreWalked (live : List ElementValue) (unsettled : Unsettled) (firsts : List ElementValue) : Type 0 where
  pub whole : AreWalkedAs itself live unsettled.ids firsts
  pub keyed : AreWalkedAs key_of live unsettled.rekeyed firsts

module _ (live drawn : List ElementValue) (view : IsView live drawn) where
  any-ids : (id : List ℕ) (es : List ElementValue) → list_any (has_id id) es ≡ is_among (ids_of es) id
  any-ids id [] = refl
  any-ids id (e ∷ es) = ap (λ b. has_id id e || b) (any-ids id es)

  some-both : (id : List ℕ) → is_some (element_of drawn id) ≡ is_some (element_of live id)
  some-both id =
      let moved : IsPermutation (ids_of live) (ids_of drawn) =
      subst (λ es. IsPermutation (ids_of live) (ids_of es)) (sym view.exact) (shown-is live view.keys).ids in
      is_some-find (has_id id) drawn ∙ any-ids id drawn
      ∙ sym (is_some-find (has_id id) live ∙ any-ids id live
      ∙ list_any-IsPermutation (bytes_eq id) (ids_of live) (ids_of drawn) moved)

  pub none-shown : (id : List ℕ) → None ≡ element_of live id → element_of drawn id ≡ element_of live id
  none-shown id none = none-is (element_of drawn id) (some-both id ∙ ap is_some (sym none)) ∙ none

  element-distinct : (es : List ElementValue) (i : ℕ) (e : ElementValue) → HaveDistinctIds es → slice_get es i ≡ Some e
      → element_of es e.id ≡ Some e
  unfolding IsDistinct
  element-distinct [] i e apart at' = cc
  element-distinct (x ∷ es) zero e apart at' =
      ap (λ (y : ElementValue). cond (has_id e.id y) (Some y) (element_of es e.id)) (same_Some x e at')
      ∙ cond-true (has_id e.id e) (Some e) (element_of es e.id) (of_itself e)
  element-distinct (x ∷ es) (suc i) e apart at' =
      cond-false (has_id e.id x) (Some x) (element_of es e.id) (nat_list_eq_equiv.symm e.id x.id
      ∙ later es i at' apart.0) ∙ element-distinct es i e apart.1 at'
    where
      later : (fs : List ElementValue) (k : ℕ) → slice_get fs k ≡ Some e
          → AllByRecursion (λ other. bytes_eq x.id other ≡ false) (ids_of fs) → bytes_eq x.id e.id ≡ false
      later [] k h all = cc
      later (f ∷ fs) zero h all = ap (λ (y : ElementValue). bytes_eq x.id y.id) (sym (same_Some f e h)) ∙ all.0
      later (f ∷ fs) (suc k) h all = later fs k h all.1

  pub shown-at : (e s : ElementValue) (at' : ℕ) → IsAt drawn e.id at' → s ≡ get_or drawn at' s
      → element_of drawn e.id ≡ Some s
  shown-at e s at' is got =
      let there = at_place (λ (x : ElementValue). x.id ≡ e.id) drawn at' s is got in
      ap (element_of drawn) (sym there.1) ∙ element-distinct drawn at' s (subst HaveDistinctIds (sym view.exact)
      (shown-distinct live (HaveDistinctIds-rising live view.ordered) view.keys)) there.0

  walked-as-more : {X : Type 0} (value : Option ElementValue → X) (i : ℕ) (e : ElementValue) → i < length drawn
      → e ≡ get_or drawn i e → (old new : BTreeSet (List ℕ)) → StillHas old new
      → (contains (slice_cmp nat_cmp) new e.id ≡ false → value (element_of live e.id) ≡ value (Some e))
      → AreWalkedAs value live old (take i drawn) → AreWalkedAs value live new (take (i + 1) drawn)
  walked-as-more {X} value i e within there old new kept own so_far id f x is =
      by (element_of (take i drawn) id) refl
    where
      all : option_or (element_of (take i drawn) id) (cond (has_id id e) (Some e) None) ≡ Some x
      all = sym (ap (λ es. element_of es id) (take_more drawn i e within
          ∙ ap (λ y. take i drawn ++ y ∷ []) (sym there)) ∙ element-push (take i drawn) e id) ∙ is

      last : (b : Bool) → has_id id e ≡ b → cond b (Some e) None ≡ Some x
          → value (element_of live id) ≡ value (Some x)
      last true named h =
          let to : id ≡ e.id = same_id id e named in
          ap (λ n. value (element_of live n)) to
          ∙ (own (ap (contains (slice_cmp nat_cmp) new) (sym to) ∙ f) ∙ ap value h)
      last false named h = cc

      by : (o : Option ElementValue) → element_of (take i drawn) id ≡ o → value (element_of live id) ≡ value (Some x)
      by (Some y) old_is =
          so_far id (kept id f) x (old_is ∙ (sym (ap (λ o. option_or o (cond (has_id id e) (Some e) None)) old_is)
          ∙ all))
      by None old_is =
          last (has_id id e) refl (sym (ap (λ o. option_or o (cond (has_id id e) (Some e) None)) old_is) ∙ all)

  pub walked-more : (i : ℕ) (e : ElementValue) → i < length drawn → e ≡ get_or drawn i e → (old new : Unsettled)
      → StillHave old new → IsWalked live new e → AreWalked live old (take i drawn)
      → AreWalked live new (take (i + 1) drawn)
  walked-more i e within there old new kept own so_far = record {
    whole = walked-as-more itself i e within there old.ids new.ids kept.ids own.whole so_far.whole;
    keyed = walked-as-more key_of i e within there old.rekeyed new.rekeyed kept.rekeyed own.keyed so_far.keyed;
  }

  all-walked-as : {X : Type 0} (value : Option ElementValue → X) (set : BTreeSet (List ℕ))
      → AreWalkedAs value live set drawn → AreOthersAlike value set live drawn
  all-walked-as {X} value set walked id f = by (element_of drawn id) refl where
    by : (o : Option ElementValue) → element_of drawn id ≡ o → value (element_of drawn id) ≡ value (element_of live id)
    by None is = ap value (is ∙ sym (none-is (element_of live id) (sym (some-both id) ∙ ap is_some is)))
    by (Some e) is = ap value is ∙ sym (walked id f e is)

  pub all-walked : (unsettled : Unsettled) → AreWalked live unsettled drawn → AreNoted unsettled live drawn
  all-walked unsettled walked = record {
    others = all-walked-as itself unsettled.ids walked.whole;
    keyed = all-walked-as key_of unsettled.rekeyed walked.keyed;
  }

-- ---- elements of other ids than those that are put, come, go or get another key
put-other : (es : List ElementValue) (i : ℕ) (e : ElementValue) (id : List ℕ)
    → IsSomeAnd (slice_get es i) (λ x. (x.id ≡ e.id) × (x.index ≡ e.index)) → bytes_eq id e.id ≡ false
    → element_of (set es i e) id ≡ element_of es id
put-other [] i e id is off = absurd is
put-other (x ∷ es) zero e id is off =
    cond-false (has_id id e) (Some e) (element_of es id) off
    ∙ sym (cond-false (has_id id x) (Some x) (element_of es id) (ap (bytes_eq id) is.0 ∙ off))
put-other (x ∷ es) (suc i) e id is off =
    elim (has_id id x) as (λ b. cond b (Some x) (element_of (set es i e) id) ≡ cond b (Some x) (element_of es id)) [
      | true ↦ refl
      | false ↦ put-other es i e id is off
    ]

puts-other : (puts : List Put) (es : List ElementValue) (id : List ℕ) → AllByRecursion (IsInPlace es) puts
    → is_among (put_ids puts) id ≡ false → element_of (all_put puts es) id ≡ element_of es id
puts-other [] es id all out = refl
puts-other (put ∷ puts) es id all out =
    let off = neither (bytes_eq id put.e.id) (is_among (put_ids puts) id) out in
    puts-other puts (set es put.at put.e) id (next put es all.0 puts all.1) off.1
    ∙ put-other es put.at put.e id all.0 off.0

insert-other : (es : List ElementValue) (i : ℕ) (e : ElementValue) (id : List ℕ) → bytes_eq id e.id ≡ false
    → element_of (insert es i e) id ≡ element_of es id
insert-other es zero e id off = cond-false (has_id id e) (Some e) (element_of es id) off
insert-other [] (suc i) e id off = cond-false (has_id id e) (Some e) None off
insert-other (x ∷ es) (suc i) e id off =
    elim (has_id id x) as (λ b. cond b (Some x) (element_of (insert es i e) id) ≡ cond b (Some x) (element_of es id)) [
      | true ↦ refl
      | false ↦ insert-other es i e id off
    ]

remove-other : (es : List ElementValue) (i : ℕ) (n id : List ℕ) → IsSomeAnd (slice_get es i) (λ x. x.id ≡ n)
    → bytes_eq id n ≡ false → element_of (remove es i) id ≡ element_of es id
remove-other [] i n id is off = absurd is
remove-other (x ∷ es) zero n id is off =
    sym (cond-false (has_id id x) (Some x) (element_of es id) (ap (bytes_eq id) is ∙ off))
remove-other (x ∷ es) (suc i) n id is off =
    elim (has_id id x) as (λ b. cond b (Some x) (element_of (remove es i) id) ≡ cond b (Some x) (element_of es id)) [
      | true ↦ refl
      | false ↦ remove-other es i n id is off
    ]

at-same : (es fs : List ElementValue) (i : ℕ) (n : List ℕ) → ids_of es ≡ ids_of fs
    → IsSomeAnd (slice_get es i) (λ x. x.id ≡ n) → IsSomeAnd (slice_get fs i) (λ x. x.id ≡ n)
at-same [] fs i n ids is = absurd is
at-same (x ∷ es) [] i n ids is = cc
at-same (x ∷ es) (y ∷ fs) zero n ids is = let id : x.id ≡ y.id = cc in sym id ∙ is
at-same (x ∷ es) (y ∷ fs) (suc i) n ids is = at-same es fs i n (cc) is

rekeyed-other : (start : ℕ) (keys : List (List ℕ)) (es : List ElementValue) (id : List ℕ)
    → is_among (take (length keys) (drop start (ids_of es))) id ≡ false
    → element_of (rekeyed start keys es) id ≡ element_of es id
rekeyed-other zero keys [] id out = refl
rekeyed-other zero [] (e ∷ es) id out = refl
rekeyed-other zero (key ∷ keys) (e ∷ es) id out =
    let off = neither (bytes_eq id e.id) (is_among (take (length keys) (ids_of es)) id) out in
    cond-false (has_id id e) _ (element_of (rekeyed zero keys es) id) off.0 ∙ rekeyed-other zero keys es id off.1
    ∙ sym (cond-false (has_id id e) (Some e) (element_of es id) off.0)
rekeyed-other (suc start) keys [] id out = refl
rekeyed-other (suc start) keys (e ∷ es) id out =
    elim (has_id id e) as (λ b. cond b (Some e) (element_of (rekeyed start keys es) id)
    ≡ cond b (Some e) (element_of es id)) [
      | true ↦ refl
      | false ↦ rekeyed-other start keys es id out
    ]

-- ---- the ids of a run, with one that comes or without one
module _ (id : List ℕ) where
  nothing : (n s : ℕ) → is_among (take n (drop s [])) id ≡ false
  nothing zero s = refl
  nothing (suc n) zero = refl
  nothing (suc n) (suc s) = refl

  fewer : (n m : ℕ) (ids : List (List ℕ)) → n ≤ m → is_among (take m ids) id ≡ false → is_among (take n ids) id ≡ false
  fewer zero m ids l out = refl
  fewer (suc n) zero ids l out = absurd (omega (arith, l))
  fewer (suc n) (suc m) [] l out = refl
  fewer (suc n) (suc m) (x ∷ ids) l out =
      let off = neither (bytes_eq id x) (is_among (take m ids) id) out in
      ap₂ (λ a b. a || b) off.0 (fewer n m ids (omega (arith, l)) off.1)

  insert-first : (n place : ℕ) (ids : List (List ℕ)) (own : List ℕ) → bytes_eq id own ≡ false
      → is_among (take (suc n) ids) id ≡ false → is_among (take n (insert ids place own)) id ≡ false
  insert-first zero place ids own off out = refl
  insert-first (suc n) zero ids own off out = ap₂ (λ a b. a || b) off (fewer n (suc (suc n)) ids (omega arith) out)
  insert-first (suc n) (suc place) [] own off out = ap₂ (λ a b. a || b) off (nothing n 0)
  insert-first (suc n) (suc place) (x ∷ ids) own off out =
      let h = neither (bytes_eq id x) (is_among (take (suc n) ids) id) out in
      ap₂ (λ a b. a || b) h.0 (insert-first n place ids own off h.1)

  run-insert : (start n place : ℕ) (ids : List (List ℕ)) (own : List ℕ) → start ≤ place → bytes_eq id own ≡ false
      → is_among (take (suc n) (drop start ids)) id ≡ false
      → is_among (take n (drop start (insert ids place own))) id ≡ false
  run-insert zero n place ids own l off out = insert-first n place ids own off out
  run-insert (suc s) n zero ids own l off out = absurd (omega (arith, l))
  run-insert (suc s) n (suc place) [] own l off out = nothing n s
  run-insert (suc s) n (suc place) (x ∷ ids) own l off out = run-insert s n place ids own (omega (arith, l)) off out

  remove-first : (n place : ℕ) (ids : List (List ℕ)) → is_among (take (suc n) ids) id ≡ false
      → is_among (take n (remove ids place)) id ≡ false
  remove-first zero place ids out = refl
  remove-first (suc n) zero [] out = refl
  remove-first (suc n) (suc place) [] out = refl
  remove-first (suc n) zero (x ∷ ids) out = (neither (bytes_eq id x) (is_among (take (suc n) ids) id) out).1
  remove-first (suc n) (suc place) (x ∷ ids) out =
      let h = neither (bytes_eq id x) (is_among (take (suc n) ids) id) out in
      ap₂ (λ a b. a || b) h.0 (remove-first n place ids h.1)

  run-remove : (start n place : ℕ) (ids : List (List ℕ)) → start ≤ place
      → is_among (take (suc n) (drop start ids)) id ≡ false → is_among (take n (drop start (remove ids place))) id
      ≡ false
  run-remove zero n place ids l out = remove-first n place ids out
  run-remove (suc s) n zero ids l out = absurd (omega (arith, l))
  run-remove (suc s) n (suc place) [] l out = nothing n (suc s)
  run-remove (suc s) n (suc place) (x ∷ ids) l out = run-remove s n place ids (omega (arith, l)) out

-- ---- after a change
apart-from : (id : List ℕ) (xs ys : List (List ℕ)) → is_among (xs ++ ys) id ≡ false → (is_among xs id ≡ false)
    × (is_among ys id ≡ false)
apart-from id xs ys out = neither (is_among xs id) (is_among ys id) (sym (list_any-append (bytes_eq id) xs ys) ∙ out)

none-among : (id : List ℕ) (es : List ElementValue) → is_among (ids_of es) id ≡ false → element_of es id ≡ None
none-among id [] out = refl
none-among id (e ∷ es) out =
    let off = neither (bytes_eq id e.id) (is_among (ids_of es) id) out in
    cond-false (has_id id e) (Some e) (element_of es id) off.0 ∙ none-among id es off.1

module _ (live drawn : List ElementValue) (old noted : Unsettled) (others : AreNoted old live drawn)
    (kept : StillHave old noted) where
  pub others-kept : AreNoted noted live drawn
  others-kept = record {
    others = λ id f. others.others id (kept.ids id f);
    keyed = λ id f. others.keyed id (kept.rekeyed id f);
  }

  -- elements of no other ids than these are stored or shown otherwise
  others-after : (ids : List (List ℕ)) (live_after drawn_after : List ElementValue) → HaveNoted ids noted
      → ((id : List ℕ) → is_among ids id ≡ false → (element_of live_after id ≡ element_of live id)
      × (element_of drawn_after id ≡ element_of drawn id)) → AreNoted noted live_after drawn_after
  others-after ids live_after drawn_after has same = record {
    others = λ id f.
        let is = same id (has.ids id f) in
        is.1 ∙ (others.others id (kept.ids id f) ∙ sym is.0);
    keyed = λ id f.
        let is = same id (has.rekeyed id f) in
        ap key_of is.1 ∙ (others.keyed id (kept.rekeyed id f) ∙ sym (ap key_of is.0));
  }

  pub others-replaced : (news live_after : List ElementValue) (puts : List Put) → AreRepairs live drawn news puts
      → HaveReplaced live news live_after → HaveNoted (put_ids puts ++ ids_of news) noted
      → AreNoted noted live_after (all_put puts drawn)
  others-replaced news live_after puts repairs replaced has =
      others-after (put_ids puts ++ ids_of news) live_after (all_put puts drawn) has
      (λ id out.
      let off = apart-from id (put_ids puts) (ids_of news) out in (
        replaced.each id ∙ ap (λ o. option_or o (element_of live id)) (none-among id news off.1),
        puts-other puts drawn id (recursion_from_All _ _ repairs.placed) off.0,
      ))

  module _ (puts : List Put) (n : List ℕ) (start : ℕ) (keys : List (List ℕ)) (id : List ℕ)
      (out : is_among (touched_ids drawn puts n start keys) id ≡ false) where
    parts : (is_among (put_ids puts ++ n ∷ []) id ≡ false)
        × (is_among (run_ids start (length keys + 1) drawn) id ≡ false)
    parts = apart-from id (put_ids puts ++ n ∷ []) (run_ids start (length keys + 1) drawn) out

    out-puts : is_among (put_ids puts) id ≡ false
    out-puts = (apart-from id (put_ids puts) (n ∷ []) parts.0).0

    out-own : bytes_eq id n ≡ false
    out-own = (neither (bytes_eq id n) false (apart-from id (put_ids puts) (n ∷ []) parts.0).1).0

    out-run : is_among (take (suc (length keys)) (drop start (ids_of drawn))) id ≡ false
    out-run =
        let count : suc (length keys) ≡ length keys + 1 = omega arith in
        let get_id : ElementValue → List ℕ = λ e. e.id in
        ap (λ ids. is_among ids id) (ap (take (suc (length keys))) (map-drop get_id start drawn)
        ∙ map-take get_id (suc (length keys)) (drop start drawn) ∙ ap (λ m. run_ids start m drawn) count) ∙ parts.1

  pub others-with : (e own : ElementValue) (place start : ℕ) (puts : List Put) (keys : List (List ℕ))
      (live_after : List ElementValue) → IsComing live drawn e own puts
      → AreKeysWith (stored_keys live drawn) e.index place start keys → HaveReplaced live (e ∷ []) live_after
      → HaveNoted (touched_ids drawn puts e.id start keys) noted
      → AreNoted noted live_after (rekeyed start keys (insert (all_put puts drawn) place own))
  others-with e own place start puts keys live_after coming keys_with replaced has =
      others-after (touched_ids drawn puts e.id start keys) live_after
      (rekeyed start keys (insert (all_put puts drawn) place own)) has
      (λ id out.
      let off = out-own puts e.id start keys id out in
      let off' : bytes_eq id own.id ≡ false = ap (bytes_eq id) named ∙ off in (
        replaced.each id ∙ ap (λ b. option_or (cond b (Some e) None) (element_of live id)) off,
        rekeyed-other start keys (insert (all_put puts drawn) place own) id
            (ap (λ ids. is_among (take (length keys) (drop start ids)) id)
            (map-insert (λ (x : ElementValue). x.id) (all_put puts drawn) place own
            ∙ ap (λ ids. insert ids place own.id) (ids-all_put puts drawn in_places))
            ∙ run-insert id start (length keys) place (ids_of drawn) own.id keys_with.begins.before off'
            (out-run puts e.id start keys id out))
            ∙ insert-other (all_put puts drawn) place own id off'
            ∙ puts-other puts drawn id in_places (out-puts puts e.id start keys id out),
      ))
    where
      in_places : AllByRecursion (IsInPlace drawn) puts
      in_places = recursion_from_All _ _ coming.beside.placed

      named : own.id ≡ e.id
      named = sym (same_id e.id own (find-Some (has_id e.id) (part_with live e coming.wide) own coming.found).1)

  pub others-without : (e : ElementValue) (place start : ℕ) (puts : List Put) (keys : List (List ℕ))
      (live_after : List ElementValue) → IsAt drawn e.id place → IsGoing live drawn e puts
      → AreKeysWithout (stored_keys live drawn) place start keys → HasGone live e.id live_after
      → HaveNoted (touched_ids drawn puts e.id start keys) noted
      → AreNoted noted live_after (rekeyed start keys (remove (all_put puts drawn) place))
  others-without e place start puts keys live_after at' going keys_without gone has =
      others-after (touched_ids drawn puts e.id start keys) live_after
      (rekeyed start keys (remove (all_put puts drawn) place)) has
      (λ id out.
      let off = out-own puts e.id start keys id out in (
        gone.each id ∙ ap (λ b. cond b None (element_of live id)) off,
        rekeyed-other start keys (remove (all_put puts drawn) place) id
            (ap (λ ids. is_among (take (length keys) (drop start ids)) id)
            (map-remove (λ (x : ElementValue). x.id) (all_put puts drawn) place
            ∙ ap (λ ids. remove ids place) (ids-all_put puts drawn in_places))
            ∙ run-remove id start (length keys) place (ids_of drawn) keys_without.begins.before
            (out-run puts e.id start keys id out))
            ∙ remove-other (all_put puts drawn) place e.id id
            (at-same drawn (all_put puts drawn) place e.id (sym (ids-all_put puts drawn in_places)) at') off
            ∙ puts-other puts drawn id in_places (out-puts puts e.id start keys id out),
      ))
    where
      in_places : AllByRecursion (IsInPlace drawn) puts
      in_places = recursion_from_All _ _ going.beside.placed

-- where an element is redrawn, it is stored and shown otherwise in one way, and its key stays
pub others-redrawn : (new : ElementValue) (live drawn : List ElementValue) (unsettled : Unsettled)
    → AreNoted unsettled live drawn → AreNoted unsettled (map (redrawn_as new) live) (map (redrawn_as new) drawn)
others-redrawn new live drawn unsettled others = record {
  others = λ id f. element-redrawn new id drawn
      ∙ (ap (option_map (redrawn_as new)) (others.others id f) ∙ sym (element-redrawn new id live));
  keyed = λ id f. key-redrawn id drawn ∙ (others.keyed id f ∙ sym (key-redrawn id live));
}
  where
    same-key : (o : Option ElementValue) → key_of (option_map (redrawn_as new) o) ≡ key_of o
    same-key None = refl
    same-key (Some e) = refl

    key-redrawn : (id : List ℕ) (es : List ElementValue) → key_of (element_of (map (redrawn_as new) es) id)
        ≡ key_of (element_of es id)
    key-redrawn id es = ap key_of (element-redrawn new id es) ∙ same-key (element_of es id)
