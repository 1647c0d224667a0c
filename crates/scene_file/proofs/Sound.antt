-- Elements that are read stay whole: with the keys that they are loaded with and as they are stored.
use Rattle.std.proofs.Common.{◌≡◌, ◌⊎◌, ℕ, List, [], ◌∷◌, Bool, true, false, cond, Option, Some, None, IfSome, is_some, All, Contains, map, refl, sym, ap, subst, inl, inr, IsUtf8}
use Rattle.std.specs.List.{AllByRecursion, list_all}
use Rattle.std.proofs.lemmas.Bool.{cond_both, and_parts, and_from}
use Rattle.std.proofs.lemmas.List.Elements.{All-nil, All-cons, All-head, All-tail, All-weaker, All-contains, All-contains_itself}
use Rattle.frac_keys.specs.Keys.{is_key}
use Rattle.frac_keys.specs.Rising.{is_key_or_none}
use Rattle.index_repair.specs.Repair.{repaired}
use Rattle.index_repair.proofs.CallerLemmas.{repaired-law}
use Rattle.elem.specs.declared.parts.BoundRef.{BoundRef}
use Rattle.elem.specs.declared.parts.Binding.{Binding}
use Rattle.elem.specs.ElementValue.{ElementValue}
use Rattle.elem_read.proofs.CallerLemmas.{IsSound}
use Rattle.elem_store.specs.Updates.{AreStored}
use Rattle.elem_store.proofs.CallerLemmas.{IsBestOf-stored, AreStored-stored}
use Rattle.index_repair.specs.Keyed.{index_of, with_index, keyed, HaveRisingKeys}
use Rattle.scene_file.specs.Reading.{loaded}
use Rattle.scene_file.specs.Whole.{HaveKeys}

-- ---- an element with other parts
-- a part that is as it was, or gone
abbrev pub Stays : {A : Type 0} → Option A → Option A → Type 0
Stays new old = (new ≡ old) ⊎ (new ≡ None)

stays-holds : {A : Type 0} (P : A → Type 0) (new old : Option A) → Stays new old → IfSome old P → IfSome new P
stays-holds P new old (inl same) is = subst (λ o. IfSome o P) (sym same) is
stays-holds P new old (inr gone) is = subst (λ o. IfSome o P) (sym gone) tt

pub stays-if : {A : Type 0} (keeps : Bool) (old : Option A) → Stays (cond keeps old None) old
stays-if true old = inl refl
stays-if false old = inr refl

abbrev pub IsListed : BoundRef → Type 0
IsListed entry = IsUtf8 entry.id

abbrev pub with_parts : ElementValue → Option (List ℕ) → List (List ℕ) → Option (List ℕ) → List BoundRef
    → Option (List ℕ) → Option Binding → Option Binding → ElementValue
with_parts e index groups frame bound container start final = record e {
  index = index;
  groups = groups;
  frame = frame;
  bound = bound;
  container = container;
  start_binding = start;
  end_binding = final;
}

pub sound-with : (e : ElementValue) (index : Option (List ℕ)) (groups : List (List ℕ)) (frame : Option (List ℕ))
    (bound : List BoundRef) (container : Option (List ℕ)) (start final : Option Binding)
    → IsSound e → IfSome index (λ key. is_key key ≡ true) → AllByRecursion IsUtf8 groups → IfSome frame IsUtf8
    → AllByRecursion IsListed bound
    → Stays container e.container → Stays start e.start_binding → Stays final e.end_binding
    → IsSound (with_parts e index groups frame bound container start final)
sound-with e index groups frame bound container start final sound key texts name entries holder first last = record {
  restored = sound.restored;
  is_element = record {
    named = sound.is_element.named;
    version = sound.is_element.version;
    nonce = sound.is_element.nonce;
    updated = sound.is_element.updated;
    kind = sound.is_element.kind;
    container = stays-holds _ container e.container holder sound.is_element.container;
    start_binding = stays-holds _ start e.start_binding first sound.is_element.start_binding;
    end_binding = stays-holds _ final e.end_binding last sound.is_element.end_binding;
    file = sound.is_element.file;
    rise = sound.is_element.rise;
    free = sound.is_element.free;
    nest = sound.is_element.nest;
  };
  written = record {
    id = sound.written.id;
    kind = sound.written.kind;
    index = key;
    groups = texts;
    frame = name;
    bound = entries;
    container = stays-holds _ container e.container holder sound.written.container;
    start_binding = stays-holds _ start e.start_binding first sound.written.start_binding;
    end_binding = stays-holds _ final e.end_binding last sound.written.end_binding;
    file = sound.written.file;
    rest = sound.written.rest;
  };
  rest = sound.rest;
  lack = sound.lack;
}

-- ---- elements with new keys
abbrev pub AreSound : List ElementValue → Type 0
AreSound elements = All IsSound elements

sound-key : (e : ElementValue) (key : List ℕ) → IsSound e → is_key key ≡ true → IsSound (with_index e key)
sound-key e key sound is =
    sound-with e (Some key) e.groups e.frame e.bound e.container e.start_binding e.end_binding sound is
    sound.written.groups sound.written.frame sound.written.bound (inl refl) (inl refl) (inl refl)

keyed-sound : (elements : List ElementValue) (keys : List (List ℕ)) → list_all is_key keys ≡ true → AreSound elements
    → AreSound (keyed elements keys)
keyed-sound [] keys are sound = All-nil IsSound
keyed-sound (e ∷ elements) [] are sound = All-nil IsSound
keyed-sound (e ∷ elements) (key ∷ keys) are sound =
    let parts = and_parts (is_key key) (list_all is_key keys) are in
    All-cons IsSound (with_index e key) (keyed elements keys)
    (sound-key e key (All-head IsSound e elements sound) parts.0)
    (keyed-sound elements keys parts.1 (All-tail IsSound e elements sound))

pub keys-or-none : (elements : List ElementValue) → AreSound elements → list_all is_key_or_none (map index_of elements)
    ≡ true
keys-or-none [] sound = refl
keys-or-none (e ∷ elements) sound =
    and_from (is_key_or_none e.index) (list_all is_key_or_none (map index_of elements))
    (own e.index (All-head IsSound e elements sound).written.index)
    (keys-or-none elements (All-tail IsSound e elements sound))
  where
    own : (index : Option (List ℕ)) → IfSome index (λ key. is_key key ≡ true) → is_key_or_none index ≡ true
    own None is = refl
    own (Some key) is = is

pub repaired-sound : (elements : List ElementValue) → AreSound elements
    → AreSound (keyed elements (repaired (map index_of elements)))
repaired-sound elements sound =
    keyed-sound elements (repaired (map index_of elements))
    (repaired-law (map index_of elements) (keys-or-none elements sound)).are_keys sound

pub loaded-sound : (elements : List ElementValue) → AreSound elements → AreSound (loaded elements)
loaded-sound elements sound =
    cond_both (list_all (λ (e : ElementValue). is_some e.index) elements) elements
    (keyed elements (repaired (map index_of elements))) AreSound (λ _. sound) (λ _. repaired-sound elements sound)

keyed-keys : (elements : List ElementValue) (keys : List (List ℕ)) → HaveKeys (keyed elements keys)
keyed-keys [] keys = refl
keyed-keys (e ∷ elements) [] = refl
keyed-keys (e ∷ elements) (key ∷ keys) = keyed-keys elements keys

pub loaded-keys : (elements : List ElementValue) → HaveKeys (loaded elements)
loaded-keys elements =
    cond_both (list_all (λ (e : ElementValue). is_some e.index) elements) elements
    (keyed elements (repaired (map index_of elements))) HaveKeys (λ have. have)
    (λ _. keyed-keys elements (repaired (map index_of elements)))

-- ---- what is stored
module _ (P : ElementValue → Type 0) (updates elements : List ElementValue) (are : AreStored updates elements) where
  stored-taken : (e : ElementValue) → Contains elements e → Contains updates e
  stored-taken e c = (IsBestOf-stored updates e.id e (AreStored-stored updates elements e are c)).taken

  -- what holds of all updates holds of what is stored of them
  pub stored-all : All P updates → All P elements
  stored-all all = All-weaker (Contains elements) P (λ e c. All-contains P updates e all (stored-taken e c)) elements
      (All-contains_itself elements)

-- keys that rise are there
some-keys : (elements : List ElementValue) (keys : List (List ℕ)) → map index_of elements ≡ map Some keys
    → HaveKeys elements
some-keys [] keys same = refl
some-keys (e ∷ elements) [] same = cc
some-keys (e ∷ elements) (key ∷ keys) same =
    let first : e.index ≡ Some key = cc in
    and_from (is_some e.index) (list_all (λ (f : ElementValue). is_some f.index) elements) (ap is_some first)
    (some-keys elements keys (cc))

pub rising-keys : (elements : List ElementValue) → HaveRisingKeys elements → HaveKeys elements
rising-keys elements rise = some-keys elements rise.keys rise.each
