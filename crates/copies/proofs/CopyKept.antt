-- Copies of elements are elements.
use Rattle.std.proofs.Common.{◌≡◌, ◌≢◌, ℕ, Bool, true, false, cond, List, [], ◌∷◌, ◌++◌, Option, Some, None, IfSome, All, filter, length, map, sym, subst, lit≤, IsUtf8}
use Rattle.std.specs.List.{AllByRecursion}
use Rattle.std.proofs.lemmas.Str.{IsUtf8-append}
use Rattle.std.proofs.lemmas.List.{length-map}
use Rattle.std.proofs.lemmas.List.Elements.{All-nil, All-cons, All-head, All-tail}
use Rattle.json_text.specs.declared.text.Member.{Member}
use Rattle.elem.specs.declared.kind.Kind.{Kind}
use Rattle.elem.specs.declared.kind.Kind.TheVariants.{Arrow}
use Rattle.elem.specs.declared.parts.BoundRef.{BoundRef}
use Rattle.elem.specs.declared.parts.Binding.{Binding}
use Rattle.elem.specs.ElementValue.{ElementValue}
use Rattle.elem.specs.Facts.{IsBinding, IsElement}
use Rattle.elem.specs.Said.{HasValidTexts, IsBindingText, AreElements}
use Rattle.copies.specs.Copies.{copied_end, copied_entries, copied_entry, copied_name, copies_of, copy_among, is_among}

module _ (among : List ℕ → Bool) (prefix : List ℕ) where
  -- what holds of a name whatever it is
  name-where : (K : Type 0) (name : Option (List ℕ)) → IfSome name (λ _. K)
      → IfSome (copied_name among prefix name) (λ _. K)
  name-where K None is = tt
  name-where K (Some id) is = go (among id)
    where
      go : (b : Bool) → IfSome (cond b (Some (prefix ++ id)) None) (λ _. K)
      go true = is
      go false = tt

  name-text : IsUtf8 prefix → (name : Option (List ℕ)) → IfSome name IsUtf8
      → IfSome (copied_name among prefix name) IsUtf8
  name-text text None is = tt
  name-text text (Some id) is = go (among id)
    where
      go : (b : Bool) → IfSome (cond b (Some (prefix ++ id)) None) IsUtf8
      go true = IsUtf8-append prefix id text is
      go false = tt

  abbrev IsEnd : Kind → Option Binding → Type 0
  IsEnd kind binding = IfSome binding (λ b. (kind ≡ Arrow) × IsBinding b)

  end-kept : (kind : Kind) (binding : Option Binding) → IsEnd kind binding
      → IsEnd kind (copied_end among prefix binding)
  end-kept kind None is = tt
  end-kept kind (Some b) is = go (among b.target)
    where
      go : (test : Bool) → IsEnd kind (cond test (Some (record b { target = prefix ++ b.target })) None)
      go true = (is.0, record { rise = is.1.rise; free = is.1.free; nest = is.1.nest })
      go false = tt

  end-text : IsUtf8 prefix → (binding : Option Binding) → IfSome binding IsBindingText
      → IfSome (copied_end among prefix binding) IsBindingText
  end-text text None is = tt
  end-text text (Some b) is = go (among b.target)
    where
      go : (test : Bool) → IfSome (cond test (Some (record b { target = prefix ++ b.target })) None) IsBindingText
      go true = record { target = IsUtf8-append prefix b.target text is.target; rest = is.rest }
      go false = tt

  groups-text : IsUtf8 prefix → (groups : List (List ℕ)) → AllByRecursion IsUtf8 groups
      → AllByRecursion IsUtf8 (map (λ group. prefix ++ group) groups)
  groups-text text [] are = tt
  groups-text text (g ∷ groups) are = (IsUtf8-append prefix g text are.0, groups-text text groups are.1)

  abbrev IsListed : BoundRef → Type 0
  IsListed entry = IsUtf8 entry.id

  entries-text : IsUtf8 prefix → (entries : List BoundRef) → AllByRecursion IsListed entries
      → AllByRecursion IsListed (copied_entries among prefix entries)
  entries-text text [] are = tt
  entries-text text (entry ∷ entries) are = go (among entry.id) (entries-text text entries are.1)
    where
      go : (b : Bool) → AllByRecursion IsListed (copied_entries among prefix entries)
          → AllByRecursion IsListed (map (copied_entry prefix)
          (cond b (entry ∷ filter (λ (x : BoundRef). among x.id) entries)
          (filter (λ (x : BoundRef). among x.id) entries)))
      go true others = (IsUtf8-append prefix entry.id text are.0, others)
      go false others = others

  named : (before id : List ℕ) → id ≢ [] → before ++ id ≢ []
  named [] id some = some
  named (b ∷ before) id some = λ e. absurd cc

  pub element-copied : (e : ElementValue) → IsElement e → IsElement (copy_among among prefix e)
  unfolding copy_among
  element-copied e is = record {
    named = named prefix e.id is.named;
    version = lit≤ tt;
    nonce = lit≤ tt;
    updated = lit≤ tt;
    kind = is.kind;
    container = name-where (e.kind ≡ _) e.container is.container;
    start_binding = end-kept e.kind e.start_binding is.start_binding;
    end_binding = end-kept e.kind e.end_binding is.end_binding;
    file = is.file;
    rise = is.rise;
    free = is.free;
    nest = is.nest;
  }

  -- the same of an element that has the parts of a copy
  pub element-made : {e : ElementValue} {id : List ℕ} {kind : Kind} {groups : List (List ℕ)}
      {frame container file : Option (List ℕ)} {bound : List BoundRef} {start final : Option Binding}
      {rest : List Member}
      → id ≡ prefix ++ e.id → kind ≡ e.kind → groups ≡ map (λ group. prefix ++ group) e.groups
      → frame ≡ copied_name among prefix e.frame
      → bound ≡ copied_entries among prefix e.bound → container ≡ copied_name among prefix e.container
      → start ≡ copied_end among prefix e.start_binding → final ≡ copied_end among prefix e.end_binding → file ≡ e.file
      → rest ≡ e.rest → IsElement e
      → IsElement (record {
        id = id;
        kind = kind;
        version = 1;
        nonce = 0;
        updated = 0;
        deleted = false;
        index = None;
        groups = groups;
        frame = frame;
        bound = bound;
        container = container;
        start_binding = start;
        end_binding = final;
        file = file;
        rest = rest;
      })
  unfolding copy_among
  element-made {e = e} a b d f g h j k l m is =
      subst IsElement (λ i. record {
        id = sym a i;
        kind = sym b i;
        version = 1;
        nonce = 0;
        updated = 0;
        deleted = false;
        index = None;
        groups = sym d i;
        frame = sym f i;
        bound = sym g i;
        container = sym h i;
        start_binding = sym j i;
        end_binding = sym k i;
        file = sym l i;
        rest = sym m i;
      }) (element-copied e is)

  pub texts-copied : IsUtf8 prefix → (e : ElementValue) → HasValidTexts e → HasValidTexts (copy_among among prefix e)
  unfolding copy_among
  texts-copied text e w = record {
    id = IsUtf8-append prefix e.id text w.id;
    kind = w.kind;
    index = tt;
    groups = groups-text text e.groups w.groups;
    frame = name-text text e.frame w.frame;
    bound = entries-text text e.bound w.bound;
    container = name-text text e.container w.container;
    start_binding = end-text text e.start_binding w.start_binding;
    end_binding = end-text text e.end_binding w.end_binding;
    file = w.file;
    rest = w.rest;
  }

  -- what copying keeps of each element
  pub all-copied : (P : ElementValue → Type 0) → ((e : ElementValue) → P e → P (copy_among among prefix e))
      → (list : List ElementValue) → All P list → All P (map (copy_among among prefix) list)
  all-copied P keeps [] all = All-nil P
  all-copied P keeps (e ∷ list) all =
      All-cons P (copy_among among prefix e) (map (copy_among among prefix) list) (keeps e (All-head P e list all))
      (all-copied P keeps list (All-tail P e list all))

pub copies-elements : (list : List ElementValue) (prefix : List ℕ) → IsUtf8 prefix → AreElements list
    → AreElements (copies_of list prefix)
unfolding copies_of
copies-elements list prefix text all =
    all-copied (is_among list) prefix (λ e. IsElement e × HasValidTexts e)
    (λ e is. (element-copied (is_among list) prefix e is.0, texts-copied (is_among list) prefix text e is.1)) list all

pub copies-length : (list : List ElementValue) (prefix : List ℕ) → length (copies_of list prefix) ≡ length list
unfolding copies_of
copies-length list prefix = length-map list (copy_among (is_among list) prefix)
