-- Members say one element alone, and the members of an element say that element.
use Rattle.std.proofs.Common.{◌≡◌, ◌≤◌, ◌<◌, ◌^◌, ℕ, List, [], ◌∷◌, ◌++◌, map, refl, sym, ap, ◌∙◌, subst, lit≤, arith, IsUtf8, inl, inr, true, false, Bool, Option, Some, None, IfSome, codes, decimal, bytes_eq}
use Rattle.std.specs.Cmp.Lexicographic.{nat_list_eq_equiv}
use Rattle.std.specs.List.{AllByRecursion, IsDistinct, list_any}
use Rattle.std.proofs.lemmas.Bool.{or_parts, or_from, both_ways}
use Rattle.std.proofs.lemmas.List.Folds.{list_any-append}
use Rattle.std.proofs.lemmas.Map.Entries.{lookup_tail}
use Rattle.std.proofs.lemmas.Map.Made.{IsDistinct-from_count}
use Rattle.json_text.specs.Characters.{quote}
use Rattle.json_text.specs.Compact.{Member as Pair, array_text}
use Rattle.json_text.specs.Members.{pairs}
use Rattle.json_text.specs.Parts.{names_of, AreMembers}
use Rattle.json_text.specs.Tree.{null_word, true_word, false_word}
use Rattle.json_text.specs.Value.{IsCompact}
use Rattle.json_text.specs.declared.text.Member.{Member}
use Rattle.scene_json.specs.Named.{value_at}
use Rattle.json_text.proofs.CallerLemmas.{bytes_eq-true, Value-deeper, quote-compact, literal-compact, array-compact, object-compact, decimal-number, ascii-utf8}
use Rattle.scene_json.proofs.CallerLemmas.{distinct_moved, same_moved, names-pairs, quotes-compact}
use Rattle.frac_keys.specs.Keys.{is_key}
use Rattle.frac_keys.specs.Rising.{are_rising}
use Rattle.elem.specs.declared.kind.Kind.{Kind}
use Rattle.elem.specs.declared.kind.Kind.TheVariants.{Rectangle, Diamond, Ellipse, Arrow, Line, Freedraw, Text, Image, Frame, Magicframe, Iframe, Embeddable, Other}
use Rattle.elem.specs.declared.kind.Role.{Role}
use Rattle.elem.specs.declared.kind.Role.TheVariants as roles
use Rattle.elem.specs.declared.parts.BoundRef.{BoundRef}
use Rattle.elem.specs.declared.parts.Binding.{Binding}
use Rattle.elem.specs.ElementValue.{ElementValue}
use Rattle.elem.specs.Facts.{greatest_whole, header_names, own_names, is_header, IsKind, IsBinding, IsElement, AllNest, names}
use Rattle.elem.specs.Forms.{Find, find_in, IsTextOrNull, IsKeyOrNull, AreListingEntries, AreOthers, IsBindingOrNull}
use Rattle.elem.specs.Said.{is_named, IsOwn, Says, IsBindingText, HasValidTexts}
use Rattle.elem.specs.Texts.{kind_name, role_name, truth_text, text_or_null, bound_text, binding_text, own_members, header_members, sorted_members, element_members, element_text}
use Rattle.elem.proofs.Distinct.{IsDistinct-element, IsDistinct-binding, names_of-header, AllByRecursion-append}
use Rattle.elem.proofs.FormsOnce.{text-once, whole-once, truth-once, text_or_null-once, key_or_null-once, texts-once, kind_of_name-once, kind-once, listing-once, others-once, binding-once}
use Rattle.elem.proofs.KeyTexts.{IsUtf8-key}
use Rattle.elem.proofs.Once.{object-once}
use Rattle.elem.proofs.Sorting.{AllByRecursion-weaker, IsPermutation-sorted, AllByRecursion-sorted}

-- ---- one element alone
own-once : {A : Type 0} (own : Bool) (IsForm : Option (List ℕ) → Option A
    → Type 0) (found : Option (List ℕ)) (a b : Option A)
    → (IsForm found a → IsForm found b → a ≡ b) → IsOwn own IsForm found a → IsOwn own IsForm found b → a ≡ b
own-once true IsForm found a b once one two = once one two
own-once false IsForm found a b once one two = one ∙ sym two

drawn-same : (a b : ElementValue) → a.id ≡ b.id → a.kind ≡ b.kind → a.version ≡ b.version → a.nonce ≡ b.nonce
    → a.updated ≡ b.updated → a.deleted ≡ b.deleted → a.index ≡ b.index
    → a.groups ≡ b.groups → a.frame ≡ b.frame → a.bound ≡ b.bound → a.container ≡ b.container
    → a.start_binding ≡ b.start_binding → a.end_binding ≡ b.end_binding → a.file ≡ b.file → a.rest ≡ b.rest → a ≡ b
drawn-same a b id kind version nonce updated deleted index groups frame bound container start end file rest =
    λ i. record {
      id = id i;
      kind = kind i;
      version = version i;
      nonce = nonce i;
      updated = updated i;
      deleted = deleted i;
      index = index i;
      groups = groups i;
      frame = frame i;
      bound = bound i;
      container = container i;
      start_binding = start i;
      end_binding = end i;
      file = file i;
      rest = rest i;
    }

pub Says-once : (find : Find) (a b : ElementValue) → Says find a → Says find b → a ≡ b
Says-once find a b one two =
    let kind = kind-once _ a.kind b.kind one.kind two.kind in
    let container : IsOwn (is_named (codes "text") a.kind) IsTextOrNull (find (codes "containerId")) b.container =
    subst (λ k. IsOwn (is_named (codes "text") k) IsTextOrNull (find (codes "containerId")) b.container) (sym kind)
    two.container in
    let start : IsOwn (is_named (codes "arrow") a.kind) IsBindingOrNull (find (codes "startBinding")) b.start_binding =
    subst (λ k. IsOwn (is_named (codes "arrow") k) IsBindingOrNull (find (codes "startBinding")) b.start_binding)
    (sym kind) two.start_binding in
    let end : IsOwn (is_named (codes "arrow") a.kind) IsBindingOrNull (find (codes "endBinding")) b.end_binding =
    subst (λ k. IsOwn (is_named (codes "arrow") k) IsBindingOrNull (find (codes "endBinding")) b.end_binding) (sym kind)
    two.end_binding in
    let file : IsOwn (is_named (codes "image") a.kind) IsTextOrNull (find (codes "fileId")) b.file =
    subst (λ k. IsOwn (is_named (codes "image") k) IsTextOrNull (find (codes "fileId")) b.file) (sym kind) two.file in
    let rest : AreOthers (is_header a.kind) find b.rest =
    subst (λ k. AreOthers (is_header k) find b.rest) (sym kind) two.rest in
    drawn-same a b (text-once _ a.id b.id one.id.0 two.id.0) kind
    (whole-once _ a.version b.version one.version two.version) (whole-once _ a.nonce b.nonce one.nonce two.nonce)
    (whole-once _ a.updated b.updated one.updated two.updated)
    (truth-once _ a.deleted b.deleted one.deleted two.deleted) (key_or_null-once _ a.index b.index one.index two.index)
    (texts-once _ a.groups b.groups one.groups two.groups) (text_or_null-once _ a.frame b.frame one.frame two.frame)
    (listing-once _ a.bound b.bound one.bound two.bound)
    (own-once _ IsTextOrNull _ a.container b.container (text_or_null-once _ a.container b.container) one.container
    container)
    (own-once _ IsBindingOrNull _ a.start_binding b.start_binding (binding-once _ a.start_binding b.start_binding)
    one.start_binding start)
    (own-once _ IsBindingOrNull _ a.end_binding b.end_binding (binding-once _ a.end_binding b.end_binding)
    one.end_binding end)
    (own-once _ IsTextOrNull _ a.file b.file (text_or_null-once _ a.file b.file) one.file file)
    (others-once (is_header a.kind) find a.rest b.rest one.rest rest)

-- ---- sorted members

pub sorted-AreMembers : (limit : ℕ) (ms : List Pair) → AreMembers limit ms → AreMembers limit (sorted_members ms)
sorted-AreMembers limit ms are = record {
  named = AllByRecursion-sorted (λ m. IsUtf8 m.0) ms are.named;
  valued = AllByRecursion-sorted (λ m. IsCompact limit m.1) ms are.valued;
  distinct = distinct_moved ms (sorted_members ms) (IsPermutation-sorted ms) are.distinct;
}

pub AreMembers-deeper : (limit more : ℕ) (ms : List Pair) → limit ≤ more → AreMembers limit ms → AreMembers more ms
AreMembers-deeper limit more ms h are = record {
  named = are.named;
  valued = AllByRecursion-weaker (λ (m : Pair). IsCompact limit m.1) (λ (m : Pair). IsCompact more m.1) ms
      (λ m is. Value-deeper h is) are.valued;
  distinct = are.distinct;
}

-- what stands behind members of other names
skipped : (name : List ℕ) (ms ns : List Pair) → list_any (bytes_eq name) (names_of ms) ≡ false
    → value_at name (ms ++ ns) ≡ value_at name ns
skipped name [] ns none = refl
skipped name (m ∷ ms) ns none =
    let parts = or_parts (bytes_eq name m.0) (list_any (bytes_eq name) (names_of ms)) none in
    lookup_tail (bytes_eq name) m (ms ++ ns) parts.0 ∙ skipped name ms ns parts.1

others-said : (test : List ℕ → Bool) (hs : List Pair) (rest : List Member) → are_rising (names rest) ≡ true
    → list_any test (names rest) ≡ false
    → ((name : List ℕ) → test name ≡ false → list_any (bytes_eq name) (names_of hs) ≡ false)
    → IsDistinct bytes_eq (names_of (hs ++ pairs rest))
    → AreOthers test (find_in (sorted_members (hs ++ pairs rest))) rest
others-said test hs rest rise free none apart = record {
  rise = rise;
  free = free;
  same = λ name other.
      sym (skipped name hs (pairs rest) (none name other))
      ∙ same_moved (hs ++ pairs rest) (sorted_members (hs ++ pairs rest)) apart
      (IsPermutation-sorted (hs ++ pairs rest)) name;
}

found-sorted : (ms : List Pair) → IsDistinct bytes_eq (names_of ms) → (name value : List ℕ)
    → value_at name ms ≡ Some value → value_at name (sorted_members ms) ≡ Some value
found-sorted ms apart name value is = sym (same_moved ms (sorted_members ms) apart (IsPermutation-sorted ms) name) ∙ is

-- ---- an element's members

null-compact : (limit : ℕ) → IsCompact limit null_word
null-compact limit = literal-compact limit null_word (inr (inl refl))

truth-compact : (limit : ℕ) (truth : Bool) → IsCompact limit (truth_text truth)
truth-compact limit true = literal-compact limit true_word (inr (inr (inl refl)))
truth-compact limit false = literal-compact limit false_word (inr (inr (inr refl)))

whole-compact : (limit n : ℕ) → n ≤ greatest_whole → IsCompact limit (decimal n)
whole-compact limit n small =
    let fits : n < 2 ^ 64 = omega (arith, small) in literal-compact limit (decimal n) (inl (decimal-number n fits))

text-compact : (limit : ℕ) (text : Option (List ℕ)) → IfSome text IsUtf8 → IsCompact limit (text_or_null text)
text-compact limit None is = null-compact limit
text-compact limit (Some text) is = quote-compact limit text is

key-utf8 : (key : Option (List ℕ)) → IfSome key (λ k. is_key k ≡ true) → IfSome key IsUtf8
key-utf8 None is = tt
key-utf8 (Some key) is = IsUtf8-key key is

role-utf8 : (role : Role) → IsUtf8 (role_name role)
role-utf8 roles.Arrow = ascii-utf8 (codes "arrow") refl
role-utf8 roles.Text = ascii-utf8 (codes "text") refl

entry-are : (limit : ℕ) (entry : BoundRef) → IsUtf8 entry.id
    → AreMembers limit ((codes "id", quote entry.id) ∷ (codes "type", quote (role_name entry.role)) ∷ [])
entry-are limit entry is = record {
  named = (ascii-utf8 (codes "id") refl, (ascii-utf8 (codes "type") refl, tt));
  valued = (quote-compact limit entry.id is, (quote-compact limit (role_name entry.role) (role-utf8 entry.role), tt));
  distinct = IsDistinct-from_count nat_list_eq_equiv _ refl;
}

entries-compact : (entries : List BoundRef) → AllByRecursion (λ (entry : BoundRef). IsUtf8 entry.id) entries
    → AllByRecursion (IsCompact 1) (map bound_text entries)
entries-compact [] is = tt
entries-compact (entry ∷ entries) is = (object-compact 0 _ (entry-are 0 entry is.0), entries-compact entries is.1)

deeper-all : (limit more : ℕ) (texts : List (List ℕ)) → limit ≤ more → AllByRecursion (IsCompact limit) texts
    → AllByRecursion (IsCompact more) texts
deeper-all limit more texts h is =
    AllByRecursion-weaker (IsCompact limit) (IsCompact more) texts (λ t v. Value-deeper h v) is

names-named : (members : List Member) → AllByRecursion IsUtf8 (names members)
    → AllByRecursion (λ (m : Pair). IsUtf8 m.0) (pairs members)
names-named [] is = tt
names-named (m ∷ ms) is = (is.0, names-named ms is.1)

values-valued : (limit : ℕ) (members : List Member) → AllNest limit members
    → AllByRecursion (λ (m : Pair). IsCompact limit m.1) (pairs members)
values-valued limit [] is = tt
values-valued limit (m ∷ ms) is = (is.0, values-valued limit ms is.1)

binding-are : (binding : Binding) → IsBinding binding → IsBindingText binding
    → AreMembers 118 ((codes "elementId", quote binding.target) ∷ pairs binding.rest)
binding-are binding is text = record {
  named = (ascii-utf8 (codes "elementId") refl, names-named binding.rest text.rest);
  valued = (quote-compact 118 binding.target text.target, values-valued 118 binding.rest is.nest);
  distinct = subst (λ ns. IsDistinct bytes_eq (codes "elementId" ∷ ns)) (sym (names-pairs binding.rest))
      (IsDistinct-binding binding is);
}

binding-compact : (kind : Kind) (binding : Option Binding) → IfSome binding (λ b. (kind ≡ Arrow) × IsBinding b)
    → IfSome binding IsBindingText → IsCompact 119 (binding_text binding)
binding-compact kind None is text = null-compact 119
binding-compact kind (Some binding) is text =
    object-compact 118 _ (sorted-AreMembers 118 _ (binding-are binding is.1 text))

own-valued : (e : ElementValue) (kind : Kind) → IsElement e → HasValidTexts e
    → AllByRecursion (λ (m : Pair). IsCompact 119 m.1) (own_members e kind)
own-valued e Text is w = (text-compact 119 e.container w.container, tt)
own-valued e Arrow is w = (
  binding-compact e.kind e.start_binding is.start_binding w.start_binding,
  (binding-compact e.kind e.end_binding is.end_binding w.end_binding, tt),
)
own-valued e Image is w = (text-compact 119 e.file w.file, tt)
own-valued e Rectangle is w = tt
own-valued e Diamond is w = tt
own-valued e Ellipse is w = tt
own-valued e Line is w = tt
own-valued e Freedraw is w = tt
own-valued e Frame is w = tt
own-valued e Magicframe is w = tt
own-valued e Iframe is w = tt
own-valued e Embeddable is w = tt
own-valued e (Other name) is w = tt

own-named : (e : ElementValue) (kind : Kind) → AllByRecursion (λ (m : Pair). IsUtf8 m.0) (own_members e kind)
own-named e Text = (ascii-utf8 (codes "containerId") refl, tt)
own-named e Arrow = (ascii-utf8 (codes "startBinding") refl, (ascii-utf8 (codes "endBinding") refl, tt))
own-named e Image = (ascii-utf8 (codes "fileId") refl, tt)
own-named e Rectangle = tt
own-named e Diamond = tt
own-named e Ellipse = tt
own-named e Line = tt
own-named e Freedraw = tt
own-named e Frame = tt
own-named e Magicframe = tt
own-named e Iframe = tt
own-named e Embeddable = tt
own-named e (Other name) = tt

header-valued : (e : ElementValue) → IsElement e → HasValidTexts e
    → AllByRecursion (λ (m : Pair). IsCompact 119 m.1) (header_members e)
header-valued e is w = (
  quote-compact 119 e.id w.id,
  (
    quote-compact 119 (kind_name e.kind) w.kind,
    (
      whole-compact 119 e.version is.version,
      (
        whole-compact 119 e.nonce is.nonce,
        (
          whole-compact 119 e.updated is.updated,
          (
            truth-compact 119 e.deleted,
            (
              text-compact 119 e.index (key-utf8 e.index w.index),
              (
                Value-deeper (lit≤ tt) (array-compact 0 (map quote e.groups) (quotes-compact 0 e.groups w.groups)),
                (
                  text-compact 119 e.frame w.frame,
                  (
                    Value-deeper (lit≤ tt) (array-compact 1 (map bound_text e.bound) (entries-compact e.bound w.bound)),
                    own-valued e e.kind is w,
                  ),
                ),
              ),
            ),
          ),
        ),
      ),
    ),
  ),
)

header-named : (e : ElementValue) → AllByRecursion (λ (m : Pair). IsUtf8 m.0) (header_members e)
header-named e = (
  ascii-utf8 (codes "id") refl,
  (
    ascii-utf8 (codes "type") refl,
    (
      ascii-utf8 (codes "version") refl,
      (
        ascii-utf8 (codes "versionNonce") refl,
        (
          ascii-utf8 (codes "updated") refl,
          (
            ascii-utf8 (codes "isDeleted") refl,
            (
              ascii-utf8 (codes "index") refl,
              (
                ascii-utf8 (codes "groupIds") refl,
                (
                  ascii-utf8 (codes "frameId") refl,
                  (
                    ascii-utf8 (codes "boundElements") refl,
                    own-named e e.kind,
                  ),
                ),
              ),
            ),
          ),
        ),
      ),
    ),
  ),
)

all-are : (e : ElementValue) → IsElement e → HasValidTexts e → AreMembers 119 (header_members e ++ pairs e.rest)
all-are e is w = record {
  named = AllByRecursion-append (λ (m : Pair). IsUtf8 m.0) (header_members e) (pairs e.rest) (header-named e)
      (names-named e.rest w.rest);
  valued =
      AllByRecursion-append (λ (m : Pair). IsCompact 119 m.1) (header_members e) (pairs e.rest) (header-valued e is w)
      (values-valued 119 e.rest is.nest);
  distinct = IsDistinct-element e is;
}

pub element-are : (e : ElementValue) → IsElement e → HasValidTexts e → AreMembers 119 (element_members e)
unfolding element_members
element-are e is w = sorted-AreMembers 119 (header_members e ++ pairs e.rest) (all-are e is w)

-- ---- what they say
text-said : (text : Option (List ℕ)) (found : Option (List ℕ)) → IfSome text IsUtf8 → found ≡ Some (text_or_null text)
    → IsTextOrNull found text
text-said None found is e = inr e
text-said (Some text) found is e = (is, e)

key-said : (key : Option (List ℕ)) (found : Option (List ℕ)) → IfSome key (λ k. is_key k ≡ true)
    → found ≡ Some (text_or_null key) → IsKeyOrNull found key
key-said None found is e = inl (inr e)
key-said (Some key) found is e = ((IsUtf8-key key is, e), is)

entries-said : (entries : List BoundRef) → AllByRecursion (λ (entry : BoundRef). IsUtf8 entry.id) entries
    → AreListingEntries (map bound_text entries) entries
entries-said [] is = refl
entries-said (entry ∷ entries) is = inl (
  entry,
  entries,
  refl,
  record {
    members = (codes "id", quote entry.id) ∷ (codes "type", quote (role_name entry.role)) ∷ [];
    object = record { are_members = entry-are 127 entry is.0; spelled = refl };
    id = (is.0, refl);
    role = (role-utf8 entry.role, refl);
  },
  entries-said entries is.1,
)

binding-said : (kind : Kind) (binding : Option Binding) (found : Option (List ℕ))
    → IfSome binding (λ b. (kind ≡ Arrow) × IsBinding b) → IfSome binding IsBindingText
    → found ≡ Some (binding_text binding) → IsBindingOrNull found binding
binding-said kind None found is text e = inl (inr e)
binding-said kind (Some binding) found is text e =
    let ms : List Pair = (codes "elementId", quote binding.target) ∷ pairs binding.rest in
    let are = binding-are binding is.1 text in record {
      value = binding_text (Some binding);
      members = sorted_members ms;
      found_is = e;
      object = record {
        are_members = AreMembers-deeper 118 127 (sorted_members ms) (lit≤ tt)
            (sorted-AreMembers 118 ms are);
        spelled = refl;
      };
      target = (text.target, found-sorted ms are.distinct (codes "elementId") (quote binding.target) refl);
      rest = others-said (bytes_eq (codes "elementId")) ((codes "elementId", quote binding.target) ∷ []) binding.rest
          is.1.rise is.1.free
          (λ name other. or_from _ _ (nat_list_eq_equiv.symm name (codes "elementId") ∙ other) refl) are.distinct;
    }

own-said : {A : Type 0} (own : Bool) (IsForm : Option (List ℕ) → Option A
    → Type 0) (found : Option (List ℕ)) (part : Option A)
    → (own ≡ true → IsForm found part) → (own ≡ false → part ≡ None) → IsOwn own IsForm found part
own-said true IsForm found part held apart = held refl
own-said false IsForm found part held apart = apart refl

none-unless : {A : Type 0} (part : Option A) (P : A → Type 0) → IfSome part P → ((x : A) → P x → ⊥) → part ≡ None
none-unless None P is apart = refl
none-unless (Some x) P is apart = absurd (apart x is)

-- the kind of a name that it is told by
pub named-is : (name : List ℕ) (kind known : Kind) → IsKind kind → IsKind known → kind_name known ≡ name
    → is_named name kind ≡ true → kind ≡ known
named-is name kind known is are e h =
    kind_of_name-once kind known is are (sym (bytes_eq-true name (kind_name kind) h) ∙ sym e)

unnamed-not : (name : List ℕ) (kind known : Kind) → is_named name known ≡ true → is_named name kind ≡ false
    → kind ≡ known → ⊥
unnamed-not name kind known held apart e = both_ways (is_named name kind) apart (ap (is_named name) e ∙ held)

pub element-found : (e : ElementValue) → IsElement e → (name value : List ℕ)
    → value_at name (header_members e ++ pairs e.rest) ≡ Some value → value_at name (element_members e) ≡ Some value
unfolding element_members
element-found e is = found-sorted (header_members e ++ pairs e.rest) (IsDistinct-element e is)

pub element-says : (e : ElementValue) → IsElement e → HasValidTexts e → Says (find_in (element_members e)) e
unfolding element_members
element-says e is w = record {
  id = ((w.id, at (codes "id") (quote e.id) refl), is.named);
  kind = ((w.kind, at (codes "type") (quote (kind_name e.kind)) refl), is.kind);
  version = (is.version, at (codes "version") (decimal e.version) refl);
  nonce = (is.nonce, at (codes "versionNonce") (decimal e.nonce) refl);
  updated = (is.updated, at (codes "updated") (decimal e.updated) refl);
  index = key-said e.index _ w.index (at (codes "index") (text_or_null e.index) refl);
  deleted = at (codes "isDeleted") (truth_text e.deleted) refl;
  groups = (w.groups, at (codes "groupIds") (array_text (map quote e.groups)) refl);
  frame = text-said e.frame _ w.frame (at (codes "frameId") (text_or_null e.frame) refl);
  bound = (
    map bound_text e.bound,
    deeper-all 1 127 _ (lit≤ tt) (entries-compact e.bound w.bound),
    at (codes "boundElements") (array_text (map bound_text e.bound)) refl,
    entries-said e.bound w.bound,
  );
  container = own-said (is_named (codes "text") e.kind) IsTextOrNull _ e.container
      (λ held. text-said e.container _ w.container (at (codes "containerId") (text_or_null e.container)
      (subst (λ k. value_at (codes "containerId") (own_members e k ++ pairs e.rest) ≡ Some (text_or_null e.container))
      (sym (named-is (codes "text") e.kind Text is.kind tt refl held)) refl)))
      (λ apart. none-unless e.container _ is.container (λ _ k. unnamed-not (codes "text") e.kind Text refl apart k));
  start_binding = own-said (is_named (codes "arrow") e.kind) IsBindingOrNull _ e.start_binding
      (λ held. binding-said e.kind e.start_binding _ is.start_binding w.start_binding
      (at (codes "startBinding") (binding_text e.start_binding)
      (subst (λ k. value_at (codes "startBinding") (own_members e k ++ pairs e.rest)
      ≡ Some (binding_text e.start_binding)) (sym (named-is (codes "arrow") e.kind Arrow is.kind tt refl held))
      refl)))
      (λ apart. none-unless e.start_binding _ is.start_binding
      (λ _ k. unnamed-not (codes "arrow") e.kind Arrow refl apart k.0));
  end_binding = own-said (is_named (codes "arrow") e.kind) IsBindingOrNull _ e.end_binding
      (λ held. binding-said e.kind e.end_binding _ is.end_binding w.end_binding
      (at (codes "endBinding") (binding_text e.end_binding)
      (subst (λ k. value_at (codes "endBinding") (own_members e k ++ pairs e.rest) ≡ Some (binding_text e.end_binding))
      (sym (named-is (codes "arrow") e.kind Arrow is.kind tt refl held)) refl)))
      (λ apart. none-unless e.end_binding _ is.end_binding
      (λ _ k. unnamed-not (codes "arrow") e.kind Arrow refl apart k.0));
  file = own-said (is_named (codes "image") e.kind) IsTextOrNull _ e.file
      (λ held. text-said e.file _ w.file (at (codes "fileId") (text_or_null e.file)
      (subst (λ k. value_at (codes "fileId") (own_members e k ++ pairs e.rest) ≡ Some (text_or_null e.file))
      (sym (named-is (codes "image") e.kind Image is.kind tt refl held)) refl)))
      (λ apart. none-unless e.file _ is.file (λ _ k. unnamed-not (codes "image") e.kind Image refl apart k));
  rest = others-said (is_header e.kind) (header_members e) e.rest is.rise is.free
      (λ name other. ap (list_any (bytes_eq name)) (names_of-header e)
      ∙ (list_any-append (bytes_eq name) header_names (own_names e.kind) ∙ other)) (IsDistinct-element e is);
}
  where
    at : (name value : List ℕ) → value_at name (header_members e ++ pairs e.rest) ≡ Some value
        → value_at name (sorted_members (header_members e ++ pairs e.rest)) ≡ Some value
    at = found-sorted (header_members e ++ pairs e.rest) (IsDistinct-element e is)

-- two elements with one text are the same
pub text-of-one : (a b : ElementValue) → IsElement a → HasValidTexts a → IsElement b → HasValidTexts b
    → element_text a ≡ element_text b → a ≡ b
text-of-one a b one first two second e =
    let deeper = λ (x : ElementValue) (is : IsElement x) (w : HasValidTexts x). AreMembers-deeper 119 127
    (element_members x) (lit≤ tt) (element-are x is w) in
    let same = object-once (element_members a) (element_members b) (deeper a one first) (deeper b two second) e in
    Says-once (find_in (element_members a)) a b (element-says a one first)
    (subst (λ ms. Says (find_in ms) b) (sym same) (element-says b two second))
