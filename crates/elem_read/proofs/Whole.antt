-- The element that a value says is whole: its text says it.
use Rattle.std.proofs.Common.{◌≡◌, ◌≢◌, ◌≤◌, ◌<◌, ◌^◌, ℕ, List, [], ◌∷◌, ◌++◌, Bool, true, false, ◌||◌, cond, Option, Some, None, map, refl, sym, ap, subst, ◌∙◌, inl, inr, bytes_eq, codes, decimal, IsUtf8, lit≤, lit<, eqb, arith}
use Rattle.std.specs.Prelude.{nat_lt}
use Rattle.std.specs.Cmp.Lexicographic.{nat_list_eq_equiv}
use Rattle.std.specs.List.{AllByRecursion, list_all, list_any}
use Rattle.std.proofs.lemmas.Map.Made.{IsDistinct-from_count}
use Rattle.std.proofs.lemmas.Bool.{or_parts, or_from, both_ways, cases_Bool, cond-true, cond-false, false≢true, and_parts}
use Rattle.std.proofs.lemmas.Option.{none-some}
use Rattle.json_text.specs.Characters.{quote}
use Rattle.json_text.specs.Compact.{Member as Pair, array_text}
use Rattle.json_text.specs.Members.{pairs}
use Rattle.json_text.specs.Parts.{AreMembers}
use Rattle.json_text.specs.Tree.{null_word}
use Rattle.json_text.specs.Value.{IsCompact}
use Rattle.scene_json.specs.Named.{value_at, HaveRisingNames}
use Rattle.scene_json.specs.TheOne.{IsTheOne}
use Rattle.json_text.proofs.CallerLemmas.{bytes_eq-true, bytes_eq-same, Value-deeper, quote-compact, array-compact, object-compact, array-starts, heads-differ, ascii-utf8}
use Rattle.scene_json.proofs.CallerLemmas.{digit_of_decimal}
use Rattle.restore_table.specs.Restored.{filled, arrow_text, listing_text, listing_at, listing_name, old_name, HasOldListing, AreRestored, LackNothing}
use Rattle.restore_table.specs.Table.{defaults}
use Rattle.restore_table.proofs.CallerLemmas.{restored-lack, defaults-compact}
use Rattle.elem.specs.declared.kind.Kind.{Kind}
use Rattle.elem.specs.declared.kind.Kind.TheVariants.{Rectangle, Diamond, Ellipse, Arrow, Line, Freedraw, Text, Image, Frame, Magicframe, Iframe, Embeddable, Other}
use Rattle.elem.specs.ElementValue.{ElementValue}
use Rattle.elem.specs.Facts.{greatest_whole, header_names, own_names, known_names, is_header, IsKind, IsElement}
use Rattle.elem.specs.Forms.{find_in, AreOthers}
use Rattle.elem.specs.Said.{Says, HasValidTexts}
use Rattle.elem.specs.Texts.{kind_name, truth_text, text_or_null, header_members, element_members}
use Rattle.elem.proofs.CallerLemmas.{IsDistinct-element, text-once, rising-names, AreMembers-deeper, element-are, element-says, element-found, IsRising-sorted}
use Rattle.elem_read.specs.Reading.{IsElementIn, IsWholeElement}
use Rattle.elem_read.proofs.Keeping.{AllFound, found-has, object-nests, says-element, says-written}

-- ---- restored members
abbrev IsNamed : List ℕ → List ℕ → Type 0
IsNamed name value = IsUtf8 name

abbrev Nests : List ℕ → List ℕ → Type 0
Nests name value = IsCompact 119 value

ascii-named : (ms : List Pair) → list_all (λ (m : Pair). list_all (λ b. nat_lt b 128) m.0) ms ≡ true
    → AllByRecursion (λ (m : Pair). IsUtf8 m.0) ms
ascii-named [] all = tt
ascii-named (m ∷ ms) all =
    let parts = and_parts (list_all (λ b. nat_lt b 128) m.0)
    (list_all (λ (n : Pair). list_all (λ b. nat_lt b 128) n.0) ms) all in
    (ascii-utf8 m.0 parts.0, ascii-named ms parts.1)

-- what holds of what is filled in
filled-holds : (P : List ℕ → List ℕ → Type 0) (name value : List ℕ) (row given : Option (List ℕ))
    → ((d : List ℕ) → row ≡ Some d → P name d) → ((v : List ℕ) → given ≡ Some v → P name v)
    → filled row given ≡ Some value → P name value
filled-holds P name value None given default own e = own value e
filled-holds P name value (Some d) None default own e = let is : d ≡ value = cc in subst (P name) is (default d refl)
filled-holds P name value (Some d) (Some v) default own e =
    elim (bytes_eq v null_word) as (λ b. cond b (Some d) (Some v) ≡ Some value → P name value) [
      | true ↦ λ same. let is : d ≡ value = cc in subst (P name) is (default d refl)
      | false ↦ λ same. let is : v ≡ value = cc in subst (P name) is (own v refl)
    ] e

listing-holds : (P : List ℕ → List ℕ → Type 0) (ms : List Pair) (value : List ℕ) (ids : Option (List (List ℕ)))
    → IsTheOne (HasOldListing ms) ids
    → ((ids : List (List ℕ)) → AllByRecursion IsUtf8 ids → P listing_name (listing_text ids))
    → ((d : List ℕ) → value_at listing_name defaults ≡ Some d → P listing_name d)
    → ((v : List ℕ) → value_at listing_name ms ≡ Some v → P listing_name v) → listing_at ids ms ≡ Some value
    → P listing_name value
listing-holds P ms value (Some ids) old listing default own e =
    let is : listing_text ids ≡ value = cc in subst (P listing_name) is (listing ids old.0.texts)
listing-holds P ms value None old listing default own e =
    filled-holds P listing_name value (value_at listing_name defaults) (value_at listing_name ms) default own e

restored-hold : (P : List ℕ → List ℕ → Type 0) (ms rs : List Pair) → AreRestored ms rs → AllFound P (find_in ms)
    → AllByRecursion (λ (m : Pair). P m.0 m.1) defaults
    → ((ids : List (List ℕ)) → AllByRecursion IsUtf8 ids → P listing_name (listing_text ids)) → AllFound P (find_in rs)
restored-hold P ms rs are given default listing name value e =
    elim (cases_Bool (bytes_eq name old_name)) [
      | inl same ↦ absurd (none-some value (sym are.gone
          ∙ (ap (λ n. value_at n rs) (sym (bytes_eq-true name old_name same)) ∙ e)))
      | inr other ↦ elim (cases_Bool (bytes_eq name listing_name)) [
        | inl same ↦
            let own = bytes_eq-true name listing_name same in
            let there : listing_at are.ids ms ≡ Some value =
            sym are.listing ∙ (ap (λ n. value_at n rs) (sym own) ∙ e) in
            subst (λ n. P n value) (sym own) (listing-holds P ms value are.ids are.old listing
            (λ d is. found-has P defaults default listing_name d is) (given listing_name) there)
        | inr differs ↦
            filled-holds P name value (value_at name defaults) (value_at name ms)
            (λ d is. found-has P defaults default name d is) (given name)
            (sym (are.others name (apart name old_name other) (apart name listing_name differs)) ∙ e)
      ]
    ]
  where
    apart : (a b : List ℕ) → bytes_eq a b ≡ false → a ≢ b
    apart a b h same = both_ways (bytes_eq a b) h (ap (λ x. bytes_eq x b) same ∙ bytes_eq-same b)

arrow-compact : (id : List ℕ) → IsUtf8 id → IsCompact 1 (arrow_text id)
arrow-compact id is = object-compact 0 _ (record {
  named = (ascii-utf8 (codes "id") refl, (ascii-utf8 (codes "type") refl, tt));
  valued = (quote-compact 0 id is, (quote-compact 0 (codes "arrow") (ascii-utf8 (codes "arrow") refl), tt));
  distinct = IsDistinct-from_count nat_list_eq_equiv _ refl;
})

arrows-compact : (ids : List (List ℕ)) → AllByRecursion IsUtf8 ids → AllByRecursion (IsCompact 1) (map arrow_text ids)
arrows-compact [] is = tt
arrows-compact (id ∷ ids) is = (arrow-compact id is.0, arrows-compact ids is.1)

pub restored-nest : (ms rs : List Pair) → AreMembers 119 ms → AreRestored ms rs
    → AllFound (λ name value. IsCompact 119 value) (find_in rs)
restored-nest ms rs are restored =
    restored-hold Nests ms rs restored (found-has Nests ms are.valued) (deeper defaults defaults-compact)
    (λ ids is. Value-deeper (lit≤ tt) (array-compact 1 (map arrow_text ids) (arrows-compact ids is)))
  where
    deeper : (rows : List Pair) → AllByRecursion (λ (row : Pair). IsCompact 1 row.1) rows
        → AllByRecursion (λ (row : Pair). IsCompact 119 row.1) rows
    deeper [] is = tt
    deeper (row ∷ rows) is = (Value-deeper (lit≤ tt) is.0, deeper rows is.1)

pub restored-named : (limit : ℕ) (ms rs : List Pair) → AreMembers limit ms → AreRestored ms rs
    → AllFound (λ name value. IsUtf8 name) (find_in rs)
restored-named limit ms rs are restored =
    restored-hold IsNamed ms rs restored (found-has IsNamed ms are.named) (ascii-named defaults refl)
    (λ ids is. ascii-utf8 listing_name refl)

-- ---- members that lack nothing are restored
pub full-stays : (default : List ℕ) (found : Option (List ℕ)) → (value : List ℕ) × (found ≡ Some value)
    × (value ≡ null_word → default ≡ null_word) → filled (Some default) found ≡ found
full-stays default found (value, is, full) =
    ap (filled (Some default)) is
    ∙ (elim (cases_Bool (bytes_eq value null_word)) as (λ _. cond (bytes_eq value null_word) (Some default) (Some value)
    ≡ Some value) [
      | inl same ↦
          let null = bytes_eq-true value null_word same in
          cond-true (bytes_eq value null_word) (Some default) (Some value) same ∙ ap Some (full null ∙ sym null)
      | inr other ↦ cond-false (bytes_eq value null_word) (Some default) (Some value) other
    ] ∙ sym is)

lack-stays : (ms : List Pair) (name : List ℕ) (row : Option (List ℕ)) → LackNothing ms → value_at name defaults ≡ row
    → value_at name ms ≡ filled row (value_at name ms)
lack-stays ms name None lack e = refl
lack-stays ms name (Some default) lack e = sym (full-stays default (value_at name ms) (lack.each_filled name default e))

pub restored-itself : (ms : List Pair) → HaveRisingNames ms → LackNothing ms → AreRestored ms ms
restored-itself ms rise lack = record {
  rise = rise;
  ids = None;
  old = λ ids has. none-some (array_text (map quote ids)) (sym lack.gone ∙ has.named);
  gone = lack.gone;
  listing = lack-stays ms listing_name (value_at listing_name defaults) lack refl;
  others = λ name not_old not_listing. lack-stays ms name (value_at name defaults) lack refl;
}

-- ---- the members of an element lack nothing
abbrev all_own : List (List ℕ)
all_own = codes "containerId" ∷ codes "startBinding" ∷ codes "endBinding" ∷ codes "fileId" ∷ []

own-apart : (name : List ℕ) → list_any (bytes_eq name) all_own ≡ false
    → (bytes_eq name (codes "containerId") ≡ false) × (bytes_eq name (codes "startBinding") ≡ false)
    × (bytes_eq name (codes "endBinding") ≡ false) × (bytes_eq name (codes "fileId") ≡ false)
own-apart name none =
    let first = or_parts (bytes_eq name (codes "containerId"))
    (list_any (bytes_eq name) (codes "startBinding" ∷ codes "endBinding" ∷ codes "fileId" ∷ [])) none in
    let second = or_parts (bytes_eq name (codes "startBinding"))
    (list_any (bytes_eq name) (codes "endBinding" ∷ codes "fileId" ∷ [])) first.1 in
    let third =
    or_parts (bytes_eq name (codes "endBinding")) (list_any (bytes_eq name) (codes "fileId" ∷ [])) second.1 in
    let fourth = or_parts (bytes_eq name (codes "fileId")) false third.1 in
    (first.0, second.0, third.0, fourth.0)

own-few : (kind : Kind) (name : List ℕ) → list_any (bytes_eq name) all_own ≡ false
    → list_any (bytes_eq name) (own_names kind) ≡ false
own-few Text name none =
    let parts = own-apart name none in or_from (bytes_eq name (codes "containerId")) false parts.0 refl
own-few Arrow name none =
    let parts = own-apart name none in
    or_from (bytes_eq name (codes "startBinding")) (bytes_eq name (codes "endBinding") || false) parts.1
    (or_from (bytes_eq name (codes "endBinding")) false parts.2 refl)
own-few Image name none = let parts = own-apart name none in or_from (bytes_eq name (codes "fileId")) false parts.3 refl
own-few Rectangle name none = refl
own-few Diamond name none = refl
own-few Ellipse name none = refl
own-few Line name none = refl
own-few Freedraw name none = refl
own-few Frame name none = refl
own-few Magicframe name none = refl
own-few Iframe name none = refl
own-few Embeddable name none = refl
own-few (Other other) name none = refl

no-header : (kind : Kind) (name : List ℕ) → list_any (bytes_eq name) header_names ≡ false
    → list_any (bytes_eq name) all_own ≡ false → is_header kind name ≡ false
no-header kind name header own = or_from _ _ header (own-few kind name own)

-- a value that is null only where the default is
abbrev IsFull : List Pair → Pair → Type 0
IsFull ms row = (value : List ℕ) × (value_at row.0 ms ≡ Some value) × (value ≡ null_word → row.1 ≡ null_word)

no-null : (first : ℕ) (more value : List ℕ) (default : List ℕ) → eqb first 110 ≡ false → value ≡ first ∷ more
    → value ≡ null_word → default ≡ null_word
no-null first more value default other is null = absurd (heads-differ first 110 _ _ other (sym is ∙ null))

number-no-null : (n : ℕ) (default : List ℕ) → n ≤ greatest_whole → decimal n ≡ null_word → default ≡ null_word
number-no-null n default small e =
    let fits : n < 2 ^ 64 = omega (arith, small) in
    let range = digit_of_decimal null_word n 0 fits (sym e) (lit< tt) in
    absurd (omega (arith, range.0, range.1))

truth-no-null : (truth : Bool) (default : List ℕ) → truth_text truth ≡ null_word → default ≡ null_word
truth-no-null true default e = absurd (heads-differ 116 110 _ _ refl e)
truth-no-null false default e = absurd (heads-differ 102 110 _ _ refl e)

module _ (e : ElementValue) (rs : List Pair) (is : IsElement e) (w : HasValidTexts e)
    (rest : AreOthers (is_header e.kind) (find_in rs) e.rest) (lack : LackNothing rs) where
  own-says : Says (find_in (element_members e)) e
  own-says = element-says e is w

  -- what isn't in the header is found as it was
  same-beside : (name : List ℕ) → list_any (bytes_eq name) header_names ≡ false
      → list_any (bytes_eq name) all_own ≡ false → value_at name (element_members e) ≡ value_at name rs
  same-beside name header own =
      let other = no-header e.kind name header own in
      sym (own-says.rest.same name other) ∙ rest.same name other

  beside : (name default : List ℕ) → list_any (bytes_eq name) header_names ≡ false
      → list_any (bytes_eq name) all_own ≡ false → value_at name defaults ≡ Some default
      → IsFull (element_members e) (name, default)
  beside name default header own row =
      let there = lack.each_filled name default row in
      (there.0, same-beside name header own ∙ there.1, there.2)

  all-full : AllByRecursion (IsFull (element_members e)) defaults
  all-full = (
    beside (codes "angle") (codes "0") refl refl refl,
    (
      beside (codes "backgroundColor") (codes "\"transparent\"") refl refl refl,
      (
        (
          array_text own-says.bound.0,
          own-says.bound.2,
          (let starts = array-starts own-says.bound.0 in no-null 91 starts.0 _ _ refl starts.1),
        ),
        (
          beside (codes "fillStyle") (codes "\"solid\"") refl refl refl,
          (
            (text_or_null e.frame, found-frame, λ _. refl),
            (
              (
                array_text (map quote e.groups),
                own-says.groups.1,
                (let starts = array-starts (map quote e.groups) in no-null 91 starts.0 _ _ refl starts.1),
              ),
              (
                beside (codes "height") (codes "0") refl refl refl,
                (
                  (text_or_null e.index, found-index, λ _. refl),
                  (
                    (truth_text e.deleted, own-says.deleted, truth-no-null e.deleted _),
                    (
                      beside (codes "link") (codes "null") refl refl refl,
                      (
                        beside (codes "locked") (codes "false") refl refl refl,
                        (
                          beside (codes "opacity") (codes "100") refl refl refl,
                          (
                            beside (codes "roughness") (codes "1") refl refl refl,
                            (
                              beside (codes "roundness") (codes "null") refl refl refl,
                              (
                                beside (codes "seed") (codes "1") refl refl refl,
                                (
                                  beside (codes "strokeColor") (codes "\"#1e1e1e\"") refl refl refl,
                                  (
                                    beside (codes "strokeStyle") (codes "\"solid\"") refl refl refl,
                                    (
                                      beside (codes "strokeWidth") (codes "2") refl refl refl,
                                      (
                                        (decimal e.updated, own-says.updated.1, number-no-null e.updated _ is.updated),
                                        (
                                          (
                                            decimal e.version,
                                            own-says.version.1,
                                            number-no-null e.version _ is.version,
                                          ),
                                          (
                                            (decimal e.nonce, own-says.nonce.1, number-no-null e.nonce _ is.nonce),
                                            (
                                              beside (codes "width") (codes "0") refl refl refl,
                                              (
                                                beside (codes "x") (codes "0") refl refl refl,
                                                (
                                                  beside (codes "y") (codes "0") refl refl refl,
                                                  tt,
                                                ),
                                              ),
                                            ),
                                          ),
                                        ),
                                      ),
                                    ),
                                  ),
                                ),
                              ),
                            ),
                          ),
                        ),
                      ),
                    ),
                  ),
                ),
              ),
            ),
          ),
        ),
      ),
    ),
  )
    where
      found-frame : value_at (codes "frameId") (element_members e) ≡ Some (text_or_null e.frame)
      found-frame = element-found e is (codes "frameId") (text_or_null e.frame) refl

      found-index : value_at (codes "index") (element_members e) ≡ Some (text_or_null e.index)
      found-index = element-found e is (codes "index") (text_or_null e.index) refl

  lacks-nothing : LackNothing (element_members e)
  lacks-nothing = record {
    gone = same-beside old_name refl refl ∙ lack.gone;
    each_filled = λ name default row. row-full name default row;
  }
    where
      row-full : (name default : List ℕ) → value_at name defaults ≡ Some default → (value : List ℕ)
          × (value_at name (element_members e) ≡ Some value) × (value ≡ null_word → default ≡ null_word)
      row-full name default row =
          found-has (λ n d. IsFull (element_members e) (n, d)) defaults all-full name default row

element-rise : (e : ElementValue) → IsElement e → HaveRisingNames (element_members e)
unfolding element_members
element-rise e is =
    rising-names (element_members e) (IsRising-sorted (header_members e ++ pairs e.rest) (IsDistinct-element e is))

-- no element is a selection
apart-names : (name : List ℕ) → bytes_eq name (codes "selection") ≡ false → name ≡ codes "selection" → ⊥
apart-names name other e = both_ways (bytes_eq name (codes "selection")) other
    (ap (λ n. bytes_eq n (codes "selection")) e ∙ bytes_eq-same (codes "selection"))

no-selection : (kind : Kind) → IsKind kind → kind_name kind ≡ codes "selection" → ⊥
no-selection Rectangle is e = apart-names (codes "rectangle") refl e
no-selection Diamond is e = apart-names (codes "diamond") refl e
no-selection Ellipse is e = apart-names (codes "ellipse") refl e
no-selection Arrow is e = apart-names (codes "arrow") refl e
no-selection Line is e = apart-names (codes "line") refl e
no-selection Freedraw is e = apart-names (codes "freedraw") refl e
no-selection Text is e = apart-names (codes "text") refl e
no-selection Image is e = apart-names (codes "image") refl e
no-selection Frame is e = apart-names (codes "frame") refl e
no-selection Magicframe is e = apart-names (codes "magicframe") refl e
no-selection Iframe is e = apart-names (codes "iframe") refl e
no-selection Embeddable is e = apart-names (codes "embeddable") refl e
no-selection (Other name) is e = false≢true (sym is ∙ ap (λ n. list_any (bytes_eq n) known_names) e)

-- An element that a value says has the facts of elements, and its further members are those of members that lack
-- nothing.
pub record IsSound (e : ElementValue) : Type 0 where
  pub restored : List Pair
  pub is_element : IsElement e
  pub written : HasValidTexts e
  pub rest : AreOthers (is_header e.kind) (find_in restored) e.rest
  pub lack : LackNothing restored

pub IsSound-read : (value : List ℕ) (e : ElementValue) → IsElementIn value e → IsSound e
IsSound-read value e in_ =
    let given : AreMembers 119 in_.members =
    object-nests 120 value in_.members (lit≤ tt) (lit≤ tt) in_.shallow in_.no_selection.object in
    record {
      restored = in_.restored;
      is_element =
          says-element (find_in in_.restored) e (restored-nest in_.members in_.restored given in_.restores) in_.says;
      written = says-written (find_in in_.restored) e (restored-named 119 in_.members in_.restored given in_.restores)
          in_.says;
      rest = in_.says.rest;
      lack = restored-lack in_.members in_.restored in_.restores;
    }

-- and each such element is whole
pub IsSound-whole : (e : ElementValue) → IsSound e → IsWholeElement e
IsSound-whole e sound =
    let are = element-are e sound.is_element sound.written in
    let says = element-says e sound.is_element sound.written in
    record {
      members = element_members e;
      restored = element_members e;
      no_selection = record {
        object = record { are_members = AreMembers-deeper 119 127 (element_members e) (lit≤ tt) are; spelled = refl };
        kind = λ selection. no-selection e.kind sound.is_element.kind
            (text-once _ (kind_name e.kind) (codes "selection") says.kind.0 (
              ascii-utf8 (codes "selection") refl,
              selection,
            ));
      };
      shallow = object-compact 119 (element_members e) are;
      restores = restored-itself (element_members e) (element-rise e sound.is_element)
          (lacks-nothing e sound.restored sound.is_element sound.written sound.rest sound.lack);
      says = says;
    }

pub whole : (value : List ℕ) (e : ElementValue) → IsElementIn value e → IsWholeElement e
whole value e in_ = IsSound-whole e (IsSound-read value e in_)
