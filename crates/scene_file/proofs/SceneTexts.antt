-- The text of a scene by its parts, that it is compact, and that it is written in one way.
use Rattle.std.proofs.Common.{◌≡◌, ◌≤◌, ℕ, IsUtf8, List, [], ◌∷◌, ◌++◌, codes, length, take, map, All, bytes_eq, refl, sym, ap, ◌∙◌, append_assoc, append-nil, take_all, arith}
use Rattle.std.specs.Cmp.Lexicographic.{nat_list_eq_equiv}
use Rattle.std.specs.Fmt.{digits}
use Rattle.std.specs.List.{join_with_byte, IsDistinct}
use Rattle.std.proofs.lemmas.List.Elements.{All-map, All-same, recursion_from_All}
use Rattle.std.proofs.lemmas.Map.Made.{IsDistinct-from_count}
use Rattle.json_text.specs.Characters.{quote}
use Rattle.json_text.specs.Compact.{Member as Pair, member_text, array_text, object_text}
use Rattle.json_text.specs.Members.{pairs, pair_of}
use Rattle.json_text.specs.Parts.{names_of, AreMembers}
use Rattle.json_text.specs.Tree.{Tree, IsGood, spelling}
use Rattle.json_text.specs.Value.{IsCompact}
use Rattle.json_text.specs.declared.text.Member.{Member}
use Rattle.scene_json.specs.Layout.{laid_out}
use Rattle.json_text.proofs.CallerLemmas.{quote-compact, decimal_nests, array-compact, object-compact, Value-deeper, tree-once, ascii-utf8}
use Rattle.elem.specs.ElementValue.{ElementValue}
use Rattle.elem.specs.Texts.{element_text, text_or_null}
use Rattle.file_table.specs.References.{referred_files}
use Rattle.file_table.specs.Table.{EntriesNest}
use Rattle.scene_file.specs.declared.layout.Layout.{Layout}
use Rattle.scene_file.specs.declared.layout.Layout.TheVariants.{Compact, Pretty}
use Rattle.scene_file.specs.Heads.{Heading}
use Rattle.scene_file.specs.Layouts.{IsWrittenIn}
use Rattle.scene_file.specs.inner.Printing.{text_before_elements, text_behind_elements}
use Rattle.scene_file.specs.Scenes.{scene_members, scene_text, state_text}
use Rattle.scene_file.specs.Texts.{IsSceneText}

-- ---- the parts of a text
abbrev start : List ℕ
start = codes "{\"type\":\"excalidraw\",\"version\":2,\"source\":"

abbrev opened : List ℕ
opened = codes ",\"elements\":["

abbrev state : List ℕ
state = codes "\"appState\":"

abbrev table : List ℕ
table = codes "\"files\":"

-- what a source, elements, settings and files of these texts make
whole : (source elements settings files : List ℕ) →
    (start ++ (source ++ opened)) ++ (elements
    ++ (93 ∷ 44 ∷ (state ++ (settings ++ (44 ∷ (table ++ (files ++ 125 ∷ [])))))))
    ≡ start ++ ((source ++ (opened ++ ((elements ++ 93 ∷ []) ++ 44 ∷ (state ++ (settings ++ 44 ∷ (table ++ files))))))
    ++ 125 ∷ [])
whole source elements settings files =
    let third = 44 ∷ (table ++ files) in
    let second = 44 ∷ (state ++ (settings ++ third)) in
    let left = 93 ∷ 44 ∷ (state ++ (settings ++ (third ++ 125 ∷ []))) in
    ap (λ x. start ++ x)
    (append_assoc source opened (elements ++ left)
    ∙ ap (λ x. source ++ (opened ++ x))
    (sym (append_assoc (elements ++ 93 ∷ []) second (125 ∷ []) ∙ append_assoc elements (93 ∷ []) (second ++ 125 ∷ [])
    ∙ ap (λ x. elements ++ (93 ∷ 44 ∷ (state ++ x))) (append_assoc settings third (125 ∷ []))))
    ∙ sym (append_assoc source (opened ++ ((elements ++ 93 ∷ []) ++ second)) (125 ∷ [])))

parts : (head : Heading) (elements : List ElementValue) (files : List Pair) →
    text_before_elements head.source ++ (join_with_byte 44 (map element_text elements)
    ++ text_behind_elements (pairs head.app_state) files) ≡ object_text (scene_members head elements files)
unfolding object_text array_text quote digits
parts head elements files =
    whole (text_or_null head.source) (join_with_byte 44 (map element_text elements))
    (object_text (pairs head.app_state)) (object_text files)

-- the parts that are appended one after the other
pub scene-written : (head : Heading) (elements : List ElementValue) (files : List Pair)
    (before started made done : List ℕ) →
    started ≡ before ++ text_before_elements head.source → made ≡ started
    ++ join_with_byte 44 (map element_text elements) → done ≡ made
    ++ text_behind_elements (pairs head.app_state) files →
    done ≡ before ++ object_text (scene_members head elements files)
scene-written head elements files before started made done first second third =
    let texts = join_with_byte 44 (map element_text elements) in
    let last = text_behind_elements (pairs head.app_state) files in
    third ∙ ap (λ m. m ++ last) (second ∙ ap (λ s. s ++ texts) first)
    ∙ append_assoc (before ++ text_before_elements head.source) texts last
    ∙ append_assoc before (text_before_elements head.source) (texts ++ last)
    ∙ ap (λ x. before ++ x) (parts head elements files)

pub scene-told : (head : Heading) (elements : List ElementValue) (files : List Pair)
    → files ≡ referred_files head.files elements →
    object_text (scene_members head elements files) ≡ scene_text head elements
unfolding scene_text
scene-told head elements files is = ap (λ fs. object_text (scene_members head elements fs)) is

pub state-told : (head : Heading) (elements : List ElementValue) (files : List Pair) → files ≡ head.files
    → object_text (scene_members head elements files) ≡ state_text head elements
unfolding state_text
state-told head elements files is = ap (λ fs. object_text (scene_members head elements fs)) is

-- three and five lists that are appended one after the other
pub three : (old a b c first second third : List ℕ) → first ≡ old ++ a → second ≡ first ++ b → third ≡ second ++ c
    → third ≡ old ++ (a ++ (b ++ c))
three old a b c first second third one two last =
    last ∙ ap (λ x. x ++ c) (two ∙ ap (λ x. x ++ b) one) ∙ append_assoc (old ++ a) b c ∙ append_assoc old a (b ++ c)

pub five : (old a b c d e first second third fourth fifth : List ℕ) → first ≡ old ++ a → second ≡ first ++ b
    → third ≡ second ++ c → fourth ≡ third ++ d → fifth ≡ fourth ++ e →
    fifth ≡ old ++ (a ++ (b ++ (c ++ (d ++ e))))
five old a b c d e first second third fourth fifth one two next more last =
    three old a b (c ++ (d ++ e)) first second fifth one two
    (last ∙ ap (λ x. x ++ e) more ∙ append_assoc third d e ∙ ap (λ x. x ++ (d ++ e)) next
    ∙ append_assoc second c (d ++ e))

-- ---- an object whose members are appended
map-pairs : (ms : List Member) → map (λ (m : Member). member_text (pair_of m)) ms ≡ map member_text (pairs ms)
map-pairs [] = refl
map-pairs (m ∷ ms) = ap (λ ts. member_text (pair_of m) ∷ ts) (map-pairs ms)

pub object-closed : (old begun : List ℕ) (ms : List Member) (i : ℕ) (out done : List ℕ) → length ms ≤ i
    → begun ≡ old ++ 123 ∷ [] →
    out ≡ begun ++ join_with_byte 44 (map (λ (m : Member). member_text (pair_of m)) (take i ms))
    → done ≡ out ++ 125 ∷ [] → done ≡ old ++ object_text (pairs ms)
unfolding object_text
object-closed old begun ms i out done all first before last =
    let text = join_with_byte 44 (map member_text (pairs ms)) in
    last ∙ ap (λ o. o ++ 125 ∷ []) (before
    ∙ ap (λ xs. begun ++ join_with_byte 44 (map (λ (m : Member). member_text (pair_of m)) xs)) (take_all i ms all)
    ∙ ap (λ ts. begun ++ join_with_byte 44 ts) (map-pairs ms) ∙ ap (λ b. b ++ text) first)
    ∙ append_assoc (old ++ 123 ∷ []) text (125 ∷ []) ∙ append_assoc old (123 ∷ []) (text ++ 125 ∷ [])

pub members-compact : (ms : List Member) (i : ℕ) → length ms ≤ i → All (λ (m : Member). IsUtf8 m.name) (take i ms)
    → EntriesNest 126 (pairs ms) →
    IsDistinct bytes_eq (names_of (pairs ms)) → IsCompact 127 (object_text (pairs ms))
members-compact ms i all named nest distinct =
    object-compact 126 (pairs ms) (record {
      named = recursion_from_All (λ (p : Pair). IsUtf8 p.0) (pairs ms)
          (All-map (λ (p : Pair). IsUtf8 p.0) pair_of ms
          (All-same (λ (m : Member). IsUtf8 m.name) ms _ (sym (take_all i ms all)) named));
      valued = nest;
      distinct = distinct;
    })

-- ---- the text is compact

elements-compact : (elements : List ElementValue) → All (λ e. IsCompact 120 (element_text e)) elements
    → IsCompact 121 (array_text (map element_text elements))
elements-compact elements each = array-compact 120 (map element_text elements)
    (recursion_from_All (IsCompact 120) _ (All-map (IsCompact 120) element_text elements each))

pub scene-are : (head : Heading) (elements : List ElementValue) (files : List Pair)
    → IsCompact 0 (text_or_null head.source) → All (λ e. IsCompact 120 (element_text e)) elements →
    IsCompact 127 (object_text (pairs head.app_state)) → IsCompact 127 (object_text files)
    → AreMembers 127 (scene_members head elements files)
scene-are head elements files source each settings table = record {
  named = (
    ascii-utf8 (codes "type") refl,
    (
      ascii-utf8 (codes "version") refl,
      (
        ascii-utf8 (codes "source") refl,
        (
          ascii-utf8 (codes "elements") refl,
          (ascii-utf8 (codes "appState") refl, (ascii-utf8 (codes "files") refl, tt)),
        ),
      ),
    ),
  );
  valued = (
    quote-compact 127 (codes "excalidraw") (ascii-utf8 (codes "excalidraw") refl),
    (
      decimal_nests 127 2 (omega arith),
      (
        Value-deeper (omega arith) source,
        (
          Value-deeper (omega arith) (elements-compact elements each),
          (settings, (table, tt)),
        ),
      ),
    ),
  );
  distinct = IsDistinct-from_count nat_list_eq_equiv _ refl;
}

pub scene-compact : (head : Heading) (elements : List ElementValue) (files : List Pair)
    → IsCompact 0 (text_or_null head.source) → All (λ e. IsCompact 120 (element_text e)) elements →
    IsCompact 127 (object_text (pairs head.app_state)) → IsCompact 127 (object_text files)
    → IsCompact 128 (object_text (scene_members head elements files))
scene-compact head elements files source each settings table =
    object-compact 127 (scene_members head elements files) (scene-are head elements files source each settings table)

-- ---- the text is written in one way
pub trees-once : (t u : Tree) → IsGood t → IsGood u → spelling t ≡ spelling u → t ≡ u
trees-once t u good fine e =
    (tree-once t u [] [] good fine tt tt (append-nil (spelling t) ∙ e ∙ sym (append-nil (spelling u)))).0

written-once : (layout : Layout) (text a b : List ℕ) → IsWrittenIn layout text a → IsWrittenIn layout text b → a ≡ b
written-once Compact text a b one two = one ∙ sym two
written-once Pretty text a b one two =
    one.laid ∙ ap (λ t. spelling (laid_out 0 t)) (trees-once one.tree two.tree one.good two.good (one.spells
    ∙ sym two.spells)) ∙ sym two.laid

pub text-once : (layout : Layout) (head : Heading) (elements : List ElementValue) (a b : List ℕ)
    → IsSceneText layout head elements a → IsSceneText layout head elements b → a ≡ b
text-once layout head elements a b = written-once layout (scene_text head elements) a b
