-- A writer that is ready for the rest behind a value, whose compact text it has written, was ready for the value.
use Rattle.std.proofs.Common.{get_or, true≢false, ◌≡◌, ne_eqb, ℕ, ◌+◌, ◌-◌, List, [], ◌∷◌, ◌++◌, Bool, true, false, eqb, map, flat_map, refl, sym, ap, subst, ◌∙◌, arith, inl, inr, append_assoc, append-nil, encode_utf8, drop, filter, bytes_eq, IsUtf8}
use Rattle.std.specs.List.{list_all, AllByRecursion, join_with_byte}
use Rattle.std.proofs.lemmas.Bool.{false≢true}
use Rattle.std.proofs.lemmas.Bool.Decides.{nat_tests}
use Rattle.std.proofs.lemmas.Grind.{flat_map-append}
use Rattle.std.proofs.Math.Nat.{add-sub_cancel}
use Rattle.std.proofs.lemmas.Simd.{map-map}
use Rattle.json_text.specs.Value.{extends_number}
use Rattle.json_text.specs.Characters.{is_space, is_blank, is_plain, quote, quoted_byte}
use Rattle.json_text.specs.Compact.{Member, content, compact, members, collapsed, label_name, member_text, array_text, object_text, has_other_name, last_value}
use Rattle.json_text.specs.Walk.{inside, Quoted}
use Rattle.json_text.specs.Tree.{Piece, bare, letter, unit, IsPiece, piece_spelling, string_spelling, array, object, Label, unnamed, named, IsLabel, label_spelling, Tree, scalar, text, empty, filled, Values, last, next, spelling, values_spelling, IsGood, AreGood}
use Rattle.json_reader.specs.inner.Drafts.{Drafted, fresh, grown, pair_text, pairs_text}
use Rattle.json_reader.specs.inner.Places.{quoted}
use Rattle.json_reader.specs.inner.Writing.{Writing, between, deed_at, Can, Done, AreAlike, Ready, Deed, Skip, Keep, Slash, Deepen, Rise, Push}
use Rattle.json_text.proofs.CallerLemmas.{members-utf8, content-first, is_part_of_literal, list_all-each, literal-plain, regroup-last, regroup-next, plain-bare, quoted-bare, plain-quote, plain-slash, hex-plain, pieces-once, bytes_eq-true, bytes_eq-same, collapsed-names, quote-Quoted}
use Rattle.json_reader.proofs.Drafting.{IsRow, row_none, row_more, labelled, whole, closed_so}
use Rattle.json_reader.specs.declared.staying.Ground.TheVariants as ground

-- ---- members whose names are quoted are kept as those whose names are not
pub quoted-once : {bytes a b r s : List ℕ} → Quoted bytes a r → Quoted bytes b s → a ≡ b
quoted-once {bytes} {a} {b} {r} {s} p q =
    let same = pieces-once p.pieces q.pieces r s p.good q.good (let e : string_spelling p.pieces ++ r
    ≡ string_spelling q.pieces ++ s = sym p.parts ∙ q.parts in
    sym (append_assoc (flat_map piece_spelling p.pieces) (34 ∷ []) r) ∙ ap (drop 1) e
    ∙ append_assoc (flat_map piece_spelling q.pieces) (34 ∷ []) s) in
    sym p.means ∙ ap content same.0 ∙ q.means

bytes_eq-quote : (a b : List ℕ) → IsUtf8 a → IsUtf8 b → bytes_eq (quote a) (quote b) ≡ bytes_eq a b
bytes_eq-quote a b u v =
    let once : quote a ≡ quote b → a ≡ b =
    λ same. quoted-once (quote-Quoted (quote a) a [] u (sym (append-nil (quote a))))
    (quote-Quoted (quote a) b [] v (same ∙ sym (append-nil (quote b)))) in
    grind (arith, once, bytes_eq-true a b, bytes_eq-same b, bytes_eq-true (quote a) (quote b), bytes_eq-same (quote b))

last_value-quoted : (name value : List ℕ) (ms : List Member) → IsUtf8 name → AllByRecursion (λ m. IsUtf8 m.0) ms
    → last_value (quote name) value (map quoted ms) ≡ last_value name value ms
last_value-quoted name value [] u h = refl
last_value-quoted name value (m ∷ ms) u h =
    grind (
      arith,
      bytes_eq-quote name m.0 u h.0,
      last_value-quoted name m.1 ms u h.1,
      last_value-quoted name value ms u h.1,
    )

filter-quoted : (name : List ℕ) (ms : List Member) → IsUtf8 name → AllByRecursion (λ m. IsUtf8 m.0) ms
    → filter (has_other_name (quote name)) (map quoted ms) ≡ map quoted (filter (has_other_name name) ms)
filter-quoted name [] u h = refl
filter-quoted name (m ∷ ms) u h = grind (arith, bytes_eq-quote name m.0 u h.0, filter-quoted name ms u h.1)

pub collapsed-quoted : (ms : List Member) → AllByRecursion (λ m. IsUtf8 m.0) ms
    → collapsed (map quoted ms) ≡ map quoted (collapsed ms)
collapsed-quoted [] h = refl
collapsed-quoted (m ∷ ms) h =
    rw (
      last_value-quoted m.0 m.1 ms h.0 h.1,
      collapsed-quoted ms h.1,
      filter-quoted m.0 (collapsed ms) h.0 (collapsed-names IsUtf8 ms h.1),
    ) refl

-- ---- strings
-- in a string
abbrev within : Bool → Bool → List ℕ → Drafted → List Drafted → Writing
within escaped escapes string here around =
    record { place = inside escaped; escapes = escapes; string = string; here = here; around = around }

-- ---- the texts of containers
-- what follows the opening bracket in the text of an array
abbrev items_text : Values → List ℕ
items_text values = join_with_byte 44 (map (λ (member : Member). member.1) (members values)) ++ 93 ∷ []

items-step : (c value : List ℕ) (values : Values)
    → c ++ (join_with_byte 44 (value ∷ map (λ (member : Member). member.1) (members values)) ++ 93 ∷ [])
    ≡ ((c ++ value) ++ 44 ∷ []) ++ items_text values
items-step c value (last label other blank) = simp append_assoc
items-step c value (next label other blank values) = simp append_assoc

-- what stands between the brackets of an object
object-shut : (values : Values) → AreGood object values → (c : List ℕ)
    → c ++ compact (filled object values) ≡ ((c ++ 123 ∷ []) ++ pairs_text (collapsed (map quoted (members values))))
    ++ 125 ∷ []
unfolding object_text
object-shut values good c =
    let same : pairs_text (collapsed (map quoted (members values)))
    ≡ join_with_byte 44 (map member_text (collapsed (members values))) =
    ap pairs_text (collapsed-quoted (members values) (members-utf8 values good))
    ∙ ap (join_with_byte 44) (map-map pair_text quoted (collapsed (members values))) in
    rw same (simp append_assoc)

-- ---- bytes that are all taken in one way
all-pass : (p q : ℕ → Bool) → ((b : ℕ) → p b ≡ true → q b ≡ true) → (xs : List ℕ) → AllByRecursion (λ b. p b ≡ true) xs
    → list_all q xs ≡ true
all-pass p q each [] pass = refl
all-pass p q each (x ∷ xs) pass = rw (each x pass.0, all-pass p q each xs pass.1) refl

module _ (written : List ℕ) where
  abbrev Is : Writing → List ℕ → Type 0
  Is w rest = Ready written w rest

  -- Over these bytes the writer comes from here to there, and in no other way.
  abbrev Takes : List ℕ → Writing → Writing → Type 0
  Takes xs w to = (rest : List ℕ) → (Is to rest → Is w (xs ++ rest)) × (Is w (xs ++ rest) → Is to rest)

  takes-byte : (d : Deed) (b : ℕ) (xs : List ℕ) (w mid to : Writing) → deed_at w b ≡ d → Can d w b
      → ((new : Writing) → Done d w b new → new ≡ mid) → Done d w b mid
      → Takes xs mid to → Takes (b ∷ xs) w to
  takes-byte d b xs w mid to same can only done takes rest =
      subst (λ e. (Is to rest → Can e w b × ((new : Writing) → Done e w b new → Is new (xs ++ rest)))
      × (Can e w b × ((new : Writing) → Done e w b new → Is new (xs ++ rest)) → Is to rest)) (sym same) (
        λ r. (can, λ new is. subst (λ v. Is v (xs ++ rest)) (sym (only new is)) ((takes rest).0 r)),
        λ r. (takes rest).1 (r.1 mid done),
      )

  -- in a string, over these bytes and those behind them
  takes-append : (xs ys s : List ℕ) (escapes mid after : Bool) (d : Drafted) (ds : List Drafted)
      → Takes xs (within false escapes s d ds) (within false mid (s ++ xs) d ds)
      → Takes ys (within false mid (s ++ xs) d ds) (within false after ((s ++ xs) ++ ys) d ds)
      → Takes (xs ++ ys) (within false escapes s d ds) (within false after (s ++ (xs ++ ys)) d ds)
  takes-append xs ys s escapes mid after d ds front back rest = rw (append_assoc xs ys rest, ← append_assoc s xs ys)
      (λ r. (front (ys ++ rest)).0 ((back rest).0 r), λ r. (back rest).1 ((front (ys ++ rest)).1 r))

  -- ---- white space, and bytes that are appended
  blanks : (xs : List ℕ) (d : Drafted) (ds : List Drafted) → is_blank xs ≡ true → Takes xs (between d ds) (between d ds)
  blanks [] d ds is = λ rest. (λ r. r, λ r. r)
  blanks (x ∷ xs) d ds is =
      takes-byte Skip x xs _ (between d ds) _ (grind arith) tt (λ new e. e) refl (blanks xs d ds (grind arith))

  pub blank-ready : (blank rest : List ℕ) (d : Drafted) (ds : List Drafted) → is_blank blank ≡ true
      → Is (between d ds) rest → Is (between d ds) (blank ++ rest)
  blank-ready blank rest d ds is = (blanks blank d ds is rest).0

  literals : (xs : List ℕ) (d : Drafted) (ds : List Drafted) → list_all is_part_of_literal xs ≡ true
      → Takes xs (between d ds) (between (grown d xs) ds)
  literals [] d ds is = subst (λ c. Takes [] (between d ds) (between (record d { text = c }) ds))
      (sym (append-nil d.text)) (λ rest. (λ r. r, λ r. r))
  literals (x ∷ xs) d ds is =
      subst (λ c. Takes (x ∷ xs) (between d ds) (between (record d { text = c }) ds)) (append_assoc d.text (x ∷ []) xs)
      (takes-byte Push x xs _ (between (grown d (x ∷ [])) ds) _ (grind (arith, nat_tests)) tt (λ new e. e) refl
      (literals xs (grown d (x ∷ [])) ds (grind arith)))

  empty-array : (d : Drafted) (ds : List Drafted) → Takes (91 ∷ 93 ∷ []) (between d ds)
      (between (grown d (91 ∷ 93 ∷ [])) ds)
  empty-array d ds =
      let opened : Drafted = record (grown d (91 ∷ [])) { level = d.level + 1 } in
      let shut : between (record (grown opened (93 ∷ [])) { level = opened.level - 1 }) ds
      ≡ between (grown d (91 ∷ 93 ∷ [])) ds = rw (add-sub_cancel, append_assoc d.text (91 ∷ []) (93 ∷ [])) refl in
      takes-byte Deepen 91 (93 ∷ []) _ (between opened ds) _ refl tt (λ new e. e) refl
      (takes-byte Rise 93 [] (between opened ds) _ _ refl tt (λ new e. e ∙ shut) (sym shut) (λ rest. (λ r. r, λ r. r)))

  -- ---- strings
  plain-first : (x : ℕ) (xs s : List ℕ) (escaped escapes : Bool) (d : Drafted) (ds : List Drafted) → is_plain x ≡ true
      → Takes xs (within false escapes (s ++ x ∷ []) d ds) (within false escapes ((s ++ x ∷ []) ++ xs) d ds)
      → Takes (x ∷ xs) (within escaped escapes s d ds) (within false escapes (s ++ x ∷ xs) d ds)
  plain-first x xs s escaped escapes d ds plain takes =
      subst (λ t. Takes (x ∷ xs) (within escaped escapes s d ds) (within false escapes t d ds))
      (append_assoc s (x ∷ []) xs)
      (takes-byte Keep x xs (within escaped escapes s d ds) (within false escapes (s ++ x ∷ []) d ds) _
      (grind (arith, plain-quote x, plain-slash x)) tt (λ new e. e) refl takes)

  plains : (xs s : List ℕ) (escapes : Bool) (d : Drafted) (ds : List Drafted) → list_all is_plain xs ≡ true
      → Takes xs (within false escapes s d ds) (within false escapes (s ++ xs) d ds)
  plains [] s escapes d ds is = subst (λ t. Takes [] (within false escapes s d ds) (within false escapes t d ds))
      (sym (append-nil s)) (λ rest. (λ r. r, λ r. r))
  plains (x ∷ xs) s escapes d ds is =
      plain-first x xs s false escapes d ds (grind arith) (plains xs (s ++ x ∷ []) escapes d ds (grind arith))

  escape : (b : ℕ) (more s : List ℕ) (escapes : Bool) (d : Drafted) (ds : List Drafted) → list_all is_plain more ≡ true
      → Takes (92 ∷ b ∷ more) (within false escapes s d ds) (within false true (s ++ 92 ∷ b ∷ more) d ds)
  escape b more s escapes d ds is =
      subst (λ t. Takes (92 ∷ b ∷ more) (within false escapes s d ds) (within false true t d ds)) (simp append_assoc)
      (takes-byte Slash 92 (b ∷ more) (within false escapes s d ds) (within true true (s ++ 92 ∷ []) d ds) _ refl tt
      (λ new e. e) refl
      (takes-byte Keep b more (within true true (s ++ 92 ∷ []) d ds) (within false true ((s ++ 92 ∷ []) ++ b ∷ []) d ds)
      _ refl tt (λ new e. e) refl (plains more _ true d ds is)))

  -- over pieces, which are their own quote if no escape is among them
  pieces : (ps : List Piece) (s : List ℕ) (escapes : Bool) (d : Drafted) (ds : List Drafted) → AllByRecursion IsPiece ps
      → (after : Bool) × (after ≡ false → (escapes ≡ false)
      × (flat_map quoted_byte (content ps) ≡ flat_map piece_spelling ps))
      × Takes (flat_map piece_spelling ps) (within false escapes s d ds)
      (within false after (s ++ flat_map piece_spelling ps) d ds)
  unfolding content
  pieces [] s escapes d ds good = (escapes, λ none. (none, refl), plains [] s escapes d ds refl)
  pieces (bare c ∷ ps) s escapes d ds good =
      let bytes = encode_utf8 c in
      let more = pieces ps (s ++ bytes) escapes d ds good.1 in (
        more.0,
        λ none. (
          (more.1 none).0,
          ap (flat_map quoted_byte) (content-first (bare c) ps good.0.0)
              ∙ flat_map-append quoted_byte bytes (content ps) ∙ rw (quoted-bare c good.0, (more.1 none).1) refl,
        ),
        takes-append bytes _ s escapes _ _ d ds (plains bytes s escapes d ds (plain-bare c good.0.2 good.0.3)) more.2,
      )
  pieces (letter b ∷ ps) s escapes d ds good =
      let more = pieces ps (s ++ 92 ∷ b ∷ []) true d ds good.1 in (
        more.0,
        λ none. absurd (true≢false (more.1 none).0),
        takes-append (92 ∷ b ∷ []) _ s escapes _ _ d ds (escape b [] s escapes d ds refl) more.2,
      )
  pieces (unit a b c x ∷ ps) s escapes d ds good =
      let hex : List ℕ = a ∷ b ∷ c ∷ x ∷ [] in
      let more = pieces ps (s ++ 92 ∷ 117 ∷ hex) true d ds good.1 in (
        more.0,
        λ none. absurd (true≢false (more.1 none).0),
        takes-append (92 ∷ 117 ∷ hex) _ s escapes _ _ d ds
            (escape 117 hex s escapes d ds (list_all-each _ is_plain hex-plain hex good.0)) more.2,
      )

  string-ready : (ps : List Piece) (rest : List ℕ) (d : Drafted) (ds : List Drafted) → AllByRecursion IsPiece ps
      → Is (between (grown d (quote (content ps))) ds) rest → Is (between d ds) (string_spelling ps ++ rest)
  unfolding quote
  string-ready ps rest d ds good r =
      let ran = pieces ps (34 ∷ []) false d ds good in
      let is : Quoted (string_spelling ps) (content ps) [] =
      record { pieces = ps; good = good; parts = sym (append-nil (string_spelling ps)); means = refl } in (
        tt,
        λ new e. rw (e, append_assoc (flat_map piece_spelling ps) (34 ∷ []) rest) ((ran.2 (34 ∷ rest)).0 (
          record { text = content ps; quoted = is; same = λ none. ap (λ t. 34 ∷ (t ++ 34 ∷ [])) (sym (ran.1 none).1) },
          λ other done. rw (done (content ps) is) r,
        )),
      )

  -- a string in which no character is escaped is its own quote
  string-passed : (xs more : List ℕ) (d : Drafted) (ds : List Drafted) → list_all is_plain xs ≡ true
      → Is (between d ds) (34 ∷ (xs ++ 34 ∷ more)) → Is (between (grown d (34 ∷ (xs ++ 34 ∷ []))) ds) more
  string-passed xs more d ds plain r =
      let begun = r.1 (within false false (34 ∷ []) d ds) refl in
      let ended = (plains xs (34 ∷ []) false d ds plain (34 ∷ more)).1 begun in
      let whole = ended.0 in
      ended.1 (between (grown d (34 ∷ (xs ++ 34 ∷ []))) ds)
      (λ text there. ap (λ t. between (grown d t) ds) (whole.same refl ∙ ap quote (quoted-once whole.quoted there)))

  -- ---- the names of members
  name-ready : (l : Label) (rest : List ℕ) (d : Drafted) (ds : List Drafted) → IsLabel object l
      → Is (between (labelled d (quote (label_name l))) ds) rest → Is (between d ds) (label_spelling l ++ rest)
  name-ready (unnamed before) rest d ds good r = absurd good
  name-ready (named before name middle after) rest d ds good r =
      subst (Is (between d ds)) (sym (regroup-next before (string_spelling name) middle 58 after rest))
      (blank-ready before _ _ ds good.0 (string-ready name _ _ ds good.1 (blank-ready middle _ _ ds good.2
      (tt, λ new e. subst (λ w. Is w (after ++ rest)) (sym e) (blank-ready after rest _ ds good.3 r)))))

  space-ready : (l : Label) (rest : List ℕ) (d : Drafted) (ds : List Drafted) → IsLabel array l → Is (between d ds) rest
      → Is (between d ds) (label_spelling l ++ rest)
  space-ready (unnamed before) rest d ds good r = blank-ready before rest d ds good r
  space-ready (named before name middle after) rest d ds good r = absurd good

  -- ---- values
  mutual
    unfolding array_text

    pub tree-ready : (tree : Tree) (rest : List ℕ) (d : Drafted) (ds : List Drafted) → IsGood tree
        → Is (between (grown d (compact tree)) ds) rest → Is (between d ds) (spelling tree ++ rest)
    tree-ready (scalar literal) rest d ds good r = (literals literal d ds (literal-plain literal good) rest).0 r
    tree-ready (text pieces) rest d ds good r = string-ready pieces rest d ds good r
    tree-ready (empty array blank) rest d ds good r = (
      tt,
      λ new e. rw (e, append_assoc blank (93 ∷ []) rest)
          (blank-ready blank (93 ∷ rest) _ ds good (
            tt,
            λ other is. rw (is, add-sub_cancel, append_assoc d.text (91 ∷ []) (93 ∷ [])) r,
          )),
    )
    tree-ready (empty object blank) rest d ds good r = (
      tt,
      λ new e. rw (e, append_assoc blank (125 ∷ []) rest) (blank-ready blank (125 ∷ rest) _ _ good (
        record {
          outer = ds;
          next = grown d (123 ∷ []);
          open_in = refl;
          whole =
              record { within = (row_none.there []).0; written = refl };
        },
        λ other done. rw (
          done ds (grown d (123 ∷ [])) refl,
          append-nil (d.text ++ 123 ∷ []),
          append_assoc d.text (123 ∷ []) (125 ∷ []),
        ) r,
      )),
    )
    tree-ready (filled array values) rest d ds good r = (
      tt,
      λ new e. rw (e, append_assoc (values_spelling values) (93 ∷ []) rest)
          (items-ready values rest (grown d (91 ∷ [])) ds good
          (subst (λ s. Is (between (record d { text = s }) ds) rest)
          (sym (append_assoc d.text (91 ∷ []) (items_text values))) r)),
    )
    tree-ready (filled object values) rest d ds good r = (
      tt,
      λ new e. rw (e, append_assoc (values_spelling values) (125 ∷ []) rest)
          (members-ready values rest [] fresh (grown d (123 ∷ [])) ds row_none good
          (subst (λ s. Is (between (record d { text = s }) ds) rest) (object-shut values good d.text) r)),
    )

    items-ready : (values : Values) (rest : List ℕ) (d : Drafted) (ds : List Drafted) → AreGood array values
        → Is (between (grown d (items_text values)) ds) rest
        → Is (between (record d { level = d.level + 1 }) ds) (values_spelling values ++ 93 ∷ rest)
    items-ready (last label value blank) rest d ds good r =
        subst (Is (between (record d { level = d.level + 1 }) ds))
        (sym (regroup-last (label_spelling label) (spelling value) blank (93 ∷ rest)))
        (space-ready label _ _ ds good.0 (tree-ready value _ _ ds good.1 (blank-ready blank _ _ ds good.2 (
          tt,
          λ new e. subst (λ w. Is w rest) (sym e) (rw (add-sub_cancel, append_assoc d.text (compact value) (93 ∷ []))
              r),
        ))))
    items-ready (next label value blank values) rest d ds good r =
        subst (Is (between (record d { level = d.level + 1 }) ds))
        (sym (regroup-next (label_spelling label) (spelling value) blank 44 (values_spelling values) (93 ∷ rest)))
        (space-ready label _ _ ds good.0 (tree-ready value _ _ ds good.1 (blank-ready blank _ _ ds good.2
        (rw (ne_eqb (d.level + 1) 0 (λ e. omega arith)) (
          tt,
          λ new e. subst (λ w. Is w (values_spelling values ++ 93 ∷ rest)) (sym e)
              (items-ready values rest (grown (grown d (compact value)) (44 ∷ [])) ds good.3
              (subst (λ s. Is (between (record d { text = s }) ds) rest) (items-step d.text (compact value) values) r)),
        )))))

    members-ready : (values : Values) (rest : List ℕ) (done : List Member) (d o : Drafted) (ds : List Drafted)
        → IsRow done d → AreGood object values
        → Is (between (grown (grown o (pairs_text (collapsed (done ++ map quoted (members values))))) (125 ∷ [])) ds)
        rest
        → Is (between d (ds ++ o ∷ [])) (values_spelling values ++ 125 ∷ rest)
    members-ready (last label value blank) rest done d o ds row good r =
        let name = quote (label_name label) in
        subst (Is (between d (ds ++ o ∷ [])))
        (sym (regroup-last (label_spelling label) (spelling value) blank (125 ∷ rest)))
        (name-ready label _ d _ good.0 (tree-ready value _ (labelled d name) _ good.1 (blank-ready blank _ _ _ good.2 (
          record { outer = ds; next = o; open_in = refl; whole = whole done d row name (compact value) },
          λ new is. subst (λ w. Is w rest) (sym (is ds o refl
              ∙ ap (λ c. between (grown (grown o c) (125 ∷ [])) ds) (closed_so done d row name (compact value)))) r,
        ))))
    members-ready (next label value blank values) rest done d o ds row good r =
        let name = quote (label_name label) in
        subst (Is (between d (ds ++ o ∷ [])))
        (sym (regroup-next (label_spelling label) (spelling value) blank 44 (values_spelling values) (125 ∷ rest)))
        (name-ready label _ d _ good.0 (tree-ready value _ (labelled d name) _ good.1
        (blank-ready blank _ _ _ good.2 (rw (ap (λ (n : ℕ). eqb n 0) row.level) (
          tt,
          λ new is. subst (λ w. Is w (values_spelling values ++ 125 ∷ rest)) (sym is)
              (members-ready values rest (done ++ (name, compact value) ∷ []) _ o ds
              (row_more done d row name (compact value)) good.3
              (subst (λ ms. Is (between (grown (grown o (pairs_text (collapsed ms))) (125 ∷ [])) ds) rest)
              (sym (append_assoc done ((name, compact value) ∷ []) (map quoted (members values)))) r)),
        )))))

  -- ---- stretches, by their first bytes
  module _ (b : ℕ) (xs more : List ℕ) (d : Drafted) (ds : List Drafted) where
    -- in a string
    pub stretch-quoted : (s : List ℕ) (escaped escapes : Bool) → AreAlike ground.Quoted (b ∷ xs)
        → Is (within escaped escapes s d ds) (b ∷ xs ++ more) → Is (within false escapes (s ++ b ∷ xs) d ds) more
    stretch-quoted s escaped escapes plain =
        (plain-first b xs s escaped escapes d ds plain.0
        (plains xs (s ++ b ∷ []) escapes d ds (all-pass is_plain is_plain (λ x e. e) xs plain.1)) more).1

    -- outside strings white space is dropped, and what stands in numbers is appended
    pub stretch-appended : AreAlike ground.Between (b ∷ xs) → is_space b ≡ false → Is (between d ds) (b ∷ xs ++ more)
        → Is (between (grown d (b ∷ xs)) ds) more
    stretch-appended (inl blank) solid = absurd (false≢true (sym solid ∙ blank.0))
    stretch-appended (inr (inr (inr (inl word)))) solid =
        (literals (b ∷ xs) d ds (literal-plain (b ∷ xs) (inr word)) more).1
    stretch-appended (inr (inr (inr (inr nothing)))) solid =
        λ r. subst (λ t. Is (between (grown d t) ds) more) (sym nothing)
        ((empty-array d ds more).1 (subst (λ t. Is (between d ds) (t ++ more)) nothing r))
    stretch-appended (inr (inr (inl string))) solid =
        λ r. subst (λ t. Is (between (grown d t) ds) more) (sym string.is)
        (string-passed string.text more d ds (all-pass is_plain is_plain (λ x e. e) string.text string.plain)
        (subst (Is (between d ds)) (ap (λ t. t ++ more) string.is
        ∙ ap (λ t. 34 ∷ t) (append_assoc string.text (34 ∷ []) more)) r))
    stretch-appended (inr (inl digits)) solid =
        (literals (b ∷ xs) d ds (all-pass extends_number is_part_of_literal (λ x part. grind (arith, nat_tests))
        (b ∷ xs)
        digits) more).1

    pub stretch-dropped : AreAlike ground.Between (b ∷ xs) → is_space b ≡ true → Is (between d ds) (b ∷ xs ++ more)
        → Is (between d ds) more
    stretch-dropped (inl blank) space =
        (blanks (b ∷ xs) d ds (all-pass is_space is_space (λ x e. e) (b ∷ xs) blank) more).1
    stretch-dropped (inr (inr (inr (inl word)))) space =
        absurd (let solid = literal-plain (b ∷ xs) (inr word) in grind (arith, nat_tests))
    stretch-dropped (inr (inr (inr (inr nothing)))) space =
        absurd (let is : b ≡ 91 = ap (λ t. get_or t 0 0) nothing in grind (arith, nat_tests))
    stretch-dropped (inr (inr (inl string))) space =
        absurd (let is : b ≡ 34 = ap (λ t. get_or t 0 0) string.is in grind (arith, nat_tests))
    stretch-dropped (inr (inl digits)) space = absurd (let digit = digits.0 in grind (arith, nat_tests))
