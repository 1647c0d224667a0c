-- Of all entries there is a table, and it is decided what picture an entry has.
use Rattle.std.proofs.Common.{◌≡◌, ◌≢◌, ◌⊎◌, inl, inr, ℕ, true, false, ◌==◌, List, [], ◌∷◌, ◌++◌, Option, Some, None, Result, Ok, Err, length, bytes_eq, codes, eqb, eqb-true, refl, sym, ap, subst, ◌∙◌, IfSome, arith, lit≤}
use Rattle.std.specs.List.{list_any}
use Rattle.std.proofs.lemmas.Bool.{cases_Bool, or_parts, or_from, both_ways}
use Rattle.std.proofs.lemmas.Bool.Decides.{nat_tests}
use Rattle.std.proofs.lemmas.List.Elements.{All-from_recursion}
use Rattle.std.proofs.lemmas.Map.Entries.{All-lookup}
use Rattle.std.proofs.lemmas.List.Prefix.{front_rest}
use Rattle.base64.specs.Engines.{standard}
use Rattle.base64.specs.GeneralPurpose.{decode_of}
use Rattle.base64.specs.declared.decode.DecodeError.{DecodeError}
use Rattle.json_text.specs.Characters.{quote}
use Rattle.json_text.specs.Compact.{Member as Pair, object_text}
use Rattle.json_text.specs.Parts.{AreMembers, names_of}
use Rattle.json_text.specs.Value.{IsCompact}
use Rattle.scene_json.specs.Named.{value_at}
use Rattle.json_text.proofs.CallerLemmas.{Value-deeper, string-or-not, object-or-not}
use Rattle.scene_json.proofs.CallerLemmas.{tabled, quote-once}
use Rattle.elem.proofs.CallerLemmas.{object-once}
use Rattle.file_table.specs.Picture.{IsDataUrl, HasUrl, HasData, IsPictureSize}
use Rattle.file_table.specs.Table.{least_entry, AreLeastEntries}
use Rattle.file_table.proofs.Pictures.{size-none}
use Rattle.file_table.proofs.Urls.{has_comma}

-- ---- the table of all entries
none-given : (given : List Pair) (id : List ℕ) → list_any (bytes_eq id) (names_of given) ≡ false
    → least_entry given id ≡ None
none-given [] id none = refl
none-given (file ∷ files) id none =
    let parts = or_parts (bytes_eq id file.0) (list_any (bytes_eq id) (names_of files)) none in
    rw parts.0 (none-given files id parts.1)

pub files-exist : (given : List Pair) → (files : List Pair) × AreLeastEntries given files
files-exist given =
    let t = tabled (names_of given) (least_entry given) (none-given given) in
    (t.0, record { ordered = t.1; each = t.2 })

-- ---- data URLs
nat-same : (b : ℕ) → eqb b b ≡ true
nat-same b = grind (arith, nat_tests)

-- a text that begins so, or doesn't
begins : (front text : List ℕ) → ((rest : List ℕ) × (text ≡ front ++ rest)) ⊎ ((rest : List ℕ) → text ≢ front ++ rest)
begins [] text = inl (text, refl)
begins (b ∷ front) [] = inr (λ rest e. cc)
begins (b ∷ front) (x ∷ text) = by (cases_Bool (eqb x b)) (begins front text)
  where
    by : (eqb x b ≡ true) ⊎ (eqb x b ≡ false) → ((rest : List ℕ) × (text ≡ front ++ rest))
        ⊎ ((rest : List ℕ) → text ≢ front ++ rest)
        → ((rest : List ℕ) × ((x ∷ text) ≡ b ∷ (front ++ rest))) ⊎ ((rest : List ℕ) → (x ∷ text) ≢ b ∷ (front ++ rest))
    by (inr differ) rest = inr (λ rest e. let same : x ≡ b = cc in both_ways (eqb x b) differ (rw same (nat-same b)))
    by (inl same) (inl (rest, e)) = let first = eqb-true x b same in inl (rest, λ i. first i ∷ e i)
    by (inl same) (inr none) = inr (λ rest e. none rest (cc))

-- a media type without a comma, `;base64`, a comma and the data
record Parts (text : List ℕ) (content : List ℕ) : Type 0 where
  media : List ℕ
  parts : text ≡ media ++ (codes ";base64" ++ 44 ∷ content)
  first : has_comma media ≡ false

-- no parts where it doesn't begin with the last of them, and the first byte is a comma or the others have none
no-parts : (b : ℕ) (text content media : List ℕ) → (b ∷ text) ≡ media ++ (codes ";base64" ++ 44 ∷ content)
    → has_comma media ≡ false
    → ((rest : List ℕ) → (b ∷ text) ≢ codes ";base64," ++ rest) → ((b == 44) ≡ true)
    ⊎ ((other : List ℕ) → Parts text other → ⊥) → ⊥
no-parts b text content [] e free none why = none content e
no-parts b text content (m ∷ media) e free none (inl comma) =
    let same : b ≡ m = cc in
    both_ways (m == 44) (or_parts (m == 44) (has_comma media) free).0 (ap (λ x. x == 44) (sym same) ∙ comma)
no-parts b text content (m ∷ media) e free none (inr others) =
    let rest : text ≡ media ++ (codes ";base64" ++ 44 ∷ content) = cc in
    others content (record { media = media; parts = rest; first = (or_parts (m == 44) (has_comma media) free).1 })

none-left : (content media : List ℕ) → [] ≡ media ++ (codes ";base64" ++ 44 ∷ content) → ⊥
none-left content [] e = cc
none-left content (m ∷ media) e = cc

parts-or-not : (text : List ℕ) → ((content : List ℕ) × Parts text content)
    ⊎ ((content : List ℕ) → Parts text content → ⊥)
parts-or-not [] = inr (λ content p. none-left content p.media p.parts)
parts-or-not (b ∷ text) = by (begins (codes ";base64,") (b ∷ text)) (cases_Bool (b == 44)) (parts-or-not text)
  where
    by : ((rest : List ℕ) × ((b ∷ text) ≡ codes ";base64," ++ rest))
        ⊎ ((rest : List ℕ) → (b ∷ text) ≢ codes ";base64," ++ rest)
        → ((b == 44) ≡ true) ⊎ ((b == 44) ≡ false) → ((content : List ℕ) × Parts text content)
        ⊎ ((content : List ℕ) → Parts text content → ⊥)
        → ((content : List ℕ) × Parts (b ∷ text) content) ⊎ ((content : List ℕ) → Parts (b ∷ text) content → ⊥)
    by (inl (content, e)) comma others = inl (content, record { media = []; parts = e; first = refl })
    by (inr none) (inl comma) others =
        inr (λ content p. no-parts b text content p.media p.parts p.first none (inl comma))
    by (inr none) (inr other) (inl (content, p)) =
        inl (
          content,
          record {
            media = b ∷ p.media;
            parts = ap (λ x. b ∷ x) p.parts;
            first =
                or_from (b == 44) (has_comma p.media) other p.first;
          },
        )
    by (inr none) (inr other) (inr others) =
        inr (λ content p. no-parts b text content p.media p.parts p.first none (inr others))

data-url-or-not : (url : List ℕ) → ((content : List ℕ) × IsDataUrl url content)
    ⊎ ((content : List ℕ) → IsDataUrl url content → ⊥)
data-url-or-not url = by (begins (codes "data:") url)
  where
    by : ((rest : List ℕ) × (url ≡ codes "data:" ++ rest)) ⊎ ((rest : List ℕ) → url ≢ codes "data:" ++ rest)
        → ((content : List ℕ) × IsDataUrl url content) ⊎ ((content : List ℕ) → IsDataUrl url content → ⊥)
    by (inr none) = inr (λ content is. none (is.media ++ (codes ";base64" ++ 44 ∷ content)) is.parts)
    by (inl (rest, e)) = elim (parts-or-not rest) [
      | inl (content, p) ↦ inl (
        content,
        record {
          media = p.media;
          parts = e ∙ ap (λ x. codes "data:" ++ x) p.parts;
          first = p.first;
        },
      )
      | inr none ↦ inr (λ content is. none content (record {
        media = is.media;
        parts = sym (front_rest url (codes "data:") rest e)
            ∙ front_rest url (codes "data:") (is.media ++ (codes ";base64" ++ 44 ∷ content)) is.parts;
        first = is.first;
      }))
    ]

-- ---- the picture of an entry
url-once : (entry : List ℕ) (ms : List Pair) (url : List ℕ) → AreMembers 127 ms → entry ≡ object_text ms
    → HasUrl entry url → value_at (codes "dataURL") ms ≡ Some (quote url)
url-once entry ms url are e has =
    ap (value_at (codes "dataURL")) (object-once ms has.members are has.are_members (sym e ∙ has.object)) ∙ has.named

found-nests : (name : List ℕ) (ms : List Pair) (value : List ℕ) → AreMembers 127 ms → value_at name ms ≡ Some value
    → IsCompact 127 value
found-nests name ms value are e =
    subst (λ found. IfSome found (IsCompact 127)) e
    (All-lookup (IsCompact 127) (bytes_eq name) ms (All-from_recursion (λ (m : Pair). IsCompact 127 m.1) ms
    are.valued))

url-or-not : (entry : List ℕ) → IsCompact 128 entry
    → ((url : List ℕ) × HasUrl entry url × ((other : List ℕ) → HasUrl entry other → other ≡ url))
    ⊎ ((url : List ℕ) → HasUrl entry url → ⊥)
url-or-not entry is = elim (object-or-not entry is) [
  | inr none ↦ inr (λ url has. none has.members has.object)
  | inl (ms, are, e) ↦ by ms are e (value_at (codes "dataURL") ms) refl
]
  where
    by : (ms : List Pair) → AreMembers 127 ms → entry ≡ object_text ms → (found : Option (List ℕ))
        → value_at (codes "dataURL") ms ≡ found
        → ((url : List ℕ) × HasUrl entry url × ((other : List ℕ) → HasUrl entry other → other ≡ url))
        ⊎ ((url : List ℕ) → HasUrl entry url → ⊥)
    by ms are e None missing =
        inr (λ url has. let no : None ≡ Some (quote url) = sym missing ∙ url-once entry ms url are e has in cc)
    by ms are e (Some value) here =
        elim (string-or-not value (Value-deeper (lit≤ tt) (found-nests (codes "dataURL") ms value are here))) [
          | inl (url, utf8, quoted) ↦ inl (
            url,
            record { members = ms; are_members = are; object = e; text = utf8; named = here ∙ ap Some quoted },
            λ other has.
                let both : Some (quote other) ≡ Some (quote url) =
                sym (url-once entry ms other are e has) ∙ (here ∙ ap Some quoted) in
                quote-once other url has.text utf8 (cc),
          )
          | inr none ↦ inr (λ url has. let both : Some value ≡ Some (quote url) = sym here
              ∙ url-once entry ms url are e has in none url (cc))
        ]

-- The entry has a picture of some size; or data that is no base64; or no data.
abbrev pub HasPicture : List ℕ → Type 0
HasPicture entry =
    ((size : ℕ) × IsPictureSize entry size)
    ⊎ (((content : List ℕ) × HasData entry content × ((size : ℕ) → IsPictureSize entry size → ⊥))
    ⊎ ((content : List ℕ) → HasData entry content → ⊥))

sized : (entry url content : List ℕ) → HasUrl entry url → ((other : List ℕ) → HasUrl entry other → other ≡ url)
    → IsDataUrl url content → (decoded : Result (List ℕ) DecodeError)
    → decode_of standard content ≡ decoded → HasPicture entry
sized entry url content has one is (Ok bytes) e =
    inl (
      length bytes,
      record {
        text = content;
        bytes = bytes;
        has_data =
            record { url = url; has_url = has; is_data_url = is };
        decoded = e;
        size_is = refl;
      },
    )
sized entry url content has one is (Err error) e =
    inr (inl (
      content,
      record { url = url; has_url = has; is_data_url = is },
      size-none entry url content one is (λ bytes f. let both = sym e ∙ f in cc),
    ))

pub picture-exists : (entry : List ℕ) → IsCompact 128 entry → HasPicture entry
picture-exists entry is = elim (url-or-not entry is) [
  | inr none ↦ inr (inr (λ content d. none d.url d.has_url))
  | inl (url, has, one) ↦ elim (data-url-or-not url) [
    | inl (content, parts) ↦ sized entry url content has one parts (decode_of standard content) refl
    | inr none ↦ inr
        (inr (λ content d. none content (subst (λ u. IsDataUrl u content) (one d.url d.has_url) d.is_data_url)))
  ]
]
