-- The writer's bytes that aren't copied yet.
use Rattle.std.proofs.Common.{◌≡◌, ℕ, ◌+◌, ◌-◌, ◌<◌, ◌≤◌, List, [], ◌∷◌, ◌++◌, true, false, length, take, drop, get_or, refl, sym, ap, subst, ◌∙◌, arith, append_assoc, append-nil, length-append}
use Rattle.json_text.specs.Characters.{is_space, quote}
use Rattle.std.proofs.lemmas.List.{same_from_push}
use Rattle.json_text.specs.Walk.{Quoted}
use Rattle.json_text.specs.Tree.{string_spelling}
use Rattle.json_reader.specs.inner.Drafts.{Drafted, grown}
use Rattle.json_reader.specs.inner.Writing.{Writer, deed_at, AreAlike, ground_of, Ready, stretch, writing_at, copied, Fits, HasPut, Can, CanPut, IsPut, Finish}
use Rattle.json_reader.proofs.Outcomes.{parted, one_more, stretch_more}
use Rattle.json_reader.proofs.Ready.{quoted-once, stretch-quoted, stretch-appended, stretch-dropped}

pub stretch_none : (bytes : List ℕ) (k : ℕ) → stretch bytes k k ≡ []
stretch_none bytes k = let none : k - k ≡ 0 = omega arith in ap (λ n. take n (drop k bytes)) none

pub alone : (bytes : List ℕ) (next : ℕ) → next < length bytes → stretch bytes next (next + 1) ≡ get_or bytes next 0 ∷ []
alone bytes next high =
    one_more bytes next next (omega arith) high ∙ ap (λ x. x ++ get_or bytes next 0 ∷ []) (stretch_none bytes next)

-- the first byte of a stretch, and the others
pub headed : (bytes : List ℕ) (at end : ℕ) → at < length bytes → at < end
    → stretch bytes at end ≡ get_or bytes at 0 ∷ stretch bytes (at + 1) end
headed bytes at end high some = stretch_more bytes at (at + 1) (omega arith) end (omega arith)
    ∙ ap (λ x. x ++ stretch bytes (at + 1) end) (alone bytes at high)

module _ (bytes : List ℕ) (next : ℕ) (w : Writer) (high : next < length bytes) (fits : Fits next w) where
  abbrev byte : ℕ
  byte = get_or bytes next 0

  -- ---- in a string
  module _ (quoted : w.quoted ≡ true) where
    low : (w.from ≤ w.start) × (w.start ≤ next)
    low = grind (arith, fits.from, fits.to)

    -- the string that ends
    ended : (writing_at bytes next w).string ++ byte ∷ [] ≡ stretch bytes w.start (next + 1)
    ended = rw quoted (sym (one_more bytes w.start next low.1 high))

    pub finished : w.escaped ≡ false → byte ≡ 34 → w.escapes ≡ false → CanPut bytes next w
        → IsPut bytes next w (record w { quoted = false })
    finished plain end bare can =
        let is : deed_at (writing_at bytes next w) byte ≡ Finish = rw (quoted, plain, end) refl in
        let whole = subst (λ d. Can d (writing_at bytes next w) byte) is can in
        subst (λ d. HasPut d bytes next w (record w { quoted = false })) (sym is) (record {
          done = λ text there.
              let same : stretch bytes w.start (next + 1) ≡ quote text =
              sym ended ∙ whole.same (rw quoted bare) ∙ ap quote (quoted-once whole.quoted there) in
              rw (
                quoted,
                stretch_more bytes w.from w.start low.0 (next + 1) (omega (arith, low)),
                same,
                ← append_assoc w.here.text (stretch bytes w.from w.start) (quote text),
              ) refl;
          fits = record { from = omega (arith, low); to = omega arith };
        })

    -- the string, in all bytes
    pub string-there : (text : List ℕ) → Quoted ((writing_at bytes next w).string ++ byte ∷ []) text []
        → Quoted (drop w.start bytes) text (drop (next + 1) bytes)
    string-there text is =
        record {
          pieces = is.pieces;
          good = is.good;
          parts = parted bytes w.start (next + 1) (omega (arith, low))
              ∙ ap (λ xs. xs ++ drop (next + 1) bytes) (sym ended ∙ is.parts ∙ append-nil (string_spelling is.pieces));
          means = is.means;
        }

-- the byte stands in a string
pub ruleset string_steps = (one_more, finished)

-- the byte is copied later
pub ruleset later_steps = (one_more, append_assoc, length-append, stretch_none)

pub ruleset shut_steps = (alone, same_from_push)

-- ---- a stretch
module _ (bytes : List ℕ) (at end : ℕ) (w : Writer) (up : at ≤ end) (high : end ≤ length bytes) (fits : Fits at w)
    (alike : AreAlike (ground_of w) (stretch bytes at end)) (text more : List ℕ)
    (ready : Ready text (writing_at bytes at w) (stretch bytes at end ++ more)) where
  -- its first byte, and the others
  abbrev b : ℕ
  b = get_or bytes at 0

  abbrev others : List ℕ
  others = stretch bytes (at + 1) end

  first : at < end → stretch bytes at end ≡ b ∷ others
  first some = headed bytes at end (omega arith) some

  pub stretch_in : at < end → w.quoted ≡ true → Ready text (writing_at bytes end (record w { escaped = false })) more
  stretch_in some quoted =
      rw (quoted, stretch_more bytes w.start at (grind (arith, fits.to)) end up, first some)
      (stretch-quoted text b others more (grown w.here (stretch bytes w.from w.start)) w.around.items
      (stretch bytes w.start at) w.escaped w.escapes (rw (quoted, first some) at alike)
      (rw (quoted, first some) at ready))

  module _ (some : at < end) (apart : w.quoted ≡ false) where
    abbrev here-then : Drafted
    here-then = grown w.here (stretch bytes w.from at)

    pub stretch_on : is_space b ≡ false → Ready text (writing_at bytes end w) more
    stretch_on solid =
        rw (
          apart,
          stretch_more bytes w.from at (grind (arith, fits.from)) end up,
          first some,
          ← append_assoc w.here.text (stretch bytes w.from at) (b ∷ others),
        )
        (stretch-appended text b others more here-then w.around.items (rw (apart, first some) at alike) solid
        (rw (apart, first some) at ready))

    pub stretch_skipped : is_space b ≡ true
        → Ready text (writing_at bytes end (record (copied bytes at w) { from = end })) more
    stretch_skipped space =
        rw (apart, stretch_none bytes end, append-nil)
        (stretch-dropped text b others more here-then w.around.items (rw (apart, first some) at alike) space
        (rw (apart, first some) at ready))
