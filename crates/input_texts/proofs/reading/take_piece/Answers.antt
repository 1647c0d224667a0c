use Rattle.std.proofs.Common.{◌≡◌, not, ℕ, ◌+◌, ◌-◌, List, ◌++◌, Ok, length, drop, take, length-drop, sym, ap, subst, ◌∙◌, arith}
use Rattle.std.proofs.lemmas.List.{take_all, drop_all, drop-drop}
use Rattle.input_texts.specs.inner.Texts.{IsLed, StandsIn}
use Rattle.input_texts.proofs.Leads.{stands_more, used_so_far, stands_stopped, none_of}
use Rattle.input_texts.proofs.reading.take_piece.Goals as goal

-- what is left of a piece
left_of : (piece : List ℕ) (at : ℕ) → take (length piece - at) (drop at piece) ≡ drop at piece
left_of piece at = take_all (length piece - at) (drop at piece) (omega (arith, length-drop at piece))

width_of : (piece : List ℕ) (at : ℕ) → length (take (length piece - at) (drop at piece)) ≡ length piece - at
width_of piece at = ap length (left_of piece at) ∙ length-drop at piece

pub texts-init : goal.texts-init
texts-init g c = record {
  within = omega arith;
  fits =
      λ none. omega (
        arith,
        used_so_far c.requires.0 c.args.piece.now c.args.feed.now
            (g.R.Reader.seen c.args.reader.now) c.args.stop.now c.requires.1 none,
        c.requires.2,
      );
  stands = λ stream h. stands_more stream c.args.piece.now c.args.feed.now (g.R.Reader.seen c.args.reader.now)
      c.args.stop.now h;
}

pub texts-smaller-in-On : goal.texts-smaller-in-On
texts-smaller-in-On g c =
    let none = none_of c.texts.stop (ap not (c.is_none.ensures ∙ ap not c.texts-test.true)) in
    rw none (omega (
      arith,
      width_of c.args.piece.now c.texts.at,
      c.in_ok-used.ensures.less c.in-On.used (ap Ok c.in-On.is),
      c.in_ok-used.ensures.within c.in-On.used (ap Ok c.in-On.is),
    ))

pub texts-preserved-in-On : goal.texts-preserved-in-On
texts-preserved-in-On g c =
    let piece = c.args.piece.now in
    let at = c.texts.at in
    let used = c.in-On.used in
    let reader = g.R.Reader.seen c.texts.reader in
    let next_reader = g.R.Reader.seen c.next_text.new.reader in
    let none = none_of c.texts.stop (ap not (c.is_none.ensures ∙ ap not c.texts-test.true)) in
    let width = width_of piece at in
    let within = c.in_ok-used.ensures.within used (ap Ok c.in-On.is) in
    record {
      within = omega (arith, width, within, c.texts.invariant.within);
      fits = λ is. omega (
        arith,
        width,
        within,
        c.texts.invariant.fits is,
        c.in_ok-used.ensures.counted used (ap Ok c.in-On.is),
      );
      stands = λ stream h.
          let led : IsLed (stream ++ piece) (drop at piece) c.texts.feed reader =
          subst (StandsIn (stream ++ piece) (drop at piece) c.texts.feed reader) none
          (c.texts.invariant.stands stream h) in
          let next = c.in_ok-used.ensures.led used (ap Ok c.in-On.is) (stream ++ piece)
          (subst (λ (left : List ℕ). IsLed (stream ++ piece) left c.texts.feed reader) (sym (left_of piece at)) led) in
          let behind : drop used (take (length piece - at) (drop at piece)) ≡ drop (at + used) piece =
          ap (drop used) (left_of piece at) ∙ drop-drop used at piece in
          subst (StandsIn (stream ++ piece) (drop (at + used) piece) c.next_text.new.feed next_reader) (sym none)
          (subst (λ (left : List ℕ). IsLed (stream ++ piece) left c.next_text.new.feed next_reader) behind next);
    }

pub texts-preserved : goal.texts-preserved
texts-preserved g c =
    let piece = c.args.piece.now in
    let at = c.texts.at in
    let reader = g.R.Reader.seen c.texts.reader in
    let none = none_of c.texts.stop (ap not (c.is_none.ensures ∙ ap not c.texts-test.true)) in
    record {
      within = c.texts.invariant.within;
      fits = λ is. absurd (cc);
      stands = λ stream h.
          let led : IsLed (stream ++ piece) (drop at piece) c.texts.feed reader =
          subst (StandsIn (stream ++ piece) (drop at piece) c.texts.feed reader) none
          (c.texts.invariant.stands stream h) in
          c.in_ok-used.ensures.stopped c.in-Stopped.why (ap Ok c.in-Stopped.is) (stream ++ piece)
          (subst (λ (left : List ℕ). IsLed (stream ++ piece) left c.texts.feed reader) (sym (left_of piece at)) led);
    }

pub returns-else-at-piece : goal.returns-else-at-piece
returns-else-at-piece g c stream h =
    subst (λ (left : List ℕ). StandsIn (stream ++ c.args.piece.now) left c.texts.feed (g.R.Reader.seen c.texts.reader)
    c.texts.stop)
    (drop_all c.texts.at c.args.piece.now c.if-at-piece.false) (c.texts.invariant.stands stream h)

pub returns-after-texts : goal.returns-after-texts
returns-after-texts g c stream h =
    stands_stopped (stream ++ c.args.piece.now) c.args.piece.now c.texts.feed (g.R.Reader.seen c.texts.reader)
    (drop c.texts.at c.args.piece.now) c.texts.stop
    (ap not (c.is_none.ensures ∙ ap not c.texts-test.false)) (c.texts.invariant.stands stream h)
