use Rattle.std.proofs.Common.{◌≡◌, ◌+◌, refl, arith, append-nil, drop}
use Rattle.json_reader.proofs.Copying.{stretch_none, string-there}
use Rattle.json_reader.proofs.writing.Writer.quote.Goals as goal

pub content_of-requires : goal.content_of-requires
content_of-requires c =
    rw c.in_ok-copy.ensures (
      _,
      _,
      string-there c.args.bytes.now c.args.next c.args.self.now c.requires.within
          c.requires.fits c.requires.quoted c.requires.can.text c.requires.can.quoted,
    )

pub returns : goal.returns
returns c = record {
  done = λ other is.
      let there = string-there c.args.bytes.now c.args.next c.args.self.now c.requires.within c.requires.fits
      c.requires.quoted other is in
      let same : c.in_ok-text.text ≡ other =
      (c.in_ok-text.ensures.found other (drop (c.args.next + 1) c.args.bytes.now)
      (rw c.in_ok-copy.ensures there)).0 in
      rw (
        c.in_ok-push_quote.ensures,
        c.in_ok-copy.ensures,
        same,
        c.requires.quoted,
        stretch_none c.args.bytes.now (c.args.next + 1),
        append-nil,
      ) refl;
  fits = omega arith;
}
