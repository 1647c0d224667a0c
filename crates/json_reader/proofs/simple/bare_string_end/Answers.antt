use Rattle.std.proofs.Common.{◌≡◌, ◌+◌, true, arith}
use Rattle.json_text.specs.Characters.{is_bare}
use Rattle.json_text.proofs.CallerLemmas.{passed_all}
use Rattle.json_reader.specs.inner.Writing.{stretch}
use Rattle.json_reader.proofs.PlainStrings.{string-there}
use Rattle.json_reader.proofs.simple.bare_string_end.Goals as goal

pub returns-then-stands_at : goal.returns-then-stands_at
returns-then-stands_at c =
    let bytes = c.args.bytes.now in
    let end = c.bare_end-end.result in
    let found = c.bare_end-end.ensures in
    let quote = c.stands_at.ensures c.if-stands_at.true in (
      omega (arith, found.within.0),
      omega (arith, quote.0),
      record {
        text = stretch bytes (c.args.at + 1) end;
        bare = passed_all is_bare (λ b. is_bare b ≡ true) (λ b is. is) bytes (c.args.at + 1) end found.value;
        is = string-there bytes c.args.at end found.within.0 quote.0 c.requires.1 quote.1;
      },
    )
