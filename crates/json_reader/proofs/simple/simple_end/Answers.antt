use Rattle.std.proofs.Common.{arith}
use Rattle.json_reader.proofs.SimpleValues.{empty-simple, number-simple, string-simple, word-simple}
use Rattle.json_reader.proofs.simple.simple_end.Goals as goal

pub returns-in_ok-bare_string_end-in-34 : goal.returns-in_ok-bare_string_end-in-34
returns-in_ok-bare_string_end-in-34 c =
    let found = c.in_ok-bare_string_end-in-34.ensures in
    (omega (arith, found.0), found.1, string-simple _ found.2)

pub returns-in_ok-word_end-in_default : goal.returns-in_ok-word_end-in_default
returns-in_ok-word_end-in_default c =
    let found = c.in_ok-word_end-in_default.ensures in
    (found.0, found.1, word-simple _ found.2)

pub returns-in_ok-empty_end-in-91 : goal.returns-in_ok-empty_end-in-91
returns-in_ok-empty_end-in-91 c =
    let found = c.in_ok-empty_end-in-91.ensures in
    (found.0, found.1, rw found.2 empty-simple)

pub returns-in_ok-last-in-45-to-57 : goal.returns-in_ok-last-in-45-to-57
returns-in_ok-last-in-45-to-57 c =
    let found = c.in_ok-last-in-45-to-57.ensures in
    (omega (arith, found.0), found.1, number-simple _ _ found.2)
