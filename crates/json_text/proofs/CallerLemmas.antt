-- The lemmas that crates above cite; nothing else of this folder is cited there.
pub use Rattle.json_text.proofs.Strings.{ascii-utf8, four-hex, heads-differ, hex-plain, pieces-once, plain-bare}
pub use Rattle.json_text.proofs.Strings.{plain-quote, plain-slash, quoted-bare, utf8-Quotes}
pub use Rattle.json_text.proofs.Reading.{Blank, Front, Head, Stands-once, Stops, append-none, begins-no-space}
pub use Rattle.json_text.proofs.Reading.{begins_value, decimal-number, first-same, head-apart, is_part_of_literal}
pub use Rattle.json_text.proofs.Reading.{list_all-each, literal-plain, number, number-Head, regroup-last, regroup-next}
pub use Rattle.json_text.proofs.Reading.{space-ends, spread, tail-same, tree-Head, tree-once, values-Front}
pub use Rattle.json_text.proofs.Appending.{extends_by, extends_same, extends_then, on_err, on_err_same, on_err_then}
pub use Rattle.json_text.proofs.Contents.{content-first, drop-after, inside-after, passed_all, passed_within}
pub use Rattle.json_text.proofs.Contents.{prefix-run, run-within, unescaped}
pub use Rattle.json_text.proofs.Collapsed.{bytes_eq-apart, bytes_eq-flip, bytes_eq-same, bytes_eq-true, collapsed-names}
pub use Rattle.json_text.proofs.Collapsed.{collapsed-push, insert_entry, name_of, names_of, none_passes}
pub use Rattle.json_text.proofs.CompactLaws.{AreMembers, Form, Value-Form, Value-compact, Value-deeper, Written}
pub use Rattle.json_text.proofs.CompactLaws.{array-compact, array-written, compact_texts, decimal_nests, items-step}
pub use Rattle.json_text.proofs.CompactLaws.{join-push, listed, literal, literal-compact, membered, members-step}
pub use Rattle.json_text.proofs.CompactLaws.{members-utf8, object-compact, object-written, quote-compact, quoted}
pub use Rattle.json_text.proofs.Forms.{StartsWith, array-or-not, array-starts, form-listed, form-membered, form-quoted}
pub use Rattle.json_text.proofs.Forms.{nests-or-not, object-or-not, object-starts, quote-Quoted, quote-starts}
pub use Rattle.json_text.proofs.Forms.{starts-same, string-or-not}
pub use Rattle.json_text.proofs.FirstLaws.{Contains-first_texts, IsDistinct-filter, IsDistinct-first_texts}
pub use Rattle.json_text.proofs.FirstLaws.{any-first_texts, first_texts-distinct}
pub use Rattle.json_text.proofs.Lists.{Contains-map, Contains-to_map, drop-once, none-is, take-next, taken-next}
pub use Rattle.json_text.proofs.Blanks.{Runs-either, blank-run, run-blank, run-more}
