use Rattle.std.proofs.Common.{bytes_eq, sym, ap, ◌∙◌, subst}
use Rattle.std.specs.List.{IsDistinct}
use Rattle.json_text.specs.Members.{pairs}
use Rattle.json_text.specs.Parts.{names_of}
use Rattle.json_text.specs.FirstOccurrences.{first_texts}
use Rattle.elem.specs.Texts.{sorted_members}
use Rattle.file_table.specs.References.{referred_files}
use Rattle.file_table.specs.Table.{EntriesNest}
use Rattle.file_table.proofs.Referred.{found, found-by_id, IsDistinct-found, EntriesNest-found}
use Rattle.file_table.proofs.files.Files.referred.Goals as goal

pub returns-clause-exact : goal.returns-clause-exact
returns-clause-exact c =
    let files = c.self.inside.entries.entries in
    ap pairs c.from_vec.ensures ∙ c.in_ok-found.ensures
    ∙ found-by_id files c.in_ok-ids.ids.items
    ∙ ap (found (sorted_members files)) (c.in_ok-ids.ensures.exact
    ∙ ap first_texts (c.as_slice.ensures.value ∙ c.in_ok-named.ensures))
    ∙ ap (λ files. referred_files files c.args.list.now) c.self.view_is

pub returns-clause-distinct : goal.returns-clause-distinct
returns-clause-distinct c =
    subst (λ x. IsDistinct bytes_eq (names_of x)) (sym (ap pairs c.from_vec.ensures ∙ c.in_ok-found.ensures))
    (IsDistinct-found c.self.inside.entries.entries c.in_ok-ids.ids.items c.in_ok-ids.ensures.distinct)

pub returns-clause-nest : goal.returns-clause-nest
returns-clause-nest c =
    subst (EntriesNest 126) (sym (ap pairs c.from_vec.ensures ∙ c.in_ok-found.ensures))
    (EntriesNest-found 126 c.self.inside.entries.entries c.in_ok-ids.ids.items c.self.invariant.nest)
