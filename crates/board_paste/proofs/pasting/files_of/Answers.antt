use Rattle.std.proofs.Common.{◌≡◌, ◌<◌, [], length, get_or, take_all, sym, ap, subst, arith}
use Rattle.json_text.specs.Members.{pairs}
use Rattle.json_text.specs.Value.{IsCompact}
use Rattle.json_text.specs.declared.text.Member.{Member}
use Rattle.file_table.specs.Table.{AreLeastEntries}
use Rattle.file_table.proofs.CallerLemmas.{AreLeastEntries-none}
use Rattle.scene_file.proofs.CallerLemmas.{nests-at, table-more}
use Rattle.board_paste.proofs.pasting.files_of.Goals as goal

pub loop-file-init : goal.loop-file-init
loop-file-init c = subst (AreLeastEntries []) (sym c.new-table.ensures) AreLeastEntries-none

pub take-requires : goal.take-requires
take-requires c =
    let m = c.file-item.result in
    let i = c.loop-file.file-index in
    let here : m ≡ get_or c.args.files.now i m = cc in
    let within : i < length c.args.files.now = omega (arith, ap length c.as_slice-file-items.ensures) in
    subst (λ (copy : Member). IsCompact 126 copy.value) (sym c.in_ok-copy.ensures)
    (nests-at 126 c.args.files.now i m c.requires within here)

pub loop-file-preserved : goal.loop-file-preserved
loop-file-preserved c =
    let m = c.file-item.result in
    let i = c.loop-file.file-index in
    let here : m ≡ get_or c.args.files.now i m = cc in
    let within : i < length c.args.files.now = omega (arith, ap length c.as_slice-file-items.ensures) in
    table-more [] c.args.files.now i m c.in_ok-copy.copy _ _ within here c.in_ok-copy.ensures c.loop-file.invariant
    c.in_ok-take.ensures.taken

pub returns : goal.returns
returns c =
    let all =
    take_all c.loop-file.file-index c.args.files.now (omega (arith, ap length c.as_slice-file-items.ensures)) in
    subst (λ ms. AreLeastEntries (pairs ms) c.loop-file.table) all c.loop-file.invariant
