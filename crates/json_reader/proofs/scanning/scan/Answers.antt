use Rattle.std.proofs.Common.{◌≡◌, ◌∷◌, Err, drop, length, arith, sym, ap, ◌∙◌}
use Rattle.json_text.proofs.CallerLemmas.{Stands-once}
use Rattle.json_reader.proofs.Outcomes.{broken_first, refused_in}
use Rattle.json_reader.proofs.scanning.scan.Goals as goal

pub returns-in_err-finish-in-Through-clause-fault : goal.returns-in_err-finish-in-Through-clause-fault
returns-in_err-finish-in-Through-clause-fault c fault is =
    let bytes = c.args.bytes.now in
    let came = rw c.in-Through.is at (c.in_ok-reader.ensures c.args.at (c.new.ensures bytes c.requires)) in
    let same = rw is at c.from_residual-in_err-finish-in-Through.ensures.1 in
    broken_first bytes c.args.at c.requires _ fault (c.in_err-finish-in-Through.ensures.fault fault (ap Err (sym same))
    c.args.at came.0)

pub returns-in_ok-finish-in-Through-clause-only : goal.returns-in_ok-finish-in-Through-clause-only
returns-in_ok-finish-in-Through-clause-only c text rest stands =
    let bytes = c.args.bytes.now in
    let came = rw c.in-Through.is at (c.in_ok-reader.ensures c.args.at (c.new.ensures bytes c.requires)) in
    let both = Stands-once stands (c.in_ok-finish-in-Through.ensures.value c.args.at came.0) in
    (both.0, both.1 ∙ ap (λ k. drop k bytes) came.1)

pub returns-in-Ended-clause-only : goal.returns-in-Ended-clause-only
returns-in-Ended-clause-only c text rest stands =
    let came = rw c.in-Ended.is at (c.in_ok-reader.ensures c.args.at (c.new.ensures c.args.bytes.now c.requires)) in
    Stands-once stands came.3

pub returns-in-Refused-clause-fault : goal.returns-in-Refused-clause-fault
returns-in-Refused-clause-fault c fault is =
    let bytes = c.args.bytes.now in
    let came = rw c.in-Refused.is at (c.in_ok-reader.ensures c.args.at (c.new.ensures bytes c.requires)) in
    let same : c.fault.result ≡ fault = cc in
    let r = refused_in bytes c.args.at c.in-Refused.machine c.in-Refused.next came c.in-Refused.next (length bytes)
    (omega arith) fault (sym same ∙ c.fault.ensures) in
    broken_first bytes c.args.at c.requires (r.byte ∷ r.more) fault r.broken
