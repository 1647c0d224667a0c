use Rattle.std.proofs.Common.{arith}
use Rattle.json_reader.proofs.Written.{can_put, has_put}
use Rattle.json_reader.proofs.reader.Reading.put.Goals as goal

pub put-requires-clause-can : goal.put-requires-clause-can
put-requires-clause-can c =
    let read = c.requires.read in
    can_put c.args.bytes.now read.1.0 c.args.at read.0 c.args.self.now.writer read.1.1 c.args.self.now.machine
    c.requires.within (rw c.requires.byte read.2)

pub returns-clause-read : goal.returns-clause-read
returns-clause-read c before goes = (
  omega arith,
  omega (arith, c.requires.within),
  λ from read. has_put c.args.bytes.now from c.args.at before c.args.self.now.writer read c.args.self.now.machine
      c.requires.within (rw c.requires.byte goes) c.put.new.self c.in_ok-put.ensures,
)
