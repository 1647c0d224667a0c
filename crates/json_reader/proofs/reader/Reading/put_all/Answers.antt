use Rattle.json_reader.proofs.Written.{has_run}
use Rattle.json_reader.proofs.reader.Reading.put_all.Goals as goal

pub returns-clause-read : goal.returns-clause-read
returns-clause-read c before ran =
    let put = c.in_ok-put_all.ensures in (
      c.requires.within.0,
      c.requires.within.1,
      λ at read. has_run c.args.bytes.now at c.args.at before c.args.self.now.writer read c.args.end
          c.args.self.now.machine c.put_all.new.self c.requires.within.0 c.requires.within.1 ran put.ready put.fits,
    )
