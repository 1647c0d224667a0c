use Rattle.board_tables.proofs.MemLemmas.{IsWritten-done}
use Rattle.board_tables.proofs.memory.MemTables.put_write.Goals as goal

pub returns-clause-ok : goal.returns-clause-ok
returns-clause-ok c = IsWritten-done _ _ c.args.write c.keep.result c.keep.ensures.ok
