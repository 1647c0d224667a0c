-- The names of the members of a session's texts, and of a living replica's lines. This project's
-- own.
use Rattle.std.specs.Prelude.{ℕ, List, codes}
use Rattle.session_text.specs.declared.name.MemberName.{MemberName}
use Rattle.session_text.specs.declared.name.MemberName.TheVariants as names

abbrev pub word_of : MemberName → List ℕ
word_of names.Session = codes "session"
word_of names.Replicas = codes "replicas"
word_of names.Seed = codes "seed"
word_of names.Do = codes "do"
word_of names.At = codes "at"
word_of names.Time = codes "time"
word_of names.Capture = codes "capture"
word_of names.Command = codes "command"
word_of names.Elements = codes "elements"
word_of names.To = codes "to"
word_of names.Picks = codes "picks"
word_of names.Id = codes "id"
word_of names.Name = codes "name"
word_of names.Element = codes "element"
word_of names.Spot = codes "spot"
word_of names.Member = codes "member"
word_of names.Value = codes "value"
word_of names.Ids = codes "ids"
word_of names.Arrow = codes "arrow"
word_of names.End = codes "end"
word_of names.Target = codes "target"
word_of names.Binding = codes "binding"
word_of names.Container = codes "container"
word_of names.Text = codes "text"
word_of names.Frame = codes "frame"
word_of names.Group = codes "group"
word_of names.Prefix = codes "prefix"
word_of names.Clip = codes "clip"
word_of names.Replica = codes "replica"
word_of names.Number = codes "number"
word_of names.Message = codes "message"
