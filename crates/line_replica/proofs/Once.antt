-- A line of bytes has one answer in each state, and leads to one.
use Rattle.std.proofs.Common.{◌≡◌, inl, inr, ℕ, List, [], ◌∷◌, Option, Some, None, Result, Ok, Err, drop, sym, ap, ap₂, ◌∙◌, subst}
use Rattle.json_text.specs.Value.{IsCompact}
use Rattle.json_text.proofs.CallerLemmas.{Stands-once, Value-compact}
use Rattle.json_reader.specs.declared.fault.JsonFault.{JsonFault}
use Rattle.json_reader.specs.declared.fault.JsonFault.TheVariants.{Syntax}
use Rattle.json_reader.proofs.CallerLemmas as json
use Rattle.room_msg.specs.Messages.{StandsAlone}
use Rattle.room_msg.proofs.CallerLemmas.{answer-once, more-alone, more-once}
use Rattle.session_text.specs.Lines.{LineText, OpeningText}
use Rattle.session_text.specs.declared.fault.TextFault.{TextFault}
use Rattle.session_text.specs.declared.fault.TextFault.TheVariants.{Json}
use Rattle.session_text.specs.declared.lines.Line.{Line}
use Rattle.session_text.specs.declared.lines.Line.TheVariants as lines
use Rattle.session_text.proofs.CallerLemmas.{line-once, opening-once}
use Rattle.line_replica.specs.Living.{Living, Reply, IsReply, of_read}
use Rattle.line_replica.specs.Talks.{Answers, AnswersAll, GoesOn, IsLineFault, IsReadReply, LineReads, Opens, faulty, opened_by, opening_text, says}

-- ---- how a line is read
fault-alone : (bytes text : List ℕ) (fault : JsonFault) → IsLineFault bytes fault → StandsAlone bytes text → ⊥
fault-alone bytes text fault (inl first) alone = first.faulty text alone.rest alone.stands
fault-alone bytes text fault (inr (at, same, more)) alone = more-alone bytes text at more alone

fault-once : (bytes : List ℕ) (fault other : JsonFault) → IsLineFault bytes fault → IsLineFault bytes other
    → fault ≡ other
fault-once bytes fault other (inl one) (inl two) = json.fault-once bytes 0 fault other one.first two.first
fault-once bytes fault other (inl one) (inr (at, same, two)) =
    absurd (one.faulty two.text (drop two.after bytes) two.stands)
fault-once bytes fault other (inr (at, same, one)) (inl two) =
    absurd (two.faulty one.text (drop one.after bytes) one.stands)
fault-once bytes fault other (inr (at, same, one)) (inr (at', same', two)) =
    same ∙ (ap Syntax (more-once bytes at at' one two) ∙ sym same')

module _ {A : Type 0} (Says : List ℕ → Result A TextFault → Type 0)
    (once : (text : List ℕ) (read other : Result A TextFault) → IsCompact 128 text → Says text read → Says text other
    → read ≡ other) where
  pub reads-once : (bytes : List ℕ) (read other : Result A TextFault) → LineReads Says bytes read
      → LineReads Says bytes other → read ≡ other
  reads-once bytes read other (says text one is) (says text' two are) =
      once text read other (Value-compact one.stands.reads) is
      (subst (λ t. Says t other) (Stands-once two.stands one.stands).0 are)
  reads-once bytes read other (says text one is) (faulty fault two e) = absurd (fault-alone bytes text fault two one)
  reads-once bytes read other (faulty fault one e) (says text two is) = absurd (fault-alone bytes text fault one two)
  reads-once bytes read other (faulty fault one e) (faulty why two e') =
      e ∙ (ap (λ f. refused (Json f)) (fault-once bytes fault why one two) ∙ sym e')
    where
      refused : TextFault → Result A TextFault
      refused f = Err f

-- ---- replies
reply-once : (l : Living) (line : Line) (reply other : Reply) → IsReply l line reply → IsReply l line other
    → reply ≡ other
reply-once l (lines.Change time capture command) reply other one two = one ∙ sym two
reply-once l (lines.Undo time) reply other one two = one ∙ sym two
reply-once l (lines.Redo time) reply other one two = one ∙ sym two
reply-once l (lines.Take elements) reply other one two = one ∙ sym two
reply-once l (lines.Receive text) reply other (read, is, one) (read', is', two) =
    one ∙ (ap (λ r. of_read r l) (answer-once text read read' is is') ∙ sym two)
reply-once l (lines.Hold id) reply other one two = one ∙ sym two
reply-once l (lines.Release id) reply other one two = one ∙ sym two
reply-once l lines.Scene reply other one two = one ∙ sym two
reply-once l lines.State reply other one two = one ∙ sym two
reply-once l (lines.Stored id) reply other one two = one ∙ sym two
reply-once l lines.Lengths reply other one two = one ∙ sym two
reply-once l lines.Pending reply other one two = one ∙ sym two

read-reply-once : (l : Living) (read : Result Line TextFault) (reply other : Reply) → IsReadReply l read reply
    → IsReadReply l read other → reply ≡ other
read-reply-once l (Ok line) reply other one two = reply-once l line reply other one two
read-reply-once l (Err fault) reply other one two = one ∙ sym two

-- ---- answers
opens-once : (bytes text text' : List ℕ) (new new' : Option Living) → Opens bytes text new → Opens bytes text' new'
    → (text ≡ text') × (new ≡ new')
opens-once bytes text text' new new' one two =
    let same = reads-once OpeningText opening-once bytes one.read two.read one.reads two.reads in
    (one.text ∙ (ap opening_text same ∙ sym two.text), one.after ∙ (ap opened_by same ∙ sym two.after))

goes-once : (l : Living) (bytes text text' : List ℕ) (new new' : Option Living) → GoesOn l bytes text new
    → GoesOn l bytes text' new' → (text ≡ text') × (new ≡ new')
goes-once l bytes text text' new new' one two =
    let same = reads-once LineText line-once bytes one.read two.read one.reads two.reads in
    let reply =
    read-reply-once l two.read one.reply two.reply (subst (λ r. IsReadReply l r one.reply) same one.is) two.is in (
      one.text ∙ (ap (λ (r : Reply). r.text) reply ∙ sym two.text),
      one.after
          ∙ (ap (λ (r : Reply). some r.after) reply ∙ sym two.after),
    )
  where
    some : Living → Option Living
    some found = Some found

pub answers-once : (old : Option Living) (bytes text text' : List ℕ) (new new' : Option Living)
    → Answers old bytes text new → Answers old bytes text' new' → (text ≡ text') × (new ≡ new')
answers-once None bytes text text' new new' one two = opens-once bytes text text' new new' one two
answers-once (Some l) bytes text text' new new' one two = goes-once l bytes text text' new new' one two

pub all-once : (old : Option Living) (lines texts texts' : List (List ℕ)) (new new' : Option Living)
    → AnswersAll old lines texts new → AnswersAll old lines texts' new' → (texts ≡ texts') × (new ≡ new')
all-once old [] texts texts' new new' one two = (one.0 ∙ sym two.0, one.1 ∙ sym two.1)
all-once old (line ∷ lines) [] texts' new new' one two = absurd one
all-once old (line ∷ lines) (text ∷ texts) [] new new' one two = absurd two
all-once old (line ∷ lines) (text ∷ texts) (text' ∷ texts') new new' (middle, one, more) (middle', two, others) =
    let first = answers-once old line text text' middle middle' one two in
    let rest = all-once middle lines texts texts' new new' more
    (subst (λ m. AnswersAll m lines texts' new') (sym first.1) others) in
    (ap₂ (λ t ts. t ∷ ts) first.0 rest.0, rest.1)
