-- Each line of bytes has an answer.
use Rattle.std.proofs.Common.{◌⊎◌, ◌+◌, inl, inr, ℕ, List, Option, Some, None, Result, Ok, Err, length, drop, refl, arith, length-drop}
use Rattle.std.specs.List.{prefix_len}
use Rattle.std.proofs.lemmas.Bool.{cases_lt}
use Rattle.json_text.specs.Characters.{is_space}
use Rattle.json_text.specs.Value.{IsCompact}
use Rattle.json_text.proofs.CallerLemmas.{Value-compact, run-blank}
use Rattle.json_reader.specs.declared.fault.JsonFault.{JsonFault}
use Rattle.json_reader.specs.declared.fault.JsonFault.TheVariants.{Syntax}
use Rattle.json_reader.proofs.CallerLemmas.{value-or-fault}
use Rattle.room_msg.specs.Messages.{IsReadAs, StandsAlone}
use Rattle.room_msg.specs.declared.fault.MsgFault.{MsgFault}
use Rattle.room_msg.specs.declared.message.Message.{Message}
use Rattle.session_text.specs.Lines.{LineText, OpeningText}
use Rattle.session_text.specs.declared.fault.TextFault.{TextFault}
use Rattle.session_text.specs.declared.fault.TextFault.TheVariants.{Json}
use Rattle.session_text.specs.declared.lines.Line.{Line}
use Rattle.session_text.specs.declared.lines.Line.TheVariants as lines
use Rattle.session_text.proofs.CallerLemmas.{line-told, opening-told}
use Rattle.line_replica.specs.Living.{Living, Reply, IsReply, of_read}
use Rattle.line_replica.specs.Talks.{Answers, IsLineFault, IsReadReply, LineReads, faulty, opened_by, opening_text, says}

-- one value stands alone in the bytes, or they have a first fault
alone-or-fault : (bytes : List ℕ) → ((text : List ℕ) × StandsAlone bytes text)
    ⊎ ((fault : JsonFault) × IsLineFault bytes fault)
alone-or-fault bytes = elim (value-or-fault bytes 0 (omega arith)) [
  | inr (fault, first) ↦ inr (fault, inl first)
  | inl (text, end, within, stands) ↦ elim (cases_lt (prefix_len is_space (drop end bytes)) (length (drop end bytes))) [
    | inr all ↦ inl (
      text,
      record {
        rest = drop end bytes;
        stands = stands;
        space =
            run-blank (drop end bytes) (omega (arith, all));
      },
    )
    | inl less ↦
        let at : ℕ = end + prefix_len is_space (drop end bytes) in
        inr (
          Syntax at,
          inr (
            at,
            refl,
            record {
              text = text;
              after = end;
              within = within;
              stands = stands;
              behind = refl;
              more = omega (arith, less, within, length-drop end bytes);
            },
          ),
        )
  ]
]

module _ {A : Type 0} (Says : List ℕ → Result A TextFault → Type 0) (told : (text : List ℕ) → IsCompact 128 text
    → (read : Result A TextFault) × Says text read) where
  reads-exist : (bytes : List ℕ) → (read : Result A TextFault) × LineReads Says bytes read
  reads-exist bytes = elim (alone-or-fault bytes) [
    | inl (text, alone) ↦ let read = told text (Value-compact alone.stands.reads) in (read.0, says text alone read.1)
    | inr (fault, is) ↦ (Err (Json fault), faulty fault is refl)
  ]

-- each message is read, or has a first fault
module _ (exists : (text : List ℕ) → (read : Result Message MsgFault) × IsReadAs text read) where
  reply-exists : (l : Living) (line : Line) → (reply : Reply) × IsReply l line reply
  reply-exists l (lines.Change time capture command) = (_, refl)
  reply-exists l (lines.Undo time) = (_, refl)
  reply-exists l (lines.Redo time) = (_, refl)
  reply-exists l (lines.Take elements) = (_, refl)
  reply-exists l (lines.Receive text) = let read = exists text in (of_read read.0 l, (read.0, read.1, refl))
  reply-exists l (lines.Hold id) = (_, refl)
  reply-exists l (lines.Release id) = (_, refl)
  reply-exists l lines.Scene = (_, refl)
  reply-exists l lines.State = (_, refl)
  reply-exists l (lines.Stored id) = (_, refl)
  reply-exists l lines.Lengths = (_, refl)
  reply-exists l lines.Pending = (_, refl)

  read-reply-exists : (l : Living) (read : Result Line TextFault) → (reply : Reply) × IsReadReply l read reply
  read-reply-exists l (Ok line) = reply-exists l line
  read-reply-exists l (Err fault) = (_, refl)

  pub answer-exists : (old : Option Living) (bytes : List ℕ) → (text : List ℕ) × (new : Option Living)
      × Answers old bytes text new
  answer-exists None bytes =
      let reads = reads-exist OpeningText opening-told bytes in
      (opening_text reads.0, opened_by reads.0, record { read = reads.0; reads = reads.1; text = refl; after = refl })
  answer-exists (Some l) bytes =
      let reads = reads-exist LineText line-told bytes in
      let reply = read-reply-exists l reads.0 in (
        reply.0.text,
        Some reply.0.after,
        record {
          read = reads.0;
          reads = reads.1;
          reply = reply.0;
          is = reply.1;
          text =
              refl;
          after = refl;
        },
      )
