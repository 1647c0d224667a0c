-- A line of bytes is answered as it should be.
use Rattle.std.proofs.Common.{◌≡◌, ℕ, List, Option, Some, None, Ok, Err, refl}
use Rattle.json_reader.specs.declared.fault.JsonFault.{JsonFault}
use Rattle.room_msg.specs.Messages.{StandsAlone}
use Rattle.session_text.specs.Lines.{LineText, OpeningText}
use Rattle.session_text.specs.declared.fault.TextFault.{TextFault}
use Rattle.session_text.specs.declared.fault.TextFault.TheVariants.{Json}
use Rattle.session_text.specs.declared.lines.Line.{Line}
use Rattle.session_text.specs.declared.lines.Opening.{Opening}
use Rattle.line_replica.specs.Living.{Living, opened_as, opened_text, unchanged}
use Rattle.line_replica.specs.Standing.{HasAnswered, HasTold, Held, LifeStandsFor, TalkStandsFor}
use Rattle.line_replica.specs.Talks.{IsLineFault, LineReads, faulty, faulty_text, says}

-- ---- before the opening
unopened : (bytes text : List ℕ) (fault : TextFault) → LineReads OpeningText bytes (Err fault)
    → text ≡ faulty_text fault → HasTold None bytes text None
unopened bytes text fault reads told =
    record {
      after = None;
      answers = record { read = Err fault; reads = reads; text = told; after = refl };
      stands =
          tt;
    }

pub unopened-form : (bytes text : List ℕ) (fault : JsonFault) → IsLineFault bytes fault
    → text ≡ faulty_text (Json fault) → HasTold None bytes text None
unopened-form bytes text fault is told = unopened bytes text (Json fault) (faulty fault is refl) told

pub unopened-text : (bytes value text : List ℕ) (fault : TextFault) → StandsAlone bytes value
    → OpeningText value (Err fault) → text ≡ faulty_text fault → HasTold None bytes text None
unopened-text bytes value text fault alone is told = unopened bytes text fault (says value alone is) told

pub opened-told : (bytes value text : List ℕ) (opening : Opening) (held : Held) → StandsAlone bytes value
    → OpeningText value (Ok opening) → text ≡ opened_text → LifeStandsFor held (opened_as opening)
    → HasTold None bytes text (Some held)
opened-told bytes value text opening held alone is told stands = record {
  after = Some (opened_as opening);
  answers = record { read = Ok opening; reads = says value alone is; text = told; after = refl };
  stands = stands;
}

-- ---- behind it
refused : (l : Living) (bytes text : List ℕ) (fault : TextFault) (held : Held) → LineReads LineText bytes (Err fault)
    → text ≡ faulty_text fault → LifeStandsFor held l → HasTold (Some l) bytes text (Some held)
refused l bytes text fault held reads told stands = record {
  after = Some l;
  answers = record {
    read = Err fault;
    reads = reads;
    reply = unchanged (faulty_text fault) l;
    is = refl;
    text = told;
    after = refl;
  };
  stands = stands;
}

pub refused-form : (l : Living) (bytes text : List ℕ) (fault : JsonFault) (held : Held) → IsLineFault bytes fault
    → text ≡ faulty_text (Json fault) → LifeStandsFor held l → HasTold (Some l) bytes text (Some held)
refused-form l bytes text fault held is told stands =
    refused l bytes text (Json fault) held (faulty fault is refl) told stands

pub refused-text : (l : Living) (bytes value text : List ℕ) (fault : TextFault) (held : Held) → StandsAlone bytes value
    → LineText value (Err fault) → text ≡ faulty_text fault → LifeStandsFor held l
    → HasTold (Some l) bytes text (Some held)
refused-text l bytes value text fault held alone is told stands =
    refused l bytes text fault held (says value alone is) told stands

pub line-told : (l : Living) (bytes value text : List ℕ) (line : Line) (held : Held) → StandsAlone bytes value
    → LineText value (Ok line) → HasAnswered l line text held → HasTold (Some l) bytes text (Some held)
line-told l bytes value text line held alone is answered = record {
  after = Some answered.reply.after;
  answers = record {
    read = Ok line;
    reads = says value alone is;
    reply = answered.reply;
    is = answered.is;
    text = answered.given.text;
    after = refl;
  };
  stands = answered.given.stands;
}

pub goes-on : (held new : Held) (bytes text : List ℕ)
    → ((l : Living) → LifeStandsFor held l → HasTold (Some l) bytes text (Some new)) → (old : Option Living)
    → TalkStandsFor (Some held) old
    → HasTold old bytes text (Some new)
goes-on held new bytes text each None stands = absurd stands
goes-on held new bytes text each (Some l) stands = each l stands
