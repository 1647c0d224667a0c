-- One name after another.
use Rattle.delta.proofs.differing.note_headers.Goals as goal

pub returns : goal.returns
returns c =
    c.note_named-7.ensures _ (c.in_ok-note_named-6.ensures _
    (c.in_ok-note_named-5.ensures _ (c.in_ok-note_named-4.ensures _
    (c.in_ok-note_named-3.ensures _ (c.in_ok-note_named-2.ensures _ (c.in_ok-note_named.ensures _ c.requires.told))))))
