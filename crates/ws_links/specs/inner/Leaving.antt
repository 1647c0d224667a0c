-- What is still to leave over a link. This project's own.
use Rattle.std.specs.Prelude.{ℕ, Bool, not, ◌&&◌, ◌==◌, cond, List, [], ◌∷◌, length, drop}
use Rattle.std.specs.List.{concat}

-- the bytes of a buffer that have not left, and for how many it has room
pub record Kept : Type 0 where
  pub bytes : List ℕ
  pub room : ℕ

-- replies, and frames of which the first may have begun to leave; how many bytes are held, each
-- frame counted as if it was not shared
pub record Outgoing : Type 0 where
  pub replies : Kept
  pub frames : List (List ℕ)
  pub begun : ℕ
  pub held : ℕ

-- the first of the lists
abbrev pub first_of : List (List ℕ) → List ℕ
first_of [] = []
first_of (xs ∷ rest) = xs

-- the bytes of the frames that have not left
abbrev pub frames_left : Outgoing → List ℕ
frames_left outgoing = drop outgoing.begun (concat outgoing.frames)

-- a reply goes before a frame that hasn't begun to leave
abbrev pub has_reply_first : Outgoing → Bool
has_reply_first outgoing = (outgoing.begun == 0) && not (length outgoing.replies.bytes == 0)

-- what leaves first: the replies, or the rest of the first frame
abbrev pub first_left : Outgoing → List ℕ
first_left outgoing =
    cond (has_reply_first outgoing) outgoing.replies.bytes
    (drop outgoing.begun (first_of outgoing.frames))
