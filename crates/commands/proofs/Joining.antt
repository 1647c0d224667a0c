-- What heads are joined to, and one more head.
use Rattle.std.proofs.Common.{◌≡◌, ◌+◌, List, [], ◌∷◌, ◌++◌, None, refl, sym, ap, ◌∙◌, subst}
use Rattle.std.specs.List.{flat_map}
use Rattle.json_text.specs.Compact.{Member as Pair}
use Rattle.json_text.specs.Members.{pairs}
use Rattle.file_table.specs.Table.{AreLeastEntries}
use Rattle.file_table.proofs.CallerLemmas.{AreLeastEntries-none}
use Rattle.scene_file.specs.Heads.{Heading, IsJoinedHead, files_of, lesser_source, settings_of}
use Rattle.scene_file.proofs.CallerLemmas.{all-more, least_source-more}
use Rattle.commands.specs.inner.Readers.{AreJoined, HeadsSoFar}

-- what takes all of a list behind what was given before
abbrev pub TakesAll : List Pair → List Pair → List Pair → Type 0
TakesAll members old new = (given : List Pair) → AreLeastEntries given old → AreLeastEntries (given ++ members) new

more : (part : Heading → List Pair) (heads : List Heading) (other : Heading) (old new : List Pair)
    → AreLeastEntries (flat_map part heads) old → TakesAll (part other) old new
    → AreLeastEntries (flat_map part (heads ++ other ∷ [])) new
more part heads other old new before takes =
    subst (λ all. AreLeastEntries all new) (sym (all-more part heads other)) (takes (flat_map part heads) before)

pub joined-more : (heads : List Heading) (old new : HeadsSoFar) (other : Heading)
    → new.source ≡ lesser_source old.source other.source
    → TakesAll (pairs other.app_state) old.settings new.settings → TakesAll other.files old.files new.files
    → AreJoined heads old → AreJoined (heads ++ other ∷ []) new
joined-more heads old new other source settings files before = record {
  source =
      source ∙ (ap (λ least. lesser_source least other.source) before.source ∙ sym (least_source-more heads other));
  settings =
      more (λ (head : Heading). pairs head.app_state) heads other old.settings new.settings before.settings settings;
  files = more (λ (head : Heading). head.files) heads other old.files new.files before.files files;
}

pub nothing-joined : IsJoinedHead [] (record { source = None; app_state = []; files = [] })
nothing-joined = record { source = refl; app_state = AreLeastEntries-none; files = AreLeastEntries-none }

pub none-joined : (settings files : List Pair) → settings ≡ [] → files ≡ []
    → AreJoined [] (record { source = None; settings = settings; files = files })
none-joined settings files no_settings no_files = record {
  source = refl;
  settings = subst (AreLeastEntries []) (sym no_settings) AreLeastEntries-none;
  files = subst (AreLeastEntries []) (sym no_files) AreLeastEntries-none;
}

pub joined-head : (heads : List Heading) (so_far : HeadsSoFar) (head : Heading) → head.source ≡ so_far.source
    → pairs head.app_state ≡ so_far.settings → head.files ≡ so_far.files
    → AreJoined heads so_far → IsJoinedHead heads head
joined-head heads so_far head source settings files are = record {
  source = source ∙ are.source;
  app_state = subst (AreLeastEntries (settings_of heads)) (sym settings) are.settings;
  files = subst (AreLeastEntries (files_of heads)) (sym files) are.files;
}

-- ---- one more member in a table
