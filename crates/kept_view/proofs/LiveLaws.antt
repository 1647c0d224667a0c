-- A kept view after elements took the places of others, and after one was redrawn.
use Rattle.std.proofs.Common.{◌≡◌, true, false, not, ◌&&◌, ◌||◌, List, ◌++◌, All, Option, Some, None, filter_map, map, refl, sym, ap, ◌∙◌}
use Rattle.std.specs.List.{list_all}
use Rattle.std.specs.Option.{option_map, option_map_or}
use Rattle.std.proofs.lemmas.List.Elements.{recursion_from_All}
use Rattle.frac_keys.specs.Rising.{are_rising}
use Rattle.elem.specs.ElementValue.{ElementValue}
use Rattle.elem_store.specs.Updates.{element_of, ids_of}
use Rattle.links.specs.declared.rows.LinkRow.{LinkRow}
use Rattle.links.specs.Rows.{has_row}
use Rattle.links.specs.Steps.{names_id}
use Rattle.view.specs.Shown.{is_live, IsView}
use Rattle.view.proofs.CallerLemmas.{HaveDistinctIds-rising}
use Rattle.kept_view.specs.declared.places.Put.{Put}
use Rattle.kept_view.specs.inner.Changes.{redrawn_as}
use Rattle.kept_view.specs.inner.Putting.{puts_of, IsInPlace, all_put}
use Rattle.view.specs.Kept.{HaveRowsOf}
use Rattle.kept_view.specs.declared.unsettled.Unsettled.{Unsettled}
use Rattle.kept_view.specs.inner.Unsettled.{put_ids, AreNoted, HaveNoted, StillHave}
use Rattle.kept_view.specs.inner.Replacing.{AreRepairs, AreRowsOfAll, HaveReplaced, IsKeptView}
use Rattle.kept_view.proofs.Redrawn.{element-redrawn}
use Rattle.kept_view.proofs.RowLaws.{rows-replaced}
use Rattle.kept_view.proofs.ShownAfter.{has-replaced, view-after}
use Rattle.kept_view.proofs.UnsettledLaws.{others-replaced}

module _ (live drawn news : List ElementValue) (held puts : List Put) (rows : List LinkRow)
    (unsettled : Unsettled) (is : IsKeptView live drawn rows unsettled) (ordered : are_rising (ids_of news)
    ≡ true) (live_news : list_all is_live news ≡ true)
    (are : puts_of held ≡ news) (in_place : All (IsInPlace live) held) (repairs : AreRepairs live drawn news puts) where
  pub replaced : HaveReplaced live news (all_put held live)
  replaced = has-replaced live drawn news held is.view ordered live_news are (recursion_from_All _ _ in_place)

  pub IsView-after : IsView (all_put held live) (all_put puts drawn)
  IsView-after = view-after live drawn news held is.view ordered live_news are (recursion_from_All _ _ in_place) puts
      repairs (recursion_from_All _ _ repairs.placed)

  pub IsKeptView-after : (old_rows new_rows new : List LinkRow) (noted settled : Unsettled)
      → AreRowsOfAll (filter_map (λ (e : ElementValue). element_of live e.id) news) old_rows
      → AreRowsOfAll news new_rows
      → ((row : LinkRow) → has_row new row ≡ (has_row new_rows row || (has_row rows row && not (has_row old_rows row))))
      → StillHave unsettled noted → HaveNoted (put_ids puts ++ ids_of news) noted
      → (AreNoted noted (all_put held live) (all_put puts drawn)
      → AreNoted settled (all_put held live) (all_put puts drawn))
      → IsKeptView (all_put held live) (all_put puts drawn) new settled
  IsKeptView-after old_rows new_rows new noted settled are_old are_new has kept has_noted settle = record {
    view = IsView-after;
    table = rows-replaced live news (all_put held live) rows old_rows new_rows new (HaveDistinctIds-rising news ordered)
        is.table are_old are_new has replaced;
    noted = settle (others-replaced live drawn unsettled noted is.noted kept news (all_put held live) puts repairs
        replaced has_noted);
  }

-- the rows stay where an element is redrawn
pub rows-redrawn : (new : ElementValue) (live : List ElementValue) (rows : List LinkRow) → HaveRowsOf live rows
    → HaveRowsOf (map (redrawn_as new) live) rows
rows-redrawn new live rows have named namer = have named namer ∙ by (element_of live namer)
    ∙ sym (ap (λ o. option_map_or (names_id named) o false) (element-redrawn new namer live)) where
      by : (o : Option ElementValue) → option_map_or (names_id named) o false
          ≡ option_map_or (names_id named) (option_map (redrawn_as new) o) false
      by None = refl
      by (Some e) = refl
