use Rattle.std.proofs.Common.{[], Contains, length, sym, subst, ◌∙◌}
use Rattle.scene_file.specs.Scenes.{scene_text}
use Rattle.session.specs.Clashes.{HaveClashes}
use Rattle.session.specs.Reports.{shown_at}
use Rattle.session.specs.Worlds.{Seat, World, all_elements, head_of, last_world, opened}
use Rattle.session.proofs.CallerLemmas.{clashes-same}
use Rattle.session_laws.proofs.CallerLemmas.{events-seats, opened-seats}
use Rattle.workload.specs.Facts.{IsDrill}
use Rattle.commands.proofs.Drills.{one-shown, unopened, drill-own, drill-unheld, drill-told}
use Rattle.commands.proofs.headline.drills_hold.Goals as goal

pub returns : goal.returns
returns c drill text is drilled =
    let seed = drill.seed in
    let events = drill.events in
    let session = drilled.session in
    let w = last_world session in
    let laws = c.drill_is_read.ensures in
    let one = c.reading_is_unique.ensures.session _ _ session (laws.read seed events is.seed is.most) drilled.read in
    let what = subst (IsDrill seed events) one (laws.drill seed events) in
    let within = c.sessions_keep_limits.ensures _ session drilled.read in
    let whole = sym (c.all_events_lead_to_the_last_world.ensures session) in
    let free : HaveClashes [] (all_elements session w) 0 =
    subst (λ (w : World). HaveClashes [] (all_elements session w) 0) (sym whole)
    (c.sessions_without_updates_have_no_clash.ensures.none session within (drill-own seed events session what)
    (unopened session what.scene) (length session.events)) in
    let same = λ (s other : Seat) (among : Contains w.seats s) (also : Contains w.seats other).
    (c.replicas_hold.ensures.told_all_store_the_same _ session drilled.read
    (drill-unheld seed events session what) (drill-told seed events session what laws.all) s other among also).1 in
    record {
      replicas = events-seats session.events (opened session) ∙ opened-seats session ∙ what.replicas;
      none = clashes-same [] (all_elements session w) drilled.clashes 0 drilled.counted free;
      scenes = same;
      told = one-shown (λ (s : Seat). scene_text (head_of session) (shown_at s)) w.seats same;
    }
