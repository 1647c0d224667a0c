use Rattle.std.proofs.Common.{codes, length, refl, sym, subst}
use Rattle.std.proofs.lemmas.Result.{IfOk-weaker}
use Rattle.scene_file.specs.Scenes.{scene_text, state_text}
use Rattle.session_text.specs.declared.lines.Line.{Line}
use Rattle.session_text.specs.declared.lines.Line.TheVariants as lines
use Rattle.session.specs.Reports.{shown_at}
use Rattle.line_replica.specs.Living.{lengths_text, pending_text, stored_text, told}
use Rattle.line_replica.specs.Standing.{HasAnswered, Held, LifeStandsFor}
use Rattle.line_replica.proofs.LivingLaws.{unchanged-answered}
use Rattle.line_replica.proofs.life.Life.answer.Goals as goal

pub returns-in-Scene-clause-answered : goal.returns-in-Scene-clause-answered
returns-in-Scene-clause-answered c =
    let held = c.args.self.now in
    IfOk-weaker c.scene.result _ _
    (λ text says l stands.
    subst (λ (line : Line). HasAnswered l line text held) (sym c.in-Scene.is)
    (unchanged-answered l lines.Scene text (told (codes "scene") (scene_text l.head (shown_at l.seat))) held stands
    (says l stands) refl))
    c.scene.ensures

pub returns-in-State-clause-answered : goal.returns-in-State-clause-answered
returns-in-State-clause-answered c =
    let held = c.args.self.now in
    IfOk-weaker c.state.result _ _
    (λ text says l stands.
    subst (λ (line : Line). HasAnswered l line text held) (sym c.in-State.is)
    (unchanged-answered l lines.State text (told (codes "state") (state_text l.head l.seat.state.stored)) held stands
    (says l stands) refl))
    c.state.ensures

pub returns-in-Stored-clause-answered : goal.returns-in-Stored-clause-answered
returns-in-Stored-clause-answered c =
    let held = c.args.self.now in
    IfOk-weaker c.stored.result _ _
    (λ text says l stands.
    subst (λ (line : Line). HasAnswered l line text held) (sym c.in-Stored.is)
    (unchanged-answered l (lines.Stored c.in-Stored.id) text (stored_text c.in-Stored.id l.seat.state) held stands
    (says l stands) refl))
    c.stored.ensures

pub returns-in-Lengths-clause-answered : goal.returns-in-Lengths-clause-answered
returns-in-Lengths-clause-answered c =
    let held = c.args.self.now in
    IfOk-weaker c.lengths.result _ _
    (λ text says l stands.
    subst (λ (line : Line). HasAnswered l line text held) (sym c.in-Lengths.is)
    (unchanged-answered l lines.Lengths text (lengths_text (length l.seat.state.undo) (length l.seat.state.redo)) held
    stands (says l stands) refl))
    c.lengths.ensures

pub returns-in-Pending-clause-answered : goal.returns-in-Pending-clause-answered
returns-in-Pending-clause-answered c =
    let held = c.pending.new.self in
    IfOk-weaker c.pending.result _ _
    (λ text says l stands.
    subst (λ (line : Line). HasAnswered l line text held) (sym c.in-Pending.is)
    (unchanged-answered l lines.Pending text (pending_text l.seat.state) held
    (subst (λ (h : Held). LifeStandsFor h l) (sym c.pending.ensures.kept) stands) (says l stands) refl))
    c.pending.ensures.text
