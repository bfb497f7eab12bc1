use Rattle.std.proofs.Common.{◌≡◌, ◌∙◌, refl, sym, ap, subst, List, [], Some, string_bytes}
use Rattle.std.proofs.lemmas.List.{append-nil}
use Rattle.std.proofs.lemmas.Result.{IfOk-weaker}
use Rattle.ocpi_types.specs.declared.packet.Packet.{Packet}
use Rattle.ocpi_types.specs.declared.rows.Change.{Change}
use Rattle.node_steps.specs.declared.fault.NodeFault.TheVariants.{Memory}
use Rattle.world.specs.Seen.{told}
use Rattle.world.specs.State.{WorldState}
use Rattle.world_steps.specs.Steps.{Gives}
use Rattle.line_runs.specs.declared.run.Turn.TheVariants.{Ended, Refused}
use Rattle.node_programs.proofs.PlayLemmas.{told_changes}
use Rattle.program_lines.proofs.FaultLemmas.{of_each}
use Rattle.node_keepers.specs.Keeping.{KeeperTakes, keeping_of}
use Rattle.node_programs.specs.Play.{EventTurn, Happened, Lost, Playing, Stage, Starved, changes_told, event_lines, event_refusal, turn_of}
use Rattle.node_programs.proofs.play.play_read.Goals as goal

pub returns-clause-ok : goal.returns-clause-ok
returns-clause-ok g c =
    let keeping = keeping_of g.K.Keep.content g.K.Keep.is_honest g.K.Keep.refusals in
    let before = c.played.inside.world.places in
    let after = c.step.new.self in
    let event = c.args.event.now in
    let packets = c.packets-packets.result.now in
    let changes = c.changes-2.result.now in
    let o = told c.in-Ok.outcome packets changes in
    let told_of = λ (sent : List Packet) (made : List Change). Gives before event (told c.in-Ok.outcome sent made) after.places in
    let gives = subst (told_of packets) (sym c.changes-2.ensures)
    (subst (λ (sent : List Packet). told_of sent after.changes) (sym c.packets-packets.ensures) c.in-Ok.ensures.ok) in
    let kept = c.commit.new.kept.items in
    let told_is = told_changes c.in-Ok.outcome packets changes (λ not. c.changes-2.ensures ∙ (c.in-Ok.ensures.idle not).1) in
    let takes = subst (λ (made : List Change). KeeperTakes keeping event.node made c.played.inside.kept.items kept)
    (c.changes.ensures ∙ sym c.changes-2.ensures ∙ told_is) c.in-Ok-commit.ensures.ok in
    let next : Stage g.row.K.Denot = record { playing = Some (record { setup = c.played.inside.setup; world = after.places; kept = kept }); stop = c.args.stop.now } in
    IfOk-weaker c.write_outcome.result _ _ (λ turn r. (
      event_lines c.args.number o,
      r.1,
      λ line is. subst (λ (now : Playing g.row.K.Denot). EventTurn keeping c.args.number c.args.stop.now now line turn (event_lines c.args.number o) next) c.played.view_is
          (Happened event is o after.places gives kept takes r.0 refl refl),
    )) c.write_outcome.ensures

-- what came of it was not spelled
pub returns-clause-err : goal.returns-clause-err
returns-clause-err g c =
    let keeping = keeping_of g.K.Keep.content g.K.Keep.is_honest g.K.Keep.refusals in
    let before = c.played.inside.world.places in
    let after = c.step.new.self in
    let event = c.args.event.now in
    let packets = c.packets-packets.result.now in
    let changes = c.changes-2.result.now in
    let o = told c.in-Ok.outcome packets changes in
    let told_of = λ (sent : List Packet) (made : List Change). Gives before event (told c.in-Ok.outcome sent made) after.places in
    let gives = subst (told_of packets) (sym c.changes-2.ensures)
    (subst (λ (sent : List Packet). told_of sent after.changes) (sym c.packets-packets.ensures) c.in-Ok.ensures.ok) in
    let kept = c.commit.new.kept.items in
    let told_is = told_changes c.in-Ok.outcome packets changes (λ not. c.changes-2.ensures ∙ (c.in-Ok.ensures.idle not).1) in
    let takes = subst (λ (made : List Change). KeeperTakes keeping event.node made c.played.inside.kept.items kept)
    (c.changes.ensures ∙ sym c.changes-2.ensures ∙ told_is) c.in-Ok-commit.ensures.ok in
    let next : Stage g.row.K.Denot = record { playing = Some (record { setup = c.played.inside.setup; world = after.places; kept = kept }); stop = c.args.stop.now } in
    of_each c.write_outcome.result (
      turn_of o,
      event_lines c.args.number o,
      λ line is. subst (λ (now : Playing g.row.K.Denot). EventTurn keeping c.args.number c.args.stop.now now line (turn_of o) (event_lines c.args.number o) next) c.played.view_is
          (Happened event is o after.places gives kept takes refl refl refl),
    )

pub returns-in_default-clause-ok : goal.returns-in_default-clause-ok
returns-in_default-clause-ok g c =
    let playing : WorldState → Playing g.row.K.Denot = λ world. record { setup = c.played.inside.setup; world = world.places; kept = c.played.inside.kept.items } in
    let unchanged = ap playing c.in_default.ensures.err ∙ c.played.view_is in (
      event_refusal c.args.number Memory,
      c.in_ok-refuse_event.ensures,
      λ line is. Starved c.args.event.now is refl refl (ap (λ q. record { playing = Some q; stop = c.args.stop.now }) unchanged),
    )

-- the refusal was not spelled
pub returns-in_err-refuse_event-clause-err : goal.returns-in_err-refuse_event-clause-err
returns-in_err-refuse_event-clause-err g c =
    let playing : WorldState → Playing g.row.K.Denot = λ world. record { setup = c.played.inside.setup; world = world.places; kept = c.played.inside.kept.items } in
    let unchanged = ap playing c.in_default.ensures.err ∙ c.played.view_is in
    of_each c.from_residual.result (
      Refused,
      event_refusal c.args.number Memory,
      λ line is. Starved c.args.event.now is refl refl (ap (λ q. record { playing = Some q; stop = c.args.stop.now }) unchanged),
    )

pub returns-in-Err-clause-ok : goal.returns-in-Err-clause-ok
returns-in-Err-clause-ok g c =
    let keeping = keeping_of g.K.Keep.content g.K.Keep.is_honest g.K.Keep.refusals in
    let before = c.played.inside.world.places in
    let after = c.step.new.self in
    let event = c.args.event.now in
    let o = told c.in-Ok.outcome after.packets after.changes in
    let told_is = told_changes c.in-Ok.outcome after.packets after.changes (λ not. (c.in-Ok.ensures.idle not).1) in
    let some = λ (none : changes_told o ≡ []). c.in-Err.ensures.some (c.changes.ensures ∙ told_is ∙ none) in
    let fault = c.in-Err.fault in
    let kept = c.commit.new.kept.items in
    let next : Stage g.row.K.Denot = record { playing = Some (record { setup = c.played.inside.setup; world = after.places; kept = kept }); stop = Some fault } in (
      [],
      sym (append-nil (string_bytes c.args.output.now)),
      λ line is. subst (λ (now : Playing g.row.K.Denot). EventTurn keeping c.args.number c.args.stop.now now line Ended [] next) c.played.view_is
          (Lost event is o after.places c.in-Ok.ensures.ok some fault kept c.in-Err.ensures.err refl refl refl),
    )
