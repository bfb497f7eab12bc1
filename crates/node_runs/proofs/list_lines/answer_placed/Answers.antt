use Rattle.std.proofs.Common.{Bool, refl, sym, subst, string_bytes}
use Rattle.std.proofs.lemmas.Result.{IfOk-weaker}
use Rattle.node_runs.specs.Afters.{DoesPlaced}
use Rattle.node_runs.proofs.ListLemmas.{applied, elsewhere, step_refused}
use Rattle.node_runs.proofs.list_lines.answer_placed.Goals as goal

pub returns-then-not-is_same-clause-ok : goal.returns-then-not-is_same-clause-ok
returns-then-not-is_same-clause-ok g c = λ read is.
    elsewhere c.args.party.now c.args.transaction.now c.args.transaction.now c.args.number c.args.place read
    (string_bytes c.args.lines.now) (string_bytes c.write_skipped.new.output) c.args.event.now is
    (λ e. absurd (cc (c.is_same.ensures.1 e, c.if-not-is_same.true))) refl c.in_ok-write_skipped.ensures

pub returns-in_ok-write_applied-in-Ok-clause-ok : goal.returns-in_ok-write_applied-in-Ok-clause-ok
returns-in_ok-write_applied-in-Ok-clause-ok g c = λ read is.
    applied c.args.party.now c.args.transaction.now c.apply.new.self c.args.number c.args.place read
    (string_bytes c.args.lines.now) (string_bytes c.write_applied.new.output) c.args.event.now
    (record { is = is; same = c.is_same.ensures.0 (cc (c.if-not-is_same.false)) }) c.in-Ok.applied c.in-Ok.ensures.ok c.in_ok-write_applied-in-Ok.ensures

pub returns-in-Err-clause-ok : goal.returns-in-Err-clause-ok
returns-in-Err-clause-ok g c =
    let now = c.args.transaction.now in
    let new = c.apply.new.self in
    let before = string_bytes c.args.lines.now in
    let after = string_bytes c.tell_refused_at.new.lines in
    IfOk-weaker c.tell_refused_at.result _ _ (λ taken told read is.
    subst (λ (b : Bool). DoesPlaced c.args.party.now now c.args.number c.args.place read b before after new) (sym told.0)
    (step_refused c.args.party.now now new c.args.number c.args.place read before after c.args.event.now
    (record { is = is; same = c.is_same.ensures.0 (cc (c.if-not-is_same.false)) }) c.in-Err.fault c.in-Err.ensures.err told.1))
    c.tell_refused_at.ensures
