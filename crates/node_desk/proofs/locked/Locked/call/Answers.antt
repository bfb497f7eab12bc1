use Rattle.std.proofs.Common.{IfErr, IfOk, ap, subst, sym}
use Rattle.stored_nodes.specs.Keepers.{keeper_of}
use Rattle.node_desk.proofs.Calling.{was_entered, was_refused}
use Rattle.node_desk.proofs.Going.{goes_on, still}
use Rattle.node_desk.proofs.locked.Locked.call.Goals as goal
use Rattle.node_desk.proofs.locked.Locked.call.Goals.{in-Ok, in-Err}
use Rattle.node_desk.specs.Calls.{WasEntered, WasRefused}
use Rattle.node_desk.specs.Logs.{GoesOn, log_of}
use Rattle.node_desk.specs.Passes.{PassOf}
use Rattle.node_desk.specs.declared.locked.Locked.TheInside.{Inside}
use Rattle.receipts.specs.Audits.{entry_of}

pub invariant_of-self : goal.invariant_of-self
invariant_of-self g c =
    elim c.match-call.branch [
      | in-Ok w ↦
          subst (λ (i : Inside g.row.J.Denot g.row.K.Denot). GoesOn g.J.Naming.before (log_of i.cell) i.made.total) (sym w.self-inside-is)
          (goes_on (keeper_of g.K.Keep.content g.K.Keep.is_honest g.K.Keep.refusals g.K.Keep.may_leave) g.J.Naming.before c.self.inside.cell c.call.new.cell (entry_of w.in-Ok.receipt) c.self.inside.made.total w.add.new.self.total c.self.invariant w.in-Ok.ensures.entered w.add.ensures.total)
      | in-Err w ↦
          subst (λ (i : Inside g.row.J.Denot g.row.K.Denot). GoesOn g.J.Naming.before (log_of i.cell) i.made.total) (sym w.self-inside-is)
          (still (keeper_of g.K.Keep.content g.K.Keep.is_honest g.K.Keep.refusals g.K.Keep.may_leave) c.self.inside.cell c.call.new.cell g.J.Naming.before c.pass.inside.seen c.args.event w.in-Err.refusal.fault c.self.inside.made.total c.self.invariant w.in-Err.ensures.refused)
    ]

pub returns-clause-was_entered : goal.returns-clause-was_entered
returns-clause-was_entered g c =
    let keeper = keeper_of g.K.Keep.content g.K.Keep.is_honest g.K.Keep.refusals g.K.Keep.may_leave in
    elim c.match-call.branch [
      | in-Ok w ↦ subst (λ r. IfOk r (WasEntered keeper g.J.Naming.before)) (sym w.result-is)
          (was_entered keeper g.J.Naming.before c.self.inside.cell c.call.new.cell c.self.inside.made.total c.is_replay.ensures c.self.invariant w.in-Ok.receipt w.in-Ok.ensures.entered w.in-Ok.ensures.place)
      | in-Err w ↦ subst (λ r. IfOk r (WasEntered keeper g.J.Naming.before)) (sym w.result-is) tt
    ]

pub returns-clause-was_refused : goal.returns-clause-was_refused
returns-clause-was_refused g c =
    let keeper = keeper_of g.K.Keep.content g.K.Keep.is_honest g.K.Keep.refusals g.K.Keep.may_leave in
    let seen = ap (λ (p : PassOf). p.seen) c.pass.view_is in
    elim c.match-call.branch [
      | in-Ok w ↦ subst (λ r. IfErr r (λ e. WasRefused keeper g.J.Naming.before c.args.pass.now.seen c.args.event e.fault)) (sym w.result-is) tt
      | in-Err w ↦ subst (λ r. IfErr r (λ e. WasRefused keeper g.J.Naming.before c.args.pass.now.seen c.args.event e.fault)) (sym w.result-is)
          (was_refused keeper g.J.Naming.before c.self.inside.cell c.call.new.cell c.self.inside.made.total c.is_replay.ensures c.self.invariant c.args.pass.now.seen c.pass.inside.seen c.args.event w.in-Err.refusal.fault w.in-Err.ensures.refused cc)
    ]
