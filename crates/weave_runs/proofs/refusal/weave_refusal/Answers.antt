use Rattle.std.proofs.Common.{IfOk, sym, subst, string_bytes}
use Rattle.weave.specs.declared.turn_fault.TurnFault.{TurnFault}
use Rattle.weave_runs.specs.Refusals.{TellsFault}
use Rattle.weave_runs.proofs.refusal.weave_refusal.Goals as goal

pub returns-in-Differs : goal.returns-in-Differs
returns-in-Differs c =
    subst (λ (f : TurnFault). IfOk c.differs_refusal.result (λ s. TellsFault c.args.files.now c.args.transcripts.now f (string_bytes s))) (sym c.in-Differs.is) c.differs_refusal.ensures
