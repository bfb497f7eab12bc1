use Rattle.std.proofs.Common.{List, arith, subst, sym, take_all}
use Rattle.std.specs.Prelude.{Contains}
use Rattle.ocpi_types.specs.declared.setup.Node.{Node}
use Rattle.replays.specs.declared.transcript.Opening.{Opening}
use Rattle.weave.proofs.Places.{got_by}
use Rattle.weave_runs.specs.Parties.{HasNoNode}
use Rattle.weave_runs.proofs.GivenLemmas.{all_up_to}
use Rattle.weave_runs.proofs.given.party_opened.Goals as goal

pub loop-opening-preserved : goal.loop-opening-preserved
loop-opening-preserved c =
    all_up_to c.args.openings.now c.loop-opening.opening-index c.opening-item.result (λ (x : Opening). HasNoNode x.setup c.args.party.now)
    (got_by c.args.openings.now c.loop-opening.opening-index c.opening-item.result (omega arith) c.opening-item.is) c.loop-opening.invariant
    (subst (λ (ns : List Node). HasNoNode ns c.args.party.now) c.nodes.ensures c.in_default.ensures.none)

pub returns-clause-none : goal.returns-clause-none
returns-clause-none c = λ x within.
    c.loop-opening.invariant x (subst (λ (os : List Opening). Contains os x) (sym (take_all c.loop-opening.opening-index c.args.openings.now (omega arith))) within)
