use Rattle.std.proofs.Common.{List, [], refl, sym, subst}
use Rattle.std.proofs.lemmas.List.{append-nil}
use Rattle.std.proofs.lemmas.Result.{IfOk-weaker}
use Rattle.ocpi_types.specs.declared.setup.Node.{Node}
use Rattle.stored_nodes.specs.Keepers.{keeper_of}
use Rattle.node_keepers.specs.Opening.{source_of}
use Rattle.node_runs.specs.NodeTurns.{Begins, IsMember, NotMade, Unkept, Unknown, Unmade, first_place}
use Rattle.program_lines.proofs.FaultLemmas.{if_err_then}
use Rattle.node_runs.proofs.beginning.begin.Goals as goal

-- the setup has no such party
pub returns-in_default-clause-err : goal.returns-in_default-clause-err
returns-in_default-clause-err g c =
    let none = subst (λ (nodes : List Node). (member : Node) → IsMember nodes c.args.wanted.now member → ⊥) c.nodes_of-nodes.ensures.value c.in_default.ensures.none in
    ([], sym (append-nil (g.S.Keeps.opened c.args.keeps.now)), Unknown none refl refl refl)

-- it is made of the keeper that was opened
pub returns-in-Ok-clause-ok : goal.returns-in-Ok-clause-ok
returns-in-Ok-clause-ok g c =
    let keeper = keeper_of g.S.Kept.Keep.content g.S.Kept.Keep.is_honest g.S.Kept.Keep.refusals g.S.Kept.Keep.may_leave in
    let source = source_of g.S.Keeps.may_refuse g.S.Keeps.found in
    let member = c.in-Some.member.now in
    let is = subst (λ (nodes : List Node). IsMember nodes c.args.wanted.now member) c.nodes_of-nodes.ensures.value c.in-Some.ensures.some in
    IfOk-weaker c.begin_over.result _ _ (λ b r. (
      member,
      is,
      r.0,
      subst (λ (nodes : List Node). Begins keeper source nodes member b.rows b.line b.running.node) c.nodes_of-nodes.ensures.value
          (record { starts = r.1; found = subst (g.S.Keeps.found 1) (sym r.2) c.in-Ok.ensures.found }),
    )) c.begin_over.ensures.ok

-- none is made of it
pub returns-in-Ok-clause-err : goal.returns-in-Ok-clause-err
returns-in-Ok-clause-err g c =
    let keeper = keeper_of g.S.Kept.Keep.content g.S.Kept.Keep.is_honest g.S.Kept.Keep.refusals g.S.Kept.Keep.may_leave in
    let found = g.S.Keeps.found 1 in
    let member = c.in-Some.member.now in
    let is = subst (λ (nodes : List Node). IsMember nodes c.args.wanted.now member) c.nodes_of-nodes.ensures.value c.in-Some.ensures.some in
    if_err_then _ _ c.begin_over.result (λ u r.
    let unmade = subst (λ (nodes : List Node). (unmade : Unmade keeper nodes member r.0 r.1) × found unmade.fresh) c.nodes_of-nodes.ensures.value
    (r.2, subst found (sym r.3) c.in-Ok.ensures.found) in
    (first_place, c.in-Ok.ensures.opened, NotMade member is r.0 r.1 unmade.0 unmade.1 refl r.4 r.5)) c.begin_over.ensures.err

-- no keeper is to be had
pub returns-clause-err : goal.returns-clause-err
returns-clause-err g c =
    let is = subst (λ (nodes : List Node). IsMember nodes c.args.wanted.now c.in-Some.member.now) c.nodes_of-nodes.ensures.value c.in-Some.ensures.some in
    (first_place, c.in-Err.ensures.opened, Unkept c.in-Some.member.now is c.in-Err.fault c.in-Err.ensures.fault refl refl refl)
