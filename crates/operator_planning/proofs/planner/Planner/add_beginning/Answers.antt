use Rattle.operator_planning.proofs.BeginningCounts.{begins_is, begun_has, ends_have}
use Rattle.operator_planning.proofs.Parts.{on_more}
use Rattle.operator_planning.proofs.planner.Planner.add_beginning.Goals as goal

pub add_ends-requires-clause-numbers : goal.add_ends-requires-clause-numbers
add_ends-requires-clause-numbers c =
    let m = c.args.self.now.state.rows.commands.pending in
    ends_have c.args.at m c.args.number c.args.ends.now c.args.reference c.args.begun.now c.args.draft.now c.add_number.new.draft c.in_ok-add_number.ensures c.requires.numbers

pub add_begun-requires : goal.add_begun-requires
add_begun-requires c =
    let m = c.args.self.now.state.rows.commands.pending in
    begun_has c.args.at m c.args.number c.args.ends.now c.args.reference c.args.begun.now c.args.draft.now c.add_number.new.draft c.in_ok-add_number.ensures
    c.add_ends.new.draft c.in_ok-add_ends.ensures c.add_spent.new.draft c.in_ok-add_spent.ensures c.requires.numbers

pub returns : goal.returns
returns c =
    let m = c.args.self.now.state.rows.commands.pending in
    on_more c.add_begun.result
    (λ h. begins_is c.args.at m c.args.number c.args.ends.now c.args.reference c.args.begun.now c.args.draft.now c.add_number.new.draft c.in_ok-add_number.ensures
    c.add_ends.new.draft c.in_ok-add_ends.ensures c.add_spent.new.draft c.in_ok-add_spent.ensures c.add_begun.new.draft h)
    c.add_begun.ensures
