use Rattle.std.proofs.Common.{◌≡◌, ◌++◌, List, ℕ, string_bytes, subst}
use Rattle.stored_nodes.specs.Keepers.{keeper_of}
use Rattle.node_keepers.specs.Opening.{source_of}
use Rattle.node_runs.specs.NodeTurns.{SetupTurn, Stage}
use Rattle.node_runs.proofs.node_run.Program.answer_setup.Goals as goal

pub returns-in-Ok : goal.returns-in-Ok
returns-in-Ok g c =
    let keeper = keeper_of g.K.Keep.content g.K.Keep.is_honest g.K.Keep.refusals g.K.Keep.may_leave in
    let source = source_of g.S.Keeps.may_refuse g.S.Keeps.found in
    subst (λ (w : Stage g.row.K.Denot). (out : List ℕ) × (string_bytes c.begin_node.new.output ≡ string_bytes c.args.output.now ++ out)
    × SetupTurn keeper source w c.args.line.now c.begin_node.result out c.begin_node.new.self) c.self.view_is (c.begin_node.ensures c.args.line.now c.in-Ok.ensures.value)

pub returns-in-Err : goal.returns-in-Err
returns-in-Err g c =
    let keeper = keeper_of g.K.Keep.content g.K.Keep.is_honest g.K.Keep.refusals g.K.Keep.may_leave in
    let source = source_of g.S.Keeps.may_refuse g.S.Keeps.found in
    subst (λ (w : Stage g.row.K.Denot). (out : List ℕ) × (string_bytes c.refuse_setup.new.output ≡ string_bytes c.args.output.now ++ out)
    × SetupTurn keeper source w c.args.line.now c.refuse_setup.result out c.refuse_setup.new.self) c.self.view_is (c.refuse_setup.ensures c.args.line.now c.in-Err.ensures.value)
