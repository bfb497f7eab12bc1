use Rattle.std.proofs.Common.{◌≡◌, ◌∙◌, ◌++◌, ◌∷◌, [], List, Bool, true, false, ap}
use Rattle.stored_nodes.specs.Keepers.{keeper_of}
use Rattle.stored_nodes.specs.Stored.{Stored}
use Rattle.node_cells.proofs.Entering.{begins, settled_on}
use Rattle.node_cells.proofs.cell.NodeCell.reopen.Goals as goal

pub invariant_of-result : goal.invariant_of-result
invariant_of-result g c =
    let keeper = (keeper_of g.K.Keep.content g.K.Keep.is_honest g.K.Keep.refusals g.K.Keep.may_leave) in
    begins keeper c.party.result.now c.note-first.result.items c.new-in-Ok.result.items _ c.in-Ok.reopened.node c.new-in-Ok.ensures.items
    (c.note-first.ensures ∙ ap (λ (l : List (Stored g.row.K.Denot)). l ++ c.in-Ok.reopened.node ∷ []) c.new.ensures) c.is_stored.ensures
    (settled_on keeper c.args.keep c.in-Ok.reopened.node.keep c.requires.settled c.in-Ok.ensures.ok.keeps) (λ fresh. absurd (let bad : false ≡ true = fresh in cc))
