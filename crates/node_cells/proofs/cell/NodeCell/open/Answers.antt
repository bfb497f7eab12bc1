use Rattle.std.proofs.Common.{◌∙◌, ◌++◌, ◌∷◌, [], List, ap, subst, sym}
use Rattle.stored_nodes.specs.Keepers.{IsSettled, keeper_of}
use Rattle.stored_nodes.specs.Stored.{Stored}
use Rattle.node_cells.proofs.Entering.{begins}
use Rattle.node_cells.proofs.cell.NodeCell.open.Goals as goal

pub invariant_of-result : goal.invariant_of-result
invariant_of-result g c =
    let keeper = (keeper_of g.K.Keep.content g.K.Keep.is_honest g.K.Keep.refusals g.K.Keep.may_leave) in
    begins keeper c.party.result.now c.note-first.result.items c.new-in-Ok.result.items _ c.in-Ok.stored c.new-in-Ok.ensures.items
    (c.note-first.ensures ∙ ap (λ (l : List (Stored g.row.K.Denot)). l ++ c.in-Ok.stored ∷ []) c.new.ensures) c.is_stored.ensures
    (subst (λ (s : Stored g.row.K.Denot). IsSettled keeper s.keep) (sym c.in-Ok.ensures.ok) c.requires.settled) (λ fresh. record {
      setup = c.args.nodes.now;
      is_setup = c.requires.setup;
      member = c.args.member.now;
      among = c.requires.member;
      of_party = c.party.ensures;
      is = ap (λ (s : Stored g.row.K.Denot). s.state) c.in-Ok.ensures.ok;
    })
