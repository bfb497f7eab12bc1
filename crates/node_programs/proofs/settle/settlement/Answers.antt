use Rattle.std.proofs.Common.{◌∙◌, List, rules, subst}
use Rattle.handover.specs.Owed.{AreOwed}
use Rattle.ocpi_types.specs.declared.cdrs.Cdr.{Cdr}
use Rattle.tables.specs.Keys.{text_pair_cmp}
use Rattle.tables.specs.Tables.{shown_of}
use Rattle.node_programs.proofs.settle.settlement.Goals as goal

pub returns : goal.returns
returns c =
    let sums = shown_of text_pair_cmp c.in_ok-sums.sums in
    record {
      sums = sums;
      are_owed = subst (λ (cdrs : List Cdr). AreOwed cdrs sums) (c.as_slice.ensures.value ∙ c.in_ok-cdrs.ensures) c.in_ok-sums.ensures.ok;
      lines = search rules;
    }
