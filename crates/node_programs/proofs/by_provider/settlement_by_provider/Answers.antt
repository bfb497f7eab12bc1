use Rattle.std.proofs.Common.{◌∙◌, List, rules, subst}
use Rattle.ocpi_types.specs.declared.cdrs.Cdr.{Cdr}
use Rattle.node_programs.specs.ByProvider.{AreOwedBy, debt_cmp}
use Rattle.tables.specs.Tables.{shown_of}
use Rattle.node_programs.proofs.by_provider.settlement_by_provider.Goals as goal

pub returns : goal.returns
returns c =
    let debts = shown_of debt_cmp c.in_ok-debts.debts in
    record {
      debts = debts;
      are_owed = subst (λ (cdrs : List Cdr). AreOwedBy cdrs debts) (c.as_slice.ensures.value ∙ c.in_ok-cdrs.ensures) c.in_ok-debts.ensures;
      lines = search rules;
    }
