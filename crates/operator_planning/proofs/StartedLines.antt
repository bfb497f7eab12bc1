-- The start that a report tells to be carried out.
use Rattle.std.proofs.Common.{◌≡◌, ℕ, List, sym, ap, subst, ◌∙◌}
use Rattle.std.specs.Prelude.{Some, None, Contains}
use Rattle.std.specs.FinMap.{get}
use Rattle.ocpi_text.specs.Text.{key}
use Rattle.ocpi_types.specs.declared.events.ChargerEvent.{ChargerEvent}
use Rattle.ocpi_types.specs.declared.events.ChargerEvent.TheVariants as event
use Rattle.ocpi_types.specs.declared.stored.OpenCommand.{OpenCommand}
use Rattle.ocpi_types.specs.declared.words.CommandResultType.TheVariants as result
use Rattle.operator_rows.specs.State.{State}
use Rattle.operator_steps.specs.declared.ending.Ending.{Ending}
use Rattle.operator_steps.specs.Charger.{IsStarted, StartsNone}
use Rattle.operator_steps.specs.Ends.{IsOfSite}
use Rattle.session_tables.specs.declared.beginning.Beginning.{Beginning}
use Rattle.session_tables.specs.Accepts.{Accepts}

module _ (s : State) (report : ChargerEvent) (p : List ℕ) (n : ℕ) (is : report ≡ event.Accepts p n) where
  -- it is the one that the report names
  named : (e : Ending) (b : Beginning) → IsStarted s report e b → (e.provider ≡ key p) × (e.number ≡ n)
  named e b h =
      let both : event.Accepts h.provider e.number ≡ event.Accepts p n = sym h.report_is ∙ is in
      let same : h.provider ≡ p = cc in
      (sym h.same ∙ ap key same, cc)

  stands_there : (e : Ending) (b : Beginning) → IsStarted s report e b → (c : OpenCommand) → get s.rows.commands.pending (e.provider, e.number) ≡ Some c → get s.rows.commands.pending (key p, n) ≡ Some c
  stands_there e b h c stands =
      let at = named e b h in
      let same : get s.rows.commands.pending (key p, n) ≡ get s.rows.commands.pending (e.provider, e.number) = λ i. get s.rows.commands.pending (sym at.0 i, sym at.1 i) in
      same ∙ stands

  -- there is none where it is not open,
  pub starts_unopened : get s.rows.commands.pending (key p, n) ≡ None → StartsNone s report
  starts_unopened none e b h = let there = stands_there e b h h.command h.stands in cc

  -- where no session begins with it,
  pub starts_unbegun : (o : OpenCommand) → get s.rows.commands.pending (key p, n) ≡ Some o → ((b : Beginning) → Accepts s.site o b → ⊥) → StartsNone s report
  starts_unbegun o stands never e b h =
      let there = stands_there e b h h.command h.stands in
      let same : h.command ≡ o = cc in
      never b (subst (λ (x : OpenCommand). Accepts s.site x b) same h.begins)

  -- and where its provider is none of the site
  pub starts_unlisted : ((q : List ℕ) → Contains s.providers q → key q ≡ key p → ⊥) → StartsNone s report
  starts_unlisted none e b h = none e.to h.of_site.listed (h.of_site.same ∙ (named e b h).0)

  pub started_is : (o : OpenCommand) → get s.rows.commands.pending (key p, n) ≡ Some o → (b : Beginning) → Accepts s.site o b → (e : Ending) → e.provider ≡ key p → e.number ≡ n → e.result ≡ result.Accepted →
      IsOfSite s.providers e → IsStarted s report e b
  started_is o stands b begins e provider number result_is of_site = record {
    provider = p;
    report_is = is ∙ ap (event.Accepts p) (sym number);
    same = sym provider;
    command = o;
    stands = (λ i. get s.rows.commands.pending (provider i, number i)) ∙ stands;
    begins = begins;
    result_is = result_is;
    of_site = of_site;
  }
