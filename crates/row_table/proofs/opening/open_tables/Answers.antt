use Rattle.std.proofs.Common.{◌≡◌, inl, inr, true, false, not, [], ◌∷◌, ◌++◌, ap, sym, subst, ◌∙◌, arith, slice_index_or}
use Rattle.row_table.specs.Opening.{HoldsAsOpened}
use Rattle.row_table.proofs.OpenLemmas.{found}
use Rattle.row_table.proofs.opening.open_tables.Goals as goal

pub returns-in-Err-clause-old : goal.returns-in-Err-clause-old
returns-in-Err-clause-old g c clean is = (
  λ none.
      let empty : c.is_empty.result ≡ true = c.is_empty.ensures.1 (c.schema.ensures.value ∙ none) in
      let f : true ≡ false = sym empty ∙ c.if-is_empty.false in
      cc,
  c.in-Err.ensures.other clean is,
)

pub returns-in-Ok-clause-opened : goal.returns-in-Ok-clause-opened
returns-in-Ok-clause-opened g c clean =
    let old = c.args.conn.now in
    let new = c.check_tables.new.conn in
    let noted : c.note-last.result.items ≡ old ∷ [] = c.note-last.ensures ∙ ap (λ l. l ++ old ∷ []) c.new.ensures in
    let idle = c.is_autocommit-settled.ensures.value ∙ ap not c.requires in
    subst (λ l. HoldsAsOpened g.S.Store c.args.version c.in-Ok.found old new (slice_index_or l 0 new)) (sym noted)
    (found g.S.Store c.args.version old new c.in-Ok.found c.check_tables.ensures.mode (λ clean. omega (arith, c.check_tables.ensures.crash.clean)) (c.is_autocommit-settled.ensures.settled idle) (c.in-Ok.ensures.one clean)
    (c.check_tables.ensures.same clean) (λ db may. elim (c.check_tables.ensures.crash.crash clean db may) [ inl before ↦ before | inr none ↦ absurd none ]) (λ is_open db may. g.met.S.Store.settled old.store db is_open may))
