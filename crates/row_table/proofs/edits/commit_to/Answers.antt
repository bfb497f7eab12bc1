use Rattle.std.proofs.Common.{◌≡◌, OnErr, sym, ap, subst, ◌∙◌, arith, rules}
use Rattle.sqlite.specs.Tree.{Trees}
use Rattle.sqlite.specs.State.{HasCleanDisk, Survives}
use Rattle.sqlite.specs.Held.{state}
use Rattle.sqlite.proofs.StateLemmas.{survives_then}
use Rattle.sqlite.proofs.Callers.{survives_begin}
use Rattle.row_table.specs.Texts.{texts_of}
use Rattle.row_table.specs.Contents.{IsWhole, at_version, content_of}
use Rattle.row_table.specs.Effects.{HadTables, HasUndone, MayCommit, set_all}
use Rattle.row_table.proofs.EditLemmas.{commit_fails}
use Rattle.row_table.proofs.edits.commit_to.Goals as goal

pub returns-clause-none : goal.returns-clause-none
returns-clause-none g c clean has =
    let old = c.args.conn.now in
    let last = c.make_to.new.tx.conn.now in
    let end = c.commit.new.self.0 in
    let begun = c.transaction-tx.ensures.begun in
    let same : end ≡ c.conn-2-1.given.0 = search rules in
    let late : HasCleanDisk (state g.S.Store end) = subst (λ h. HasCleanDisk (state g.S.Store h)) (sym same) clean in
    let early : HasCleanDisk (state g.S.Store last) = omega (arith, c.commit.ensures.survives.clean) in
    let made = rw begun at (c.in_ok-make_to.ensures.made early) in
    subst (λ h. OnErr c.commit.result (HasUndone (state g.S.Store old) (state g.S.Store h))) same
    (commit_fails (state g.S.Store old) (state g.S.Store last) (state g.S.Store end) c.commit.result (rw begun at (c.make_to.ensures.kept early)) (made has).shown.mode (c.commit.ensures.err late))

pub returns-clause-crash : goal.returns-clause-crash
returns-clause-crash g c =
    let old = c.args.conn.now in
    let last = c.make_to.new.tx.conn.now in
    let end = c.commit.new.self.0 in
    let begun = c.transaction-tx.ensures.begun in
    let db = (state g.S.Store old).now.trees in
    let P = λ (trees : Trees). HadTables (state g.S.Store old) → MayCommit (state g.S.Store old) (at_version c.args.version (set_all (texts_of db) c.args.edits.now)) trees in
    let whole = survives_then (state g.S.Store old) (state g.S.Store last) (state g.S.Store end) _ _ P (λ _ db none. absurd none)
    (λ clean left is has.
    let made = rw begun at (c.in_ok-make_to.ensures.made (omega (arith, c.commit.ensures.survives.clean))) in
    record { was_open = (made has).shown.was_open; whole = subst IsWhole (sym is) (made has).tables.whole; holds = ap content_of is ∙ (made has).holds })
    (survives_begin g.S.Store old (state g.S.Store last) _ (rw begun at c.make_to.ensures.survives)) c.commit.ensures.survives in
    let same : end ≡ c.conn-2-1.given.0 = search rules in
    subst (λ h. Survives (state g.S.Store old) (state g.S.Store h) P) same whole
