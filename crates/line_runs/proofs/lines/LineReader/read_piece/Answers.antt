use Rattle.std.proofs.Common.{◌≡◌, ◌≢◌, ◌++◌, ◌-◌, ℕ, List, [], true, false, Option, None, Some, IfSome, length, take, sym, ap, subst, ◌∙◌, rules, arith, true≢false, take_all}
use Rattle.std.proofs.lemmas.List.{length-take}
use Rattle.std.proofs.lemmas.List.Elements.{All-nil, All-append}
use Rattle.std.proofs.KnownBytes.{Consumes-nil, Consumes-trans, Keeps-refl}
use Rattle.std.proofs.BufReadLemmas.{Consumes_through}
use Rattle.std.specs.Io.BufRead.{take_through}
use Rattle.line_runs.specs.Lines.{TakesPart}
use Rattle.line_runs.specs.Echo.{EchoesPart}
use Rattle.line_runs.specs.declared.lines.TheConstants.{ROOM}
use Rattle.line_runs.specs.declared.outcome.RunFault.TheVariants.{ReadFailed}
use Rattle.line_runs.proofs.LineLemmas.{take_more_of}
use Rattle.line_runs.proofs.EchoLemmas.{nothing_echoed, more_echoed, line_echoed, line_begun, line_cut, cuts_nothing}
use Rattle.line_runs.proofs.lines.LineReader.read_piece.Goals as goal

pub loop-turn-init : goal.loop-turn-init
loop-turn-init g c =
    let none : c.args.line.now.items ≡ [] = c.requires in
    ([], Consumes-nil _, All-nil (λ b. b ≢ 10), none ∙ sym (take_all ROOM [] (omega arith)), nothing_echoed _ _)

pub next_part-requires : goal.next_part-requires
next_part-requires g c =
    let i = c.loop-turn.invariant in
    omega (arith, ap length i.3, length-take ROOM i.0)

-- a front of what was read, where that is known
front_of : (known : Option (List ℕ)) (line read : List ℕ) → line ≡ take ROOM read → IfSome known (λ text. read ≡ take_through 10 text) → IfSome known (λ text. line ≡ take ROOM (take_through 10 text))
front_of None line read e h = tt
front_of (Some text) line read e h = e ∙ ap (take ROOM) h

-- what was kept of both parts
both : (old new done part : List ℕ) → old ≡ take ROOM done → new ≡ old ++ take (ROOM - length old) part → new ≡ take ROOM (done ++ part)
both old new done part e h = h ∙ ap (λ l. l ++ take (ROOM - length l) part) e ∙ take_more_of ROOM done part

pub returns-in-Ok-true-clause-kept : goal.returns-in-Ok-true-clause-kept
returns-in-Ok-true-clause-kept g c =
    let i = c.loop-turn.invariant in
    let step = c.in-Ok-true.ensures.ok in
    let done : c.in-Ok-true.field-0 ≡ true = search rules in
    let read = Consumes_through 10 _ _ _ _ _ i.1 i.2 step.1.consumed step.1.stops (step.1.ended done) (step.1.at_end done) in
    front_of _ _ (i.0 ++ step.0) (both _ _ i.0 step.0 i.3 step.2) read.0

pub returns-in-Ok-true-clause-rest : goal.returns-in-Ok-true-clause-rest
returns-in-Ok-true-clause-rest g c =
    let i = c.loop-turn.invariant in
    let step = c.in-Ok-true.ensures.ok in
    let done : c.in-Ok-true.field-0 ≡ true = search rules in
    (Consumes_through 10 _ _ _ _ _ i.1 i.2 step.1.consumed step.1.stops (step.1.ended done) (step.1.at_end done)).1

pub returns-in-Ok-true-clause-echoed : goal.returns-in-Ok-true-clause-echoed
returns-in-Ok-true-clause-echoed g c =
    let i = c.loop-turn.invariant in
    let step = c.in-Ok-true.ensures.ok in
    let done : c.in-Ok-true.field-0 ≡ true = search rules in
    let old = g.R.Read.remaining c.loop-turn.self.reader in
    let new = g.R.Read.remaining c.next_part.new.self.reader in
    let taken : TakesPart old true step.0 new = subst (λ b. TakesPart old b step.0 new) done step.1 in
    let echo = subst (λ b. EchoesPart c.args.echo b c.loop-turn.held step.0 c.next_part.new.held (g.W.Write.contents c.loop-turn.writer) (g.W.Write.contents c.next_part.new.writer)) done step.3 in
    line_echoed c.args.echo i.0 step.0 c.loop-turn.held c.next_part.new.held _ _ _ _ _ _ i.1 i.2 taken i.4 echo

pub returns-in-Err-clause-err : goal.returns-in-Err-clause-err
returns-in-Err-clause-err g c =
    let i = c.loop-turn.invariant in
    let cut = c.in-Err.ensures.err in
    (cut.0, line_cut c.args.echo c.in-Err.fault c.loop-turn.held i.0 _ _ _ _ _ _ i.1 i.2 i.4 cut.1 cut.2)

pub returns-in-Err-clause-begun : goal.returns-in-Err-clause-begun
returns-in-Err-clause-begun g c =
    let i = c.loop-turn.invariant in
    line_begun c.args.echo c.in-Err.fault c.loop-turn.held i.0 _ _ _ _ _ i.1 i.2 i.4 c.in-Err.ensures.err.2

pub loop-turn-preserved : goal.loop-turn-preserved
loop-turn-preserved g c =
    let i = c.loop-turn.invariant in
    let step = c.in-Ok-false.ensures.ok in
    let more : c.in-Ok-false.field-0 ≡ false = search rules in
    let echo = subst (λ b. EchoesPart c.args.echo b c.loop-turn.held step.0 c.next_part.new.held (g.W.Write.contents c.loop-turn.writer) (g.W.Write.contents c.next_part.new.writer)) more step.3 in (
      i.0 ++ step.0,
      Consumes-trans _ _ _ i.0 step.0 i.1 step.1.consumed,
      All-append (λ b. b ≢ 10) i.0 step.0 i.2 (step.1.plain (λ e. true≢false (sym e ∙ more))),
      both _ _ i.0 step.0 i.3 step.2,
      more_echoed c.args.echo i.0 step.0 c.loop-turn.held c.next_part.new.held _ _ _ i.4 echo,
    )

-- no end of the line after the most turns
pub returns-clause-err : goal.returns-clause-err
returns-clause-err g c =
    let i = c.loop-turn.invariant in
    let none = cuts_nothing c.args.echo ReadFailed c.loop-turn.held (g.R.Read.remaining c.loop-turn.self.reader) _ _ (Keeps-refl (g.W.Write.contents c.loop-turn.writer)) in
    (search rules, line_cut c.args.echo ReadFailed c.loop-turn.held i.0 _ _ _ _ _ _ i.1 i.2 i.4 (Keeps-refl _) none)

pub returns-clause-begun : goal.returns-clause-begun
returns-clause-begun g c =
    let i = c.loop-turn.invariant in
    let none = cuts_nothing c.args.echo ReadFailed c.loop-turn.held (g.R.Read.remaining c.loop-turn.self.reader) _ _ (Keeps-refl (g.W.Write.contents c.loop-turn.writer)) in
    line_begun c.args.echo ReadFailed c.loop-turn.held i.0 _ _ _ _ _ i.1 i.2 i.4 none
