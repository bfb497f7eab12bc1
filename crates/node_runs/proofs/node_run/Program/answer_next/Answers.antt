use Rattle.std.proofs.Common.{◌≡◌, ◌∙◌, ◌++◌, ◌≤◌, List, ℕ, suc, Option, None, string_bytes, arith, ap, subst}
use Rattle.ocpi_text.specs.Whole.{max_whole}
use Rattle.line_runs.specs.declared.run.Turn.TheVariants.{Taken}
use Rattle.stored_nodes.specs.Keepers.{keeper_of}
use Rattle.node_runs.specs.Afters.{IsAfter, IsTold}
use Rattle.node_runs.specs.DoneLines.{known_line}
use Rattle.node_runs.specs.NodeAnswers.{BehindTurn}
use Rattle.node_runs.specs.NodeTurns.{Running, Stage}
use Rattle.node_runs.specs.Stages.{GoesOnWith}
use Rattle.node_runs.proofs.AfterLemmas.{beyond_on, known_on, read_on}
use Rattle.node_runs.proofs.node_run.Program.answer_next.Goals as goal

pub returns-in_default : goal.returns-in_default
returns-in_default g c =
    let K = g.row.K.Denot in
    let keeper = keeper_of g.K.Keep.content g.K.Keep.is_honest g.K.Keep.refusals g.K.Keep.may_leave in
    let s = c.args.self.now in
    let before = string_bytes c.args.output.now in
    let after = string_bytes c.refuse_beyond.new.output in
    let turn = c.refuse_beyond.result in
    let t = c.refuse_beyond.new.self in
    let r = c.refuse_beyond.ensures in
    let number : c.self.inside.number ≡ s.number = ap (λ (w : Stage K). w.number) c.self.view_is in
    let goes = subst (λ (q : Option (Running K)). GoesOnWith (record { wanted = s.wanted; opened = s.opened; running = q; spare = s.spare; stop = s.stop; number = s.number; known = s.known }) r.0 turn t)
    c.requires.none r.2 in
    let is : s.number ≡ max_whole = omega (arith, c.in_default.ensures, c.value-bound.ensures.bound, number) in
    beyond_on keeper c.args.running s c.args.line.now before after c.is_stored.ensures is r.0 turn t r.1 goes

pub returns-then-value : goal.returns-then-value
returns-then-value g c =
    let K = g.row.K.Denot in
    let keeper = keeper_of g.K.Keep.content g.K.Keep.is_honest g.K.Keep.refusals g.K.Keep.may_leave in
    let stage : Option (Running K) → ℕ → Stage K = λ q n. record {
      wanted = c.self.inside.wanted;
      opened = g.S.Keeps.opened c.self.inside.keeps;
      running = q;
      spare = c.self.inside.spare;
      stop = c.self.inside.stop;
      number = n;
      known = c.self.inside.known;
    } in
    let s = stage c.self.inside.running c.self.inside.number in
    let before = string_bytes c.args.output.now in
    let after = string_bytes c.tell_known.new.output in
    let turn = c.tell_known.result in
    let t = c.tell_known.new.self in
    let none : c.self.inside.running ≡ None = ap (λ (w : Stage K). w.running) c.self.view_is ∙ c.requires.none in
    let r = c.tell_known.ensures in
    let next : c.in-Some.number ≡ suc c.self.inside.number = omega (arith, c.in-Some.ensures.1) in
    let told = subst (λ (n : ℕ). IsTold c.args.running Taken (known_line n) before after r.0) next r.1 in
    let goes = subst (λ (n : ℕ). GoesOnWith (stage None n) r.0 turn t) next (subst (λ (q : Option (Running K)). GoesOnWith (stage q c.in-Some.number) r.0 turn t) none r.2) in
    let is : suc c.self.inside.number ≤ c.self.inside.known = omega (arith, next, c.if-value.true, c.value.ensures.value, c.value-2.ensures.value) in
    let turns = known_on keeper c.args.running s c.args.line.now before after c.is_stored.ensures is r.0 turn t told goes in
    subst (λ (w : Stage K). (out : List ℕ) × (after ≡ before ++ out) × BehindTurn keeper c.args.running w c.args.line.now turn out t) c.self.view_is turns

pub returns : goal.returns
returns g c =
    let K = g.row.K.Denot in
    let keeper = keeper_of g.K.Keep.content g.K.Keep.is_honest g.K.Keep.refusals g.K.Keep.may_leave in
    let stage : Option (Running K) → ℕ → Stage K = λ q n. record {
      wanted = c.self.inside.wanted;
      opened = g.S.Keeps.opened c.self.inside.keeps;
      running = q;
      spare = c.self.inside.spare;
      stop = c.self.inside.stop;
      number = n;
      known = c.self.inside.known;
    } in
    let s = stage c.self.inside.running c.self.inside.number in
    let before = string_bytes c.args.output.now in
    let after = string_bytes c.answer_new.new.output in
    let turn = c.answer_new.result in
    let t = c.answer_new.new.self in
    let none : c.self.inside.running ≡ None = ap (λ (w : Stage K). w.running) c.self.view_is ∙ c.requires.none in
    let r = c.answer_new.ensures in
    let next : c.in-Some.number ≡ suc c.self.inside.number = omega (arith, c.in-Some.ensures.1) in
    let left = subst (λ (n : ℕ). IsAfter keeper c.args.running n c.args.line.now before after r.0) next r.1 in
    let goes = subst (λ (n : ℕ). GoesOnWith (stage None n) r.0 turn t) next (subst (λ (q : Option (Running K)). GoesOnWith (stage q c.in-Some.number) r.0 turn t) none r.2) in
    let new : suc c.self.inside.known ≤ suc c.self.inside.number = omega (arith, next, c.if-value.false, c.value.ensures.value, c.value-2.ensures.value) in
    let few : suc c.self.inside.number ≤ max_whole = omega (arith, next, c.in-Some.ensures.0) in
    let turns = read_on keeper c.args.running s c.args.line.now before after c.is_stored.ensures new few r.0 turn t left goes in
    subst (λ (w : Stage K). (out : List ℕ) × (after ≡ before ++ out) × BehindTurn keeper c.args.running w c.args.line.now turn out t) c.self.view_is turns
