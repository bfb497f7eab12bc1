use Rattle.std.proofs.Common.{◌≡◌, ◌∙◌, ◌++◌, [], List, ℕ, Option, None, Some, string_bytes, refl, sym, ap, subst, append-nil}
use Rattle.line_runs.specs.declared.run.Turn.TheVariants.{Ended}
use Rattle.stored_nodes.specs.Keepers.{keeper_of}
use Rattle.node_keepers.specs.Opening.{source_of}
use Rattle.node_runs.specs.NodeTurns.{Running, SetupTurn, Stage, Unbegun}
use Rattle.node_runs.proofs.NodeLemmas.{counted_from, opened_turn}
use Rattle.node_runs.proofs.node_run.Program.begin_node.Goals as goal

pub take_begun-requires : goal.take_begun-requires
take_begun-requires g c = counted_from c.args.base c.in-Ok.begun.line c.requires.least c.in-Ok.ensures.ok.3.starts.reopens.first

pub returns-in-Ok : goal.returns-in-Ok
returns-in-Ok g c = λ line reads.
    let K = g.row.K.Denot in
    let keeper = keeper_of g.K.Keep.content g.K.Keep.is_honest g.K.Keep.refusals g.K.Keep.may_leave in
    let source = source_of g.S.Keeps.may_refuse g.S.Keeps.found in
    let s : Stage K = record {
      wanted = c.self.inside.wanted;
      opened = g.S.Keeps.opened c.self.inside.keeps;
      running = c.self.inside.running;
      spare = c.self.inside.spare;
      stop = c.self.inside.stop;
      number = c.self.inside.number;
      known = c.self.inside.known;
    } in
    let before = string_bytes c.args.output.now in
    let after = string_bytes c.take_begun.new.output in
    let found = c.in-Ok.ensures.ok in
    let turns = opened_turn keeper source s line c.args.setup c.args.base reads found.0 found.1 c.in-Ok.begun found.2 found.3 (g.S.Keeps.opened c.begin.new.keeps) c.in-Ok.ensures.opened before after
    c.take_begun.result c.take_begun.new.self c.take_begun.ensures in
    subst (λ (w : Stage K). (out : List ℕ) × (after ≡ before ++ out) × SetupTurn keeper source w line c.take_begun.result out c.take_begun.new.self) c.self.view_is turns

pub returns-in-Err : goal.returns-in-Err
returns-in-Err g c = λ line reads.
    let K = g.row.K.Denot in
    let keeper = keeper_of g.K.Keep.content g.K.Keep.is_honest g.K.Keep.refusals g.K.Keep.may_leave in
    let source = source_of g.S.Keeps.may_refuse g.S.Keeps.found in
    let why = c.in-Err.ensures.err in
    let u = c.in-Err.unbegun in
    let none : c.self.inside.running ≡ None = ap (λ (w : Stage K). w.running) c.self.view_is ∙ c.requires.none in
    let stage : List ℕ → Option (Running K) → Stage K = λ opened running. record {
      wanted = c.self.inside.wanted;
      opened = opened;
      running = running;
      spare = u.keep;
      stop = Some u.stop;
      number = c.self.inside.number;
      known = c.self.inside.known;
    } in
    let last = stage (g.S.Keeps.opened c.begin.new.keeps) c.self.inside.running in
    let left : last ≡ stage (g.S.Keeps.opened c.self.inside.keeps ++ why.0) None = λ i. stage (why.1 i) (none i) in (
      [],
      sym (append-nil (string_bytes c.args.output.now)),
      subst (λ (w : Stage K). SetupTurn keeper source w line Ended [] last) c.self.view_is (Unbegun c.args.setup c.args.base reads why.0 u.keep u.stop why.2 refl refl left),
    )
