use Rattle.std.proofs.Common.{◌≡◌, ◌++◌, ◌∙◌, ℕ, List, Option, IfErr, IfOk, Some, sym, ap, subst, string_bytes}
use Rattle.std.proofs.lemmas.Result.{IfOk-weaker}
use Rattle.line_runs.specs.declared.run.Turn.{Turn}
use Rattle.node_keepers.specs.Keeping.{keeping_of}
use Rattle.program_lines.proofs.FaultLemmas.{if_err_then}
use Rattle.node_programs.specs.Play.{Counted, EventTurn, PlayLineGives, Stage}
use Rattle.node_programs.proofs.play.ProgramAnswerLines.answer_line.Goals as goal

pub returns-in-Some-clause-ok : goal.returns-in-Some-clause-ok
returns-in-Some-clause-ok g c =
    let keeping = keeping_of g.K.Keep.content g.K.Keep.is_honest g.K.Keep.refusals in
    let number = c.next_line-self-inside.result in
    let is = c.next_line-self-inside.ensures in
    let left : Stage g.row.K.Denot = record { playing = Some c.play_event.new.played; stop = c.play_event.new.stop } in
    let next : Counted g.row.K.Denot = record { stage = left; line = number } in
    let before = string_bytes c.args.output.now in
    let after = string_bytes c.play_event.new.output in
    let gives = λ (s : Counted g.row.K.Denot). IfOk c.play_event.result (λ turn. (out : List ℕ) × (after ≡ before ++ out)
    × PlayLineGives keeping g.S.Keeps.may_refuse s c.args.line.now turn out next) in
    subst gives (ap (λ q. record { stage = record { playing = q; stop = c.self.inside.stop }; line = c.self.inside.line }) (sym c.in-Some.is) ∙ c.self.view_is)
    (IfOk-weaker c.play_event.result _ _ (λ turn r. (
      r.0,
      r.1,
      (subst (λ (n : Option ℕ). EventTurn keeping n c.self.inside.stop c.in-Some.played c.args.line.now turn r.0 left) is r.2, is),
    )) c.play_event.ensures.ok)

pub returns-in-Some-clause-err : goal.returns-in-Some-clause-err
returns-in-Some-clause-err g c =
    let keeping = keeping_of g.K.Keep.content g.K.Keep.is_honest g.K.Keep.refusals in
    let number = c.next_line-self-inside.result in
    let is = c.next_line-self-inside.ensures in
    let left : Stage g.row.K.Denot = record { playing = Some c.play_event.new.played; stop = c.play_event.new.stop } in
    let next : Counted g.row.K.Denot = record { stage = left; line = number } in
    let gives = λ (s : Counted g.row.K.Denot). IfErr c.play_event.result (λ _. (turn : Turn) × (out : List ℕ)
    × PlayLineGives keeping g.S.Keeps.may_refuse s c.args.line.now turn out next) in
    subst gives (ap (λ q. record { stage = record { playing = q; stop = c.self.inside.stop }; line = c.self.inside.line }) (sym c.in-Some.is) ∙ c.self.view_is)
    (if_err_then _ _ c.play_event.result (λ _ r. (
      r.0,
      r.1,
      (subst (λ (n : Option ℕ). EventTurn keeping n c.self.inside.stop c.in-Some.played c.args.line.now r.0 r.1 left) is r.2, is),
    )) c.play_event.ensures.err)

pub returns-clause-ok : goal.returns-clause-ok
returns-clause-ok g c =
    let keeping = keeping_of g.K.Keep.content g.K.Keep.is_honest g.K.Keep.refusals in
    let number = c.next_line-self-inside.result in
    let is = c.next_line-self-inside.ensures in
    let left : Stage g.row.K.Denot = record { playing = c.play_setup.new.played; stop = c.play_setup.new.stop } in
    let next : Counted g.row.K.Denot = record { stage = left; line = number } in
    let before = string_bytes c.args.output.now in
    let after = string_bytes c.play_setup.new.output in
    let gives = λ (s : Counted g.row.K.Denot). IfOk c.play_setup.result (λ turn. (out : List ℕ) × (after ≡ before ++ out)
    × PlayLineGives keeping g.S.Keeps.may_refuse s c.args.line.now turn out next) in
    subst gives (ap (λ q. record { stage = record { playing = q; stop = c.self.inside.stop }; line = c.self.inside.line }) (sym c.in-None.is) ∙ c.self.view_is)
    (IfOk-weaker c.play_setup.result _ _ (λ turn r. (r.0, r.1, (r.2, is))) c.play_setup.ensures.ok)

pub returns-clause-err : goal.returns-clause-err
returns-clause-err g c =
    let keeping = keeping_of g.K.Keep.content g.K.Keep.is_honest g.K.Keep.refusals in
    let number = c.next_line-self-inside.result in
    let is = c.next_line-self-inside.ensures in
    let left : Stage g.row.K.Denot = record { playing = c.play_setup.new.played; stop = c.play_setup.new.stop } in
    let next : Counted g.row.K.Denot = record { stage = left; line = number } in
    let gives = λ (s : Counted g.row.K.Denot). IfErr c.play_setup.result (λ _. (turn : Turn) × (out : List ℕ)
    × PlayLineGives keeping g.S.Keeps.may_refuse s c.args.line.now turn out next) in
    subst gives (ap (λ q. record { stage = record { playing = q; stop = c.self.inside.stop }; line = c.self.inside.line }) (sym c.in-None.is) ∙ c.self.view_is)
    (if_err_then _ _ c.play_setup.result (λ _ r. (r.0, r.1, (r.2, is))) c.play_setup.ensures.err)
