use Rattle.std.proofs.Common.{◌≡◌, ◌++◌, ℕ, List, subst, string_bytes}
use Rattle.std.specs.Prelude.{OnOk}
use Rattle.node_programs.specs.Done.{line_of_refusal}
use Rattle.node_steps.specs.FaultText.{fault_number}
use Rattle.node_programs.proofs.done_lines.write_refused.Goals as goal

pub returns : goal.returns
returns c =
    let wrote = λ (out : List ℕ). OnOk c.writeln.result (string_bytes c.writeln.new.self ≡ string_bytes c.args.output.now ++ out) in
    subst (λ (name : List ℕ). wrote (line_of_refusal c.args.line name (fault_number c.args.fault))) c.name-name.ensures
    (subst (λ (n : ℕ). wrote (line_of_refusal c.args.line c.name-name.result.now n)) c.number-number.ensures c.writeln.ensures.bytes)
