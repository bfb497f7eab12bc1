use Rattle.std.proofs.Common.{◌≡◌, ◌++◌, ℕ, List, subst, string_bytes}
use Rattle.std.specs.Prelude.{OnOk}
use Rattle.node_programs.specs.Done.{line_of_member_fault}
use Rattle.json_text.specs.Fault.{fault_name, fault_number}
use Rattle.node_programs.proofs.done_lines.write_malformed_member.Goals as goal

pub returns : goal.returns
returns c =
    let wrote = λ (out : List ℕ). OnOk c.writeln.result (string_bytes c.writeln.new.self ≡ string_bytes c.args.output.now ++ out) in
    subst (λ (field : List ℕ). wrote (line_of_member_fault field c.args.line (fault_name c.args.fault) (fault_number c.args.fault))) c.name-member.ensures
    (subst (λ (name : List ℕ). wrote (line_of_member_fault c.name-member.result.now c.args.line name (fault_number c.args.fault))) c.name-name.ensures
    (subst (λ (n : ℕ). wrote (line_of_member_fault c.name-member.result.now c.args.line c.name-name.result.now n)) c.number-number.ensures c.writeln.ensures.bytes))
