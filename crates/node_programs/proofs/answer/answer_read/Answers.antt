use Rattle.std.proofs.Common.{◌++◌, ◌∙◌, Some, refl, ap, string_bytes}
use Rattle.node_steps.specs.FaultText.{fault_text}
use Rattle.line_runs.specs.declared.run.Turn.TheVariants.{Taken, Refused}
use Rattle.node_programs.specs.Answer.{Answered, Unanswered, out_with}
use Rattle.program_lines.specs.Writing.{packet_lines, refusal_line}
use Rattle.program_lines.proofs.FaultLemmas.{of_each}
use Rattle.node_programs.proofs.answer.answer_read.Goals as goal

pub returns-in_ok-write_packets-in-Ok-clause-ok : goal.returns-in_ok-write_packets-in-Ok-clause-ok
returns-in_ok-write_packets-in-Ok-clause-ok c =
    let sent = c.in-Ok.sent in
    let next = c.on_packet.new.self in
    let before = string_bytes c.args.output.now in
    let next_is = ap (λ at. Some (record { at = at; operator = next.operator })) c.on_packet.ensures.at in (
      packet_lines sent.items,
      c.in_ok-write_packets-in-Ok.ensures ∙ ap (λ packets. before ++ packet_lines packets) c.as_slice.ensures.value,
      λ line is. Answered c.args.packet.now is (out_with next.operator c.in-Ok.ensures.step.0 sent.items) c.in-Ok.ensures.step.1 refl refl next_is,
    )

-- what the operator sends was not spelled
pub returns-in_err-write_packets-in-Ok-clause-err : goal.returns-in_err-write_packets-in-Ok-clause-err
returns-in_err-write_packets-in-Ok-clause-err c =
    let sent = c.in-Ok.sent in
    let next = c.on_packet.new.self in
    let next_is = ap (λ at. Some (record { at = at; operator = next.operator })) c.on_packet.ensures.at in
    of_each c.from_residual.result (
      Taken,
      packet_lines sent.items,
      λ line is. Answered c.args.packet.now is (out_with next.operator c.in-Ok.ensures.step.0 sent.items) c.in-Ok.ensures.step.1 refl refl next_is,
    )

pub returns-in_ok-refuse-in-Err-clause-ok : goal.returns-in_ok-refuse-in-Err-clause-ok
returns-in_ok-refuse-in-Err-clause-ok c =
    let fault = c.in-Err.fault in (
      refusal_line (fault_text fault),
      c.in_ok-refuse-in-Err.ensures,
      λ line is. Unanswered c.args.packet.now is fault c.in-Err.ensures.fault refl refl (ap Some c.in-Err.ensures.err),
    )

-- the refusal was not spelled
pub returns-in_err-refuse-in-Err-clause-err : goal.returns-in_err-refuse-in-Err-clause-err
returns-in_err-refuse-in-Err-clause-err c =
    let fault = c.in-Err.fault in
    of_each c.from_residual-in_err-refuse-in-Err.result (
      Refused,
      refusal_line (fault_text fault),
      λ line is. Unanswered c.args.packet.now is fault c.in-Err.ensures.fault refl refl (ap Some c.in-Err.ensures.err),
    )
