use Rattle.std.proofs.Common.{Bool, refl, sym, subst, string_bytes}
use Rattle.std.proofs.lemmas.Result.{IfOk-weaker}
use Rattle.node_runs.specs.Afters.{DoesPlaced}
use Rattle.node_runs.proofs.ListLemmas.{malformed, refusal_due}
use Rattle.node_runs.proofs.list_lines.answer_element.Goals as goal

pub returns-in-Err-clause-ok : goal.returns-in-Err-clause-ok
returns-in-Err-clause-ok g c =
    let now = c.args.transaction.now in
    let before = string_bytes c.args.lines.now in
    let after = string_bytes c.tell_malformed_at.new.lines in
    let fault = c.in-Err.fault in
    IfOk-weaker c.tell_malformed_at.result _ _ (λ taken told read at.
    subst (λ (b : Bool). DoesPlaced c.args.party.now now c.args.number c.args.place read b before after now) (sym told.0)
    (malformed c.args.party.now now now c.args.number c.args.place read before after fault (refusal_due fault read told.1 (c.in-Err.ensures read at)) told.1 refl told.2))
    c.tell_malformed_at.ensures
