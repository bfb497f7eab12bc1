use Rattle.std.proofs.Common.{◌≡◌, ◌∙◌, List, [], ℕ, refl, sym, ap, subst, string_bytes}
use Rattle.stored_nodes.specs.Keepers.{keeper_of}
use Rattle.stored_nodes.specs.Stored.{Stored}
use Rattle.stored_nodes.specs.Transactions.{Pending}
use Rattle.node_runs.specs.Afters.{DoesAll}
use Rattle.node_runs.specs.NodeAnswers.{WasStarved}
use Rattle.node_runs.proofs.AfterLemmas.{committed}
use Rattle.node_runs.proofs.list_lines.answer_list.Goals as goal

pub returns-in-Ok : goal.returns-in-Ok
returns-in-Ok g c = λ line read.
    let K = g.row.K.Denot in
    let keeper = keeper_of g.K.Keep.content g.K.Keep.is_honest g.K.Keep.refusals g.K.Keep.may_leave in
    let now = c.args.running in
    let events = c.args.elements.now in
    let first : Pending K = record { state = now.node.state; keep = now.node.keep; changes = [] } in
    let begun : c.begin-transaction.result ≡ first =
    c.begin-transaction.ensures ∙ ap (λ (n : Stored K). record { state = n.state; keep = n.keep; changes = [] }) c.into_parts-party.ensures.node in
    let party = c.into_parts-party.result.0 in
    let p = c.answer_all-answered.new.transaction in
    let turn = c.in-Ok.turn in
    let text = c.as_str.result.now in
    let kept = c.answer_all-answered.ensures.keep ∙ ap (λ (q : Pending K). q.keep) begun in
    let all = subst (λ (q : Pending K). DoesAll party q c.args.number events turn [] text p) begun
    (subst (λ (before : List ℕ). DoesAll party c.begin-transaction.result c.args.number events turn before text p) c.requires
    (subst (λ (after : List ℕ). DoesAll party c.begin-transaction.result c.args.number events turn (string_bytes c.args.lines.now) after p) (sym c.as_str.ensures.value)
    (subst (λ (n : ℕ). DoesAll party c.begin-transaction.result n events turn (string_bytes c.args.lines.now) (string_bytes c.answer_all-answered.new.lines) p) (c.value-2.ensures.value ∙ c.value.ensures.value)
    c.in-Ok.ensures.ok))) in
    committed keeper now c.args.number line events read c.into_parts-party.ensures.stored (string_bytes c.args.output.now) (string_bytes c.commit_all.new.output)
    party p turn text c.into_parts-party.ensures.party kept all c.commit_all.result c.commit_all.ensures

-- memory ran out for an event
pub returns-in-Err : goal.returns-in-Err
returns-in-Err g c = λ line read.
    let K = g.row.K.Denot in
    let kept = c.answer_all-answered.ensures.keep ∙ ap (λ (q : Pending K). q.keep) c.begin-transaction.ensures ∙ ap (λ (n : Stored K). n.keep) c.into_parts-party.ensures.node in
    (WasStarved refl (c.abandon.ensures ∙ kept), c.into_parts-party.ensures.stored, refl)
