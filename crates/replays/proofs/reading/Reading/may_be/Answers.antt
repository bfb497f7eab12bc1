use Rattle.std.proofs.Common.{◌↔◌, ◌==◌, ◌∙◌, IsTrue, ap, subst, sym}
use Rattle.replays.proofs.PartyLemmas.{may_be_any, may_be_some, nobody, none_of, some_of}
use Rattle.replays.specs.Reading.{IsAmong, MayBe, Reader}
use Rattle.replays.proofs.reading.Reading.may_be.Goals as goal

pub returns-then-is_empty : goal.returns-then-is_empty
returns-then-is_empty c =
    let r = c.self.inside in
    subst (λ (x : Reader). IsTrue c.is_empty.result ↔ MayBe x c.args.party.now) c.self.view_is
    (subst (λ b. IsTrue b ↔ MayBe (record { earlier = r.earlier.now; parties = r.parties.items; story = r.history }) c.args.party.now) (sym c.if-is_empty.true) (may_be_any (record { earlier = r.earlier.now; parties = r.parties.items; story = r.history }) c.args.party.now (nobody r.earlier.now c.args.party.now c.is_among.result c.is_among.ensures c.if-is_among.false)
    (none_of r.parties.items c.is_empty.result (c.is_empty.ensures ∙ ap (λ n. n == 0) r.parties.ok.0) c.if-is_empty.true)))

pub returns-else-is_empty : goal.returns-else-is_empty
returns-else-is_empty c =
    let r = c.self.inside in
    subst (λ (x : Reader). IsTrue c.is_among-else-is_empty.result ↔ MayBe x c.args.party.now) c.self.view_is
    (may_be_some (record { earlier = r.earlier.now; parties = r.parties.items; story = r.history }) c.args.party.now c.is_among-else-is_empty.result (nobody r.earlier.now c.args.party.now c.is_among.result c.is_among.ensures c.if-is_among.false)
    (some_of r.parties.items c.is_empty.result (c.is_empty.ensures ∙ ap (λ n. n == 0) r.parties.ok.0) c.if-is_empty.false) (subst (λ l. IsTrue c.is_among-else-is_empty.result ↔ IsAmong l c.args.party.now) c.as_slice.ensures.value c.is_among-else-is_empty.ensures))
