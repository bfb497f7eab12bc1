use Rattle.std.proofs.Common.{◌≡◌, ◌∙◌, get_or, length, ap, refl, subst, sym}
use Rattle.ocpi_types.specs.Setups.{party_of}
use Rattle.replays.proofs.OpenLemmas.{begun, member_is, number_known, number_so, rows_counted}
use Rattle.replays.specs.LineTurns.{Held, Store}
use Rattle.replays.specs.Reading.{IsOpenedIn, Reader, run_over}
use Rattle.replays.proofs.reading.Reading.begin.Goals as goal
use Rattle.replays.proofs.reading.Reading.begin.Goals.{in-Some, in-None}

pub returns : goal.returns
returns c =
    let r = c.args.self.now in
    let t = c.self.inside in
    let w = c.requires.way in
    let b = c.args.behind in
    let story = ap (λ (x : Reader). x.story) c.self.view_is in
    let known = c.behind-self.inside.line in
    let rows = rows_counted c.held-2.result.now r.story.held w.way.opens.rows (c.held-2.ensures ∙ ap (λ (x : Reader). x.story.held) c.self.view_is) w.way.opens.lists
    ∙ sym (ap (λ (s : Store). length s.rows) c.behind-self-2.view_is) ∙ sym c.behind-self-2.inside.rows.ok.0 ∙ sym c.len-rows.ensures in
    let member = member_is c.args.setup c.args.member c.index-as_slice-member.result w.way.member
    (subst (λ l. c.index-as_slice-member.result ≡ get_or l c.args.member c.index-as_slice-member.result) c.as_slice.ensures.value c.index-as_slice-member.is) w.there in
    begun r (record { earlier = t.earlier.now; parties = c.in_ok-self-inside.field-0.items; story = c.open.new.self }) b.line.bytes.now c.args.setup c.args.base b.piece.bytes.now c.args.member c.args.opened w
    (subst (λ s. IsOpenedIn s c.open.new.self (run_over b.line.bytes.now c.args.setup w.way.opens.rows w.way.member w.way.state)) story
    (c.in_ok-opening.ensures.is (run_over b.line.bytes.now c.args.setup w.way.opens.rows w.way.member w.way.state) (refl, refl, w.there, rows, sym w.serial)))
    (c.in_ok-opening.ensures.doubt ∙ ap (λ (x : Reader). x.story.doubt) c.self.view_is ∙ c.requires.doubt)
    c.party-party.result.now (c.party-party.ensures ∙ ap party_of member) c.in_ok-self-inside.ensures (ap (λ (x : Reader). x.earlier) c.self.view_is)
    c.in_ok-opening.opening (c.in_ok-opening.ensures.place ∙ ap (λ (x : Reader). length x.story.openings) c.self.view_is) known c.match-base.result
    (ap (λ (s : Store). s.line) c.behind-self.view_is ∙ ap (λ (h : Held). h.line) c.held.ensures ∙ ap (λ (x : Reader). x.story.held.line) c.self.view_is)
    (elim c.match-base.branch [ in-Some w ↦ w.result-is ∙ sym (number_so c.args.base known w.in-Some.base w.in-Some.is) | in-None w ↦ w.result-is ∙ sym (number_known c.args.base known w.in-None.is) ])
