use Rattle.std.proofs.Common.{◌∙◌, List, ap, arith, subst, sym}
use Rattle.std.proofs.lemmas.Option.{same_Some}
use Rattle.ocpi_text.specs.Text.{key}
use Rattle.ocpi_types.specs.declared.packet.Packet.{Packet}
use Rattle.world.proofs.Delivering.{is_here, may_arrive, none_arrives}
use Rattle.world.proofs.Names.{as_many, key_there, name_read, none_more, other_name, same_name}
use Rattle.world.proofs.finding.delivered.Goals as goal
use Rattle.world.proofs.finding.delivered.Goals.{then-eq+in_default, else-eq}
use Rattle.world_steps.specs.Deliveries.{IsSentTo}
use Rattle.world.specs.declared.place.Place.{Place}

pub returns-in-Some-clause-found : goal.returns-in-Some-clause-found
returns-in-Some-clause-found c =
    let ps = c.args.places.now in
    let names = c.args.names.now in
    let i = c.loop-i.i in
    let x = c.index-places-i.result in
    let q = c.in-Some.packet.now in
    let name = c.index-names-i.result in
    let here = is_here ps i x (omega (arith, c.loop-i-test.true, as_many ps names c.requires)) c.index-places-i.is in
    let same = same_name name c.key-name.result c.eq.result c.eq.ensures c.if-eq.true ∙ c.key-name.ensures in
    may_arrive ps c.args.to.now c.args.from.now c.args.serial i x q here
    (key_there ps names c.requires c.args.from.now i x name here (name_read names i name c.loop-i-test.true c.index-names-i.is) ∙ same)
    (subst (λ (sent : List Packet). IsSentTo sent c.args.to.now c.args.serial q) (c.as_slice.ensures.value ∙ ap (λ (z : Place). z.sent.items) (sym c.index-places-i.is)) c.in-Some.ensures.found)

pub loop-i-preserved : goal.loop-i-preserved
loop-i-preserved c =
    let ps = c.args.places.now in
    let names = c.args.names.now in
    let i = c.loop-i.i in
    let name = c.index-names-i.result in
    let read = name_read names i name c.loop-i-test.true c.index-names-i.is in
    λ k p q below at sent.
    none_more ps c.args.from.now (λ (z : Place). IsSentTo z.sent.items c.args.to.now c.args.serial q) i (λ j z before there has. c.loop-i.invariant j z q before there has)
    (elim c.if-eq.branch [
      | then-eq+in_default w ↦ λ z there has.
          let x = w.index-places-i.result in
          let here = is_here ps i x (omega (arith, c.loop-i-test.true, as_many ps names c.requires)) w.index-places-i.is in
          let is = same_Some z x (sym there.here ∙ here) ∙ w.index-places-i.is in
          w.in_default.ensures.none q (subst (λ (l : List Packet). IsSentTo l c.args.to.now c.args.serial q) (ap (λ (y : Place). y.sent.items) is ∙ sym w.as_slice.ensures.value) has)
      | else-eq w ↦ λ z there has.
          let same = sym (key_there ps names c.requires c.args.from.now i z name there.here read) ∙ there.same in
          other_name name c.key-name.result c.eq.result c.eq.ensures w.if-eq.false (same ∙ sym c.key-name.ensures)
    ]) k p below at sent

pub returns-clause-none : goal.returns-clause-none
returns-clause-none c = λ q may.
    none_arrives c.args.places.now c.args.to.now c.args.from.now c.args.serial q
    (λ k p within at has. c.loop-i.invariant k p q (omega (arith, within, c.loop-i-test.false, as_many c.args.places.now c.args.names.now c.requires)) at has) may
