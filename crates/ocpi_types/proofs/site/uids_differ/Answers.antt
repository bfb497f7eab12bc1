use Rattle.std.proofs.Common.{ap, true≢false, sym, take}
use Rattle.ocpi_types.specs.Locations.{evse_keys, site_evse_keys}
use Rattle.ocpi_types.proofs.Turns.{part_repeated, part_added}
use Rattle.ocpi_types.proofs.site.uids_differ.Goals as goal

pub returns-then-not-branch : goal.returns-then-not-branch
returns-then-not-branch c =
    let before = site_evse_keys (take c.loop-location.location-index c.args.locations.now) in (
      λ t. absurd (true≢false (sym t)),
      λ all. absurd (part_repeated (λ l. evse_keys l.evses) c.args.locations.now c.loop-location.location-index c.location-item.result (evse_keys c.as_slice.result.now) c.in_ok-insert_uids.field-0 c.loop-location-test.true c.location-item.is (ap evse_keys c.as_slice.ensures.value) (c.in_ok-insert_uids.ensures.new before c.loop-location.invariant.0) c.if-not-branch.true all),
    )

pub loop-location-preserved : goal.loop-location-preserved
loop-location-preserved c =
    let before = site_evse_keys (take c.loop-location.location-index c.args.locations.now) in
    part_added (λ l. evse_keys l.evses) c.args.locations.now c.loop-location.location-index c.location-item.result (evse_keys c.as_slice.result.now) c.in_ok-insert_uids.field-0 c.loop-location-test.true c.location-item.is (ap evse_keys c.as_slice.ensures.value) (c.in_ok-insert_uids.ensures.new before c.loop-location.invariant.0) c.loop-location.invariant.1 c.if-not-branch.false c.insert_uids.new.uids (c.in_ok-insert_uids.ensures.after before c.loop-location.invariant.0)
