-- How many numbers the versions of sessions and charge detail records take, and that they are gathered in turn.
use Rattle.std.proofs.Common.{◌≡◌, ◌≤◌, ◌+◌, ◌++◌, ℕ, List, length, refl, sym, ap, ◌∙◌}
use Rattle.std.specs.Prelude.{Option, Some, None}
use Rattle.ocpi_text.specs.Whole.{max_whole}
use Rattle.ocpi_types.specs.declared.sessions.Session.{Session}
use Rattle.node_steps.specs.Acts.{all_messages, all_requests}
use Rattle.node_steps.specs.Drafts.{Gathered, with_acts}
use Rattle.node_steps.proofs.Gathering.{both}
use Rattle.operator_steps.specs.Sessions.{versioned}
use Rattle.operator_planning.specs.Bills.{bill_acts, completed_acts}
use Rattle.operator_planning.specs.Planned.{version_acts}
use Rattle.operator_planning.specs.declared.reports.bills.Bill.{Bill}
use Rattle.operator_planning.specs.declared.sessions.Versioned.{Versioned}
use Rattle.operator_planning.proofs.CountedDrafts.{CountWithin}

module _ (at last : ℕ) (to : List ℕ) (v : Session) where
  one_sent : (old : Option ℕ) → 1 ≡ length (all_messages (versioned at last to old v))
  one_sent None = refl
  one_sent (Some n) = refl

  one_asked : (old : Option ℕ) → 1 ≡ all_requests (versioned at last to old v)
  one_asked None = refl
  one_asked (Some n) = refl

  one_within : (old : Option ℕ) → CountWithin (versioned at last to old v)
  one_within None = (tt, (tt, tt))
  one_within (Some n) = (tt, (tt, (tt, tt)))

  two_sent : (b : Bill) (old : Option ℕ) → 2 ≡ length (all_messages (versioned at last to old v ++ bill_acts at (last + 1) to b))
  two_sent b None = refl
  two_sent b (Some n) = refl

  two_asked : (b : Bill) (old : Option ℕ) → 2 ≡ all_requests (versioned at last to old v ++ bill_acts at (last + 1) to b)
  two_asked b None = refl
  two_asked b (Some n) = refl

  two_within : (b : Bill) → b.number ≤ max_whole → (old : Option ℕ) → CountWithin (versioned at last to old v ++ bill_acts at (last + 1) to b)
  two_within b h None = (tt, (tt, (h, (tt, (tt, tt)))))
  two_within b h (Some n) = (tt, (tt, (tt, (h, (tt, (tt, tt))))))

-- a version: one packet and one request
pub version_sends : (at last : ℕ) (x : Versioned) → 1 ≡ length (all_messages (version_acts at last x))
version_sends at last x = one_sent at last x.to x.version x.older

pub version_asks : (at last : ℕ) (x : Versioned) → 1 ≡ all_requests (version_acts at last x)
version_asks at last x = one_asked at last x.to x.version x.older

pub version_within : (at last : ℕ) (x : Versioned) → CountWithin (version_acts at last x)
version_within at last x = one_within at last x.to x.version x.older

-- a completed version, with its record: two of each
pub completed_sends : (at last : ℕ) (x : Versioned) (b : Bill) → 2 ≡ length (all_messages (completed_acts at last x b))
completed_sends at last x b = two_sent at last x.to x.version b x.older

pub completed_asks : (at last : ℕ) (x : Versioned) (b : Bill) → 2 ≡ all_requests (completed_acts at last x b)
completed_asks at last x b = two_asked at last x.to x.version b x.older

pub completed_within : (at last : ℕ) (x : Versioned) (b : Bill) → b.number ≤ max_whole → CountWithin (completed_acts at last x b)
completed_within at last x b h = two_within at last x.to x.version b h x.older

pub completed_is : (at : ℕ) (x : Versioned) (b : Bill) (d y z : Gathered) → y ≡ with_acts (version_acts at d.counters.request x) d → z ≡ with_acts (bill_acts at y.counters.request x.to b) y → z ≡ with_acts (completed_acts at d.counters.request x b) d
completed_is at x b d y z one two =
    let last : y.counters.request ≡ d.counters.request + 1 = ap (λ (g : Gathered). g.counters.request) one ∙ ap (λ n. d.counters.request + n) (sym (version_asks at d.counters.request x)) in
    two ∙ ap (λ n. with_acts (bill_acts at n x.to b) y) last
    ∙ ap (λ (g : Gathered). with_acts (bill_acts at (d.counters.request + 1) x.to b) g) one
    ∙ both (version_acts at d.counters.request x) (bill_acts at (d.counters.request + 1) x.to b) d
