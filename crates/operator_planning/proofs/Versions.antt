-- What is decided of a session that begins, or of its versions, and the acts that a line asks for.
use Rattle.std.proofs.Common.{◌++◌, ℕ, ap}
use Rattle.ocpi_types.specs.declared.sessions.Session.{Session}
use Rattle.operator_rows.specs.State.{State}
use Rattle.operator_steps.specs.Acts.{used}
use Rattle.operator_steps.specs.Sessions.{IsBegun, IsVersioned, first_of, versioned}
use Rattle.operator_planning.specs.Planned.{IsNewSession, IsNewVersion, begun_acts, version_acts}
use Rattle.operator_planning.specs.declared.sessions.Begun.{Begun}
use Rattle.operator_planning.specs.declared.sessions.Versioned.{Versioned}
use Rattle.session_tables.specs.declared.beginning.Beginning.{Beginning}

pub version_is : (s : State) (at last : ℕ) (v : Session) (x : Versioned) → IsNewVersion s v x → IsVersioned s at last v (version_acts at last x)
version_is s at last v x h = record {
  to = x.to;
  of_provider = h.of_provider;
  old = x.older;
  replaces = h.replaces;
  acts_are = ap (λ (w : Session). versioned at last x.to x.older w) h.version_is;
}

pub begun_is : (s : State) (at last n : ℕ) (b : Beginning) (x : Begun) → IsNewSession s at n b x → IsBegun s at last n b (begun_acts at last x)
begun_is s at last n b x h = record {
  first = version_acts at last x.first;
  versioned = version_is s at last (first_of s at n b) x.first h.first;
  acts_are = λ i. used (h.provider_is i) (h.used_is i) ++ version_acts at last x.first;
}
