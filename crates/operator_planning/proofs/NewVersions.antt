-- Of each session there is a version to be pushed, whichever push it replaces, so that what is refused can be told.
use Rattle.std.proofs.Common.{ℕ, refl}
use Rattle.ocpi_text.specs.Text.{key}
use Rattle.ocpi_types.specs.declared.sessions.Session.{Session}
use Rattle.ocpi_types.specs.declared.stored.Push.TheVariants as push
use Rattle.outbox.specs.Pushes.{subject}
use Rattle.node_steps.specs.Peers.{HasPeer}
use Rattle.operator_rows.specs.State.{State}
use Rattle.operator_steps.specs.Sessions.{first_of}
use Rattle.operator_planning.specs.Planned.{IsNewSession, IsNewVersion}
use Rattle.operator_planning.specs.declared.sessions.Begun.{Begun}
use Rattle.operator_planning.specs.declared.sessions.Versioned.{Versioned}
use Rattle.operator_planning.proofs.Replacing.{replaced_is}
use Rattle.session_tables.specs.declared.beginning.Beginning.{Beginning}

pub some_version : (s : State) (v : Session) → HasPeer s.providers (key v.cdr_token.party) → (x : Versioned) × IsNewVersion s v x
some_version s v peer =
    let old = replaced_is s.rows.pushes (subject peer.0 (push.PutSession v)) in
    (record { to = peer.0; older = old.0; version = v }, record { version_is = refl; of_provider = record { listed = peer.1; same = peer.2 }; replaces = old.1 })

pub some_session : (s : State) (at n : ℕ) (b : Beginning) → HasPeer s.providers (key b.token.party) → (x : Begun) × IsNewSession s at n b x
some_session s at n b peer =
    let first = some_version s (first_of s at n b) peer in
    (record { provider = key b.token.party; reservation_id = b.reservation_id; first = first.0 }, record { provider_is = refl; used_is = refl; first = first.1 })
