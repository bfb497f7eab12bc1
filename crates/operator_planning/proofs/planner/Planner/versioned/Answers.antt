use Rattle.std.proofs.Common.{◌≡◌, ap, subst, refl}
use Rattle.ocpi_types.specs.declared.sessions.Session.{Session}
use Rattle.ocpi_types.specs.declared.stored.Push.TheVariants as push
use Rattle.outbox.specs.Outbox.{OutboxRows}
use Rattle.outbox.specs.Pushes.{IsReplaced, Pushes, subject}
use Rattle.node_steps.specs.Peers.{IsPeer}
use Rattle.operator_rows.specs.State.{as_outbox}
use Rattle.operator_planning.proofs.planner.Planner.versioned.Goals as goal

pub returns : goal.returns
returns c =
    let s = c.args.self.now.state in
    let v = c.args.version.now in
    let to = c.in-Some.to.now in
    let older = c.replaced.result in
    let found : IsPeer s.providers v.cdr_token.party to = rw (← c.self.view_is, ← c.providers.ensures) c.in-Some.ensures.found in
    let rows : c.outbox.result.now.rows ≡ as_outbox s.rows = rw (← c.self.view_is) c.outbox.ensures.rows in
    let stands : IsReplaced s.rows.pushes (subject to (push.PutSession c.in_ok-new.field-0)) older =
    subst (λ (m : Pushes). IsReplaced m (subject to (push.PutSession c.in_ok-new.field-0)) older) (ap (λ (x : OutboxRows). x.pushes) rows) c.replaced.ensures in
    record {
      version_is = refl;
      of_provider = found;
      replaces = subst (λ (x : Session). IsReplaced s.rows.pushes (subject to (push.PutSession x)) older) c.in_ok-new.ensures stands;
    }
