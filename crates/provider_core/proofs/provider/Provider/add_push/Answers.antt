use Rattle.std.proofs.Common.{◌≡◌, ap, subst}
use Rattle.ocpi_types.specs.declared.stored.Push.TheVariants as push
use Rattle.ocpi_types.specs.declared.token.Token.{Token}
use Rattle.outbox.specs.Outbox.{OutboxRows}
use Rattle.outbox.specs.Pushes.{IsReplaced, Pushes, subject}
use Rattle.provider_core.proofs.Plans.{on_more}
use Rattle.provider_core.proofs.Pushing.{push_is}
use Rattle.provider_core.proofs.provider.Provider.add_push.Goals as goal

pub returns : goal.returns
returns c =
    let s = c.args.self.now.state in
    let t = c.args.version.now in
    let older = c.replaced-older.result in
    let rows : c.outbox.result.now.rows ≡ s.rows.outbox = rw (← c.self.view_is) c.outbox.ensures.rows in
    let stands : IsReplaced s.rows.outbox.pushes (subject c.args.to (push.PutToken c.in_ok-copy.field-0)) older =
    subst (λ (m : Pushes). IsReplaced m (subject c.args.to (push.PutToken c.in_ok-copy.field-0)) older) (ap (λ (x : OutboxRows). x.pushes) rows) c.replaced-older.ensures in
    let replaced : IsReplaced s.rows.outbox.pushes (subject c.args.to (push.PutToken t)) older =
    subst (λ (x : Token). IsReplaced s.rows.outbox.pushes (subject c.args.to (push.PutToken x)) older) c.in_ok-copy.ensures stands in
    on_more c.push.result (λ h. record {
      older = older;
      replaced = replaced;
      all = push_is c.args.at t c.args.to older (push.PutToken c.in_ok-copy.field-0) c.args.draft.now c.add_replaced.new.draft c.push.new.self c.in_ok-add_replaced.ensures (ap push.PutToken c.in_ok-copy.ensures) h;
    }) c.push.ensures
