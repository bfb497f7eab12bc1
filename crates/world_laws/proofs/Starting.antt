-- A reference of a provider starts one session at most, over all operators: the packets that give it go to one
-- operator, and there one session has it.
use Rattle.std.proofs.Common.{◌≡◌, ℕ, List, inl, inr, sym, ap, subst, ◌∙◌}
use Rattle.std.specs.Prelude.{Some, Contains}
use Rattle.std.specs.FinMap.{get}
use Rattle.ocpi_text.specs.Text.{key}
use Rattle.ocpi_types.specs.Commands.{reference_of}
use Rattle.ocpi_types.specs.declared.authorizations.Authorization.TheVariants as authorization
use Rattle.ocpi_types.specs.declared.packet.Packet.{Packet}
use Rattle.ocpi_types.specs.declared.setup.Node.{Node}
use Rattle.ocpi_types.specs.declared.commands.Command.TheVariants as command
use Rattle.ocpi_types.specs.declared.stored.Reply.TheVariants as reply
use Rattle.ocpi_types.specs.declared.stored.SentCommand.{SentCommand}
use Rattle.operator_rows.specs.State as operator
use Rattle.operator_laws.specs.Sessions as sessions
use Rattle.operator_laws.specs.Sessions.{AreSpentOnce, GivesReference, InSession}
use Rattle.operator_laws.proofs.sessions.Once.{references_are_spent_once}
use Rattle.provider_rows.specs.State as provider
use Rattle.provider_rows.proofs.KeepingTimes.{opening_consistent}
use Rattle.provider_laws.specs.Laws as provider_laws
use Rattle.provider_laws.specs.References.{Carrier, Carries, InCommand, InReply}
use Rattle.provider_laws.proofs.commands.Sent.{sent_commands_stand}
use Rattle.provider_laws.proofs.nodes.NodeLaws.{sent_replies_are_kept}
use Rattle.provider_laws.proofs.references.Carrying.{references_have_one_carrier}
use Rattle.world_steps.specs.Traces.{Histories, Traces}
use Rattle.world_steps.specs.World.{Place, World}
use Rattle.world_laws.specs.Laws.{IsSetup}
use Rattle.world_laws.specs.Nodes.{ProviderOf}
use Rattle.world_laws.specs.Safe.{Started}
use Rattle.world_laws.proofs.NodeRuns.{OperatorAt, ProviderAt, came_to_operator, line_of, one_operator, one_provider, operator_at, peering_of, provider_at}

-- what carries a reference goes to that operator, in key form
abbrev GoesTo : provider.Rows → Carrier → List ℕ → Type 0
GoesTo r (InCommand n) o = (c : SentCommand) × (get r.outbox.commands n ≡ Some c) × (key c.to ≡ o)
GoesTo r (InReply p n) o = p ≡ o

-- and to no other
one_goal : (r : provider.Rows) (a : Carrier) (o q : List ℕ) → GoesTo r a o → GoesTo r a q → o ≡ q
one_goal r (InCommand n) o q (c, has, goes) (d, there, also) =
    let both : Some c ≡ Some d = sym has ∙ there in
    let same : c ≡ d = cc in
    sym goes ∙ ap (λ (z : SentCommand). key z.to) same ∙ also
one_goal r (InReply p n) o q goes also = sym goes ∙ also

-- a provider gave the reference to that operator
record IsGivenTo (s : provider.State) (reference o : List ℕ) : Type 0 where
  carrier : Carrier
  spelled : List ℕ
  same : key spelled ≡ reference
  carries : Carries s.rows carrier spelled
  goes : GoesTo s.rows carrier o

module _ (setup : List Node) (is_setup : IsSetup setup) (w : World) (hs : Histories) (traces : Traces setup w hs) where
  -- a packet that was sent and gives a reference gives it to its addressee
  sent_is_given : (p : List ℕ) (place : Place) (s : provider.State) (at : ProviderAt setup is_setup w hs traces p place s) (q : Packet) (spelled reference o : List ℕ) →
      Contains (provider_laws.sent at.trace.events) q → GivesReference q.body spelled → key spelled ≡ reference → key q.to ≡ o → IsGivenTo s reference o
  sent_is_given p place s at q spelled reference o within gives same to = subst (λ z. IsGivenTo z reference o) at.state_is (by gives)
    where
      by : GivesReference q.body spelled → IsGivenTo at.trace.state reference o
      by (inl (c, is, named)) =
          let (d, has, to_is, command_is) = sent_commands_stand (provider.opening (peering_of setup at.trace.party)) at.trace.state at.trace.events
          (opening_consistent (peering_of setup at.trace.party) at.trace.are_peers) at.trace.run q (command.StartSession c) within is in
          record {
            carrier = InCommand q.request;
            spelled = spelled;
            same = same;
            carries = (d, has, ap reference_of command_is ∙ named);
            goes = (d, has, to_is ∙ to);
          }
      by (inr (moment, info, is, named)) = record {
        carrier = InReply (key q.to) q.request;
        spelled = spelled;
        same = same;
        carries = (
          reply.Authorization (authorization.Done moment info),
          sent_replies_are_kept (peering_of setup at.trace.party) at.trace.events at.trace.state at.trace.run q (reply.Authorization (authorization.Done moment info)) within is,
          named,
        );
        goes = to;
      }

  -- the reference of a session was given to its operator by the provider of its token
  record WasGivenBy (p reference o : List ℕ) : Type 0 where
    place : Place
    state : provider.State
    of : ProviderOf w p place state
    given : IsGivenTo state reference o

  spent_once : (o : List ℕ) (place : Place) (s : operator.State) (at : OperatorAt setup is_setup w hs traces o place s) → AreSpentOnce at.trace.events s
  spent_once o place s at =
      subst (AreSpentOnce at.trace.events) at.state_is
      (references_are_spent_once (line_of setup at.trace.party at.trace.site) at.trace.events at.trace.state at.trace.by_form at.trace.run)

  carried : (p reference o id : List ℕ) (a : Started w p reference o id) → sessions.IsCarriedBy a.stands.state.rows p (InSession id) reference
  carried p reference o id a = (a.session, a.stands.stands, record { of_provider = a.of_provider; spelled = a.spelled; named = a.named; same = a.same })

  was_given : (p reference o id : List ℕ) → Started w p reference o id → WasGivenBy p reference o
  was_given p reference o id a =
      let at = operator_at setup is_setup w hs traces o a.stands.place a.stands.state a.stands.at in
      let given = (spent_once o a.stands.place a.stands.state at).came p (InSession id) reference (carried p reference o id a) in
      let (to, f) = came_to_operator setup is_setup w hs traces o a.stands.place a.stands.state at given.packet given.came in
      record {
        place = f.place;
        state = f.state;
        of = subst (λ z. ProviderOf w z f.place f.state) given.by f.of;
        given = sent_is_given (key given.packet.from) f.place f.state f.at given.packet given.spelled reference o f.within given.gives given.same to;
      }

  -- what a provider gave goes to one operator
  given_to_one : (p : List ℕ) (place : Place) (s : provider.State) (at : ProviderAt setup is_setup w hs traces p place s) (reference o q : List ℕ) → IsGivenTo s reference o → IsGivenTo s reference q → o ≡ q
  given_to_one p place s at reference o q a b =
      let before = λ (x : Carrier) (l : List ℕ) (h : Carries s.rows x l). subst (λ (z : provider.State). Carries z.rows x l) (sym at.state_is) h in
      let same = references_have_one_carrier (peering_of setup at.trace.party) at.trace.events at.trace.state at.trace.are_peers at.trace.run a.carrier b.carrier a.spelled b.spelled
      (before a.carrier a.spelled a.carries) (before b.carrier b.spelled b.carries) (a.same ∙ sym b.same) in
      one_goal s.rows b.carrier o q (subst (λ z. GoesTo s.rows z o) same a.goes) b.goes

  one_operator_of : (p reference o q : List ℕ) → WasGivenBy p reference o → WasGivenBy p reference q → o ≡ q
  one_operator_of p reference o q a b =
      let one = one_provider setup is_setup w hs traces p a.place b.place a.state b.state a.of b.of in
      given_to_one p a.place a.state (provider_at setup is_setup w hs traces p a.place a.state a.of) reference o q a.given
      (subst (λ (z : provider.State). IsGivenTo z reference q) (sym one.1) b.given)

  one_session : (p reference o id jd : List ℕ) → Started w p reference o id → Started w p reference o jd → id ≡ jd
  one_session p reference o id jd a b =
      let at = operator_at setup is_setup w hs traces o a.stands.place a.stands.state a.stands.at in
      let one = one_operator setup is_setup w hs traces o a.stands.place b.stands.place a.stands.state b.stands.state a.stands.at b.stands.at in
      let other = subst (λ (z : operator.State). sessions.IsCarriedBy z.rows p (InSession jd) reference) (sym one.1) (carried p reference o jd b) in
      let same : InSession id ≡ InSession jd = (spent_once o a.stands.place a.stands.state at).one p (InSession id) (InSession jd) reference (carried p reference o id a) other in
      cc

  -- a reference of a provider starts at most one session, over all operators
  pub started : (p reference o id q jd : List ℕ) → Started w p reference o id → Started w p reference q jd → (o ≡ q) × (id ≡ jd)
  started p reference o id q jd a b =
      let same = one_operator_of p reference o q (was_given p reference o id a) (was_given p reference q jd b) in
      (same, one_session p reference o id jd a (subst (λ z. Started w p reference z jd) (sym same) b))
