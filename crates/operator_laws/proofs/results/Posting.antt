-- A result that was sent is the one that is kept for its command, and is posted where that command says.
use Rattle.std.proofs.Common.{◌≡◌, ℕ, List, [], ◌∷◌, inl, inr, sym, ap, subst, ◌∙◌}
use Rattle.std.specs.Prelude.{Some, Contains}
use Rattle.std.specs.FinMap.{get, get-empty}
use Rattle.std.specs.Ordering.{nat_cmp}
use Rattle.std.proofs.lemmas.List.Elements.{Contains-append_cases}
use Rattle.tables.specs.Keys.{text_number_cmp}
use Rattle.tables.proofs.Elements.{in_none, in_front}
use Rattle.tables.proofs.Options.{not_both}
use Rattle.ocpi_text.specs.Text.{key}
use Rattle.ocpi_types.specs.Commands.{url_of}
use Rattle.ocpi_types.specs.Stored.{body_of_push}
use Rattle.ocpi_types.specs.declared.packet.Body.TheVariants as body
use Rattle.ocpi_types.specs.declared.packet.Packet.{Packet}
use Rattle.ocpi_types.specs.declared.replies.CommandResult.{CommandResult}
use Rattle.ocpi_types.specs.declared.rows.Row.TheVariants as row
use Rattle.ocpi_types.specs.declared.rows.Change.TheVariants.{Put}
use Rattle.ocpi_types.specs.declared.commands.Command.{Command}
use Rattle.ocpi_types.specs.declared.stored.OpenCommand.{OpenCommand}
use Rattle.ocpi_types.specs.declared.stored.Push.{Push}
use Rattle.ocpi_types.specs.declared.stored.Push.TheVariants as push
use Rattle.outbox.specs.declared.push_book.Outgoing.{Outgoing}
use Rattle.node_steps.proofs.Spelling.{spelled_same}
use Rattle.node_laws.proofs.BodyKinds.{asked_once, no_push}
use Rattle.operator_rows.specs.State.{State, opening}
use Rattle.operator_rows.specs.Sound.{IsConsistent}
use Rattle.operator_rows.proofs.KeepingTimes.{opening_consistent}
use Rattle.operator_rows.proofs.RowChanges.{in_later}
use Rattle.operator_steps.specs.Acts.{told}
use Rattle.operator_steps.specs.Events.{Arrives, Event, Happens}
use Rattle.operator_laws.specs.Laws.{Came, Run, SentResultsAreKept, sent}
use Rattle.operator_laws.specs.Replied.{Asked, ResultsArePosted}
use Rattle.operator_laws.proofs.events.Doing.{Does, does, put_now, stood_or_put}
use Rattle.operator_laws.proofs.events.Keeping.{result_stays}
use Rattle.operator_laws.proofs.events.Reasons as reasons
use Rattle.operator_laws.proofs.events.Reasons.{Carrying, Posting, Saying, Stems}
use Rattle.operator_laws.proofs.events.Standing.{consistent_stays}
use Rattle.operator_laws.proofs.nodes.Messages.{message_of}
use Rattle.operator_laws.proofs.nodes.NodeSteps.{made_stands, saying}
use Rattle.operator_laws.proofs.reservations.Making.{opened_now}
use Rattle.operator_laws.proofs.standing.AtAllTimes.{kept}

-- a body that is a result is that of its push
result_push : (p : Push) (a : CommandResult) → body_of_push p ≡ body.CommandResult a → p ≡ push.CommandResult a
result_push (push.CommandResult x) a e = let same : x ≡ a = cc in ap (λ z. push.CommandResult z) same
result_push (push.PutToken x) a e = cc
result_push (push.PutSession x) a e = cc
result_push (push.PostCdr x) a e = cc

module _ (W : Packet → Type 0) where
  -- each open command came
  abbrev AreAsked : State → Type 0
  AreAsked s = (p : List ℕ) (n : ℕ) (o : OpenCommand) → get s.rows.commands.pending (p, n) ≡ Some o → Asked W p n o.command

  -- the result answers a command that came from that party, is posted where it says, and is kept
  record IsPosted (s : State) (to : List ℕ) (a : CommandResult) : Type 0 where
    number : ℕ
    command : Command
    asked : Asked W (key to) number command
    url_is : a.response_url ≡ url_of command
    kept_is : get s.rows.commands.results (key to, number) ≡ Some a.result

  abbrev ArePosted : State → Type 0
  ArePosted s = (m : ℕ) (o : Outgoing) (a : CommandResult) → get s.rows.pushes m ≡ Some o → o.push ≡ push.CommandResult a → IsPosted s o.to a

  -- it is posted to its party however that is spelled
  respelled : (s : State) (to other : List ℕ) (a : CommandResult) → key other ≡ key to → IsPosted s to a → IsPosted s other a
  respelled s to other a same h = record {
    number = h.number;
    command = h.command;
    asked = subst (λ k. Asked W k h.number h.command) (sym same) h.asked;
    url_is = h.url_is;
    kept_is = subst (λ k. get s.rows.commands.results (k, h.number) ≡ Some a.result) (sym same) h.kept_is;
  }

  -- what the event brings is among these
  abbrev Brings : Event → Type 0
  Brings e = (at : ℕ) (q : Packet) → e.input ≡ Arrives at q → W q

  record Keeps (s : State) : Type 0 where
    fine : IsConsistent s
    asked : AreAsked s
    posted : ArePosted s

  module _ (s t : State) (e : Event) (d : Does s e t) (brings : Brings e) where
    asked_stay : AreAsked s → AreAsked t
    asked_stay before p n o has = elim (opened_now s t e d p n o has) [
      | inl old ↦ before p n o old
      | inr h ↦ (h.decides.packet, brings h.decides.at h.decides.packet h.decides.arrives, h.by, h.number, h.decides.it.carries ∙ ap body.Command (sym h.command_is))
    ]

    -- a result that was posted stays so
    posted_stays : IsConsistent s → (to : List ℕ) (a : CommandResult) → IsPosted s to a → IsPosted t to a
    posted_stays fine to a h = record {
      number = h.number;
      command = h.command;
      asked = h.asked;
      url_is = h.url_is;
      kept_is = result_stays s t e d fine.sound (key to) h.number a.result h.kept_is;
    }

    -- the command of a result that is pushed now was open, or comes now
    stems_from : AreAsked s → (p : List ℕ) (m : ℕ) (c : Command) → Stems s e.input d.acts p m c → Asked W p m c
    stems_from before p m c (inl (o, has, is)) = subst (λ z. Asked W p m z) is (before p m o has)
    stems_from before p m c (inr (h, by, number, is)) = (h.packet, brings h.at h.packet h.arrives, by, number, h.it.carries ∙ ap body.Command is)

    posted_now : Keeps s → (to : List ℕ) (p : Push) (a : CommandResult) → Posting s e.input d.acts to p → p ≡ push.CommandResult a → IsPosted t to a
    posted_now before to p a h is =
        let both : push.CommandResult (told (url_of h.carried) h.result) ≡ push.CommandResult a = sym h.push_is ∙ is in
        let one : told (url_of h.carried) h.result ≡ a = cc in
        record {
          number = h.number;
          command = h.carried;
          asked = stems_from before.asked (key to) h.number h.carried h.stems;
          url_is = ap (λ (z : CommandResult). z.response_url) (sym one);
          kept_is = put_now s t e d before.fine (row.Result (key to) h.number h.result) h.puts ∙ ap (λ (z : CommandResult). Some z.result) one;
        }

    -- of what is pushed, only such a result is one
    carried_now : Keeps s → (to : List ℕ) (p : Push) (a : CommandResult) → Carrying s e.input d.acts to p → p ≡ push.CommandResult a → IsPosted t to a
    carried_now before to p a (reasons.OfResult h) is = posted_now before to p a h is
    carried_now before to p a (reasons.OfVersion v carries same puts) is = let bad : push.PutSession v ≡ push.CommandResult a = sym carries ∙ is in absurd (cc)
    carried_now before to p a (reasons.OfRecord x carries same puts) is = let bad : push.PostCdr x ≡ push.CommandResult a = sym carries ∙ is in absurd (cc)

    posted_all : Keeps s → ArePosted t
    posted_all before m o a has tells = elim (stood_or_put s t e d (row.Push m o.to o.push) tt has) [
      | inl put ↦ carried_now before o.to o.push a (d.reasons before.fine (Put (row.Push m o.to o.push)) put).carries tells
      | inr old ↦ posted_stays before.fine o.to a (before.posted m o a old tells)
    ]

  keeps : (s t : State) (e : Event) → Brings e → Happens s e t → Keeps s → Keeps t
  keeps s t e brings happens before =
      let d = does s t e happens in
      record {
        fine = consistent_stays s t e happens before.fine;
        asked = asked_stay s t e d brings before.asked;
        posted = posted_all s t e d brings before;
      }

  -- once it is posted, for good
  posted_runs : (s t : State) (es : List Event) → Run s es t → IsConsistent s → (to : List ℕ) (a : CommandResult) → IsPosted s to a → IsPosted t to a
  posted_runs s t es run fine to a h = record {
    number = h.number;
    command = h.command;
    asked = h.asked;
    url_is = h.url_is;
    kept_is = (kept (λ z. IsConsistent z × (get z.rows.commands.results (key to, h.number) ≡ Some a.result))
        (λ u v e happens held. (consistent_stays u v e happens held.0, result_stays u v e (does u v e happens) held.0.sound (key to) h.number a.result held.1)) s t es run (fine, h.kept_is)).1;
  }

  sent_now : (s t : State) (e : Event) → Brings e → Happens s e t → Keeps s → Keeps t → (x : Packet) (a : CommandResult) → Contains e.packets x → x.body ≡ body.CommandResult a → IsPosted t x.to a
  sent_now s t e brings happens before after x a i is = by (saying s t e d before.fine after.fine x i)
    where
      d : Does s e t
      d = does s t e happens

      by : Saying s e.input d.acts (message_of x) → IsPosted t x.to a
      by (reasons.Replies q body_is listed how) = absurd (no_push q (push.CommandResult a) (sym body_is ∙ is))
      by (reasons.Pushes p body_is puts) = after.posted x.request (record { to = x.to; push = p }) a (made_stands s t e d before.fine after.fine x.request x.to p puts) (result_push p a (sym body_is ∙ is))
      by (reasons.Again to p body_is to_is stood) =
          respelled t to x.to a (ap key to_is ∙ spelled_same s.providers to)
          (posted_stays s t e d brings before.fine to a (before.posted x.request (record { to = to; push = p }) a stood (result_push p a (sym body_is ∙ is))))
      by (reasons.Asks q body_is listed number acts_are) = absurd ((asked_once x.body q body_is).1 (inr (push.CommandResult a, is)))

  sent_posted : (es : List Event) (s t : State) → Run s es t → ((e : Event) → Contains es e → Brings e) → Keeps s → (x : Packet) (a : CommandResult) → Contains (sent es) x → x.body ≡ body.CommandResult a → IsPosted t x.to a
  sent_posted [] s t run brings before x a i is = absurd (in_none x i)
  sent_posted (e ∷ es) s t (u, first, rest) brings before x a i is =
      let after = keeps s u e (brings e (in_front e es)) first before in
      elim (Contains-append_cases e.packets (sent es) x i) [
        | inl here ↦ posted_runs u t es rest after.fine x.to a (sent_now s u e (brings e (in_front e es)) first before after x a here is)
        | inr there ↦ sent_posted es u t rest (λ f j. brings f (in_later e es f j)) after x a there is
      ]

pub results_are_posted : ResultsArePosted
results_are_posted line es t own run x a i is =
    let posted = sent_posted (Came es) es (opening line) t run (λ e j at q comes. (e, j, (at, comes)))
    (record {
      fine = opening_consistent line own;
      asked = λ p n o has. absurd (not_both o _ (get-empty text_number_cmp (p, n)) has);
      posted = λ m o b has tells. absurd (not_both o _ (get-empty nat_cmp m) has);
    }) x a i is in
    (posted.number, posted.command, posted.asked, posted.url_is, posted.kept_is)

pub sent_results_are_kept : SentResultsAreKept
sent_results_are_kept line es t own run x a i is = let (n, c, asked, url_is, kept_is) = results_are_posted line es t own run x a i is in (n, kept_is)
