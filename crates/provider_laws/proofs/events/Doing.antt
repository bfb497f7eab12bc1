-- What an event does, part by part: line by line, answer by answer.
use Rattle.std.proofs.Common.{◌≡◌, ◌⊎◌, ◌≤◌, ◌<◌, ◌+◌, ℕ, List, [], ◌∷◌, ◌++◌, inl, inr, refl, sym, ap, subst, ◌∙◌, arith, true, false, cond, nat_eq, append_assoc}
use Rattle.std.specs.Prelude.{Option, Some, None, Contains}
use Rattle.std.specs.Cmp.{nat_cmp_total}
use Rattle.std.specs.FinMap.{get, insert, remove, nat_cmp-IsAntisymmetric}
use Rattle.tables.specs.Keys.{text_number_total, text_number_exact}
use Rattle.tables.proofs.Maps.{of_insert, of_remove}
use Rattle.tables.proofs.Options.{not_both}
use Rattle.tables.proofs.Elements.{in_later}
use Rattle.ocpi_text.specs.Text.{key}
use Rattle.ocpi_text.specs.Whole.{max_whole}
use Rattle.ocpi_types.specs.Commands.{reference_of as reference_in}
use Rattle.ocpi_types.specs.declared.events.Order.{Order}
use Rattle.ocpi_types.specs.declared.packet.Packet.{Packet}
use Rattle.ocpi_types.specs.declared.rows.Change.{Change}
use Rattle.ocpi_types.specs.declared.rows.Change.TheVariants.{Put, Drop}
use Rattle.ocpi_types.specs.declared.rows.Counter.{Counter}
use Rattle.ocpi_types.specs.declared.rows.Counter.TheVariants.{Serial, Request, Reference}
use Rattle.ocpi_types.specs.declared.rows.Row.TheVariants as row
use Rattle.ocpi_types.specs.declared.rows.RowKey.TheVariants as keys
use Rattle.ocpi_types.specs.declared.commands.Command.{Command}
use Rattle.ocpi_types.specs.declared.stored.Push.{Push}
use Rattle.ocpi_types.specs.declared.stored.Push.TheVariants as push
use Rattle.ocpi_types.specs.declared.stored.Reply.{Reply}
use Rattle.ocpi_types.specs.declared.stored.SentCommand.{SentCommand}
use Rattle.ocpi_types.specs.declared.token.Token.{Token}
use Rattle.handover.specs.Inbox.{InboxRows}
use Rattle.outbox.specs.Outbox.{OutboxRows}
use Rattle.outbox.specs.declared.push_book.Outgoing.{Outgoing}
use Rattle.token_desk.specs.References.{reference_of}
use Rattle.node_steps.specs.Acts.{Act, all_changes, all_requests, answered, commanded, in_turn, pushed, unanswered}
use Rattle.node_steps.specs.Drafts.{Counters, count_change, count_changes, counted}
use Rattle.node_steps.proofs.Gathering.{changes_append}
use Rattle.provider_rows.specs.State.{Peering, Rows, State}
use Rattle.provider_steps.specs.declared.pushing.Pushing.{Pushing}
use Rattle.provider_steps.specs.Acts.{billed, held, kept, referenced, replaced, stored, token_acts, with_answer, with_result}
use Rattle.provider_steps.specs.Events.{Arrives, Asks, Done, Event, Gives, Happens, Input, Refused, Reopened, Reopens, Restarted, Restarts, Submits, Ticks}
use Rattle.provider_steps.specs.Moves.{Out, counters_of, step_of_acts}
use Rattle.provider_steps.specs.Orders.{Makes, next_reference, next_request}
use Rattle.provider_steps.specs.Orders as orders
use Rattle.provider_steps.specs.Packets.{Answers, PacketLine}
use Rattle.provider_steps.specs.Packets as lines
use Rattle.provider_steps.specs.Tick.{all_resent, resent_acts}
use Rattle.provider_laws.specs.Held.{cdr_put, cdrs_put}
use Rattle.provider_laws.specs.References.{Carrier, InCommand, InReply, Carries, given_in}
use Rattle.provider_laws.proofs.events.Parts.{Does, Kept, SameReplies, SameCommands, Made, Responded, Resulted, SameSessions, SessionTaken, SameCdrs, CdrTaken, SameReferences, Given, CdrsMove}
use Rattle.provider_laws.proofs.events.Through.{ArePlain, acted_through, one_act, plain_append, through, through_append}

-- rows of which all parts but tokens, pushes and counters are those of others
pub record Untouched (r t : Rows) : Type 0 where
  pub replies : t.replies ≡ r.replies
  pub commands : t.outbox.commands ≡ r.outbox.commands
  pub inbox : t.inbox ≡ r.inbox
  pub references : t.desk.references ≡ r.desk.references
  pub last : r.outbox.last ≤ t.outbox.last
  pub pushes : (n : ℕ) (o : Outgoing) → get t.outbox.pushes n ≡ Some o → (get r.outbox.pushes n ≡ Some o) ⊎ ((r.outbox.last < n) × (n ≤ t.outbox.last))

pub untouched_twice : (r t u : Rows) → Untouched r t → Untouched t u → Untouched r u
untouched_twice r t u h g = record {
  replies = g.replies ∙ h.replies;
  commands = g.commands ∙ h.commands;
  inbox = g.inbox ∙ h.inbox;
  references = g.references ∙ h.references;
  last = let one = h.last in let two = g.last in omega (arith, one, two);
  pushes = λ n o has. elim (g.pushes n o has) [
    | inl between ↦ elim (h.pushes n o between) [ inl old ↦ inl old | inr (above, below) ↦ inr (above, let two = g.last in omega (arith, below, two)) ]
    | inr (above, below) ↦ inr (let one = h.last in omega (arith, above, one), below)
  ];
}

-- what carries a reference in the one carries it in the other
carried : (r t : Rows) → t.replies ≡ r.replies → t.outbox.commands ≡ r.outbox.commands → (a : Carrier) (x : List ℕ) → Carries t a x → Carries r a x
carried r t replies commands (InCommand n) x (c, has, is) = (c, sym (ap (λ m. get m n) commands) ∙ has, is)
carried r t replies commands (InReply p n) x (w, has, is) = (w, sym (ap (λ m. get m (p, n)) replies) ∙ has, is)

untouched_does : (s : State) (i : Input) (changes : List Change) (r : Rows) → cdrs_put changes ≡ [] → Untouched s.rows r → Does s i changes r
untouched_does s i changes r none h = record {
  replies = SameReplies h.replies;
  commands = SameCommands h.commands;
  sessions = SameSessions (ap (λ (z : InboxRows). z.sessions) h.inbox);
  cdrs = SameCdrs none (ap (λ (z : InboxRows). z.cdrs) h.inbox);
  references = SameReferences h.references (carried s.rows r h.replies h.commands);
  last = h.last;
  pushes = λ n o has. elim (h.pushes n o has) [ inl old ↦ inl old | inr (above, below) ↦ inr (above, below, h.commands) ];
}

-- one that carries none is put
module _ (s : State) (at : ℕ) (q : Packet) (to : List ℕ) (new : get s.rows.replies (key q.from, q.request) ≡ None) where
  abbrev i : Input
  i = Arrives at q

  abbrev replied : Reply → Rows
  replied w = one_act (answered (key q.from) to q.request w) s.rows

  -- what carries a reference once a reply is kept
  of_replied : (w : Reply) (p : List ℕ) (n : ℕ) (x : List ℕ) → Carries (replied w) (InReply p n) x → Carries s.rows (InReply p n) x ⊎ ((◌≡◌ {A = List ℕ × ℕ} (p, n) (key q.from, q.request)) × (given_in w ≡ Some x))
  of_replied w p n x (v, has, is) = elim (of_insert text_number_total text_number_exact s.rows.replies (key q.from, q.request) w (p, n) v has) [
    | inl (same, equal) ↦ inr (same, ap given_in equal ∙ is)
    | inr old ↦ inl (v, old, is)
  ]

  -- a reply that gives none
  none_given : (w : Reply) → given_in w ≡ None → (r : Rows) → r.replies ≡ (replied w).replies → ((n : ℕ) (x : List ℕ) → Carries r (InCommand n) x → Carries s.rows (InCommand n) x) →
      (a : Carrier) (x : List ℕ) → Carries r a x → Carries s.rows a x
  none_given w none r same commands (InCommand n) x h = commands n x h
  none_given w none r same commands (InReply p n) x (v, has, is) = elim (of_replied w p n x (v, sym (ap (λ m. get m (p, n)) same) ∙ has, is)) [
    | inl old ↦ old
    | inr new_one ↦ not_both x (given_in w) none new_one.1
  ]

  abbrev After : Reply → List Act → Type 0
  After w own = Does s i (all_changes (answered (key q.from) to q.request w ∷ own)) (through own (replied w))

  -- nothing else is done
  only_replied : (w : Reply) (own : List Act) → Answers s at q w own → own ≡ [] → given_in w ≡ None → After w []
  only_replied w own answers is none = record {
    replies = Kept at q refl new w own answers refl to (ap (λ l. through l (replied w)) (sym is));
    commands = SameCommands refl;
    sessions = SameSessions refl;
    cdrs = SameCdrs refl refl;
    references = SameReferences refl (none_given w none (replied w) refl (λ n x h. h));
    last = omega arith;
    pushes = λ n o h. inl h;
  }

  -- the same command under a number
  same_carried : (m : ℕ) (c d : SentCommand) → get s.rows.outbox.commands m ≡ Some c → d.command ≡ c.command → (n : ℕ) (x : List ℕ) (r : Rows) →
      r.outbox.commands ≡ insert s.rows.outbox.commands m d → Carries r (InCommand n) x → Carries s.rows (InCommand n) x
  same_carried m c d stands same n x r is (e, has, named) =
      elim (of_insert nat_cmp_total nat_cmp-IsAntisymmetric s.rows.outbox.commands m d n e (sym (ap (λ z. get z n) is) ∙ has)) [
        | inl (at_m, equal) ↦ (c, ap (get s.rows.outbox.commands) at_m ∙ stands, ap reference_in (sym same) ∙ ap (λ (z : SentCommand). reference_in z.command) equal ∙ named)
        | inr old ↦ (e, old, named)
      ]

  pub answer_does : (w : Reply) (own : List Act) → Answers s at q w own → ((n : ℕ) → Contains (all_changes own) (Put (row.Count Reference n)) → n ≤ max_whole) → After w own
  answer_does w own answers range = by answers
    where
      quiet : own ≡ [] → given_in w ≡ None → After w own
      quiet is none = subst (After w) (sym is) (only_replied w own answers is none)

      by : Answers s at q w own → After w own
      by (lines.ResultTaken r carries n c fits none w_is own_is) = subst (After w) (sym own_is) (record {
        replies = Kept at q refl new w own answers refl to (ap (λ l. through l (replied w)) (sym own_is));
        commands = Resulted at q refl r carries n c fits none refl;
        sessions = SameSessions refl;
        cdrs = SameCdrs refl refl;
        references = SameReferences refl (none_given w (ap given_in w_is) (through (kept n (with_result r.result c) ∷ []) (replied w)) refl
            (λ m x h. same_carried n c (with_result r.result c) fits.command refl m x (through (kept n (with_result r.result c) ∷ []) (replied w)) refl h));
        last = omega arith;
        pushes = λ n o h. inl h;
      })
      by (lines.ResultKnown r carries n c fits x had w_is own_is) = quiet own_is (ap given_in w_is)
      by (lines.ResultOfNone r carries none w_is own_is) = quiet own_is (ap given_in w_is)
      by (lines.SessionRefused x carries wrong w_is own_is) = quiet own_is (ap given_in w_is)
      by (lines.SessionTaken x carries right news w_is own_is) = subst (After w) (sym own_is) (record {
        replies = Kept at q refl new w own answers refl to (ap (λ l. through l (replied w)) (sym own_is));
        commands = SameCommands refl;
        sessions = SessionTaken at q refl x carries right news refl;
        cdrs = SameCdrs refl refl;
        references = SameReferences refl (none_given w (ap given_in w_is) (through (held x ∷ []) (replied w)) refl (λ m y h. h));
        last = omega arith;
        pushes = λ n o h. inl h;
      })
      by (lines.SessionKept x carries right old w_is own_is) = quiet own_is (ap given_in w_is)
      by (lines.CdrRefused x carries wrong w_is own_is) = quiet own_is (ap given_in w_is)
      by (lines.CdrInConflict x carries right conflict w_is own_is) = quiet own_is (ap given_in w_is)
      by (lines.CdrKept x carries right fine had w_is own_is) = quiet own_is (ap given_in w_is)
      by (lines.CdrTaken x carries right fine new_one w_is own_is) = subst (After w) (sym own_is) (record {
        replies = Kept at q refl new w own answers refl to (ap (λ l. through l (replied w)) (sym own_is));
        commands = SameCommands refl;
        sessions = SameSessions refl;
        cdrs = CdrTaken at q refl x carries right fine new_one refl refl;
        references = SameReferences refl (none_given w (ap given_in w_is) (through (billed x ∷ []) (replied w)) refl (λ m y h. h));
        last = omega arith;
        pushes = λ n o h. inl h;
      })
      by (lines.Unknown a carries none w_is own_is) = quiet own_is (ap given_in w_is)
      by (lines.Allowed a carries t has valid w_is own_is) = subst (After w) (sym own_is) (record {
        replies = Kept at q refl new w own answers refl to (ap (λ l. through l (replied w)) (sym own_is));
        commands = SameCommands refl;
        sessions = SameSessions refl;
        cdrs = SameCdrs refl refl;
        references = Given refl (range (next_reference s) (subst (λ l. Contains (all_changes l) (Put (row.Count Reference (next_reference s)))) (sym own_is) (0, omega arith, refl))) (InReply (key q.from) q.request) given_now;
        last = omega arith;
        pushes = λ n o h. inl h;
      })
        where
          given_now : (b : Carrier) (x : List ℕ) → Carries (through (referenced (next_reference s) ∷ []) (replied w)) b x →
              Carries s.rows b x ⊎ ((b ≡ InReply (key q.from) q.request) × (x ≡ (reference_of s.party (next_reference s)).text))
          given_now (InCommand n) x h = inl h
          given_now (InReply p n) x h = elim (of_replied w p n x h) [
            | inl old ↦ inl old
            | inr (same, gives) ↦ inr (ap (λ (k : List ℕ × ℕ). InReply k.0 k.1) same, (let both : Some x ≡ Some (reference_of s.party (next_reference s)).text = sym gives ∙ ap given_in w_is in cc))
          ]
      by (lines.Blocked a carries t has invalid w_is own_is) = quiet own_is (ap given_in w_is)

pub same_rows : (r : Rows) → Untouched r r
same_rows r = record { replies = refl; commands = refl; inbox = refl; references = refl; last = omega arith; pushes = λ n o h. inl h }

-- a token that is pushed, in place of an older push or not
pub pushed_untouched : (at n : ℕ) (to : List ℕ) (x : Push) (k : Option ℕ) (r : Rows) → n ≡ r.outbox.last + 1 → Untouched r (through (replaced k ++ (pushed at n to x ∷ [])) r)
pushed_untouched at n to x None r number = record {
  replies = refl;
  commands = refl;
  inbox = refl;
  references = refl;
  last = omega arith;
  pushes = λ m o h. elim (of_insert nat_cmp_total nat_cmp-IsAntisymmetric r.outbox.pushes n (record { to = to; push = x }) m o h) [
    | inl (same, equal) ↦ inr (omega (arith, same, number), omega (arith, same, number))
    | inr old ↦ inl old
  ];
}
pushed_untouched at n to x (Some k) r number = record {
  replies = refl;
  commands = refl;
  inbox = refl;
  references = refl;
  last = omega arith;
  pushes = λ m o h. elim (of_insert nat_cmp_total nat_cmp-IsAntisymmetric (remove r.outbox.pushes k) n (record { to = to; push = x }) m o h) [
    | inl (same, equal) ↦ inr (omega (arith, same, number), omega (arith, same, number))
    | inr left ↦ inl (of_remove nat_cmp_total nat_cmp-IsAntisymmetric r.outbox.pushes k m o left).1
  ];
}

pub pushed_last : (at n : ℕ) (to : List ℕ) (x : Push) (k : Option ℕ) (r : Rows) → (through (replaced k ++ (pushed at n to x ∷ [])) r).outbox.last ≡ r.outbox.last + 1
pushed_last at n to x None r = omega arith
pushed_last at n to x (Some k) r = omega arith

pub pushed_asks : (at n : ℕ) (to : List ℕ) (x : Push) (k : Option ℕ) → all_requests (replaced k ++ (pushed at n to x ∷ [])) ≡ 1
pushed_asks at n to x None = refl
pushed_asks at n to x (Some k) = refl

pushed_plain : (at n : ℕ) (to : List ℕ) (x : Push) (o : Option ℕ) → ArePlain (all_changes (replaced o ++ (pushed at n to x ∷ [])))
pushed_plain at n to x None = (tt, tt)
pushed_plain at n to x (Some m) = (tt, (tt, tt))

tokens_untouched : (at : ℕ) (v : Token) (last : ℕ) (ps : List Pushing) (r : Rows) → last ≡ r.outbox.last → Untouched r (through (in_turn (token_acts at v) last ps) r)
tokens_untouched at v last [] r is = same_rows r
tokens_untouched at v last (p ∷ ps) r is =
    let first : List Act = token_acts at v last p in
    let rest : List Act = in_turn (token_acts at v) (last + all_requests first) ps in
    let asks = pushed_asks at (last + 1) p.to (push.PutToken v) p.replaced in
    let after_first = pushed_last at (last + 1) p.to (push.PutToken v) p.replaced r in
    let next : last + all_requests first ≡ (through first r).outbox.last = ap (λ n. last + n) asks ∙ ap (λ n. n + 1) is ∙ sym after_first in
    subst (Untouched r) (sym (through_append first rest r))
    (untouched_twice r (through first r) (through rest (through first r)) (pushed_untouched at (last + 1) p.to (push.PutToken v) p.replaced r (omega (arith, is)))
    (tokens_untouched at v (last + all_requests first) ps (through first r) next))

tokens_plain : (at : ℕ) (v : Token) (last : ℕ) (ps : List Pushing) → ArePlain (all_changes (in_turn (token_acts at v) last ps))
tokens_plain at v last [] = tt
tokens_plain at v last (p ∷ ps) =
    let first : List Act = token_acts at v last p in
    let rest : List Act = in_turn (token_acts at v) (last + all_requests first) ps in
    subst ArePlain (sym (changes_append first rest))
    (plain_append (all_changes first) (all_changes rest) (pushed_plain at (last + 1) p.to (push.PutToken v) p.replaced) (tokens_plain at v (last + all_requests first) ps))

-- what is sent again
again_untouched : (operators : List (List ℕ)) (at n : ℕ) (o : Option Outgoing) (c : Option SentCommand) (r : Rows) → Untouched r (through (resent_acts operators at n o c) r)
again_untouched operators at n (Some o) c r = record { replies = refl; commands = refl; inbox = refl; references = refl; last = omega arith; pushes = λ n o h. inl h }
again_untouched operators at n None (Some c) r = record { replies = refl; commands = refl; inbox = refl; references = refl; last = omega arith; pushes = λ n o h. inl h }
again_untouched operators at n None None r = same_rows r

again_plain : (operators : List (List ℕ)) (at n : ℕ) (o : Option Outgoing) (c : Option SentCommand) → ArePlain (all_changes (resent_acts operators at n o c))
again_plain operators at n (Some o) c = tt
again_plain operators at n None (Some c) = tt
again_plain operators at n None None = tt

resent_untouched : (operators : List (List ℕ)) (at : ℕ) (from : OutboxRows) (numbers : List ℕ) (r : Rows) → Untouched r (through (all_resent operators at from numbers) r)
resent_untouched operators at from [] r = same_rows r
resent_untouched operators at from (n ∷ ns) r =
    let first : List Act = resent_acts operators at n (get from.pushes n) (get from.commands n) in
    subst (Untouched r) (sym (through_append first (all_resent operators at from ns) r))
    (untouched_twice r (through first r) (through (all_resent operators at from ns) (through first r)) (again_untouched operators at n (get from.pushes n) (get from.commands n) r) (resent_untouched operators at from ns (through first r)))

resent_plain : (operators : List (List ℕ)) (at : ℕ) (from : OutboxRows) (numbers : List ℕ) → ArePlain (all_changes (all_resent operators at from numbers))
resent_plain operators at from [] = tt
resent_plain operators at from (n ∷ ns) =
    let first : List Act = resent_acts operators at n (get from.pushes n) (get from.commands n) in
    subst ArePlain (sym (changes_append first (all_resent operators at from ns)))
    (plain_append (all_changes first) (all_changes (all_resent operators at from ns)) (again_plain operators at n (get from.pushes n) (get from.commands n)) (resent_plain operators at from ns))

-- no charge detail record is put by them
cdrs_append : (xs ys : List Change) → cdrs_put (xs ++ ys) ≡ cdrs_put xs ++ cdrs_put ys
cdrs_append [] ys = refl
cdrs_append (x ∷ xs) ys = ap (λ l. cdr_put x ++ l) (cdrs_append xs ys) ∙ sym (append_assoc (cdr_put x) (cdrs_put xs) (cdrs_put ys))

count_puts_none : (c : Counter) (last now : ℕ) → cdrs_put (count_change c last now) ≡ []
count_puts_none c last now = elim (nat_eq last now) as (λ b. cdrs_put (cond b [] (Put (row.Count c now) ∷ [])) ≡ []) [ true ↦ refl | false ↦ refl ]

acts_put : (xs ys : List Act) → cdrs_put (all_changes (xs ++ ys)) ≡ cdrs_put (all_changes xs) ++ cdrs_put (all_changes ys)
acts_put xs ys = ap cdrs_put (changes_append xs ys) ∙ cdrs_append (all_changes xs) (all_changes ys)

pushed_put_none : (at n : ℕ) (to : List ℕ) (x : Push) (o : Option ℕ) → cdrs_put (all_changes (replaced o ++ (pushed at n to x ∷ []))) ≡ []
pushed_put_none at n to x None = refl
pushed_put_none at n to x (Some m) = refl

tokens_put_none : (at : ℕ) (v : Token) (last : ℕ) (ps : List Pushing) → cdrs_put (all_changes (in_turn (token_acts at v) last ps)) ≡ []
tokens_put_none at v last [] = refl
tokens_put_none at v last (p ∷ ps) =
    let first : List Act = token_acts at v last p in
    let one = pushed_put_none at (last + 1) p.to (push.PutToken v) p.replaced in
    let more = tokens_put_none at v (last + all_requests first) ps in
    acts_put first (in_turn (token_acts at v) (last + all_requests first) ps) ∙ (λ i. one i ++ more i)

again_put_none : (operators : List (List ℕ)) (at n : ℕ) (o : Option Outgoing) (c : Option SentCommand) → cdrs_put (all_changes (resent_acts operators at n o c)) ≡ []
again_put_none operators at n (Some o) c = refl
again_put_none operators at n None (Some c) = refl
again_put_none operators at n None None = refl

resent_put_none : (operators : List (List ℕ)) (at : ℕ) (from : OutboxRows) (numbers : List ℕ) → cdrs_put (all_changes (all_resent operators at from numbers)) ≡ []
resent_put_none operators at from [] = refl
resent_put_none operators at from (n ∷ ns) =
    let one = again_put_none operators at n (get from.pushes n) (get from.commands n) in
    let more = resent_put_none operators at from ns in
    acts_put (resent_acts operators at n (get from.pushes n) (get from.commands n)) (all_resent operators at from ns) ∙ (λ i. one i ++ more i)

-- an order
module _ (s : State) (at : ℕ) (operator to : List ℕ) where
  abbrev sends_it : Command → Act
  sends_it c = commanded at (next_request s) to c

  abbrev DoesOrder : Order → List Act → Type 0
  DoesOrder o acts = Does s (Submits at operator o) (all_changes acts) (through acts s.rows)

  -- the command that is made carries no reference
  old_carried : {o : Order} {c : Command} {b : List Act} → Makes s o c b → next_request s ≤ max_whole → reference_in c ≡ None → DoesOrder o (sends_it c ∷ [])
  old_carried {o = o} {c = c} {b = b} makes most none = record {
    replies = SameReplies refl;
    commands = Made at operator o refl to c b makes refl (omega arith) most;
    sessions = SameSessions refl;
    cdrs = SameCdrs refl refl;
    references = SameReferences refl by;
    last = omega arith;
    pushes = λ n o h. inl h;
  }
    where
      by : (a : Carrier) (x : List ℕ) → Carries (through (sends_it c ∷ []) s.rows) a x → Carries s.rows a x
      by (InReply p n) x h = h
      by (InCommand n) x (d, has, named) = elim (of_insert nat_cmp_total nat_cmp-IsAntisymmetric s.rows.outbox.commands (next_request s) (unanswered to c) n d has) [
        | inl (same, equal) ↦ not_both x (reference_in c) none (ap (λ (z : SentCommand). reference_in z.command) equal ∙ named)
        | inr old ↦ (d, old, named)
      ]

  -- it carries the next
  new_carried : {o : Order} {c : Command} {b : List Act} → Makes s o c b → next_request s ≤ max_whole → reference_in c ≡ Some (reference_of s.party (next_reference s)).text → next_reference s ≤ max_whole →
      DoesOrder o (referenced (next_reference s) ∷ sends_it c ∷ [])
  new_carried {o = o} {c = c} {b = b} makes most is small = record {
    replies = SameReplies refl;
    commands = Made at operator o refl to c b makes refl (omega arith) most;
    sessions = SameSessions refl;
    cdrs = SameCdrs refl refl;
    references = Given refl small (InCommand (next_request s)) by;
    last = omega arith;
    pushes = λ n o h. inl h;
  }
    where
      by : (a : Carrier) (x : List ℕ) → Carries (through (referenced (next_reference s) ∷ sends_it c ∷ []) s.rows) a x →
          Carries s.rows a x ⊎ ((a ≡ InCommand (next_request s)) × (x ≡ (reference_of s.party (next_reference s)).text))
      by (InReply p n) x h = inl h
      by (InCommand n) x (d, has, named) = elim (of_insert nat_cmp_total nat_cmp-IsAntisymmetric s.rows.outbox.commands (next_request s) (unanswered to c) n d has) [
        | inl (same, equal) ↦ inr (ap InCommand same, (let both : Some x ≡ Some (reference_of s.party (next_reference s)).text = sym named ∙ sym (ap (λ (z : SentCommand). reference_in z.command) equal) ∙ is in cc))
        | inr old ↦ inl (d, old, named)
      ]

  small_next : s.rows.outbox.last + 1 ≤ max_whole → next_request s ≤ max_whole
  small_next h = h

  order_does : {o : Order} {c : Command} {b : List Act} → Makes s o c b → ((n : ℕ) → Contains (all_changes (b ++ (sends_it c ∷ []))) (Put (row.Count Reference n)) → n ≤ max_whole) →
      s.rows.outbox.last + all_requests (b ++ (sends_it c ∷ [])) ≤ max_whole → DoesOrder o (b ++ (sends_it c ∷ []))
  order_does (orders.Start uid type location evse connector t has) range most =
      new_carried (orders.Start uid type location evse connector t has) (small_next most) refl (range (next_reference s) (0, omega arith, refl))
  order_does (orders.Reserve uid type expiry id location evse t has) range most = old_carried (orders.Reserve uid type expiry id location evse t has) (small_next most) refl
  order_does (orders.Stop id) range most = old_carried (orders.Stop id) (small_next most) refl
  order_does (orders.Cancel id) range most = old_carried (orders.Cancel id) (small_next most) refl
  order_does (orders.Unlock location evse connector) range most = old_carried (orders.Unlock location evse connector) (small_next most) refl

  order_plain : {o : Order} {c : Command} {b : List Act} → Makes s o c b → ArePlain (all_changes (b ++ (sends_it c ∷ [])))
  order_plain (orders.Start uid type location evse connector t has) = (tt, (tt, tt))
  order_plain (orders.Reserve uid type expiry id location evse t has) = (tt, tt)
  order_plain (orders.Stop id) = (tt, tt)
  order_plain (orders.Cancel id) = (tt, tt)
  order_plain (orders.Unlock location evse connector) = (tt, tt)

-- a step that does these acts
abbrev DoesAll : State → Input → List Act → Type 0
DoesAll s i acts = Does s i (all_changes acts) (through acts s.rows)

-- a packet
answer_plain : (s : State) (at : ℕ) (q : Packet) (w : Reply) (own : List Act) → Answers s at q w own → ArePlain (all_changes own)
answer_plain s at q w own (lines.ResultTaken r carries n c fits none w_is own_is) = subst (λ l. ArePlain (all_changes l)) (sym own_is) (tt, tt)
answer_plain s at q w own (lines.ResultKnown r carries n c fits x had w_is own_is) = subst (λ l. ArePlain (all_changes l)) (sym own_is) tt
answer_plain s at q w own (lines.ResultOfNone r carries none w_is own_is) = subst (λ l. ArePlain (all_changes l)) (sym own_is) tt
answer_plain s at q w own (lines.SessionRefused x carries wrong w_is own_is) = subst (λ l. ArePlain (all_changes l)) (sym own_is) tt
answer_plain s at q w own (lines.SessionTaken x carries right news w_is own_is) = subst (λ l. ArePlain (all_changes l)) (sym own_is) (tt, tt)
answer_plain s at q w own (lines.SessionKept x carries right old w_is own_is) = subst (λ l. ArePlain (all_changes l)) (sym own_is) tt
answer_plain s at q w own (lines.CdrRefused x carries wrong w_is own_is) = subst (λ l. ArePlain (all_changes l)) (sym own_is) tt
answer_plain s at q w own (lines.CdrInConflict x carries right conflict w_is own_is) = subst (λ l. ArePlain (all_changes l)) (sym own_is) tt
answer_plain s at q w own (lines.CdrKept x carries right fine had w_is own_is) = subst (λ l. ArePlain (all_changes l)) (sym own_is) tt
answer_plain s at q w own (lines.CdrTaken x carries right fine new_one w_is own_is) = subst (λ l. ArePlain (all_changes l)) (sym own_is) (tt, tt)
answer_plain s at q w own (lines.Unknown a carries none w_is own_is) = subst (λ l. ArePlain (all_changes l)) (sym own_is) tt
answer_plain s at q w own (lines.Allowed a carries t has valid w_is own_is) = subst (λ l. ArePlain (all_changes l)) (sym own_is) (tt, tt)
answer_plain s at q w own (lines.Blocked a carries t has invalid w_is own_is) = subst (λ l. ArePlain (all_changes l)) (sym own_is) tt

line_plain : (s : State) (at : ℕ) (q : Packet) (to : List ℕ) (acts : List Act) → PacketLine s at q to acts → ArePlain (all_changes acts)
line_plain s at q to acts (lines.Again asks r has is) = subst (λ l. ArePlain (all_changes l)) (sym is) tt
line_plain s at q to acts (lines.Answered new w own answers is) = subst (λ l. ArePlain (all_changes l)) (sym is) (tt, answer_plain s at q w own answers)
line_plain s at q to acts (lines.Responded r carries c awaited is) = subst (λ l. ArePlain (all_changes l)) (sym is) (tt, tt)
line_plain s at q to acts (lines.LateResponse r carries none is) = subst (λ l. ArePlain (all_changes l)) (sym is) tt
line_plain s at q to acts (lines.Acknowledged a carries ends is) = subst (λ l. ArePlain (all_changes l)) (sym is) (tt, tt)
line_plain s at q to acts (lines.Idle a carries none is) = subst (λ l. ArePlain (all_changes l)) (sym is) tt

line_does : (s : State) (at : ℕ) (q : Packet) (to : List ℕ) (acts : List Act) → PacketLine s at q to acts → ((n : ℕ) → Contains (all_changes acts) (Put (row.Count Reference n)) → n ≤ max_whole) →
    DoesAll s (Arrives at q) acts
line_does s at q to acts (lines.Again asks r has is) range =
    subst (DoesAll s (Arrives at q)) (sym is) (untouched_does s (Arrives at q) [] _ refl (record { replies = refl; commands = refl; inbox = refl; references = refl; last = omega arith; pushes = λ n o h. inl h }))
line_does s at q to acts (lines.Answered new w own answers is) range = subst (DoesAll s (Arrives at q)) (sym is)
    (answer_does s at q to new w own answers (λ n h. range n (subst (λ l. Contains (all_changes l) (Put (row.Count Reference n))) (sym is) (in_later (Put (row.Reply (key q.from) q.request w)) (all_changes own) (Put (row.Count Reference n)) h))))
line_does s at q to acts (lines.Responded r carries c awaited is) range =
    subst (DoesAll s (Arrives at q)) (sym is) (record {
      replies = SameReplies refl;
      commands = Responded at q refl r carries c awaited refl;
      sessions = SameSessions refl;
      cdrs = SameCdrs refl refl;
      references = SameReferences refl by;
      last = omega arith;
      pushes = λ n o h. inl h;
    })
  where
    by : (a : Carrier) (x : List ℕ) → Carries (through (kept q.request (with_answer r c) ∷ []) s.rows) a x → Carries s.rows a x
    by (InReply p n) x h = h
    by (InCommand n) x (d, has, named) = elim (of_insert nat_cmp_total nat_cmp-IsAntisymmetric s.rows.outbox.commands q.request (with_answer r c) n d has) [
      | inl (same, equal) ↦ (c, ap (get s.rows.outbox.commands) same ∙ awaited.stands, ap (λ (z : SentCommand). reference_in z.command) equal ∙ named)
      | inr old ↦ (d, old, named)
    ]
line_does s at q to acts (lines.LateResponse r carries none is) range = subst (DoesAll s (Arrives at q)) (sym is) (untouched_does s (Arrives at q) [] s.rows refl (same_rows s.rows))
line_does s at q to acts (lines.Acknowledged a carries ends is) range =
    subst (DoesAll s (Arrives at q)) (sym is) (untouched_does s (Arrives at q) (Drop (keys.Push q.request) ∷ []) _ refl (record { replies = refl; commands = refl; inbox = refl; references = refl; last = omega arith; pushes = λ n o h. inl (of_remove nat_cmp_total nat_cmp-IsAntisymmetric s.rows.outbox.pushes q.request n o h).1 }))
line_does s at q to acts (lines.Idle a carries none is) range = subst (DoesAll s (Arrives at q)) (sym is) (untouched_does s (Arrives at q) [] s.rows refl (same_rows s.rows))

pub asked_plain : (s : State) (i : Input) (acts : List Act) → Asks s i acts → ArePlain (all_changes acts)
asked_plain s (Arrives at q) acts comes = line_plain s at q comes.operator acts comes.line
asked_plain s (Submits at operator o) acts line = subst (λ l. ArePlain (all_changes l)) (sym line.acts_are) (order_plain s at operator line.to line.makes)
asked_plain s (Gives at t) acts line = subst (λ l. ArePlain (all_changes l)) (sym line.acts_are) (tt, tokens_plain at line.version s.rows.outbox.last line.pushes)
asked_plain s (Ticks at) acts line = subst (λ l. ArePlain (all_changes l)) (sym line.acts_are) (resent_plain s.operators at s.rows.outbox line.due)
asked_plain s Restarts acts line = absurd line
asked_plain s (Reopens p) acts line = absurd line

asked_does : (s : State) (i : Input) (acts : List Act) → Asks s i acts → ((n : ℕ) → Contains (all_changes acts) (Put (row.Count Reference n)) → n ≤ max_whole) → s.rows.outbox.last + all_requests acts ≤ max_whole → DoesAll s i acts
asked_does s (Arrives at q) acts comes range most = line_does s at q comes.operator acts comes.line range
asked_does s (Submits at operator o) acts line range most = subst (DoesAll s (Submits at operator o)) (sym line.acts_are)
    (order_does s at operator line.to line.makes (λ n h. range n (subst (λ l. Contains (all_changes l) (Put (row.Count Reference n))) (sym line.acts_are) h))
    (subst (λ l. s.rows.outbox.last + all_requests l ≤ max_whole) line.acts_are most))
asked_does s (Gives at t) acts line range most = subst (DoesAll s (Gives at t)) (sym line.acts_are)
    (untouched_does s (Gives at t) _ _ (tokens_put_none at line.version s.rows.outbox.last line.pushes) (untouched_twice s.rows (one_act (stored line.version) s.rows) _ (record { replies = refl; commands = refl; inbox = refl; references = refl; last = omega arith; pushes = λ n o h. inl h })
    (tokens_untouched at line.version s.rows.outbox.last line.pushes (one_act (stored line.version) s.rows) (omega arith))))
asked_does s (Ticks at) acts line range most = subst (DoesAll s (Ticks at)) (sym line.acts_are) (untouched_does s (Ticks at) _ _ (resent_put_none s.operators at s.rows.outbox line.due) (resent_untouched s.operators at s.rows.outbox line.due s.rows))
asked_does s Restarts acts line range most = absurd line
asked_does s (Reopens p) acts line range most = absurd line

-- the rows of counters are no records
counts_put_none : (s : State) (acts : List Act) → cdrs_put (step_of_acts s acts).changes ≡ cdrs_put (all_changes acts)
counts_put_none s acts =
    let now : Counters = counted (counters_of s) acts in
    cdrs_append (count_changes (counters_of s) now) (all_changes acts)
    ∙ ap (λ l. l ++ cdrs_put (all_changes acts)) (cdrs_append (count_change Serial s.rows.serial now.serial) (count_change Request s.rows.outbox.last now.request)
    ∙ (λ i. count_puts_none Serial s.rows.serial now.serial i ++ count_puts_none Request s.rows.outbox.last now.request i))

of_step : (s : State) (i : Input) (changes : List Change) (r t : Rows) (others : List Change) → cdrs_put others ≡ cdrs_put changes → t ≡ r → Does s i changes r → Does s i others t
of_step s i changes r t others puts is h =
    let moved : Does s i changes t = subst (Does s i changes) (sym is) h in
    record {
      replies = moved.replies;
      commands = moved.commands;
      sessions = moved.sessions;
      cdrs = subst (λ l. CdrsMove s i l t.inbox.cdrs) (sym puts) moved.cdrs;
      references = moved.references;
      last = moved.last;
      pushes = moved.pushes;
    }

pub does : (s t : State) (e : Event) → Happens s e t → Does s e.input e.changes t.rows
does s t e (Done by) = of_step s e.input (all_changes by.acts) (through by.acts s.rows) t.rows e.changes
    (ap (λ (o : Out). cdrs_put o.changes) by.out_is ∙ counts_put_none s by.acts)
    (ap (λ (o : Out). o.state.rows) by.out_is ∙ acted_through s by.acts (asked_plain s e.input by.acts by.line))
    (asked_does s e.input by.acts by.line by.in_range.references by.in_range.counters.request)
does s t e (Restarted now is) = untouched_does s e.input e.changes t.rows (ap (λ (o : Out). cdrs_put o.changes) is) (subst (Untouched s.rows) (sym (ap (λ (o : Out). o.state.rows) is)) (same_rows s.rows))
does s t e (Reopened p now may is) = untouched_does s e.input e.changes t.rows (ap (λ (o : Out). cdrs_put o.changes) is) (subst (Untouched s.rows) (sym (ap (λ (o : Out). o.state.rows) is)) (same_rows s.rows))
does s t e (Refused same_setup is) = untouched_does s e.input e.changes t.rows (ap (λ (o : Out). cdrs_put o.changes) is) (subst (Untouched s.rows) (sym (ap (λ (o : Out). o.state.rows) is)) (same_rows s.rows))

-- whom the provider deals with is as it was, or as it starts again
pub data IsAmong (s : State) (i : Input) (t : State) : Type 0 where
  Same : t.operators ≡ s.operators → IsAmong s i t
  Other : (p : Peering) → i ≡ Reopens p → t.operators ≡ p.operators → IsAmong s i t

pub is_among : (s t : State) (e : Event) → Happens s e t → IsAmong s e.input t
is_among s t e (Done by) = Same (ap (λ (o : Out). o.state.operators) by.out_is)
is_among s t e (Restarted now is) = Same (ap (λ (o : Out). o.state.operators) is)
is_among s t e (Reopened p now may is) = Other p now (ap (λ (o : Out). o.state.operators) is)
is_among s t e (Refused same_setup is) = Same (ap (λ (o : Out). o.state.operators) is)

-- the party stays
pub same_party : (s t : State) (e : Event) → Happens s e t → t.party ≡ s.party
same_party s t e (Done by) = ap (λ (o : Out). o.state.party) by.out_is
same_party s t e (Restarted now is) = ap (λ (o : Out). o.state.party) is
same_party s t e (Reopened p now may is) = ap (λ (o : Out). o.state.party) is
same_party s t e (Refused same_setup is) = ap (λ (o : Out). o.state.party) is
