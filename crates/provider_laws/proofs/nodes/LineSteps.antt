-- Each line is a step of a node.
use Rattle.std.proofs.Common.{◌≡◌, ◌⊎◌, ◌+◌, ◌≤◌, ◌++◌, ℕ, List, [], ◌∷◌, inl, inr, refl, sym, ap, subst, ◌∙◌, arith}
use Rattle.std.specs.Prelude.{Option, Some, None, Contains, is_some}
use Rattle.std.specs.FinMap.{get}
use Rattle.std.proofs.lemmas.List.Elements.{Contains-append_right}
use Rattle.tables.proofs.Elements.{in_front, in_map}
use Rattle.tables.proofs.Options.{none_contained, none_else, none_some, not_both}
use Rattle.ocpi_text.specs.Text.{key}
use Rattle.ocpi_types.specs.Commands.{url_of}
use Rattle.ocpi_types.specs.Stored.{body_of_push}
use Rattle.ocpi_types.specs.declared.events.Order.{Order}
use Rattle.ocpi_types.specs.declared.packet.Packet.{Packet}
use Rattle.ocpi_types.specs.declared.rows.Change.TheVariants.{Put}
use Rattle.ocpi_types.specs.declared.rows.Counter.TheVariants.{Reference}
use Rattle.ocpi_types.specs.declared.rows.Row.TheVariants as row
use Rattle.ocpi_types.specs.declared.commands.Command.{Command}
use Rattle.ocpi_types.specs.declared.commands.Command.TheVariants as command
use Rattle.ocpi_types.specs.declared.stored.Push.{Push}
use Rattle.ocpi_types.specs.declared.stored.Push.TheVariants as push
use Rattle.ocpi_types.specs.declared.stored.Reply.{Reply}
use Rattle.ocpi_types.specs.declared.stored.SentCommand.{SentCommand}
use Rattle.ocpi_types.specs.declared.token.Token.{Token}
use Rattle.ocpi_types.specs.declared.words.TokenType.{TokenType}
use Rattle.ocpi_types.specs.declared.words.TokenType.TheVariants as type
use Rattle.outbox.specs.Outbox.{OutboxRows, Waits}
use Rattle.outbox.specs.Pushes.{IsReplaced, subject, type_number}
use Rattle.outbox.specs.declared.push_book.Outgoing.{Outgoing}
use Rattle.outbox.specs.declared.push_book.Subject.{Subject}
use Rattle.node_steps.specs.Acts.{Act, all_requests, answered, commanded, in_turn, pushed}
use Rattle.node_steps.specs.Peers.{IsPeer, spelled}
use Rattle.node_steps.proofs.Spelling.{spelled_either, spelled_same}
use Rattle.node_laws.specs.Nodes.{AreAboutSame, Tokens}
use Rattle.provider_rows.specs.State.{Rows, State}
use Rattle.provider_rows.specs.Sound.{IsConsistent}
use Rattle.provider_steps.specs.declared.pushing.Pushing.{Pushing}
use Rattle.provider_steps.specs.Acts.{referenced, replaced, stored, token_acts}
use Rattle.provider_steps.specs.Events.{Arrives, Asks, Gives, Input, Reopens, Restarts, Submits, Ticks}
use Rattle.provider_steps.specs.Orders as orders
use Rattle.provider_steps.specs.Orders.{Makes, next_reference, next_request}
use Rattle.provider_steps.specs.Packets as lines
use Rattle.provider_steps.specs.Packets.{Answers, PacketLine}
use Rattle.provider_steps.specs.Tick.{all_resent, resent_acts}
use Rattle.provider_steps.specs.Tokens.{AreTokenPushes}
use Rattle.provider_laws.specs.AsNode.{AreAmong, came_in, pushed_request, wide}
use Rattle.provider_laws.proofs.events.Doing.{Untouched, pushed_asks, pushed_last, pushed_untouched, untouched_twice}
use Rattle.provider_laws.proofs.events.Through.{one_act, through}
use Rattle.provider_laws.proofs.nodes.ActSteps.{AreStep, acknowledged_step, answered_step, command_resent_step, commanded_step, no_step, pushed_step, quiet, repeated_step, replaced_step, resent_step, responded_step, resulted_step, step_append}
use Rattle.provider_laws.proofs.replies.Answering.{answers_request}

-- the numbers of requests were given, and none is both a push's and a command's
pub record AreWell (r : OutboxRows) : Type 0 where
  pub commands : (n : ℕ) (c : SentCommand) → get r.commands n ≡ Some c → n ≤ r.last
  pub pushes : (n : ℕ) (o : Outgoing) → get r.pushes n ≡ Some o → n ≤ r.last
  pub apart : (n : ℕ) (o : Outgoing) → get r.pushes n ≡ Some o → get r.commands n ≡ None

pub well_of : (s : State) → IsConsistent s → AreWell s.rows.outbox
well_of s fine = record {
  commands = λ n c has. fine.sound.outbox.commands_counted n (ap is_some has);
  pushes = λ n o has. fine.sound.outbox.pushes_counted n (ap is_some has);
  apart = λ n o has. none_else (get s.rows.outbox.commands n) (λ c stands. fine.sound.outbox.apart n (ap is_some has) (ap is_some stands));
}

-- where a command stands there is no push, and none under the next number
unpushed : (r : OutboxRows) → AreWell r → (n : ℕ) (c : SentCommand) → get r.commands n ≡ Some c → get r.pushes n ≡ None
unpushed r well n c stands = none_else (get r.pushes n) (λ o has. not_both c (get r.commands n) (well.apart n o has) stands)

next_free : (r : OutboxRows) → AreWell r → get r.pushes (r.last + 1) ≡ None
next_free r well = none_else (get r.pushes (r.last + 1)) (λ o has. let below = well.pushes (r.last + 1) o has in omega (arith, below))

one_command : (c d : SentCommand) → Some c ≡ Some d → c ≡ d
one_command c d e = cc

-- tokens of one subject are about the same
type_positive : (a : TokenType) → 0 ≡ type_number a → ⊥
type_positive type.AdHocUser e = omega (arith, e)
type_positive type.AppUser e = omega (arith, e)
type_positive type.Other e = omega (arith, e)
type_positive type.Rfid e = omega (arith, e)

same_type : (a b : TokenType) → type_number a ≡ type_number b → a ≡ b
same_type type.AdHocUser type.AdHocUser e = refl
same_type type.AdHocUser type.AppUser e = absurd (omega (arith, e))
same_type type.AdHocUser type.Other e = absurd (omega (arith, e))
same_type type.AdHocUser type.Rfid e = absurd (omega (arith, e))
same_type type.AppUser type.AdHocUser e = absurd (omega (arith, e))
same_type type.AppUser type.AppUser e = refl
same_type type.AppUser type.Other e = absurd (omega (arith, e))
same_type type.AppUser type.Rfid e = absurd (omega (arith, e))
same_type type.Other type.AdHocUser e = absurd (omega (arith, e))
same_type type.Other type.AppUser e = absurd (omega (arith, e))
same_type type.Other type.Other e = refl
same_type type.Other type.Rfid e = absurd (omega (arith, e))
same_type type.Rfid type.AdHocUser e = absurd (omega (arith, e))
same_type type.Rfid type.AppUser e = absurd (omega (arith, e))
same_type type.Rfid type.Other e = absurd (omega (arith, e))
same_type type.Rfid type.Rfid e = refl

one_subject : (u w : Subject) → Some u ≡ Some w → u ≡ w
one_subject u w e = cc

about_same : (a to : List ℕ) (b : Push) (v : Token) → subject a b ≡ subject to (push.PutToken v) →
    AreAboutSame (record { to = a; body = body_of_push b }) (record { to = to; body = body_of_push (push.PutToken v) })
about_same a to (push.CommandResult x) v e = none_some _ e
about_same a to (push.PostCdr x) v e = none_some _ e
about_same a to (push.PutSession x) v e = absurd (type_positive v.token_type (ap (λ (u : Subject). u.kind) (one_subject _ _ e)))
about_same a to (push.PutToken x) v e =
    let same = one_subject _ _ e in
    Tokens x v refl refl (ap (λ (u : Subject). u.operator) same) (ap (λ (u : Subject). u.party) same) (same_type x.token_type v.token_type (ap (λ (u : Subject). u.kind) same)) (ap (λ (u : Subject). u.id) same)

module _ (qs : List (List ℕ)) (s : State) (peers : AreAmong s.operators qs) (came : List Packet) (well : AreWell s.rows.outbox) where
  module _ (at : ℕ) (q : Packet) (to : List ℕ) (arrived : Contains came q) (peer : IsPeer s.operators q.from to) where
    -- the rows once the reply is kept
    abbrev replied : Reply → Rows
    replied w = one_act (answered (key q.from) to q.request w) s.rows

    own_steps : (w : Reply) (own : List Act) → Answers s at q w own → AreStep (wide qs s) came (replied w) own
    own_steps w own (lines.ResultTaken r carries n c fits none w_is own_is) =
        let it : fits.fits.command ≡ c = one_command fits.fits.command c (sym fits.fits.stands ∙ fits.command) in
        subst (AreStep (wide qs s) came (replied w)) (sym own_is) (resulted_step (wide qs s) came (replied w) q r n c arrived carries (unpushed s.rows.outbox well n c fits.command) fits.command
        (sym (ap (λ (z : SentCommand). key z.to) it) ∙ fits.fits.sender) (sym fits.fits.posted ∙ ap (λ (z : SentCommand). url_of z.command) it))
    own_steps w own (lines.ResultKnown r carries n c fits x had w_is own_is) = subst (AreStep (wide qs s) came (replied w)) (sym own_is) (no_step (wide qs s) came (replied w))
    own_steps w own (lines.ResultOfNone r carries none w_is own_is) = subst (AreStep (wide qs s) came (replied w)) (sym own_is) (no_step (wide qs s) came (replied w))
    own_steps w own (lines.SessionRefused x carries wrong w_is own_is) = subst (AreStep (wide qs s) came (replied w)) (sym own_is) (no_step (wide qs s) came (replied w))
    own_steps w own (lines.SessionTaken x carries right news w_is own_is) =
        subst (AreStep (wide qs s) came (replied w)) (sym own_is) (quiet (wide qs s) came (replied w) (Put (row.Session x)) refl (λ m. refl))
    own_steps w own (lines.SessionKept x carries right old w_is own_is) = subst (AreStep (wide qs s) came (replied w)) (sym own_is) (no_step (wide qs s) came (replied w))
    own_steps w own (lines.CdrRefused x carries wrong w_is own_is) = subst (AreStep (wide qs s) came (replied w)) (sym own_is) (no_step (wide qs s) came (replied w))
    own_steps w own (lines.CdrInConflict x carries right conflict w_is own_is) = subst (AreStep (wide qs s) came (replied w)) (sym own_is) (no_step (wide qs s) came (replied w))
    own_steps w own (lines.CdrKept x carries right fine had w_is own_is) = subst (AreStep (wide qs s) came (replied w)) (sym own_is) (no_step (wide qs s) came (replied w))
    own_steps w own (lines.CdrTaken x carries right fine new_one w_is own_is) =
        subst (AreStep (wide qs s) came (replied w)) (sym own_is) (quiet (wide qs s) came (replied w) (Put (row.Cdr x)) refl (λ m. refl))
    own_steps w own (lines.Unknown a carries none w_is own_is) = subst (AreStep (wide qs s) came (replied w)) (sym own_is) (no_step (wide qs s) came (replied w))
    own_steps w own (lines.Allowed a carries t has valid w_is own_is) =
        subst (AreStep (wide qs s) came (replied w)) (sym own_is) (quiet (wide qs s) came (replied w) (Put (row.Count Reference (next_reference s))) refl (λ m. refl))
    own_steps w own (lines.Blocked a carries t has invalid w_is own_is) = subst (AreStep (wide qs s) came (replied w)) (sym own_is) (no_step (wide qs s) came (replied w))

    line_steps : (acts : List Act) → PacketLine s at q to acts → AreStep (wide qs s) came s.rows acts
    line_steps acts (lines.Again asks r has is) =
        subst (AreStep (wide qs s) came s.rows) (sym is) (repeated_step (wide qs s) came s.rows to q.request r (peers to peer.listed) (ap (λ z. get s.rows.replies (z, q.request)) peer.same ∙ has))
    line_steps acts (lines.Answered new w own answers is) = subst (AreStep (wide qs s) came s.rows) (sym is)
        (step_append (wide qs s) came (answered (key q.from) to q.request w ∷ []) own s.rows
        (answered_step (wide qs s) came s.rows (key q.from) to q.request w (peers to peer.listed) peer.same new q arrived refl refl (answers_request s at q w own answers))
        (own_steps w own answers))
    line_steps acts (lines.Responded r carries c awaited is) = subst (AreStep (wide qs s) came s.rows) (sym is)
        (responded_step (wide qs s) came s.rows q r c arrived carries (unpushed s.rows.outbox well q.request c awaited.stands) awaited.stands awaited.to_sender)
    line_steps acts (lines.LateResponse r carries none is) = subst (AreStep (wide qs s) came s.rows) (sym is) (no_step (wide qs s) came s.rows)
    line_steps acts (lines.Acknowledged a carries ends is) = subst (AreStep (wide qs s) came s.rows) (sym is)
        (acknowledged_step (wide qs s) came s.rows q a arrived carries ends.0 ends.1 (well.apart q.request ends.1.0 ends.1.1))
    line_steps acts (lines.Idle a carries none is) = subst (AreStep (wide qs s) came s.rows) (sym is) (no_step (wide qs s) came s.rows)

  -- an order to an operator
  module _ (at : ℕ) (to : List ℕ) (listed : Contains s.operators to) where
    sends_step : {o : Order} {c : Command} {before : List Act} → Makes s o c before → AreStep (wide qs s) came s.rows (commanded at (next_request s) to c ∷ [])
    sends_step {c = c} makes = commanded_step (wide qs s) came s.rows at (next_request s) to c (peers to listed) refl (next_free s.rows.outbox well)

    starts_step : {o : Order} {c : Command} {before : List Act} → Makes s o c before → AreStep (wide qs s) came s.rows (referenced (next_reference s) ∷ commanded at (next_request s) to c ∷ [])
    starts_step {c = c} makes =
        let first : Rows = one_act (referenced (next_reference s)) s.rows in
        step_append (wide qs s) came (referenced (next_reference s) ∷ []) (commanded at (next_request s) to c ∷ []) s.rows
        (quiet (wide qs s) came s.rows (Put (row.Count Reference (next_reference s))) refl (λ m. refl))
        (commanded_step (wide qs s) came first at (next_request s) to c (peers to listed) (omega arith) (next_free s.rows.outbox well))

    order_steps : {o : Order} {c : Command} {before : List Act} → Makes s o c before → AreStep (wide qs s) came s.rows (before ++ (commanded at (next_request s) to c ∷ []))
    order_steps (orders.Start uid type location evse connector t has) = starts_step (orders.Start uid type location evse connector t has)
    order_steps (orders.Reserve uid type expiry id location evse t has) = sends_step (orders.Reserve uid type expiry id location evse t has)
    order_steps (orders.Stop id) = sends_step (orders.Stop id)
    order_steps (orders.Cancel id) = sends_step (orders.Cancel id)
    order_steps (orders.Unlock location evse connector) = sends_step (orders.Unlock location evse connector)

  -- a token is pushed to each operator
  module _ (at : ℕ) (v : Token) where
    -- to one, from rows that pushes before it left
    push_step : (r : Rows) (to : List ℕ) (k : Option ℕ) → Untouched s.rows r → Contains s.operators to → IsReplaced s.rows.outbox.pushes (subject to (push.PutToken v)) k →
        AreStep (wide qs s) came r (replaced k ++ (pushed at (r.outbox.last + 1) to (push.PutToken v) ∷ []))
    push_step r to None h listed none = pushed_step (wide qs s) came r at (r.outbox.last + 1) to (push.PutToken v) (peers to listed) refl
    push_step r to (Some k) h listed (y, stands, about) =
        let given : k ≤ s.rows.outbox.last = well.pushes k y stands in
        let rises = h.last in
        replaced_step (wide qs s) came r at (r.outbox.last + 1) to (push.PutToken v) k refl (omega (arith, given, rises)) (ap (λ m. get m k) h.commands ∙ well.apart k y stands) about_it (peers to listed)
      where
        same_push : (o : Outgoing) → get s.rows.outbox.pushes k ≡ Some o → y ≡ o
        same_push o has = let both : Some y ≡ Some o = sym stands ∙ has in cc

        old_push : (o : Outgoing) → get r.outbox.pushes k ≡ Some o → get s.rows.outbox.pushes k ≡ Some o
        old_push o has = elim (h.pushes k o has) [ inl old ↦ old | inr (above, below) ↦ absurd (let given = well.pushes k y stands in omega (arith, given, above)) ]

        about_it : (o : Outgoing) → get r.outbox.pushes k ≡ Some o → AreAboutSame (pushed_request o) (pushed_request (record { to = to; push = push.PutToken v }))
        about_it o has = about_same o.to to o.push v (ap (λ (z : Outgoing). subject z.to z.push) (sym (same_push o (old_push o has))) ∙ about)

    tokens_steps : (ps : List Pushing) (last : ℕ) (r : Rows) → last ≡ r.outbox.last → Untouched s.rows r → ((p : Pushing) → Contains ps p → Contains s.operators p.to) →
        ((p : Pushing) → Contains ps p → IsReplaced s.rows.outbox.pushes (subject p.to (push.PutToken v)) p.replaced) → AreStep (wide qs s) came r (in_turn (token_acts at v) last ps)
    tokens_steps [] last r is h listed replaces = no_step (wide qs s) came r
    tokens_steps (p ∷ ps) last r is h listed replaces =
        let first : List Act = token_acts at v last p in
        let rest : List Act = in_turn (token_acts at v) (last + all_requests first) ps in
        let asks = pushed_asks at (last + 1) p.to (push.PutToken v) p.replaced in
        let after_first = pushed_last at (last + 1) p.to (push.PutToken v) p.replaced r in
        let next : last + all_requests first ≡ (through first r).outbox.last = ap (λ n. last + n) asks ∙ ap (λ n. n + 1) is ∙ sym after_first in
        step_append (wide qs s) came first rest r
        (subst (λ n. AreStep (wide qs s) came r (replaced p.replaced ++ (pushed at (n + 1) p.to (push.PutToken v) ∷ []))) (sym is) (push_step r p.to p.replaced h (listed p (in_front p ps)) (replaces p (in_front p ps))))
        (tokens_steps ps (last + all_requests first) (through first r) next
        (untouched_twice s.rows r (through first r) h (pushed_untouched at (last + 1) p.to (push.PutToken v) p.replaced r (omega (arith, is))))
        (λ o i. listed o (Contains-append_right (p ∷ []) ps o i)) (λ o i. replaces o (Contains-append_right (p ∷ []) ps o i)))

    token_steps : (ps : List Pushing) → AreTokenPushes s v ps → AreStep (wide qs s) came s.rows (stored v ∷ in_turn (token_acts at v) s.rows.outbox.last ps)
    token_steps ps are =
        let r : Rows = one_act (stored v) s.rows in
        step_append (wide qs s) came (stored v ∷ []) (in_turn (token_acts at v) s.rows.outbox.last ps) s.rows
        (quiet (wide qs s) came s.rows (Put (row.Token v)) refl (λ m. refl))
        (tokens_steps ps s.rows.outbox.last r (omega arith) (record { replies = refl; commands = refl; inbox = refl; references = refl; last = omega arith; pushes = λ n o has. inl has })
        (λ p i. subst (λ l. Contains l p.to) are.to_all (in_map (λ (z : Pushing). z.to) ps p i)) are.replaced)

  -- what is due is sent again, to its party as these operators spell it
  spelled_now : (to : List ℕ) → (key (spelled s.operators to) ≡ key to) × ((spelled s.operators to ≡ to) ⊎ Contains qs (spelled s.operators to))
  spelled_now to = (spelled_same s.operators to, elim (spelled_either s.operators to) [ inl same ↦ inl same | inr listed ↦ inr (peers (spelled s.operators to) listed) ])

  again_step : (at n : ℕ) (r : Rows) → r.outbox.pushes ≡ s.rows.outbox.pushes → r.outbox.commands ≡ s.rows.outbox.commands → Waits s.rows.outbox n →
      (o : Option Outgoing) (c : Option SentCommand) → get s.rows.outbox.pushes n ≡ o → get s.rows.outbox.commands n ≡ c → AreStep (wide qs s) came r (resent_acts s.operators at n o c)
  again_step at n r pushes commands waits (Some o) c o_is c_is = resent_step (wide qs s) came r at n o (spelled s.operators o.to) (spelled_now o.to) (ap (λ m. get m n) pushes ∙ o_is)
  again_step at n r pushes commands waits None None o_is c_is = no_step (wide qs s) came r
  again_step at n r pushes commands (inl pushed_one) None (Some c) o_is c_is = none_contained (get s.rows.outbox.pushes n) pushed_one o_is
  again_step at n r pushes commands (inr (d, stands, open_one)) None (Some c) o_is c_is =
      let same : d ≡ c = one_command d c (sym stands ∙ c_is) in
      command_resent_step (wide qs s) came r at n c (spelled s.operators c.to) (spelled_now c.to) (ap (λ m. get m n) pushes ∙ o_is) (ap (λ m. get m n) commands ∙ c_is)
      (sym (ap (λ (z : SentCommand). z.answer) same) ∙ open_one.answer) (sym (ap (λ (z : SentCommand). z.result) same) ∙ open_one.result)

  again_pushes : (at n : ℕ) (o : Option Outgoing) (c : Option SentCommand) (r : Rows) → (through (resent_acts s.operators at n o c) r).outbox.pushes ≡ r.outbox.pushes
  again_pushes at n (Some o) c r = refl
  again_pushes at n None (Some c) r = refl
  again_pushes at n None None r = refl

  again_commands : (at n : ℕ) (o : Option Outgoing) (c : Option SentCommand) (r : Rows) → (through (resent_acts s.operators at n o c) r).outbox.commands ≡ r.outbox.commands
  again_commands at n (Some o) c r = refl
  again_commands at n None (Some c) r = refl
  again_commands at n None None r = refl

  resent_steps : (at : ℕ) (due : List ℕ) (r : Rows) → r.outbox.pushes ≡ s.rows.outbox.pushes → r.outbox.commands ≡ s.rows.outbox.commands → ((n : ℕ) → Contains due n → Waits s.rows.outbox n) →
      AreStep (wide qs s) came r (all_resent s.operators at s.rows.outbox due)
  resent_steps at [] r pushes commands wait = no_step (wide qs s) came r
  resent_steps at (n ∷ ns) r pushes commands wait =
      let o = get s.rows.outbox.pushes n in
      let c = get s.rows.outbox.commands n in
      let first : List Act = resent_acts s.operators at n o c in
      step_append (wide qs s) came first (all_resent s.operators at s.rows.outbox ns) r (again_step at n r pushes commands (wait n (in_front n ns)) o c refl refl)
      (resent_steps at ns (through first r) (again_pushes at n o c r ∙ pushes) (again_commands at n o c r ∙ commands) (λ m i. wait m (Contains-append_right (n ∷ []) ns m i)))

pub asked_steps : (qs : List (List ℕ)) (s : State) → AreAmong s.operators qs → (i : Input) (acts : List Act) → AreWell s.rows.outbox → Asks s i acts → AreStep (wide qs s) (came_in i) s.rows acts
asked_steps qs s peers (Arrives at q) acts well comes = line_steps qs s peers (q ∷ []) well at q comes.operator (in_front q []) comes.from acts comes.line
asked_steps qs s peers (Submits at operator o) acts well line = subst (AreStep (wide qs s) [] s.rows) (sym line.acts_are) (order_steps qs s peers [] well at line.to line.peer.listed line.makes)
asked_steps qs s peers (Gives at t) acts well line = subst (AreStep (wide qs s) [] s.rows) (sym line.acts_are) (token_steps qs s peers [] well at line.version line.pushes line.are_pushes)
asked_steps qs s peers (Ticks at) acts well line = subst (AreStep (wide qs s) [] s.rows) (sym line.acts_are) (resent_steps qs s peers [] well at line.due s.rows refl refl (λ n i. ((line.are_due.exact n).0 i).waits))
asked_steps qs s peers Restarts acts well line = absurd line
asked_steps qs s peers (Reopens p) acts well line = absurd line
