-- What becomes of a packet, once it is known who sent it.
use Rattle.std.proofs.Common.{◌≡◌, ℕ, List, [], ◌∷◌, refl, sym, subst, ◌∙◌}
use Rattle.std.specs.Prelude.{Some, None, Result, Ok, Err, IfErr}
use Rattle.std.specs.FinMap.{get}
use Rattle.ocpi_text.specs.Text.{key}
use Rattle.ocpi_types.specs.declared.authorizations.Authorization.{Authorization}
use Rattle.ocpi_types.specs.declared.packet.Packet.{Packet}
use Rattle.ocpi_types.specs.declared.packet.Body.TheVariants as body
use Rattle.ocpi_types.specs.declared.replies.Ack.{Ack}
use Rattle.ocpi_types.specs.declared.commands.Command.{Command}
use Rattle.ocpi_types.specs.declared.stored.Reply.{Reply}
use Rattle.ocpi_types.specs.declared.token.Token.{Token}
use Rattle.authorization_book.specs.declared.awaited.Awaited.{Awaited}
use Rattle.authorization_book.specs.declared.waiting.Waiting.TheVariants.{Ends}
use Rattle.node_steps.specs.Acts.{Act, acknowledged, repeated}
use Rattle.node_steps.specs.Drafts.{Step}
use Rattle.node_steps.specs.declared.fault.NodeFault.{NodeFault}
use Rattle.node_steps.specs.declared.fault.NodeFault.TheVariants.{NotForMe, UnknownOperator, UnknownToken, StampEnd, NumbersUsedUp, Memory}
use Rattle.operator_rows.specs.State.{State}
use Rattle.operator_tables.specs.Decides.{Decides}
use Rattle.operator_tables.specs.declared.decision.Decision.{Decision}
use Rattle.operator_tables.specs.declared.request.Request.{Request}
use Rattle.operator_steps.specs.Acts.{decided_acts}
use Rattle.operator_steps.specs.Asking.{IsAwaited}
use Rattle.operator_steps.specs.Faults.{IsDue, MayStep}
use Rattle.operator_steps.specs.Moves.{PlannedBy, Work, quiet}
use Rattle.operator_steps.specs.Steps.{Acknowledged, Acknowledges, Again, Answered, Comes, Decided, Idle, IsRequestBody, PacketLine, Sent, TokenLine, Unasked}
use Rattle.operator_planning.specs.Answering.{ByAnswer}
use Rattle.operator_planning.specs.Planned.{PlansActs, StopsActs, StopsLine}
use Rattle.operator_planning.specs.Requests.{IsRequest}

module _ (s : State) (q : Packet) (r : Request) (is : IsRequest s r.at q r) where
  comes : (work : Work) → PacketLine s r.at q r.from work → Comes s r.at q work
  comes work line = record { to = is.to; provider = r.from; from = is.from; line = line }

  replies_at : get s.rows.commands.replies (r.provider, r.number) ≡ get s.rows.commands.replies (key q.from, q.request)
  replies_at i = get s.rows.commands.replies (is.provider i, is.number i)

  pub again_comes : IsRequestBody q.body → (reply : Reply) → get s.rows.commands.replies (r.provider, r.number) ≡ Some reply →
      Comes s r.at q (quiet (repeated r.from r.number reply ∷ []))
  again_comes body reply kept =
      subst (λ (n : ℕ). Comes s r.at q (quiet (repeated r.from n reply ∷ []))) (sym is.number) (comes _ (Again body reply (sym replies_at ∙ kept) refl))

  pub decided_comes : (c : Command) → q.body ≡ body.Command c → get s.rows.commands.replies (r.provider, r.number) ≡ None → (d : Decision) → Decides s.site s.rows r.at q.from r.number c d →
      Comes s r.at q (quiet (decided_acts r.at s.rows.request r.from r.provider r.number c d))
  decided_comes c carries none d decides =
      let at_number : Decides s.site s.rows r.at q.from q.request c d = subst (λ (n : ℕ). Decides s.site s.rows r.at q.from n c d) is.number decides in
      comes _ (Decided c d (record { carries = carries; new = sym replies_at ∙ none; decides = at_number }) (λ i. quiet (decided_acts r.at s.rows.request r.from (is.provider i) (is.number i) c d)))

  pub acknowledged_comes : (a : Ack) → q.body ≡ body.Ack a → Acknowledges s q a → Comes s r.at q (quiet (acknowledged r.number ∷ []))
  acknowledged_comes a carries done = comes _ (Acknowledged a carries done (λ i. quiet (acknowledged (is.number i) ∷ [])))

  pub idle_comes : (a : Ack) → q.body ≡ body.Ack a → ¬ Acknowledges s q a → Comes s r.at q (quiet [])
  idle_comes a carries not_done = comes _ (Idle a carries not_done refl)

  pub token_comes : (t : Token) → q.body ≡ body.PutToken t → get s.rows.commands.replies (r.provider, r.number) ≡ None → (acts : List Act) →
      TokenLine s r.at r.from r.provider r.number t acts → Comes s r.at q (quiet acts)
  token_comes t carries none acts line =
      let at_number : TokenLine s r.at r.from r.provider q.request t acts = subst (λ (n : ℕ). TokenLine s r.at r.from r.provider n t acts) is.number line in
      let of_sender : TokenLine s r.at r.from (key q.from) q.request t acts = subst (λ (p : List ℕ). TokenLine s r.at r.from p q.request t acts) is.provider at_number in
      comes _ (Sent t acts carries (sym replies_at ∙ none) of_sender refl)

  pub answered_comes : (a : Authorization) → q.body ≡ body.Authorization a → (w : Awaited) → IsAwaited s q w → (acts : List Act) → ByAnswer s r.at w a acts →
      Comes s r.at q (record { acts = acts; waits = Ends r.number ∷ [] })
  answered_comes a carries w stands acts by = comes _ (Answered a carries (record {
    awaited = w;
    stands = stands;
    begins = by.begins;
    decided = by.decided;
    acts = acts;
    acts_are = by.acts_are;
    work_is = λ i. record { acts = acts; waits = Ends (is.number i) ∷ [] };
  }))

  pub unasked_comes : (a : Authorization) → q.body ≡ body.Authorization a → ((w : Awaited) → IsAwaited s q w → ⊥) → Comes s r.at q (quiet [])
  unasked_comes a carries none = comes _ (Unasked a carries none refl)

  pub due_fault : (work : Work) → Comes s r.at q work → (f : NodeFault) → StopsActs s work.acts f → IsDue s r.at q f
  due_fault work line NotForMe h = absurd h
  due_fault work line UnknownOperator h = h
  due_fault work line UnknownToken h = h
  due_fault work line StampEnd h = h
  due_fault work line NumbersUsedUp h = record { work = work; line = line; past = h }
  due_fault work line Memory h = record { work = work; line = line; in_range = h }

  pub due_faults : {T : Type 0} → (x : Result T NodeFault) (work : Work) → Comes s r.at q work → IfErr x (StopsActs s work.acts) → IfErr x (IsDue s r.at q)
  due_faults (Ok x) work line h = tt
  due_faults (Err f) work line h = due_fault work line f h

  -- why what an answer does is not done
  pub answer_fault : (a : Authorization) → q.body ≡ body.Authorization a → (w : Awaited) → IsAwaited s q w → (f : NodeFault) → StopsLine (ByAnswer s r.at w a) s f → IsDue s r.at q f
  answer_fault a carries w stands f h = due_fault (record { acts = h.acts; waits = Ends r.number ∷ [] }) (answered_comes a carries w stands h.acts h.line) f h.stops

  -- why what becomes of a token is not done
  pub token_fault : (t : Token) → q.body ≡ body.PutToken t → get s.rows.commands.replies (r.provider, r.number) ≡ None → (f : NodeFault) →
      StopsLine (TokenLine s r.at r.from r.provider r.number t) s f → IsDue s r.at q f
  token_fault t carries none f h = due_fault (quiet h.acts) (token_comes t carries none h.acts h.line) f h.stops

  pub token_faults : {T : Type 0} → (x : Result T NodeFault) (t : Token) → q.body ≡ body.PutToken t → get s.rows.commands.replies (r.provider, r.number) ≡ None →
      IfErr x (StopsLine (TokenLine s r.at r.from r.provider r.number t) s) → IfErr x (IsDue s r.at q)
  token_faults (Ok x) t carries none h = tt
  token_faults (Err f) t carries none h = token_fault t carries none f h

  -- an answer ends the waiting, and does what was planned of it
  pub answer_planned : (a : Authorization) → q.body ≡ body.Authorization a → (w : Awaited) → IsAwaited s q w → (x : Step) → PlansActs (ByAnswer s r.at w a) s x →
      PlannedBy (Comes s r.at q) s (record { step = x; waits = Ends r.number ∷ [] })
  answer_planned a carries w stands x h = record {
    work = record { acts = h.acts; waits = Ends r.number ∷ [] };
    line = answered_comes a carries w stands h.acts h.line;
    in_range = h.in_range;
    step_is = λ i. record { step = h.step_is i; waits = Ends r.number ∷ [] };
  }

  pub answer_may : (a : Authorization) → q.body ≡ body.Authorization a → (w : Awaited) → IsAwaited s q w → (x : Step) → PlansActs (ByAnswer s r.at w a) s x → MayStep (Comes s r.at q) s
  answer_may a carries w stands x h = record {
    work = record { acts = h.acts; waits = Ends r.number ∷ [] };
    line = answered_comes a carries w stands h.acts h.line;
    in_range = h.in_range;
  }

-- the request of a packet, as of its own moment
pub request_at : (s : State) (at : ℕ) (q : Packet) (r : Request) → IsRequest s at q r → IsRequest s r.at q r
request_at s at q r is = record { to = is.to; from = is.from; provider = is.provider; number = is.number; moment = refl }
