-- A packet comes to one thing at an operator, unless it leaves several EVSEs to be taken.
use Rattle.std.proofs.Common.{◌≡◌, ◌++◌, ◌+◌, ℕ, List, [], ◌∷◌, inl, inr, refl, sym, ap, subst, ◌∙◌, arith}
use Rattle.std.specs.Prelude.{◌⊎◌, Option, None, Some}
use Rattle.std.specs.FinMap.{get}
use Rattle.tables.proofs.Options.{not_both}
use Rattle.ocpi_text.specs.Text.{key}
use Rattle.ocpi_types.specs.declared.authorizations.Authorization.{Authorization}
use Rattle.ocpi_types.specs.declared.commands.Command.{Command}
use Rattle.ocpi_types.specs.declared.packet.Body.{Body}
use Rattle.ocpi_types.specs.declared.packet.Body.TheVariants as body
use Rattle.ocpi_types.specs.declared.packet.Packet.{Packet}
use Rattle.ocpi_types.specs.declared.rows.Change.TheVariants.{Put}
use Rattle.ocpi_types.specs.declared.rows.Row.TheVariants as row
use Rattle.ocpi_types.specs.declared.stored.Reply.{Reply}
use Rattle.ocpi_types.specs.declared.token.Token.{Token}
use Rattle.authorization_book.specs.declared.awaited.Awaited.{Awaited}
use Rattle.authorization_book.specs.declared.waiting.Waiting.TheVariants.{Ends}
use Rattle.token_desk.specs.Putting.{IsNewer, IsNotNewer}
use Rattle.node_steps.specs.Acts.{Act, acknowledged, answered, changed, repeated}
use Rattle.operator_rows.specs.Sound.{IsConsistent}
use Rattle.operator_rows.specs.State.{State}
use Rattle.operator_tables.specs.Decides.{Decides}
use Rattle.operator_tables.specs.declared.decision.Decision.{Decision}
use Rattle.operator_steps.specs.Acts.{decided_acts, spent}
use Rattle.operator_steps.specs.Asking.{AnswerActs, IsAnswered, IsAwaited}
use Rattle.operator_steps.specs.Moves.{Work, quiet}
use Rattle.operator_steps.specs.Sessions.{numbered_sessions}
use Rattle.operator_steps.specs.Steps as packets
use Rattle.operator_steps.specs.Steps.{Acknowledges, Comes, IsRequestBody, PacketLine, TokenLine, acknowledgement}
use Rattle.session_tables.specs.Answers.{BeginsByAnswer, Decided}
use Rattle.session_tables.specs.declared.beginning.Beginning.{Beginning}
use Rattle.answer_laws.specs.Nodes.{SiteDiffers}
use Rattle.answer_laws.proofs.Branching.{AtMostOne, Branch, one_branch, one_is}
use Rattle.answer_laws.proofs.OperatorBeginnings.{one_by_answer, one_decided}
use Rattle.answer_laws.proofs.OperatorDecisions.{commands_have_one_decision}
use Rattle.answer_laws.proofs.OperatorPlaces.{one_provider}
use Rattle.answer_laws.proofs.OperatorSessions.{one_beginning}

module _ (s : State) (fine : IsConsistent s) (apart : SiteDiffers s) (at : ℕ) (q : Packet) where
  -- ---- tokens

  abbrev TokenIs : List ℕ → Token → List Act → Type 0
  TokenIs to t acts = Branch (key t.party ≡ key q.from)
      (Branch (IsNewer s.rows.tokens t) (λ (x : List Act). x ≡ answered (key q.from) to q.request (acknowledgement at 1000) ∷ (changed (Put (row.Token t)) ∷ []))
      (λ x. x ≡ answered (key q.from) to q.request (acknowledgement at 1000) ∷ []))
      (λ x. x ≡ answered (key q.from) to q.request (acknowledgement at 2001) ∷ []) acts

  not_newer : (t : Token) → IsNotNewer s.rows.tokens t → IsNewer s.rows.tokens t → ⊥
  not_newer t h newer = let below = h.2 in let above = newer h.0 h.1 in omega (arith, below, above)

  token_is : (to : List ℕ) (t : Token) (acts : List Act) → TokenLine s at to (key q.from) q.request t acts → TokenIs to t acts
  token_is to t acts (packets.Foreign foreign is) = inr (foreign, is)
  token_is to t acts (packets.Kept own older is) = inl (own, inr (not_newer t older, is))
  token_is to t acts (packets.Stored own newer is) = inl (own, inl (newer, is))

  one_token : (to : List ℕ) (t : Token) → AtMostOne (TokenLine s at to (key q.from) q.request t)
  one_token to t xs ys h g = one_branch (one_branch (one_is _) (one_is _)) (one_is _) xs ys (token_is to t xs h) (token_is to t ys g)

  -- ---- answers

  one_answer_acts : (begins : Option Beginning) → AtMostOne (AnswerActs s at begins)
  one_answer_acts None xs ys h g = h ∙ sym g
  one_answer_acts (Some b) xs ys h g =
      let begun : h.0 ≡ g.0 = one_beginning s fine apart at s.rows.request (s.rows.charged.last_session + 1) b h.0 g.0 h.1 g.1 in
      h.2 ∙ ap (λ (acts : List Act). numbered_sessions (s.rows.charged.last_session + 1) ∷ (spent (key b.token.party) b.authorization_reference ++ acts)) begun ∙ sym g.2

  one_answered : (a : Authorization) → AtMostOne (IsAnswered s at q a)
  one_answered a v w h g =
      let found : Some h.awaited ≡ Some g.awaited = sym h.stands.stands ∙ g.stands.stands in
      let same : h.awaited ≡ g.awaited = cc in
      let decided = subst (λ (z : Awaited). Decided (BeginsByAnswer s.site s.rows z a) h.begins) same h.decided in
      let begins : h.begins ≡ g.begins = one_decided (BeginsByAnswer s.site s.rows g.awaited a) (one_by_answer s fine.sound.one_claim apart g.awaited a) h.begins g.begins decided g.decided in
      let mine = subst (λ (b : Option Beginning). AnswerActs s at b h.acts) begins h.acts_are in
      let acts : h.acts ≡ g.acts = one_answer_acts g.begins h.acts g.acts mine g.acts_are in
      h.work_is ∙ (λ i. record { acts = acts i; waits = Ends q.request ∷ [] }) ∙ sym g.work_is

  -- ---- any packet

  module _ (to : List ℕ) where
    -- a request is answered, as before or for the first time
    abbrev Kept : (Work → Type 0) → Work → Type 0
    Kept New work = ((r : Reply) × (get s.rows.commands.replies (key q.from, q.request) ≡ Some r) × (work ≡ quiet (repeated to q.request r ∷ [])))
        ⊎ ((get s.rows.commands.replies (key q.from, q.request) ≡ None) × New work)

    one_kept : (New : Work → Type 0) → (get s.rows.commands.replies (key q.from, q.request) ≡ None → AtMostOne New) → AtMostOne (Kept New)
    one_kept New one v w (inl h) (inl g) =
        let found : Some h.0 ≡ Some g.0 = sym h.1 ∙ g.1 in
        let same : h.0 ≡ g.0 = cc in
        h.2 ∙ ap (λ (r : Reply). quiet (repeated to q.request r ∷ [])) same ∙ sym g.2
    one_kept New one v w (inl h) (inr g) = not_both h.0 _ g.0 h.1
    one_kept New one v w (inr h) (inl g) = not_both g.0 _ h.0 g.1
    one_kept New one v w (inr h) (inr g) = one h.0 v w h.1 g.1

    abbrev NewCommand : Command → Work → Type 0
    NewCommand c work = (d : Decision) × Decides s.site s.rows at q.from q.request c d × (work ≡ quiet (decided_acts at s.rows.request to (key q.from) q.request c d))

    abbrev NewToken : Token → Work → Type 0
    NewToken t work = (acts : List Act) × TokenLine s at to (key q.from) q.request t acts × (work ≡ quiet acts)

    abbrev LineIs : Body → Work → Type 0
    LineIs (body.Command c) work = Kept (NewCommand c) work
    LineIs (body.PutToken t) work = Kept (NewToken t) work
    LineIs (body.Ack a) work = Branch (Acknowledges s q a) (λ (x : Work). x ≡ quiet (acknowledged q.request ∷ [])) (λ x. x ≡ quiet []) work
    LineIs (body.Authorization a) work = Branch ((w : Awaited) × IsAwaited s q w) (IsAnswered s at q a) (λ (x : Work). x ≡ quiet []) work
    LineIs (body.CommandResponse r) work = ⊥
    LineIs (body.CommandResult r) work = ⊥
    LineIs (body.Authorize a) work = ⊥
    LineIs (body.PutSession v) work = ⊥
    LineIs (body.PostCdr c) work = ⊥

    line_by : (b : Body) (work : Work) → q.body ≡ b → LineIs b work → LineIs q.body work
    line_by b work carries is = subst (λ (z : Body). LineIs z work) (sym carries) is

    line_is : (work : Work) → PacketLine s at q to work → LineIs q.body work
    line_is work (packets.Again (inl c) r kept is) = line_by (body.Command c.0) work c.1 (inl (r, kept, is))
    line_is work (packets.Again (inr t) r kept is) = line_by (body.PutToken t.0) work t.1 (inl (r, kept, is))
    line_is work (packets.Decided c d h is) = line_by (body.Command c) work h.carries (inr (h.new, (d, h.decides, is)))
    line_is work (packets.Sent t acts carries new line is) = line_by (body.PutToken t) work carries (inr (new, (acts, line, is)))
    line_is work (packets.Acknowledged a carries ends is) = line_by (body.Ack a) work carries (inl (ends, is))
    line_is work (packets.Idle a carries other is) = line_by (body.Ack a) work carries (inr (other, is))
    line_is work (packets.Answered a carries h) = line_by (body.Authorization a) work carries (inl ((h.awaited, h.stands), h))
    line_is work (packets.Unasked a carries none is) = line_by (body.Authorization a) work carries (inr (λ f. none f.0 f.1, is))

    one_new_command : (c : Command) → AtMostOne (NewCommand c)
    one_new_command c v w h g =
        let same : h.0 ≡ g.0 = commands_have_one_decision s at q.from q.request c h.0 g.0 fine apart h.1 g.1 in
        h.2 ∙ ap (λ (d : Decision). quiet (decided_acts at s.rows.request to (key q.from) q.request c d)) same ∙ sym g.2

    one_new_token : (t : Token) → AtMostOne (NewToken t)
    one_new_token t v w h g = h.2 ∙ ap quiet (one_token to t h.0 g.0 h.1 g.1) ∙ sym g.2

    one_kind : (b : Body) → AtMostOne (LineIs b)
    one_kind (body.Command c) v w h g = one_kept (NewCommand c) (λ new. one_new_command c) v w h g
    one_kind (body.PutToken t) v w h g = one_kept (NewToken t) (λ new. one_new_token t) v w h g
    one_kind (body.Ack a) v w h g = one_branch (one_is (quiet (acknowledged q.request ∷ []))) (one_is (quiet [])) v w h g
    one_kind (body.Authorization a) v w h g = one_branch (one_answered a) (one_is (quiet [])) v w h g
    one_kind (body.CommandResponse r) v w h g = absurd h
    one_kind (body.CommandResult r) v w h g = absurd h
    one_kind (body.Authorize a) v w h g = absurd h
    one_kind (body.PutSession x) v w h g = absurd h
    one_kind (body.PostCdr c) v w h g = absurd h

    one_line : AtMostOne (PacketLine s at q to)
    one_line v w h g = one_kind q.body v w (line_is v h) (line_is w g)

  pub one_packet : AtMostOne (Comes s at q)
  one_packet v w h g =
      let to : h.provider ≡ g.provider = one_provider s apart q.from h.provider g.provider h.from g.from in
      one_line g.provider v w (subst (λ (z : List ℕ). PacketLine s at q z v) to h.line) g.line
