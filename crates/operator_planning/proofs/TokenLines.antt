-- What becomes of a token is a line of the definition, takes one packet, and stores no counter past its last number.
use Rattle.std.proofs.Common.{◌≡◌, ◌≢◌, length, refl}
use Rattle.std.specs.Prelude.{Result, Ok, Err, IfOk, IfErr}
use Rattle.ocpi_text.specs.Text.{key}
use Rattle.ocpi_types.specs.declared.token.Token.{Token}
use Rattle.token_desk.specs.Putting.{PutLine}
use Rattle.token_desk.specs.declared.answers.TokenPut.{TokenPut}
use Rattle.token_desk.specs.declared.answers.TokenPut.TheVariants as answer
use Rattle.token_desk.specs.declared.fault.TokenFault.{TokenFault}
use Rattle.token_desk.specs.declared.fault.TokenFault.TheVariants.{WrongParty}
use Rattle.node_steps.specs.Acts.{all_messages, all_requests}
use Rattle.operator_rows.specs.State.{State}
use Rattle.operator_tables.specs.declared.request.Request.{Request}
use Rattle.operator_steps.specs.Steps.{TokenLine, Foreign, Kept, Stored}
use Rattle.operator_planning.specs.Requests.{put_acts}
use Rattle.operator_planning.proofs.CountedDrafts.{CountWithin}

module _ (r : Request) (t : Token) where
  pub put_sends : (put : Result TokenPut TokenFault) → 1 ≡ length (all_messages (put_acts r t put))
  put_sends (Ok answer.Stored) = refl
  put_sends (Ok answer.Kept) = refl
  put_sends (Err e) = refl

  pub put_asks : (put : Result TokenPut TokenFault) → 0 ≡ all_requests (put_acts r t put)
  put_asks (Ok answer.Stored) = refl
  put_asks (Ok answer.Kept) = refl
  put_asks (Err e) = refl

  pub put_within : (put : Result TokenPut TokenFault) → CountWithin (put_acts r t put)
  put_within (Ok answer.Stored) = (tt, (tt, tt))
  put_within (Ok answer.Kept) = (tt, tt)
  put_within (Err e) = (tt, tt)

  pub token_line : (s : State) (put : Result TokenPut TokenFault) → IfOk put (λ a. (key t.party ≡ r.provider) × PutLine s.rows.tokens t a) → IfErr put (λ e. (e ≡ WrongParty) × (key t.party ≢ r.provider)) →
      TokenLine s r.at r.from r.provider r.number t (put_acts r t put)
  token_line s (Ok answer.Stored) line fault = Stored line.0 line.1 refl
  token_line s (Ok answer.Kept) line fault = Kept line.0 line.1 refl
  token_line s (Err e) line fault = Foreign fault.1 refl
