-- Which bodies an operator takes.
use Rattle.std.proofs.Common.{◌≡◌, ◌⊎◌, inl, inr}
use Rattle.ocpi_types.specs.declared.packet.Body.{Body}
use Rattle.ocpi_types.specs.declared.packet.Body.TheVariants as body
use Rattle.ocpi_types.specs.declared.authorizations.Authorization.{Authorization}
use Rattle.ocpi_types.specs.declared.commands.Command.{Command}
use Rattle.ocpi_types.specs.declared.replies.Ack.{Ack}
use Rattle.ocpi_types.specs.declared.token.Token.{Token}
use Rattle.operator_steps.specs.Steps.{IsTaken}

-- the bodies that an operator takes, kind by kind
pub taken : (b : Body) →
    ((x : Command) × (b ≡ body.Command x)) ⊎ (((x : Token) × (b ≡ body.PutToken x)) ⊎ (((x : Authorization) × (b ≡ body.Authorization x)) ⊎ ((x : Ack) × (b ≡ body.Ack x)))) → IsTaken b
taken b (inl h) = inl (inl h)
taken b (inr (inl h)) = inl (inr h)
taken b (inr (inr (inl h))) = inr (inr h)
taken b (inr (inr (inr h))) = inr (inl h)
