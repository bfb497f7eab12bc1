-- The commands that time out at a moment, gathered one by one.
use Rattle.std.proofs.Common.{◌≡◌, ◌<◌, ◌+◌, ◌++◌, ℕ, List, [], ◌∷◌, map, take, get_or, length, inl, inr, sym, ap}
use Rattle.std.proofs.Common.{subst, ◌∙◌, Contains}
use Rattle.std.proofs.lemmas.List.{take_more, map-append}
use Rattle.std.proofs.lemmas.List.Elements.{Contains-push_cases}
use Rattle.command_book.specs.Stored as book
use Rattle.operator_steps.specs.declared.ending.Ending.{Ending}
use Rattle.operator_steps.specs.Tick.{IsTimeout, request_of}
use Rattle.operator_steps.specs.TickFacts.{DueHaveProviders}

-- one more request of those that are due
pub one_more_request : (ends : List Ending) (e : Ending) (due : List book.Request) (i : ℕ) (request : book.Request) →
    i < length due → request ≡ get_or due i request → map request_of ends ≡ take i due → request_of e ≡ request → map request_of (ends ++ e ∷ []) ≡ take (i + 1) due
one_more_request ends e due i request within at front same =
    map-append request_of ends (e ∷ []) ∙ ap (λ l. l ++ request_of e ∷ []) front ∙ ap (λ x. take i due ++ x ∷ []) (same ∙ at) ∙ sym (take_more due i request within)

-- one more timeout
pub one_more_timeout : (providers : List (List ℕ)) (ends : List Ending) (e : Ending) → ((x : Ending) → Contains ends x → IsTimeout providers x) → IsTimeout providers e →
    (x : Ending) → Contains (ends ++ e ∷ []) x → IsTimeout providers x
one_more_timeout providers ends e h last x i = elim (Contains-push_cases ends e x i) [ inl k ↦ h x k | inr same ↦ subst (IsTimeout providers) same last ]

-- each command that is due is of a provider of the site
pub due_have_providers : DueHaveProviders
due_have_providers s at due fine h p n i = let is = (h.exact (p, n)).0 i in (fine.sound.pending p n is.command is.stands).provider
