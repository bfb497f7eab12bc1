-- Requests that have a url of their own number have different ones, and what a node does leaves them so.
use Rattle.std.proofs.Common.{◌≡◌, ◌≢◌, ◌≤◌, ◌++◌, ◌∷◌, ℕ, List, [], All, inl, inr, refl, sym, ap, subst, ◌∙◌, arith, codes, decimal}
use Rattle.std.specs.Prelude.{Some}
use Rattle.std.specs.Cmp.{nat_cmp_total}
use Rattle.std.specs.FinMap.{get, nat_cmp-IsAntisymmetric}
use Rattle.std.proofs.lemmas.Fmt.{decimal_injective}
use Rattle.std.proofs.lemmas.List.Elements.{All-head, All-tail}
use Rattle.answer_laws.specs.Nodes.{IsApart, PlacesDiffer, SiteDiffers, UrlsDiffer}
use Rattle.node_steps.specs.Acts.{Act, unanswered}
use Rattle.ocpi_text.specs.Whole.{max_whole}
use Rattle.ocpi_types.specs.Commands.{url_of}
use Rattle.ocpi_types.specs.Parties.{AreParties}
use Rattle.ocpi_types.specs.declared.commands.Command.{Command}
use Rattle.ocpi_types.specs.declared.events.Order.{Order}
use Rattle.ocpi_types.specs.declared.stored.SentCommand.{SentCommand}
use Rattle.operator_rows.specs.State as operator
use Rattle.operator_rows.specs.Steps as operator_steps
use Rattle.operator_rows.specs.Stored as operator_stored
use Rattle.operator_steps.specs.Events as operator_events
use Rattle.provider_laws.proofs.events.Doing.{does}
use Rattle.provider_laws.proofs.events.Parts.{CommandsMove, Made, Responded, Resulted, SameCommands}
use Rattle.provider_rows.specs.State as provider
use Rattle.provider_steps.specs.Acts.{own_url, with_answer, with_result}
use Rattle.provider_steps.specs.Events as provider_events
use Rattle.provider_steps.specs.Orders as orders
use Rattle.provider_steps.specs.Orders.{Makes, next_request}
use Rattle.stored_laws.proofs.Openings.{operator_left, operator_with}
use Rattle.tables.proofs.Maps.{of_insert}
use Rattle.world_steps.specs.Steps as steps
use Rattle.world_steps.specs.Steps.{AtOperator, AtProvider, NodeEvent, NodeStep, OperatorDoes, ProviderDoes}
use Rattle.world_steps.specs.World.{NodeState, Operates, Provides}
use Rattle.replays.proofs.Lists.{Cuts, First, Second, cuts, heads, tails}
use Rattle.replays.proofs.OpenedLines.{decimal_without}

-- a url of its own number, which a request may have
pub record HasOwnUrl (n : ℕ) (c : SentCommand) : Type 0 where
  pub party : List ℕ
  pub url : url_of c.command ≡ own_url party n
  pub small : n ≤ max_whole

-- ---- a url tells its number

-- what stands behind the last byte of a kind
last_part : (c : ℕ) (xs ys a b : List ℕ) → All (λ x. x ≢ c) a → All (λ x. x ≢ c) b → xs ++ c ∷ a ≡ ys ++ c ∷ b → a ≡ b
last_part c xs ys a b p q is = of (cuts xs (c ∷ a) ys (c ∷ b) is)
  where
    has : {X : Type 0} (front text rest : List ℕ) → All (λ x. x ≢ c) text → text ≡ front ++ c ∷ rest → X
    has [] [] rest others same = absurd (let bad : [] ≡ c ∷ rest = same in cc)
    has [] (x ∷ text) rest others same = absurd (All-head (λ x. x ≢ c) x text others (heads x c text rest same))
    has (y ∷ front) [] rest others same = absurd (let bad : [] ≡ y ∷ (front ++ c ∷ rest) = same in cc)
    has (y ∷ front) (x ∷ text) rest others same = has front text rest (All-tail (λ x. x ≢ c) x text others) (tails x y text (front ++ c ∷ rest) same)

    of : Cuts xs (c ∷ a) ys (c ∷ b) → a ≡ b
    of (First [] there same) = tails c c a b same
    of (First (x ∷ m) there same) = has m a b p (tails c x a (m ++ c ∷ b) same)
    of (Second [] there same) = sym (tails c c b a same)
    of (Second (x ∷ m) there same) = has m b a q (tails c x b (m ++ c ∷ a) same)

url_tells : (p q : List ℕ) (m n : ℕ) → m ≤ max_whole → n ≤ max_whole → own_url p m ≡ own_url q n → m ≡ n
url_tells p q m n small low same =
    decimal_injective m n (omega (arith, small)) (omega (arith, low))
    (last_part 47 (codes "https://node.invalid/" ++ p) (codes "https://node.invalid/" ++ q) (decimal m) (decimal n) (decimal_without 47 m (omega arith)) (decimal_without 47 n (omega arith)) same)

-- ---- a node

-- the places and parties of an operator differ, and each request of a provider has a url of its own number
abbrev pub HasOwn : NodeState → Type 0
HasOwn (Operates s) = SiteDiffers s
HasOwn (Provides s) = (n : ℕ) (c : SentCommand) → get s.rows.outbox.commands n ≡ Some c → HasOwnUrl n c

pub are_apart : (n : NodeState) → HasOwn n → IsApart n
are_apart (Operates s) own = own
are_apart (Provides s) own = apart
  where
    apart : UrlsDiffer s
    apart m n c d has has_too same =
        let a = own m c has in
        let b = own n d has_too in
        url_tells a.party b.party m n a.small b.small (sym a.url ∙ same ∙ b.url)

-- ---- what it does

made_url : (s : provider.State) {o : Order} {c : Command} {before : List Act} → Makes s o c before → url_of c ≡ own_url s.party (next_request s)
made_url s (orders.Start uid type location evse connector t has) = refl
made_url s (orders.Reserve uid type expiry id location evse t has) = refl
made_url s (orders.Stop id) = refl
made_url s (orders.Cancel id) = refl
made_url s (orders.Unlock location evse connector) = refl

happens : (s t : provider.State) (e : provider_events.Event) → ProviderDoes s e t → provider_events.Happens s e t
happens s t e (steps.Done by) = provider_events.Done by
happens s t e (steps.Restarted now is) = provider_events.Restarted now is

provider_stays : (s t : provider.State) (e : provider_events.Event) → ProviderDoes s e t → HasOwn (Provides s) → HasOwn (Provides t)
provider_stays s t e did own n c has = by (does s t e (happens s t e did)).commands
  where
    by : CommandsMove s e.input t.rows.outbox → HasOwnUrl n c
    by (SameCommands same) = own n c (sym (ap (λ m. get m n) same) ∙ has)
    by (Made at operator order arrives to d before makes same last most) =
        elim (of_insert nat_cmp_total nat_cmp-IsAntisymmetric s.rows.outbox.commands (next_request s) (unanswered to d) n c (sym (ap (λ m. get m n) same) ∙ has)) [
          | inl (at_n, equal) ↦ record {
            party = s.party;
            url = ap (λ (z : SentCommand). url_of z.command) (sym equal) ∙ made_url s makes ∙ ap (own_url s.party) (sym at_n);
            small = omega (arith, at_n, most);
          }
          | inr stood ↦ own n c stood
        ]
    by (Responded at q arrives w carries d awaited same) =
        elim (of_insert nat_cmp_total nat_cmp-IsAntisymmetric s.rows.outbox.commands q.request (with_answer w d) n c (sym (ap (λ m. get m n) same) ∙ has)) [
          | inl (at_n, equal) ↦
              let before = own n d (ap (get s.rows.outbox.commands) at_n ∙ awaited.stands) in
              record { party = before.party; url = ap (λ (z : SentCommand). url_of z.command) (sym equal) ∙ before.url; small = before.small }
          | inr stood ↦ own n c stood
        ]
    by (Resulted at q arrives w carries k d fits none same) =
        elim (of_insert nat_cmp_total nat_cmp-IsAntisymmetric s.rows.outbox.commands k (with_result w.result d) n c (sym (ap (λ m. get m n) same) ∙ has)) [
          | inl (at_n, equal) ↦
              let before = own n d (ap (get s.rows.outbox.commands) at_n ∙ fits.command) in
              record { party = before.party; url = ap (λ (z : SentCommand). url_of z.command) (sym equal) ∙ before.url; small = before.small }
          | inr stood ↦ own n c stood
        ]

-- the site and the parties of an operator stay
operator_stays : (s t : operator.State) (e : operator_events.Event) → OperatorDoes s e t → HasOwn (Operates s) → HasOwn (Operates t)
operator_stays s t e did own = of (operator_left s t e did)
  where
    of : operator_steps.restarted t ≡ operator_with s (operator_stored.changed_all e.changes s.rows) → SiteDiffers t
    of left = record {
      parties = subst (λ (u : operator.State). AreParties (record { operator = u.party; providers = u.providers })) (sym left) own.parties;
      places = subst (λ (u : operator.State). PlacesDiffer u.site) (sym left) own.places;
    }

pub own_stays : (n m : NodeState) (x : NodeEvent) → NodeStep n x m → HasOwn n → HasOwn m
own_stays (Operates s) (Operates t) (AtOperator e) step own = operator_stays s t e step own
own_stays (Operates s) (Operates t) (AtProvider e) step own = absurd step
own_stays (Operates s) (Provides t) (AtOperator e) step own = absurd step
own_stays (Operates s) (Provides t) (AtProvider e) step own = absurd step
own_stays (Provides s) (Operates t) (AtOperator e) step own = absurd step
own_stays (Provides s) (Operates t) (AtProvider e) step own = absurd step
own_stays (Provides s) (Provides t) (AtOperator e) step own = absurd step
own_stays (Provides s) (Provides t) (AtProvider e) step own = provider_stays s t e step own
