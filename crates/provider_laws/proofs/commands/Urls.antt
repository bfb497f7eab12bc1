-- The result of each command is posted to the url of its number, so no two commands have one.
use Rattle.std.proofs.Common.{◌≡◌, ◌≤◌, ◌++◌, ◌∷◌, ℕ, List, inl, inr, refl, sym, ap, ◌∙◌, arith, codes, decimal, length, drop}
use Rattle.std.specs.Prelude.{Some}
use Rattle.std.specs.Cmp.{nat_cmp_total}
use Rattle.std.specs.Ordering.{nat_cmp}
use Rattle.std.specs.FinMap.{get, get-empty, nat_cmp-IsAntisymmetric}
use Rattle.std.proofs.lemmas.Fmt.{decimal_injective}
use Rattle.std.proofs.lemmas.List.{drop_at}
use Rattle.tables.proofs.Maps.{of_insert}
use Rattle.tables.proofs.Options.{not_both}
use Rattle.ocpi_text.specs.Whole.{max_whole}
use Rattle.ocpi_types.specs.Commands.{url_of}
use Rattle.ocpi_types.specs.declared.events.Order.{Order}
use Rattle.ocpi_types.specs.declared.commands.Command.{Command}
use Rattle.ocpi_types.specs.declared.stored.SentCommand.{SentCommand}
use Rattle.node_laws.proofs.Runs.{kept_runs}
use Rattle.node_steps.specs.Acts.{Act, unanswered}
use Rattle.provider_rows.specs.State.{Peering, State, opening}
use Rattle.provider_steps.specs.Acts.{own_url, with_answer, with_result}
use Rattle.provider_steps.specs.Events.{Event, Happens}
use Rattle.provider_steps.specs.Orders as orders
use Rattle.provider_steps.specs.Orders.{Makes, next_request}
use Rattle.provider_laws.specs.Laws.{Run}
use Rattle.provider_laws.specs.Commands.{UrlsAreOwn, UrlsHaveOneNumber}
use Rattle.provider_laws.proofs.events.Parts.{CommandsMove, Made, Responded, Resulted, SameCommands}
use Rattle.provider_laws.proofs.events.Doing.{does, same_party}

-- a command that is made has the url of its number
made_url : (s : State) {o : Order} {c : Command} {before : List Act} → Makes s o c before → url_of c ≡ own_url s.party (next_request s)
made_url s (orders.Start uid type location evse connector t has) = refl
made_url s (orders.Reserve uid type expiry id location evse t has) = refl
made_url s (orders.Stop id) = refl
made_url s (orders.Cancel id) = refl
made_url s (orders.Unlock location evse connector) = refl

-- each command that stands has, and a number that a request may have
record IsOwn (party : List ℕ) (n : ℕ) (c : SentCommand) : Type 0 where
  url : url_of c.command ≡ own_url party n
  small : n ≤ max_whole

abbrev AreOwn : List ℕ → State → Type 0
AreOwn party s = (n : ℕ) (c : SentCommand) → get s.rows.outbox.commands n ≡ Some c → IsOwn party n c

module _ (s t : State) (e : Event) (happens : Happens s e t) (party : List ℕ) (is : s.party ≡ party) where
  own_stays : AreOwn party s → AreOwn party t
  own_stays own n c has = by (does s t e happens).commands
    where
      by : CommandsMove s e.input t.rows.outbox → IsOwn party n c
      by (SameCommands same) = own n c (sym (ap (λ m. get m n) same) ∙ has)
      by (Made at operator order arrives to d before makes same last most) =
          elim (of_insert nat_cmp_total nat_cmp-IsAntisymmetric s.rows.outbox.commands (next_request s) (unanswered to d) n c (sym (ap (λ m. get m n) same) ∙ has)) [
            | inl (at_n, equal) ↦ record {
              url = ap (λ (z : SentCommand). url_of z.command) (sym equal) ∙ made_url s makes ∙ ap (λ p. own_url p (next_request s)) is ∙ ap (own_url party) (sym at_n);
              small = omega (arith, at_n, most);
            }
            | inr stood ↦ own n c stood
          ]
      by (Responded at q arrives w carries d awaited same) =
          elim (of_insert nat_cmp_total nat_cmp-IsAntisymmetric s.rows.outbox.commands q.request (with_answer w d) n c (sym (ap (λ m. get m n) same) ∙ has)) [
            | inl (at_n, equal) ↦
                let before = own n d (ap (get s.rows.outbox.commands) at_n ∙ awaited.stands) in
                record { url = ap (λ (z : SentCommand). url_of z.command) (sym equal) ∙ before.url; small = before.small }
            | inr stood ↦ own n c stood
          ]
      by (Resulted at q arrives w carries k d fits none same) =
          elim (of_insert nat_cmp_total nat_cmp-IsAntisymmetric s.rows.outbox.commands k (with_result w.result d) n c (sym (ap (λ m. get m n) same) ∙ has)) [
            | inl (at_n, equal) ↦
                let before = own n d (ap (get s.rows.outbox.commands) at_n ∙ fits.command) in
                record { url = ap (λ (z : SentCommand). url_of z.command) (sym equal) ∙ before.url; small = before.small }
            | inr stood ↦ own n c stood
          ]

all_own : (p : Peering) (es : List Event) (t : State) → Run (opening p) es t → AreOwn p.provider t
all_own p es t run = (kept_runs Happens (λ z. (z.party ≡ p.provider) × AreOwn p.provider z)
    (λ a b e h before. (same_party a b e h ∙ before.0, own_stays a b e h p.provider before.0 before.1)) (opening p) t es run
    (refl, λ n c has. not_both c _ (get-empty nat_cmp n) has)).1

pub urls_are_own : UrlsAreOwn
urls_are_own p es t run n c has = (all_own p es t run n c has).url

-- the url tells the number
one_number : (party : List ℕ) (m n : ℕ) → m ≤ max_whole → n ≤ max_whole → own_url party m ≡ own_url party n → m ≡ n
one_number party m n m_small n_small same =
    let before : List ℕ = codes "https://node.invalid/" ++ party in
    let behind : 47 ∷ decimal m ≡ 47 ∷ decimal n = sym (drop_at before (47 ∷ decimal m) (length before) refl) ∙ ap (drop (length before)) same ∙ drop_at before (47 ∷ decimal n) (length before) refl in
    decimal_injective m n (omega (arith, m_small)) (omega (arith, n_small)) (ap (drop 1) behind)

pub urls_have_one_number : UrlsHaveOneNumber
urls_have_one_number p es t run m n c d c_has d_has same =
    let one = all_own p es t run m c c_has in
    let two = all_own p es t run n d d_has in
    one_number p.provider m n one.small two.small (sym one.url ∙ same ∙ two.url)
