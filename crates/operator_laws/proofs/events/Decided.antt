-- Each change of a decision on a command has its cause.
use Rattle.std.proofs.Common.{◌≡◌, ◌≢◌, ℕ, List, [], ◌∷◌, ◌++◌, inl, inr, refl, sym, ap, subst, ◌∙◌, arith}
use Rattle.std.specs.Prelude.{Option, Some, None, Contains, ⊤}
use Rattle.std.specs.FinMap.{get}
use Rattle.tables.proofs.Elements.{in_front, in_none}
use Rattle.tables.proofs.Options.{none_some}
use Rattle.ocpi_text.specs.Text.{key}
use Rattle.ocpi_types.specs.Commands.{reference_of, url_of}
use Rattle.ocpi_types.specs.declared.packet.Body.{Body}
use Rattle.ocpi_types.specs.declared.packet.Body.TheVariants as body
use Rattle.ocpi_types.specs.declared.rows.Place.{Place}
use Rattle.ocpi_types.specs.declared.rows.Row.TheVariants as row
use Rattle.ocpi_types.specs.declared.rows.Change.{Change}
use Rattle.ocpi_types.specs.declared.rows.Change.TheVariants.{Put}
use Rattle.ocpi_types.specs.declared.commands.Command.{Command}
use Rattle.ocpi_types.specs.declared.stored.OpenCommand.{OpenCommand}
use Rattle.ocpi_types.specs.declared.stored.Reply.{Reply}
use Rattle.ocpi_types.specs.declared.words.CommandResultType.{CommandResultType}
use Rattle.ocpi_types.specs.declared.words.CommandResultType.TheVariants.{Accepted}
use Rattle.command_book.specs.Stored as book
use Rattle.reservation_book.specs.Refusals.{IsInTime}
use Rattle.node_steps.specs.Acts.{Act, all_changes, answered}
use Rattle.node_steps.proofs.Gathering.{changes_append}
use Rattle.operator_rows.specs.State.{State, IsSpent}
use Rattle.operator_rows.proofs.RowChanges.{of_cons}
use Rattle.operator_tables.specs.declared.decision.Decision.{Decision}
use Rattle.operator_tables.specs.declared.decision.Decision.TheVariants as decision
use Rattle.operator_tables.specs.Outcomes.{Opens, Starts, Tells}
use Rattle.operator_tables.proofs.Lines.{all_tell}
use Rattle.operator_steps.specs.Acts.{deadline, decided_acts, opened, reply_of, settled, spent, used}
use Rattle.operator_steps.specs.Events.{Input}
use Rattle.operator_steps.proofs.DecidedSteps.{decided_orderly, unended}
use Rattle.operator_steps.proofs.Orderly.{AreOrderly}
use Rattle.operator_laws.specs.Laws.{IsReplyTo}
use Rattle.operator_laws.proofs.events.Causes.{Cause, DecidesIt, Replying}

-- each of a list passes
abbrev pub AllOf : (Change → Type 0) → List Change → Type 0
AllOf P [] = ⊤
AllOf P (c ∷ cs) = P c × AllOf P cs

pub all_in : (P : Change → Type 0) (cs : List Change) → AllOf P cs → (c : Change) → Contains cs c → P c
all_in P [] h c i = absurd (in_none c i)
all_in P (x ∷ cs) h c i = elim (of_cons x cs c i) [ inl same ↦ subst P same h.0 | inr later ↦ all_in P cs h.1 c later ]

-- the reference that a start spends
start_spends : (to p : List ℕ) (n : ℕ) (r : Reply) (o : OpenCommand) (reservation reference : Option (List ℕ)) (x : List ℕ) → reference ≡ Some x →
    Contains (all_changes (answered p to n r ∷ ((used p reservation ++ (opened p n o ∷ spent p reference)) ++ []))) (Put (row.Spent p (key x)))
start_spends to p n r o None None x is = none_some x is
start_spends to p n r o (Some id) None x is = none_some x is
start_spends to p n r o None (Some y) x is = let same : y ≡ x = cc in subst (λ z. Contains (all_changes (answered p to n r ∷ ((used p None ++ (opened p n o ∷ spent p (Some y))) ++ []))) (Put (row.Spent p (key z)))) same (2, omega arith, refl)
start_spends to p n r o (Some id) (Some y) x is = let same : y ≡ x = cc in subst (λ z. Contains (all_changes (answered p to n r ∷ ((used p (Some id) ++ (opened p n o ∷ spent p (Some y))) ++ []))) (Put (row.Spent p (key z)))) same (3, omega arith, refl)

-- each of two lists
pub all_joined : (P : Change → Type 0) (cs ds : List Change) → AllOf P cs → AllOf P ds → AllOf P (cs ++ ds)
all_joined P [] ds h g = g
all_joined P (c ∷ cs) ds h g = (h.0, all_joined P cs ds h.1 g)

-- each of what two lists of acts change
pub all_acts : (P : Change → Type 0) (xs ys : List Act) → AllOf P (all_changes xs) → AllOf P (all_changes ys) → AllOf P (all_changes (xs ++ ys))
all_acts P xs ys h g = subst (AllOf P) (sym (changes_append xs ys)) (all_joined P (all_changes xs) (all_changes ys) h g)

-- what a decision replies answers its command
pub answers_command : (at : ℕ) (d : Decision) (c : Command) (b : Body) → b ≡ body.Command c → IsReplyTo (reply_of at d) b
answers_command at (decision.Refused status) c b is = (c, is)
answers_command at (decision.Answered w) c b is = (c, is)
answers_command at decision.Opened c b is = (c, is)
answers_command at (decision.Started place reservation) c b is = (c, is)
answers_command at (decision.Resulted x) c b is = (c, is)
answers_command at (decision.Noted id x) c b is = (c, is)
answers_command at (decision.Reserved id r) c b is = (c, is)
answers_command at (decision.Cancelled id) c b is = (c, is)

-- the acts of a decision
module _ (s : State) (i : Input) (acts : List Act) (h : DecidesIt s i acts) where
  abbrev p : List ℕ
  p = key h.packet.from

  abbrev n : ℕ
  n = h.packet.request

  abbrev acts_of : Decision → List Act
  acts_of d = decided_acts h.at s.rows.request h.to p n h.command d

  abbrev Why : Change → Type 0
  Why c = Cause s i acts c

  -- what the decision's acts change is changed
  pub within : (d : Decision) → h.decision ≡ d → (c : Change) → Contains (all_changes (acts_of d)) c → Contains (all_changes acts) c
  within d is c j = subst (λ l. Contains (all_changes l) c) (sym (h.acts_are ∙ ap acts_of is)) j

  -- the answer to the command
  abbrev pub replying : Replying s i acts
  replying = record {
    at = h.at;
    packet = h.packet;
    arrives = h.arrives;
    new = h.it.new;
    reply = reply_of h.at h.decision;
    puts = within h.decision refl (Put (row.Reply p n (reply_of h.at h.decision))) (in_front _ _);
    answers = answers_command h.at h.decision h.command h.packet.body h.it.carries;
    orderly = subst AreOrderly (sym h.acts_are) (decided_orderly h.at s.rows.request h.to p n h.command h.decision);
    decided = λ c is. (h, refl, refl);
  }

  answer_caused : (d : Decision) → h.decision ≡ d → Why (Put (row.Reply p n (reply_of h.at d)))
  answer_caused d is = record { replies = replying; by = refl; number = refl; reply_is = ap (reply_of h.at) is }

  mark_caused : (id : List ℕ) → IsInTime s.rows.booked.marks (p, id) n → Why (Put (row.Mark p id n))
  mark_caused id timely = record { decides = h; by = refl; number = refl; timely = timely }

  settled_caused : (x : CommandResultType) → AllOf Why (all_changes (settled h.at s.rows.request h.to p n (url_of h.command) x))
  settled_caused x = (tt, (λ sound. unended s sound p n h.it.new, tt))

  -- what is opened by itself has no reference
  no_reference : Opens s h.packet.from h.command → reference_of h.command ≡ None
  no_reference opens = elim opens.kind [ inl x ↦ ap reference_of x.command_is | inr x ↦ ap reference_of x.command_is ]

  open_caused : Opens s h.packet.from h.command → Why (Put (row.Pending p n (book.open_command h.command None (deadline h.at))))
  open_caused opens = record {
    decides = h;
    by = refl;
    number = refl;
    command_is = refl;
    unspent = λ reference uses. none_some uses.0 (sym (no_reference opens) ∙ uses.1);
    spends = λ reference uses. none_some uses.0 (sym (no_reference opens) ∙ uses.1);
  }

  module _ (place : Place) (reservation : Option (List ℕ)) (is : h.decision ≡ decision.Started place reservation) (starts : Starts s h.packet.from h.command place reservation) where
    abbrev o : OpenCommand
    o = book.open_command h.command (Some place) (deadline h.at)

    unspent_of : (x : List ℕ) → reference_of h.command ≡ Some x → get s.rows.spent (p, key x) ≢ Some tt
    unspent_of x named has = starts.unspent (subst (IsSpent s.rows.spent p) (sym named ∙ ap reference_of starts.command_is) has)

    start_caused : Why (Put (row.Pending p n o))
    start_caused = record {
      decides = h;
      by = refl;
      number = refl;
      command_is = refl;
      unspent = λ reference uses. subst (λ z. get s.rows.spent (p, z) ≢ Some tt) uses.2 (unspent_of uses.0 uses.1);
      spends = λ reference uses. subst (λ z. Contains (all_changes acts) (Put (row.Spent p z))) uses.2
          (within (decision.Started place reservation) is (Put (row.Spent p (key uses.0))) (start_spends h.to p n (reply_of h.at (decision.Started place reservation)) o reservation (reference_of h.command) uses.0 uses.1));
    }

    spent_caused : (reference : Option (List ℕ)) → reference_of h.command ≡ reference → AllOf Why (all_changes (spent p reference))
    spent_caused None named = tt
    spent_caused (Some x) named = (unspent_of x named, tt)

    started_caused : (used_one reference : Option (List ℕ)) → reference_of h.command ≡ reference → AllOf Why (all_changes ((used p used_one ++ (opened p n o ∷ spent p reference)) ++ []))
    started_caused None None named = (start_caused, tt)
    started_caused None (Some x) named = (start_caused, (unspent_of x named, tt))
    started_caused (Some id) None named = (tt, (start_caused, tt))
    started_caused (Some id) (Some x) named = (tt, (start_caused, (unspent_of x named, tt)))

  decision_caused : (d : Decision) → h.decision ≡ d → Tells s h.at h.packet.from n h.command d → AllOf Why (all_changes (acts_of d))
  decision_caused (decision.Refused status) is tells = (answer_caused (decision.Refused status) is, tt)
  decision_caused (decision.Answered w) is tells = (answer_caused (decision.Answered w) is, tt)
  decision_caused decision.Opened is tells = (answer_caused decision.Opened is, (open_caused tells, tt))
  decision_caused (decision.Started place reservation) is tells =
      (answer_caused (decision.Started place reservation) is, started_caused place reservation is tells reservation (reference_of h.command) refl)
  decision_caused (decision.Resulted x) is tells = (answer_caused (decision.Resulted x) is, settled_caused x)
  decision_caused (decision.Noted id x) is tells =
      (answer_caused (decision.Noted id x) is, (mark_caused id tells.in_time, settled_caused x))
  decision_caused (decision.Reserved id r) is tells = (
    answer_caused (decision.Reserved id r) is,
    (
      mark_caused id tells.in_time,
      (
        record {
          decides = h;
          by = refl;
          asked = tells.reserve;
          command_is = tells.command_is;
          id_is = tells.id_is;
          timely = tells.in_time;
          asks = tells.asked;
          marks = within (decision.Reserved id r) is (Put (row.Mark p id n)) (1, omega arith, refl);
          accepts = within (decision.Reserved id r) is (Put (row.Result p n Accepted)) (4, omega arith, refl);
        },
        settled_caused Accepted,
      ),
    ),
  )
  decision_caused (decision.Cancelled id) is tells =
      (answer_caused (decision.Cancelled id) is, (mark_caused id tells.in_time, (tt, settled_caused Accepted)))

  pub decided_caused : (c : Change) → Contains (all_changes acts) c → Cause s i acts c
  decided_caused c j = all_in Why (all_changes (acts_of h.decision)) (decision_caused h.decision refl (all_tell s h.at h.packet.from n h.command h.decision h.it.decides)) c
      (subst (λ l. Contains (all_changes l) c) h.acts_are j)
