-- The commands that a provider sent, their responses and results (OCPI 2.2.1, Commands).
use Rattle.std.specs.Prelude.{◌≡◌, ◌⊎◌, ℕ, List, Some, Contains}
use Rattle.std.specs.FinMap.{get}
use Rattle.ocpi_text.specs.Text.{key}
use Rattle.ocpi_types.specs.Commands.{url_of}
use Rattle.ocpi_types.specs.declared.packet.Packet.{Packet}
use Rattle.ocpi_types.specs.declared.packet.Body.TheVariants as body
use Rattle.ocpi_types.specs.declared.replies.CommandResponse.{CommandResponse}
use Rattle.ocpi_types.specs.declared.replies.CommandResult.{CommandResult}
use Rattle.ocpi_types.specs.declared.commands.Command.{Command}
use Rattle.ocpi_types.specs.declared.stored.SentCommand.{SentCommand}
use Rattle.ocpi_types.specs.declared.words.CommandResultType.{CommandResultType}
use Rattle.provider_rows.specs.State.{Peering, State, opening}
use Rattle.provider_rows.specs.Sound.{IsConsistent}
use Rattle.provider_steps.specs.Acts.{own_url}
use Rattle.provider_steps.specs.Events.{Event}
use Rattle.provider_laws.specs.Laws.{Came, Run, sent}

-- a sent command as it may stand later: with the same addressee and command, and with the response and the result that
-- it had
pub record IsLater (c d : SentCommand) : Type 0 where
  pub to : d.to ≡ c.to
  pub command : d.command ≡ c.command
  pub answer : (r : CommandResponse) → c.answer ≡ Some r → d.answer ≡ Some r
  pub result : (x : CommandResultType) → c.result ≡ Some x → d.result ≡ Some x

-- a command that was sent stands for good, and neither its response nor its result changes once it is stored
abbrev pub CommandsStay : Type 0
CommandsStay = (s t : State) (es : List Event) → IsConsistent s → Run s es t → (n : ℕ) (c : SentCommand) → get s.rows.outbox.commands n ≡ Some c →
    (d : SentCommand) × (get t.rows.outbox.commands n ≡ Some d) × IsLater c d

-- a command that was sent stands under its number, with its addressee
abbrev pub SentCommandsStand : Type 0
SentCommandsStand = (s t : State) (es : List Event) → IsConsistent s → Run s es t → (x : Packet) (c : Command) → Contains (sent es) x → x.body ≡ body.Command c →
    (d : SentCommand) × (get t.rows.outbox.commands x.request ≡ Some d) × (key d.to ≡ key x.to) × (d.command ≡ c)

-- the command of that number stood with that response
abbrev pub HadAnswer : State → ℕ → CommandResponse → Type 0
HadAnswer s n r = (c : SentCommand) × (get s.rows.outbox.commands n ≡ Some c) × (c.answer ≡ Some r)

-- the response came from that party, under that number
abbrev pub AnswerCame : List Event → List ℕ → ℕ → CommandResponse → Type 0
AnswerCame es to n r = (q : Packet) × Came es q × (q.body ≡ body.CommandResponse r) × (key q.from ≡ key to) × (q.request ≡ n)

-- a response that is stored was stored before, or came from the command's addressee under its number
abbrev pub AnswersCame : Type 0
AnswersCame = (s t : State) (es : List Event) → Run s es t → (n : ℕ) (d : SentCommand) (r : CommandResponse) → get t.rows.outbox.commands n ≡ Some d → d.answer ≡ Some r →
    HadAnswer s n r ⊎ AnswerCame es d.to n r

abbrev pub HadResult : State → ℕ → CommandResultType → Type 0
HadResult s n x = (c : SentCommand) × (get s.rows.outbox.commands n ≡ Some c) × (c.result ≡ Some x)

-- the result came from that party, posted to that url
abbrev pub ResultCame : List Event → List ℕ → List ℕ → CommandResultType → Type 0
ResultCame es to url x = (q : Packet) × (r : CommandResult) × Came es q × (q.body ≡ body.CommandResult r) × (r.result ≡ x) × (r.response_url ≡ url) × (key q.from ≡ key to)

-- a result that is stored was stored before, or came from the command's addressee, posted to where the command says
abbrev pub ResultsCame : Type 0
ResultsCame = (s t : State) (es : List Event) → Run s es t → (n : ℕ) (d : SentCommand) (x : CommandResultType) → get t.rows.outbox.commands n ≡ Some d → d.result ≡ Some x →
    HadResult s n x ⊎ ResultCame es d.to (url_of d.command) x

-- the result of each command is posted to the url of its number
abbrev pub UrlsAreOwn : Type 0
UrlsAreOwn = (p : Peering) (es : List Event) (t : State) → Run (opening p) es t → (n : ℕ) (c : SentCommand) → get t.rows.outbox.commands n ≡ Some c →
    url_of c.command ≡ own_url p.provider n

-- no two commands have one url
abbrev pub UrlsHaveOneNumber : Type 0
UrlsHaveOneNumber = (p : Peering) (es : List Event) (t : State) → Run (opening p) es t → (m n : ℕ) (c d : SentCommand) → get t.rows.outbox.commands m ≡ Some c →
    get t.rows.outbox.commands n ≡ Some d → url_of c.command ≡ url_of d.command → m ≡ n
