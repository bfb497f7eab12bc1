-- What `Books` keeps together, as rows of each kind are put and dropped.
use Rattle.std.proofs.Common.{◌≡◌, ℕ, List, inl, inr, refl, sym, ap, subst, ◌∙◌}
use Rattle.std.specs.Prelude.{Some, None}
use Rattle.std.specs.Cmp.{nat_cmp_total}
use Rattle.std.specs.FinMap.{nat_cmp-IsAntisymmetric, get, insert, remove, empty}
use Rattle.tables.proofs.Indexing.{listed, relisted, nothing_listed}
use Rattle.tables.proofs.Maps.{insert_removed}
use Rattle.tables.proofs.Options.{known}
use Rattle.ocpi_types.specs.Commands.{url_of}
use Rattle.ocpi_types.specs.declared.rows.Row.{Row}
use Rattle.ocpi_types.specs.declared.rows.Row.TheVariants as row
use Rattle.ocpi_types.specs.declared.rows.RowKey.TheVariants as keys
use Rattle.ocpi_types.specs.declared.rows.Counter.TheVariants as counter
use Rattle.ocpi_types.specs.declared.stored.Push.{Push}
use Rattle.ocpi_types.specs.declared.stored.Reply.{Reply}
use Rattle.ocpi_types.specs.declared.stored.SentCommand.{SentCommand}
use Rattle.command_book.specs.Stored as answered
use Rattle.token_desk.specs.Stored as desk
use Rattle.outbox.specs.Commands.{Commands}
use Rattle.outbox.specs.Outbox as outbox
use Rattle.outbox.specs.Outbox.{OutboxRows, HeldOutbox}
use Rattle.outbox.specs.Resend.{Moments, queue_number}
use Rattle.outbox.proofs.Timing.{queue_total, queue_exact}
use Rattle.handover.specs.Inbox.{InboxRows}
use Rattle.provider_rows.specs.State.{Peering, Rows, State, opening}
use Rattle.provider_rows.specs.Stored.{put_row, drop_row}
use Rattle.provider_rows.specs.Sound.{IsSound, MayPut, MayPutCommand, MayPutPush, MayPutRequest, with_rows}
use Rattle.provider_rows.specs.Kept.{AreKept, state_of}
use Rattle.provider_rows.specs.Urls.{AreFound, url_entry, url_place}
use Rattle.provider_rows.proofs.KeepingSound.{opening_sound, others_sound, put_keeps_sound, drop_keeps_sound, sound_resent}

-- no command is found where none stands
found_none : AreFound empty empty
found_none = nothing_listed nat_cmp_total nat_cmp-IsAntisymmetric queue_total queue_exact url_entry queue_number (λ k v. refl)

-- a command is put, posted to where the one was that stood under its number
found_put : (m : Commands) (urls : Moments) → AreFound m urls → (n : ℕ) (c : SentCommand) → ((d : SentCommand) → get m n ≡ Some d → url_of d.command ≡ url_of c.command) →
    AreFound (insert m n c) (insert urls (url_entry n c) tt)
found_put m urls h n c same = elim (known (get m n)) [
  | inl none ↦ listed nat_cmp_total nat_cmp-IsAntisymmetric queue_total queue_exact url_entry queue_number (λ k v. refl) m urls h n c none
  | inr some ↦ subst (λ z. AreFound (insert m n c) z) (again some.0 (same some.0 some.1)) (relisted nat_cmp_total nat_cmp-IsAntisymmetric queue_total queue_exact url_entry queue_number (λ k v. refl) m urls h n some.0 c some.1)
]
  where
    again : (d : SentCommand) → url_of d.command ≡ url_of c.command → insert (remove urls (url_entry n d)) (url_entry n c) tt ≡ insert urls (url_entry n c) tt
    again d alike = ap (λ u. insert (remove urls (url_place u, n)) (url_entry n c) tt) alike ∙ insert_removed queue_total queue_exact urls (url_entry n c) tt

module _ (a : answered.Rows) (urls : Moments) (s : State) (h : AreKept a urls s) where
  -- a row that is no command
  pub kept_put : (r : Row) → MayPut s r → s.rows.outbox.commands ≡ (put_row r s.rows).outbox.commands → AreKept a urls (with_rows (put_row r s.rows) s)
  kept_put r may same = record { sound = put_keeps_sound s h.sound r may; found = subst (λ m. AreFound m urls) same h.found; none_pending = h.none_pending; no_results = h.no_results }

  -- a reply
  pub kept_put_reply : (p : List ℕ) (n : ℕ) (reply : Reply) → AreKept (answered.put_row (row.Reply p n reply) a) urls (with_rows (put_row (row.Reply p n reply) s.rows) s)
  kept_put_reply p n reply =
      let kept = kept_put (row.Reply p n reply) tt refl in
      record { sound = kept.sound; found = kept.found; none_pending = h.none_pending; no_results = h.no_results }

-- the outbox changes
module _ (a : answered.Rows) (urls : Moments) (peers : Peering) (serial : ℕ) (d : desk.Rows) (x : InboxRows) (old new : HeldOutbox) (h : AreKept a urls (state_of peers serial a d old x)) where
  abbrev before : State
  before = state_of peers serial a d old x

  abbrev with_outbox : OutboxRows → State
  with_outbox rows = state_of peers serial a d (record new { rows = rows }) x

  kept_outbox : (rows : OutboxRows) → new.rows ≡ rows → (now : Moments) → IsSound (with_outbox rows) → AreFound rows.commands now → AreKept a now (state_of peers serial a d new x)
  kept_outbox rows is now sound found = subst (λ (r : OutboxRows). AreKept a now (with_outbox r)) (sym is) (record { sound = sound; found = found; none_pending = h.none_pending; no_results = h.no_results })

  pub kept_put_push : (n : ℕ) (to : List ℕ) (push : Push) → MayPutPush before n to push → new.rows ≡ outbox.put_row (row.Push n to push) old.rows → AreKept a urls (state_of peers serial a d new x)
  kept_put_push n to push may is =
      kept_outbox (outbox.put_row (row.Push n to push) old.rows) is urls (sound_resent (with_rows (put_row (row.Push n to push) before.rows) before) new.resend (put_keeps_sound before h.sound (row.Push n to push) may)) h.found

  pub kept_put_request : (n : ℕ) → MayPutRequest before n → new.rows ≡ outbox.put_row (row.Count counter.Request n) old.rows → AreKept a urls (state_of peers serial a d new x)
  kept_put_request n may is =
      kept_outbox (outbox.put_row (row.Count counter.Request n) old.rows) is urls
      (sound_resent (with_rows (put_row (row.Count counter.Request n) before.rows) before) new.resend (put_keeps_sound before h.sound (row.Count counter.Request n) may)) h.found

  pub kept_put_command : (n : ℕ) (c : SentCommand) → MayPutCommand before n c → new.rows ≡ outbox.put_row (row.Command n c) old.rows → (now : Moments) → now ≡ insert urls (url_entry n c) tt →
      AreKept a now (state_of peers serial a d new x)
  kept_put_command n c may is now more =
      kept_outbox (outbox.put_row (row.Command n c) old.rows) is now
      (sound_resent (with_rows (put_row (row.Command n c) before.rows) before) new.resend (put_keeps_sound before h.sound (row.Command n c) may))
      (subst (AreFound (insert old.rows.commands n c)) (sym more) (found_put old.rows.commands urls h.found n c may.same_url))

  pub kept_drop_push : (n : ℕ) → get old.rows.commands n ≡ None → new.rows ≡ outbox.drop_row (keys.Push n) old.rows → AreKept a urls (state_of peers serial a d new x)
  kept_drop_push n free is =
      kept_outbox (outbox.drop_row (keys.Push n) old.rows) is urls (sound_resent (with_rows (drop_row (keys.Push n) before.rows) before) new.resend (drop_keeps_sound before h.sound (keys.Push n) free)) h.found

  pub kept_resent : new.rows ≡ old.rows → AreKept a urls (state_of peers serial a d new x)
  kept_resent is = kept_outbox old.rows is urls (sound_resent before new.resend h.sound) h.found

-- before the first event
module _ (peers : Peering) (serial : ℕ) (a : answered.Rows) (d : desk.Rows) (o : HeldOutbox) (urls : Moments) (x : InboxRows) where
  abbrev bare : Rows
  bare = record { serial = serial; replies = empty; desk = desk.no_rows; outbox = outbox.no_rows; inbox = x }

  nothing_kept : AreKept answered.no_rows empty (state_of peers serial answered.no_rows desk.no_rows (record o { rows = outbox.no_rows }) x)
  nothing_kept = record {
    sound = sound_resent (with_rows bare (opening peers)) o.resend (others_sound (opening peers) (opening_sound peers) bare refl refl);
    found = found_none;
    none_pending = refl;
    no_results = refl;
  }

  pub kept_new : a ≡ answered.no_rows → d ≡ desk.no_rows → o.rows ≡ outbox.no_rows → urls ≡ empty → AreKept a urls (state_of peers serial a d o x)
  kept_new f g h e = rw (f, g, e) (subst (λ (r : OutboxRows). AreKept answered.no_rows empty (state_of peers serial answered.no_rows desk.no_rows (record o { rows = r }) x)) (sym h) nothing_kept)
