-- Each change of each line has its reason, where what holds at all times holds.
use Rattle.std.proofs.Common.{◌≡◌, ◌+◌, ◌≤◌, ◌<◌, ℕ, List, [], ◌∷◌, ◌++◌, inl, refl, sym, ap, subst, arith}
use Rattle.std.specs.Prelude.{Option, Some, None, Contains}
use Rattle.std.specs.FinMap.{get}
use Rattle.std.proofs.lemmas.List.Elements.{Contains-append_left, Contains-append_right}
use Rattle.tables.proofs.Elements.{in_front}
use Rattle.ocpi_text.specs.Text.{key}
use Rattle.ocpi_types.specs.Commands.{url_of}
use Rattle.ocpi_types.specs.declared.cdrs.Cdr.{Cdr}
use Rattle.ocpi_types.specs.declared.commands.StartSession.{StartSession}
use Rattle.ocpi_types.specs.declared.rows.Row.TheVariants as row
use Rattle.ocpi_types.specs.declared.rows.RowKey.TheVariants as keys
use Rattle.ocpi_types.specs.declared.rows.Change.{Change}
use Rattle.ocpi_types.specs.declared.rows.Change.TheVariants.{Put, Drop}
use Rattle.ocpi_types.specs.declared.rows.Counter.TheVariants as counter
use Rattle.ocpi_types.specs.declared.sessions.Session.{Session}
use Rattle.ocpi_types.specs.declared.commands.Command.{Command}
use Rattle.ocpi_types.specs.declared.commands.Command.TheVariants as command
use Rattle.ocpi_types.specs.declared.stored.Push.TheVariants as push
use Rattle.ocpi_types.specs.declared.words.CommandResultType.{CommandResultType}
use Rattle.ocpi_types.specs.declared.words.CommandResultType.TheVariants as result
use Rattle.ocpi_types.specs.declared.words.SessionStatus.TheVariants.{Completed}
use Rattle.node_steps.specs.Acts.{Act, acknowledged, all_changes, all_messages, changed, pushed, push_message}
use Rattle.outbox.specs.Pushes.{IsReplaced, subject}
use Rattle.node_steps.specs.Messages.{Message}
use Rattle.node_steps.proofs.Gathering.{messages_append}
use Rattle.operator_rows.specs.State.{State}
use Rattle.operator_rows.proofs.RowChanges.{in_later}
use Rattle.session_tables.specs.declared.beginning.Beginning.{Beginning}
use Rattle.operator_steps.specs.declared.ending.Ending.{Ending}
use Rattle.operator_steps.specs.Acts.{settled, told, used}
use Rattle.operator_steps.specs.Ends.{end_acts, ends_acts, url_in}
use Rattle.operator_steps.specs.Events.{Input}
use Rattle.operator_steps.specs.Sessions as sessions
use Rattle.operator_steps.specs.Sessions.{IsBegun, IsBilled, IsVersioned, first_of, next_cdr, numbered_cdrs, replaced, versioned}
use Rattle.operator_laws.proofs.events.Decided.{AllOf, all_acts}
use Rattle.operator_laws.proofs.events.Caused.{IsEnd, in_first, in_second}
use Rattle.operator_laws.proofs.events.Reasons as reasons
use Rattle.operator_laws.proofs.events.Reasons.{BeginsFor, BegunBy, Pushing, Reason, Resulting, Stems, Versioning}

module _ (s : State) (i : Input) (acts : List Act) where
  abbrev pub Why : Change → Type 0
  Why c = Reason s i acts c

  -- what these acts change and say is changed and said
  pub record IsPart (part : List Act) : Type 0 where
    pub changes : (c : Change) → Contains (all_changes part) c → Contains (all_changes acts) c
    pub messages : (m : Message) → Contains (all_messages part) m → Contains (all_messages acts) m

  pub first_part : (xs ys : List Act) → IsPart (xs ++ ys) → IsPart xs
  first_part xs ys h = record {
    changes = λ c j. h.changes c (in_first xs ys c j);
    messages = λ m j. h.messages m (subst (λ l. Contains l m) (sym (messages_append xs ys)) (Contains-append_left (all_messages xs) (all_messages ys) m j));
  }

  pub second_part : (xs ys : List Act) → IsPart (xs ++ ys) → IsPart ys
  second_part xs ys h = record {
    changes = λ c j. h.changes c (in_second xs ys c j);
    messages = λ m j. h.messages m (subst (λ l. Contains l m) (sym (messages_append xs ys)) (Contains-append_right (all_messages xs) (all_messages ys) m j));
  }

  pub part_is : (xs ys : List Act) → xs ≡ ys → IsPart xs → IsPart ys
  part_is xs ys e h = subst IsPart e h

  -- a version is pushed and stored
  module _ (at last : ℕ) (to : List ℕ) (v : Session) (peer : Contains s.providers to) (same : key to ≡ key v.cdr_token.party) (above : s.rows.request ≤ last) (why : Versioning s i acts v) where
    abbrev two : List Act
    two = pushed at (last + 1) to (push.PutSession v) ∷ (changed (Put (row.Session v)) ∷ [])

    version_pushing : IsPart two → Pushing s i acts (last + 1) to (push.PutSession v)
    version_pushing part = record {
      above = omega (arith, above);
      listed = peer;
      says = part.messages (push_message (last + 1) to (push.PutSession v)) (0, omega arith, refl);
      carries = reasons.OfVersion v refl same (part.changes (Put (row.Session v)) (1, omega arith, refl));
    }

    two_reason : IsPart two → AllOf Why (all_changes two)
    two_reason part = (version_pushing part, (record { how = why; pushed = record { number = last + 1; to = to; of_provider = same; makes = part.changes (Put (row.Push (last + 1) to (push.PutSession v))) (0, omega arith, refl) } }, tt))

    versioned_reason : (old : Option ℕ) → IsReplaced s.rows.pushes (subject to (push.PutSession v)) old → IsPart (versioned at last to old v) → AllOf Why (all_changes (versioned at last to old v))
    versioned_reason None h part = two_reason part
    versioned_reason (Some n) (x, stands, about) part =
        let later = second_part (acknowledged n ∷ []) two part in (
          reasons.Replaced v to x (last + 1) stands about (omega (arith, above)) (later.messages (push_message (last + 1) to (push.PutSession v)) (0, omega arith, refl)) (later.changes (Put (row.Session v)) (1, omega arith, refl)),
          two_reason later,
        )

  pub version_reason : (at last : ℕ) (v : Session) (part : List Act) → IsVersioned s at last v part → s.rows.request ≤ last → IsPart part → Versioning s i acts v → AllOf Why (all_changes part)
  version_reason at last v part h above inside why =
      subst (λ l. AllOf Why (all_changes l)) (sym h.acts_are)
      (versioned_reason at last h.to v h.of_provider.listed h.of_provider.same above why h.old h.replaces (subst IsPart h.acts_are inside))

  used_reason : (p : List ℕ) (o : Option (List ℕ)) → AllOf Why (all_changes (used p o))
  used_reason p None = tt
  used_reason p (Some id) = (tt, tt)

  -- the version that is pushed is stored
  stored_in : (at last : ℕ) (to : List ℕ) (old : Option ℕ) (v : Session) → Contains (all_changes (versioned at last to old v)) (Put (row.Session v))
  stored_in at last to None v = (1, omega arith, refl)
  stored_in at last to (Some n) v = (2, omega arith, refl)

  pub version_stored : (at last : ℕ) (v : Session) (part : List Act) → IsVersioned s at last v part → Contains (all_changes part) (Put (row.Session v))
  version_stored at last v part h = subst (λ l. Contains (all_changes l) (Put (row.Session v))) (sym h.acts_are) (stored_in at last h.to h.old v)

  -- a session begins
  pub begun_reason : (at last n : ℕ) (b : Beginning) (begun : List Act) → IsBegun s at last n b begun → s.rows.request ≤ last → s.rows.charged.last_session < n →
      (m : ℕ) → n ≤ m → Contains (all_changes acts) (Put (row.Count counter.Session m)) → BegunBy s i acts (first_of s at n b) → IsPart begun → AllOf Why (all_changes begun)
  begun_reason at last n b begun h above number m counted counts by inside =
      let front : List Act = used (key b.token.party) b.reservation_id in
      let part : IsPart (front ++ h.first) = subst IsPart h.acts_are inside in
      subst (λ l. AllOf Why (all_changes l)) (sym h.acts_are)
      (all_acts Why front h.first (used_reason (key b.token.party) b.reservation_id)
      (version_reason at last (first_of s at n b) h.first h.versioned above (second_part front h.first part)
      (reasons.Begins (record { number = n; above = number; id_is = refl; last = m; counted = counted; counts = counts; status_is = refl; by = by }))))

  pub begun_stored : (at last n : ℕ) (b : Beginning) (begun : List Act) → IsBegun s at last n b begun → Contains (all_changes begun) (Put (row.Session (first_of s at n b)))
  begun_stored at last n b begun h =
      subst (λ l. Contains (all_changes l) (Put (row.Session (first_of s at n b)))) (sym h.acts_are)
      (in_second (used (key b.token.party) b.reservation_id) h.first (Put (row.Session (first_of s at n b))) (version_stored at last (first_of s at n b) h.first h.versioned))

  -- a version that is complete has its charge detail record
  pub bill_reason : (at last : ℕ) (w : Session) (part : List Act) → IsBilled s at last w part → s.rows.request ≤ last → IsPart part → Contains (all_changes acts) (Put (row.Session w)) → AllOf Why (all_changes part)
  bill_reason at last w part (sessions.Unbilled other is) above inside stored = subst (λ l. AllOf Why (all_changes l)) (sym is) tt
  bill_reason at last w part (sessions.Billed done to peer l e k place is) above inside stored =
      let x : Cdr = next_cdr s w l e k in
      let here = subst IsPart is inside in
      subst (λ z. AllOf Why (all_changes z)) (sym is) (
        omega arith,
        (
          record {
            above = omega (arith, above);
            listed = peer.listed;
            says = here.messages (push_message (last + 1) to (push.PostCdr x)) (0, omega arith, refl);
            carries = reasons.OfRecord x refl peer.same (here.changes (Put (row.Cdr x)) (2, omega arith, refl));
          },
          (
            record {
              how = reasons.Billed (record {
                version = w;
                puts = stored;
                completed = done;
                bill = record { place = _; record_is = refl; counts = here.changes (Put (row.Count counter.Cdr (s.rows.charged.last_cdr + 1))) (0, omega arith, refl) };
              });
              pushed = record { number = last + 1; to = to; of_provider = peer.same; makes = here.changes (Put (row.Push (last + 1) to (push.PostCdr x))) (1, omega arith, refl) };
            },
            tt,
          ),
        ),
      )

  pub billed_by : (at last : ℕ) (w : Session) (part : List Act) → IsBilled s at last w part → IsPart part → w.status ≡ Completed →
      (x : Cdr) × Contains (all_changes acts) (Put (row.Cdr x)) × reasons.IsBillOf s i acts w x
  billed_by at last w part (sessions.Unbilled other is) inside done = absurd (other done)
  billed_by at last w part (sessions.Billed complete to peer l e k place is) inside done =
      let x : Cdr = next_cdr s w l e k in
      let here = subst IsPart is inside in (
        x,
        here.changes (Put (row.Cdr x)) (2, omega arith, refl),
        record { place = _; record_is = refl; counts = here.changes (Put (row.Count counter.Cdr (s.rows.charged.last_cdr + 1))) (0, omega arith, refl) },
      )

  -- a result is pushed, and kept
  pub settled_reason : (at last : ℕ) (to p : List ℕ) (n : ℕ) (c : Command) (url : List ℕ) (x : CommandResultType) → Contains s.providers to → key to ≡ p → s.rows.request ≤ last → url ≡ url_of c →
      Stems s i acts p n c → (x ≡ result.Accepted → (a : StartSession) → c ≡ command.StartSession a → BeginsFor s i acts p a) → IsPart (settled at last to p n url x) →
      AllOf Why (all_changes (settled at last to p n url x))
  settled_reason at last to p n c url x peer same above url_is stems session part = (
    record {
      above = omega (arith, above);
      listed = peer;
      says = part.messages (push_message (last + 1) to (push.CommandResult (told url x))) (0, omega arith, refl);
      carries = reasons.OfResult (record {
        number = n;
        carried = c;
        result = x;
        stems = subst (λ z. Stems s i acts z n c) (sym same) stems;
        push_is = ap (λ z. push.CommandResult (told z x)) url_is;
        puts = subst (λ z. Contains (all_changes acts) (Put (row.Result z n x))) (sym same) (part.changes (Put (row.Result p n x)) (1, omega arith, refl));
      });
    },
    (record { carried = c; stems = stems; session = session }, tt),
  )

  -- commands end: what is told of each
  pub record IsToldEnd (e : Ending) : Type 0 where
    pub end : IsEnd s e
    pub session : e.result ≡ result.Accepted → (a : StartSession) → end.command.command ≡ command.StartSession a → BeginsFor s i acts e.provider a

  end_reason : (at last : ℕ) (e : Ending) → IsToldEnd e → s.rows.request ≤ last → IsPart (end_acts at s.rows.commands.pending last e) → AllOf Why (all_changes (end_acts at s.rows.commands.pending last e))
  end_reason at last e h above part =
      let url : List ℕ = url_in (get s.rows.commands.pending (e.provider, e.number)) in (
        tt,
        settled_reason at last e.to e.provider e.number h.end.command.command url e.result h.end.of_site.listed h.end.of_site.same above (ap url_in h.end.stands)
            (inl (h.end.command, h.end.stands, refl)) h.session (second_part (changed (Drop (keys.Pending e.provider e.number)) ∷ []) (settled at last e.to e.provider e.number url e.result) part),
      )

  pub ends_reason : (at last : ℕ) (ends : List Ending) → ((e : Ending) → Contains ends e → IsToldEnd e) → s.rows.request ≤ last → IsPart (ends_acts at s.rows.commands.pending last ends) →
      AllOf Why (all_changes (ends_acts at s.rows.commands.pending last ends))
  ends_reason at last [] each above part = tt
  ends_reason at last (e ∷ es) each above part =
      let first : List Act = end_acts at s.rows.commands.pending last e in
      let rest : List Act = ends_acts at s.rows.commands.pending (last + 1) es in
      all_acts Why first rest (end_reason at last e (each e (in_front e es)) above (first_part first rest part))
      (ends_reason at (last + 1) es (λ f k. each f (in_later e es f k)) (omega (arith, above)) (second_part first rest part))
