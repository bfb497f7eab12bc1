-- Rows that may be put beside those that stand, kind by kind.
use Rattle.std.proofs.Common.{◌≡◌, ◌≢◌, ℕ, ◌≤◌, List, inl, inr, sym, ap, subst, ◌∙◌, arith}
use Rattle.std.specs.Prelude.{Option, Some, None, Ok}
use Rattle.std.specs.Cmp.{nat_cmp_total}
use Rattle.std.specs.FinMap.{get, insert, nat_cmp-IsAntisymmetric}
use Rattle.ocpi_text.specs.Party.{party_at}
use Rattle.ocpi_text.specs.Text.{key}
use Rattle.tables.specs.Keys.{text_pair_total, text_pair_exact}
use Rattle.tables.proofs.Maps.{of_insert}
use Rattle.tables.proofs.Options.{not_both}
use Rattle.ocpi_types.specs.Commands.{reference_of}
use Rattle.ocpi_types.specs.declared.cdrs.Cdr.{Cdr}
use Rattle.ocpi_types.specs.declared.rows.Change.TheVariants.{Put}
use Rattle.ocpi_types.specs.declared.rows.Counter.{Counter}
use Rattle.ocpi_types.specs.declared.rows.Counter.TheVariants as counter
use Rattle.ocpi_types.specs.declared.rows.Row.TheVariants as row
use Rattle.ocpi_types.specs.declared.sessions.Session.{Session}
use Rattle.ocpi_types.specs.declared.stored.Push.{Push}
use Rattle.ocpi_types.specs.declared.stored.Reply.{Reply}
use Rattle.ocpi_types.specs.declared.stored.SentCommand.{SentCommand}
use Rattle.ocpi_types.specs.declared.token.Token.{Token}
use Rattle.token_desk.specs.Tokens.{token_key}
use Rattle.token_desk.specs.TypeOrder.{tokens_total, tokens_exact}
use Rattle.outbox.specs.Outbox as outbox
use Rattle.outbox.specs.Pushes.{IsAbout, IsReplaced, Pushes, subject}
use Rattle.outbox.specs.declared.push_book.Subject.{Subject}
use Rattle.ocpi_types.specs.Credits.{AreAlike, is_credit}
use Rattle.handover.specs.Cdrs.{Cdrs, AreOwnCdrs, HasOnePerSession, cdr_key}
use Rattle.handover.specs.Inbox.{IsInConflict, session_key}
use Rattle.node_steps.specs.Peers.{HasPeer}
use Rattle.provider_rows.specs.Rows.{HasCount, HasRow}
use Rattle.provider_rows.specs.Sound.{IsGiven, MayPutCount}
use Rattle.provider_rows.specs.State.{Rows, State}
use Rattle.provider_rows.specs.Steps.{after_change}
use Rattle.provider_stored.specs.Fitting.{HasOwnReference, IsFit, IsFree, IsNext, given_last}
use Rattle.provider_stored.specs.Whole.{IsWhole}
use Rattle.stored_rows.proofs.SameNumbers.{same_number}
use Rattle.provider_stored.proofs.Looked.{is_found}
use Rattle.provider_stored.proofs.Keys.{is_count, is_reply, is_token, is_push, is_command, is_session, is_cdr}

no_count : (s : Rows) (c : Counter) (g n : ℕ) → given_last s c ≡ Some g → g ≡ 0 → HasCount s c n → ⊥
no_count s counter.Serial g n e none h = let is : s.serial ≡ g = cc in h.1 (sym h.0 ∙ is ∙ none)
no_count s counter.Request g n e none h = let is : s.outbox.last ≡ g = cc in h.1 (sym h.0 ∙ is ∙ none)
no_count s counter.Reference g n e none h = let is : s.desk.references ≡ g = cc in h.1 (sym h.0 ∙ is ∙ none)
no_count s counter.Session g n e none h = h
no_count s counter.Cdr g n e none h = h

-- no request stands before a counter
up_to : (s : State) (last : ℕ) → IsNext s (row.Count counter.Request last) → outbox.AreUpTo s.rows.outbox last
up_to s last next = record {
  pushes = λ n h. let (x, stands) = is_found (get s.rows.outbox.pushes n) h in
      let early : 2 ≤ 0 = next (row.Push n x.to x.push) stands in
      absurd (omega arith);
  commands = λ n h. let (c, stands) = is_found (get s.rows.outbox.commands n) h in
      let early : 2 ≤ 0 = next (row.Command n c) stands in
      absurd (omega arith);
}

may_count : (s : State) (c : Counter) (g last : ℕ) → given_last s.rows c ≡ Some g → g ≡ 0 → last ≢ 0 → IsNext s (row.Count c last) → MayPutCount s c last
may_count s counter.Serial g last e none some next = some
may_count s counter.Request g last e none some next = record { given = some; up_to = up_to s last next }
may_count s counter.Reference g last e none some next = let is : s.rows.desk.references ≡ g = cc in record { given = some; rises = omega arith }
may_count s counter.Session g last e none some next = absurd (cc)
may_count s counter.Cdr g last e none some next = absurd (cc)

whole_count : (s : State) (c : Counter) (last : ℕ) → IsWhole s → IsWhole (after_change (Put (row.Count c last)) s)
whole_count s counter.Serial last w = record { references = w.references; tokens = w.tokens; sessions = w.sessions; cdrs = w.cdrs; once = w.once }
whole_count s counter.Request last w = record { references = w.references; tokens = w.tokens; sessions = w.sessions; cdrs = w.cdrs; once = w.once }
whole_count s counter.Reference last w = record { references = w.references; tokens = w.tokens; sessions = w.sessions; cdrs = w.cdrs; once = w.once }
whole_count s counter.Session last w = record { references = w.references; tokens = w.tokens; sessions = w.sessions; cdrs = w.cdrs; once = w.once }
whole_count s counter.Cdr last w = record { references = w.references; tokens = w.tokens; sessions = w.sessions; cdrs = w.cdrs; once = w.once }

pub count_fits : (s : State) (c : Counter) (g last : ℕ) → given_last s.rows c ≡ Some g → g ≡ 0 → last ≢ 0 → IsNext s (row.Count c last) → IsFit s (row.Count c last)
count_fits s c g last e none some next = record {
  may = may_count s c g last e none some next;
  new = λ x h same. let (n, is) = is_count x c same in no_count s.rows c g n e none (subst (λ y. HasRow s.rows y) is h);
  whole = whole_count s c last;
}

pub reply_fits : (s : State) (p : List ℕ) (n : ℕ) (reply : Reply) → get s.rows.replies (p, n) ≡ None → IsFit s (row.Reply p n reply)
reply_fits s p n reply none = record {
  may = tt;
  new = λ x h same. let (v, is) = is_reply x p n same in not_both v (get s.rows.replies (p, n)) none (subst (λ y. HasRow s.rows y) is h);
  whole = λ w. record { references = w.references; tokens = w.tokens; sessions = w.sessions; cdrs = w.cdrs; once = w.once };
}

pub token_fits : (s : State) (t : Token) → key t.party ≡ key s.party → get s.rows.desk.tokens (token_key t) ≡ None → IsFit s (row.Token t)
token_fits s t own none = record {
  may = tt;
  new = λ x h same. let (u, is, keyed) = is_token x t same in
      not_both u (get s.rows.desk.tokens (token_key t)) none (ap (get s.rows.desk.tokens) (sym keyed) ∙ subst (λ y. HasRow s.rows y) is h);
  whole = λ w. record {
    references = w.references;
    tokens = λ u h. elim (of_insert tokens_total tokens_exact s.rows.desk.tokens (token_key t) t (token_key u) u h) [
      | inl new ↦ ap (λ (z : Token). key z.party) (sym new.1) ∙ own
      | inr stood ↦ w.tokens u stood
    ];
    sessions = w.sessions;
    cdrs = w.cdrs;
    once = w.once;
  };
}

pub session_fits : (s : State) (v : Session) → key v.cdr_token.party ≡ key s.party → get s.rows.inbox.sessions (session_key v) ≡ None → IsFit s (row.Session v)
session_fits s v own none = record {
  may = tt;
  new = λ x h same. let (u, is, keyed) = is_session x v same in
      not_both u (get s.rows.inbox.sessions (session_key v)) none (ap (get s.rows.inbox.sessions) (sym keyed) ∙ subst (λ y. HasRow s.rows y) is h);
  whole = λ w. record {
    references = w.references;
    tokens = w.tokens;
    sessions = λ u h. elim (of_insert text_pair_total text_pair_exact s.rows.inbox.sessions (session_key v) v (session_key u) u h) [
      | inl new ↦ ap (λ (z : Session). key z.cdr_token.party) (sym new.1) ∙ own
      | inr stood ↦ w.sessions u stood
    ];
    cdrs = w.cdrs;
    once = w.once;
  };
}

-- no record that is held is of the session of one that is in conflict with none, and alike
no_other : (m : Cdrs) (v y : Cdr) (j : List ℕ) → get m (cdr_key v) ≡ None → (IsInConflict m v → ⊥) → get m (key v.party, j) ≡ Some y
    → key y.session_id ≡ key v.session_id → AreAlike y v → AreOwnCdrs m → ⊥
no_other m v y j none quiet stands session alike own = quiet (record {
  id = j;
  held = y;
  stands = stands;
  shares = inr (session, alike);
  differs = λ same. not_both y (get m (cdr_key v)) none (ap (get m) (ap cdr_key (sym same) ∙ sym (own (key v.party, j) y stands)) ∙ stands);
})

pub one_per_session : (m : Cdrs) (v : Cdr) → AreOwnCdrs m → get m (cdr_key v) ≡ None → (IsInConflict m v → ⊥) → HasOnePerSession m → HasOnePerSession (insert m (cdr_key v) v)
one_per_session m v own none quiet once operator i j x y hx hy session alike =
    elim (of_insert text_pair_total text_pair_exact m (cdr_key v) v (operator, i) x hx) [
      | inl (at, is) ↦ elim (of_insert text_pair_total text_pair_exact m (cdr_key v) v (operator, j) y hy) [
        | inl (bt, _) ↦ ap (λ (k : List ℕ × List ℕ). k.1) at ∙ sym (ap (λ (k : List ℕ × List ℕ). k.1) bt)
        | inr stands ↦ absurd (no_other m v y j none quiet (subst (λ (o : List ℕ). get m (o, j) ≡ Some y) (ap (λ (k : List ℕ × List ℕ). k.0) at) stands)
            (sym session ∙ ap (λ (z : Cdr). key z.session_id) (sym is)) (sym alike ∙ ap is_credit (sym is)) own)
      ]
      | inr stands ↦ elim (of_insert text_pair_total text_pair_exact m (cdr_key v) v (operator, j) y hy) [
        | inl (bt, is) ↦ absurd (no_other m v x i none quiet (subst (λ (o : List ℕ). get m (o, i) ≡ Some x) (ap (λ (k : List ℕ × List ℕ). k.0) bt) stands)
            (session ∙ ap (λ (z : Cdr). key z.session_id) (sym is)) (alike ∙ ap is_credit (sym is)) own)
        | inr also ↦ once operator i j x y stands also session alike
      ]
    ]

pub cdr_fits : (s : State) (v : Cdr) → key v.cdr_token.party ≡ key s.party → AreOwnCdrs s.rows.inbox.cdrs → get s.rows.inbox.cdrs (cdr_key v) ≡ None → (IsInConflict s.rows.inbox.cdrs v → ⊥) → IsFit s (row.Cdr v)
cdr_fits s v own at_own none quiet = record {
  may = tt;
  new = λ x h same. let (u, is, keyed) = is_cdr x v same in
      not_both u (get s.rows.inbox.cdrs (cdr_key v)) none (ap (get s.rows.inbox.cdrs) (sym keyed) ∙ subst (λ y. HasRow s.rows y) is h);
  whole = λ w. record {
    references = w.references;
    tokens = w.tokens;
    sessions = w.sessions;
    cdrs = λ u h. elim (of_insert text_pair_total text_pair_exact s.rows.inbox.cdrs (cdr_key v) v (cdr_key u) u h) [
      | inl new ↦ ap (λ (z : Cdr). key z.cdr_token.party) (sym new.1) ∙ own
      | inr stood ↦ w.cdrs u stood
    ];
    once = one_per_session s.rows.inbox.cdrs v at_own none quiet w.once;
  };
}

none_about : (m : Pushes) (o : Option Subject) (u : Subject) (q : ℕ) → IsReplaced m o None → o ≡ Some u → IsAbout m u q → ⊥
none_about m None u q h e about = absurd (cc)
none_about m (Some w) u q h e about = let same : w ≡ u = cc in h q (subst (λ (z : Subject). IsAbout m z q) (sym same) about)

pub push_fits : (s : State) (n : ℕ) (to : List ℕ) (push : Push) → IsFree s.rows.outbox n → HasPeer s.operators (key to) → IsReplaced s.rows.outbox.pushes (subject to push) None
    → IsFit s (row.Push n to push)
push_fits s n to push free peer alone = record {
  may = record {
    peer = peer;
    outbox = record {
      counted = free.counted;
      apart = free.no_command;
      alone = λ u q e about. absurd (none_about s.rows.outbox.pushes (subject to push) u q alone e about);
    };
  };
  new = λ x h same. let (at, v, is) = is_push x n same in
      not_both (record { to = at; push = v }) (get s.rows.outbox.pushes n) free.no_push (subst (λ y. HasRow s.rows y) is h);
  whole = λ w. record { references = w.references; tokens = w.tokens; sessions = w.sessions; cdrs = w.cdrs; once = w.once };
}

-- a reference that is the party's own has no other number
given_of : (s : State) (c : SentCommand) → party_at s.party ≡ Ok s.party → HasOwnReference s.party s.rows.desk.references c.command
    → IsGiven s.party s.rows.desk.references c.command
given_of s c party own r n is small same =
    let g = own r is in
    let one : g.number ≡ n = same_number _ s.party g.number n party g.own.is_number small (ap key (sym g.own.made) ∙ same) in
    subst (λ (m : ℕ). m ≤ s.rows.desk.references) one g.given

pub command_fits : (s : State) (n : ℕ) (c : SentCommand) → party_at s.party ≡ Ok s.party → IsFree s.rows.outbox n → HasPeer s.operators (key c.to)
    → HasOwnReference s.party s.rows.desk.references c.command → IsFit s (row.Command n c)
command_fits s n c party free peer own = record {
  may = record {
    peer = peer;
    given = given_of s c party own;
    outbox = record { counted = free.counted; apart = free.no_push };
    same_url = λ d stands. not_both d (get s.rows.outbox.commands n) free.no_command stands;
  };
  new = λ x h same. let (d, is) = is_command x n same in
      not_both d (get s.rows.outbox.commands n) free.no_command (subst (λ y. HasRow s.rows y) is h);
  whole = λ w. record {
    references = λ m d h r is. elim (of_insert nat_cmp_total nat_cmp-IsAntisymmetric s.rows.outbox.commands n c m d h) [
      | inl new ↦ let g = own r (ap (λ (z : SentCommand). reference_of z.command) new.1 ∙ is) in (g.number, g.own)
      | inr stood ↦ w.references m d stood r is
    ];
    tokens = w.tokens;
    sessions = w.sessions;
    cdrs = w.cdrs;
    once = w.once;
  };
}
