-- What holds at all times of the tokens, the sessions and the charge detail records is kept by each change of a row
-- that may be made.
use Rattle.std.proofs.Common.{◌≡◌, inl, inr, ℕ, List, sym, ap, subst, ◌∙◌}
use Rattle.std.specs.Prelude.{Some}
use Rattle.std.specs.FinMap.{get, get-empty}
use Rattle.ocpi_text.specs.Text.{key}
use Rattle.tables.specs.Keys.{text_cmp, text_total, text_exact}
use Rattle.tables.proofs.Maps.{of_insert}
use Rattle.tables.proofs.Options.{none_some}
use Rattle.ocpi_types.specs.declared.rows.Row.TheVariants as row
use Rattle.ocpi_types.specs.declared.rows.Counter.TheVariants as counter
use Rattle.ocpi_types.specs.declared.cdrs.Cdr.{Cdr}
use Rattle.ocpi_types.specs.declared.sessions.Session.{Session}
use Rattle.ocpi_types.specs.declared.site.SiteLine.{SiteLine}
use Rattle.ocpi_types.specs.declared.token.Token.{Token}
use Rattle.authorization_book.specs.Waits.{Waits}
use Rattle.authorization_book.specs.declared.awaited.Awaited.{Awaited}
use Rattle.outbox.specs.Resend.{Resend}
use Rattle.outbox.proofs.Timing.{put_or, has_none}
use Rattle.node_steps.specs.Peers.{HasPeer}
use Rattle.session_book.specs.Stored as charged
use Rattle.session_book.specs.Numbers.{AreNumbered}
use Rattle.token_desk.specs.Tokens as desk
use Rattle.token_desk.specs.Tokens.{TokenKey, token_cmp, token_key}
use Rattle.token_desk.specs.TypeOrder.{tokens_total, tokens_exact}
use Rattle.operator_rows.specs.State.{State, Rows, opening}
use Rattle.operator_rows.specs.Stored.{put_row}
use Rattle.operator_rows.specs.Sound.{IsSound, MayAwait, MayStand, MayPutToken, MayPutSession, MayPutCdr, MayPutNumber, with_rows}

-- what of it is of the tokens, the sessions and the charge detail records
pub record AreCharged (s : State) : Type 0 where
  pub tokens_keyed : desk.AreKeyed s.rows.tokens
  pub charged_keyed : charged.AreKeyed s.rows.charged
  pub tokens : (k : TokenKey) (t : Token) → get s.rows.tokens k ≡ Some t → HasPeer s.providers (key t.party)
  pub sessions : (id : List ℕ) (v : Session) → get s.rows.charged.sessions id ≡ Some v → MayStand s v
  pub cdrs : (id : List ℕ) (x : Cdr) → get s.rows.charged.cdrs id ≡ Some x → key x.party ≡ key s.party
  pub numbered : AreNumbered s.party s.rows.charged

pub charged_of : (s : State) → IsSound s → AreCharged s
charged_of s h = record { tokens_keyed = h.tokens_keyed; charged_keyed = h.charged_keyed; tokens = h.tokens; sessions = h.sessions; cdrs = h.cdrs; numbered = h.numbered }

-- before the first event
pub opening_charged : (line : SiteLine) → AreCharged (opening line)
opening_charged line = record {
  tokens_keyed = λ k t has. none_some t (sym (get-empty token_cmp k) ∙ has);
  charged_keyed = record { sessions = λ id v has. none_some v (sym (get-empty text_cmp id) ∙ has); cdrs = λ id x has. none_some x (sym (get-empty text_cmp id) ∙ has) };
  tokens = λ k t has. none_some t (sym (get-empty token_cmp k) ∙ has);
  sessions = λ id v has. none_some v (sym (get-empty text_cmp id) ∙ has);
  cdrs = λ id x has. none_some x (sym (get-empty text_cmp id) ∙ has);
  numbered = record { sessions = λ n below has. absurd (has_none Session text_cmp _ has); cdrs = λ n below has. absurd (has_none Cdr text_cmp _ has) };
}

-- whether a session may stand is a matter of the parties and the site
pub stands_still : (s : State) (rows : Rows) (m : Resend) (w : Waits) (v : Session) → MayStand s v → MayStand (record s { rows = rows; resend = m; waits = w }) v
stands_still s rows m w v h = record { own = h.own; going = λ live. let g = h.going live in record { provider = g.provider; place = g.place; currency = g.currency; priced = g.priced; uncharged = g.uncharged } }

-- and so is whether an authorization may be awaited
pub awaits_still : (s : State) (rows : Rows) (m : Resend) (w : Waits) (a : Awaited) → MayAwait s a → MayAwait (record s { rows = rows; resend = m; waits = w }) a
awaits_still s rows m w a h = record { provider = h.provider; place = h.place }

module _ (s : State) (h : AreCharged s) where
  -- with the same tokens, sessions and charge detail records
  pub charged_same : (rows : Rows) (m : Resend) (w : Waits) → s.rows.tokens ≡ rows.tokens → s.rows.charged ≡ rows.charged → AreCharged (record s { rows = rows; resend = m; waits = w })
  charged_same rows m w a b = record {
    tokens_keyed = subst desk.AreKeyed a h.tokens_keyed;
    charged_keyed = subst charged.AreKeyed b h.charged_keyed;
    tokens = λ k t has. h.tokens k t (ap (λ m. get m k) a ∙ has);
    sessions = λ id v has. stands_still s rows m w v (h.sessions id v (ap (λ (c : charged.Rows). get c.sessions id) b ∙ has));
    cdrs = λ id x has. h.cdrs id x (ap (λ (c : charged.Rows). get c.cdrs id) b ∙ has);
    numbered = subst (AreNumbered s.party) b h.numbered;
  }

  pub charged_token : (t : Token) → MayPutToken s t → AreCharged (with_rows (put_row (row.Token t) s.rows) s)
  charged_token t may = record {
    tokens_keyed = λ k u has. elim (of_insert tokens_total tokens_exact s.rows.tokens (token_key t) t k u has) [ inl new ↦ new.0 ∙ ap token_key new.1 | inr was ↦ h.tokens_keyed k u was ];
    charged_keyed = h.charged_keyed;
    tokens = λ k u has. elim (of_insert tokens_total tokens_exact s.rows.tokens (token_key t) t k u has) [
      | inl new ↦ subst (λ (x : Token). HasPeer s.providers (key x.party)) new.1 may
      | inr was ↦ h.tokens k u was
    ];
    sessions = λ id v has. stands_still s (put_row (row.Token t) s.rows) s.resend s.waits v (h.sessions id v has);
    cdrs = h.cdrs;
    numbered = h.numbered;
  }

  pub charged_session : (v : Session) → MayPutSession s v → AreCharged (with_rows (put_row (row.Session v) s.rows) s)
  charged_session v may = record {
    tokens_keyed = h.tokens_keyed;
    charged_keyed = record {
      sessions = λ id w has. elim (of_insert text_total text_exact s.rows.charged.sessions (key v.id) v id w has) [
        | inl new ↦ new.0 ∙ ap (λ (x : Session). key x.id) new.1
        | inr was ↦ h.charged_keyed.sessions id w was
      ];
      cdrs = h.charged_keyed.cdrs;
    };
    tokens = h.tokens;
    sessions = λ id w has. stands_still s (put_row (row.Session v) s.rows) s.resend s.waits w (elim (of_insert text_total text_exact s.rows.charged.sessions (key v.id) v id w has) [
      | inl new ↦ subst (MayStand s) new.1 may.stands
      | inr was ↦ h.sessions id w was
    ]);
    cdrs = h.cdrs;
    numbered = record {
      sessions = λ n below has. elim (put_or text_total text_exact s.rows.charged.sessions (key v.id) v _ has) [ inl same ↦ may.number n below same | inr was ↦ h.numbered.sessions n below was.1 ];
      cdrs = h.numbered.cdrs;
    };
  }

  pub charged_cdr : (x : Cdr) → MayPutCdr s x → AreCharged (with_rows (put_row (row.Cdr x) s.rows) s)
  charged_cdr x may = record {
    tokens_keyed = h.tokens_keyed;
    charged_keyed = record {
      sessions = h.charged_keyed.sessions;
      cdrs = λ id y has. elim (of_insert text_total text_exact s.rows.charged.cdrs (key x.id) x id y has) [
        | inl new ↦ new.0 ∙ ap (λ (z : Cdr). key z.id) new.1
        | inr was ↦ h.charged_keyed.cdrs id y was
      ];
    };
    tokens = h.tokens;
    sessions = λ id v has. stands_still s (put_row (row.Cdr x) s.rows) s.resend s.waits v (h.sessions id v has);
    cdrs = λ id y has. elim (of_insert text_total text_exact s.rows.charged.cdrs (key x.id) x id y has) [
      | inl new ↦ subst (λ (z : Cdr). key z.party ≡ key s.party) new.1 may.own
      | inr was ↦ h.cdrs id y was
    ];
    numbered = record {
      sessions = h.numbered.sessions;
      cdrs = λ n below has. elim (put_or text_total text_exact s.rows.charged.cdrs (key x.id) x _ has) [ inl same ↦ may.number n below same | inr was ↦ h.numbered.cdrs n below was.1 ];
    };
  }

  pub charged_session_count : (n : ℕ) → MayPutNumber s counter.Session n → AreCharged (with_rows (put_row (row.Count counter.Session n) s.rows) s)
  charged_session_count n may = record {
    tokens_keyed = h.tokens_keyed;
    charged_keyed = record { sessions = h.charged_keyed.sessions; cdrs = h.charged_keyed.cdrs };
    tokens = h.tokens;
    sessions = λ id v has. stands_still s (put_row (row.Count counter.Session n) s.rows) s.resend s.waits v (h.sessions id v has);
    cdrs = h.cdrs;
    numbered = may.numbered;
  }

  pub charged_cdr_count : (n : ℕ) → MayPutNumber s counter.Cdr n → AreCharged (with_rows (put_row (row.Count counter.Cdr n) s.rows) s)
  charged_cdr_count n may = record {
    tokens_keyed = h.tokens_keyed;
    charged_keyed = record { sessions = h.charged_keyed.sessions; cdrs = h.charged_keyed.cdrs };
    tokens = h.tokens;
    sessions = λ id v has. stands_still s (put_row (row.Count counter.Cdr n) s.rows) s.resend s.waits v (h.sessions id v has);
    cdrs = h.cdrs;
    numbered = may.numbered;
  }
