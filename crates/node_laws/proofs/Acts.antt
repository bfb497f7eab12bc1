-- What a node does at once, one thing each: it keeps a reply and sends it, sends it again, makes a request, sends a
-- request again, or lets one go that is settled. Each is a step; what does several is a step by `join`.
use Rattle.std.proofs.Common.{◌≡◌, ◌≢◌, ◌⊎◌, zero, suc, ℕ, ◌+◌, ◌≤◌, List, [], ◌∷◌, length, inl, inr, refl, sym, ap, subst, ◌∙◌, arith}
use Rattle.std.specs.Prelude.{Some, None, Contains, slice_get}
use Rattle.std.specs.Cmp.{nat_cmp_total}
use Rattle.std.specs.FinMap.{get, insert, nat_cmp-IsAntisymmetric}
use Rattle.ocpi_text.specs.Text.{key}
use Rattle.ocpi_types.specs.Stored.{body_of_reply}
use Rattle.ocpi_types.specs.declared.packet.Packet.{Packet}
use Rattle.ocpi_types.specs.declared.stored.Reply.{Reply}
use Rattle.tables.specs.Keys.{text_number_total, text_number_exact}
use Rattle.tables.proofs.Elements.{in_none, in_single}
use Rattle.tables.proofs.Maps.{get-insert_same, get-insert_other, told}
use Rattle.tables.proofs.Options.{not_both}
use Rattle.node_laws.specs.Nodes.{Node, Exchange, Request, request_of, Carries, CarriesStanding, IsOwn, IsReply, IsRepeated, IsNumbered, CountsPackets, IsAnswer, KeepsReplies, IsSettled, IsMade, KeepsRequests, AreGiven, NodeStep}
use Rattle.node_laws.proofs.Joining.{IsPart, answer_of_part, carry_one, settled_of_part, one_value}
use Rattle.node_laws.proofs.BodyKinds.{one_reply, reply_or_repeated}

abbrev pub sends_none : List Packet → Exchange
sends_none came = record { came = came; packets = [] }

abbrev pub sends_one : List Packet → Packet → Exchange
sends_one came x = record { came = came; packets = x ∷ [] }

-- the parties and their peers stay
pub record StaysAmong (s t : Node) : Type 0 where
  pub party : t.party ≡ s.party
  pub peers : t.peers ≡ s.peers

-- the requests that stand are the same
abbrev pub SameStanding : Node → Node → Type 0
SameStanding s t = (n : ℕ) → t.standing n ≡ s.standing n

module _ (s t : Node) (among : StaysAmong s t) (came : List Packet) where
  counts_none : t.serial ≡ s.serial → CountsPackets s (sends_none came) t
  counts_none serial = record { party = among.party; peers = among.peers; serial = omega (arith, serial); each = λ k x at. cc }

  counts_one : (x : Packet) → IsNumbered s 0 x → t.serial ≡ s.serial + 1 → CountsPackets s (sends_one came x) t
  counts_one x next serial = record { party = among.party; peers = among.peers; serial = omega (arith, serial); each = at_place }
    where
      at_place : (k : ℕ) (y : Packet) → slice_get (x ∷ []) k ≡ Some y → IsNumbered s k y
      at_place zero y at = subst (IsNumbered s 0) (one_value x y at) next
      at_place (suc k) y at = let bad : None ≡ Some y = at in absurd (cc)

module _ (s t : Node) where
  same_replies : (e : Exchange) → t.replies ≡ s.replies → ((x : Packet) (r : Reply) → Contains e.packets x → x.body ≡ body_of_reply r → get s.replies (key x.to, x.request) ≡ Some r) → KeepsReplies s e t
  same_replies e same sent = record {
    stay = λ k r has. subst (λ m. get m k ≡ Some r) (sym same) has;
    answer = λ p n r has. inl (subst (λ m. get m (p, n) ≡ Some r) same has);
    kept = λ x r i is. subst (λ m. get m (key x.to, x.request) ≡ Some r) (sym same) (sent x r i is);
  }

  -- what stood still stands
  still_carries : SameStanding s t → (x : Packet) → CarriesStanding s x → CarriesStanding t x
  still_carries same x (r, stood, carries) = (r, same x.request ∙ stood, carries)

  -- what is sent stood
  same_requests : (e : Exchange) → SameStanding s t → ((x : Packet) → Contains e.packets x → Contains s.peers x.to) → ((x : Packet) → Contains e.packets x → ¬ IsReply x.body → CarriesStanding s x) → KeepsRequests s e t
  same_requests e same peer stood = record {
    to_peer = peer;
    own = λ x i apart. inl (stood x i apart);
    one = λ x y i j x_apart y_apart equal.
        let mine = stood x i x_apart in
        let other = stood y j y_apart in
        carry_one x y mine.0 other.0 mine.2 other.2 (one_value mine.0 other.0 (sym mine.1 ∙ ap s.standing equal ∙ other.1));
    made = λ n r has. inl (sym (same n) ∙ has);
    stays = λ n r has. inl (same n ∙ has);
    stands = λ x i repeated. inl (still_carries same x (stood x i (λ is. reply_or_repeated x.body is repeated)));
  }

-- nothing is sent, and nothing changes that others can tell
pub quiet_step : (s t : Node) (came : List Packet) → StaysAmong s t → t.serial ≡ s.serial → t.last ≡ s.last → t.replies ≡ s.replies → SameStanding s t → NodeStep s (sends_none came) t
quiet_step s t came among serial last replies standing = record {
  counts = counts_none s t among came serial;
  replies = same_replies s t (sends_none came) replies (λ x r i is. absurd (in_none x i));
  rises = omega (arith, last);
  asks = λ given. same_requests s t (sends_none came) standing (λ x i. absurd (in_none x i)) (λ x i apart. absurd (in_none x i));
}

-- a reply that is kept, or is kept from now on, is sent
module _ (s t : Node) (came : List Packet) (x : Packet) (r : Reply) (among : StaysAmong s t) (next : IsNumbered s 0 x) (peer : Contains s.peers x.to) (is : x.body ≡ body_of_reply r)
    (serial : t.serial ≡ s.serial + 1) (last : t.last ≡ s.last) (standing : SameStanding s t) where
  reply_step : KeepsReplies s (sends_one came x) t → NodeStep s (sends_one came x) t
  reply_step keeps = record {
    counts = counts_one s t among came x next serial;
    replies = keeps;
    rises = omega (arith, last);
    asks = λ given. same_requests s t (sends_one came x) standing (λ y i. subst (λ (z : Packet). Contains s.peers z.to) (in_single x y i) peer) (λ y i apart. absurd (apart (r, subst (λ (z : Packet). z.body ≡ body_of_reply r) (in_single x y i) is)));
  }

  same_reply : (y : Packet) (q : Reply) → Contains (x ∷ []) y → y.body ≡ body_of_reply q → (x.body ≡ body_of_reply q) × (x ≡ y)
  same_reply y q i named = (ap (λ (z : Packet). z.body) (in_single x y i) ∙ named, in_single x y i)

  pub again_step : t.replies ≡ s.replies → get s.replies (key x.to, x.request) ≡ Some r → NodeStep s (sends_one came x) t
  again_step same has = reply_step (same_replies s t (sends_one came x) same (λ y q i named.
      let which = same_reply y q i named in
      subst (λ (z : Packet). get s.replies (key z.to, z.request) ≡ Some q) which.1 (has ∙ ap Some (sym (one_reply q r (sym which.0 ∙ is))))))

  pub answer_step : (p : List ℕ) → key x.to ≡ p → get s.replies (p, x.request) ≡ None → t.replies ≡ insert s.replies (p, x.request) r →
      IsAnswer (sends_one came x) p x.request r → NodeStep s (sends_one came x) t
  answer_step p to new replies answers = reply_step (record {
    stay = λ k q has. subst (λ m. get m k ≡ Some q) (sym replies) (get-insert_other text_number_total text_number_exact s.replies (p, x.request) r k
        (λ same. not_both q (get s.replies k) (ap (get s.replies) same ∙ new) has) ∙ has);
    answer = λ q n z has. elim (told text_number_total text_number_exact (q, n) (p, x.request)) [
      | inl same ↦ inr (this q n z same (sym (get-insert_same text_number_total text_number_exact s.replies (p, x.request) r) ∙ ap (get (insert s.replies (p, x.request) r)) (sym same) ∙ subst (λ m. get m (q, n) ≡ Some z) replies has))
      | inr apart ↦ inl (sym (get-insert_other text_number_total text_number_exact s.replies (p, x.request) r (q, n) apart) ∙ subst (λ m. get m (q, n) ≡ Some z) replies has)
    ];
    kept = λ y q i named.
        let which = same_reply y q i named in
        subst (λ (z : Packet). get t.replies (key z.to, z.request) ≡ Some q) which.1 (
        ap (λ m. get m (key x.to, x.request)) replies ∙ ap (λ z. get (insert s.replies (p, x.request) r) (z, x.request)) to
        ∙ get-insert_same text_number_total text_number_exact s.replies (p, x.request) r ∙ ap Some (sym (one_reply q r (sym which.0 ∙ is))));
  })
    where
      this : (q : List ℕ) (n : ℕ) (z : Reply) → ◌≡◌ {A = List ℕ × ℕ} (q, n) (p, x.request) → Some r ≡ Some z → IsAnswer (sends_one came x) q n z
      this q n z same equal = subst (λ (k : List ℕ × ℕ). IsAnswer (sends_one came x) k.0 k.1 z) (sym same) (subst (IsAnswer (sends_one came x) p x.request) (one_value r z equal) answers)

-- a request of its own is sent
module _ (s t : Node) (came : List Packet) (x : Packet) (among : StaysAmong s t) (next : IsNumbered s 0 x) (apart : ¬ IsReply x.body) (serial : t.serial ≡ s.serial + 1) (replies : t.replies ≡ s.replies) where
  request_step : s.last ≤ t.last → (AreGiven s → KeepsRequests s (sends_one came x) t) → NodeStep s (sends_one came x) t
  request_step rises asks = record {
    counts = counts_one s t among came x next serial;
    replies = same_replies s t (sends_one came x) replies (λ y r i is. absurd (apart (r, ap (λ (z : Packet). z.body) (in_single x y i) ∙ is)));
    rises = rises;
    asks = asks;
  }

  -- it stood
  pub resend_step : t.last ≡ s.last → SameStanding s t → CarriesStanding s x → (AreGiven s → Contains s.peers x.to) → NodeStep s (sends_one came x) t
  resend_step last standing stood peer = request_step (omega (arith, last)) (λ given. same_requests s t (sends_one came x) standing (λ y i. subst (λ (z : Packet). Contains s.peers z.to) (in_single x y i) (peer given))
      (λ y i other. subst (CarriesStanding s) (in_single x y i) stood))

  -- each packet of the one is that one
  itself : (y z : Packet) → Contains (x ∷ []) y → Contains (x ∷ []) z → Carries y (request_of z)
  itself y z i j = subst (λ (q : Packet). Carries q (request_of z)) (in_single x y i) (subst (λ (q : Packet). Carries x (request_of q)) (in_single x z j) (record { to = refl; body = refl }))

  -- it is new, and stands from now on; another that is about the same may end
  pub request_new_step : Contains s.peers x.to → t.last ≡ s.last + 1 → x.request ≡ s.last + 1 → t.standing x.request ≡ Some (request_of x) →
      ((n : ℕ) (r : Request) → n ≢ x.request → s.standing n ≡ Some r → (t.standing n ≡ Some r) ⊎ IsSettled (sends_one came x) n r) →
      ((n : ℕ) (r : Request) → n ≢ x.request → t.standing n ≡ Some r → s.standing n ≡ Some r) → NodeStep s (sends_one came x) t
  request_new_step peer last number stands stay old = request_step (omega (arith, last)) (λ given. record {
    to_peer = λ y i. subst (λ (z : Packet). Contains s.peers z.to) (in_single x y i) peer;
    own = λ y i other. subst (IsOwn s t) (in_single x y i) (inr (omega (arith, number), omega (arith, number, last)));
    one = λ y z i j y_apart z_apart equal. itself y z i j;
    made = λ n r has. made_by n r has;
    stays = λ n r has. stay n r (λ same. let below = (given n r has).below in absurd (omega (arith, below, same, number))) has;
    stands = λ y i repeated. inl (subst (CarriesStanding t) (in_single x y i) (request_of x, stands, record { to = refl; body = refl }));
  })
    where
      made_at : (n : ℕ) (r : Request) → t.standing n ≡ Some r → n ≡ x.request → IsMade s (sends_one came x) t n r
      made_at n r has same = record {
        above = omega (arith, same, number);
        given = omega (arith, same, number, last);
        packet = x;
        was_sent = (zero, omega arith, refl);
        number = sym same;
        request = one_value (request_of x) r (sym stands ∙ ap t.standing (sym same) ∙ has);
      }

      made_by : (n : ℕ) (r : Request) → t.standing n ≡ Some r → (s.standing n ≡ Some r) ⊎ IsMade s (sends_one came x) t n r
      made_by n r has = elim (told nat_cmp_total nat_cmp-IsAntisymmetric n x.request) [ inl same ↦ inr (made_at n r has same) | inr other ↦ inl (old n r other has) ]

  -- it is new, and is sent once
  pub ask_step : Contains s.peers x.to → t.last ≡ s.last + 1 → x.request ≡ s.last + 1 → ¬ IsRepeated x.body → SameStanding s t → NodeStep s (sends_one came x) t
  ask_step peer last number once standing = request_step (omega (arith, last)) (λ given. record {
    to_peer = λ y i. subst (λ (z : Packet). Contains s.peers z.to) (in_single x y i) peer;
    own = λ y i other. subst (IsOwn s t) (in_single x y i) (inr (omega (arith, number), omega (arith, number, last)));
    one = λ y z i j y_apart z_apart equal. itself y z i j;
    made = λ n r has. inl (sym (standing n) ∙ has);
    stays = λ n r has. inl (standing n ∙ has);
    stands = λ y i repeated. absurd (once (subst (λ (z : Packet). IsRepeated z.body) (sym (in_single x y i)) repeated));
  })

-- a request that is settled stands no more
pub settle_step : (s t : Node) (came : List Packet) → StaysAmong s t → t.serial ≡ s.serial → t.last ≡ s.last → t.replies ≡ s.replies → (m : ℕ) →
    ((n : ℕ) → n ≢ m → t.standing n ≡ s.standing n) → t.standing m ≡ None → ((r : Request) → s.standing m ≡ Some r → IsSettled (sends_none came) m r) → NodeStep s (sends_none came) t
settle_step s t came among serial last replies m other none settled = record {
  counts = counts_none s t among came serial;
  replies = same_replies s t (sends_none came) replies (λ x r i is. absurd (in_none x i));
  rises = omega (arith, last);
  asks = λ given. record {
    to_peer = λ x i. absurd (in_none x i);
    own = λ x i apart. absurd (in_none x i);
    one = λ x y i j x_apart y_apart same. absurd (in_none x i);
    made = λ n r has. elim (told nat_cmp_total nat_cmp-IsAntisymmetric n m) [
      | inl same ↦ absurd (not_both r (t.standing m) none (ap t.standing (sym same) ∙ has))
      | inr apart ↦ inl (sym (other n apart) ∙ has)
    ];
    stays = λ n r has. elim (told nat_cmp_total nat_cmp-IsAntisymmetric n m) [
      | inl same ↦ inr (subst (λ k. IsSettled (sends_none came) k r) (sym same) (settled r (ap s.standing (sym same) ∙ has)))
      | inr apart ↦ inl (other n apart ∙ has)
    ];
    stands = λ x i repeated. absurd (in_none x i);
  };
}

-- more came than a step is said to take
pub wider_step : (s t : Node) (e f : Exchange) → e.packets ≡ f.packets → ((q : Packet) → Contains e.came q → Contains f.came q) → NodeStep s e t → NodeStep s f t
wider_step s t e f same came h = record {
  counts = record {
    party = h.counts.party;
    peers = h.counts.peers;
    serial = h.counts.serial ∙ ap (λ (l : List Packet). s.serial + length l) same;
    each = λ k x at. h.counts.each k x (subst (λ l. slice_get l k ≡ Some x) (sym same) at);
  };
  replies = record {
    stay = h.replies.stay;
    answer = λ p n r has. elim (h.replies.answer p n r has) [ inl old ↦ inl old | inr new ↦ inr (answer_of_part e f part p n r new) ];
    kept = λ x r i is. h.replies.kept x r (back x i) is;
  };
  rises = h.rises;
  asks = λ given. let asks = h.asks given in record {
    to_peer = λ x i. asks.to_peer x (back x i);
    own = λ x i apart. asks.own x (back x i) apart;
    one = λ x y i j x_apart y_apart equal. asks.one x y (back x i) (back y j) x_apart y_apart equal;
    made = λ n r has. elim (asks.made n r has) [
      | inl old ↦ inl old
      | inr made ↦ inr (record { above = made.above; given = made.given; packet = made.packet; was_sent = part.packets made.packet made.was_sent; number = made.number; request = made.request })
    ];
    stays = λ n r has. elim (asks.stays n r has) [ inl stands ↦ inl stands | inr settled ↦ inr (settled_of_part e f part n r settled) ];
    stands = λ x i repeated. elim (asks.stands x (back x i) repeated) [ inl stands ↦ inl stands | inr settled ↦ inr (settled_of_part e f part x.request (request_of x) settled) ];
  };
}
  where
    back : (x : Packet) → Contains f.packets x → Contains e.packets x
    back x i = subst (λ l. Contains l x) (sym same) i

    part : IsPart e f
    part = record { came = came; packets = λ x i. subst (λ l. Contains l x) same i }
