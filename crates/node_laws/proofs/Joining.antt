-- Two steps of a node are one, by both exchanges.
use Rattle.std.proofs.Common.{◌≡◌, ◌⊎◌, ℕ, ◌≤◌, List, [], inl, inr, refl, sym, ap, subst, ◌∙◌, arith, length-append}
use Rattle.std.specs.Prelude.{Some, Contains}
use Rattle.std.proofs.lemmas.List.Elements.{Contains-append_cases, Contains-append_left, Contains-append_right}
use Rattle.ocpi_text.specs.Text.{key}
use Rattle.ocpi_types.specs.declared.packet.Packet.{Packet}
use Rattle.ocpi_types.specs.declared.stored.Reply.{Reply}
use Rattle.tables.proofs.Elements.{in_none}
use Rattle.node_laws.specs.Nodes.{Node, Exchange, Request, both, request_of, AreAboutSame, Carries, CarriesStanding, IsReply, IsRepeated, CountsPackets, IsAnswer, KeepsReplies, IsSettled, Acknowledged, Replaced, Responded, Resulted, Sessions, Tokens, IsMade, IsOwn, KeepsRequests, AreGiven, NodeStep}
use Rattle.node_laws.proofs.Lists.{in_joined}

-- all of the first exchange is in the second
pub record IsPart (e f : Exchange) : Type 0 where
  pub came : (q : Packet) → Contains e.came q → Contains f.came q
  pub packets : (x : Packet) → Contains e.packets x → Contains f.packets x

module _ (e f : Exchange) (part : IsPart e f) where
  pub answer_of_part : (p : List ℕ) (n : ℕ) (r : Reply) → IsAnswer e p n r → IsAnswer f p n r
  answer_of_part p n r h = record { packet = h.packet; came = part.came h.packet h.came; from = h.from; number = h.number; answers = h.answers }

  pub settled_of_part : (n : ℕ) (r : Request) → IsSettled e n r → IsSettled f n r
  settled_of_part n r (Acknowledged q came a is done from number) = Acknowledged q (part.came q came) a is done from number
  settled_of_part n r (Replaced x sent above same) = Replaced x (part.packets x sent) above same
  settled_of_part n r (Responded c carried q came w is from number) = Responded c carried q (part.came q came) w is from number
  settled_of_part n r (Resulted c carried q came w is from url) = Resulted c carried q (part.came q came) w is from url

-- the numbers of what stands after a step were given
pub given_after : (s t : Node) (e : Exchange) → NodeStep s e t → AreGiven s → AreGiven t
given_after s t e h given n r has = elim ((h.asks given).made n r has) [
  | inl old ↦ let was = given n r old in record { below = let below = was.below in let rises = h.rises in omega (arith, below, rises); peer = subst (λ l. Contains l r.to) (sym h.counts.peers) was.peer }
  | inr made ↦ record {
    below = made.given;
    peer = subst (λ l. Contains l r.to) (sym h.counts.peers) (subst (λ (q : Request). Contains s.peers q.to) made.request ((h.asks given).to_peer made.packet made.was_sent));
  }
]

pub one_value : {X : Type 0} (x y : X) → Some x ≡ Some y → x ≡ y
one_value x y e = cc

-- packets that carry one request
pub carries_equal : (x : Packet) (q r : Request) → Carries x q → q ≡ r → Carries x r
carries_equal x q r h same = subst (Carries x) same h

pub carries_back : (x y : Packet) → Carries x (request_of y) → Carries y (request_of x)
carries_back x y h = record { to = sym h.to; body = sym h.body }

pub carry_one : (x y : Packet) (q r : Request) → Carries x q → Carries y r → q ≡ r → Carries x (request_of y)
carry_one x y q r h g same = record {
  to = h.to ∙ ap (λ (z : Request). key z.to) same ∙ sym g.to;
  body = h.body ∙ ap (λ (z : Request). z.body) same ∙ sym g.body;
}

-- what settles a request settles what a packet that carries it asks
module _ (e : Exchange) (n : ℕ) (x : Packet) (r : Request) (h : Carries x r) where
  about_carried : (q : Request) → AreAboutSame r q → AreAboutSame (request_of x) q
  about_carried q (Sessions a b is other party id) = Sessions a b (h.body ∙ is) other party id
  about_carried q (Tokens a b is other to party type uid) = Tokens a b (h.body ∙ is) other (h.to ∙ to) party type uid

  pub settled_carried : IsSettled e n r → IsSettled e n (request_of x)
  settled_carried (Acknowledged q came a is done from number) = Acknowledged q came a is done (from ∙ sym h.to) number
  settled_carried (Replaced y sent above same) = Replaced y sent above (about_carried (request_of y) same)
  settled_carried (Responded c carried q came w is from number) = Responded c (h.body ∙ carried) q came w is (from ∙ sym h.to) number
  settled_carried (Resulted c carried q came w is from url) = Resulted c (h.body ∙ carried) q came w is (from ∙ sym h.to) url

module _ (s u t : Node) (e f : Exchange) (h : NodeStep s e u) (g : NodeStep u f t) where
  left : IsPart e (both e f)
  left = record { came = λ q i. Contains-append_left e.came f.came q i; packets = λ x i. Contains-append_left e.packets f.packets x i }

  right : IsPart f (both e f)
  right = record { came = λ q i. Contains-append_right e.came f.came q i; packets = λ x i. Contains-append_right e.packets f.packets x i }

  in_both : (x : Packet) → Contains (both e f).packets x → Contains e.packets x ⊎ Contains f.packets x
  in_both x i = Contains-append_cases e.packets f.packets x i

  counts_both : CountsPackets s (both e f) t
  counts_both = record {
    party = g.counts.party ∙ h.counts.party;
    peers = g.counts.peers ∙ h.counts.peers;
    serial = let first = h.counts.serial in let then = g.counts.serial in let more = length-append e.packets f.packets in omega (arith, first, then, more);
    each = λ k x at. elim (in_joined e.packets f.packets k x at) [
      | inl here ↦ h.counts.each k x here
      | inr (j, is, there) ↦ let later = g.counts.each j x there in record {
        from = later.from ∙ h.counts.party;
        serial = let behind = later.serial in let first = h.counts.serial in omega (arith, behind, first, is);
      }
    ];
  }

  replies_both : KeepsReplies s (both e f) t
  replies_both = record {
    stay = λ k r has. g.replies.stay k r (h.replies.stay k r has);
    answer = λ p n r has. elim (g.replies.answer p n r has) [
      | inl before ↦ elim (h.replies.answer p n r before) [ inl old ↦ inl old | inr new ↦ inr (answer_of_part e (both e f) left p n r new) ]
      | inr new ↦ inr (answer_of_part f (both e f) right p n r new)
    ];
    kept = λ x r i is. elim (in_both x i) [ inl here ↦ g.replies.stay (key x.to, x.request) r (h.replies.kept x r here is) | inr there ↦ g.replies.kept x r there is ];
  }

  module _ (given : AreGiven s) where
    first : KeepsRequests s e u
    first = h.asks given

    then : KeepsRequests u f t
    then = g.asks (given_after s u e h given)

    -- what stands in between stood at first, or was made first
    own_before : (x : Packet) → CarriesStanding u x → IsOwn s t x
    own_before x (r, stands, carries) = elim (first.made x.request r stands) [
      | inl old ↦ inl (r, old, carries)
      | inr made ↦ inr (made.above, let below = made.given in let rises = g.rises in omega (arith, below, rises))
    ]

    own_both : (x : Packet) → Contains (both e f).packets x → ¬ IsReply x.body → IsOwn s t x
    own_both x i apart = elim (in_both x i) [
      | inl here ↦ elim (first.own x here apart) [ inl old ↦ inl old | inr (above, below) ↦ inr (above, let rises = g.rises in omega (arith, below, rises)) ]
      | inr there ↦ elim (then.own x there apart) [ inl stands ↦ own_before x stands | inr (above, below) ↦ inr (let rises = h.rises in omega (arith, above, rises), below) ]
    ]

    below_first : (x : Packet) → Contains e.packets x → ¬ IsReply x.body → x.request ≤ u.last
    below_first x here apart = elim (first.own x here apart) [
      | inl old ↦ let below = (given x.request old.0 old.1).below in let rises = h.rises in omega (arith, below, rises)
      | inr (above, below) ↦ below
    ]

    -- a request of the first exchange, and one of the second under the same number that stood in between
    agree_before : (x y : Packet) → Contains e.packets x → ¬ IsReply x.body → ¬ IsReply y.body → x.request ≡ y.request → CarriesStanding u y → Carries x (request_of y)
    agree_before x y here no_x no_y same (r, stands, carries) = elim (first.made y.request r stands) [
      | inl old ↦ elim (first.own x here no_x) [
        | inl mine ↦ carry_one x y mine.0 r mine.2 carries (one_value mine.0 r (sym mine.1 ∙ ap s.standing same ∙ old))
        | inr (above, below) ↦ absurd (let given_y = (given y.request r old).below in omega (arith, above, same, given_y))
      ]
      | inr made ↦
          let no_made : ¬ IsReply made.packet.body = λ is. no_y (subst IsReply (ap (λ (z : Request). z.body) made.request ∙ sym carries.body) is) in
          carry_one x y r r (carries_equal x (request_of made.packet) r (first.one x made.packet here made.was_sent no_x no_made (same ∙ sym made.number)) made.request) carries refl
    ]

    agree_across : (x y : Packet) → Contains e.packets x → Contains f.packets y → ¬ IsReply x.body → ¬ IsReply y.body → x.request ≡ y.request → Carries x (request_of y)
    agree_across x y here there no_x no_y same = elim (then.own y there no_y) [
      | inl stands ↦ agree_before x y here no_x no_y same stands
      | inr (above, below) ↦ absurd (let before = below_first x here no_x in omega (arith, above, before, same))
    ]

    agree_both : (x y : Packet) → Contains (both e f).packets x → Contains (both e f).packets y → ¬ IsReply x.body → ¬ IsReply y.body → x.request ≡ y.request → Carries x (request_of y)
    agree_both x y i j no_x no_y same = elim (in_both x i) [
      | inl x_here ↦ elim (in_both y j) [ inl y_here ↦ first.one x y x_here y_here no_x no_y same | inr y_there ↦ agree_across x y x_here y_there no_x no_y same ]
      | inr x_there ↦ elim (in_both y j) [ inl y_here ↦ carries_back y x (agree_across y x y_here x_there no_y no_x (sym same)) | inr y_there ↦ then.one x y x_there y_there no_x no_y same ]
    ]

    made_both : (n : ℕ) (r : Request) → t.standing n ≡ Some r → (s.standing n ≡ Some r) ⊎ IsMade s (both e f) t n r
    made_both n r has = elim (then.made n r has) [
      | inl before ↦ elim (first.made n r before) [
        | inl old ↦ inl old
        | inr made ↦ inr (record {
          above = made.above;
          given = let below = made.given in let rises = g.rises in omega (arith, below, rises);
          packet = made.packet;
          was_sent = left.packets made.packet made.was_sent;
          number = made.number;
          request = made.request;
        })
      ]
      | inr made ↦ inr (record {
        above = let above = made.above in let rises = h.rises in omega (arith, above, rises);
        given = made.given;
        packet = made.packet;
        was_sent = right.packets made.packet made.was_sent;
        number = made.number;
        request = made.request;
      })
    ]

    stays_then : (n : ℕ) (r : Request) → (u.standing n ≡ Some r) ⊎ IsSettled e n r → (t.standing n ≡ Some r) ⊎ IsSettled (both e f) n r
    stays_then n r (inl stands) = elim (then.stays n r stands) [ inl still ↦ inl still | inr settled ↦ inr (settled_of_part f (both e f) right n r settled) ]
    stays_then n r (inr settled) = inr (settled_of_part e (both e f) left n r settled)

    -- what stood in between, and what a packet that carries it asks
    carried_then : (x : Packet) → CarriesStanding u x → CarriesStanding t x ⊎ IsSettled (both e f) x.request (request_of x)
    carried_then x (r, stands, carries) = elim (stays_then x.request r (inl stands)) [
      | inl still ↦ inl (r, still, carries)
      | inr settled ↦ inr (settled_carried (both e f) x.request x r carries settled)
    ]

    stands_both : (x : Packet) → Contains (both e f).packets x → IsRepeated x.body → CarriesStanding t x ⊎ IsSettled (both e f) x.request (request_of x)
    stands_both x i repeated = elim (in_both x i) [
      | inl here ↦ elim (first.stands x here repeated) [
        | inl stands ↦ carried_then x stands
        | inr settled ↦ inr (settled_of_part e (both e f) left x.request (request_of x) settled)
      ]
      | inr there ↦ elim (then.stands x there repeated) [ inl still ↦ inl still | inr settled ↦ inr (settled_of_part f (both e f) right x.request (request_of x) settled) ]
    ]

    to_both : (x : Packet) → Contains (both e f).packets x → Contains s.peers x.to
    to_both x i = elim (in_both x i) [ inl here ↦ first.to_peer x here | inr there ↦ subst (λ l. Contains l x.to) h.counts.peers (then.to_peer x there) ]

    asks_both : KeepsRequests s (both e f) t
    asks_both = record { to_peer = to_both; own = own_both; one = agree_both; made = made_both; stays = λ n r has. stays_then n r (first.stays n r has); stands = stands_both }

  pub join : NodeStep s (both e f) t
  join = record { counts = counts_both; replies = replies_both; rises = let first = h.rises in let then = g.rises in omega (arith, first, then); asks = asks_both }

-- nothing happens, whatever came
pub idle_step : (s : Node) (came : List Packet) → NodeStep s (record { came = came; packets = [] }) s
idle_step s came = record {
  counts = record { party = refl; peers = refl; serial = omega arith; each = λ k x at. cc };
  replies = record { stay = λ k r has. has; answer = λ p n r has. inl has; kept = λ x r i is. absurd (in_none x i) };
  rises = omega arith;
  asks = λ given. record {
    to_peer = λ x i. absurd (in_none x i);
    own = λ x i apart. absurd (in_none x i);
    one = λ x y i j no_x no_y same. absurd (in_none x i);
    made = λ n r has. inl has;
    stays = λ n r has. inl has;
    stands = λ x i repeated. absurd (in_none x i);
  };
}
