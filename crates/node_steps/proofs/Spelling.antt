-- A party as peers spell it is the same party, and one of the peers where any peer is.
use Rattle.std.proofs.Common.{◌≡◌, ◌≢◌, ◌⊎◌, ◌+◌, ◌<◌, ℕ, List, [], ◌∷◌, length, get_or, drop, true, false, inl, inr, refl, sym, ap, ◌∙◌}
use Rattle.std.specs.Prelude.{Bool, Contains, bytes_eq, cond}
use Rattle.std.proofs.lemmas.List.{drop_more}
use Rattle.std.proofs.lemmas.Bool.{false_from_ne_true}
use Rattle.std.proofs.lemmas.Slice.Eq.{bytes_eq-Decides}
use Rattle.tables.proofs.Elements.{in_front, in_later, in_none, of_cons}
use Rattle.ocpi_text.specs.Text.{key}
use Rattle.node_steps.specs.Peers.{HasPeer, spelled}

-- with the first peer, and what the others come to
module _ (ps : List (List ℕ)) (p rest party : List ℕ) where
  same_by : (b : Bool) → bytes_eq (key p) (key party) ≡ b → key rest ≡ key party → key (cond b p rest) ≡ key party
  same_by true is later = (bytes_eq-Decides (key p) (key party)).0 is
  same_by false is later = later

  either_by : (b : Bool) → (rest ≡ party) ⊎ Contains ps rest → (cond b p rest ≡ party) ⊎ Contains (p ∷ ps) (cond b p rest)
  either_by true later = inr (in_front p ps)
  either_by false (inl same) = inl same
  either_by false (inr listed) = inr (in_later p ps rest listed)

  listed_by : (b : Bool) → bytes_eq (key p) (key party) ≡ b → (HasPeer ps (key party) → Contains ps rest) → HasPeer (p ∷ ps) (key party) → Contains (p ∷ ps) (cond b p rest)
  listed_by true is later peer = in_front p ps
  listed_by false is later (q, listed, same) = elim (of_cons p ps q listed) [
    | inl first ↦ absurd (let both : true ≡ false = sym ((bytes_eq-Decides (key p) (key party)).1 (ap key first ∙ same)) ∙ is in cc)
    | inr there ↦ in_later p ps rest (later (q, there, same))
  ]

pub spelled_same : (ps : List (List ℕ)) (party : List ℕ) → key (spelled ps party) ≡ key party
spelled_same [] party = refl
spelled_same (p ∷ ps) party = same_by ps p (spelled ps party) party (bytes_eq (key p) (key party)) refl (spelled_same ps party)

-- it is as it was, or one of the peers
pub spelled_either : (ps : List (List ℕ)) (party : List ℕ) → (spelled ps party ≡ party) ⊎ Contains ps (spelled ps party)
spelled_either [] party = inl refl
spelled_either (p ∷ ps) party = either_by ps p (spelled ps party) party (bytes_eq (key p) (key party)) (spelled_either ps party)

pub spelled_listed : (ps : List (List ℕ)) (party : List ℕ) → HasPeer ps (key party) → Contains ps (spelled ps party)
spelled_listed [] party peer = absurd (in_none peer.0 peer.1)
spelled_listed (p ∷ ps) party peer = listed_by ps p (spelled ps party) party (bytes_eq (key p) (key party)) refl (spelled_listed ps party) peer

-- a walk over the peers, none of which was this party so far
module _ (ps : List (List ℕ)) (party : List ℕ) (i : ℕ) (p : List ℕ) (within : i < length ps) (at : p ≡ get_or ps i p) (so_far : spelled ps party ≡ spelled (drop i ps) party) where
  on : (b : Bool) → bytes_eq (key p) (key party) ≡ b → spelled ps party ≡ cond b p (spelled (drop (i + 1) ps) party)
  on b is =
      so_far ∙ ap (λ l. spelled l party) (drop_more ps i p within) ∙ ap (λ q. spelled (q ∷ drop (i + 1) ps) party) (sym at)
      ∙ ap (λ c. cond c p (spelled (drop (i + 1) ps) party)) is

  pub spelled_here : key p ≡ key party → p ≡ spelled ps party
  spelled_here same = sym (on true ((bytes_eq-Decides (key p) (key party)).1 same))

  pub spelled_later : key p ≢ key party → spelled ps party ≡ spelled (drop (i + 1) ps) party
  spelled_later apart = on false (false_from_ne_true (bytes_eq (key p) (key party)) (λ t. apart ((bytes_eq-Decides (key p) (key party)).0 t)))
