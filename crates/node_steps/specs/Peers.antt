-- The peers of a node, each found by its key (OCPI 2.2.1, Credentials: country_code and party_id).
use Rattle.std.specs.Prelude.{◌≡◌, ℕ, List, [], ◌∷◌, Contains, bytes_eq, cond}
use Rattle.ocpi_text.specs.Text.{key}

-- a peer of the list that is this party, as the list spells it
pub record IsPeer (peers : List (List ℕ)) (party p : List ℕ) : Type 0 where
  pub listed : Contains peers p
  pub same : key p ≡ key party

-- the party of that key is one of the peers
abbrev pub HasPeer : List (List ℕ) → List ℕ → Type 0
HasPeer peers party = (p : List ℕ) × Contains peers p × (key p ≡ party)

-- the party as the list spells it; or as it is, where no peer is this party
abbrev pub spelled : List (List ℕ) → List ℕ → List ℕ
spelled [] party = party
spelled (p ∷ ps) party = cond (bytes_eq (key p) (key party)) p (spelled ps party)
