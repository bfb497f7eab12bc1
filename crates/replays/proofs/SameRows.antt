-- Lists of the rows of one node, and the node that is made of them.
use Rattle.std.proofs.Common.{◌≡◌, ◌≢◌, ◌↔◌, ℕ, List, AllPairs, sym, ap, ◌∙◌, length}
use Rattle.std.specs.Prelude.{Contains}
use Rattle.node_core.specs.Members.{IsMadeOfRows, line_of, peers_of}
use Rattle.ocpi_types.specs.Rows.{key_of}
use Rattle.ocpi_types.specs.declared.rows.Row.{Row}
use Rattle.ocpi_types.specs.declared.setup.Node.{Node}
use Rattle.ocpi_types.specs.declared.setup.Node.TheVariants as member
use Rattle.operator_rows.specs.Rows as operator_rows
use Rattle.operator_rows.specs.Sound as operator_sound
use Rattle.operator_rows.specs.State as operator
use Rattle.operator_stored.proofs.RowsTell.{rows_tell}
use Rattle.provider_rows.specs.Rows as provider_rows
use Rattle.provider_rows.specs.Sound as provider_sound
use Rattle.provider_rows.specs.State as provider
use Rattle.provider_stored.proofs.Told.{tell_all}
use Rattle.stored_laws.specs.Nodes.{AreNodeRows, CanStartAgain}
use Rattle.world_steps.specs.World.{NodeState, Operates, Provides}
use Rattle.replays.proofs.SameLists.{same_length}

-- the row stands
abbrev pub HasNodeRow : NodeState → Row → Type 0
HasNodeRow (Operates s) r = operator_rows.HasRow s.rows r
HasNodeRow (Provides s) r = provider_rows.HasRow s.rows r

-- the parts of what `AreNodeRows` says
abbrev AreListed : List Row → NodeState → Type 0
AreListed rows n = (r : Row) → Contains rows r ↔ HasNodeRow n r

abbrev AreApart : List Row → Type 0
AreApart rows = AllPairs (λ a b. key_of a ≢ key_of b) rows

pub listed : (rows : List Row) (n : NodeState) → AreNodeRows rows n → (r : Row) → Contains rows r ↔ HasNodeRow n r
listed rows (Operates s) are r = are.exact r
listed rows (Provides s) are r = are.exact r

apart : (rows : List Row) (n : NodeState) → AreNodeRows rows n → AreApart rows
apart rows (Operates s) are = are.apart
apart rows (Provides s) are = are.apart

are_rows : (rows : List Row) (n : NodeState) → AreListed rows n → AreApart rows → AreNodeRows rows n
are_rows rows (Operates s) exact so = record { exact = exact; apart = so }
are_rows rows (Provides s) exact so = record { exact = exact; apart = so }

module _ (rows others : List Row) (n : NodeState) (of_one : AreNodeRows rows n) (of_other : AreNodeRows others n) where
  same_elements : (r : Row) → Contains rows r ↔ Contains others r
  same_elements r =
      let a = listed rows n of_one r in
      let b = listed others n of_other r in
      ((λ there. b.1 (a.0 there)), (λ there. a.1 (b.0 there)))

  -- two lists of the rows of one node are equally long
  pub same_count : length rows ≡ length others
  same_count = same_length rows others (differ rows (apart rows n of_one)) (differ others (apart others n of_other)) same_elements
    where
      differ : (list : List Row) → AreApart list → AllPairs (λ a b. a ≢ b) list
      differ list so i j d below within is = so i j d below within (ap key_of is)

  -- and what has the rows of the one has those of the other
  pub of_others : (m : NodeState) → AreNodeRows rows m → AreNodeRows others m
  of_others m are = are_rows others m (λ r. of r) (apart others n of_other)
    where
      of : (r : Row) → Contains others r ↔ HasNodeRow m r
      of r =
          let a = same_elements r in
          let b = listed rows m are r in
          ((λ there. b.0 (a.1 there)), (λ has. a.0 (b.1 has)))

-- ---- a node that is made of rows

module _ (setup : List Node) where
  pub has_rows : (m : Node) (rows : List Row) (s : NodeState) → IsMadeOfRows setup m rows s → AreNodeRows rows s
  has_rows (member.Operator party site) rows (Operates s) made = made.has_rows
  has_rows (member.Operator party site) rows (Provides s) made = absurd made
  has_rows (member.Provider party) rows (Operates s) made = absurd made
  has_rows (member.Provider party) rows (Provides s) made = made.has_rows

  -- it is made of the same rows in another order
  pub made_of : (m : Node) (rows others : List Row) (s : NodeState) → IsMadeOfRows setup m rows s → AreNodeRows others s → IsMadeOfRows setup m others s
  made_of (member.Operator party site) rows others (Operates s) made are = record { of_site = made.of_site; has_rows = are; whole = made.whole }
  made_of (member.Operator party site) rows others (Provides s) made are = absurd made
  made_of (member.Provider party) rows others (Operates s) made are = absurd made
  made_of (member.Provider party) rows others (Provides s) made are = record { with_peers = made.with_peers; has_rows = are; whole = made.whole }

  -- there is one
  pub made_once : (m : Node) (rows : List Row) (s u : NodeState) → CanStartAgain s → CanStartAgain u → IsMadeOfRows setup m rows s → IsMadeOfRows setup m rows u → s ≡ u
  made_once (member.Operator party site) rows (Operates s) (Operates u) starts again made made_too =
      let same : s.rows ≡ u.rows = rows_tell rows s u starts.sound.sound again.sound.sound made.has_rows made_too.has_rows in
      ap Operates (made.of_site ∙ ap (λ (r : operator.Rows). operator_sound.with_rows r (operator.opening (line_of setup party site))) same ∙ sym made_too.of_site)
  made_once (member.Operator party site) rows (Operates s) (Provides u) starts again made made_too = absurd made_too
  made_once (member.Operator party site) rows (Provides s) u starts again made made_too = absurd made
  made_once (member.Provider party) rows (Operates s) u starts again made made_too = absurd made
  made_once (member.Provider party) rows (Provides s) (Operates u) starts again made made_too = absurd made_too
  made_once (member.Provider party) rows (Provides s) (Provides u) starts again made made_too =
      let same : s.rows ≡ u.rows = tell_all rows s u starts.sound.1 again.sound.1 made.has_rows made_too.has_rows in
      ap Provides (made.with_peers ∙ ap (λ (r : provider.Rows). provider_sound.with_rows r (provider.opening (peers_of setup party))) same ∙ sym made_too.with_peers)
