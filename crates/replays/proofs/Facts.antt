-- What is known of the nodes that run, of the lines that they are fed, and of what stores have.
use Rattle.std.proofs.Common.{◌≡◌, ◌≢◌, ◌↔◌, ◌≤◌, ℕ, suc, List, [], ◌∷◌, ◌++◌, Option, Ok, inl, length, refl, sym, ap, subst, ◌∙◌, arith}
use Rattle.std.specs.Prelude.{Contains}
use Rattle.answer_laws.specs.Nodes.{PlacesDiffer}
use Rattle.node_core.proofs.Lists.{placed}
use Rattle.node_core.proofs.OpeningSetups.{are_parties_of}
use Rattle.node_core.specs.Members.{IsMadeOfRows}
use Rattle.node_runs.specs.SetupLines.{numbered_setup_in}
use Rattle.ocpi_text.specs.Whole.{max_whole}
use Rattle.ocpi_types.specs.Parties.{AreParties}
use Rattle.ocpi_types.specs.Setups.{party_of}
use Rattle.ocpi_types.specs.declared.rows.Change.{Change}
use Rattle.ocpi_types.specs.declared.rows.Row.{Row}
use Rattle.ocpi_types.specs.declared.rows.Row.TheVariants as row
use Rattle.ocpi_types.specs.declared.setup.Node.{Node}
use Rattle.ocpi_types.specs.declared.setup.Node.TheVariants as member
use Rattle.ocpi_types.specs.declared.stored.SentCommand.{SentCommand}
use Rattle.operator_rows.specs.State as operator
use Rattle.stored_laws.specs.Nodes.{AreNodeRows}
use Rattle.stored_nodes.specs.Transactions.{changes_of_each}
use Rattle.world_steps.specs.Steps.{NodeEvent as Deed}
use Rattle.world_steps.specs.World.{NodeState, Operates, Provides}
pub use Rattle.replays.proofs.FaultTexts.{malformed_ends}
pub use Rattle.replays.proofs.FreshParty.{fresh}
use Rattle.replays.proofs.FaultTexts.{no_refusal, one_refusal}
use Rattle.replays.proofs.LineFacts.{IsCounted, effect_of, line_closed, stays_counted}
use Rattle.replays.proofs.Lines.{Alike, Both, Gifts, Same}
use Rattle.replays.proofs.OneLine.{IsFit, answers_fit, line_once}
use Rattle.replays.proofs.Only.{Openings}
use Rattle.replays.proofs.OpenedLines.{opened_ends, opened_long, opened_tells}
use Rattle.replays.proofs.OwnUrls.{HasOwn, HasOwnUrl}
use Rattle.replays.proofs.ReadSetups.{has_places, is_setup, one_of_party}
use Rattle.replays.proofs.SameRows.{HasNodeRow, has_rows, listed, made_of, made_once, of_others, same_count}
use Rattle.replays.specs.Happenings.{Placed}
use Rattle.replays.specs.LineTurns.{AreOf, Held, IsLeftBy, IsNumbered, Kept, LineGives, Listed, Lists, OfNode, Running, Store, WasBeyond, WasKnown, WasRead, held_in, last_behind}
use Rattle.replays.specs.Reading.{OpensOver, begun_over}
use Rattle.replays.specs.Transcripts.{HasOwnUrls}

-- ---- a node that runs

-- its state can be that of a node that ran, and its numbers are such
pub record Runs (now : Running) : Type 0 where
  pub fit : IsFit now.state
  pub counted : IsCounted now
  pub within : now.last ≤ max_whole

runs_on : (now : Running) (line out : List ℕ) (entered : List Placed) (did : List Deed) (next : Running) → Runs now → LineGives now line out entered did next → Runs next
runs_on now line out entered did next runs gives = record { fit = fit gives; counted = stays_counted now line out entered did next runs.counted gives; within = within gives }
  where
    fit : LineGives now line out entered did next → IsFit next.state
    fit (WasKnown known written none nothing is) = subst (λ (n : Running). IsFit n.state) (sym is) runs.fit
    fit (WasBeyond new at written none nothing is) = subst (λ (n : Running). IsFit n.state) (sym is) runs.fit
    fit (WasRead new low turn after answers held is) = subst (λ (n : Running). IsFit n.state) (sym is) (answers_fit answers runs.fit)

    number : (changes : List Change) → suc now.number ≤ max_whole → last_behind changes now.last (suc now.number) ≤ max_whole
    number [] low = runs.within
    number (c ∷ cs) low = low

    within : LineGives now line out entered did next → next.last ≤ max_whole
    within (WasKnown known written none nothing is) = subst (λ (n : Running). n.last ≤ max_whole) (sym is) runs.within
    within (WasBeyond new at written none nothing is) = subst (λ (n : Running). n.last ≤ max_whole) (sym is) runs.within
    within (WasRead new low turn after answers held is) = subst (λ (n : Running). n.last ≤ max_whole) (sym is) (number (changes_of_each did) low)

-- what a line gives is one value, of which each line ends
pub line_facts : Gifts Runs
line_facts = record {
  counting = record {
    fed = line_closed;
    stays = runs_on;
    effect = λ now line out entered did next runs gives. effect_of now line out entered did next runs.counted gives;
  };
  one = λ now line out also entered came did done next last runs gives again. line_once now line out also entered came did done next last runs.fit gives again;
}

-- ---- what a store has

abbrev HasKept : Kept → Row → Type 0
HasKept (Listed rows) r = Contains rows r
HasKept (OfNode n) r = HasNodeRow n r

-- each request of its rows has a url of its own, and the number of its last line is one that a line may have
pub record Stores (held : Held) : Type 0 where
  pub urls : (n : ℕ) (c : SentCommand) → HasKept held.kept (row.Command n c) → HasOwnUrl n c
  pub within : held.line ≤ max_whole

-- where the rows are given
pub first_stores : (start : Store) → HasOwnUrls start.rows → IsNumbered start → Stores (held_in start)
first_stores start own numbered = record {
  urls = λ n c there. let url = own.each n c there in record { party = url.0; url = url.1; small = numbered.requests n c there };
  within = numbered.line;
}

-- of a node that ran
left_by : (now : Running) (held : Held) → Runs now → IsLeftBy now held → Stores held
left_by now held runs left = record {
  urls = λ n c has. of_node now.state runs.fit.own n c (of_kept held.kept (row.Command n c) left.rows has);
  within = subst (λ k. k ≤ max_whole) (sym left.line) runs.within;
}
  where
    of_kept : (k : Kept) (r : Row) → AreOf k now.state → HasKept k r → HasNodeRow now.state r
    of_kept (Listed rows) r are has = (listed rows now.state are r).0 has
    of_kept (OfNode n) r is has = subst (λ m. HasNodeRow m r) is has

    of_node : (n : NodeState) → HasOwn n → (k : ℕ) (c : SentCommand) → HasNodeRow n (row.Command k c) → HasOwnUrl k c
    of_node (Operates s) own k c has = absurd has
    of_node (Provides s) own k c has = own k c has

-- ---- an opening

module _ (line : List ℕ) (setup : List Node) (base : Option ℕ) (reads : numbered_setup_in line ≡ Ok (setup, base)) (held : Held) where
  kept_has : (k : Kept) (rows : List Row) → Lists k rows → (r : Row) → Contains rows r → HasKept k r
  kept_has (Listed given) rows is r there = subst (λ l. Contains l r) is there
  kept_has (OfNode n) rows are r there = (listed rows n are r).0 there

  opened_own : (m : Node) → Contains setup m → Stores held → (s : NodeState) (rows : List Row) → Lists held.kept rows → IsMadeOfRows setup m rows s → HasOwn s
  opened_own (member.Operator party site) there stores (Operates s) rows lists made =
      let at = placed setup (member.Operator party site) there in
      record {
        parties = subst (λ (u : operator.State). AreParties (record { operator = u.party; providers = u.providers })) (sym made.of_site)
            (are_parties_of setup (is_setup line setup base reads) at.0 party site at.1);
        places = subst (λ (u : operator.State). PlacesDiffer u.site) (sym made.of_site) (has_places line setup base reads (member.Operator party site) there);
      }
  opened_own (member.Operator party site) there stores (Provides s) rows lists made = absurd made
  opened_own (member.Provider party) there stores (Operates s) rows lists made = absurd made
  opened_own (member.Provider party) there stores (Provides s) rows lists made =
      λ n c has. stores.urls n c (kept_has held.kept rows lists (row.Command n c) ((made.has_rows.exact (row.Command n c)).1 has))

  begins : (m : Node) → Contains setup m → Stores held → (s : NodeState) → OpensOver setup m held s → Runs (begun_over held m s base)
  begins m there stores s o = record {
    fit = record { starts = o.starts; own = opened_own m there stores s o.rows o.lists o.made };
    counted = inl refl;
    within = stores.within;
  }

one_state : (setup : List Node) (m : Node) (held : Held) (s u : NodeState) (o : OpensOver setup m held s) (p : OpensOver setup m held u) → (s ≡ u) × (length o.rows ≡ length p.rows)
one_state setup m held s u o p = of held.kept o.lists p.lists
  where
    of : (k : Kept) → Lists k o.rows → Lists k p.rows → (s ≡ u) × (length o.rows ≡ length p.rows)
    of (Listed given) a b =
        (made_once setup m o.rows s u o.starts p.starts o.made (subst (λ l. IsMadeOfRows setup m l u) (b ∙ sym a) p.made), ap length (a ∙ sym b))
    of (OfNode n) a b =
        (made_once setup m o.rows s u o.starts p.starts o.made (made_of setup m p.rows o.rows u p.made (of_others p.rows o.rows n b a u (has_rows setup m p.rows u p.made))), same_count o.rows p.rows n a b)

-- the rows of two stores that are alike are those of one node
same_rows : (held left : Held) → Alike held left → (setup : List Node) (m : Node) (s : NodeState) (rows : List Row) → Lists left.kept rows → IsMadeOfRows setup m rows s
    → (others : List Row) × Lists held.kept others × IsMadeOfRows setup m others s × (length rows ≡ length others)
same_rows held left (Same is) setup m s rows lists made = (rows, subst (λ (h : Held). Lists h.kept rows) is lists, made, refl)
same_rows held left (Both now a b) setup m s rows lists made = of held.kept a.rows
  where
    there : (k : Kept) → AreOf k now.state → Lists k rows → AreNodeRows rows now.state
    there (Listed given) are is = subst (λ l. AreNodeRows l now.state) (sym is) are
    there (OfNode n) is are = subst (AreNodeRows rows) is are

    are : AreNodeRows rows now.state
    are = there left.kept b.rows lists

    of : (k : Kept) → AreOf k now.state → (others : List Row) × Lists k others × IsMadeOfRows setup m others s × (length rows ≡ length others)
    of (Listed given) listed_so =
        (given, refl, made_of setup m rows given s made (of_others rows given now.state are listed_so s (has_rows setup m rows s made)), same_count rows given now.state are listed_so)
    of (OfNode n) is = (rows, subst (AreNodeRows rows) (sym is) are, made, refl)

pub opening_facts : Openings Runs Stores
opening_facts = record {
  closed = opened_ends;
  long = opened_long;
  one_line = λ line setup base reads m n there there_too a b r s u v piece missing small low whole cut some.
      opened_tells a b (party_of m) (party_of n) r s u v piece missing small low whole cut;
  no_fault = λ line setup base fault fails real reads. no_refusal (numbered_setup_in line) fault (setup, base) fails real reads;
  one_fault = λ line f g fails real misses true_too. one_refusal (numbered_setup_in line) f g fails real misses true_too;
  one_member = λ line setup base reads m n there there_too same. one_of_party line setup base reads m n there there_too same;
  one_state = λ line setup base reads m there held s u o p. one_state setup m held s u o p;
  same_rows = same_rows;
  good = λ line setup base reads m there held stores s o. begins line setup base reads held m there stores s o;
  own = left_by;
  within = λ held stores. stores.within;
}
