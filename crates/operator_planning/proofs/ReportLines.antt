-- What becomes of a report, and of whom the session is that it makes or changes.
use Rattle.std.proofs.Common.{◌≡◌, ◌≢◌, ◌<◌, ◌+◌, ◌++◌, ℕ, ℤ, List, [], ◌∷◌, length, inl, inr, refl, sym, ap, subst, ◌∙◌, append-nil, arith}
use Rattle.std.specs.Prelude.{Option, Some, None, Result, Ok, Err, IfOk, IfErr, ⊤}
use Rattle.std.specs.FinMap.{get}
use Rattle.ocpi_text.specs.Moment.{last_moment}
use Rattle.ocpi_text.specs.Text.{key}
use Rattle.ocpi_types.specs.Prices.{price_at}
use Rattle.ocpi_types.specs.declared.events.ChargerEvent.{ChargerEvent}
use Rattle.ocpi_types.specs.declared.events.ChargerEvent.TheVariants as event
use Rattle.ocpi_types.specs.declared.rows.Place.{Place}
use Rattle.ocpi_types.specs.declared.sessions.Session.{Session}
use Rattle.ocpi_types.specs.declared.site.Connector.{Connector}
use Rattle.ocpi_types.specs.declared.site.Evse.{Evse}
use Rattle.ocpi_types.specs.declared.site.Location.{Location}
use Rattle.ocpi_types.specs.declared.token.Token.{Token}
use Rattle.ocpi_types.specs.declared.words.SessionStatus.TheVariants.{Completed}
use Rattle.ocpi_types.specs.declared.words.TokenType.{TokenType}
use Rattle.node_steps.specs.Acts.{Act}
use Rattle.node_steps.specs.Drafts.{Step}
use Rattle.node_steps.specs.Peers.{HasPeer}
use Rattle.node_steps.specs.declared.fault.NodeFault.{NodeFault}
use Rattle.node_steps.specs.declared.fault.NodeFault.TheVariants.{NotForMe, UnknownOperator, UnknownToken, StampEnd, NumbersUsedUp, Memory}
use Rattle.site_book.specs.Sites.{IsConnectorOf}
use Rattle.token_desk.specs.Swipes as desk
use Rattle.token_desk.specs.Tokens.{Tokens}
use Rattle.token_desk.specs.declared.answers.Swipe.{Swipe}
use Rattle.token_desk.specs.declared.answers.Swipe.TheVariants as told
use Rattle.operator_rows.specs.Sound.{IsOwnStart, IsSound, MayGoOn}
use Rattle.operator_rows.specs.State.{State}
use Rattle.operator_rows.specs.Steps.{FullStep}
use Rattle.operator_steps.specs.declared.ending.Ending.{Ending}
use Rattle.operator_steps.specs.Charger.{ChargerLine, Ended, Started, Moved, Begun, Asked, IsEnded, IsStarted, Shows}
use Rattle.operator_steps.specs.Asking.{IsAsked}
use Rattle.operator_steps.specs.Ends.{IsOpen, ends_acts}
use Rattle.operator_steps.specs.Faults.{IsReportFault}
use Rattle.operator_steps.specs.Moves.{PlannedBy, Work, quiet}
use Rattle.operator_steps.specs.Sessions.{HasNoStamp, IsBegun, numbered_sessions}
use Rattle.operator_planning.specs.Bills.{IsRecorded, StopsEarly}
use Rattle.operator_planning.specs.Planned.{BeginsWith, PlansActs, StopsActs, StopsLine, StopsWork, quiet_step}
use Rattle.operator_planning.specs.Requests.{acts_of_end}
use Rattle.session_tables.specs.declared.beginning.Beginning.{Beginning}
use Rattle.session_tables.specs.declared.shown.Shown.{Shown}
use Rattle.session_tables.specs.declared.shown.Shown.TheVariants as shown
use Rattle.session_tables.specs.Moved.{IsMoved, Still, Goes}
use Rattle.session_tables.specs.Moves.{Ends, Makes, Moves, MovesNone}
use Rattle.session_tables.specs.declared.outcome.Moved.TheVariants as moved
use Rattle.session_tables.specs.Swipes.{SwipeLine, Unplaced, Closed, Open, id_of, provider_of, told_by}

-- what a report makes of a version is of the same provider and at the same connector
record IsAlike (v w : Session) : Type 0 where
  provider : w.cdr_token.party ≡ v.cdr_token.party
  evse : w.evse_uid ≡ v.evse_uid
  connector : w.connector_id ≡ v.connector_id

ends_alike : (at : ℕ) (v w : Session) → Ends at v w → IsAlike v w
ends_alike at v w (inl h) = record { provider = ap (λ (x : Session). x.cdr_token.party) h.1; evse = ap (λ (x : Session). x.evse_uid) h.1; connector = ap (λ (x : Session). x.connector_id) h.1 }
ends_alike at v w (inr h) = record { provider = ap (λ (x : Session). x.cdr_token.party) h.1; evse = ap (λ (x : Session). x.evse_uid) h.1; connector = ap (λ (x : Session). x.connector_id) h.1 }

makes_alike : (price : ℤ) (at : ℕ) (report : ChargerEvent) (v w : Session) → Makes price at report v w → IsAlike v w
makes_alike price at (event.Starts evse) v w h =
    record { provider = ap (λ (x : Session). x.cdr_token.party) h.1; evse = ap (λ (x : Session). x.evse_uid) h.1; connector = ap (λ (x : Session). x.connector_id) h.1 }
makes_alike price at (event.Meter evse kwh) v w h =
    record { provider = ap (λ (x : Session). x.cdr_token.party) h.2; evse = ap (λ (x : Session). x.evse_uid) h.2; connector = ap (λ (x : Session). x.connector_id) h.2 }
makes_alike price at (event.Stops evse) v w h = ends_alike at v w h
makes_alike price at (event.Fault evse) v w h = ends_alike at v w h
makes_alike price at (event.Accepts provider number) v w h = absurd h
makes_alike price at (event.Refuses provider number) v w h = absurd h
makes_alike price at (event.Unlocked provider number) v w h = absurd h
makes_alike price at (event.Swipe evse connector uid type) v w h = absurd h

module _ (s : State) (sound : IsSound s) (at : ℕ) (report : ChargerEvent) where
  goes_on : (v w : Session) → Moves s.site s.rows at report v w → MayGoOn s v
  goes_on v w h = (sound.sessions (key v.id) v h.here.stands).going h.here.live

  pub moved_provider : (v w : Session) → Moves s.site s.rows at report v w → HasPeer s.providers (key w.cdr_token.party)
  moved_provider v w h =
      let same = (makes_alike (price_at s.site v.start_date_time) at report v w h.makes).provider in
      subst (λ (p : List ℕ). HasPeer s.providers (key p)) (sym same) (goes_on v w h).provider

  pub moved_place : (v w : Session) → Moves s.site s.rows at report v w → IsConnectorOf s.site.locations (key w.evse_uid) (key w.connector_id)
  moved_place v w h =
      let same = makes_alike (price_at s.site v.start_date_time) at report v w h.makes in
      subst (λ (k : List ℕ). IsConnectorOf s.site.locations (key w.evse_uid) (key k)) (sym same.connector)
      (subst (λ (e : List ℕ). IsConnectorOf s.site.locations (key e) (key v.connector_id)) (sym same.evse) (goes_on v w h).place)

  -- the start that is carried out is open, and its token is of a provider of the site
  pub started_open : (e : Ending) (b : Beginning) → IsStarted s report e b → IsOpen s.rows e
  started_open e b h = (h.command, h.stands)

  pub started_provider : (e : Ending) (b : Beginning) → IsStarted s report e b → HasPeer s.providers (key b.token.party)
  started_provider e b h =
      let may = sound.pending e.provider e.number h.command h.stands in
      let own : key h.begins.start.token.party ≡ e.provider = subst (IsOwnStart e.provider) h.begins.command_is may.own in
      subst (λ (x : Beginning). HasPeer s.providers (key x.token.party)) (sym h.begins.begins_is) (subst (λ (p : List ℕ). HasPeer s.providers p) (sym own) may.provider)

  -- a token that is shown is one that is stored
  shown_stored : (tokens : Tokens) (provider : Option (List ℕ)) (type : TokenType) (uid : List ℕ) (t : Token) → desk.IsShown tokens provider type uid t → (k : (TokenType × List ℕ) × List ℕ) × (get tokens k ≡ Some t)
  shown_stored tokens (Some p) type uid t h = (((type, uid), p), h)
  shown_stored tokens None type uid t h = (((type, uid), h.0), h.1)

  begun_of : (t : Token) (x : Swipe) → desk.TokenLine t x → (u : Token) → x ≡ told.Begin u → t ≡ u
  begun_of t x (desk.Begins white valid is) u e = cc
  begun_of t x (desk.Invalid white valid is) u e = absurd (cc)
  begun_of t x (desk.Asks asks is) u e = absurd (cc)

  asked_of : (t : Token) (x : Swipe) → desk.TokenLine t x → (u : Token) → x ≡ told.Ask u → t ≡ u
  asked_of t x (desk.Begins white valid is) u e = absurd (cc)
  asked_of t x (desk.Invalid white valid is) u e = absurd (cc)
  asked_of t x (desk.Asks asks is) u e = cc

  stored_provider : (provider : Option (List ℕ)) (type : TokenType) (uid : List ℕ) (t : Token) → desk.IsShown s.rows.tokens provider type uid t → HasPeer s.providers (key t.party)
  stored_provider provider type uid t h = let place = shown_stored s.rows.tokens provider type uid t h in sound.tokens place.0 t place.1

  begun_provider : (provider : Option (List ℕ)) (type : TokenType) (uid : List ℕ) (t : Token) → desk.SwipeLine s.rows.tokens provider type uid (told.Begin t) → HasPeer s.providers (key t.party)
  begun_provider provider type uid t (desk.Unknown none is) = absurd (cc)
  begun_provider provider type uid t (desk.Known u stands line) =
      subst (λ (x : Token). HasPeer s.providers (key x.party)) (begun_of u (told.Begin t) line t refl) (stored_provider provider type uid u stands)

  asked_provider : (provider : Option (List ℕ)) (type : TokenType) (uid : List ℕ) (t : Token) → desk.SwipeLine s.rows.tokens provider type uid (told.Ask t) → HasPeer s.providers (key t.party)
  asked_provider provider type uid t (desk.Unknown none is) = absurd (cc)
  asked_provider provider type uid t (desk.Known u stands line) =
      subst (λ (x : Token). HasPeer s.providers (key x.party)) (asked_of u (told.Ask t) line t refl) (stored_provider provider type uid u stands)

  -- and so of a provider of the site, where it begins a session, or is asked about
  abbrev IsOfProvider : Shown → Type 0
  IsOfProvider shown.Nothing = ⊤
  IsOfProvider (shown.Begins b) = HasPeer s.providers (key b.token.party)
  IsOfProvider (shown.Asks t location place) = HasPeer s.providers (key t.party)

  told_provider : (l : Location) (e : Evse) (k : Connector) (used : Option (List ℕ)) (provider : Option (List ℕ)) (type : TokenType) (uid : List ℕ) (x : Swipe) →
      desk.SwipeLine s.rows.tokens provider type uid x → IsOfProvider (told_by x l e k used)
  told_provider l e k used provider type uid (told.Begin t) line = begun_provider provider type uid t line
  told_provider l e k used provider type uid (told.Ask t) line = asked_provider provider type uid t line
  told_provider l e k used provider type uid told.Nothing line = tt

  swiped_provider : (evse connector uid : List ℕ) (type : TokenType) (d : Shown) → SwipeLine s evse connector uid type d → IsOfProvider d
  swiped_provider evse connector uid type d (Unplaced none is) = subst IsOfProvider (sym is) tt
  swiped_provider evse connector uid type d (Closed none is) = subst IsOfProvider (sym is) tt
  swiped_provider evse connector uid type d (Open l e k place held is_open x line is) = subst IsOfProvider (sym is) (told_provider l e k (id_of held) (provider_of held) type (key uid) x line)

-- what a report shows is of a provider of the site
module _ (s : State) (sound : IsSound s) where
  shown_provider : (report : ChargerEvent) (d : Shown) → Shows s report d → IsOfProvider s sound 0 report d
  shown_provider (event.Swipe evse connector uid type) d h = swiped_provider s sound 0 (event.Swipe evse connector uid type) evse connector uid type d h
  shown_provider (event.Accepts provider number) d h = absurd h
  shown_provider (event.Refuses provider number) d h = absurd h
  shown_provider (event.Unlocked provider number) d h = absurd h
  shown_provider (event.Starts evse) d h = absurd h
  shown_provider (event.Meter evse kwh) d h = absurd h
  shown_provider (event.Stops evse) d h = absurd h
  shown_provider (event.Fault evse) d h = absurd h

  pub begins_provider : (report : ChargerEvent) (b : Beginning) → Shows s report (shown.Begins b) → HasPeer s.providers (key b.token.party)
  begins_provider report b h = shown_provider report (shown.Begins b) h

  pub asks_provider : (report : ChargerEvent) (t : Token) (location : List ℕ) (place : Place) → Shows s report (shown.Asks t location place) → HasPeer s.providers (key t.party)
  asks_provider report t location place h = shown_provider report (shown.Asks t location place) h

module _ (s : State) (at : ℕ) (report : ChargerEvent) where
  -- what is told of a move
  pub nothing_moves : IsMoved s.site s.rows at report moved.Nothing → MovesNone s.site s.rows at report
  nothing_moves (Still none is) = none
  nothing_moves (Goes v w moves comes) = absurd comes

  pub refused_moves : IsMoved s.site s.rows at report moved.Refused → HasNoStamp s at report
  refused_moves (Still none is) = absurd (cc)
  refused_moves (Goes v w moves comes) = record { before = v; after = w; moves = moves; last = comes }

  pub record GoesTo (version : Session) : Type 0 where
    pub before : Session
    pub moves : Moves s.site s.rows at report before version
    pub later : before.last_updated < last_moment

  goes_to : (v w version : Session) → Moves s.site s.rows at report v w → version ≡ w → v.last_updated < last_moment → GoesTo version
  goes_to v w version moves is later = record { before = v; moves = subst (λ (x : Session). Moves s.site s.rows at report v x) (sym is) moves; later = later }

  pub to_moves : (version : Session) → IsMoved s.site s.rows at report (moved.To version) → GoesTo version × (version.status ≢ Completed)
  to_moves version (Still none is) = absurd (cc)
  to_moves version (Goes v w moves comes) = (goes_to v w version moves comes.0 comes.1, subst (λ (x : Session). x.status ≢ Completed) (sym comes.0) comes.2)

  pub completed_moves : (version draft : Session) → IsMoved s.site s.rows at report (moved.Completed version draft) → GoesTo version × ((version.status ≡ Completed) × (draft ≡ version))
  completed_moves version draft (Still none is) = absurd (cc)
  completed_moves version draft (Goes v w moves comes) =
      (goes_to v w version moves comes.0 comes.1, (subst (λ (x : Session). x.status ≡ Completed) (sym comes.0) comes.2, comes.3 ∙ sym comes.0))

  -- the lines of the definition
  pub ended_line : (e : Ending) → IsEnded s report e → ChargerLine s at report (quiet (acts_of_end s at e))
  ended_line e h = Ended e h refl

  pub moved_line : (version : Session) → GoesTo version → (acts : List Act) → IsRecorded s at version acts → ChargerLine s at report (quiet acts)
  moved_line version goes acts h = Moved acts (record {
    before = goes.before;
    after = version;
    moves = goes.moves;
    later = goes.later;
    version_acts = h.version_part;
    bill_acts = h.bill_part;
    versioned = h.versioned;
    billed = h.billed;
    acts_are = h.acts_are;
  }) refl

  pub begun_line : (b : Beginning) → Shows s report (shown.Begins b) → (acts : List Act) → BeginsWith s at [] None b acts → ChargerLine s at report (quiet acts)
  begun_line b shows acts h =
      let none : List Ending = [] in
      let last : s.rows.request + length none ≡ s.rows.request = omega arith in
      Begun b h.begun shows (subst (λ (n : ℕ). IsBegun s at n (s.rows.charged.last_session + 1) b h.begun) last h.is_begun) (ap quiet h.acts_are)

  pub started_line : (e : Ending) (b : Beginning) → IsStarted s report e b → (acts : List Act) → BeginsWith s at (e ∷ []) None b acts → ChargerLine s at report (quiet acts)
  started_line e b started acts h =
      let ended : List Act = ends_acts at s.rows.commands.pending s.rows.request (e ∷ []) in
      Started e b h.begun started h.is_begun (ap quiet (h.acts_are ∙ ap (λ (l : List Act). numbered_sessions (s.rows.charged.last_session + 1) ∷ (l ++ h.begun)) (append-nil ended)))

  pub asked_line : (t : Token) (location : List ℕ) (place : Place) → Shows s report (shown.Asks t location place) → (work : Work) → IsAsked s at t location place work → ChargerLine s at report work
  asked_line t location place shows work h = Asked t location place shows h

  -- why what a line asks for is not done
  pub report_fault : (work : Work) → ChargerLine s at report work → (f : NodeFault) → StopsActs s work.acts f → IsReportFault s at report f
  report_fault work line NotForMe h = h
  report_fault work line UnknownOperator h = h
  report_fault work line UnknownToken h = h
  report_fault work line StampEnd h = absurd h
  report_fault work line NumbersUsedUp h = record { work = work; line = line; past = h }
  report_fault work line Memory h = tt

  module _ (Quiet : List Act → Type 0) (also : (acts : List Act) → Quiet acts → ChargerLine s at report (quiet acts)) where
    pub line_planned : (x : Step) → PlansActs Quiet s x → PlannedBy (ChargerLine s at report) s (quiet_step x)
    line_planned x h = record { work = quiet h.acts; line = also h.acts h.line; in_range = h.in_range; step_is = ap quiet_step h.step_is }

    pub line_fault : (f : NodeFault) → StopsLine Quiet s f → IsReportFault s at report f
    line_fault f h = report_fault (quiet h.acts) (also h.acts h.line) f h.stops

    pub early_fault : (f : NodeFault) → StopsEarly Quiet s f → IsReportFault s at report f
    early_fault NotForMe h = h
    early_fault UnknownOperator h = h
    early_fault UnknownToken h = h
    early_fault StampEnd h = absurd h
    early_fault NumbersUsedUp h = record { work = quiet h.acts; line = also h.acts h.line; past = h.past }
    early_fault Memory h = tt

  module _ {T : Type 0} (Other : Work → Type 0) (also : (work : Work) → Other work → ChargerLine s at report work) where
    pub works_planned : (r : Result T NodeFault) (step : T → FullStep) → IfOk r (λ x. PlannedBy Other s (step x)) → IfOk r (λ x. PlannedBy (ChargerLine s at report) s (step x))
    works_planned (Ok x) step h = record { work = h.work; line = also h.work h.line; in_range = h.in_range; step_is = h.step_is }
    works_planned (Err f) step h = tt

    pub works_faults : (r : Result T NodeFault) → IfErr r (StopsWork Other s) → IfErr r (IsReportFault s at report)
    works_faults (Ok x) h = tt
    works_faults (Err f) h = report_fault h.work (also h.work h.line) f h.stops
