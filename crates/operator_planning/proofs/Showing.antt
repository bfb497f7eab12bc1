-- What a driver's token comes to is one thing.
use Rattle.std.proofs.Common.{◌≡◌, ℕ, true, false, List, refl, sym, ap, subst, ◌∙◌}
use Rattle.std.specs.Prelude.{Option, Some, None, is_some}
use Rattle.std.specs.FinMap.{get}
use Rattle.std.specs.Ordering.{is_gt, ordering_reverse}
use Rattle.std.specs.declared.cmp.Ordering.{Ordering}
use Rattle.std.specs.declared.cmp.Ordering.TheVariants.{Less, Equal, Greater}
use Rattle.tables.specs.Keys.{text_cmp, text_exact, text_total}
use Rattle.ocpi_text.specs.Text.{key}
use Rattle.ocpi_types.specs.declared.events.ChargerEvent.{ChargerEvent}
use Rattle.ocpi_types.specs.declared.events.ChargerEvent.TheVariants as event
use Rattle.ocpi_types.specs.declared.site.Connector.{Connector}
use Rattle.ocpi_types.specs.declared.site.Evse.{Evse}
use Rattle.ocpi_types.specs.declared.site.Location.{Location}
use Rattle.ocpi_types.specs.declared.token.Token.{Token}
use Rattle.ocpi_types.specs.declared.words.TokenType.{TokenType}
use Rattle.ocpi_types.specs.declared.words.WhitelistType.{WhitelistType}
use Rattle.ocpi_types.specs.declared.words.WhitelistType.TheVariants.{Always, Allowed, AllowedOffline, Never}
use Rattle.site_book.specs.declared.claim.Claim.TheVariants.{Reserved}
use Rattle.token_desk.specs.Swipes as desk
use Rattle.token_desk.specs.Tokens.{Tokens}
use Rattle.token_desk.specs.declared.answers.Swipe.{Swipe}
use Rattle.token_desk.specs.declared.answers.Swipe.TheVariants as told
use Rattle.operator_rows.specs.State.{State, OneClaimEach}
use Rattle.operator_steps.specs.Charger.{ShowsNone}
use Rattle.session_tables.specs.Swipes.{IsOpenTo, Free, Held, SwipeLine, Unplaced, Closed, Open, id_of, provider_of, told_by}
use Rattle.session_tables.specs.declared.shown.Shown.{Shown}
use Rattle.session_tables.specs.declared.shown.Shown.TheVariants.{Nothing}

both_below : (r s : Ordering) → r ≡ ordering_reverse s → is_gt r ≡ false → is_gt s ≡ false → r ≡ Equal
both_below Equal s e f g = refl
both_below Greater s e f g = absurd (let never : true ≡ false = f in cc)
both_below Less Less e f g = absurd (let never : Less ≡ Greater = e in cc)
both_below Less Equal e f g = absurd (let never : Less ≡ Equal = e in cc)
both_below Less Greater e f g = absurd (let never : true ≡ false = g in cc)

-- the token of a type and uid whose party comes first is one
first_once : (m : Tokens) (type : TokenType) (uid : List ℕ) (t u : Token) → desk.IsFirst m type uid t → desk.IsFirst m type uid u → t ≡ u
first_once m type uid t u h g =
    let below = h.2 g.0 (ap is_some g.1) in
    let above = g.2 h.0 (ap is_some h.1) in
    let same : h.0 ≡ g.0 = text_exact h.0 g.0 (both_below (text_cmp h.0 g.0) (text_cmp g.0 h.0) (text_total.antisymm h.0 g.0) below above) in
    let one : Some t ≡ Some u = sym h.1 ∙ ap (λ (p : List ℕ). get m ((type, uid), p)) same ∙ g.1 in
    cc

shown_once : (m : Tokens) (p : Option (List ℕ)) (type : TokenType) (uid : List ℕ) (t u : Token) → desk.IsShown m p type uid t → desk.IsShown m p type uid u → t ≡ u
shown_once m None type uid t u h g = first_once m type uid t u h g
shown_once m (Some p) type uid t u h g = let one : Some t ≡ Some u = sym h ∙ g in cc

not_shown : (m : Tokens) (p : Option (List ℕ)) (type : TokenType) (uid : List ℕ) (t : Token) → desk.NoneShown m p type uid → desk.IsShown m p type uid t → ⊥
not_shown m None type uid t none h = let never : None ≡ Some t = sym (none h.0) ∙ h.1 in cc
not_shown m (Some p) type uid t none h = let never : None ≡ Some t = sym none ∙ h in cc

-- a token's provider is asked, or need not be
not_both : (w : WhitelistType) → desk.IsWhitelisted w → desk.IsAsked w → ⊥
not_both Always h g = g
not_both Allowed h g = g
not_both AllowedOffline h g = h
not_both Never h g = h

token_once : (t : Token) (x y : Swipe) → desk.TokenLine t x → desk.TokenLine t y → x ≡ y
token_once t x y (desk.Begins h valid is) (desk.Begins g also same) = is ∙ sym same
token_once t x y (desk.Begins h valid is) (desk.Invalid g never same) = absurd (let both : true ≡ false = sym valid ∙ never in cc)
token_once t x y (desk.Begins h valid is) (desk.Asks g same) = absurd (not_both t.whitelist h g)
token_once t x y (desk.Invalid h never is) (desk.Begins g valid same) = absurd (let both : true ≡ false = sym valid ∙ never in cc)
token_once t x y (desk.Invalid h never is) (desk.Invalid g also same) = is ∙ sym same
token_once t x y (desk.Invalid h never is) (desk.Asks g same) = absurd (not_both t.whitelist h g)
token_once t x y (desk.Asks h is) (desk.Begins g valid same) = absurd (not_both t.whitelist g h)
token_once t x y (desk.Asks h is) (desk.Invalid g never same) = absurd (not_both t.whitelist g h)
token_once t x y (desk.Asks h is) (desk.Asks g same) = is ∙ sym same

desk_once : (m : Tokens) (p : Option (List ℕ)) (type : TokenType) (uid : List ℕ) (x y : Swipe) → desk.SwipeLine m p type uid x → desk.SwipeLine m p type uid y → x ≡ y
desk_once m p type uid x y (desk.Unknown none is) (desk.Unknown also same) = is ∙ sym same
desk_once m p type uid x y (desk.Unknown none is) (desk.Known u shown line) = absurd (not_shown m p type uid u none shown)
desk_once m p type uid x y (desk.Known t shown line) (desk.Unknown none is) = absurd (not_shown m p type uid t none shown)
desk_once m p type uid x y (desk.Known t shown line) (desk.Known u also other) =
    token_once t x y line (subst (λ (v : Token). desk.TokenLine v y) (shown_once m p type uid u t also shown) other)

-- what holds the EVSE is one reservation
held_once : (s : State) (evse uid : List ℕ) (type : TokenType) (a b : Option (List ℕ × List ℕ)) → OneClaimEach s.rows → IsOpenTo s evse uid type a → IsOpenTo s evse uid type b → a ≡ b
held_once s evse uid type a b one (Free ready free is) (Free also other same) = is ∙ sym same
held_once s evse uid type a b one (Free ready free is) (Held also p id h same) = absurd (free (Reserved p id) (h.reservation, h.stands, h.here))
held_once s evse uid type a b one (Held ready p id h is) (Free also free same) = absurd (free (Reserved p id) (h.reservation, h.stands, h.here))
held_once s evse uid type a b one (Held ready p id h is) (Held also q jd g same) =
    let claims : Reserved p id ≡ Reserved q jd = one evse (Reserved p id) (Reserved q jd) (h.reservation, h.stands, h.here) (g.reservation, g.stands, g.here) in
    let parties : p ≡ q = cc in
    let ids : id ≡ jd = cc in
    is ∙ (λ i. Some (parties i, ids i)) ∙ sym same

nothing_told : (x : Swipe) (l m : Location) (e f : Evse) (k j : Connector) (a b : Option (List ℕ)) → told_by x l e k a ≡ Nothing → told_by x m f j b ≡ Nothing
nothing_told told.Nothing l m e f k j a b h = refl
nothing_told (told.Begin t) l m e f k j a b h = absurd (cc)
nothing_told (told.Ask t) l m e f k j a b h = absurd (cc)

-- where nothing follows from a token that is shown, nothing else does
pub swipe_nothing : (s : State) (evse connector uid : List ℕ) (type : TokenType) (d : Shown) → OneClaimEach s.rows → SwipeLine s evse connector uid type Nothing → SwipeLine s evse connector uid type d → d ≡ Nothing
swipe_nothing s evse connector uid type d one line (Unplaced none is) = is
swipe_nothing s evse connector uid type d one line (Closed shut is) = is
swipe_nothing s evse connector uid type d one (Unplaced none first) (Open l e k place held open_to x line is) = absurd (none l e k place)
swipe_nothing s evse connector uid type d one (Closed shut first) (Open l e k place held open_to x line is) = absurd (shut held open_to)
swipe_nothing s evse connector uid type d one (Open m f j other holds also y told_y first) (Open l e k place held open_to x line is) =
    let same : holds ≡ held = held_once s (key evse) (key uid) type holds held one also open_to in
    let one_swipe : y ≡ x = desk_once s.rows.tokens (provider_of held) type (key uid) y x (subst (λ (h : Option (List ℕ × List ℕ)). desk.SwipeLine s.rows.tokens (provider_of h) type (key uid) y) same told_y) line in
    let quiet : told_by x m f j (id_of holds) ≡ Nothing = subst (λ (z : Swipe). told_by z m f j (id_of holds) ≡ Nothing) one_swipe (sym first) in
    is ∙ nothing_told x m l f e j k (id_of holds) (id_of held) quiet

-- a report of no token that is shown
pub shows_none : (s : State) (report : ChargerEvent) → ((evse connector uid : List ℕ) (type : TokenType) → report ≡ event.Swipe evse connector uid type → ⊥) → ShowsNone s report
shows_none s (event.Swipe evse connector uid type) other d h = absurd (other evse connector uid type refl)
shows_none s (event.Accepts provider number) other d h = absurd h
shows_none s (event.Refuses provider number) other d h = absurd h
shows_none s (event.Unlocked provider number) other d h = absurd h
shows_none s (event.Starts evse) other d h = absurd h
shows_none s (event.Meter evse kwh) other d h = absurd h
shows_none s (event.Stops evse) other d h = absurd h
shows_none s (event.Fault evse) other d h = absurd h
