-- Whatever is told, but for want of memory, there is no interleaving; and what is told where nobody is given.
use Rattle.std.proofs.Common.{◌≡◌, ◌≢◌, ◌⊎◌, ℕ, List, [], inl, inr, refl, sym, ap, subst, ◌∙◌, arith}
use Rattle.std.specs.Prelude.{IfNone, None, Option, Some, slice_get}
use Rattle.tables.proofs.Elements.{in_none}
use Rattle.ocpi_types.specs.declared.packet.Packet.{Packet}
use Rattle.histories.specs.declared.entry.Entry.{Entry}
use Rattle.histories.specs.declared.history.NodeHistory.{NodeHistory}
use Rattle.histories.specs.Causes.{AreAllGiven, CameTo, IsBlock, IsUnsent}
use Rattle.histories.specs.Entries.{Delivers}
use Rattle.histories.specs.Weaving.{AreApart, AreNumbered, AreNumberedBehind, CanInterleave}
use Rattle.histories.proofs.Excluding.{blocks_exclude, different_excludes, never_sent_excludes}
use Rattle.histories.proofs.Lists.{is_in, some_same}
use Rattle.weave.specs.declared.fault.WeaveFault.{WeaveFault}
use Rattle.weave.specs.declared.fault.WeaveFault.TheVariants.{Differs, Memory, NeverSent, NoOrder}
use Rattle.weave.specs.declared.turn.Turn.{Turn}
use Rattle.weave.specs.declared.turn_fault.TurnFault.{TurnFault}
use Rattle.weave.specs.declared.turn_fault.TurnFault.TheVariants as turns
use Rattle.weave.specs.Faults.{Explains, IsFirst}
use Rattle.weave.specs.Given.{AreAllGivenWith, Asks, CanInterleaveWith, IsBlockWith, IsFrom, WasBefore}
use Rattle.weave.specs.TurnFaults.{CameFirst, Comes, ExplainsTurns, IsSentOtherwiseBy}
use Rattle.weave.specs.Turns.{IsOrder, IsOrderWith}
use Rattle.weave.proofs.Excluding as given
use Rattle.weave.proofs.Excluding.{sent_otherwise}
use Rattle.weave.proofs.Needing.{one_packet}

pub told_excludes : (hs : List NodeHistory) → AreApart hs → AreNumbered hs → (f : WeaveFault) → Explains hs f → f ≢ Memory → CanInterleave hs → ⊥
told_excludes hs apart numbered (NeverSent q) (told, first) other woven = never_sent_excludes hs q told woven
told_excludes hs apart numbered (Differs q) (told, first) other woven = different_excludes hs q (λ h i. (numbered h i).1) told woven
told_excludes hs apart numbered (NoOrder front) (told, all) other woven = blocks_exclude hs front.items apart told woven
told_excludes hs apart numbered Memory told other woven = other refl

pub turns_exclude : (parties : List (List ℕ)) (hs : List NodeHistory) → AreApart hs → AreNumberedBehind hs → (f : TurnFault) → ExplainsTurns parties hs f → f ≢ turns.Memory → CanInterleaveWith parties hs → ⊥
turns_exclude parties hs apart numbered (turns.NeverSent t) (q, came, none) other woven = given.never_sent_excludes parties hs t q came none woven
turns_exclude parties hs apart numbered (turns.Differs t by) (q, came, differs) other woven = given.different_excludes parties hs t q numbered came (sent_otherwise hs by q differs) woven
turns_exclude parties hs apart numbered (turns.NoOrder places) (end, all) other woven = given.blocks_exclude parties hs places.items apart end.block woven
turns_exclude parties hs apart numbered turns.Memory told other woven = other refl

pub none_more : {T P Q : Type 0} → (o : Option T) → (P → Q) → IfNone o P → IfNone o Q
none_more None more h = more h
none_more (Some x) more h = h

-- ---- where nobody is given

none_from : (q : Packet) → IsFrom [] q → ⊥
none_from q (party, within, same) = in_none party within

-- nothing was sent before, where the packets of each are numbered from 1
not_before : (hs : List NodeHistory) → AreNumbered hs → (q : Packet) → WasBefore hs q → ⊥
not_before hs numbered q was =
    let none = (numbered was.sender was.among).0 in
    let first = was.is.first in
    let last = was.is.last in
    omega (arith, none, first, last)

module _ (hs : List NodeHistory) (numbered : AreNumbered hs) where
  asks : (e : Entry) (q : Packet) → Delivers e q → Asks [] hs e q
  asks e q delivers = record { delivers = delivers; not_given = none_from q; not_before = not_before hs numbered q }

  pub order_of : (turns : List Turn) → IsOrderWith [] hs turns → IsOrder hs turns
  order_of turns (xs, woven, are) = (xs, given.none_given [] hs xs (λ q came from. elim from [ inl given ↦ none_from q given | inr was ↦ not_before hs numbered q was ]) woven, are)

  pub block_of : (front : List ℕ) → IsBlockWith [] hs front → IsBlock hs front
  block_of front block = record {
    size = block.size;
    some = block.some;
    each = λ i h e here at. let (q, is, waits) = block.each i h e here at in (q, is.delivers, waits);
  }

  pub all_of : AreAllGivenWith [] hs → AreAllGiven hs
  all_of all q came = all q came (none_from q) (not_before hs numbered q)

  module _ (t : Turn) (q : Packet) (came : CameFirst [] hs t q) where
    -- some packet comes by that turn
    pub comes : Comes hs t q
    comes = record { entry = came.entry; at = came.at; delivers = came.asks.delivers }

    came_to : CameTo hs q
    came_to = record {
      history = came.at.history;
      within = is_in hs t.history came.at.history came.at.here;
      entry = came.entry;
      stands = is_in came.at.history.entries.now t.entry came.entry came.at.stands;
      delivers = came.asks.delivers;
    }

    first : IsFirst hs q
    first = record {
      number = t.history;
      inside = record {
        number = t.entry;
        entry = came.entry;
        at = came.at;
        delivers = came.asks.delivers;
        before = λ l e less at r delivers. came.before t.history l e (inr (refl, less)) at r (asks e r delivers);
      };
      before = λ j l e less at r delivers. came.before j l e (inl less) at r (asks e r delivers);
    }

    -- it is the packet that was read there
    same_packet : (r : Packet) → Comes hs t r → r ≡ q
    same_packet r read =
        let is_h : read.at.history ≡ came.at.history = some_same read.at.history came.at.history (sym read.at.here ∙ came.at.here) in
        let is_e : read.entry ≡ came.entry = some_same read.entry came.entry (sym read.at.stands ∙ ap (λ (z : NodeHistory). slice_get z.entries.now t.entry) is_h ∙ came.at.stands) in
        one_packet came.entry r q (subst (λ e. Delivers e r) is_e read.delivers) came.asks.delivers

    pub told_unsent : (r : Packet) (f : WeaveFault) → Comes hs t r → IsUnsent hs q → (f ≡ NeverSent r) ⊎ (f ≡ Memory) → Explains hs f
    told_unsent r f read none (inl is) = subst (Explains hs) (sym (is ∙ ap NeverSent (same_packet r read))) ((came_to, none), first)
    told_unsent r f read none (inr is) = subst (Explains hs) (sym is) tt

    pub told_otherwise : (by : Turn) (r : Packet) (f : WeaveFault) → Comes hs t r → IsSentOtherwiseBy hs by q → (f ≡ Differs r) ⊎ (f ≡ Memory) → Explains hs f
    told_otherwise by r f read differs (inl is) = subst (Explains hs) (sym (is ∙ ap Differs (same_packet r read))) ((came_to, sent_otherwise hs by q differs), first)
    told_otherwise by r f read differs (inr is) = subst (Explains hs) (sym is) tt
