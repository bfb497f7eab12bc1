-- Runs of `node` one after another, each over what the one before left.
use Rattle.std.proofs.Common.{◌++◌, ◌+◌, ◌∙◌, ◌≡◌, ℕ, List, [], refl, sym, subst, arith, append-nil}
use Rattle.node_keepers.specs.Opening.{Source}
use Rattle.node_rows.specs.Laws.{AreClasses, RestartsAreHeld}
use Rattle.node_store.specs.Contents.{Content}
use Rattle.ocpi_types.specs.declared.setup.Node.{Node}
use Rattle.stored_nodes.specs.Keepers.{Keeper}
use Rattle.world_steps.specs.Steps.{NodeEvent as Deed}
use Rattle.feeding_laws.proofs.Exactly as exactly
use Rattle.feeding_laws.specs.Fed.{AreFedRuns, FedRunsAreExact, FedRunsAreTold, Holds, none_fed, one_fed, one_unopened, told_in}
use Rattle.feeding_laws.specs.Feeding.{AreRuns, Held, NotBegun, all_did, none_ran, one_ran}

module _ {K : Type 0} (keeper : Keeper K) (source : Source K) (setups : List (List Node × Node)) (lines : ℕ → List ℕ) (first : Content) (held : Held) (holds : Holds first held) where
  record SoFar (seen : ℕ) (c : Content) (told : List Deed) : Type 0 where
    changed : List ℕ
    left : Held
    holds_so : Holds c left
    are : AreRuns setups lines held seen changed left
    did : all_did are ≡ told

  so_far : {seen : ℕ} {c : Content} → (fed : AreFedRuns keeper source setups lines first seen c) → SoFar seen c (told_in fed)
  so_far none_fed = record { changed = []; left = held; holds_so = holds; are = none_ran; did = refl }
  so_far (one_fed {after = after} setup member of_them runs some within run honest same over) =
      let h = so_far runs in
      let now = run.leaves honest h.left (subst (λ (c : Content). Holds c h.left) (sym same) h.holds_so) after over in
      record {
        changed = h.changed ++ now.changed;
        left = now.left;
        holds_so = now.holds;
        are = one_ran setup member of_them h.are some within now.ran;
        did = λ i. h.did i ++ now.did i;
      }
  so_far (one_unopened {base = base} {before = before} setup member of_them runs some within) =
      let h = so_far runs in
      subst (λ (n : ℕ). SoFar n before (told_in runs)) (omega arith) (record {
        changed = h.changed ++ [];
        left = h.left;
        holds_so = h.holds_so;
        are = one_ran setup member of_them h.are some within NotBegun;
        did = append-nil (all_did h.are) ∙ h.did;
      })

pub fed_runs_are_exact : RestartsAreHeld → AreClasses → {K : Type 0} (keeper : Keeper K) (source : Source K) → FedRunsAreExact keeper source
fed_runs_are_exact alike classes keeper source setups lines first last held seen holds new runs =
    let h = so_far keeper source setups lines first held holds runs in
    record { changed = h.changed; left = h.left; holds = h.holds_so; exact = exactly.feeding_is_exact alike classes setups lines held h.left seen h.changed new h.are }

pub fed_runs_are_told : {K : Type 0} (keeper : Keeper K) (source : Source K) → FedRunsAreTold keeper source
fed_runs_are_told keeper source setups lines first last held seen holds fed =
    let h = so_far keeper source setups lines first held holds fed in
    record { changed = h.changed; left = h.left; holds = h.holds_so; runs = h.are; told = h.did }
