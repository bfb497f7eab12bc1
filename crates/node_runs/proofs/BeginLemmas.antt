-- What is known of a run behind what an echo begins with.
use Rattle.std.proofs.Common.{◌≢◌, ℕ, Bool, List, Option, IfErr, IfOk, Result, Ok, Err}
use Rattle.std.specs.Io.KnownBytes.{Appends}
use Rattle.line_runs.specs.declared.outcome.Ran.{Ran}
use Rattle.line_runs.specs.declared.outcome.RunFault.{RunFault}
use Rattle.line_runs.specs.declared.outcome.RunFault.TheVariants.{WriteFailed}
use Rattle.node_runs.specs.NodeOutputs.{BeginsSo, IsBehind, begin_bytes}
use Rattle.node_runs.specs.NodeOutputs as outputs

module _ (echo : Bool) (old begun : Option (List ℕ)) (begins : Appends old begun (begin_bytes echo)) where
  pub ran_behind : (result : Result Ran RunFault) (P : Ran → Option (List ℕ) → Type 0) → IfOk result (λ ran. P ran begun) → IfOk result (λ ran. IsBehind echo old (P ran))
  ran_behind (Ok ran) P is = (begun, begins, is)
  ran_behind (Err fault) P is = tt

  pub cut_behind : {S : Type 0} (result : Result Ran RunFault) (P : Option (List ℕ) → Option (List ℕ) → S → Type 0) (first last : S) (new : Option (List ℕ))
      → IfErr result (λ fault. P begun new last) → IfErr result (λ fault. BeginsSo P first echo old new last)
  cut_behind (Ok ran) P first last new is = tt
  cut_behind (Err fault) P first last new is = outputs.Whole begun begins is

  pub stopped_behind : (result : Result Ran RunFault) (P : RunFault → Option (List ℕ) → Type 0) → IfErr result (λ fault. fault ≢ WriteFailed → P fault begun)
      → IfErr result (λ fault. fault ≢ WriteFailed → IsBehind echo old (P fault))
  stopped_behind (Ok ran) P is = tt
  stopped_behind (Err fault) P is = λ other. (begun, begins, is other)
