use Rattle.std.proofs.Common.{refl}
use Rattle.session_state.proofs.PastLemmas.{first_cost, all_follow, final_is_last, past_grows}
use Rattle.session_state.proofs.laws.pasts_are_orderly.Goals as goal

pub returns-clause-made : goal.returns-clause-made
returns-clause-made c = λ opening at price later made.
    let cost = first_cost opening at (price at) in
    (refl, cost, all_follow price _ later cost (λ pending. refl) made)

pub returns-clause-last : goal.returns-clause-last
returns-clause-last c = final_is_last

pub returns-clause-grow : goal.returns-clause-grow
returns-clause-grow c = past_grows
