use Rattle.std.proofs.Common.{◌≤◌, ◌+◌, ◌-◌, ◌++◌, ℕ, List, Option, length, take, drop, sym, ap, subst, ◌∙◌, arith, length-drop}
use Rattle.std.proofs.Math.Seq.{take-add}
use Rattle.std.proofs.lemmas.List.{take_rest}
use Rattle.std.specs.Io.KnownBytes.{Appends}
use Rattle.std.proofs.KnownBytes.{Appends-trans, Appends-kept}
use Rattle.line_runs.proofs.writing.write_whole.Goals.{in-Ok, in-Err+else-ne}
use Rattle.line_runs.proofs.writing.write_whole.Goals as goal

-- a further part of the bytes
more : (old now new : Option (List ℕ)) (bytes : List ℕ) (at n : ℕ) → Appends old now (take at bytes) → Appends now new (take n (take (length bytes - at) (drop at bytes))) → Appends old new (take (at + n) bytes)
more old now new bytes at n p q =
    subst (Appends old new) (ap (λ l. take at bytes ++ take n l) (take_rest bytes at) ∙ sym (take-add at n bytes)) (Appends-trans old now new (take at bytes) (take n (take (length bytes - at) (drop at bytes))) p q)

fits : (bytes : List ℕ) (at n : ℕ) → at ≤ length bytes → n ≤ length (take (length bytes - at) (drop at bytes)) → at + n ≤ length bytes
fits bytes at n within bound = omega (arith, bound, ap length (take_rest bytes at), length-drop at bytes)

pub loop-turn-preserved : goal.loop-turn-preserved
loop-turn-preserved g c =
    let i = c.loop-turn.invariant in
    let old = g.W.Write.contents c.args.writer.now in
    let new = g.W.Write.contents c.write.new.self in
    record {
      within = elim c.match-write.branch as (λ _. c.match-write.at ≤ length c.args.bytes.now) [
        | in-Ok w ↦ subst (λ k. k ≤ length c.args.bytes.now) (sym w.at-is) (fits c.args.bytes.now c.loop-turn.at w.in-Ok.taken i.within w.in-Ok.ensures.bound)
        | in-Err+else-ne w ↦ subst (λ k. k ≤ length c.args.bytes.now) (sym w.at-is) i.within
      ];
      written = elim c.match-write.branch as (λ _. Appends old new (take c.match-write.at c.args.bytes.now)) [
        | in-Ok w ↦ subst (λ k. Appends old new (take k c.args.bytes.now)) (sym w.at-is) (more _ _ _ c.args.bytes.now c.loop-turn.at w.in-Ok.taken i.written w.in-Ok.ensures.bytes)
        | in-Err+else-ne w ↦ subst (λ k. Appends old new (take k c.args.bytes.now)) (sym w.at-is) (Appends-kept _ _ _ _ i.written w.in-Err.ensures.bytes)
      ];
    }
