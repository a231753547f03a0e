use Rattle.std.proofs.Common.{◌≡◌, ℕ, ◌-◌, List, ◌++◌, length, take, drop, ap, ◌∙◌, sym, append_assoc, take-append-drop, length-drop}
use Rattle.std.proofs.Math.Seq.{take-length}
use Rattle.std.proofs.KnownBytes.{Appends-trans}
use Rattle.channels.proofs.Sinks.{not_failed}
use Rattle.channels.proofs.sink.write_all.Goals as goal

-- what was taken of the rest stands after the front, and the rest of it is left
moved : (front rest bytes : List ℕ) (n : ℕ) → front ++ rest ≡ bytes
    → (front ++ take n rest) ++ take (length rest - n) (drop n rest) ≡ bytes
moved front rest bytes n all =
    ap (λ k. (front ++ take n rest) ++ take k (drop n rest)) (sym (length-drop n rest))
    ∙ ap (λ end. (front ++ take n rest) ++ end) (take-length (drop n rest))
    ∙ append_assoc front (take n rest) (drop n rest)
    ∙ ap (λ end. front ++ end) (take-append-drop n rest)
    ∙ all

pub loop-rest-preserved : goal.loop-rest-preserved
loop-rest-preserved g c = (
  c.loop-rest.invariant.0 ++ take c.in_ok-count.count c.loop-rest.rest.now,
  moved _ c.loop-rest.rest.now _ _ c.loop-rest.invariant.1,
  Appends-trans _ _ _ _ _ c.loop-rest.invariant.2 c.in_ok-count.ensures.taken,
  c.in_ok-count.ensures.fails ∙ not_failed _ _ _ c.if-count-eq0.false ∙ c.loop-rest.invariant.3,
)
