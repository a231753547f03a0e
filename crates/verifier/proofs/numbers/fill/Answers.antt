use Rattle.std.proofs.Common.{◌≡◌, ℕ, ◌+◌, ◌-◌, ◌≤◌, ◌++◌, List, take, replicate, ap, arith, ◌∙◌}
use Rattle.std.proofs.lemmas.List.{length-replicate, replicate-append-replicate, take_all}
use Rattle.verifier.proofs.numbers.fill.Goals as goal

-- zeros after zeros
grown : (size more n : ℕ) (items : List ℕ) → items ≡ replicate size 0 → n ≡ size → size ≤ more → take more items ++ replicate (more - n) 0 ≡ replicate more 0
grown size more n items is same less =
    let rest : more - n ≡ more - size = omega (arith, same) in
    let all : size + (more - size) ≡ more = omega arith in
    ap (λ k. take more items ++ replicate k 0) rest
    ∙ ap (λ l. take more l ++ replicate (more - size) 0) is
    ∙ ap (λ l. l ++ replicate (more - size) 0) (take_all more (replicate size 0) (omega (arith, length-replicate {A = ℕ} size 0)))
    ∙ replicate-append-replicate size (more - size) 0
    ∙ ap (λ (k : ℕ). replicate k 0) all

pub loop-size-preserved : goal.loop-size-preserved
loop-size-preserved c =
    let v = c.loop-size.invariant in
    record {
      items = c.in_ok-resize.ensures.items ∙ grown c.loop-size.size _ _ c.loop-size.marks.items v.items v.len (omega arith);
      len = c.in_ok-resize.ensures.len;
      few = omega (arith, v.few, c.min-size.ensures, c.loop-size-test.true);
    }
