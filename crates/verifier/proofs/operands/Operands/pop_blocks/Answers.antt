use Rattle.std.proofs.Common.{arith, refl, sym, ap, ◌∙◌, ◌*◌, ◌+◌, ℕ, Some, map, drop, length}
use Rattle.std.proofs.lemmas.List.{length-drop}
use Rattle.verifier.specs.Flow.{all_popped}
use Rattle.verifier.specs.Operands.{list_of}
use Rattle.verifier.proofs.Packing.{block_popped}
use Rattle.verifier.proofs.operands.Operands.pop_blocks.Goals as goal

pub loop-block-preserved : goal.loop-block-preserved
loop-block-preserved c =
    let l = c.loop-block in
    let v = l.invariant in
    let some = c.in-Some.ensures.some in
    record {
      there = c.in-Some.ensures.there;
      fewer = omega (arith, v.fewer, ap length some.1.1, length-drop 64 (list_of c.args.self.now l.rest));
      count_is = omega (arith, v.count_is);
      same = λ kinds is.
          v.same kinds is ∙ ap (λ (n : ℕ). all_popped (map (λ kind. Some kind) (drop (n * 64) kinds)) (list_of c.args.self.now l.rest)) v.count_is
          ∙ block_popped c.args.blocks.now kinds (list_of c.args.self.now l.rest) (list_of c.args.self.now c.in-Some.below) l.block-index 0 _ is c.loop-block-test.true refl some.0 some.1.0 some.1.1
          ∙ ap (λ (n : ℕ). all_popped (map (λ kind. Some kind) (drop ((n + 1) * 64) kinds)) (list_of c.args.self.now c.in-Some.below)) (sym v.count_is);
    }
