use Rattle.std.proofs.Common.{◌≡◌, ◌+◌, ◌-◌, ◌++◌, drop, take, arith, ap, sym, ◌∙◌}
use Rattle.std.proofs.Math.Seq.{take-add}
use Rattle.std.proofs.lemmas.List.{append_assoc}
use Rattle.verifier.proofs.fixed.copy_code.Goals as goal

pub loop-size-preserved : goal.loop-size-preserved
loop-size-preserved c =
    let size = c.loop-size.size in
    let code = c.args.code.now in
    let v = c.loop-size.invariant in
    let more : size + c.min.result - size ≡ c.min.result = omega arith in
    record {
      so_far =
          c.in_ok-extend_from_slice.ensures.items
          ∙ ap (λ n. c.loop-size.placed.items ++ take n (drop size code)) more
          ∙ ap (λ l. l ++ take c.min.result (drop size code)) v.so_far
          ∙ append_assoc c.args.placed.now.items (take size code) (take c.min.result (drop size code))
          ∙ ap (λ l. c.args.placed.now.items ++ l) (sym (take-add size c.min.result code));
      inside = omega (arith, c.min.ensures, c.loop-size-test.true);
    }
