use Rattle.std.proofs.Common.{◌≡◌, ◌+◌, ◌∙◌, ◌<◌, ◌++◌, ◌∷◌, [], ◌||◌, ℕ, eqb, length, length-set, get_or, take, sym, ap, arith}
use Rattle.std.proofs.lemmas.List.{take_more}
use Rattle.principals.specs.Table.{has, is_written, related}
use Rattle.principals.proofs.Rows.{related-written, related-get_or}
use Rattle.principals.proofs.table.relate_written.Goals as goal

pub loop-left-preserved : goal.loop-left-preserved
loop-left-preserved c =
    let pairs = c.args.pairs.now in
    let rows = c.loop-left.table.items in
    let i = c.loop-left.left-index in
    let pair = get_or pairs c.loop-left.left-index (0, 0) in
    let there : pair.0 < c.args.count = (c.requires.there c.loop-left.left-index (0, 0) c.loop-left-test.true).0 in
    let inside : pair.0 < length rows = omega (arith, c.loop-left.invariant.long) in
    let was : (m : ℕ) → has c.index_mut.result.now m ≡ related rows pair.0 m =
    λ m. ap (λ x. has x m) c.index_mut.ensures.value ∙ sym (related-get_or rows pair.0 m c.index_mut.result.now inside) in
    let adds : (m : ℕ) → has c.insert.new.self m ≡ (eqb m pair.1 || related rows pair.0 m) =
    λ m. c.insert.ensures m ∙ ap (λ x. eqb m pair.1 || x) (was m) in
    record {
      long = simp length-set c.loop-left.invariant.long;
      each = λ a b h.
          let more : take (i + 1) pairs ≡ take i pairs ++ pair ∷ [] = take_more pairs i (0, 0) c.loop-left-test.true in
          related-written rows c.insert.new.self c.args.count (take i pairs) pair c.loop-left.invariant.long c.loop-left.invariant.each there adds a b h
          ∙ ap (λ x. is_written x a b) (sym more);
    }
