use Rattle.std.proofs.Common.{arith, get_or, refl, subst}
use Rattle.std.specs.Prelude.{Contains}
use Rattle.std.proofs.lemmas.List.Elements.{Contains-get_or}
use Rattle.solver.specs.declared.constraints.Atom.{Atom}
use Rattle.solver.specs.declared.constraints.Atom.TheVariants.{Written}
use Rattle.constraints.specs.Merging.{followed, itself}
use Rattle.constraints.proofs.following.Onward.note_all.Goals as goal

pub loop-part-preserved : goal.loop-part-preserved
loop-part-preserved c =
    let none : Atom = Written 0 in
    let part : Atom = get_or c.as_slice-part-items.result.now c.loop-part.part-index none in
    record {
      onward = λ base among before.
          c.note_part.ensures c.args.real base
          (followed part c.in-Unknown.to (itself part refl) (omega (arith, c.if-to-real.false))
          (record {
            by = c.args.constraint.now;
            among = among;
            starts = subst (λ list. Contains list part) c.as_slice-part-items.ensures
                (Contains-get_or c.as_slice-part-items.result.now c.loop-part.part-index none c.loop-part-test.true);
            ends = c.in-Unknown.is;
          }))
          (c.loop-part.invariant.onward base among before);
    }
