use Rattle.std.proofs.Common.{inl, inr, refl, arith, subst, []}
use Rattle.std.specs.List.{Contains}
use Rattle.verifier.proofs.search.ReachedOffsets.raise.Goals as goal

pub returns-else-may_cover-clause-accepted : goal.returns-else-may_cover-clause-accepted
returns-else-may_cover-clause-accepted g c =
    let r = c.requires.raising in
    record {
      steps = record { searching = r.searching; keeps = λ offset kinds has. has; same = refl; deepest = refl; left = omega arith };
      waiting = r.waiting;
      caught = λ h has low high. elim (r.waiting.waits_or_entered h c.args.at has low high) [
        | inl waits ↦ absurd (c.may_cover.ensures c.if-may_cover.false h waits low high)
        | inr entered ↦ entered
      ];
    }

pub returns-then-not-this-clause-accepted : goal.returns-then-not-this-clause-accepted
returns-then-not-this-clause-accepted g c =
    let r = c.requires.raising in
    record {
      steps = record { searching = r.searching; keeps = λ offset kinds has. has; same = refl; deepest = refl; left = omega arith };
      waiting = r.waiting;
      caught = λ h has low high. let no : Contains [] h = subst (λ handlers. Contains handlers h) (c.requires.none (rw c.if-not-this.true refl)) has in absurd (omega (arith, no.1));
    }
