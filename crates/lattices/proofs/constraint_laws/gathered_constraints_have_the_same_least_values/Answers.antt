use Rattle.std.proofs.Common.{refl, true}
use Rattle.lattices.specs.Lattice.{Lattice, LatticeLaws}
use Rattle.lattices.proofs.Gathered.{least-same, reaches-up, reaches-down}
use Rattle.lattices.proofs.constraint_laws.gathered_constraints_have_the_same_least_values.Goals as goal

-- reaching asks nothing of the order
abbrev flat : {V : Type 0} → V → Lattice V
flat v = record { leq = λ a b. true; join = λ a b. v; least = v }

flat-laws : {V : Type 0} (v : V) → LatticeLaws (flat v)
flat-laws v = record {
  reflexive = λ a. refl;
  transitive = λ a b c h k. refl;
  above_left = λ a b. refl;
  above_right = λ a b. refl;
  least_above = λ a b c h k. refl;
  below_all = λ a. refl;
}

pub returns-clause-least : goal.returns-clause-least
returns-clause-least g c = λ same test l laws ds cs gathered values least.
    least-same ds cs gathered l laws same test.only_same test.each_itself values least

pub returns-clause-reached : goal.returns-clause-reached
returns-clause-reached g c = λ ds cs gathered v u occurs.
    (λ reaches. reaches-down ds cs gathered (flat v) (flat-laws v) v u occurs reaches, λ reaches. reaches-up ds cs gathered (flat v) (flat-laws v) v u reaches)
