use Rattle.std.proofs.Common.{ap, sym, ◌∙◌}
use Rattle.std.proofs.lemmas.Bool.{eqb-true}
use Rattle.solver.specs.declared.constraints.Atom.TheVariants.{Written}
use Rattle.constraints.specs.Merging.{itself}
use Rattle.constraints.proofs.following.Following.leads.Goals as goal

pub returns-in-Written-Written : goal.returns-in-Written-Written
returns-in-Written-Written c = λ e real base ways.
    let same = c.in-Written-Written in
    itself c.args.to (same.is-0 ∙ (ap Written (eqb-true same.from same.to e) ∙ sym same.is-1))
