use Rattle.std.proofs.Common.{◌≡◌, ◌*◌, ◌≤◌, [], length, refl, subst, sym, map}
use Rattle.std.specs.Prelude.{◌↔◌}
use Rattle.labels.specs.LabelLattice.{label_lattice}
use Rattle.path_map.specs.EndsOf.{AreEndsOf}
use Rattle.resolved.specs.CoreOf.{program_of}
use Rattle.resolved.specs.declared.program.Core.{Core}
use Rattle.resolved.specs.Labelled.{FitsDemands, program_demands, exit_faults}
use Rattle.resolved.specs.WellFormed.{program_nodes}
use Rattle.solver.specs.Constraints.{constraint_of}
use Rattle.solver.specs.Links.{InRange}
use Rattle.gathering.specs.Gathered.{AreConstraintsOf, FitsConstraints}
use Rattle.constraints.specs.declared.spreading.Made.{Made}
use Rattle.constraints.proofs.Gathered.{all-few, all-fit, all-gathered, all-in-range}
use Rattle.constraints.proofs.SpreadCalls.{calls-fit}
use Rattle.constraints.proofs.program.gather.Goals as goal

pub walk_procedures-requires : goal.walk_procedures-requires
walk_procedures-requires c =
    record { mapped = subst (λ (k : Core). AreEndsOf (program_of k) c.args.ends) (sym c.in_ok-table.ensures) c.requires.mapped }

pub spread_calls-requires : goal.spread_calls-requires
spread_calls-requires c =
    let table = c.in_ok-table.table in
    let whole = c.in_ok-progress.ensures.added in
    record {
      ordered = whole.now.up_to_date.ordered;
      room = calls-fit table.core.now table.core.now.labels c.in_ok-progress.progress whole c.in_ok-progress.ensures.number;
    }

pub returns-clause-gathered : goal.returns-clause-gathered
returns-clause-gathered c =
    let table = c.in_ok-table.table in
    let progress = c.in_ok-progress.progress in
    let begun : Made = record { number = progress.number; constraints = progress.constraints } in
    subst (λ (k : Core). AreConstraintsOf (program_of k) (map (constraint_of (label_lattice (program_of k).hierarchy) k.labels) c.spread_calls.new.made.constraints.items)) c.in_ok-table.ensures
    (all-gathered table.core.now table.core.now.labels progress begun c.spread_calls.new.made c.in_ok-progress.ensures.added c.in_ok-spread_calls.ensures c.in_ok-progress.ensures.number refl
    (subst (λ (k : Core). exit_faults (program_of k) ≡ []) (sym c.in_ok-table.ensures) c.requires.ended))

pub returns-clause-fits : goal.returns-clause-fits
returns-clause-fits c = λ labelling.
    let table = c.in_ok-table.table in
    let progress = c.in_ok-progress.progress in
    let begun : Made = record { number = progress.number; constraints = progress.constraints } in
    subst (λ (k : Core). FitsDemands (program_of k).hierarchy labelling (program_demands (program_of k))
    ↔ FitsConstraints (program_of k) (map (constraint_of (label_lattice (program_of k).hierarchy) k.labels) c.spread_calls.new.made.constraints.items) labelling) c.in_ok-table.ensures
    (all-fit table.core.now table.core.now.labels progress begun c.spread_calls.new.made c.in_ok-progress.ensures.added c.in_ok-spread_calls.ensures c.in_ok-progress.ensures.number refl
    (subst (λ (k : Core). exit_faults (program_of k) ≡ []) (sym c.in_ok-table.ensures) c.requires.ended) labelling)

pub returns-clause-in_range : goal.returns-clause-in_range
returns-clause-in_range c =
    let table = c.in_ok-table.table in
    let progress = c.in_ok-progress.progress in
    let begun : Made = record { number = progress.number; constraints = progress.constraints } in
    subst (λ (k : Core). InRange (length k.labels) c.spread_calls.new.made.number c.spread_calls.new.made.constraints.items) c.in_ok-table.ensures
    (all-in-range table.core.now table.core.now.labels progress begun c.spread_calls.new.made c.in_ok-progress.ensures.added c.in_ok-spread_calls.ensures c.in_ok-progress.ensures.number refl)

pub returns-clause-few : goal.returns-clause-few
returns-clause-few c =
    let table = c.in_ok-table.table in
    let progress = c.in_ok-progress.progress in
    let begun : Made = record { number = progress.number; constraints = progress.constraints } in
    subst (λ (k : Core). c.spread_calls.new.made.number ≤ 4 * program_nodes (program_of k)) c.in_ok-table.ensures
    (all-few table.core.now table.core.now.labels progress begun c.spread_calls.new.made c.in_ok-progress.ensures.added c.in_ok-spread_calls.ensures c.in_ok-progress.ensures.number refl)
