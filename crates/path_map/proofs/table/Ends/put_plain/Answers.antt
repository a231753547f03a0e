use Rattle.std.proofs.Common.{refl, subst, map, set, List, false}
use Rattle.resolved.specs.declared.statement.Exit.{Exit}
use Rattle.path_map.specs.Entries.{IsEntryWritten, entry_exits}
use Rattle.path_map.specs.declared.exits.Raised.TheVariants.{Nothing}
use Rattle.path_map.proofs.Kept.{not-several, no-row, put-is, put-kept}
use Rattle.path_map.proofs.RowLists.{grown_none}
use Rattle.path_map.proofs.table.Ends.put_plain.Goals as goal

pub invariant_of-self : goal.invariant_of-self
invariant_of-self c =
    let rows = c.self.inside.rows.items in (
      c.self.invariant.0,
      put-kept rows rows c.self.inside.entries.items c.args.at c.args.exits c.with.result (λ e. false) 0 Nothing (grown_none rows) c.self.invariant.1
          (no-row rows (λ e. false) Nothing c.self.invariant.0 not-several) (λ e. refl) c.with.ensures,
    )

pub returns : goal.returns
returns c =
    let rows = c.self.inside.rows.items in
    let entries = c.self.inside.entries.items in
    subst (λ (old : List (List Exit)). IsEntryWritten c.args.at c.args.exits (λ e. false) old (map (entry_exits rows) (set entries c.args.at (record { exits = c.with.result; row = 0 }))))
    c.self.view_is
    (put-is rows rows entries c.args.at c.args.exits c.with.result (λ e. false) 0 Nothing (grown_none rows) c.self.invariant.1
    (no-row rows (λ e. false) Nothing c.self.invariant.0 not-several) (λ e. refl) c.with.ensures)
