use Rattle.std.proofs.Common.{◌<◌, ap, ◌∙◌, arith, length, []}
use Rattle.std.specs.Prelude.{slice_index_or}
use Rattle.std.proofs.lemmas.List.{length-map}
use Rattle.path_map.specs.declared.table.ExitsEntry.{ExitsEntry}
use Rattle.path_map.specs.Entries.{entry_exits}
use Rattle.path_map.specs.Exits.{exits_of}
use Rattle.path_map.proofs.Kept.{exits-at}
use Rattle.path_map.proofs.table.Ends.exits.Goals as goal

pub returns : goal.returns
returns c =
    let rows = c.self.inside.rows.items in
    let entries = c.self.inside.entries.items in
    let there : c.args.number < length entries = omega (arith, c.requires, ap length c.self.view_is, length-map entries (entry_exits rows)) in
    ap (λ (e : ExitsEntry). e.exits) c.index.ensures
    ∙ (exits-at rows entries c.args.number c.index.result.now c.self.invariant.1 there
    ∙ ap (λ v. exits_of (slice_index_or v c.args.number [])) c.self.view_is)
