use Rattle.std.proofs.Common.{sym, ◌∙◌, arith}
use Rattle.labels.specs.Entries.{labels_in}
use Rattle.labels.proofs.Held.{length-labels, no-label}
use Rattle.labels.proofs.entries.number_inside.Goals as goal

pub returns-else-number-entries : goal.returns-else-number-entries
returns-else-number-entries c =
    let count = length-labels c.args.entries.now in
    let some = c.requires.labels.some in
    record {
      inside = omega (arith, count, some);
      same = c.requires.labels.least ∙ sym (no-label (labels_in c.args.entries.now) c.args.number (omega (arith, count, c.if-number-entries.false)));
    }
