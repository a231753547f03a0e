use Rattle.labels.specs.Comparing.{Told}
use Rattle.labels.proofs.Compared.{all-none}
use Rattle.labels.proofs.under.Under.row_of.Goals as goal

pub loop-n-init : goal.loop-n-init
loop-n-init c = all-none c.args.self.now.entries.now (Told c.args.self.now.hierarchy.now c.args.role c.args.principal) c.in_ok-row.row c.in_ok-row.ensures
