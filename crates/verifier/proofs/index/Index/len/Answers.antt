use Rattle.std.proofs.Common.{ap, sym, length, ◌∙◌}
use Rattle.verifier.proofs.Counted.{length-numbers}
use Rattle.verifier.proofs.index.Index.len.Goals as goal

pub returns : goal.returns
returns c = sym (ap length (sym c.self.view_is) ∙ length-numbers c.self.inside.starts.items 0 c.self.inside.size)
