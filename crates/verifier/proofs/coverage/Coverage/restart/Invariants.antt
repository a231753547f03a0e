use Rattle.std.proofs.Common.{◌≡◌, ◌<◌, ◌≤◌, ℕ, length, get_or}
use Rattle.modules.specs.declared.declaration.Handler.{Handler}
use Rattle.verifier.specs.Coverage.{IsSortedByStart, IsTree, leaf}
use Rattle.verifier.proofs.coverage.Coverage.restart.Given as goal

-- the numbers so far are the ends of the handlers, and the others are 0
abbrev pub invariant-loop-index : goal.invariant-loop-index
invariant-loop-index l = record {
  order : IsSortedByStart l.handlers l.self.handlers.items;
  tree : IsTree l.self.ends.nodes.items l.self.ends.width;
  room : length l.self.handlers.items ≤ l.self.ends.width;
  done : (k : ℕ) (h : Handler) → k < l.index → k < length l.self.handlers.items → get_or l.self.handlers.items k h ≡ h → leaf l.self.ends k ≡ h.end;
  after : (k : ℕ) → l.index ≤ k → leaf l.self.ends k ≡ 0;
  loud : l.self.quiet.1 ≡ 0;
}
