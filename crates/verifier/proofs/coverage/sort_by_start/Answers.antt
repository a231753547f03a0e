use Rattle.std.proofs.Common.{rules, ◌≡◌, ◌∙◌, subst}
use Rattle.std.specs.List.Sorted.{IsPermutation}
use Rattle.std.proofs.lemmas.List.Sorted.{IsNonDecreasingBy-from_sort_by_key}
use Rattle.modules.specs.declared.declaration.Handler.{Handler}
use Rattle.std.proofs.Common.{List, ◌++◌, ap}
use Rattle.verifier.proofs.coverage.sort_by_start.Goals as goal

pub returns : goal.returns
returns c =
    let all : c.extend_from_slice.new.self.items ≡ c.args.handlers.now = c.in_ok-extend_from_slice.ensures.items ∙ ap (λ (handlers : List Handler). handlers ++ c.args.handlers.now) c.clear.ensures.items in
    record {
      same = subst (λ handlers. IsPermutation handlers c.sort_by_key.new.self.items) all c.sort_by_key.ensures.permutation;
      rises = IsNonDecreasingBy-from_sort_by_key (λ h. h.start) _ c.in_ok-sort_by_key.ensures.sorted (λ a r q k. search rules);
    }
