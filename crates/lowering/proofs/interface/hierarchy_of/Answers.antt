use Rattle.std.proofs.Common.{◌≡◌, ℕ, map, List, length, sym, ap, ◌∙◌, subst, arith}
use Rattle.std.specs.Prelude.{All}
use Rattle.std.specs.String.{string_bytes}
use Rattle.std.proofs.lemmas.List.{take_all, length-map}
use Rattle.std.proofs.lemmas.List.Filters.{dedup_is}
use Rattle.principals.specs.ActsFor.{AllDifferent, AllBelow}
use Rattle.principals.specs.Named.{IsKeptName}
use Rattle.labels.specs.Sets.{ascending_set}
use Rattle.modules.specs.Format.{pair_cmp}
use Rattle.lowering.proofs.Lists.{copied_more}
use Rattle.lowering.proofs.Hierarchies.{same_pair, pairs_made, pairs_below, hierarchy_made}
use Rattle.lowering.proofs.interface.hierarchy_of.Goals as goal
use Rattle.lowering.proofs.interface.hierarchy_of.Goals.{After-dedup}

pub loop-name-preserved : goal.loop-name-preserved
loop-name-preserved c =
    copied_more (λ name. string_bytes name) c.names-name-items.result.now c.loop-name.names.items c.push.new.self.items c.loop-name.name-index c.name-item.result c.in_ok-clone.field-0
    c.loop-name-test.true c.name-item.is c.in_ok-push.ensures.items c.loop-name.invariant c.in_ok-clone.ensures.cases

names_are : (c : After-dedup) → map (λ name. string_bytes name) c.loop-name.names.items ≡ c.args.hierarchy.now.names
names_are c =
    c.loop-name.invariant
    ∙ ap (map (λ name. string_bytes name)) (take_all c.loop-name.name-index c.names-name-items.result.now c.loop-name-test.false)
    ∙ c.names-name-items.ensures

pairs_are : (c : After-dedup) → c.dedup.new.self.items ≡ ascending_set pair_cmp c.args.hierarchy.now.pairs
pairs_are c =
    pairs_made c.in_ok-pairs.pairs.items c.sort_unstable.new.self.items c.dedup.new.self.items c.sort_unstable.ensures.permutation c.sort_unstable.ensures.sorted
    (dedup_is same_pair c.sort_unstable.new.self.items c.dedup.new.self.items c.dedup.ensures.filtered)
    ∙ ap (ascending_set pair_cmp) (c.in_ok-pairs.ensures.items ∙ c.pairs.ensures)

count_is : (c : After-dedup) → length c.args.hierarchy.now.names ≡ c.loop-name.names.len
count_is c = ap length (sym (names_are c)) ∙ length-map c.loop-name.names.items (λ name. string_bytes name) ∙ sym c.loop-name.names.ok.0

pub of-requires-clause-few : goal.of-requires-clause-few
of-requires-clause-few c = omega (arith, count_is c, c.count-kept.ensures.kept.few)

pub of-requires-clause-different : goal.of-requires-clause-different
of-requires-clause-different c = subst AllDifferent (sym (names_are c)) c.count-kept.ensures.kept.different

pub of-requires-clause-named : goal.of-requires-clause-named
of-requires-clause-named c = subst (All IsKeptName) (sym (names_are c)) c.count-kept.ensures.named

pub of-requires-clause-there : goal.of-requires-clause-there
of-requires-clause-there c =
    subst (λ (n : ℕ). AllBelow n c.dedup.new.self.items) (count_is c)
    (subst (λ (pairs : List (ℕ × ℕ)). AllBelow (length c.args.hierarchy.now.names) pairs) (sym (pairs_are c))
    (pairs_below (length c.args.hierarchy.now.names) c.args.hierarchy.now.pairs c.count-kept.ensures.kept.there))

pub returns : goal.returns
returns c =
    hierarchy_made c.of.result c.args.hierarchy.now (map (λ name. string_bytes name) c.loop-name.names.items) c.dedup.new.self.items (names_are c.before) (pairs_are c.before) c.of.ensures.names c.of.ensures.pairs
