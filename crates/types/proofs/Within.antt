-- The items of a program: how many they are, and that each is written as the program is and has no more nodes.
use Rattle.std.proofs.Common.{◌≡◌, ℕ, ◌+◌, ◌<◌, ◌≤◌, List, [], ◌∷◌, drop, map, length, get_or, sym, ◌∙◌, ap, subst, sum_by, arith}
use Rattle.std.specs.Prelude.{All}
use Rattle.std.proofs.lemmas.List.{drop_more, length-map, get_or-map}
use Rattle.std.proofs.lemmas.List.Elements.{All-get_or}
use Rattle.std.proofs.lemmas.List.Sums.{sum_by-cons}
use Rattle.syntax.specs.declared.tree.Item.{Item}
use Rattle.syntax.specs.Nodes.{item_nodes}
use Rattle.syntax.specs.Tree.{ItemTree, ChannelItem, ExceptionItem, GlobalItem, ProcedureItem, item_tree}
use Rattle.syntax.specs.Written.{IsInteger, IsWrittenItem}

item_costs : (item : ItemTree) → 1 ≤ item_nodes item
item_costs (ChannelItem at way label called) = omega arith
item_costs (ExceptionItem at name) = omega arith
item_costs (GlobalItem at typed label called value) = omega arith
item_costs (ProcedureItem procedure) = omega arith

trees_within : (items : List ItemTree) → length items ≤ sum_by item_nodes items
trees_within [] = omega arith
trees_within (item ∷ items) = omega (arith, sum_by-cons item_nodes item items, item_costs item, trees_within items)

pub items_within : (items : List Item) → length items ≤ sum_by item_nodes (map item_tree items)
items_within items = omega (arith, trees_within (map item_tree items), length-map items item_tree)

module _ (items : List Item) (i : ℕ) (item : Item) (is : item ≡ get_or items i item) (within : i < length items) where
  inside : i < length (map item_tree items)
  inside = omega (arith, length-map items item_tree)

  same : get_or (map item_tree items) i (item_tree item) ≡ item_tree item
  same = get_or-map item_tree items i item (item_tree item) within ∙ sym (ap item_tree is)

  pub item_written : (fits : ℕ → Type 0) (word : List ℕ → Type 0) → All (IsWrittenItem fits word IsInteger) (map item_tree items) → IsWrittenItem fits word IsInteger (item_tree item)
  item_written fits word all =
      subst (IsWrittenItem fits word IsInteger) same
      (All-get_or (IsWrittenItem fits word IsInteger) (map item_tree items) i (item_tree item) inside all)

  -- the nodes of the next item, and of those after it
  pub next_nodes : sum_by item_nodes (map item_tree (drop i items)) ≡ item_nodes (item_tree item) + sum_by item_nodes (map item_tree (drop (i + 1) items))
  next_nodes =
      ap (λ list. sum_by item_nodes (map item_tree list)) (drop_more items i item within ∙ ap (λ one. one ∷ drop (i + 1) items) (sym is))
      ∙ sum_by-cons item_nodes (item_tree item) (map item_tree (drop (i + 1) items))
