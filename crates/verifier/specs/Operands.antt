-- Private: lists of kinds that are kept once each, and go by their numbers; and kinds as bits, of which 64 are compared at once.
-- Source: our own.
use Rattle.std.specs.Prelude.{◌≡◌, ◌≢◌, ℕ, zero, suc, ◌+◌, ◌*◌, ◌/◌, ◌<◌, ◌≤◌, List, [], ◌∷◌, ◌++◌, drop, length, map, slice_index_or, Option, Some, None}
use Rattle.common.specs.declared.base_type.BaseType.{BaseType}
use Rattle.common.specs.declared.base_type.BaseType.TheVariants.{Int, Boolean}
use Rattle.verifier.specs.declared.operands.Node.{Node}
use Rattle.verifier.specs.declared.operands.Top.{Top}
use Rattle.verifier.specs.declared.operands.Top.TheVariants as top

abbrev pub list_of : List (List BaseType) → ℕ → List BaseType
list_of lists k = slice_index_or lists k []

-- the list 0 is there and empty
abbrev pub StartsWithEmpty : List (List BaseType) → Type 0
StartsWithEmpty lists = (0 < length lists) × (list_of lists 0 ≡ [])

-- the list with this on top of another one; where nothing is on top, the empty one
abbrev pub on_top : Top → List BaseType → List BaseType
on_top top.Nothing kinds = []
on_top top.Int kinds = Int ∷ kinds
on_top top.Boolean kinds = Boolean ∷ kinds

-- the lists so far, and those that nodes make of them
abbrev pub spelled : List (List BaseType) → List Node → List (List BaseType)
spelled lists [] = lists
spelled lists (node ∷ nodes) = spelled (lists ++ on_top node.top (list_of lists node.below) ∷ []) nodes

-- lists were added
abbrev pub IsLonger : List (List BaseType) → List (List BaseType) → Type 0
IsLonger lists more = (added : List (List BaseType)) × (more ≡ lists ++ added)

-- for each list, where that with one more operand of a kind on it is, if it is there
pub record HasAbove (kind : BaseType) (lists : List (List BaseType)) (above : List (Option ℕ)) : Type 0 where
  pub long : length above ≡ length lists
  pub some : (k r : ℕ) → k < length lists → slice_index_or above k None ≡ Some r → (r < length lists) × (list_of lists r ≡ kind ∷ list_of lists k)
  pub none : (k : ℕ) → k < length lists → slice_index_or above k None ≡ None → (r : ℕ) → r < length lists → list_of lists r ≢ kind ∷ list_of lists k

-- ---- kinds as bits

abbrev pub bit : BaseType → ℕ
bit Int = 0
bit Boolean = 1

-- the first this many of some kinds, the first one as the lowest bit
abbrev pub packed : ℕ → List BaseType → ℕ
packed zero kinds = 0
packed (suc count) [] = 0
packed (suc count) (kind ∷ kinds) = bit kind + 2 * packed count kinds

-- kinds in this many blocks of 64, and in all that they fill
abbrev pub blocks : ℕ → List BaseType → List ℕ
blocks zero kinds = []
blocks (suc count) kinds = packed 64 kinds ∷ blocks count (drop 64 kinds)

abbrev pub full_blocks : List BaseType → List ℕ
full_blocks kinds = blocks (length kinds / 64) kinds

-- ---- nodes

-- the number of a list, where 0 stands for none
abbrev pub above_of : ℕ → Option ℕ
above_of zero = None
above_of (suc number) = Some (suc number)

-- for each node, the list with an int on its own, and that with a boolean
abbrev pub ints_of : List Node → List (Option ℕ)
ints_of nodes = map (λ node. above_of node.int) nodes

abbrev pub booleans_of : List Node → List (Option ℕ)
booleans_of nodes = map (λ node. above_of node.boolean) nodes

-- the node, once the list with one more operand of a kind is there
abbrev pub noted : BaseType → ℕ → Node → Node
noted Int above node = record node { int = above }
noted Boolean above node = record node { boolean = above }

-- a node gives the list with its number
pub record IsNode (lists : List (List BaseType)) (k : ℕ) (node : Node) : Type 0 where
  pub list : list_of lists k ≡ on_top node.top (list_of lists node.below)
  pub below : node.below ≤ k
  pub depth : node.depth ≡ length (list_of lists k)
  pub few : node.depth ≤ k
  pub bits : node.bits ≡ packed 64 (list_of lists k)
  pub skip : list_of lists node.skip ≡ drop 64 (list_of lists k)
  pub skips : node.skip ≤ k

-- nodes are shared: each list is there once, and is found from the list below
pub record IsShared (lists : List (List BaseType)) (nodes : List Node) (ints booleans : List (Option ℕ)) : Type 0 where
  pub some : 0 < length lists
  pub root : list_of lists 0 ≡ []
  pub long : length lists ≡ length nodes
  pub node : (k : ℕ) (d : Node) → k < length nodes → IsNode lists k (slice_index_or nodes k d)
  pub int_above : HasAbove Int lists ints
  pub boolean_above : HasAbove Boolean lists booleans
  pub distinct : (a b : ℕ) → a < length lists → b < length lists → list_of lists a ≡ list_of lists b → a ≡ b
