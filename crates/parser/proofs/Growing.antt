-- Where the levels of more tokens don't count, what was spelled still is.
use Rattle.std.proofs.Common.{◌⊎◌, ℕ, zero, suc, pred, ◌≤◌, ◌<◌, List, [], ◌∷◌, length, inl, inr, arith}
use Rattle.lexer.specs.Terminal.{Terminal}
use Rattle.parser.specs.ReadForm.{Form, give, one_of, level, ◌·◌, ◌or◌, many, ◌gives◌, Phrase, Many, means}
use Rattle.parser.specs.ReadSymbol.{Symbol, tree_of}
use Rattle.parser.specs.ReadGrammar.{production, within, Spelled}
use Rattle.parser.proofs.Derivations.{Inside}

abbrev Grows : Inside → Type 0
Grows i = (symbol : Symbol) (room n m : ℕ) → n ≤ m → (tokens : List Terminal) (tree : tree_of symbol) (rest : List Terminal) → i symbol room n tokens tree rest → i symbol room m tokens tree rest

many_grows : {A : Type 0} (P : Phrase A) (n m : ℕ) → ((tokens : List Terminal) (tree : A) (rest : List Terminal) → P n tokens tree rest → P m tokens tree rest) → (tokens : List Terminal) (trees : List A) (rest : List Terminal) → Many P n tokens trees rest → Many P m tokens trees rest
many_grows P n m f tokens [] rest h = h
many_grows P n m f tokens (tree ∷ trees) rest h = (h.0, f tokens tree h.0 h.1, many_grows P n m f h.0 trees rest h.2)

may_grow : (room n m k : ℕ) → n ≤ m → (0 < room) ⊎ (k < n) → (0 < room) ⊎ (k < m)
may_grow room n m k le (inl h) = inl h
may_grow room n m k le (inr h) = inr (omega (arith, le, h))

means_grow : (i : Inside) → Grows i → (room : ℕ) {A : Type 0} (F : Form A) (n m : ℕ) → n ≤ m → (tokens : List Terminal) (tree : A) (rest : List Terminal) → means i room F n tokens tree rest → means i room F m tokens tree rest
means_grow i f room (give value) n m le tokens tree rest h = h
means_grow i f room (one_of meaning) n m le tokens tree rest h = h
means_grow i f room (level meaning symbol) n m le tokens tree rest h = (
  h.0,
  h.1,
  may_grow room n m (length h.0) le h.2,
  f symbol (pred room) n m le h.0 tree.2 rest h.3,
)
means_grow i f room (F · G) n m le tokens tree rest h = (
  h.0,
  means_grow i f room F n m le tokens tree.0 h.0 h.1,
  means_grow i f room G n m le h.0 tree.1 rest h.2,
)
means_grow i f room (F or G) n m le tokens tree rest h = elim h [
  | inl one ↦ inl (means_grow i f room F n m le tokens tree rest one)
  | inr other ↦ inr (means_grow i f room G n m le tokens tree rest other)
]
means_grow i f room (many F) n m le tokens tree rest h =
    many_grows (means i room F) n m (λ tokens tree rest. means_grow i f room F n m le tokens tree rest) tokens tree rest h
means_grow i f room (F gives g) n m le tokens tree rest h =
    (h.0, means_grow i f room F n m le tokens h.0 rest h.1, h.2)

within_grows : (depth : ℕ) → Grows (within depth)
within_grows zero symbol room n m le tokens tree rest h = absurd h
within_grows (suc depth) symbol room n m le tokens tree rest h =
    means_grow (within depth) (within_grows depth) room (production symbol) n m le tokens tree rest h

pub grows : {A : Type 0} (F : Form A) (room n m : ℕ) → n ≤ m → (tokens : List Terminal) (tree : A) (rest : List Terminal) → Spelled F room n tokens tree rest → Spelled F room m tokens tree rest
grows F room n m le tokens tree rest h =
    (h.0, means_grow (within h.0) (within_grows h.0) room F n m le tokens tree rest h.1)
