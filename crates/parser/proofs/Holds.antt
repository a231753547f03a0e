-- What holds of the trees of a form: how many tokens they have, what holds of each token, and that levels are opened in the room.
use Rattle.lexer.specs.TokenKind.{word_of}
use Rattle.std.proofs.Common.{◌≡◌, ◌⊎◌, ℕ, zero, suc, pred, ◌+◌, ◌<◌, List, [], ◌∷◌, length, refl, sym, ap, subst, inl, inr, arith}
use Rattle.std.specs.Prelude.{Option, Some}
use Rattle.std.specs.List.{All}
use Rattle.std.proofs.lemmas.List.Elements.{All-head, All-tail}
use Rattle.lexer.specs.Terminal.{Terminal}
use Rattle.parser.specs.ReadForm.{Form, give, one_of, level, ◌·◌, ◌or◌, many, ◌gives◌, Phrase, Token, Many, means}
use Rattle.parser.specs.ReadSymbol.{Symbol, tree_of}
use Rattle.parser.specs.ReadGrammar.{production, within, Spelled}
use Rattle.parser.proofs.Derivations.{Inside}

abbrev pub Each : {A : Type 0} → (A → ℕ → Type 0) → List A → ℕ → Type 0
Each P [] k = k ≡ 0
Each P (tree ∷ trees) k = (i : ℕ) × (j : ℕ) × P tree i × Each P trees j × (k ≡ i + j)

-- what holds of each symbol's trees, where this many levels may be opened and there are this many tokens
abbrev pub Held : Type 1
Held = (symbol : Symbol) → ℕ → tree_of symbol → ℕ → Type 0

abbrev pub Holds : (T : Terminal → Type 0) (inside : Held) (room : ℕ) {A : Type 0} → Form A → A → ℕ → Type 0
Holds T inside room (give value) tree k = (tree ≡ value) × (k ≡ 0)
Holds T inside room (one_of meaning) found k = T found.0 × (meaning (word_of found.0.kind) ≡ Some found.1) × (k ≡ 1)
Holds T inside room (level meaning symbol) found k =
    (j : ℕ) × (0 < room) × T found.0 × inside symbol (pred room) found.2 j × (k ≡ 1 + j)
Holds T inside room (F · G) trees k =
    (i : ℕ) × (j : ℕ) × Holds T inside room F trees.0 i × Holds T inside room G trees.1 j × (k ≡ i + j)
Holds T inside room (F or G) tree k = Holds T inside room F tree k ⊎ Holds T inside room G tree k
Holds T inside room (many F) trees k = Each (Holds T inside room F) trees k
Holds T inside room (F gives f) tree k = (value : _) × Holds T inside room F value k × (tree ≡ f value)

-- what a spelling takes: this many tokens, and what is left is still all of T
pub record Taken (T : Terminal → Type 0) (P : ℕ → Type 0) (tokens rest : List Terminal) : Type 0 where
  pub count : ℕ
  pub holds : P count
  pub length_is : length tokens ≡ count + length rest
  pub rest_all : All T rest

opens : (room k : ℕ) → (0 < room) ⊎ (k < 0) → 0 < room
opens room k (inl h) = h
opens room k (inr h) = absurd (omega (arith, h))

module _ (T : Terminal → Type 0) (inside : Held) where
  token_taken : {A : Type 0} (meaning : List ℕ → Option A) (tokens : List Terminal) (found : Terminal × A) (rest : List Terminal) → Token meaning tokens found rest → All T tokens → T found.0 × All T rest × (length tokens ≡ 1 + length rest)
  token_taken meaning tokens found rest h all =
      let here = subst (All T) h.0 all in
      (All-head T found.0 rest here, All-tail T found.0 rest here, omega (arith, ap length h.0))

  many_taken : {A : Type 0} (P : Phrase A) (Q : A → ℕ → Type 0) → ((tokens : List Terminal) (tree : A) (rest : List Terminal) → P 0 tokens tree rest → All T tokens → Taken T (Q tree) tokens rest) → (tokens : List Terminal) (trees : List A) (rest : List Terminal) → Many P 0 tokens trees rest → All T tokens → Taken T (Each Q trees) tokens rest
  many_taken P Q f tokens [] rest h all = record { count = 0; holds = refl; length_is = omega (arith, ap length h); rest_all = subst (All T) (sym h) all }
  many_taken P Q f tokens (tree ∷ trees) rest h all =
      let one = f tokens tree h.0 h.1 all in
      let two = many_taken P Q f h.0 trees rest h.2 one.rest_all in
      record {
        count = one.count + two.count;
        holds = (one.count, two.count, one.holds, two.holds, refl);
        length_is = omega (arith, one.length_is, two.length_is);
        rest_all = two.rest_all;
      }

  taken_by : (i : Inside) → ((symbol : Symbol) (room : ℕ) (tokens : List Terminal) (tree : tree_of symbol) (rest : List Terminal) → i symbol room 0 tokens tree rest → All T tokens → Taken T (inside symbol room tree) tokens rest) → (room : ℕ) {A : Type 0} (F : Form A) (tokens : List Terminal) (tree : A) (rest : List Terminal) → means i room F 0 tokens tree rest → All T tokens → Taken T (Holds T inside room F tree) tokens rest
  taken_by i f room (give value) tokens tree rest h all =
      record { count = 0; holds = (h.0, refl); length_is = omega (arith, ap length h.1); rest_all = subst (All T) (sym h.1) all }
  taken_by i f room (one_of meaning) tokens tree rest h all =
      let here = token_taken meaning tokens tree rest h all in
      record { count = 1; holds = (here.0, h.1, refl); length_is = here.2; rest_all = here.1 }
  taken_by i f room (level meaning symbol) tokens tree rest h all =
      let here = token_taken meaning tokens (tree.0, tree.1) h.0 h.1 all in
      let inner = f symbol (pred room) h.0 tree.2 rest h.3 here.1 in
      record {
        count = 1 + inner.count;
        holds = (inner.count, opens room (length h.0) h.2, here.0, inner.holds, refl);
        length_is = omega (arith, here.2, inner.length_is);
        rest_all = inner.rest_all;
      }
  taken_by i f room (F · G) tokens tree rest h all =
      let one = taken_by i f room F tokens tree.0 h.0 h.1 all in
      let two = taken_by i f room G h.0 tree.1 rest h.2 one.rest_all in
      record {
        count = one.count + two.count;
        holds = (one.count, two.count, one.holds, two.holds, refl);
        length_is = omega (arith, one.length_is, two.length_is);
        rest_all = two.rest_all;
      }
  taken_by i f room (F or G) tokens tree rest h all = elim h [
    | inl one ↦ let t = taken_by i f room F tokens tree rest one all in record { count = t.count; holds = inl t.holds; length_is = t.length_is; rest_all = t.rest_all }
    | inr other ↦ let t = taken_by i f room G tokens tree rest other all in record { count = t.count; holds = inr t.holds; length_is = t.length_is; rest_all = t.rest_all }
  ]
  taken_by i f room (many F) tokens tree rest h all =
      many_taken (means i room F) (Holds T inside room F) (λ tokens tree rest. taken_by i f room F tokens tree rest) tokens tree rest h all
  taken_by i f room (F gives g) tokens tree rest h all =
      let t = taken_by i f room F tokens h.0 rest h.1 all in
      record { count = t.count; holds = (h.0, t.holds, h.2); length_is = t.length_is; rest_all = t.rest_all }

  -- where what holds of each symbol's form holds of the symbol, it holds of every tree
  module _ (step : (symbol : Symbol) (room : ℕ) (tree : tree_of symbol) (k : ℕ) → Holds T inside room (production symbol) tree k → inside symbol room tree k) where
    within_taken : (depth : ℕ) (symbol : Symbol) (room : ℕ) (tokens : List Terminal) (tree : tree_of symbol) (rest : List Terminal) → within depth symbol room 0 tokens tree rest → All T tokens → Taken T (inside symbol room tree) tokens rest
    within_taken zero symbol room tokens tree rest h all = absurd h
    within_taken (suc depth) symbol room tokens tree rest h all =
        let t = taken_by (within depth) (within_taken depth) room (production symbol) tokens tree rest h all in
        record { count = t.count; holds = step symbol room tree t.count t.holds; length_is = t.length_is; rest_all = t.rest_all }

    pub spelled_taken : {A : Type 0} (F : Form A) (room : ℕ) (tokens : List Terminal) (tree : A) (rest : List Terminal) → Spelled F room 0 tokens tree rest → All T tokens → Taken T (Holds T inside room F tree) tokens rest
    spelled_taken F room tokens tree rest h all =
        taken_by (within h.0) (within_taken h.0) room F tokens tree rest h.1 all
