-- The names of the items of a tree that tokens spell are texts of tokens.
use Prim.Native.String.{String}
use Rattle.std.proofs.Common.{ℕ, List, [], ◌∷◌, sym, subst, inl, inr}
use Rattle.std.specs.Prelude.{All, IsUtf8}
use Rattle.std.proofs.lemmas.List.Elements.{All-nil, All-cons}
use Rattle.lexer.specs.Terminal.{Terminal}
use Rattle.parser.specs.ReadForm.{Form, many, ◌·◌}
use Rattle.syntax.specs.Grammar.{SpellsProgram}
use Rattle.parser.specs.ReadGrammar.{at, ◌◂◌, base, name, label, direction, written_result, item, program, optional, some, parameter}
use Rattle.parser.specs.Parts.{procedure, global, exception, channel, global_value}
use Rattle.syntax.specs.Tree.{NameTree, ItemTree, ProgramTree}
use Rattle.parser.proofs.Holds.{Each, Held, Holds, spelled_taken}
use Rattle.parser.proofs.Productions.{as_paired}
use Rattle.types.specs.Laws.{HasUtf8Names}
use Rattle.types.specs.Resolution.{item_name}

abbrev IsText : Terminal → Type 0
IsText token = IsUtf8 token.text

-- nothing is said of the trees of symbols
abbrev Nothing : Held
Nothing symbol room tree k = Unit {0}

abbrev IsNamed : ItemTree → Type 0
IsNamed item = IsUtf8 (item_name item).text

module _ (room : ℕ) where
  abbrev Having : {A : Type 0} → Form A → A → ℕ → Type 0
  Having F tree k = Holds IsText Nothing room F tree k

  before : {A : Type 0} (F : Form A) (text : String) (tree : A) (k : ℕ) → Having (F ◂ text) tree k → (i : ℕ) × Having F tree i
  before F text tree k h = let both = h.1 in (both.0, subst (λ t. Having F t both.0) (sym h.2) both.2)

  name_text : (tree : NameTree) (k : ℕ) → Having name tree k → IsUtf8 tree.text
  unfolding name
  name_text tree k h = subst (λ (t : NameTree). IsUtf8 t.text) (sym h.2) h.1.0

  channel_named : (tree : ItemTree) (k : ℕ) → Having channel tree k → IsNamed tree
  unfolding channel
  channel_named tree k h =
      let line = before (direction · label · name) ";" h.0 k h.1 in
      let both = line.1 in
      subst IsNamed (sym h.2) (name_text h.0.1 both.1 both.3)

  exception_named : (tree : ItemTree) (k : ℕ) → Having exception tree k → IsNamed tree
  unfolding exception
  exception_named tree k h =
      let line = before (at "exception" · name) ";" h.0 k h.1 in
      let both = line.1 in
      subst IsNamed (sym h.2) (name_text h.0.1 both.1 both.3)

  global_named : (tree : ItemTree) (k : ℕ) → Having global tree k → IsNamed tree
  unfolding global global_value
  global_named tree k h =
      let line = before (at "global" · base · label · name · global_value) ";" h.0 k h.1 in
      let both = line.1 in
      let front = both.2 in
      subst IsNamed (sym h.2) (name_text h.0.0.1 front.1 front.3)

  procedure_named : (tree : ItemTree) (k : ℕ) → Having procedure tree k → IsNamed tree
  unfolding procedure
  procedure_named tree k h =
      let throwing = h.1.2 in
      let ending = throwing.2 in
      let close = before (written_result · name · optional label ◂ "(" · some "," parameter) ")" h.0.0.0.0 ending.0 ending.2 in
      let taking = close.1 in
      let front = before (written_result · name · optional label) "(" h.0.0.0.0.0 taking.0 taking.2 in
      let named = front.1.2 in
      subst IsNamed (sym h.2) (name_text h.0.0.0.0.0.0.1 named.1 named.3)

  item_named : (tree : ItemTree) (k : ℕ) → Having item tree k → IsNamed tree
  unfolding item channel exception global global_value procedure
  item_named tree k h = elim h [
    | inl one ↦ channel_named tree k one
    | inr h ↦ elim h [
      | inl one ↦ exception_named tree k one
      | inr h ↦ elim h [ inl one ↦ global_named tree k one | inr one ↦ procedure_named tree k one ]
    ]
  ]

  items_named : (trees : List ItemTree) (k : ℕ) → Each (Having item) trees k → All IsNamed trees
  items_named [] k h = All-nil IsNamed
  items_named (tree ∷ trees) k h = All-cons IsNamed tree trees (item_named tree h.0 h.2) (items_named trees h.1 h.3)

  program_named : (tree : ProgramTree) (k : ℕ) → Having program tree k → HasUtf8Names tree
  unfolding program
  program_named tree k h =
      let inner = before (many item) "the end" h.0 k h.1 in
      subst HasUtf8Names (sym h.2) (items_named h.0 inner.0 inner.1)

pub spelled_named : (tokens : List Terminal) (tree : ProgramTree) → SpellsProgram tokens tree → All IsText tokens → HasUtf8Names tree
spelled_named tokens tree spelled all =
    let taken = spelled_taken IsText Nothing (λ symbol room tree k h. tt) program 64 tokens tree [] (as_paired 0 tokens tree spelled) all in
    program_named 64 tree taken.count taken.holds
