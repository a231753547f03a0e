-- What the parser answers, from what reading a program gives.
use Rattle.std.proofs.Common.{◌≡◌, ◌≤◌, List, length, Result, Ok, Err, sym, subst, arith}
use Rattle.std.proofs.lemmas.List.{length-map}
use Rattle.lexer.specs.declared.token.Token.{Token}
use Rattle.lexer.specs.Terminal.{IsTerminated, terminal_of, terminals_of}
use Rattle.common.specs.declared.fault.OrNoMemory.{OrNoMemory}
use Rattle.common.specs.declared.fault.OrNoMemory.TheVariants.{NoMemory, Refused}
use Rattle.common.specs.declared.refusal.RefusalAt.{RefusalAt}
use Rattle.parser.specs.declared.fault.ParseRefusalKind.{ParseRefusalKind}
use Rattle.common.specs.Answers.{IfRefused}
use Rattle.common.proofs.Casting.{refused-weaker}
use Rattle.parser.specs.Reading.{IsRead, read}
use Rattle.parser.specs.Refusal.{AreTokensRefused}
use Rattle.syntax.specs.declared.tree.Item.{Item}
use Rattle.syntax.specs.Grammar.{SpellsProgram}
use Rattle.parser.specs.ReadGrammar.{program}
use Rattle.syntax.specs.Nesting.{IsNested}
use Rattle.syntax.specs.Nodes.{program_nodes}
use Rattle.syntax.specs.Tree.{ProgramTree, program_tree}
use Rattle.parser.proofs.Programs.{Verdict, verdict}
use Rattle.parser.proofs.Refusals.{one_refusal, spelled_not_refused}
use Rattle.parser.proofs.Spelled.{few_nodes, spelled_nested}

-- what is said of the items, and of the fault, by what reading gives
module _ (tokens : List Token) (terminated : IsTerminated (terminals_of tokens)) where
  abbrev WasRead : Result (List Item) (OrNoMemory (RefusalAt ParseRefusalKind)) → List Token → Type 0
  WasRead result left = IsRead program_tree result left (read 64 program (terminals_of tokens))

  pub items_spelled : (items : List Item) (left : List Token) → WasRead (Ok items) left → SpellsProgram (terminals_of tokens) (program_tree items)
  items_spelled items left e = (subst (Verdict (terminals_of tokens)) e (verdict (terminals_of tokens) terminated)).0

  pub items_only : (items : List Item) (left : List Token) → WasRead (Ok items) left → (tree : ProgramTree) → SpellsProgram (terminals_of tokens) tree → program_tree items ≡ tree
  items_only items left e tree spelled =
      sym ((subst (Verdict (terminals_of tokens)) e (verdict (terminals_of tokens) terminated)).2 0 tree spelled)

  pub items_bounded : (items : List Item) (left : List Token) → WasRead (Ok items) left → program_nodes (program_tree items) ≤ length tokens
  items_bounded items left e =
      omega (arith, few_nodes (terminals_of tokens) (program_tree items) (items_spelled items left e), length-map tokens terminal_of)

  pub items_nested : (items : List Item) (left : List Token) → WasRead (Ok items) left → IsNested 64 (program_tree items)
  items_nested items left e =
      spelled_nested (terminals_of tokens) (program_tree items) (items_spelled items left e)

  pub items_not_refused : (items : List Item) (left : List Token) → WasRead (Ok items) left → (refusal : RefusalAt ParseRefusalKind) → AreTokensRefused (terminals_of tokens) refusal → ⊥
  items_not_refused items left e refusal refused =
      spelled_not_refused (terminals_of tokens) (program_tree items) refusal (items_spelled items left e) refused

  pub fault_refused : (fault : OrNoMemory (RefusalAt ParseRefusalKind)) (left : List Token) → WasRead (Err fault) left → IfRefused (AreTokensRefused (terminals_of tokens)) fault
  fault_refused NoMemory left e = tt
  fault_refused (Refused refusal) left e =
      (subst (Verdict (terminals_of tokens)) e (verdict (terminals_of tokens) terminated)).0

  pub fault_complete : (fault : OrNoMemory (RefusalAt ParseRefusalKind)) (left : List Token) → WasRead (Err fault) left → (tree : ProgramTree)
      → SpellsProgram (terminals_of tokens) tree → IfRefused (λ _. ⊥) fault
  fault_complete fault left e tree spelled =
      refused-weaker (AreTokensRefused (terminals_of tokens)) (λ _. ⊥) (λ r h. spelled_not_refused (terminals_of tokens) tree r spelled h) fault
      (fault_refused fault left e)

  pub fault_first : (fault : OrNoMemory (RefusalAt ParseRefusalKind)) (left : List Token) → WasRead (Err fault) left → (other : RefusalAt ParseRefusalKind)
      → AreTokensRefused (terminals_of tokens) other → IfRefused (λ found. found ≡ other) fault
  fault_first fault left e other refused =
      refused-weaker (AreTokensRefused (terminals_of tokens)) (λ found. found ≡ other) (λ r h. one_refusal (terminals_of tokens) r other h refused) fault
      (fault_refused fault left e)
