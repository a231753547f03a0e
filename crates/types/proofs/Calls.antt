-- A call, by what its procedure and its arguments were found to be.
use Rattle.std.proofs.Common.{◌≡◌, ℕ, List, length, Option, Ok, ◌==◌, refl, sym, ◌∙◌, ap, subst, eq-eqb}
use Rattle.common.specs.Answers.{IfRefused}
use Rattle.common.specs.declared.base_type.BaseType.{BaseType}
use Rattle.common.specs.declared.fault.OrNoMemory.{OrNoMemory}
use Rattle.common.specs.declared.refusal.RefusalAt.{RefusalAt}
use Rattle.resolved.specs.Tree.{Expression}
use Rattle.syntax.specs.Tree.{NameTree, ExpressionTree}
use Rattle.types.specs.declared.fault.TypeRefusalKind.{TypeRefusalKind}
use Rattle.types.specs.declared.fault.TypeRefusalKind.TheVariants as refusals
use Rattle.types.specs.declared.scope.ItemKind.TheVariants.{Procedure}
use Rattle.types.specs.Environment.{Environment, use_as, item_of}
use Rattle.types.specs.Finding.{IsRefusalOf, require, give_if}
use Rattle.types.specs.Statements.{Signature, signature_at, arguments_finding, call_finding}
use Rattle.types.proofs.Loops.{then_ok, fails_later, fails_second}

module _ (signatures : List Signature) (names : Environment) (name : NameTree) (written : List ExpressionTree) (procedure : ℕ) (parameters : List BaseType)
    (found : use_as (item_of Procedure) (names name.text) name.at ≡ Ok procedure) (bases : parameters ≡ (signature_at signatures procedure).parameters)
    (counted : length parameters ≡ length written) where
  counted_there : require (length (signature_at signatures procedure).parameters == length written) refusals.WrongArgumentCount name.at ≡ Ok tt
  counted_there =
      ap (λ test. give_if test tt refusals.WrongArgumentCount name.at)
      (eq-eqb (length (signature_at signatures procedure).parameters) (length written) (ap length (sym bases) ∙ counted))

  pub call_found : (arguments : List Expression) (value : Option BaseType) → value ≡ (signature_at signatures procedure).result
      → arguments_finding names parameters written ≡ Ok arguments → call_finding signatures names (name, written) ≡ Ok (procedure, arguments, value)
  unfolding call_finding
  call_found arguments value gives e =
      then_ok _ _ procedure found ∙ then_ok _ _ tt counted_there
      ∙ then_ok _ _ arguments (subst (λ list. arguments_finding names list written ≡ Ok arguments) bases e)
      ∙ ap (λ result. Ok (procedure, arguments, result)) (sym gives)

  pub call_wrong : (fault : OrNoMemory (RefusalAt TypeRefusalKind)) → IfRefused (IsRefusalOf (arguments_finding names parameters written)) fault
      → IfRefused (IsRefusalOf (call_finding signatures names (name, written))) fault
  unfolding call_finding
  call_wrong fault wrong =
      fails_second _ _ procedure fault found
      (fails_second _ _ tt fault counted_there
      (fails_later _ _ fault (subst (λ list. IfRefused (IsRefusalOf (arguments_finding names list written)) fault) bases wrong)))
