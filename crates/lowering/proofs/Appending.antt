-- Code that is appended piece by piece, each piece made for the position at which it stands.
use Rattle.common.specs.Functions.{same_truth}
use Rattle.std.proofs.Common.{◌≡◌, ℕ, ◌+◌, List, [], ◌∷◌, ◌++◌, length, ap, ◌∙◌, sym, refl, arith, length-append, append_assoc}
use Rattle.modules.specs.declared.instruction.Instruction.{Instruction}
use Rattle.resolved.specs.declared.expression.Variable.{Variable}
use Rattle.common.specs.declared.operator.Connective.{Connective}
use Rattle.common.specs.declared.operator.Operator.{Operator}
use Rattle.resolved.specs.Tree.{Expression, Binary, Short}
use Rattle.lowering.specs.Expressions.{store_element_of, operator_instruction, value_size, value_code, rest_of_short, arguments_code, arguments_size, branch_code, branch_size, deciding}
use Rattle.std.specs.Prelude.{Bool, if◌then◌else◌}
use Rattle.lowering.proofs.Sizes.{value-sized, branch-sized}

-- how long code is after a piece of this many instructions
pub longer : {A : Type 0} (before after piece : List A) (n : ℕ) → after ≡ before ++ piece → length piece ≡ n → length after ≡ length before + n
longer before after piece n is size = ap length is ∙ (length-append before piece ∙ ap (λ m. length before + m) size)

-- two pieces, the second for the position after the first
pub both : {A : Type 0} (before middle after : List A) (first second : ℕ → List A) (n : ℕ)
    → middle ≡ before ++ first (length before) → length (first (length before)) ≡ n → after ≡ middle ++ second (length middle)
    → after ≡ before ++ (first (length before) ++ second (length before + n))
both before middle after first second n is size last =
    last
    ∙ (ap (λ m. middle ++ second m) (longer before middle (first (length before)) n is size)
    ∙ (ap (λ code. code ++ second (length before + n)) is ∙ append_assoc before (first (length before)) (second (length before + n))))

pub value_grown : (before after : List Instruction) (e : Expression) → after ≡ before ++ value_code (length before) e → length after ≡ length before + value_size e
value_grown before after e is = longer before after (value_code (length before) e) (value_size e) is (value-sized e (length before))

pub branch_grown : (before after : List Instruction) (wanted : Bool) (target : ℕ) (e : Expression) → after ≡ before ++ branch_code wanted (length before) target e → length after ≡ length before + branch_size wanted e
branch_grown before after wanted target e is =
    longer before after (branch_code wanted (length before) target e) (branch_size wanted e) is (branch-sized e wanted (length before) target)

pub ruleset growing = (value_grown, branch_grown)

pub short-branched : (before middle after : List Instruction) (left right : Expression) (connective : Connective) (e : Expression) (wanted decides : Bool) (target beyond inner : ℕ)
    → decides ≡ deciding connective → beyond ≡ length before + branch_size decides left + branch_size wanted right
    → inner ≡ (if same_truth wanted decides then target else beyond)
    → middle ≡ before ++ branch_code decides (length before) inner left
    → after ≡ middle ++ branch_code wanted (length middle) target right
    → e ≡ Short connective left right
    → after ≡ before ++ branch_code wanted (length before) target e
short-branched before middle after left right connective e wanted decides target beyond inner is_deciding is_after is_inner first second tree =
    let b = deciding connective in
    let position : beyond ≡ length before + branch_size b left + branch_size wanted right =
    is_after ∙ ap (λ (d : Bool). length before + branch_size d left + branch_size wanted right) is_deciding in
    let inner_is : inner ≡ (if same_truth wanted b then target else length before + branch_size b left + branch_size wanted right) =
    is_inner ∙ (ap (λ (d : Bool). if same_truth wanted d then target else beyond) is_deciding
    ∙ ap (λ (n : ℕ). if same_truth wanted b then target else n) position) in
    let first_is : middle ≡ before ++ branch_code b (length before) (if same_truth wanted b then target else length before + branch_size b left + branch_size wanted right) left =
    first ∙ (ap (λ (d : Bool). before ++ branch_code d (length before) inner left) is_deciding
    ∙ ap (λ (n : ℕ). before ++ branch_code b (length before) n left) inner_is) in
    both before middle after
    (λ at. branch_code b at (if same_truth wanted b then target else at + branch_size b left + branch_size wanted right) left)
    (λ at. branch_code wanted at target right) (branch_size b left)
    first_is (branch-sized left b (length before) _) second
    ∙ sym (ap (λ d. before ++ branch_code wanted (length before) target d) tree)

pub binary-pushed : (before middle next after : List Instruction) (left right : Expression) (operator : Operator) (i : Instruction) (e : Expression)
    → middle ≡ before ++ value_code (length before) left → next ≡ middle ++ value_code (length middle) right
    → i ≡ operator_instruction operator → after ≡ next ++ i ∷ [] → e ≡ Binary operator left right
    → after ≡ before ++ value_code (length before) e
binary-pushed before middle next after left right operator i e first second is last tree =
    let rest : after ≡ middle ++ (value_code (length middle) right ++ operator_instruction operator ∷ []) =
    last ∙ (ap (λ (j : Instruction). next ++ j ∷ []) is ∙ (ap (λ code. code ++ operator_instruction operator ∷ []) second
    ∙ append_assoc middle (value_code (length middle) right) (operator_instruction operator ∷ []))) in
    both before middle after (λ at. value_code at left) (λ at. value_code at right ++ operator_instruction operator ∷ []) (value_size left)
    first (value-sized left (length before)) rest
    ∙ sym (ap (λ d. before ++ value_code (length before) d) tree)

pub short-pushed : (before middle after : List Instruction) (left right : Expression) (connective : Connective) (e : Expression)
    → middle ≡ before ++ value_code (length before) left
    → after ≡ middle ++ rest_of_short connective (length middle) (value_size right) (λ at. value_code at right)
    → e ≡ Short connective left right
    → after ≡ before ++ value_code (length before) e
short-pushed before middle after left right connective e first second tree =
    both before middle after (λ at. value_code at left) (λ at. rest_of_short connective at (value_size right) (λ position. value_code position right)) (value_size left)
    first (value-sized left (length before)) second
    ∙ sym (ap (λ d. before ++ value_code (length before) d) tree)

-- where code that was added to some for arguments has got to: what is left of them is still to be added
pub record AreAdded (before : List Instruction) (all : List Expression) (now : List Instruction) (left : List Expression) : Type 0 where
  pub code : now ++ arguments_code (length now) left ≡ before ++ arguments_code (length before) all
  pub size : length now + arguments_size left ≡ length before + arguments_size all

pub one-argument : (before now after : List Instruction) (all left : List Expression) (e : Expression)
    → AreAdded before all now (e ∷ left) → after ≡ now ++ value_code (length now) e → AreAdded before all after left
one-argument before now after all left e so_far is = record {
  code = both now after (after ++ arguments_code (length after) left) (λ at. value_code at e) (λ at. arguments_code at left) (value_size e)
      is (value-sized e (length now)) refl ∙ so_far.code;
  size = omega (arith, value_grown now after e is, so_far.size);
}

pub store-pushed : (before middle after last : List Instruction) (index value : Expression) (array : Variable) (i : Instruction)
    → middle ≡ before ++ value_code (length before) index → after ≡ middle ++ value_code (length middle) value
    → i ≡ store_element_of array → last ≡ after ++ i ∷ []
    → last ≡ before ++ (value_code (length before) index ++ (value_code (length before + value_size index) value ++ store_element_of array ∷ []))
store-pushed before middle after last index value array i first second is made =
    let rest : last ≡ middle ++ (value_code (length middle) value ++ store_element_of array ∷ []) =
    made ∙ (ap (λ (j : Instruction). after ++ j ∷ []) is ∙ (ap (λ code. code ++ store_element_of array ∷ []) second
    ∙ append_assoc middle (value_code (length middle) value) (store_element_of array ∷ []))) in
    both before middle last (λ at. value_code at index) (λ at. value_code at value ++ store_element_of array ∷ []) (value_size index)
    first (value-sized index (length before)) rest
