-- Left sides to which joins were added.
use Rattle.std.proofs.Common.{arith, suc, map, ◌≡◌, refl, sym, ap, ◌∙◌, List, [], ◌∷◌, ◌++◌, Bool, true, false, not, ◌==◌, ◌||◌, ◌&&◌, ℕ, append_assoc, append-nil, take, length, get_or, ◌+◌, ◌<◌}
use Rattle.std.proofs.lemmas.Bool.Decides.{nat_tests}
use Rattle.std.proofs.Math.Bool.{or-true, or-false, or_assoc}
use Rattle.std.specs.Prelude.{if◌then◌else◌}
use Rattle.common.proofs.Cases.{map_next}
use Rattle.labels.specs.Label.{Label}
use Rattle.resolved.specs.declared.program.Core.{Core}
use Rattle.resolved.specs.CoreOf.{program_of}
use Rattle.resolved.specs.Program.{Program}
use Rattle.common.specs.declared.operator.Connective.{Connective}
use Rattle.common.specs.declared.operator.Operator.{Operator}
use Rattle.resolved.specs.Tree.{Expression, Binary, Short}
use Rattle.common.specs.declared.exceptions.TheConstants.{ARITH}
use Rattle.resolved.specs.Exits.{divisor_can_raise, is_division, operator_raises, raises, list_if}
use Rattle.resolved.specs.Labelled.{Join, Scope, any_of, value_label}
use Rattle.gathering.specs.Walk.{raise_atoms, raise_atoms_all}
use Rattle.solver.specs.declared.constraints.Atom.{Atom}
use Rattle.resolved.specs.declared.expression.Expression as E
use Rattle.resolved.specs.TreeOf.{expression_of}
use Rattle.constraints.specs.LeftSides.{IsJoined, scope_of, joined, left_parts}
use Rattle.constraints.specs.Added.{IsLeftFrom}

pub joined-append : (program : Program) (a b : Join) → joined program (a ++ b) ≡ joined program a ++ joined program b
joined-append program [] b = refl
joined-append program (atom ∷ a) b = ap (λ rest. joined program (atom ∷ []) ++ rest) (joined-append program a b)

-- one after the other
pub joined-then : (core : Core) (table : List Label) (a b : Join) (old middle new : List Atom)
    → IsJoined core table a old middle → IsJoined core table b middle new → IsJoined core table (a ++ b) old new
joined-then core table a b old middle new first second =
    let program : Program = program_of core in
    second ∙ (ap (λ xs. xs ++ joined program b) first
    ∙ (append_assoc (left_parts table old) (joined program a) (joined program b)
    ∙ ap (λ xs. left_parts table old ++ xs) (sym (joined-append program a b))))

pub joined-same : (core : Core) (table : List Label) (a b : Join) (old new : List Atom) → a ≡ b → IsJoined core table b old new → IsJoined core table a old new
joined-same core table a b old new same is = is ∙ ap (λ join. left_parts table old ++ joined (program_of core) join) (sym same)

-- whether there are any in lists that are put together
pub any-append : {A : Type 0} (xs ys : List A) → any_of (xs ++ ys) ≡ (any_of xs || any_of ys)
any-append [] ys = refl
any-append (x ∷ xs) ys = refl

not_zero : (k : ℕ) → suc k == 0 ≡ false
not_zero k = grind (arith, nat_tests)

-- there are any where there are any others with the same list of something
pub any-mapped : {A B C : Type 0} (f : A → C) (g : B → C) (xs : List A) (ys : List B) → map f xs ≡ map g ys
    → not (length xs == 0) ≡ any_of ys
any-mapped f g [] [] same = refl
any-mapped f g (x ∷ xs) (y ∷ ys) same = ap not (not_zero (length xs))
any-mapped f g [] (y ∷ ys) same = absurd (cc)
any-mapped f g (x ∷ xs) [] same = absurd (cc)

-- a join of two that were added one after the other
pub both : (core : Core) (table : List Label) (whole a b a' b' : Join) (old middle new : List Atom)
    → whole ≡ a ++ b → a' ≡ a → b' ≡ b → IsJoined core table a' old middle → IsJoined core table b' middle new → IsJoined core table whole old new
both core table whole a b a' b' old middle new is left right first second =
    joined-same core table whole (a ++ b) old new is
    (joined-then core table a b old middle new (joined-same core table a a' old middle (sym left) first) (joined-same core table b b' middle new (sym right) second))

-- what decides whether a binary operator raises, and whether it can
pub binary-atoms : (scope : Scope) (operator : Operator) (d e : Expression) (test : Bool) → (is_division operator && divisor_can_raise e) ≡ test
    → raise_atoms scope (Binary operator d e) ≡ raise_atoms scope d ++ (if test then value_label scope e else raise_atoms scope e)
binary-atoms scope operator d e test is = ap (λ b. raise_atoms scope d ++ (if b then value_label scope e else raise_atoms scope e)) is

pub short-atoms : (scope : Scope) (connective : Connective) (d e : Expression) (test : Bool) → any_of (raises e) ≡ test
    → raise_atoms scope (Short connective d e) ≡ raise_atoms scope e ++ (if test then value_label scope d else raise_atoms scope d)
short-atoms scope connective d e test is = ap (λ b. raise_atoms scope e ++ (if b then value_label scope d else raise_atoms scope d)) is

divides : (test : Bool) (x : ℕ) → any_of (list_if test (x ∷ [])) ≡ test
divides true x = refl
divides false x = refl

pub binary-raises : (operator : Operator) (d e : Expression)
    → any_of (raises (Binary operator d e)) ≡ (any_of (raises d) || (any_of (raises e) || (is_division operator && divisor_can_raise e)))
binary-raises operator d e =
    any-append (raises d ++ raises e) (operator_raises operator e)
    ∙ (ap (λ b. b || any_of (operator_raises operator e)) (any-append (raises d) (raises e))
    ∙ (or_assoc (any_of (raises d)) (any_of (raises e)) (any_of (operator_raises operator e))
    ∙ ap (λ b. any_of (raises d) || (any_of (raises e) || b)) (divides (is_division operator && divisor_can_raise e) ARITH)))

pub binary-true : (operator : Operator) (d e : Expression) → (is_division operator && divisor_can_raise e) ≡ true → true ≡ any_of (raises (Binary operator d e))
binary-true operator d e is =
    sym (binary-raises operator d e
    ∙ (ap (λ b. any_of (raises d) || (any_of (raises e) || b)) is
    ∙ (ap (λ b. any_of (raises d) || b) (or-true (any_of (raises e))) ∙ or-true (any_of (raises d)))))

pub binary-either : (operator : Operator) (d e : Expression) (first second result : Bool) → (is_division operator && divisor_can_raise e) ≡ false
    → first ≡ any_of (raises d) → second ≡ any_of (raises e) → result ≡ (first || second) → result ≡ any_of (raises (Binary operator d e))
binary-either operator d e first second result is left right joined-is =
    joined-is ∙ (ap (λ b. b || second) left ∙ (ap (λ b. any_of (raises d) || b) right
    ∙ sym (binary-raises operator d e
    ∙ (ap (λ b. any_of (raises d) || (any_of (raises e) || b)) is
    ∙ ap (λ b. any_of (raises d) || b) (or-false (any_of (raises e)))))))

pub short-true : (connective : Connective) (d e : Expression) → any_of (raises e) ≡ true → true ≡ any_of (raises (Short connective d e))
short-true connective d e is =
    sym (any-append (raises d) (raises e) ∙ (ap (λ b. any_of (raises d) || b) is ∙ or-true (any_of (raises d))))

-- one more of several expressions
all-append : (scope : Scope) (xs : List Expression) (x : Expression) → raise_atoms_all scope (xs ++ x ∷ []) ≡ raise_atoms_all scope xs ++ raise_atoms scope x
all-append scope [] x = append-nil (raise_atoms scope x)
all-append scope (y ∷ xs) x =
    ap (λ rest. raise_atoms scope y ++ rest) (all-append scope xs x)
    ∙ sym (append_assoc (raise_atoms scope y) (raise_atoms_all scope xs) (raise_atoms scope x))

pub raise-next : (core : Core) (table : List Label) (f : ℕ) (xs : List E.Expression) (i : ℕ) (x : E.Expression) (old middle new : List Atom)
    → i < length xs → x ≡ get_or xs i x
    → IsJoined core table (raise_atoms_all (scope_of core f) (map expression_of (take i xs))) old middle
    → IsJoined core table (raise_atoms (scope_of core f) (expression_of x)) middle new
    → IsJoined core table (raise_atoms_all (scope_of core f) (map expression_of (take (i + 1) xs))) old new
raise-next core table f xs i x old middle new inside is first second =
    let scope : Scope = scope_of core f in
    let before : List Expression = map expression_of (take i xs) in
    joined-same core table (raise_atoms_all scope (map expression_of (take (i + 1) xs))) (raise_atoms_all scope before ++ raise_atoms scope (expression_of x)) old new
    (ap (raise_atoms_all scope) (map_next expression_of xs i x inside is) ∙ all-append scope before (expression_of x))
    (joined-then core table (raise_atoms_all scope before) (raise_atoms scope (expression_of x)) old middle new first second)

-- a left side that begins with the pc
pub left-from : (core : Core) (table : List Label) (pc : Atom) (join : Join) (first left : List Atom)
    → first ≡ pc ∷ [] → IsJoined core table join first left → IsLeftFrom core table pc join left
left-from core table pc join first left is joined-is named stands =
    joined-is ∙ (ap (λ list. left_parts table list ++ joined (program_of core) join) is
    ∙ ap (λ p. p ∷ joined (program_of core) join) stands)
