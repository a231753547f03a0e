-- Expressions in two states that are the same for an observer: who reads the raise label finds the same exception in both or none
-- in both, and who reads the value label too finds the same value.
use Rattle.std.proofs.Common.{◌≡◌, refl, sym, ap, ◌∙◌, ℕ, Bool, true, false, ◌&&◌, List, [], ◌∷◌, ◌++◌, ℤ}
use Rattle.std.specs.Prelude.{Some, None, if◌then◌else◌, flat_map, nat_abs}
use Rattle.principals.specs.ActsFor.{PrincipalHierarchy}
use Rattle.common.specs.declared.value.Value.{Value}
use Rattle.common.specs.declared.value.Value.TheVariants.{Int as Number, Bool as Truth}
use Rattle.common.specs.declared.operator.Operator.{Operator}
use Rattle.common.specs.declared.operator.Operator.TheVariants.{Compute, Compare, Match}
use Rattle.common.specs.declared.operator.Arithmetic.TheVariants.{Add, Subtract, Multiply, Divide, Remainder, Bits}
use Rattle.common.specs.declared.operator.Connective.{Connective}
use Rattle.resolved.specs.Tree.{Expression, Integer, Logical, Read, Element, Unary, Binary, Short}
use Rattle.common.specs.Values.{number_in}
use Rattle.common.specs.Operators.{prefix_value}
use Rattle.resolved.specs.Value.{Evaluated, Yields, Raises, then_with, literal_number, or_arith, operator_evaluated, decides, in_range, checked_index}
use Rattle.resolved.specs.SourceState.{SourceState, cells, cell_at, value_of, values_of}
use Rattle.resolved.specs.Exits.{index_can_raise, divisor_can_raise, is_division, raises, list_if}
use Rattle.resolved.specs.Labelled.{Scope, variable_label, value_label, raise_label, any_of, Labelling, Join}
use Rattle.isolation.proofs.Among.{RaisesAmong, expression-raises, index-in_range, divisor-not_zero}
use Rattle.isolation.proofs.Observer.{Reader, view_of, AgreeFor, read-left, read-right}
use Rattle.common.specs.Integers.{is_zero}
use Rattle.common.specs.declared.exceptions.TheConstants.{ARITH, BOUNDS}

-- two evaluations: both give values that are related, or both raise the same exception
pub data Alike {A B : Type 0} (P : A → B → Type 0) : Evaluated A → Evaluated B → Type 0 where
  both_give : (v : A) (w : B) → P v w → Alike P (Yields v) (Yields w)
  both_raise : (x : ℕ) → Alike P (Raises x) (Raises x)

-- the same value where a test holds
abbrev pub SameIf : {A : Type 0} → Bool → A → A → Type 0
SameIf b v w = b ≡ true → v ≡ w

alike-then : {A B : Type 0} (P : A → A → Type 0) (Q : B → B → Type 0) (o p : Evaluated A) (next further : A → Evaluated B) →
    Alike P o p → ((v w : A) → o ≡ Yields v → p ≡ Yields w → P v w → Alike Q (next v) (further w)) →
    Alike Q (then_with o next) (then_with p further)
alike-then P Q o p next further (both_give v w h) rest = rest v w refl refl h
alike-then P Q o p next further (both_raise x) rest = both_raise x

alike-weaker : {A : Type 0} (P Q : A → A → Type 0) (o p : Evaluated A) → ((v w : A) → P v w → Q v w) → Alike P o p → Alike Q o p
alike-weaker P Q o p weaker (both_give v w h) = both_give v w (weaker v w h)
alike-weaker P Q o p weaker (both_raise x) = both_raise x

-- a label under a test that holds
pub read-list_if : {h : PrincipalHierarchy} {labelling : Labelling} (reader : Reader h labelling) (test : Bool) (label : Join) →
    reader.reads (list_if test label) ≡ true → test ≡ true → reader.reads label ≡ true
read-list_if reader test label h e = rw e at h

pub index-alike : (s t : SourceState) (index : Expression) (len : ℕ) (b : Bool) (v w : Value) →
    (index_can_raise index len ≡ true → b ≡ true) → value_of s index ≡ Yields v → value_of t index ≡ Yields w → SameIf b v w →
    Alike (SameIf b) (checked_index v len) (checked_index w len)
index-alike s t index len b v w covered f g same = go (index_can_raise index len) refl
  where
    reflexive : (v : Value) → Alike (SameIf b) (checked_index v len) (checked_index v len)
    reflexive v = cases (in_range (number_in v) len) refl
      where
        cases : (c : Bool) → in_range (number_in v) len ≡ c → Alike (SameIf b) (checked_index v len) (checked_index v len)
        cases true e = rw e (both_give (nat_abs (number_in v)) (nat_abs (number_in v)) (λ i. refl))
        cases false e = rw e (both_raise BOUNDS)

    go : (c : Bool) → index_can_raise index len ≡ c → Alike (SameIf b) (checked_index v len) (checked_index w len)
    go true e = rw (same (covered e)) (reflexive w)
    go false e =
        let left : in_range (number_in v) len ≡ true = index-in_range s index len v e f in
        let right : in_range (number_in w) len ≡ true = index-in_range t index len w e g in
        rw (left, right) (both_give (nat_abs (number_in v)) (nat_abs (number_in w)) (λ i. ap (λ x. nat_abs (number_in x)) (same i)))

division-alike : (b : Bool) (d e : ℤ) (m n : ℤ) → is_zero d ≡ is_zero e → SameIf b m n →
    Alike (SameIf b) (or_arith (if is_zero d then None else Some m)) (or_arith (if is_zero e then None else Some n))
division-alike b d e m n no_zero same = go (is_zero e) refl
  where
    go : (c : Bool) → is_zero e ≡ c → Alike (SameIf b) (or_arith (if is_zero d then None else Some m)) (or_arith (if is_zero e then None else Some n))
    go true f = rw (no_zero, f) (both_raise ARITH)
    go false f = rw (no_zero, f) (both_give (Number m) (Number n) (λ i. ap (λ x. Number x) (same i)))

operator-alike : (b : Bool) (operator : Operator) (v w v' w' : Value) →
    (is_division operator ≡ true → is_zero (number_in w) ≡ is_zero (number_in w')) → SameIf b v v' → SameIf b w w' →
    Alike (SameIf b) (operator_evaluated operator v w) (operator_evaluated operator v' w')
operator-alike b (Compute Add) v w v' w' no_zero left right = both_give _ _ (λ i. rw (left i, right i) refl)
operator-alike b (Compute Subtract) v w v' w' no_zero left right = both_give _ _ (λ i. rw (left i, right i) refl)
operator-alike b (Compute Multiply) v w v' w' no_zero left right = both_give _ _ (λ i. rw (left i, right i) refl)
operator-alike b (Compute Divide) v w v' w' no_zero left right = division-alike b (number_in w) (number_in w') _ _ (no_zero refl)
    (λ i. rw (left i, right i) refl)
operator-alike b (Compute Remainder) v w v' w' no_zero left right = division-alike b (number_in w) (number_in w') _ _ (no_zero refl)
    (λ i. rw (left i, right i) refl)
operator-alike b (Compute (Bits operator)) v w v' w' no_zero left right = both_give _ _ (λ i. rw (left i, right i) refl)
operator-alike b (Compare comparison) v w v' w' no_zero left right = both_give _ _ (λ i. rw (left i, right i) refl)
operator-alike b (Match sameness) v w v' w' no_zero left right = both_give _ _ (λ i. rw (left i, right i) refl)

-- whether a divisor is 0 is the same in both, if it can be
divisor-alike : (s t : SourceState) (e : Expression) (b : Bool) (w w' : Value) → (divisor_can_raise e ≡ true → b ≡ true) →
    value_of s e ≡ Yields w → value_of t e ≡ Yields w' → SameIf b w w' → is_zero (number_in w) ≡ is_zero (number_in w')
divisor-alike s t e b w w' covered f g same = go (divisor_can_raise e) refl
  where
    go : (c : Bool) → divisor_can_raise e ≡ c → is_zero (number_in w) ≡ is_zero (number_in w')
    go true i = ap (λ x. is_zero (number_in x)) (same (covered i))
    go false i = divisor-not_zero s e w i f ∙ sym (divisor-not_zero t e w' i g)

-- what can raise nothing gives a value
gives-value : {A : Type 0} (xs : List ℕ) (o : Evaluated A) → any_of xs ≡ false → RaisesAmong xs o → (v : A) × (o ≡ Yields v)
gives-value [] (Yields v) e h = (v, refl)
gives-value [] (Raises x) e h = let i : true ≡ false = sym (h.among x refl) in absurd (cc)
gives-value (y ∷ xs) o e h = let i : true ≡ false = e in absurd (cc)

short-gives : (test : Bool) (v : Value) (o : Evaluated Value) → (w : Value) × (o ≡ Yields w) →
    (u : Value) × ((if test then Yields v else o) ≡ Yields u)
short-gives true v o h = (v, refl)
short-gives false v o h = h

alike-gives : {A : Type 0} (P : A → A → Type 0) (o p : Evaluated A) → (v : A) × (o ≡ Yields v) → (w : A) × (p ≡ Yields w) →
    ((v w : A) → P v w) → Alike P o p
alike-gives P o p h i each = rw (h.1, i.1) (both_give h.0 i.0 (each h.0 i.0))

short-alike : (connective : Connective) (b c : Bool) (xs : List ℕ) (v w : Value) (o p : Evaluated Value) → SameIf b v w →
    (any_of xs ≡ true → b ≡ true) → (c ≡ true → b ≡ true) → RaisesAmong xs o → RaisesAmong xs p → Alike (SameIf c) o p →
    Alike (SameIf c) (if decides connective v then Yields v else o) (if decides connective w then Yields w else p)
short-alike connective true c xs v w o p same covered more h i alike = rw (same refl) (go (decides connective w))
  where
    go : (d : Bool) → Alike (SameIf c) (if d then Yields w else o) (if d then Yields w else p)
    go true = both_give w w (λ j. refl)
    go false = alike
short-alike connective false c xs v w o p same covered more h i alike =
    alike-gives (SameIf c) (if decides connective v then Yields v else o) (if decides connective w then Yields w else p)
    (short-gives (decides connective v) v o (gives-value xs o (none (any_of xs) refl) h))
    (short-gives (decides connective w) w p (gives-value xs p (none (any_of xs) refl) i))
    (λ x y j. let k : false ≡ true = more j in absurd (cc))
  where
    none : (d : Bool) → any_of xs ≡ d → any_of xs ≡ false
    none true e = let k : false ≡ true = covered e in absurd (cc)
    none false e = e

pub expression-alike : {h : PrincipalHierarchy} {labelling : Labelling} (reader : Reader h labelling) (scope : Scope) (s t : SourceState) →
    AgreeFor (view_of reader scope) s t → (e : Expression) → reader.reads (raise_label scope e) ≡ true →
    Alike (SameIf (reader.reads (value_label scope e))) (value_of s e) (value_of t e)
expression-alike reader scope s t agree (Integer n) reads = both_give (Number (literal_number n)) (Number (literal_number n)) (λ i. refl)
expression-alike reader scope s t agree (Logical b) reads = both_give (Truth b) (Truth b) (λ i. refl)
expression-alike reader scope s t agree (Read x) reads =
    both_give (cell_at (cells s x) 0) (cell_at (cells t x) 0) (λ i. ap (λ l. cell_at l 0) (agree.variables x i))
expression-alike reader scope s t agree (Element array len index) reads =
    let c : Join = variable_label scope array in
    let l : Join = value_label scope index in
    let test : Bool = index_can_raise index len in
    let covered : test ≡ true → reader.reads l ≡ true = read-list_if reader test l
    (read-right reader (raise_label scope index) (list_if test l) reads) in
    alike-then (SameIf (reader.reads l)) (SameIf (reader.reads (c ++ l))) (value_of s index) (value_of t index)
    (λ v. then_with (checked_index v len) (λ i. Yields (cell_at (cells s array) i)))
    (λ v. then_with (checked_index v len) (λ i. Yields (cell_at (cells t array) i)))
    (expression-alike reader scope s t agree index (read-left reader (raise_label scope index) (list_if test l) reads)) (λ v w f g same.
    alike-then (SameIf (reader.reads l)) (SameIf (reader.reads (c ++ l))) (checked_index v len) (checked_index w len)
    (λ i. Yields (cell_at (cells s array) i)) (λ i. Yields (cell_at (cells t array) i))
    (index-alike s t index len (reader.reads l) v w covered f g same) (λ i j p q same_index.
    both_give (cell_at (cells s array) i) (cell_at (cells t array) j) (λ all.
    rw (same_index (read-right reader c l all)) (ap (λ xs. cell_at xs j) (agree.variables array (read-left reader c l all))))))
expression-alike reader scope s t agree (Unary prefix e) reads =
    alike-then (SameIf (reader.reads (value_label scope e))) (SameIf (reader.reads (value_label scope e))) (value_of s e) (value_of t e)
    (λ v. Yields (prefix_value prefix v)) (λ v. Yields (prefix_value prefix v)) (expression-alike reader scope s t agree e reads) (λ v w f g same.
    both_give (prefix_value prefix v) (prefix_value prefix w) (λ i. ap (λ x. prefix_value prefix x) (same i)))
expression-alike reader scope s t agree (Binary operator d e) reads =
    let rd : Join = raise_label scope d in
    let re : Join = raise_label scope e in
    let vd : Join = value_label scope d in
    let ve : Join = value_label scope e in
    let test : Bool = is_division operator && divisor_can_raise e in
    let both : reader.reads (rd ++ re) ≡ true = read-left reader (rd ++ re) (list_if test ve) reads in
    let covered : test ≡ true → reader.reads ve ≡ true = read-list_if reader test ve (read-right reader (rd ++ re) (list_if test ve) reads) in
    alike-then (SameIf (reader.reads vd)) (SameIf (reader.reads (vd ++ ve))) (value_of s d) (value_of t d)
    (λ v. then_with (value_of s e) (λ w. operator_evaluated operator v w)) (λ v. then_with (value_of t e) (λ w. operator_evaluated operator v w))
    (expression-alike reader scope s t agree d (read-left reader rd re both)) (λ v v' f f' same.
    alike-then (SameIf (reader.reads ve)) (SameIf (reader.reads (vd ++ ve))) (value_of s e) (value_of t e)
    (λ w. operator_evaluated operator v w) (λ w. operator_evaluated operator v' w)
    (expression-alike reader scope s t agree e (read-right reader rd re both)) (λ w w' g g' same_right.
    operator-alike (reader.reads (vd ++ ve)) operator v w v' w'
    (λ division. divisor-alike s t e (reader.reads ve) w w' (λ can. covered (rw (division, can) refl)) g g' same_right)
    (λ all. same (read-left reader vd ve all)) (λ all. same_right (read-right reader vd ve all))))
expression-alike reader scope s t agree (Short connective d e) reads =
    let rd : Join = raise_label scope d in
    let re : Join = raise_label scope e in
    let vd : Join = value_label scope d in
    let ve : Join = value_label scope e in
    let test : Bool = any_of (raises e) in
    let both : reader.reads (rd ++ re) ≡ true = read-left reader (rd ++ re) (list_if test vd) reads in
    let covered : test ≡ true → reader.reads vd ≡ true = read-list_if reader test vd (read-right reader (rd ++ re) (list_if test vd) reads) in
    alike-then (SameIf (reader.reads vd)) (SameIf (reader.reads (vd ++ ve))) (value_of s d) (value_of t d)
    (λ v. if decides connective v then Yields v else value_of s e) (λ v. if decides connective v then Yields v else value_of t e)
    (expression-alike reader scope s t agree d (read-left reader rd re both)) (λ v w f g same.
    short-alike connective (reader.reads vd) (reader.reads (vd ++ ve)) (raises e) v w (value_of s e) (value_of t e) same covered
    (read-left reader vd ve)
    (expression-raises s e) (expression-raises t e)
    (alike-weaker (SameIf (reader.reads ve)) (SameIf (reader.reads (vd ++ ve))) (value_of s e) (value_of t e)
    (λ x y same_right all. same_right (read-right reader vd ve all))
    (expression-alike reader scope s t agree e (read-right reader rd re both))))

-- the values of arguments, each the same where its label is read
pub data ArgumentsAlike {h : PrincipalHierarchy} {labelling : Labelling} (reader : Reader h labelling) (scope : Scope) : List Expression → List Value → List Value → Type 0 where
  no_arguments : ArgumentsAlike reader scope [] [] []
  one_more : (e : Expression) (rest : List Expression) (v w : Value) (vs ws : List Value) →
      SameIf (reader.reads (value_label scope e)) v w → ArgumentsAlike reader scope rest vs ws →
      ArgumentsAlike reader scope (e ∷ rest) (v ∷ vs) (w ∷ ws)

pub arguments-alike : {h : PrincipalHierarchy} {labelling : Labelling} (reader : Reader h labelling) (scope : Scope) (s t : SourceState) →
    AgreeFor (view_of reader scope) s t → (es : List Expression) → reader.reads (flat_map (raise_label scope) es) ≡ true →
    Alike (ArgumentsAlike reader scope es) (values_of s es) (values_of t es)
arguments-alike reader scope s t agree [] reads = both_give [] [] no_arguments
arguments-alike reader scope s t agree (e ∷ rest) reads =
    alike-then (SameIf (reader.reads (value_label scope e))) (ArgumentsAlike reader scope (e ∷ rest)) (value_of s e) (value_of t e)
    (λ v. then_with (values_of s rest) (λ vs. Yields (v ∷ vs))) (λ v. then_with (values_of t rest) (λ vs. Yields (v ∷ vs)))
    (expression-alike reader scope s t agree e (read-left reader (raise_label scope e) (flat_map (raise_label scope) rest) reads)) (λ v w f g same.
    alike-then (ArgumentsAlike reader scope rest) (ArgumentsAlike reader scope (e ∷ rest)) (values_of s rest) (values_of t rest)
    (λ vs. Yields (v ∷ vs)) (λ vs. Yields (w ∷ vs))
    (arguments-alike reader scope s t agree rest (read-right reader (raise_label scope e) (flat_map (raise_label scope) rest) reads)) (λ vs ws i j more.
    both_give (v ∷ vs) (w ∷ ws) (one_more e rest v w vs ws same more)))
