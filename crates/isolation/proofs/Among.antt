-- Each exit that the meaning gives is among the possible exits, and each exception of an expression among those that it can raise.
use Rattle.std.proofs.Common.{arith, ◌≡◌, refl, sym, ap, ◌∙◌, ℕ, zero, suc, Bool, true, false, not, ◌||◌, List, [], ◌∷◌, ◌++◌, append_assoc, ℤ, pos, negsuc, neg_ℤ, ◌+ℤ◌}
use Rattle.std.specs.Prelude.{Option, Some, None, if◌then◌else◌, ◌==◌, filter, flat_map, nat_abs}
use Rattle.std.specs.List.{list_any, list_all}
use Rattle.std.proofs.lemmas.List.Folds.{list_any-append}
use Rattle.std.proofs.lemmas.List.{append-nil}
use Rattle.std.proofs.lemmas.Bool.{or_left, or_right}
use Rattle.std.proofs.lemmas.Int.{int_wrap-add_right, int_wrap_fits, SFits-int_wrap}
use Rattle.std.proofs.Math.IntN.{+ℤ_invr, +ℤ_idr}
use Rattle.std.specs.Int.{int_wrap}
use mir.Syntax.{w32}
use Rattle.resolved.specs.declared.expression.Variable.{Variable}
use Rattle.common.specs.declared.value.Value.{Value}
use Rattle.common.specs.declared.value.Value.TheVariants.{Int as Number, Bool as Truth}
use Rattle.common.specs.declared.operator.Prefix.TheVariants.{Negate}
use Rattle.common.specs.declared.operator.Operator.{Operator}
use Rattle.common.specs.declared.operator.Operator.TheVariants.{Compute, Compare, Match}
use Rattle.common.specs.declared.operator.Arithmetic.TheVariants.{Add, Subtract, Multiply, Divide, Remainder, Bits}
use Rattle.resolved.specs.declared.statement.Exit.{Exit}
use Rattle.resolved.specs.declared.statement.Exit.TheVariants.{Normal, Return, Break, Continue, Throw}
use Rattle.resolved.specs.Tree.{Expression, Integer, Logical, Read, Element, Unary, Binary, Short, Statement, Placed, Assign, Clear, Store, Receive, Send, Call, If, While, Leave, ReturnWith, Try, Nested, Block, Empty, Then, Handlers, NoMore, Catch}
use Rattle.resolved.specs.Program.{Program, procedure_at}
use Rattle.common.specs.Operators.{wrapped}
use Rattle.common.specs.Values.{truth_in, number_in}
use Rattle.resolved.specs.Value.{Evaluated, Yields, Raises, then_with, literal_number, or_arith, operator_evaluated, decides, in_range, checked_index}
use Rattle.resolved.specs.SourceState.{SourceState, value_of, values_of, cells, cell_at, assigned, stored, cleared}
use Rattle.resolved.specs.Meaning.{OutOfFuel, Outcome, Ended, Stopped, normally, after, evaluated, looped, fuel, caught, leaving, returned_to, received, sending, Calls, statement_meaning, block_meaning, handlers_meaning, frame_of, calls_with}
use Rattle.resolved.specs.Exits.{same_exit, has_exit, index_can_raise, divisor_can_raise, index_raises, operator_raises, raises, thrown_exits, declared_by, leaves_loop, handles, passes, then_exits, statement_exits, block_exits, handlers_exits}
use Rattle.resolved.specs.FaultParts.{may_exit}
use Rattle.isolation.specs.Runs.{ExitsAmong}
use Rattle.resolved.proofs.Exits.{same_exit-itself, thrown-append, thrown-break, thrown-continue, end-filter, all-has, then-other}
use Rattle.common.specs.Integers.{is_zero}
use Rattle.common.specs.declared.exceptions.TheConstants.{ARITH, BOUNDS, END}

-- whether an exception is in a list
abbrev pub raised_in : List ℕ → ℕ → Bool
raised_in xs x = list_any (λ y. x == y) xs

pub any-left : {X : Type 0} (p : X → Bool) (xs ys : List X) → list_any p xs ≡ true → list_any p (xs ++ ys) ≡ true
any-left p xs ys h = list_any-append p xs ys ∙ or_left (list_any p xs) (list_any p ys) h

pub any-right : {X : Type 0} (p : X → Bool) (xs ys : List X) → list_any p ys ≡ true → list_any p (xs ++ ys) ≡ true
any-right p xs ys h = list_any-append p xs ys ∙ or_right (list_any p xs) (list_any p ys) h

-- the exceptions among the exits are those of the list, and nothing else is
pub thrown-is : (xs : List ℕ) (x : ℕ) → has_exit (thrown_exits xs) (Throw x) ≡ raised_in xs x
thrown-is [] x = refl
thrown-is (y ∷ xs) x = ap (λ b. (x == y) || b) (thrown-is xs x)

pub thrown-among : (xs : List ℕ) (x : ℕ) → raised_in xs x ≡ true → has_exit (thrown_exits xs) (Throw x) ≡ true
thrown-among xs x h = thrown-is xs x ∙ h

-- the exceptions of what was evaluated are in a list
pub record RaisesAmong {A : Type 0} (xs : List ℕ) (o : Evaluated A) : Type 0 where
  pub among : (x : ℕ) → o ≡ Raises x → raised_in xs x ≡ true

raises-none : {A : Type 0} (xs : List ℕ) (v : A) → RaisesAmong xs (Yields v)
raises-none xs v = record { among = λ x e. absurd (cc) }

raises-this : {A : Type 0} (xs : List ℕ) (y : ℕ) → raised_in xs y ≡ true → RaisesAmong {A = A} xs (Raises y)
raises-this xs y h = record { among = λ x e. let f : y ≡ x = cc in rw (← f) h }

raises-then : {A B : Type 0} (xs ys : List ℕ) (o : Evaluated A) (next : A → Evaluated B) → RaisesAmong xs o →
    ((v : A) → o ≡ Yields v → RaisesAmong ys (next v)) → RaisesAmong (xs ++ ys) (then_with o next)
raises-then xs ys (Yields v) next h rest = record { among = λ x e. any-right (λ y. x == y) xs ys ((rest v refl).among x e) }
raises-then xs ys (Raises z) next h rest = raises-this (xs ++ ys) z (any-left (λ y. z == y) xs ys (h.among z refl))

-- an index that cannot raise is in range
pub index-in_range : (s : SourceState) (index : Expression) (length : ℕ) (v : Value) → index_can_raise index length ≡ false →
    value_of s index ≡ Yields v → in_range (number_in v) length ≡ true
index-in_range s (Integer n) length v h e = go (in_range (literal_number n) length) refl
  where
    go : (b : Bool) → in_range (literal_number n) length ≡ b → in_range (number_in v) length ≡ true
    go true f = let g : Number (literal_number n) ≡ v = cc in rw (← g) f
    go false f = let i : true ≡ false = sym (ap not f) ∙ h in absurd (cc)
index-in_range s other length v h e = let i : true ≡ false = h in absurd (cc)

-- a divisor that cannot raise is not zero
zero-is : (z : ℤ) → is_zero z ≡ true → z ≡ pos 0
zero-is (pos n) h = ap (λ m. pos m) (grind (arith, h))
zero-is (negsuc n) h = let e : true ≡ false = sym h in absurd (cc)

negated-zero : (z : ℤ) → wrapped (neg_ℤ (wrapped z)) ≡ pos 0 → wrapped z ≡ pos 0
unfolding int_wrap
negated-zero z h =
    let y : ℤ = wrapped z in
    let fits : int_wrap w32 y ≡ y = int_wrap_fits w32 y (SFits-int_wrap w32 z) in
    let right : int_wrap w32 (y +ℤ int_wrap w32 (neg_ℤ y)) ≡ int_wrap w32 (y +ℤ neg_ℤ y) = int_wrap-add_right w32 y (neg_ℤ y) in
    sym fits ∙ sym (ap (λ a. int_wrap w32 a) (ap (λ b. y +ℤ b) h ∙ +ℤ_idr y)) ∙ right ∙ ap (λ a. int_wrap w32 a) (+ℤ_invr y)

pub divisor-not_zero : (s : SourceState) (e : Expression) (w : Value) → divisor_can_raise e ≡ false → value_of s e ≡ Yields w →
    is_zero (number_in w) ≡ false
divisor-not_zero s (Integer n) w h e =
    let g : Number (literal_number n) ≡ w = cc in rw (← g) h
divisor-not_zero s (Unary Negate (Integer n)) w h e = go (is_zero (wrapped (neg_ℤ (literal_number n)))) refl
  where
    go : (b : Bool) → is_zero (wrapped (neg_ℤ (literal_number n))) ≡ b → is_zero (number_in w) ≡ false
    go false f = let g : Number (wrapped (neg_ℤ (literal_number n))) ≡ w = cc in rw (← g) f
    go true f =
        let zero : literal_number n ≡ pos 0 = negated-zero (pos n) (zero-is (wrapped (neg_ℤ (literal_number n))) f) in
        let i : true ≡ false = sym (ap is_zero zero) ∙ h in absurd (cc)
divisor-not_zero s other w h e = let i : true ≡ false = h in absurd (cc)

raises-checked_index : (s : SourceState) (index : Expression) (length : ℕ) (v : Value) → value_of s index ≡ Yields v →
    RaisesAmong (index_raises index length) (checked_index v length)
raises-checked_index s index length v e = go (index_can_raise index length) refl (in_range (number_in v) length) refl
  where
    go : (b : Bool) → index_can_raise index length ≡ b → (c : Bool) → in_range (number_in v) length ≡ c →
        RaisesAmong (index_raises index length) (checked_index v length)
    go b f true g = rw g (raises-none (index_raises index length) (nat_abs (number_in v)))
    go true f false g = rw (f, g) (raises-this (BOUNDS ∷ []) BOUNDS refl)
    go false f false g = let i : true ≡ false = sym (index-in_range s index length v f e) ∙ g in absurd (cc)

raises-division : (s : SourceState) (e : Expression) (w : Value) (result : ℤ) → value_of s e ≡ Yields w →
    RaisesAmong (if divisor_can_raise e then ARITH ∷ [] else []) (or_arith (if is_zero (number_in w) then None else Some result))
raises-division s e w result f = go (divisor_can_raise e) refl (is_zero (number_in w)) refl
  where
    go : (b : Bool) → divisor_can_raise e ≡ b → (c : Bool) → is_zero (number_in w) ≡ c →
        RaisesAmong (if divisor_can_raise e then ARITH ∷ [] else []) (or_arith (if is_zero (number_in w) then None else Some result))
    go b g false h = rw h (raises-none (if divisor_can_raise e then ARITH ∷ [] else []) (Number result))
    go true g true h = rw (g, h) (raises-this (ARITH ∷ []) ARITH refl)
    go false g true h = let i : true ≡ false = sym h ∙ divisor-not_zero s e w g f in absurd (cc)

raises-operator : (s : SourceState) (operator : Operator) (e : Expression) (v w : Value) → value_of s e ≡ Yields w →
    RaisesAmong (operator_raises operator e) (operator_evaluated operator v w)
raises-operator s (Compute Add) e v w f = raises-none [] _
raises-operator s (Compute Subtract) e v w f = raises-none [] _
raises-operator s (Compute Multiply) e v w f = raises-none [] _
raises-operator s (Compute Divide) e v w f = raises-division s e w _ f
raises-operator s (Compute Remainder) e v w f = raises-division s e w _ f
raises-operator s (Compute (Bits operator)) e v w f = raises-none [] _
raises-operator s (Compare comparison) e v w f = raises-none [] _
raises-operator s (Match sameness) e v w f = raises-none [] _

raises-if : {A : Type 0} (xs : List ℕ) (b : Bool) (o p : Evaluated A) → RaisesAmong xs o → RaisesAmong xs p →
    RaisesAmong xs (if b then o else p)
raises-if xs true o p h i = h
raises-if xs false o p h i = i

-- an expression raises only what it can raise
pub expression-raises : (s : SourceState) (e : Expression) → RaisesAmong (raises e) (value_of s e)
expression-raises s (Integer n) = raises-none [] (Number (literal_number n))
expression-raises s (Logical b) = raises-none [] (Truth b)
expression-raises s (Read x) = raises-none [] (cell_at (cells s x) 0)
expression-raises s (Element array length index) =
    raises-then (raises index) (index_raises index length) (value_of s index)
    (λ v. then_with (checked_index v length) (λ i. Yields (cell_at (cells s array) i))) (expression-raises s index) (λ v e.
    rw (← append-nil (index_raises index length)) (raises-then (index_raises index length) [] (checked_index v length)
    (λ i. Yields (cell_at (cells s array) i)) (raises-checked_index s index length v e)
    (λ i f. raises-none [] (cell_at (cells s array) i))))
expression-raises s (Unary prefix e) =
    rw (← append-nil (raises e)) (raises-then (raises e) [] (value_of s e) _ (expression-raises s e) (λ v f. raises-none [] _))
expression-raises s (Binary operator d e) =
    rw append_assoc (raises-then (raises d) (raises e ++ operator_raises operator e) (value_of s d)
    (λ v. then_with (value_of s e) (λ w. operator_evaluated operator v w)) (expression-raises s d) (λ v f.
    raises-then (raises e) (operator_raises operator e) (value_of s e) (λ w. operator_evaluated operator v w) (expression-raises s e) (λ w g.
    raises-operator s operator e v w g)))
expression-raises s (Short connective d e) =
    raises-then (raises d) (raises e) (value_of s d) (λ v. if decides connective v then Yields v else value_of s e) (expression-raises s d) (λ v f.
    raises-if (raises e) (decides connective v) (Yields v) (value_of s e) (raises-none (raises e) v) (expression-raises s e))

pub expressions-raise : (s : SourceState) (es : List Expression) → RaisesAmong (flat_map raises es) (values_of s es)
expressions-raise s [] = raises-none [] []
expressions-raise s (e ∷ rest) =
    raises-then (raises e) (flat_map raises rest) (value_of s e) (λ v. then_with (values_of s rest) (λ vs. Yields (v ∷ vs))) (expression-raises s e) (λ v f.
    rw (← append-nil (flat_map raises rest)) (raises-then (flat_map raises rest) [] (values_of s rest) (λ vs. Yields (v ∷ vs))
    (expressions-raise s rest) (λ vs g. raises-none [] (v ∷ vs))))

-- the exit of an outcome is in a list
pub record Among (ends : List Exit) (o : Outcome) : Type 0 where
  pub among : ExitsAmong ends o

among-more : (xs ys : List Exit) (o : Outcome) → ((exit : Exit) → has_exit xs exit ≡ true → has_exit ys exit ≡ true) → Among xs o →
    Among ys o
among-more xs ys (Ended exit r s) more h = record { among = more exit h.among }
among-more xs ys (Stopped stop s) more h = record { among = tt }

among-left : (xs ys : List Exit) (o : Outcome) → Among xs o → Among (xs ++ ys) o
among-left xs ys o h = among-more xs (xs ++ ys) o (λ exit f. any-left (same_exit exit) xs ys f) h

among-right : (xs ys : List Exit) (o : Outcome) → Among ys o → Among (xs ++ ys) o
among-right xs ys o h = among-more ys (xs ++ ys) o (λ exit f. any-right (same_exit exit) xs ys f) h

among-first : (exit : Exit) (rest : List Exit) (r : Option Value) (s : SourceState) → Among (exit ∷ rest) (Ended exit r s)
among-first exit rest r s = record { among = or_left (same_exit exit exit) (has_exit rest exit) (same_exit-itself exit) }

among-evaluated : {A : Type 0} (xs : List ℕ) (ends : List Exit) (e : Evaluated A) (s : SourceState) (next : A → Outcome) →
    RaisesAmong xs e → ((exit : Exit) → has_exit (thrown_exits xs) exit ≡ true → has_exit ends exit ≡ true) →
    ((v : A) → e ≡ Yields v → Among ends (next v)) → Among ends (evaluated e s next)
among-evaluated xs ends (Yields v) s next h more rest = rest v refl
among-evaluated xs ends (Raises x) s next h more rest = record { among = more (Throw x) (thrown-among xs x (h.among x refl)) }

among-if : (ends : List Exit) (b : Bool) (x y : Outcome) → Among ends x → Among ends y → Among ends (if b then x else y)
among-if ends true x y h i = h
among-if ends false x y h i = i

then-normal : (first rest : List Exit) (o : Outcome) → has_exit first Normal ≡ true → Among rest o → Among (then_exits first rest) o
then-normal first rest o h among = rw h (among-right (filter (λ x. not (same_exit Normal x)) first) rest o among)

among-after : (first rest : List Exit) (o : Outcome) (next : SourceState → Outcome) → Among first o →
    ((t : SourceState) → Among rest (next t)) → Among (then_exits first rest) (after o next)
among-after first rest (Ended Normal r s) next h onward = then-normal first rest (next s) h.among (onward s)
among-after first rest (Ended Return r s) next h onward = record { among = then-other first rest Return refl h.among }
among-after first rest (Ended Break r s) next h onward = record { among = then-other first rest Break refl h.among }
among-after first rest (Ended Continue r s) next h onward = record { among = then-other first rest Continue refl h.among }
among-after first rest (Ended (Throw x) r s) next h onward = record { among = then-other first rest (Throw x) refl h.among }
among-after first rest (Stopped stop s) next h onward = record { among = tt }

-- the exits of a loop, by the exceptions of its condition and the exits of its body
abbrev loop_exits : List ℕ → List Exit → List Exit
loop_exits xs body = Normal ∷ (thrown_exits xs ++ filter leaves_loop body)

loop-leaving : (xs : List ℕ) (body : List Exit) (exit : Exit) → leaves_loop exit ≡ true → has_exit body exit ≡ true →
    has_exit (loop_exits xs body) exit ≡ true
loop-leaving xs body exit leaves h =
    or_right (same_exit exit Normal) (has_exit (thrown_exits xs ++ filter leaves_loop body) exit)
    (any-right (same_exit exit) (thrown_exits xs) (filter leaves_loop body) (end-filter leaves_loop body exit ∙ rw (leaves, h) refl))

among-looped : (xs : List ℕ) (body : List Exit) (o : Outcome) (again : SourceState → Outcome) → Among body o →
    ((t : SourceState) → Among (loop_exits xs body) (again t)) → Among (loop_exits xs body) (looped o again)
among-looped xs body (Ended Normal r s) again h onward = onward s
among-looped xs body (Ended Return r s) again h onward = record { among = loop-leaving xs body Return refl h.among }
among-looped xs body (Ended Break r s) again h onward = record { among = refl }
among-looped xs body (Ended Continue r s) again h onward = onward s
among-looped xs body (Ended (Throw x) r s) again h onward = record { among = loop-leaving xs body (Throw x) refl h.among }
among-looped xs body (Stopped stop s) again h onward = record { among = tt }

loop-thrown : (xs : List ℕ) (body : List Exit) (exit : Exit) → has_exit (thrown_exits xs) exit ≡ true →
    has_exit (loop_exits xs body) exit ≡ true
loop-thrown xs body exit h =
    or_right (same_exit exit Normal) (has_exit (thrown_exits xs ++ filter leaves_loop body) exit)
    (any-left (same_exit exit) (thrown_exits xs) (filter leaves_loop body) h)

among-fuel : (k : ℕ) (xs : List ℕ) (ends : List Exit) (condition : SourceState → Evaluated Value) (body : SourceState → Outcome) →
    ((t : SourceState) → RaisesAmong xs (condition t)) → ((t : SourceState) → Among ends (body t)) → (s : SourceState) →
    Among (loop_exits xs ends) (fuel k condition body s)
among-fuel zero xs ends condition body raised h s =
    among-evaluated xs (loop_exits xs ends) (condition s) s (λ v. if truth_in v then Stopped OutOfFuel s else normally s) (raised s)
    (loop-thrown xs ends) (λ v e.
    among-if (loop_exits xs ends) (truth_in v) (Stopped OutOfFuel s) (normally s) (record { among = tt }) (record { among = refl }))
among-fuel (suc k) xs ends condition body raised h s =
    among-evaluated xs (loop_exits xs ends) (condition s) s (λ v. if truth_in v then looped (body s)
    (fuel k condition body) else normally s) (raised s) (loop-thrown xs ends) (λ v e.
    among-if (loop_exits xs ends) (truth_in v) (looped (body s) (fuel k condition body)) (normally s)
    (among-looped xs ends (body s) (fuel k condition body) (h s) (among-fuel k xs ends condition body raised h))
    (record { among = refl }))

-- an exit that passes the handlers
try-passing : (handlers : Handlers) (block others : List Exit) (exit : Exit) → passes handlers exit ≡ true →
    has_exit block exit ≡ true → has_exit (filter (passes handlers) block ++ others) exit ≡ true
try-passing handlers block others exit passing h =
    any-left (same_exit exit) (filter (passes handlers) block) others (end-filter (passes handlers) block exit ∙ rw (passing, h) refl)

among-caught : (handlers : Handlers) (block others : List Exit) (o : Outcome) (handle : ℕ → SourceState → Outcome) → Among block o →
    ((x : ℕ) (t : SourceState) → has_exit block (Throw x) ≡ true → Among (filter (passes handlers) block ++ others) (handle x t)) →
    Among (filter (passes handlers) block ++ others) (caught o handle)
among-caught handlers block others (Ended (Throw x) r s) handle h onward = onward x s h.among
among-caught handlers block others (Ended Normal r s) handle h onward = record { among = try-passing handlers block others Normal refl h.among }
among-caught handlers block others (Ended Return r s) handle h onward = record { among = try-passing handlers block others Return refl h.among }
among-caught handlers block others (Ended Break r s) handle h onward = record { among = try-passing handlers block others Break refl h.among }
among-caught handlers block others (Ended Continue r s) handle h onward = record { among = try-passing handlers block others Continue refl h.among }
among-caught handlers block others (Stopped stop s) handle h onward = record { among = tt }

-- the exits of a call: normal, and the exceptions that the procedure declares
abbrev pub call_exits : Program → ℕ → List Exit
call_exits program f = Normal ∷ thrown_exits (declared_by (procedure_at program f).throws)

abbrev pub CallsAmong : Program → Calls → Type 0
CallsAmong program calls = (f : ℕ) (vs : List Value) (s : SourceState) → Among (call_exits program f) (calls f vs s)

pub thrown-left : (xs ys : List ℕ) (exit : Exit) → has_exit (thrown_exits xs) exit ≡ true →
    has_exit (thrown_exits (xs ++ ys)) exit ≡ true
thrown-left xs ys exit h = rw (thrown-append xs ys) (any-left (same_exit exit) (thrown_exits xs) (thrown_exits ys) h)

pub thrown-right : (xs ys : List ℕ) (exit : Exit) → has_exit (thrown_exits ys) exit ≡ true →
    has_exit (thrown_exits (xs ++ ys)) exit ≡ true
thrown-right xs ys exit h = rw (thrown-append xs ys) (any-right (same_exit exit) (thrown_exits xs) (thrown_exits ys) h)

pub in_rest : (first : Exit) (rest : List Exit) (exit : Exit) → has_exit rest exit ≡ true → has_exit (first ∷ rest) exit ≡ true
in_rest first rest exit h = or_right (same_exit exit first) (has_exit rest exit) h

among-returned_to : (ends : List Exit) (target : Option Variable) (o : Outcome) → Among (Normal ∷ ends) o →
    Among (Normal ∷ ends) (returned_to target o)
among-returned_to ends (Some x) (Ended Normal (Some v) t) h = record { among = refl }
among-returned_to ends (Some x) (Ended Normal None t) h = record { among = refl }
among-returned_to ends (Some x) (Ended Return r t) h = record { among = h.among }
among-returned_to ends (Some x) (Ended Break r t) h = record { among = h.among }
among-returned_to ends (Some x) (Ended Continue r t) h = record { among = h.among }
among-returned_to ends (Some x) (Ended (Throw e) r t) h = record { among = h.among }
among-returned_to ends (Some x) (Stopped stop t) h = record { among = tt }
among-returned_to ends None (Ended Normal r t) h = record { among = refl }
among-returned_to ends None (Ended Return r t) h = record { among = h.among }
among-returned_to ends None (Ended Break r t) h = record { among = h.among }
among-returned_to ends None (Ended Continue r t) h = record { among = h.among }
among-returned_to ends None (Ended (Throw e) r t) h = record { among = h.among }
among-returned_to ends None (Stopped stop t) h = record { among = tt }

among-received : (numbers : List ℤ) (channel : ℕ) (target : Option Variable) (s : SourceState) →
    Among (Normal ∷ Throw END ∷ []) (received numbers channel target s)
among-received [] channel target s = record { among = refl }
among-received (z ∷ rest) channel target s = record { among = refl }

-- what is the normal exit or declared stays so in a longer list
call-more : (xs ys : List ℕ) (exit : Exit) → ((e : Exit) → has_exit (thrown_exits xs) e ≡ true → has_exit (thrown_exits ys) e ≡ true) →
    has_exit (Normal ∷ thrown_exits xs) exit ≡ true → has_exit (Normal ∷ thrown_exits ys) exit ≡ true
call-more xs ys Normal more h = refl
call-more xs ys Return more h = more Return h
call-more xs ys Break more h = more Break h
call-more xs ys Continue more h = more Continue h
call-more xs ys (Throw x) more h = more (Throw x) h

-- one handler and those after it
handler-among : (ends : List Exit) (here later : Bool) (x y : Outcome) (P : Type 0) → ((here || later) ≡ false → P) → Among ends x →
    ((later ≡ false → P) → Among ends y) → Among ends (if here then x else y)
handler-among ends true later x y P passing h rest = h
handler-among ends false later x y P passing h rest = rest passing

mutual
  pub statement-among : (statement : Statement) (program : Program) (calls : Calls) (k : ℕ) → CallsAmong program calls →
      (s : SourceState) → Among (statement_exits program statement) (statement_meaning calls k statement s)
  statement-among (Placed at (Assign x e)) program calls k h s =
      among-evaluated (raises e) (Normal ∷ thrown_exits (raises e)) (value_of s e) s (λ v. normally (assigned s x v)) (expression-raises s e)
      (in_rest Normal (thrown_exits (raises e))) (λ v f.
      among-first Normal (thrown_exits (raises e)) None (assigned s x v))
  statement-among (Placed at (Clear slot)) program calls k h s = among-first Normal [] None (cleared s slot)
  statement-among (Placed at (Store array len index e)) program calls k h s =
      let xs : List ℕ = raises index ++ raises e ++ index_raises index len in
      among-evaluated (raises index) (Normal ∷ thrown_exits xs) (value_of s index) s _ (expression-raises s index)
      (λ exit f. in_rest Normal (thrown_exits xs) exit (thrown-left (raises index ++ raises e) (index_raises index len) exit
      (thrown-left (raises index) (raises e) exit f))) (λ v f.
      among-evaluated (raises e) (Normal ∷ thrown_exits xs) (value_of s e) s _ (expression-raises s e)
      (λ exit g. in_rest Normal (thrown_exits xs) exit (thrown-left (raises index ++ raises e) (index_raises index len) exit
      (thrown-right (raises index) (raises e) exit g))) (λ w g.
      among-evaluated (index_raises index len) (Normal ∷ thrown_exits xs) (checked_index v len) s (λ i. normally (stored s array i w))
      (raises-checked_index s index len v f)
      (λ exit i. in_rest Normal (thrown_exits xs) exit (thrown-right (raises index ++ raises e) (index_raises index len) exit i)) (λ i j.
      among-first Normal (thrown_exits xs) None (stored s array i w))))
  statement-among (Placed at (Receive channel target)) program calls k h s = among-received (s.inputs channel) channel target s
  statement-among (Placed at (Send channel e)) program calls k h s =
      among-evaluated (raises e) (Normal ∷ thrown_exits (raises e)) (value_of s e) s (λ v. normally (sending channel v s))
      (expression-raises s e) (in_rest Normal (thrown_exits (raises e))) (λ v f.
      among-first Normal (thrown_exits (raises e)) None (sending channel v s))
  statement-among (Placed at (Call procedure arguments target)) program calls k h s =
      let declared : List ℕ = declared_by (procedure_at program procedure).throws in
      let xs : List ℕ = flat_map raises arguments ++ declared in
      among-evaluated (flat_map raises arguments) (Normal ∷ thrown_exits xs) (values_of s arguments) s
      (λ vs. returned_to target (calls procedure vs s)) (expressions-raise s arguments)
      (λ exit f. in_rest Normal (thrown_exits xs) exit (thrown-left (flat_map raises arguments) declared exit f)) (λ vs f.
      among-returned_to (thrown_exits xs) target (calls procedure vs s)
      (among-more (Normal ∷ thrown_exits declared) (Normal ∷ thrown_exits xs) (calls procedure vs s)
      (λ exit g. call-more declared xs exit (thrown-right (flat_map raises arguments) declared) g) (h procedure vs s)))
  statement-among (Placed at (If e then_block else_block)) program calls k h s =
      let yes_exits : List Exit = block_exits program then_block in
      let no_exits : List Exit = block_exits program else_block in
      among-evaluated (raises e) (thrown_exits (raises e) ++ yes_exits ++ no_exits) (value_of s e) s
      (λ v. if truth_in v then block_meaning calls k then_block s else block_meaning calls k else_block s) (expression-raises s e)
      (λ exit f. any-left (same_exit exit) (thrown_exits (raises e) ++ yes_exits) no_exits
      (any-left (same_exit exit) (thrown_exits (raises e)) yes_exits f)) (λ v f.
      among-if (thrown_exits (raises e) ++ yes_exits ++ no_exits) (truth_in v) (block_meaning calls k then_block s) (block_meaning calls k else_block s)
      (among-left (thrown_exits (raises e) ++ yes_exits) no_exits (block_meaning calls k then_block s)
      (among-right (thrown_exits (raises e)) yes_exits (block_meaning calls k then_block s) (block-among then_block program calls k h s)))
      (among-right (thrown_exits (raises e) ++ yes_exits) no_exits (block_meaning calls k else_block s) (block-among else_block program calls k h s)))
  statement-among (Placed at (While loop e body)) program calls k h s =
      among-fuel k (raises e) (block_exits program body) (λ t. value_of t e) (block_meaning calls k body) (λ t. expression-raises t e)
      (block-among body program calls k h) s
  statement-among (Placed at (Leave exit)) program calls k h s = among-first exit [] None s
  statement-among (Placed at (ReturnWith None)) program calls k h s = among-first Return [] None s
  statement-among (Placed at (ReturnWith (Some e))) program calls k h s =
      among-evaluated (raises e) (Return ∷ thrown_exits (raises e)) (value_of s e) s (λ v. Ended Return (Some v) s) (expression-raises s e)
      (in_rest Return (thrown_exits (raises e))) (λ v f.
      among-first Return (thrown_exits (raises e)) (Some v) s)
  statement-among (Placed at (Try block handlers)) program calls k h s =
      let ends : List Exit = block_exits program block in
      among-caught handlers ends (handlers_exits program handlers) (block_meaning calls k block s) (handlers_meaning calls k handlers)
      (block-among block program calls k h s) (λ x t f.
      handlers-among handlers program calls k h (filter (passes handlers) ends ++ handlers_exits program handlers) x t
      (λ none. try-passing handlers ends (handlers_exits program handlers) (Throw x) (rw none refl) f)
      (λ exit g. any-right (same_exit exit) (filter (passes handlers) ends) (handlers_exits program handlers) g))
  statement-among (Placed at (Nested block)) program calls k h s = block-among block program calls k h s

  pub block-among : (block : Block) (program : Program) (calls : Calls) (k : ℕ) → CallsAmong program calls → (s : SourceState) →
      Among (block_exits program block) (block_meaning calls k block s)
  block-among Empty program calls k h s = among-first Normal [] None s
  block-among (Then statement rest) program calls k h s =
      among-after (statement_exits program statement) (block_exits program rest) (statement_meaning calls k statement s)
      (block_meaning calls k rest) (statement-among statement program calls k h s) (block-among rest program calls k h)

  handlers-among : (handlers : Handlers) (program : Program) (calls : Calls) (k : ℕ) → CallsAmong program calls →
      (ends : List Exit) (x : ℕ) (s : SourceState) → (handles handlers x ≡ false → has_exit ends (Throw x) ≡ true) →
      ((exit : Exit) → has_exit (handlers_exits program handlers) exit ≡ true → has_exit ends exit ≡ true) →
      Among ends (handlers_meaning calls k handlers x s)
  handlers-among NoMore program calls k h ends x s passing more = record { among = passing refl }
  handlers-among (Catch at handled body rest) program calls k h ends x s passing more =
      handler-among ends (x == handled) (handles rest x) (block_meaning calls k body s) (handlers_meaning calls k rest x s)
      (has_exit ends (Throw x) ≡ true) passing
      (among-more (block_exits program body) ends (block_meaning calls k body s)
      (λ exit f. more exit (any-left (same_exit exit) (block_exits program body) (handlers_exits program rest) f))
      (block-among body program calls k h s))
      (λ onward. handlers-among rest program calls k h ends x s onward
      (λ exit f. more exit (any-right (same_exit exit) (block_exits program body) (handlers_exits program rest) f)))

-- each procedure ends only as it may
abbrev pub EndsAsDeclared : Program → Type 0
EndsAsDeclared program = (f : ℕ) → list_all (may_exit (procedure_at program f)) (block_exits program (procedure_at program f).body) ≡ true

among-leaving : (program : Program) (f : ℕ) (back : SourceState → SourceState) (o : Outcome) → EndsAsDeclared program →
    Among (block_exits program (procedure_at program f).body) o → Among (call_exits program f) (leaving back o)
among-leaving program f back (Ended Normal r s) declared h = record { among = refl }
among-leaving program f back (Ended Return r s) declared h = record { among = refl }
among-leaving program f back (Ended Break r s) declared h =
    let no : false ≡ true = sym (thrown-break (declared_by (procedure_at program f).throws))
    ∙ all-has (may_exit (procedure_at program f)) (block_exits program (procedure_at program f).body) Break (declared f) h.among in absurd (cc)
among-leaving program f back (Ended Continue r s) declared h =
    let no : false ≡ true = sym (thrown-continue (declared_by (procedure_at program f).throws))
    ∙ all-has (may_exit (procedure_at program f)) (block_exits program (procedure_at program f).body) Continue (declared f) h.among in absurd (cc)
among-leaving program f back (Ended (Throw x) r s) declared h =
    record { among = all-has (may_exit (procedure_at program f)) (block_exits program (procedure_at program f).body) (Throw x) (declared f) h.among }
among-leaving program f back (Stopped stop s) declared h = record { among = tt }

pub calls-among : (program : Program) (k frames : ℕ) → EndsAsDeclared program → CallsAmong program (calls_with program k frames)
calls-among program k zero declared f vs s = record { among = tt }
calls-among program k (suc frames) declared f vs s =
    let inner : SourceState = record s { locals = frame_of (procedure_at program f).slots vs } in
    among-leaving program f (λ t. record t { locals = s.locals })
    (block_meaning (calls_with program k frames) k (procedure_at program f).body inner) declared
    (block-among (procedure_at program f).body program (calls_with program k frames) k (calls-among program k frames declared) inner)
