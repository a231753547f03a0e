-- The possible exits of statements, and the faults of exits.
use Rattle.std.proofs.Common.{◌≡◌, refl, ℕ, List, [], ◌∷◌, ◌++◌, true, map}
use Rattle.std.specs.Prelude.{Some, None}
use Rattle.std.specs.Int.{int_wrap}
use Rattle.common.specs.declared.base_type.BaseType.TheVariants.{Int}
use Rattle.resolved.specs.declared.expression.Variable.TheVariants.{Local}
use Rattle.common.specs.declared.operator.Operator.TheVariants.{Compute}
use Rattle.common.specs.declared.operator.Arithmetic.TheVariants.{Subtract, Multiply, Divide, Remainder}
use Rattle.common.specs.declared.operator.Prefix.TheVariants.{Negate}
use Rattle.resolved.specs.declared.statement.Exit.TheVariants.{Normal, Return, Break, Continue, Throw}
use Rattle.resolved.specs.Tree.{Logical, Element, Unary, Binary, Placed, Store, Receive, Send, Call, Leave, ReturnWith, Empty, NoMore, Catch}
use Rattle.resolved.specs.Exits.{raises}
use Rattle.resolved.specs.Labelled.{exit_faults}
use Rattle.resolved.specs.declared.fault.ExitRefusalKind.{ExitRefusalKind}
use Rattle.resolved.specs.declared.fault.ExitRefusalKind.TheVariants.{OutsideLoop, Unreachable, NeverRaised, NoValueReturned, Undeclared}
use Rattle.common.specs.declared.refusal.RefusalAt.{RefusalAt}
use Rattle.resolved.proofs.Cases.Kit.{arith, bounds, end, oops, s_channel, pub_channel, int_slot, array_slot, int, minus, var, set_to, send_public, positive, block, on, try_to, if_then, while_loop, procedure, thrown, program, main_program, exits_of}

abbrev fault : ExitRefusalKind → ℕ → List (RefusalAt ExitRefusalKind)
fault kind at = record { kind = kind; at = at } ∷ []

-- a nonzero literal divisor, or a minus sign before one, cannot raise; 0 and two signs can
divisors : map raises (
    Binary (Compute Divide) (var 0) (int 2) ∷ Binary (Compute Remainder) (var 0) (minus 2) ∷ Binary (Compute Divide) (var 0) (int 0) ∷ Binary (Compute Divide) (var 0) (minus 0)
    ∷ Binary (Compute Divide) (var 0) (Unary Negate (minus 2)) ∷ Binary (Compute Multiply) (var 0) (var 1) ∷ [])
    ≡ [] ∷ [] ∷ (arith ∷ []) ∷ (arith ∷ []) ∷ (arith ∷ []) ∷ [] ∷ []
unfolding int_wrap
divisors = refl

-- an index that is a literal in range cannot raise
indices : map raises (
    Element (Local 0) 2 (int 1) ∷ Element (Local 0) 2 (int 2) ∷ Element (Local 0) 2 (minus 0) ∷ Element (Local 0) 2 (var 1) ∷ [])
    ≡ [] ∷ (bounds ∷ []) ∷ (bounds ∷ []) ∷ (bounds ∷ []) ∷ []
unfolding int_wrap
indices = refl

-- a loop can always end normally; its body's `break` and `continue` do not leave it, a `return` does
loop_exits : exits_of (main_program [] []) (while_loop (Logical true) (
    if_then (positive (var 0)) (Placed 0 (Leave Break) ∷ []) ∷ if_then (positive (var 0)) (Placed 0 (Leave Continue) ∷ []) ∷ Placed 0 (ReturnWith None) ∷ []))
    ≡ Normal ∷ Return ∷ []
unfolding int_wrap
loop_exits = refl

-- `try { int y = 1 / x; throw Oops; } catch (Arith) { return; }`
try_ends : exits_of (main_program [] []) (
    try_to (set_to 1 (Binary (Compute Divide) (int 1) (var 0)) ∷ Placed 0 (Leave (Throw oops)) ∷ []) (on arith (Placed 0 (ReturnWith None) ∷ [])))
    ≡ Throw oops ∷ Return ∷ []
unfolding int_wrap
try_ends = refl

-- a call has the exceptions of its procedure and of its arguments
call_exits : exits_of (program (record (procedure [] []) { throws = thrown oops [] } ∷ []))
    (Placed 0 (Call 0 (Element (Local 0) 2 (var 1) ∷ []) None)) ≡ Normal ∷ Throw bounds ∷ Throw oops ∷ []
unfolding int_wrap
call_exits = refl

-- `break;` at byte 5, outside a loop; and also where it is not reached
outside_loop : exit_faults (main_program [] (Placed 5 (Leave Break) ∷ [])) ≡ fault OutsideLoop 5 ++ fault Undeclared 0
unfolding int_wrap
outside_loop = refl

outside_before_unreachable : exit_faults (main_program [] (Placed 1 (ReturnWith None) ∷ Placed 5 (Leave Continue) ∷ []))
    ≡ fault OutsideLoop 5 ++ fault Unreachable 5
unfolding int_wrap
outside_before_unreachable = refl

-- `throw Arith; send pub, 1;` with the second statement at byte 7, in a procedure that declares `Arith`
unreachable : exit_faults (program (record (procedure [] (Placed 1 (Leave (Throw arith)) ∷ Placed 7 (Send pub_channel (int 1)) ∷ []))
    { throws = thrown arith [] } ∷ [])) ≡ fault Unreachable 7
unfolding int_wrap
unreachable = refl

-- `try { send pub, 1; } catch (Arith) { }` with the name at byte 9
never_raised : exit_faults (main_program [] (try_to (send_public (int 1) ∷ []) (Catch 9 arith Empty NoMore) ∷ [])) ≡ fault NeverRaised 9
unfolding int_wrap
never_raised = refl

-- `try { throw Oops; } catch (Oops) { } catch (Oops) { break; }`: at the second name, before its body is looked at
caught_before : exit_faults (main_program [] (
    try_to (Placed 0 (Leave (Throw oops)) ∷ []) (Catch 8 oops Empty (Catch 9 oops (block (Placed 10 (Leave Break) ∷ [])) NoMore)) ∷ []))
    ≡ fault NeverRaised 9 ++ fault OutsideLoop 10 ++ fault Undeclared 0
unfolding int_wrap
caught_before = refl

-- `a[z - 1] = 1;` cannot raise `Arith`
no_arith : exit_faults (main_program (int_slot [] ∷ array_slot 2 [] ∷ []) (
    try_to (Placed 0 (Store (Local 1) 2 (Binary (Compute Subtract) (var 0) (int 1)) (int 1)) ∷ []) (Catch 8 arith Empty (Catch 9 bounds Empty NoMore)) ∷ []))
    ≡ fault NeverRaised 8
unfolding int_wrap
no_arith = refl

-- `int{} f() { if (n > 0) { return 1; } }` and `void f() { receive s; }` with the name at byte 3
no_value : exit_faults (program (record (procedure (int_slot [] ∷ []) (if_then (positive (var 0)) (Placed 0 (ReturnWith (Some (int 1))) ∷ []) ∷ []))
    { at = 3; result = Some (record { base = Int; label = [] }) } ∷ [])) ≡ fault NoValueReturned 3
unfolding int_wrap
no_value = refl

undeclared : exit_faults (program (record (procedure [] (Placed 0 (Receive s_channel None) ∷ [])) { at = 3 } ∷ [])) ≡ fault Undeclared 3
unfolding int_wrap
undeclared = refl

-- a declared exception need not be raised, and one that is caught need not be declared
no_fault : exit_faults (program (record (procedure [] (try_to (Placed 0 (Receive s_channel None) ∷ []) (on end []) ∷ [])) { throws = thrown oops [] }
    ∷ [])) ≡ []
unfolding int_wrap
no_fault = refl
