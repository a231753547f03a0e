-- What programs send and how they end.
use Rattle.std.proofs.Common.{◌≡◌, refl, ℕ, List, [], ◌∷◌, true, false}
use Rattle.std.specs.Prelude.{ℤ, pos, negsuc, Some, None}
use Rattle.std.specs.Int.{int_wrap}
use Rattle.common.specs.declared.base_type.BaseType.TheVariants.{Int}
use Rattle.resolved.specs.declared.expression.Variable.TheVariants.{Global, Local}
use Rattle.common.specs.declared.operator.Operator.TheVariants.{Compute, Compare}
use Rattle.common.specs.declared.operator.Arithmetic.TheVariants.{Add, Subtract, Multiply, Divide, Remainder}
use Rattle.common.specs.declared.operator.Comparison.TheVariants.{Ordered, Matched}
use Rattle.common.specs.declared.operator.Order.TheVariants.{LessThan}
use Rattle.common.specs.declared.operator.Sameness.TheVariants.{Same}
use Rattle.common.specs.declared.operator.Connective.TheVariants.{And, Or}
use Rattle.common.specs.declared.operator.Prefix.TheVariants.{Negate}
use Rattle.common.specs.declared.value.Value.TheVariants.{Int as Number}
use Rattle.resolved.specs.declared.statement.Exit.TheVariants.{Break, Continue, Throw}
use Rattle.resolved.specs.Tree.{Expression, Logical, Read, Element, Unary, Binary, Short, Placed, Assign, Clear, Store, Receive, Call, Leave, ReturnWith, Catch}
use Rattle.resolved.specs.Program.{Program}
use Rattle.resolved.specs.Meaning.{Deep, OutOfFuel, frame_limit}
use Rattle.resolved.proofs.Cases.Kit.{arith, bounds, end, oops, s_channel, pub_channel, int_slot, array_slot, int, minus, var, set_to, send_public, positive, block, on, try_to, if_then, while_loop, procedure, thrown, program, program_with, main_program, secret_program, silence, secret, finished, threw, stopped, run}

frames_of_a_run : frame_limit ≡ 512
unfolding frame_limit
frames_of_a_run = refl

-- `send pub, 7;`
one_number : run 1 0 (main_program [] (send_public (int 7) ∷ [])) silence ≡ (pos 7 ∷ [], finished)
unfolding int_wrap
one_number = refl

-- the least number by -1, and the quotients and remainders of numbers with signs
division : run 1 0 (main_program [] (
    send_public (Binary (Compute Divide) (Binary (Compute Subtract) (minus 2147483647) (int 1)) (minus 1))
    ∷ send_public (Binary (Compute Remainder) (Binary (Compute Subtract) (minus 2147483647) (int 1)) (minus 1))
    ∷ send_public (Binary (Compute Divide) (minus 7) (int 2)) ∷ send_public (Binary (Compute Remainder) (minus 7) (int 2))
    ∷ send_public (Binary (Compute Remainder) (int 7) (minus 2)) ∷ [])) silence
    ≡ (negsuc 2147483647 ∷ pos 0 ∷ negsuc 2 ∷ negsuc 0 ∷ pos 1 ∷ [], finished)
unfolding int_wrap
division = refl

-- sums, products and the sign wrap
wrapping : run 1 0 (main_program [] (
    send_public (Binary (Compute Add) (int 2147483647) (int 1)) ∷ send_public (Binary (Compute Multiply) (int 65536) (int 65536))
    ∷ send_public (Unary Negate (Binary (Compute Add) (int 2147483647) (int 1))) ∷ [])) silence
    ≡ (negsuc 2147483647 ∷ pos 0 ∷ negsuc 2147483647 ∷ [], finished)
unfolding int_wrap
wrapping = refl

-- `int z = 0; int a[2]; try { int y = 1 / z + a[z - 1]; } catch (Arith) { send pub, 1; } catch (Bounds) { send pub, 2; }`:
-- the left operand raises first
left_operand_first : run 1 0 (main_program (int_slot [] ∷ array_slot 2 [] ∷ int_slot [] ∷ []) (
    set_to 0 (int 0) ∷ Placed 0 (Clear 1)
    ∷ try_to (set_to 2 (Binary (Compute Add) (Binary (Compute Divide) (int 1) (var 0)) (Element (Local 1) 2 (Binary (Compute Subtract) (var 0) (int 1)))) ∷ [])
    (Catch 0 arith (block (send_public (int 1) ∷ [])) (on bounds (send_public (int 2) ∷ []))) ∷ [])) silence
    ≡ (pos 1 ∷ [], finished)
unfolding int_wrap
left_operand_first = refl

-- the same with `a[z - 1] = 1 / z;` as the block: the value is evaluated before the range is tested
value_before_range : run 1 0 (main_program (int_slot [] ∷ array_slot 2 [] ∷ []) (
    set_to 0 (int 0) ∷ Placed 0 (Clear 1)
    ∷ try_to (Placed 0 (Store (Local 1) 2 (Binary (Compute Subtract) (var 0) (int 1)) (Binary (Compute Divide) (int 1) (var 0))) ∷ [])
    (Catch 0 arith (block (send_public (int 1) ∷ [])) (on bounds (send_public (int 2) ∷ []))) ∷ [])) silence
    ≡ (pos 1 ∷ [], finished)
unfolding int_wrap
value_before_range = refl

-- the first argument raises first, and before the call
first_argument_first : run 1 0 (main_program (int_slot [] ∷ array_slot 1 [] ∷ []) (
    try_to (Placed 0 (Call 9 (Element (Local 1) 1 (int 1) ∷ Binary (Compute Divide) (int 1) (var 0) ∷ []) None) ∷ [])
    (Catch 0 arith (block (send_public (int 1) ∷ [])) (on bounds (send_public (int 2) ∷ []))) ∷ [])) silence
    ≡ (pos 2 ∷ [], finished)
unfolding int_wrap
first_argument_first = refl

-- `if (false && 1 / 0 == 1) { send pub, 1; } if (true || 1 / 0 == 1) { send pub, 2; } if (true && 1 / 0 == 1) { }`
short_circuit : run 1 0 (main_program [] (
    if_then (Short And (Logical false) (Binary (Compare (Matched Same)) (Binary (Compute Divide) (int 1) (int 0)) (int 1))) (send_public (int 1) ∷ [])
    ∷ if_then (Short Or (Logical true) (Binary (Compare (Matched Same)) (Binary (Compute Divide) (int 1) (int 0)) (int 1))) (send_public (int 2) ∷ [])
    ∷ if_then (Short And (Logical true) (Binary (Compare (Matched Same)) (Binary (Compute Divide) (int 1) (int 0)) (int 1))) [] ∷ [])) silence
    ≡ (pos 2 ∷ [], threw arith)
unfolding int_wrap
short_circuit = refl

-- `while (i < 3) { int{} a[2]; a[i] = a[0] + 5; send pub, a[i]; i = i + 1; }`: the array is cleared in each round, and an index past
-- its end raises
cleared_each_round : run 1 3 (main_program (array_slot 2 [] ∷ int_slot [] ∷ []) (
    set_to 1 (int 0)
    ∷ while_loop (Binary (Compare (Ordered LessThan)) (var 1) (int 3)) (
    Placed 0 (Clear 0) ∷ Placed 0 (Store (Local 0) 2 (var 1) (Binary (Compute Add) (Element (Local 0) 2 (int 0)) (int 5)))
    ∷ send_public (Element (Local 0) 2 (var 1)) ∷ set_to 1 (Binary (Compute Add) (var 1) (int 1)) ∷ []) ∷ [])) silence
    ≡ (pos 5 ∷ pos 5 ∷ [], threw bounds)
unfolding int_wrap
cleared_each_round = refl

-- without the declaration in the loop the elements would stay
elements_stay : run 1 2 (main_program (array_slot 1 [] ∷ int_slot [] ∷ []) (
    while_loop (Binary (Compare (Ordered LessThan)) (var 1) (int 2)) (
    Placed 0 (Store (Local 0) 1 (int 0) (Binary (Compute Add) (Element (Local 0) 1 (int 0)) (int 5)))
    ∷ send_public (Element (Local 0) 1 (int 0)) ∷ set_to 1 (Binary (Compute Add) (var 1) (int 1)) ∷ []) ∷ [])) silence
    ≡ (pos 5 ∷ pos 10 ∷ [], finished)
unfolding int_wrap
elements_stay = refl

-- `x = receive s; send pub, x; x = receive s;` on s = 4: at the end of the input `End` is raised
input_ends : run 1 0 (main_program (int_slot [] ∷ []) (
    Placed 0 (Receive s_channel (Some (Local 0))) ∷ send_public (var 0) ∷ Placed 0 (Receive s_channel (Some (Local 0))) ∷ [])) (secret (pos 4 ∷ []))
    ≡ (pos 4 ∷ [], threw end)
unfolding int_wrap
input_ends = refl

-- an output has no input
output_is_empty : run 1 0 (main_program (int_slot [] ∷ []) (Placed 0 (Receive pub_channel (Some (Local 0))) ∷ [])) (λ channel. pos 1 ∷ [])
    ≡ ([], threw end)
unfolding int_wrap
output_is_empty = refl

-- `while (true) { send pub, 1; }`: with fuel 3 it has sent three times and is out of fuel
out_of_fuel : run 1 3 (main_program [] (while_loop (Logical true) (send_public (int 1) ∷ []) ∷ [])) silence
    ≡ (pos 1 ∷ pos 1 ∷ pos 1 ∷ [], stopped OutOfFuel)
unfolding int_wrap
out_of_fuel = refl

-- rounds are counted anew each time a loop is reached: two rounds of the inner loop suffice in both rounds of the outer one
fuel_counted_anew : run 1 2 (main_program (int_slot [] ∷ int_slot [] ∷ []) (
    while_loop (Binary (Compare (Ordered LessThan)) (var 0) (int 2)) (
    set_to 1 (int 0)
    ∷ while_loop (Binary (Compare (Ordered LessThan)) (var 1) (int 2)) (send_public (var 1) ∷ set_to 1 (Binary (Compute Add) (var 1) (int 1)) ∷ [])
    ∷ set_to 0 (Binary (Compute Add) (var 0) (int 1)) ∷ []) ∷ [])) silence
    ≡ (pos 0 ∷ pos 1 ∷ pos 0 ∷ pos 1 ∷ [], finished)
unfolding int_wrap
fuel_counted_anew = refl

-- being out of fuel passes through a `try` and through what follows
stop_is_not_caught : run 1 1 (main_program [] (
    try_to (while_loop (Logical true) [] ∷ Placed 0 (Leave (Throw oops)) ∷ []) (on oops (send_public (int 1) ∷ []))
    ∷ send_public (int 2) ∷ [])) silence ≡ ([], stopped OutOfFuel)
unfolding int_wrap
stop_is_not_caught = refl

-- `while (true) { if (i == 1) { i = i + 1; continue; } if (i == 3) { break; } send pub, i; i = i + 1; } send pub, 9;`
break_and_continue : run 1 5 (main_program (int_slot [] ∷ []) (
    while_loop (Logical true) (
    if_then (Binary (Compare (Matched Same)) (var 0) (int 1)) (set_to 0 (Binary (Compute Add) (var 0) (int 1)) ∷ Placed 0 (Leave Continue) ∷ [])
    ∷ if_then (Binary (Compare (Matched Same)) (var 0) (int 3)) (Placed 0 (Leave Break) ∷ [])
    ∷ send_public (var 0) ∷ set_to 0 (Binary (Compute Add) (var 0) (int 1)) ∷ [])
    ∷ send_public (int 9) ∷ [])) silence ≡ (pos 0 ∷ pos 2 ∷ pos 9 ∷ [], finished)
unfolding int_wrap
break_and_continue = refl

-- `try { try { throw Oops; } catch (Oops) { throw Oops; } } catch (Oops) { send pub, 1; }`: the exceptions of a handler leave its
-- own `try`
handler_raises : run 1 0 (main_program [] (
    try_to (try_to (Placed 0 (Leave (Throw oops)) ∷ []) (on oops (Placed 0 (Leave (Throw oops)) ∷ [])) ∷ []) (on oops (send_public (int 1) ∷ []))
    ∷ [])) silence ≡ (pos 1 ∷ [], finished)
unfolding int_wrap
handler_raises = refl

-- `try { try { throw Oops; } catch (Oops) { send pub, 1; } } catch (Oops) { send pub, 2; }`: the innermost handler takes it
innermost_handler : run 1 0 (main_program [] (
    try_to (try_to (Placed 0 (Leave (Throw oops)) ∷ []) (on oops (send_public (int 1) ∷ [])) ∷ []) (on oops (send_public (int 2) ∷ []))
    ∷ [])) silence ≡ (pos 1 ∷ [], finished)
unfolding int_wrap
innermost_handler = refl

-- of two handlers of one exception the first is taken, and one of another exception is passed over
first_handler : run 1 0 (main_program [] (
    try_to (Placed 0 (Leave (Throw oops)) ∷ [])
    (Catch 0 arith (block (send_public (int 1) ∷ []))
    (Catch 0 oops (block (send_public (int 2) ∷ []))
    (on oops (send_public (int 3) ∷ [])))) ∷ [])) silence ≡ (pos 2 ∷ [], finished)
unfolding int_wrap
first_handler = refl

-- `void f(int{} n) throws (Oops{}) { if (n > 0) { f(n - 1); } }` and
-- `void main() { try { f(n); } catch (Oops) { send pub, 2; } send pub, 1; }`
recursive : Expression → Program
recursive n = program (
    procedure [] (try_to (Placed 0 (Call 1 (n ∷ []) None) ∷ []) (on oops (send_public (int 2) ∷ [])) ∷ send_public (int 1) ∷ [])
    ∷ record (procedure (int_slot [] ∷ []) (if_then (positive (var 0)) (Placed 0 (Call 1 (Binary (Compute Subtract) (var 0) (int 1) ∷ []) None) ∷ []) ∷ []))
    { parameters = 1; throws = thrown oops [] }
    ∷ [])

-- with at most 4 frames in use, as `main`, f(2), f(1), f(0) have, it finishes
deep_enough : run 4 0 (recursive (int 2)) silence ≡ (pos 1 ∷ [], finished)
unfolding int_wrap recursive
deep_enough = refl

-- one frame more is deep, which no handler takes
too_deep : run 4 0 (recursive (int 3)) silence ≡ ([], stopped Deep)
unfolding int_wrap recursive
too_deep = refl

-- the same at the limit of a run
at_the_limit : run 512 0 (recursive (int 510)) silence ≡ (pos 1 ∷ [], finished)
unfolding int_wrap recursive
at_the_limit = refl

past_the_limit : run 512 0 (recursive (int 511)) silence ≡ ([], stopped Deep)
unfolding int_wrap recursive
past_the_limit = refl

-- `global int{} n = 2; void main() { send pub, n; n = n - 1; if (n > 0) { main(); } send pub, 9; }`
main_calls_itself : run 3 0 (program_with (record { name = []; base = Int; size = None; label = []; first = Number (pos 2) } ∷ []) (
    procedure [] (
    send_public (Read (Global 0)) ∷ Placed 0 (Assign (Global 0) (Binary (Compute Subtract) (Read (Global 0)) (int 1)))
    ∷ if_then (positive (Read (Global 0))) (Placed 0 (Call 0 [] None) ∷ [])
    ∷ send_public (int 9) ∷ [])
    ∷ [])) silence ≡ (pos 2 ∷ pos 1 ∷ pos 9 ∷ pos 9 ∷ [], finished)
unfolding int_wrap
main_calls_itself = refl

-- `int{} h(int{} n) { n = n + 1; return n; send pub, 5; }` and `int n = 1; n = h(6); send pub, n; h(n);`: the value comes back, the
-- caller's own slots are as before, and a value may be dropped
returned_value : run 2 0 (program (
    procedure (int_slot [] ∷ int_slot [] ∷ []) (
    set_to 0 (int 1) ∷ Placed 0 (Call 1 (int 6 ∷ []) (Some (Local 1))) ∷ send_public (var 1) ∷ Placed 0 (Call 1 (int 2 ∷ []) None)
    ∷ send_public (var 0) ∷ [])
    ∷ record (procedure (int_slot [] ∷ []) (
    set_to 0 (Binary (Compute Add) (var 0) (int 1)) ∷ Placed 0 (ReturnWith (Some (var 0))) ∷ send_public (int 5) ∷ []))
    { parameters = 1; result = Some (record { base = Int; label = [] }) }
    ∷ [])) silence ≡ (pos 7 ∷ pos 1 ∷ [], finished)
unfolding int_wrap
returned_value = refl

-- `int x = 0; try { x = receive s; } catch (End) { } while (x > 0) { } send pub, 1;`: with s = 0 it sends, with s = 1 it does not
hanging_with : (s : List ℤ) (k : ℕ) → List ℤ
hanging_with s k = (run 1 k (secret_program [] (while_loop (positive (var 0)) [] ∷ send_public (int 1) ∷ [])) (secret s)).0

does_not_hang : hanging_with (pos 0 ∷ []) 2 ≡ pos 1 ∷ []
unfolding int_wrap hanging_with
does_not_hang = refl

hangs : hanging_with (pos 1 ∷ []) 2 ≡ []
unfolding int_wrap hanging_with
hangs = refl
