-- Each rule of labels, once where a program fits it and once where none of its labellings does. Each program but those of calls
-- begins with `int{Alice:} x = 0; try { x = receive s; } catch (End) { }`.
use Rattle.std.proofs.Common.{◌≡◌, refl, List, [], ◌∷◌, ◌++◌, true, false}
use Rattle.std.proofs.Math.Bool.{and-false}
use Rattle.std.specs.Prelude.{Some, None}
use Rattle.std.specs.Int.{int_wrap}
use Rattle.labels.specs.Label.{Label}
use Rattle.common.specs.declared.base_type.BaseType.TheVariants.{Int}
use Rattle.resolved.specs.declared.expression.Variable.TheVariants.{Local}
use Rattle.common.specs.declared.operator.Operator.TheVariants.{Compute, Compare}
use Rattle.common.specs.declared.operator.Arithmetic.TheVariants.{Add, Divide}
use Rattle.common.specs.declared.operator.Comparison.TheVariants.{Ordered, Matched}
use Rattle.common.specs.declared.operator.Order.TheVariants.{LessThan}
use Rattle.common.specs.declared.operator.Sameness.TheVariants.{Same}
use Rattle.common.specs.declared.operator.Connective.TheVariants.{And}
use Rattle.resolved.specs.declared.statement.Exit.TheVariants.{Break, Continue, Throw}
use Rattle.resolved.specs.Tree.{Logical, Binary, Short, Statement, Placed, Clear, Store, Receive, Call, Leave, ReturnWith, Nested}
use Rattle.resolved.specs.Program.{Program}
use Rattle.resolved.specs.Labelled.{Labelling}
use Rattle.resolved.proofs.Cases.Kit.{arith, bounds, end, oops, s_channel, q_channel, alice, alice_to_bob, int_slot, unlabelled_slot, array_slot, int, var, set_to, send_public, positive, block, on, try_to, if_then, while_loop, receive_secret, procedure, thrown, program, main_program, secret_program, all_written, loop_is, locals_are, fits}

-- ---- assignment
-- `int{Alice: Bob} y = 0; int{Alice:} z = y;`
assign_fits : fits (main_program (int_slot alice_to_bob ∷ int_slot alice ∷ []) (set_to 0 (int 0) ∷ set_to 1 (var 0) ∷ [])) all_written
    ≡ true
unfolding int_wrap
assign_fits = refl

-- `int{Alice:} z = 0; int{Alice: Bob} y = z;`
assign_refused : (labelling : Labelling)
    → fits (main_program (int_slot alice ∷ int_slot alice_to_bob ∷ []) (set_to 0 (int 0) ∷ set_to 1 (var 0) ∷ [])) labelling ≡ false
unfolding int_wrap
assign_refused labelling = refl

-- `int y = x; send pub, y;` has no labelling: y would be public
unlabelled_refused : (label : Label)
    → fits (secret_program (unlabelled_slot ∷ []) (set_to 1 (var 0) ∷ send_public (var 1) ∷ [])) (locals_are label) ≡ false
unfolding int_wrap
unlabelled_refused [] = refl
unlabelled_refused (policy ∷ rest) = and-false _

-- ---- the declaration of an array
-- `if (x > 0) { int{Alice:} a[2]; }` and `if (x > 0) { int{} a[2]; }`
array_fits : fits (secret_program (array_slot 2 alice ∷ []) (if_then (positive (var 0)) (Placed 0 (Clear 1) ∷ []) ∷ [])) all_written ≡ true
unfolding int_wrap
array_fits = refl

array_refused : (labelling : Labelling)
    → fits (secret_program (array_slot 2 [] ∷ []) (if_then (positive (var 0)) (Placed 0 (Clear 1) ∷ []) ∷ [])) labelling ≡ false
unfolding int_wrap
array_refused labelling = refl

-- ---- a store
-- `int{Alice:} a[2]; try { a[x] = 1; } catch (Bounds) { } send pub, 1;`
store_fits : fits (secret_program (array_slot 2 alice ∷ []) (
    Placed 0 (Clear 1) ∷ try_to (Placed 0 (Store (Local 1) 2 (var 0) (int 1)) ∷ []) (on bounds []) ∷ send_public (int 1) ∷ [])) all_written ≡ true
unfolding int_wrap
store_fits = refl

-- the same with `int{} a[2];`
store_refused : (labelling : Labelling) → fits (secret_program (array_slot 2 [] ∷ []) (
    Placed 0 (Clear 1) ∷ try_to (Placed 0 (Store (Local 1) 2 (var 0) (int 1)) ∷ []) (on bounds []) ∷ [])) labelling ≡ false
unfolding int_wrap
store_refused labelling = refl

-- `try { a[x] = 1; send pub, 1; } catch (Bounds) { }`: that the index was in range would be reported
store_range_refused : (labelling : Labelling) → fits (secret_program (array_slot 2 alice ∷ []) (
    Placed 0 (Clear 1) ∷ try_to (Placed 0 (Store (Local 1) 2 (var 0) (int 1)) ∷ send_public (int 1) ∷ []) (on bounds []) ∷ [])) labelling ≡ false
unfolding int_wrap
store_range_refused labelling = refl

-- ---- receive
-- `if (x > 0) { try { receive s; } catch (End) { } }` and the same with q: the number taken from q would tell of x
receive_fits : fits (secret_program [] (
    if_then (positive (var 0)) (try_to (Placed 0 (Receive s_channel None) ∷ []) (on end []) ∷ []) ∷ [])) all_written ≡ true
unfolding int_wrap
receive_fits = refl

receive_refused : (labelling : Labelling) → fits (secret_program [] (
    if_then (positive (var 0)) (try_to (Placed 0 (Receive q_channel None) ∷ []) (on end []) ∷ []) ∷ [])) labelling ≡ false
unfolding int_wrap
receive_refused labelling = refl

-- `int{} y = 0; try { y = receive s; } catch (End) { }`
target_refused : (labelling : Labelling)
    → fits (main_program (int_slot [] ∷ []) (try_to (Placed 0 (Receive s_channel (Some (Local 0))) ∷ []) (on end []) ∷ [])) labelling ≡ false
unfolding int_wrap
target_refused labelling = refl

-- `void main() throws (End{Alice:}) { int x = receive s; send pub, x; }`
reported_refused : (label : Label)
    → fits (program (record (procedure (unlabelled_slot ∷ []) (Placed 0 (Receive s_channel (Some (Local 0))) ∷ send_public (var 0) ∷ []))
    { throws = thrown end alice; end_label = alice } ∷ [])) (locals_are label) ≡ false
unfolding int_wrap
reported_refused [] = refl
reported_refused (policy ∷ rest) = and-false _

-- ---- send
send_fits : fits (secret_program [] (send_public (int 7) ∷ [])) all_written ≡ true
unfolding int_wrap
send_fits = refl

send_refused : (labelling : Labelling) → fits (secret_program [] (send_public (var 0) ∷ [])) labelling ≡ false
unfolding int_wrap
send_refused labelling = refl

-- ---- if
-- `if (x > 0) { x = 1; } send pub, 1;` and `if (x > 0) { send pub, 1; }`
if_fits : fits (secret_program [] (if_then (positive (var 0)) (set_to 0 (int 1) ∷ []) ∷ send_public (int 1) ∷ [])) all_written ≡ true
unfolding int_wrap
if_fits = refl

if_refused : (labelling : Labelling)
    → fits (secret_program [] (if_then (positive (var 0)) (send_public (int 1) ∷ []) ∷ [])) labelling ≡ false
unfolding int_wrap
if_refused labelling = refl

-- `if (x > 0) { return; } send pub, 1;`: two exits are possible, so the second statement is not reached at the first one's label
if_return_refused : (labelling : Labelling)
    → fits (secret_program [] (if_then (positive (var 0)) (Placed 0 (ReturnWith None) ∷ []) ∷ send_public (int 1) ∷ [])) labelling ≡ false
unfolding int_wrap
if_return_refused labelling = refl

-- ---- while
-- `while (x > 0) { } send pub, 1;`
while_fits : fits (secret_program [] (while_loop (positive (var 0)) [] ∷ send_public (int 1) ∷ [])) (loop_is alice) ≡ true
unfolding int_wrap
while_fits = refl

-- `while (true) { send pub, 1; if (x > 0) { break; } }`: the second round tells of x, since the body's normal exit comes back
while_refused : (label : Label)
    → fits (secret_program [] (while_loop (Logical true) (
    send_public (int 1) ∷ if_then (positive (var 0)) (Placed 0 (Leave Break) ∷ []) ∷ []) ∷ [])) (loop_is label) ≡ false
unfolding int_wrap
while_refused [] = refl
while_refused (policy ∷ rest) = refl

-- the same with `continue` in the place of `break`, and then a `break`
continue_refused : (label : Label)
    → fits (secret_program [] (while_loop (Logical true) (
    send_public (int 1) ∷ if_then (positive (var 0)) (Placed 0 (Leave Continue) ∷ []) ∷ Placed 0 (Leave Break) ∷ []) ∷ [])) (loop_is label) ≡ false
unfolding int_wrap
continue_refused [] = refl
continue_refused (policy ∷ rest) = refl

-- `while (i < 3) { send pub, i; i = i + 1; }`
public_loop_fits : fits (secret_program (int_slot [] ∷ []) (
    while_loop (Binary (Compare (Ordered LessThan)) (var 1) (int 3)) (send_public (var 1) ∷ set_to 1 (Binary (Compute Add) (var 1) (int 1)) ∷ []) ∷ [])) (loop_is [])
    ≡ true
unfolding int_wrap
public_loop_fits = refl

-- ---- leaving
-- `try { while (true) { if (x > 0) { break; } throw Oops; } send pub, 1; } catch (Oops) { }`: the loop has two exits, and its normal
-- exit has the label of `break`; and `while (true) { break; } send pub, 1;`, where it has one exit
break_refused : (label : Label)
    → fits (secret_program [] (
    try_to (while_loop (Logical true) (if_then (positive (var 0)) (Placed 0 (Leave Break) ∷ []) ∷ Placed 0 (Leave (Throw oops)) ∷ [])
    ∷ send_public (int 1) ∷ []) (on oops []) ∷ [])) (loop_is label) ≡ false
unfolding int_wrap
break_refused [] = refl
break_refused (policy ∷ rest) = refl

break_fits : fits (secret_program [] (while_loop (Logical true) (Placed 0 (Leave Break) ∷ []) ∷ send_public (int 1) ∷ [])) (loop_is []) ≡ true
unfolding int_wrap
break_fits = refl

-- `throw` in a secret branch: `try { if (x > 0) { throw Oops; } send pub, 1; } catch (Oops) { }`
throw_refused : (labelling : Labelling) → fits (secret_program [] (
    try_to (if_then (positive (var 0)) (Placed 0 (Leave (Throw oops)) ∷ []) ∷ send_public (int 1) ∷ []) (on oops []) ∷ [])) labelling ≡ false
unfolding int_wrap
throw_refused labelling = refl

-- ---- try
-- `try { int{Alice:} y = 1 / x; } catch (Arith) { } send pub, 1;`, and with `send pub, 1;` in the handler
try_fits : fits (secret_program (int_slot alice ∷ []) (
    try_to (set_to 1 (Binary (Compute Divide) (int 1) (var 0)) ∷ []) (on arith []) ∷ send_public (int 1) ∷ [])) all_written ≡ true
unfolding int_wrap
try_fits = refl

try_refused : (labelling : Labelling) → fits (secret_program (int_slot alice ∷ []) (
    try_to (set_to 1 (Binary (Compute Divide) (int 1) (var 0)) ∷ []) (on arith (send_public (int 1) ∷ [])) ∷ [])) labelling ≡ false
unfolding int_wrap
try_refused labelling = refl

-- a divisor that cannot be 0 tells nothing: `try { int{Alice:} y = x / 2; send pub, 1; throw Oops; } catch (Oops) { send pub, 2; }`
safe_division_fits : fits (secret_program (int_slot alice ∷ []) (
    try_to (set_to 1 (Binary (Compute Divide) (var 0) (int 2)) ∷ send_public (int 1) ∷ Placed 0 (Leave (Throw oops)) ∷ []) (on oops (send_public (int 2) ∷ []))
    ∷ [])) all_written ≡ true
unfolding int_wrap
safe_division_fits = refl

-- the right operand of `&&` is evaluated or not by the left one: `try { y = x > 0 && 1 / z == 1; send pub, 1; } catch (Arith) { }`
short_refused : (labelling : Labelling) → fits (secret_program (int_slot alice ∷ int_slot [] ∷ []) (
    try_to (set_to 1 (Short And (positive (var 0)) (Binary (Compare (Matched Same)) (Binary (Compute Divide) (int 1) (var 2)) (int 1))) ∷ send_public (int 1) ∷ [])
    (on arith []) ∷ [])) labelling ≡ false
unfolding int_wrap
short_refused labelling = refl

-- ---- blocks
-- `{ x = 1; x = 2; } send pub, 1;`
block_fits : fits (secret_program [] (
    Placed 0 (Nested (block (if_then (positive (var 0)) (set_to 0 (int 1) ∷ []) ∷ set_to 0 (int 2) ∷ []))) ∷ send_public (int 1) ∷ [])) all_written
    ≡ true
unfolding int_wrap
block_fits = refl

-- `void main() throws (Arith{Alice:}) { .. int{Alice:} y = 1 / x; send pub, 1; }`: what follows is reached or not by x
block_refused : (labelling : Labelling) → fits (program (record (procedure (int_slot alice ∷ int_slot alice ∷ [])
    (receive_secret ++ (set_to 1 (Binary (Compute Divide) (int 1) (var 0)) ∷ send_public (int 1) ∷ []))) { throws = thrown arith alice } ∷ [])) labelling
    ≡ false
unfolding int_wrap
block_refused labelling = refl

-- `try { if (x > 0) { throw Oops; } x = 1; send pub, 1; } catch (Oops) { }`: the `if` has two exits, and all that follows in the block
-- is reached at the label of its normal exit
rest_refused : (labelling : Labelling) → fits (secret_program [] (
    try_to (if_then (positive (var 0)) (Placed 0 (Leave (Throw oops)) ∷ []) ∷ set_to 0 (int 1) ∷ send_public (int 1) ∷ []) (on oops []) ∷ []))
    labelling ≡ false
unfolding int_wrap
rest_refused labelling = refl

-- with a public y, `try { if (y > 0) { return; } if (x > 0) { throw Oops; } throw Oops; } catch (Oops) { send pub, 1; }`: the rest of the
-- block, which has one exit, is no statement of its own and so no single path
no_single_path : (labelling : Labelling) → fits (secret_program (int_slot [] ∷ []) (
    try_to (
    if_then (positive (var 1)) (Placed 0 (ReturnWith None) ∷ []) ∷ if_then (positive (var 0)) (Placed 0 (Leave (Throw oops)) ∷ []) ∷ Placed 0 (Leave (Throw oops)) ∷ [])
    (on oops (send_public (int 1) ∷ [])) ∷ [])) labelling ≡ false
unfolding int_wrap
no_single_path labelling = refl

-- the same with the rest in braces, which is a statement
single_path_fits : fits (secret_program (int_slot [] ∷ []) (
    try_to (
    if_then (positive (var 1)) (Placed 0 (ReturnWith None) ∷ [])
    ∷ Placed 0 (Nested (block (if_then (positive (var 0)) (Placed 0 (Leave (Throw oops)) ∷ []) ∷ Placed 0 (Leave (Throw oops)) ∷ []))) ∷ [])
    (on oops (send_public (int 1) ∷ [])) ∷ [])) all_written ≡ true
unfolding int_wrap
single_path_fits = refl

-- ---- calls. `void f{begin}() { .. }` and `if (x > 0) { f(); }`
calling : Label → List Statement → Program
calling begin statements = program (
    procedure (int_slot alice ∷ []) (receive_secret ++ (if_then (positive (var 0)) (Placed 0 (Call 1 [] None) ∷ []) ∷ []))
    ∷ record (procedure [] statements) { begin_label = begin; end_label = begin } ∷ [])

call_fits : fits (calling alice []) all_written ≡ true
unfolding int_wrap calling
call_fits = refl

call_refused : (labelling : Labelling) → fits (calling [] (send_public (int 1) ∷ [])) labelling ≡ false
unfolding int_wrap calling
call_refused labelling = refl

call_body_refused : (labelling : Labelling) → fits (calling alice (send_public (int 1) ∷ [])) labelling ≡ false
unfolding int_wrap calling
call_body_refused labelling = refl

-- `void k(int{..} n) throws (Arith{Alice:}) { int{Alice:} m = 1 / n; }`, with `try { k(x); } catch (Arith) { } send pub, 1;`
calling_k : (parameter end_label thrown_label : Label) → List Statement → Program
calling_k parameter end_label thrown_label statements = program (
    procedure (int_slot alice ∷ []) (receive_secret ++ statements)
    ∷ record (procedure (int_slot parameter ∷ int_slot alice ∷ []) (set_to 1 (Binary (Compute Divide) (int 1) (var 0)) ∷ []))
    { parameters = 1; throws = thrown arith thrown_label; end_label = end_label } ∷ [])

argument_fits : fits (calling_k alice alice alice (
    try_to (Placed 0 (Call 1 (var 0 ∷ []) None) ∷ []) (on arith []) ∷ send_public (int 1) ∷ [])) all_written ≡ true
unfolding int_wrap calling_k
argument_fits = refl

argument_refused : (labelling : Labelling) → fits (calling_k [] alice alice (
    try_to (Placed 0 (Call 1 (var 0 ∷ []) None) ∷ []) (on arith []) ∷ send_public (int 1) ∷ [])) labelling ≡ false
unfolding int_wrap calling_k
argument_refused labelling = refl

-- the end label: `try { k(1); send pub, 1; } catch (Arith) { }`, where k may have an end label by which it ends normally or not
end_label_refused : (labelling : Labelling) → fits (calling_k alice alice alice (
    try_to (Placed 0 (Call 1 (int 1 ∷ []) None) ∷ send_public (int 1) ∷ []) (on arith []) ∷ [])) labelling ≡ false
unfolding int_wrap calling_k
end_label_refused labelling = refl

-- ---- the exits of a procedure
-- k with `throws (Arith{})`: that it throws would tell of n
procedure_refused : (labelling : Labelling) → fits (calling_k alice alice [] []) labelling ≡ false
unfolding int_wrap calling_k
procedure_refused labelling = refl

-- k with the end label {}: that it ends normally would tell of n
normal_end_refused : (labelling : Labelling) → fits (calling_k alice [] alice []) labelling ≡ false
unfolding int_wrap calling_k
normal_end_refused labelling = refl

procedure_fits : fits (calling_k alice alice alice []) all_written ≡ true
unfolding int_wrap calling_k
procedure_fits = refl

-- ---- return
-- `int{value} g(int{Alice:} n) { return n + 1; }` and `y = g(1);` with y of that label
returning : (value target : Label) → Program
returning value target = program (
    procedure (int_slot target ∷ []) (Placed 0 (Call 1 (int 1 ∷ []) (Some (Local 0))) ∷ [])
    ∷ record (procedure (int_slot alice ∷ []) (Placed 0 (ReturnWith (Some (Binary (Compute Add) (var 0) (int 1)))) ∷ []))
    { parameters = 1; result = Some (record { base = Int; label = value }) } ∷ [])

return_fits : fits (returning alice alice) all_written ≡ true
unfolding int_wrap returning
return_fits = refl

return_refused : (labelling : Labelling) → fits (returning [] alice) labelling ≡ false
unfolding int_wrap returning
return_refused labelling = refl

-- the value has its label where it goes
value_refused : (labelling : Labelling) → fits (returning alice []) labelling ≡ false
unfolding int_wrap returning
value_refused labelling = refl
