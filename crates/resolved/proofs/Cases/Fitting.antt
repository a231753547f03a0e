-- Programs that are well formed and programs that are not.
use Rattle.std.proofs.Common.{◌≡◌, refl, ℕ, List, [], ◌∷◌, ◌++◌, Bool, true, false, replicate}
use Rattle.std.specs.Prelude.{pos, Some, None}
use Rattle.labels.specs.Label.{Label}
use Rattle.common.specs.declared.base_type.BaseType.TheVariants.{Int, Boolean}
use Rattle.resolved.specs.declared.expression.Variable.TheVariants.{Local}
use Rattle.common.specs.declared.operator.Operator.TheVariants.{Compute, Compare, Match}
use Rattle.common.specs.declared.operator.Arithmetic.TheVariants.{Add}
use Rattle.common.specs.declared.operator.Comparison.TheVariants.{Ordered, Matched}
use Rattle.common.specs.declared.operator.Order.TheVariants.{LessThan}
use Rattle.common.specs.declared.operator.Sameness.TheVariants.{Same}
use Rattle.common.specs.declared.operator.Prefix.TheVariants.{Not}
use Rattle.common.specs.declared.operator.Connective.TheVariants.{And, Or}
use Rattle.common.specs.declared.value.Value.TheVariants.{Int as Number, Bool as Truth}
use Rattle.resolved.specs.declared.statement.Exit.TheVariants.{Normal, Throw}
use Rattle.resolved.specs.Tree.{Expression, Logical, Element, Unary, Binary, Short, Statement, Placed, Clear, Store, Receive, Send, Call, While, Leave, ReturnWith, Nested, Empty}
use Rattle.resolved.specs.Program.{ProcedureEntry, SlotEntry, GlobalEntry}
use Rattle.resolved.specs.WellFormed.{well_formed}
use Rattle.resolved.proofs.Cases.Kit.{arith, oops, s_channel, pub_channel, alice, int_slot, unlabelled_slot, array_slot, int, minus, var, set_to, send_public, block, on, try_to, if_then, procedure, thrown, program, program_with}

-- a `main` without loops
abbrev main : List SlotEntry → List Statement → ProcedureEntry
main slots statements = record (procedure slots statements) { loops = 0 }

abbrev fitting : List SlotEntry → List Statement → Bool
fitting slots statements = well_formed (program (main slots statements ∷ []))

abbrev boolean_slot : SlotEntry
boolean_slot = record (int_slot []) { base = Boolean }

-- numbers, truth values and arrays where they are wanted
kinds_fit : fitting (int_slot [] ∷ boolean_slot ∷ array_slot 3 alice ∷ []) (
    set_to 0 (Binary (Compute Add) (int 1) (minus 2))
    ∷ set_to 1 (Short And (Binary (Compare (Ordered LessThan)) (var 0) (int 5)) (Unary Not (var 1)))
    ∷ set_to 1 (Binary (Match Same) (var 1) (Binary (Compare (Matched Same)) (var 0) (int 1)))
    ∷ Placed 0 (Clear 2) ∷ Placed 0 (Store (Local 2) 3 (var 0) (Element (Local 2) 3 (int 0)))
    ∷ try_to (Placed 0 (Receive s_channel (Some (Local 0))) ∷ Placed 0 (Leave (Throw oops)) ∷ []) (on oops []) ∷ send_public (var 0) ∷ []) ≡ true
kinds_fit = refl

-- each of these has one thing of another kind than its place wants
abbrev none_fits : List SlotEntry → List Statement → Type 0
none_fits slots [] = Unit {0}
none_fits slots (statement ∷ rest) = (fitting slots (statement ∷ []) ≡ false) × none_fits slots rest

kinds_refused : none_fits (int_slot [] ∷ boolean_slot ∷ array_slot 3 alice ∷ []) (
    set_to 0 (Logical true) ∷ set_to 1 (int 0) ∷ set_to 0 (var 2) ∷ set_to 2 (int 0) ∷ set_to 9 (int 0)
    ∷ set_to 0 (Binary (Compute Add) (int 1) (var 1)) ∷ set_to 1 (Binary (Compare (Matched Same)) (var 1) (var 1)) ∷ set_to 1 (Binary (Match Same) (int 1) (int 1))
    ∷ set_to 0 (Unary Not (int 1)) ∷ set_to 1 (Unary Not (int 1)) ∷ set_to 1 (Short Or (int 1) (var 1))
    ∷ set_to 0 (Element (Local 2) 4 (int 0)) ∷ set_to 0 (Element (Local 2) 3 (var 1)) ∷ set_to 0 (Element (Local 0) 3 (int 0))
    ∷ set_to 0 (int 2147483648)
    ∷ Placed 0 (Clear 0) ∷ Placed 0 (Clear 9) ∷ Placed 0 (Store (Local 2) 3 (int 0) (Logical true)) ∷ Placed 0 (Store (Local 2) 2 (int 0) (int 0)) ∷ Placed 0 (Store (Local 2) 3 (var 1) (int 0))
    ∷ Placed 0 (Receive pub_channel None) ∷ Placed 0 (Receive 9 None) ∷ Placed 0 (Receive s_channel (Some (Local 1))) ∷ Placed 0 (Receive s_channel (Some (Local 2)))
    ∷ Placed 0 (Send s_channel (int 0)) ∷ Placed 0 (Send 9 (int 0)) ∷ send_public (var 1)
    ∷ Placed 0 (Call 9 [] None) ∷ Placed 0 (Call 0 (int 0 ∷ []) None) ∷ Placed 0 (Call 0 [] (Some (Local 0)))
    ∷ if_then (int 0) [] ∷ if_then (Logical true) (set_to 1 (int 0) ∷ []) ∷ Placed 0 (Nested (block (set_to 1 (int 0) ∷ [])))
    ∷ Placed 0 (Leave Normal) ∷ Placed 0 (Leave (Throw 4)) ∷ Placed 0 (ReturnWith (Some (int 0)))
    ∷ try_to [] (on 4 []) ∷ try_to [] (on oops (set_to 1 (int 0) ∷ [])) ∷ try_to (set_to 1 (int 0) ∷ []) (on oops [])
    ∷ Placed 0 (While 0 (Logical true) Empty) ∷ [])
kinds_refused = (
  refl,
  (
    refl,
    (
      refl,
      (
        refl,
        (
          refl,
          (
            refl,
            (
              refl,
              (
                refl,
                (
                  refl,
                  (
                    refl,
                    (
                      refl,
                      (
                        refl,
                        (
                          refl,
                          (
                            refl,
                            (
                              refl,
                              (
                                refl,
                                (
                                  refl,
                                  (
                                    refl,
                                    (
                                      refl,
                                      (
                                        refl,
                                        (
                                          refl,
                                          (
                                            refl,
                                            (
                                              refl,
                                              (
                                                refl,
                                                (
                                                  refl,
                                                  (
                                                    refl,
                                                    (
                                                      refl,
                                                      (
                                                        refl,
                                                        (
                                                          refl,
                                                          (
                                                            refl,
                                                            (
                                                              refl,
                                                              (
                                                                refl,
                                                                (
                                                                  refl,
                                                                  (
                                                                    refl,
                                                                    (
                                                                      refl,
                                                                      (
                                                                        refl,
                                                                        (
                                                                          refl,
                                                                          (
                                                                            refl,
                                                                            (refl, (refl, tt)),
                                                                          ),
                                                                        ),
                                                                      ),
                                                                    ),
                                                                  ),
                                                                ),
                                                              ),
                                                            ),
                                                          ),
                                                        ),
                                                      ),
                                                    ),
                                                  ),
                                                ),
                                              ),
                                            ),
                                          ),
                                        ),
                                      ),
                                    ),
                                  ),
                                ),
                              ),
                            ),
                          ),
                        ),
                      ),
                    ),
                  ),
                ),
              ),
            ),
          ),
        ),
      ),
    ),
  ),
)

-- a procedure with a value and a parameter, and calls of it
abbrev calling : List Expression → (target : ℕ) → Bool
calling arguments target = well_formed (program (
    main (int_slot [] ∷ boolean_slot ∷ []) (Placed 0 (Call 1 arguments (Some (Local target))) ∷ [])
    ∷ record (main (boolean_slot ∷ []) (Placed 0 (ReturnWith (Some (int 1))) ∷ []))
    { parameters = 1; result = Some (record { base = Int; label = [] }) } ∷ []))

calls_fit : (calling (Logical true ∷ []) 0 ≡ true) × (calling (int 1 ∷ []) 0 ≡ false) × (calling (Logical true ∷ []) 1 ≡ false)
    × (calling [] 0 ≡ false) × (calling (Logical true ∷ Logical true ∷ []) 0 ≡ false)
calls_fit = (refl, refl, refl, refl, refl)

-- the numbers of loops count up in the order of the text
abbrev loops : List Statement → ℕ → Bool
loops statements count = well_formed (program (record (procedure [] statements) { loops = count } ∷ []))

loop_numbers : (loops (Placed 0 (While 0 (Logical true) (block (Placed 0 (While 1 (Logical true) Empty) ∷ []))) ∷ Placed 0 (While 2 (Logical true) Empty) ∷ []) 3 ≡ true)
    × (loops (Placed 0 (While 0 (Logical true) (block (Placed 0 (While 1 (Logical true) Empty) ∷ []))) ∷ Placed 0 (While 2 (Logical true) Empty) ∷ []) 2 ≡ false)
    × (loops (Placed 0 (While 1 (Logical true) (block (Placed 0 (While 0 (Logical true) Empty) ∷ []))) ∷ []) 2 ≡ false)
    × (loops (Placed 0 (While 0 (Logical true) Empty) ∷ Placed 0 (While 0 (Logical true) Empty) ∷ []) 2 ≡ false)
loop_numbers = (refl, refl, refl, refl)

-- sizes: an array has 1 to 65536 elements, and a frame 1048576 cells
abbrev sizes : List SlotEntry → Bool
sizes slots = fitting slots []

sizes_fit : (sizes (array_slot 1 [] ∷ array_slot 65536 [] ∷ []) ≡ true) × (sizes (array_slot 0 [] ∷ []) ≡ false)
    × (sizes (array_slot 65537 [] ∷ []) ≡ false)
    × (sizes (replicate 16 (array_slot 65536 [])) ≡ true) × (sizes (int_slot [] ∷ replicate 16 (array_slot 65536 [])) ≡ false)
sizes_fit = (refl, refl, refl, refl, refl)

-- a parameter is a scalar with a written label
abbrev parameter : SlotEntry → Bool
parameter slot = well_formed (program (main [] [] ∷ record (main (slot ∷ []) []) { parameters = 1 } ∷ []))

parameters_fit : (parameter (int_slot []) ≡ true) × (parameter unlabelled_slot ≡ false) × (parameter (array_slot 1 []) ≡ false)
parameters_fit = (refl, refl, refl)

-- labels name principals that are there, and a procedure names each exception once
abbrev throwing : ProcedureEntry → Bool
throwing entry = well_formed (program (entry ∷ []))

nobody : Label
nobody = record { owner = 3; readers = [] } ∷ []

labels_fit : (throwing (record (main [] []) { throws = thrown arith alice ++ thrown oops [] }) ≡ true)
    × (throwing (record (main [] []) { throws = thrown arith alice ++ thrown arith [] }) ≡ false)
    × (throwing (record (main [] []) { throws = thrown 4 [] }) ≡ false)
    × (throwing (record (main [] []) { throws = thrown oops nobody }) ≡ false)
    × (throwing (record (main [] []) { begin_label = nobody }) ≡ false)
    × (throwing (record (main [] []) { end_label = nobody }) ≡ false)
    × (fitting (int_slot nobody ∷ []) [] ≡ false)
    × (fitting (int_slot (record { owner = 0; readers = 3 ∷ [] } ∷ []) ∷ []) [] ≡ false)
unfolding nobody
labels_fit = (refl, refl, refl, refl, refl, refl, refl, refl)

-- `main` has no parameters and no value, and is there
main_is : (well_formed (program []) ≡ false) × (throwing (record (main (int_slot [] ∷ []) []) { parameters = 1 }) ≡ false)
    × (throwing (record (main [] (Placed 0 (ReturnWith (Some (int 1))) ∷ [])) { result = Some (record { base = Int; label = [] }) }) ≡ false)
main_is = (refl, refl, refl)

-- globals: the cells hold a value of the base type, those of an array 0 or `false`
abbrev holding : GlobalEntry → Bool
holding entry = well_formed (program_with (entry ∷ []) (main [] [] ∷ []))

abbrev global_number : GlobalEntry
global_number = record { name = []; base = Int; size = None; label = []; first = Number (pos 2) }

globals_fit : (holding global_number ≡ true) × (holding (record global_number { base = Boolean }) ≡ false)
    × (holding (record global_number { first = Truth true }) ≡ false)
    × (holding (record global_number { size = Some 3 }) ≡ false)
    × (holding (record global_number { size = Some 3; first = Number (pos 0) }) ≡ true)
    × (holding (record global_number { base = Boolean; size = Some 3; first = Truth false }) ≡ true)
    × (holding (record global_number { label = nobody }) ≡ false)
unfolding nobody
globals_fit = (refl, refl, refl, refl, refl, refl, refl)
