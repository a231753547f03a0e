-- Walks past procedures, one after the other.
use Rattle.std.proofs.Common.{◌≡◌, refl, sym, ap, ◌∙◌, subst, ℕ, zero, suc, ◌+◌, ◌<◌, ◌≤◌, List, [], ◌∷◌, ◌++◌, map, take, drop, length, get_or, replicate, flat_map, Bool, true, false, arith, append_assoc, append-nil, add-one}
use Rattle.std.specs.Prelude.{Contains, if◌then◌else◌, string_bytes, sum_by}
use Rattle.common.proofs.Elements.{none_in_nil}
use Rattle.std.proofs.lemmas.List.{get_or-map, length-map, length-replicate, length-take-le, map-append, take-map, take_all}
use Rattle.std.proofs.lemmas.List.Sums.{AllPass-from_list_all, sum_by-cons}
use Rattle.common.proofs.Cases.{map_next}
use Rattle.common.specs.declared.exceptions.TheConstants.{BUILT_IN}
use Rattle.common.specs.declared.limits.TheConstants.{MAX_TEXT}
use Rattle.labels.specs.Label.{Label}
use Rattle.lattices.specs.Constraints.{renamed}
use Rattle.resolved.specs.CoreOf.{program_of}
use Rattle.resolved.specs.Labelled.{Scope, here, label_of}
use Rattle.resolved.specs.Program.{ProcedureEntry, Program, ThrownEntry}
use Rattle.resolved.specs.ProgramOf.{procedure_entry, thrown_entry}
use Rattle.resolved.specs.Tree.{Block}
use Rattle.resolved.specs.TreeOf.{block_of}
use Rattle.resolved.specs.WellFormed.{block_fits, block_nodes, procedure_fits, procedure_nodes, throws_fit}
use Rattle.resolved.proofs.WellFormedParts.{procedure_parts, program_parts}
use Rattle.resolved.specs.declared.program.Core.{Core}
use Rattle.resolved.specs.declared.statement.Exit.{Exit}
use Rattle.resolved.specs.declared.statement.Statement as S
use Rattle.resolved.specs.declared.tables.Procedure.{Procedure}
use Rattle.resolved.specs.declared.tables.Thrown.{Thrown}
use Rattle.resolved.specs.declared.target.Target.TheVariants.{ToBegin, ToEnd}
use Rattle.path_map.specs.Exits.{exits_of, Exits}
use Rattle.path_map.specs.Paths.{block_paths, program_paths}
use Rattle.path_map.proofs.Procedures.{next-procedure}
use Rattle.gathering.specs.Names.{NamedAtom, NamedConstraint, Real, real_unknowns}
use Rattle.gathering.specs.Walk.{at_end, constraints_from, declares, exit_constraints, end_exit_unknowns, has_one_exit, inner_atom, inner_block, made_by_block, made_by_procedure, made_from, nowhere, procedure_constraints, program_constraints, rule_constraint, thrown_constraints, thrown_number, unknown_count}
use Rattle.gathering.proofs.Counted.{unknowns-counted}
use Rattle.solver.specs.declared.constraints.Atom.{Atom}
use Rattle.constraints.specs.Added.{AreAdded, IsPart, Stored}
use Rattle.constraints.specs.LeftSides.{scope_of}
use Rattle.constraints.specs.Procedures.{AreDeclaredExitUnknowns, HasPassedProcedure, StaysInPlace, IsOf, IsProcedureWalked, end_exit_unknowns_of, number_in}
use Rattle.path_map.specs.Walks.{AreThrownInside, exception_count}
use Rattle.constraints.specs.Ready.{IsBlockReady, IsProcedureReady, most_unknowns}
use Rattle.constraints.specs.ExitUnknowns.{AreLevelled, AreWithin, no_entry, exit_unknowns_of}
use Rattle.constraints.specs.Thinned.{AreNoted, Thinned, ThinnedWhole}
use Rattle.constraints.specs.Journals.{AreOrdered, AreUpTo, IsUpToDate, entry_from, moments_at, noted_all}
use Rattle.constraints.specs.declared.journal.Journal.{Journal}
use Rattle.constraints.specs.Walked.{HasPassed, IsBlockWalked}
use Rattle.constraints.specs.declared.progress.Progress.{Progress}
use Rattle.constraints.specs.declared.exit_unknowns.ExitUnknown.{ExitUnknown}
use Rattle.constraints.specs.declared.exit_unknowns.ExitUnknowns.{ExitUnknowns}
use Rattle.constraints.proofs.Added.{added-none, added-same, added-then}
use Rattle.constraints.proofs.Noted.{declared-ones, noted-journal, undeclared-stay}
use Rattle.constraints.proofs.Thinned.{thinned-exact, walks-exact, walks-noted, walks-same, walks-then, whole-same, whole-then}
use Rattle.constraints.proofs.Ready.{thrown-inside}
use Rattle.constraints.proofs.Small.{program-small}
use Rattle.constraints.proofs.Declared.{taken-within, exit_unknowns-at-end, thrown-numbers}

-- ---- a procedure
levelled : (n barrier : ℕ) (only : Bool) (thrown : List ExitUnknown) → AreWithin (suc barrier) thrown
    → AreLevelled (end_exit_unknowns_of n barrier (suc barrier) only) thrown
levelled n barrier true thrown within = record { barrier_is_within = omega arith; entries_are_within = within }
levelled n barrier false thrown within = record { barrier_is_within = omega arith; entries_are_within = within }

-- its exits
abbrev own_end_constraints : Scope → (n : ℕ) → (number : ℕ → ℕ) → List NamedConstraint
own_end_constraints scope n number =
    rule_constraint scope (here scope).at 13 (inner_atom n ∷ []) (ToEnd scope.number) ++ thrown_constraints scope number (here scope).throws

pub ends-none : (core : Core) (table : List Label) (f n : ℕ) (only : Bool) (constraints : List Stored)
    → only ≡ has_one_exit (scope_of core f) → only ≡ true → AreAdded core table (exit_constraints (scope_of core f) n) constraints constraints
ends-none core table f n only constraints is one =
    let scope : Scope = scope_of core f in
    added-same core table (exit_constraints scope n) [] constraints constraints
    (ap (λ b. if b then [] else own_end_constraints scope n (λ x. thrown_number (here scope).throws (suc n) x)) (sym is ∙ one))
    (added-none core table constraints)

pub ends-added : (core : Core) (table : List Label) (f n level : ℕ) (only : Bool) (procedure : Procedure) (throws : List Thrown) (had taken given : List ExitUnknown) (old middle new : List Stored)
    → IsOf core f procedure → only ≡ has_one_exit (scope_of core f) → only ≡ false
    → AreDeclaredExitUnknowns (here (scope_of core f)).throws (suc n) level had taken → throws ≡ procedure.throws.items → given ≡ taken
    → AreAdded core table (rule_constraint (scope_of core f) procedure.at 13 (inner_atom n ∷ []) (ToEnd f)) old middle
    → (procedure.at ≡ (here (scope_of core f)).at → AreAdded core table (thrown_constraints (scope_of core f) (number_in given) (map (thrown_entry core.labels) throws)) middle new)
    → AreAdded core table (exit_constraints (scope_of core f) n) old new
ends-added core table f n level only procedure throws had taken given old middle new is one several are throws_are given_are first second =
    let scope : Scope = scope_of core f in
    let declared : List ThrownEntry = (here scope).throws in
    let number : ℕ → ℕ = λ x. thrown_number declared (suc n) x in
    let at_is : procedure.at ≡ (here scope).at = ap (λ (p : ProcedureEntry). p.at) (sym is) in
    let end : ℕ → List NamedConstraint = λ at. rule_constraint scope at 13 (inner_atom n ∷ []) (ToEnd f) in
    let declared_is : map (thrown_entry core.labels) throws ≡ declared = ap (map (thrown_entry core.labels)) throws_are ∙ ap (λ (p : ProcedureEntry). p.throws) (sym is) in
    added-same core table (exit_constraints scope n) (end procedure.at ++ thrown_constraints scope (number_in given) (map (thrown_entry core.labels) throws)) old new
    (ap (λ b. if b then [] else own_end_constraints scope n number) (sym one ∙ several)
    ∙ (ap (λ cs. end (here scope).at ++ cs) (sym (thrown-numbers scope declared (suc n) level had taken are))
    ∙ (ap (λ thrown. end (here scope).at ++ thrown_constraints scope (number_in thrown) declared) (sym given_are)
    ∙ (ap (λ list. end (here scope).at ++ thrown_constraints scope (number_in given) list) (sym declared_is)
    ∙ ap (λ at. end at ++ thrown_constraints scope (number_in given) (map (thrown_entry core.labels) throws)) (sym at_is)))))
    (added-then core table (end procedure.at) (thrown_constraints scope (number_in given) (map (thrown_entry core.labels) throws)) old middle new first (second at_is))

pub procedure-passed : (core : Core) (table : List Label) (entries : List Exits) (f barrier level start count : ℕ) (procedure : Procedure) (throws noted : List Thrown) (noting : List ExitUnknown) (block : List S.Statement) (pc : Atom) (exit_unknowns : ExitUnknowns) (only : Bool) (left : List Exits) (old middle walked new : Progress)
    → IsOf core f procedure
    → drop old.index entries ≡ map exits_of (block_paths (program_of core) (here (scope_of core f)).body) ++ left
    → AreWithin barrier old.thrown.items
    → level ≡ barrier + 1 → start ≡ old.number + 1 → count ≡ length procedure.throws.items
    → throws ≡ procedure.throws.items → block ≡ procedure.body.items
    → only ≡ has_one_exit (scope_of core f)
    → exit_unknowns ≡ end_exit_unknowns_of old.number barrier level only
    → IsPart core table (renamed Real (label_of (program_of core) (ToBegin f))) pc
    → middle.index ≡ old.index → middle.number ≡ start + count → middle.constraints.items ≡ old.constraints.items
    → middle.journal.calls ≡ old.journal.calls
    → ((x : ℕ) → moments_at middle.journal.moments.items x ≡ noted_all (length old.journal.moments.items) (length old.journal.calls.items) noting
    (map (λ (declared : Thrown). declared.exception) noted) x (moments_at old.journal.moments.items x))
    → length middle.journal.moments.items ≡ length old.journal.moments.items → noting ≡ middle.thrown.items → noted ≡ throws
    → length middle.thrown.items ≡ length old.thrown.items
    → ((b : ℕ) → b < level → AreWithin b old.thrown.items → AreDeclaredExitUnknowns (map (thrown_entry core.labels) throws) start level old.thrown.items middle.thrown.items)
    → IsBlockWalked core table entries f pc exit_unknowns (block_of block) middle walked
    → StaysInPlace walked new
    → ((l : ℕ) (had : List ExitUnknown) → IsOf core f procedure → only ≡ has_one_exit (scope_of core f)
    → AreDeclaredExitUnknowns (here (scope_of core f)).throws (suc old.number) l had walked.thrown.items
    → AreAdded core table (exit_constraints (scope_of core f) old.number) walked.constraints.items new.constraints.items)
    → HasPassedProcedure core table entries f (suc barrier) left old new
procedure-passed core table entries f barrier level start count procedure throws noted noting block pc exit_unknowns only left old middle walked new is goes within level_is start_is count_is throws_are block_is one exit_unknowns_are stands index_is number_is constraints_are calls moments counted_is noting_is noted_is wide takes walks kept ended =
    let program : Program = program_of core in
    let scope : Scope = scope_of core f in
    let declared : List ThrownEntry = (here scope).throws in
    let n : ℕ = old.number in
    let begin : NamedAtom = renamed Real (label_of program (ToBegin f)) in
    let body : Block = block_of block in
    let body_is : body ≡ (here scope).body = ap block_of block_is ∙ ap (λ (p : ProcedureEntry). p.body) (sym is) in
    let declared_is : map (thrown_entry core.labels) throws ≡ declared = ap (map (thrown_entry core.labels)) throws_are ∙ ap (λ (p : ProcedureEntry). p.throws) (sym is) in
    let start_suc : start ≡ suc n = omega (arith, start_is) in
    let level_suc : level ≡ suc barrier = omega (arith, level_is) in
    let below : barrier < level = omega (arith, level_is) in
    let below_suc : barrier < suc barrier = omega arith in
    let upto : barrier ≤ suc barrier = omega arith in
    let taken : AreDeclaredExitUnknowns declared (suc n) (suc barrier) old.thrown.items middle.thrown.items =
    subst (λ list. AreDeclaredExitUnknowns list (suc n) (suc barrier) old.thrown.items middle.thrown.items) declared_is
    (subst (λ k. AreDeclaredExitUnknowns (map (thrown_entry core.labels) throws) k (suc barrier) old.thrown.items middle.thrown.items) start_suc
    (subst (λ l. AreDeclaredExitUnknowns (map (thrown_entry core.labels) throws) start l old.thrown.items middle.thrown.items) level_suc (takes barrier below within))) in
    let inside : AreWithin (suc barrier) middle.thrown.items = taken-within declared (suc n) barrier (suc barrier) old.thrown.items middle.thrown.items upto within taken in
    let exit_unknowns_suc : exit_unknowns ≡ end_exit_unknowns_of n barrier (suc barrier) only = exit_unknowns_are ∙ ap (λ l. end_exit_unknowns_of n barrier l only) level_suc in
    let passed : HasPassed core table entries pc (λ named. inner_block scope named (exit_unknowns_of exit_unknowns middle.thrown.items) middle.number body) (made_by_block body) left middle walked =
    walks left (ap (λ k. drop k entries) index_is ∙ (goes ∙ ap (λ b. map exits_of (block_paths program b) ++ left) (sym body_is)))
    (subst (λ t. AreLevelled t middle.thrown.items) (sym exit_unknowns_suc) (levelled n barrier only middle.thrown.items inside)) in
    let same : exit_unknowns_of exit_unknowns middle.thrown.items ≡ end_exit_unknowns scope n =
    ap (λ t. exit_unknowns_of t middle.thrown.items) exit_unknowns_suc
    ∙ (exit_unknowns-at-end declared n barrier (suc barrier) only old.thrown.items middle.thrown.items below_suc within inside taken
    ∙ ap (λ b. if b then nowhere else at_end n declared) one) in
    let counted : count ≡ length declared = count_is ∙ (sym (length-map procedure.throws.items (thrown_entry core.labels)) ∙ ap (λ (p : ProcedureEntry). length p.throws) (sym is)) in
    let number_suc : middle.number ≡ suc n + length declared = omega (arith, number_is, start_is, counted) in
    let inside_it : List NamedConstraint = inner_block scope begin (end_exit_unknowns scope n) (suc n + length declared) (here scope).body in
    let first : Thinned core table inside_it middle walked =
    walks-same core table inside_it (inner_block scope begin (exit_unknowns_of exit_unknowns middle.thrown.items) middle.number body) middle walked
    (ap (λ t. inner_block scope begin t (suc n + length declared) (here scope).body) (sym same)
    ∙ (ap (λ k. inner_block scope begin (exit_unknowns_of exit_unknowns middle.thrown.items) k (here scope).body) (sym number_suc)
    ∙ ap (inner_block scope begin (exit_unknowns_of exit_unknowns middle.thrown.items) middle.number) (sym body_is)))
    (passed.added begin stands) in
    let taking : IsUpToDate old.journal old.thrown.items → AreNoted old.journal middle.journal middle.thrown.items =
    noted-journal old.journal middle.journal old.thrown.items middle.thrown.items (map (λ (d : Thrown). d.exception) noted) calls
    (λ x. moments x ∙ ap (λ es. noted_all (length old.journal.moments.items) (length old.journal.calls.items) es (map (λ (d : Thrown). d.exception) noted) x (moments_at old.journal.moments.items x)) noting_is)
    counted_is wide
    (λ x none.
    let undeclared : declares declared x ≡ false = ap (λ list. declares list x) (sym (ap (map (thrown_entry core.labels)) noted_is ∙ declared_is)) ∙ (sym (declared-ones core.labels noted x) ∙ none) in
    taken x ∙ undeclared-stay declared (suc n) (suc barrier) x (get_or old.thrown.items x no_entry) undeclared) in
    let made : made_by_block body ≡ made_by_block (here scope).body = ap made_by_block body_is in
    let walked_number : walked.number ≡ middle.number + made_by_block body = passed.number_is in
    let kept_number : new.number ≡ walked.number = kept.number_is in
    let taken_is : new.thrown.items ≡ middle.thrown.items = kept.thrown_is ∙ passed.thrown_is in
    let own : made_by_procedure scope ≡ suc (length declared + made_by_block (here scope).body) = refl in
    record {
      added = walks-then core table inside_it (exit_constraints scope n) old walked new
          (walks-then core table [] inside_it old middle walked (walks-noted core table old middle constraints_are taking) first)
          (walks-exact core table (exit_constraints scope n) walked new
          (ended (suc barrier) old.thrown.items is one (subst (AreDeclaredExitUnknowns declared (suc n) (suc barrier) old.thrown.items) (sym passed.thrown_is) taken))
          kept.journal_is kept.thrown_is);
      entries_left = ap (λ k. drop k entries) kept.index_is ∙ passed.entries_left;
      number_is = omega (arith, number_suc, made, walked_number, kept_number, own);
      within = subst (AreWithin (suc barrier)) (sym taken_is) inside;
      wide = ap length taken_is ∙ wide;
    }

-- what the walk past its body asks for, where its declared exceptions were taken
pub body-ready : (core : Core) (entries : List Exits) (f barrier level start : ℕ) (procedure : Procedure) (throws : List Thrown) (block : List S.Statement) (exit_unknowns : ExitUnknowns) (only : Bool) (old middle : Progress)
    → IsProcedureReady core entries f barrier procedure old
    → level ≡ barrier + 1 → throws ≡ procedure.throws.items → block ≡ procedure.body.items
    → exit_unknowns ≡ end_exit_unknowns_of old.number barrier level only
    → middle.index ≡ old.index → middle.number ≡ (old.number + 1) + length procedure.throws.items → length middle.thrown.items ≡ length old.thrown.items
    → ((b : ℕ) → b < level → AreWithin b old.thrown.items → AreDeclaredExitUnknowns (map (thrown_entry core.labels) throws) start level old.thrown.items middle.thrown.items)
    → IsBlockReady core entries f exit_unknowns (block_of block) middle
body-ready core entries f barrier level start procedure throws block exit_unknowns only old middle ready level_is throws_are block_is exit_unknowns_are index_is number_is wide takes =
    let program : Program = program_of core in
    let entry : ProcedureEntry = here (scope_of core f) in
    let body_is : block_of block ≡ entry.body = ap block_of block_is ∙ ap (λ (p : ProcedureEntry). p.body) (sym ready.is) in
    let level_suc : level ≡ suc barrier = omega (arith, level_is) in
    let below : barrier < level = omega (arith, level_is) in
    let upto : barrier ≤ level = omega (arith, level_is) in
    let inside : AreWithin level middle.thrown.items =
    taken-within (map (thrown_entry core.labels) throws) start barrier level old.thrown.items middle.thrown.items upto ready.within (takes barrier below ready.within) in
    let inside_suc : AreWithin (suc barrier) middle.thrown.items = subst (λ l. AreWithin l middle.thrown.items) level_suc inside in
    let exit_unknowns_suc : exit_unknowns ≡ end_exit_unknowns_of old.number barrier (suc barrier) only = exit_unknowns_are ∙ ap (λ l. end_exit_unknowns_of old.number barrier l only) level_suc in
    record {
      left = ready.left;
      goes_on = ap (λ k. drop k entries) index_is ∙ (ready.goes_on ∙ ap (λ b. map exits_of (block_paths program b) ++ ready.left) (sym body_is));
      levelled = subst (λ t. AreLevelled t middle.thrown.items) (sym exit_unknowns_suc) (levelled old.number barrier only middle.thrown.items inside_suc);
      wide = omega (arith, wide, ready.wide);
      fitting = subst (λ b. block_fits program entry b ≡ true) (sym body_is) (procedure_parts program entry ready.fitting).body_fits;
      room =
          let made : made_by_block (block_of block) ≡ made_by_block entry.body = ap made_by_block body_is in
          let count : length entry.throws ≡ length procedure.throws.items =
          ap (λ (p : ProcedureEntry). length p.throws) ready.is ∙ length-map procedure.throws.items (thrown_entry core.labels) in
          let own : made_by_procedure (scope_of core f) ≡ suc (length entry.throws + made_by_block entry.body) = refl in
          omega (arith, ready.room, made, count, own, number_is);
      deep =
          let level_at : exit_unknowns.level ≡ suc barrier = ap (λ (t : ExitUnknowns). t.level) exit_unknowns_suc ∙ end-level old.number barrier only in
          omega (arith, ready.deep, level_at, number_is);
    }
  where
    end-level : (n b : ℕ) (only : Bool) → (end_exit_unknowns_of n b (suc b) only).level ≡ suc b
    end-level n b true = refl
    end-level n b false = refl

-- there are numbers for its end and its exceptions, and a level
pub procedure-room : (core : Core) (entries : List Exits) (f barrier : ℕ) (procedure : Procedure) (now : Progress)
    → IsProcedureReady core entries f barrier procedure now
    → (barrier + 1 ≤ most_unknowns) × ((now.number + 1) + length procedure.throws.items ≤ most_unknowns)
procedure-room core entries f barrier procedure now ready =
    let entry : ProcedureEntry = here (scope_of core f) in
    let count : length entry.throws ≡ length procedure.throws.items =
    ap (λ (p : ProcedureEntry). length p.throws) ready.is ∙ length-map procedure.throws.items (thrown_entry core.labels) in
    let own : made_by_procedure (scope_of core f) ≡ suc (length entry.throws + made_by_block entry.body) = refl in
    (omega (arith, ready.room, ready.deep, own), omega (arith, ready.room, count, own))

-- its declared exceptions have entries
pub throws-inside : (core : Core) (entries : List Exits) (f barrier : ℕ) (procedure : Procedure) (throws : List Thrown) (now : Progress)
    → IsProcedureReady core entries f barrier procedure now → throws ≡ procedure.throws.items → AreThrownInside (length now.thrown.items) throws
throws-inside core entries f barrier procedure throws now ready throws_are =
    let program : Program = program_of core in
    let entry : ProcedureEntry = here (scope_of core f) in
    let same : entry.throws ≡ map (thrown_entry core.labels) throws = ap (λ (p : ProcedureEntry). p.throws) ready.is ∙ ap (map (thrown_entry core.labels)) (sym throws_are) in
    thrown-inside program (length now.thrown.items) ready.wide core.labels throws
    (subst (λ list. throws_fit program list ≡ true) same (procedure_parts program entry ready.fitting).throws_are)

-- ---- procedures
from-append : (program : Program) (f n : ℕ) (xs : List ProcedureEntry) (x : ProcedureEntry)
    → constraints_from program f n (xs ++ x ∷ [])
    ≡ constraints_from program f n xs ++ procedure_constraints (record { program = program; number = f + length xs }) (n + made_from program f xs)
from-append program f n [] x =
    let first : f ≡ f + 0 = omega arith in
    let second : n ≡ n + 0 = omega arith in
    append-nil (procedure_constraints (record { program = program; number = f }) n)
    ∙ (ap (λ g. procedure_constraints (record { program = program; number = g }) n) first
    ∙ ap (procedure_constraints (record { program = program; number = f + 0 })) second)
from-append program f n (y ∷ xs) x =
    let scope : Scope = record { program = program; number = f } in
    let m : ℕ = made_by_procedure scope in
    let first : suc f + length xs ≡ f + suc (length xs) = omega arith in
    let second : (n + m) + made_from program (suc f) xs ≡ n + (m + made_from program (suc f) xs) = omega arith in
    ap (λ cs. procedure_constraints scope n ++ cs)
    (from-append program (suc f) (n + m) xs x
    ∙ (ap (λ g. constraints_from program (suc f) (n + m) xs ++ procedure_constraints (record { program = program; number = g }) ((n + m) + made_from program (suc f) xs)) first
    ∙ ap (λ k. constraints_from program (suc f) (n + m) xs ++ procedure_constraints (record { program = program; number = f + suc (length xs) }) k) second))
    ∙ sym (append_assoc (procedure_constraints scope n) (constraints_from program (suc f) (n + m) xs)
    (procedure_constraints (record { program = program; number = f + suc (length xs) }) (n + (m + made_from program (suc f) xs))))

made-append : (program : Program) (f : ℕ) (xs : List ProcedureEntry) (x : ProcedureEntry)
    → made_from program f (xs ++ x ∷ []) ≡ made_from program f xs + made_by_procedure (record { program = program; number = f + length xs })
made-append program f [] x =
    let first : f ≡ f + 0 = omega arith in
    let m : ℕ = made_by_procedure (record { program = program; number = f }) in
    let sum : m + 0 ≡ 0 + m = omega arith in
    sum ∙ ap (λ g. 0 + made_by_procedure (record { program = program; number = g })) first
made-append program f (y ∷ xs) x =
    let m : ℕ = made_by_procedure (record { program = program; number = f }) in
    let first : suc f + length xs ≡ f + suc (length xs) = omega arith in
    let rest : ℕ = made_from program (suc f) xs in
    let last : ℕ = made_by_procedure (record { program = program; number = f + suc (length xs) }) in
    let sum : m + (rest + last) ≡ (m + rest) + last = omega arith in
    ap (λ k. m + k) (made-append program (suc f) xs x ∙ ap (λ g. rest + made_by_procedure (record { program = program; number = g })) first) ∙ sum

-- the paths of procedures
abbrev pub paths_of : Program → List ProcedureEntry → List (List Exit)
paths_of program procedures = flat_map (λ (procedure : ProcedureEntry). block_paths program procedure.body) procedures

-- a program is small, so that its procedures and exceptions have numbers
few-procedures : (procedures : List ProcedureEntry) → length procedures ≤ sum_by procedure_nodes procedures
few-procedures [] = omega arith
few-procedures (procedure ∷ rest) =
    let own : procedure_nodes procedure ≡ 1 + length procedure.slots + length procedure.throws + block_nodes procedure.body = refl in
    omega (arith, few-procedures rest, sum_by-cons procedure_nodes procedure rest, own)

pub procedures-numbered : (core : Core) → length core.procedures.items ≤ MAX_TEXT
procedures-numbered core =
    omega (arith, program-small core, few-procedures (program_of core).procedures, length-map core.procedures.items (procedure_entry core.labels))

pub exceptions-numbered : (core : Core) → length core.exceptions.items ≤ MAX_TEXT
exceptions-numbered core = omega (arith, program-small core, length-map core.exceptions.items string_bytes)

-- the first procedures were walked past
pub record ArePassed (core : Core) (table : List Label) (entries : List Exits) (i : ℕ) (progress : Progress) : Type 0 where
  pub added : ThinnedWhole core table (constraints_from (program_of core) 0 (real_unknowns (program_of core)) (map (procedure_entry core.labels) (take i core.procedures.items))) progress
  pub entries_left : drop progress.index entries ≡ map exits_of (paths_of (program_of core) (map (procedure_entry core.labels) (drop i core.procedures.items)))
  pub number_is : progress.number ≡ real_unknowns (program_of core) + made_from (program_of core) 0 (map (procedure_entry core.labels) (take i core.procedures.items))
  pub low : i ≤ progress.number
  pub within : AreWithin i progress.thrown.items
  pub wide : exception_count core ≤ length progress.thrown.items

-- no procedure yet, and all of them
replicate-read : (n x : ℕ) → get_or (replicate n no_entry) x no_entry ≡ no_entry
replicate-read zero x = refl
replicate-read (suc n) zero = refl
replicate-read (suc n) (suc x) = replicate-read n x

-- the next call of a walk before which nothing was noted
none-noted : (journal : Journal) (thrown : List ExitUnknown) (n : ℕ)
    → journal.calls.items ≡ [] → ((x : ℕ) → moments_at journal.moments.items x ≡ []) → length journal.moments.items ≡ n → thrown ≡ replicate n no_entry
    → IsUpToDate journal thrown
none-noted journal thrown n calls moments rows thrown_are = record {
  now = λ x. ap (λ ms. entry_from ms (length journal.calls.items) no_entry) (moments x) ∙ sym (ap (λ list. get_or list x no_entry) thrown_are ∙ replicate-read n x);
  past = λ called h. absurd (none_in_nil called (subst (λ list. Contains list called) calls h));
  upto = λ x. subst (AreUpTo (length journal.calls.items)) (sym (moments x)) (λ m h. absurd (none_in_nil m h));
  ordered = λ x. subst AreOrdered (sym (moments x)) tt;
  wide = rows ∙ sym (ap length thrown_are ∙ length-replicate n no_entry);
}

pub passed-none : (core : Core) (table : List Label) (entries : List Exits) (n : ℕ) (progress : Progress)
    → entries ≡ map exits_of (program_paths (program_of core)) → progress.index ≡ 0 → progress.number ≡ real_unknowns (program_of core) → progress.constraints.items ≡ []
    → progress.thrown.items ≡ replicate n no_entry → n ≡ length core.exceptions.items + BUILT_IN
    → progress.journal.calls.items ≡ [] → ((x : ℕ) → moments_at progress.journal.moments.items x ≡ []) → length progress.journal.moments.items ≡ n
    → ArePassed core table entries 0 progress
passed-none core table entries n progress mapped index number constraints thrown count calls moments rows = record {
  added = record {
    start = progress.journal;
    no_calls = calls;
    now = thinned-exact core table [] [] progress.constraints.items progress.journal progress.journal progress.thrown.items progress.thrown.items
        (subst (AreAdded core table [] []) (sym constraints) (added-none core table [])) refl refl
        (none-noted progress.journal progress.thrown.items n calls moments rows thrown);
  };
  entries_left = ap (λ k. drop k entries) index ∙ mapped;
  number_is = omega (arith, number);
  low = omega arith;
  within = λ x. subst (λ (e : ExitUnknown). e.level ≤ 0) (sym (ap (λ list. get_or list x no_entry) thrown ∙ replicate-read n x)) (omega arith);
  wide =
      let width : length progress.thrown.items ≡ n = ap length thrown ∙ length-replicate n no_entry in
      omega (arith, width, count, length-map core.exceptions.items string_bytes);
}

pub passed-added : (core : Core) (table : List Label) (entries : List Exits) (i : ℕ) (progress : Progress) → length core.procedures.items ≤ i
    → ArePassed core table entries i progress → ThinnedWhole core table (program_constraints (program_of core)) progress
passed-added core table entries i progress all passed =
    subst (λ list. ThinnedWhole core table (constraints_from (program_of core) 0 (real_unknowns (program_of core)) (map (procedure_entry core.labels) list)) progress)
    (take_all i core.procedures.items all) passed.added

pub passed-number : (core : Core) (table : List Label) (entries : List Exits) (i : ℕ) (progress : Progress) → length core.procedures.items ≤ i
    → ArePassed core table entries i progress → progress.number ≡ unknown_count (program_of core)
passed-number core table entries i progress all passed =
    passed.number_is ∙ ap (λ list. real_unknowns (program_of core) + made_from (program_of core) 0 (map (procedure_entry core.labels) list)) (take_all i core.procedures.items all)

-- the path map goes on with the paths of the next procedure
next-goes : (core : Core) (entries : List Exits) (i : ℕ) (procedure : Procedure) (index : ℕ)
    → i < length core.procedures.items → procedure ≡ get_or core.procedures.items i procedure
    → drop index entries ≡ map exits_of (paths_of (program_of core) (map (procedure_entry core.labels) (drop i core.procedures.items)))
    → drop index entries ≡ map exits_of (block_paths (program_of core) (here (scope_of core i)).body)
    ++ map exits_of (paths_of (program_of core) (map (procedure_entry core.labels) (drop (i + 1) core.procedures.items)))
next-goes core entries i procedure index inside is entries_left =
    let program : Program = program_of core in
    let procedures : List Procedure = core.procedures.items in
    let after : List ProcedureEntry = map (procedure_entry core.labels) (drop (i + 1) procedures) in
    let own : here (scope_of core i) ≡ procedure_entry core.labels procedure = get_or-map (procedure_entry core.labels) procedures i procedure _ inside ∙ ap (procedure_entry core.labels) (sym is) in
    entries_left
    ∙ (ap (λ ps. map exits_of (paths_of program ps)) (next-procedure (procedure_entry core.labels) procedures i procedure inside is)
    ∙ (map-append exits_of (block_paths program (procedure_entry core.labels procedure).body) (paths_of program after)
    ∙ ap (λ (p : ProcedureEntry). map exits_of (block_paths program p.body) ++ map exits_of (paths_of program after)) (sym own)))

pub passed-next : (core : Core) (table : List Label) (entries : List Exits) (i : ℕ) (procedure : Procedure) (old new : Progress)
    → i < length core.procedures.items → procedure ≡ get_or core.procedures.items i procedure
    → (IsOf core i procedure → IsProcedureWalked core table entries i i old new)
    → ArePassed core table entries i old → ArePassed core table entries (i + 1) new
passed-next core table entries i procedure old new inside is walks had =
    let program : Program = program_of core in
    let scope : Scope = scope_of core i in
    let procedures : List Procedure = core.procedures.items in
    let before : List ProcedureEntry = map (procedure_entry core.labels) (take i procedures) in
    let after : List ProcedureEntry = map (procedure_entry core.labels) (drop (i + 1) procedures) in
    let within : i ≤ length procedures = omega (arith, inside) in
    let count : length before ≡ i = length-map (take i procedures) (procedure_entry core.labels) ∙ length-take-le i procedures within in
    let count' : 0 + length before ≡ i = omega (arith, count) in
    let own : here scope ≡ procedure_entry core.labels procedure = get_or-map (procedure_entry core.labels) procedures i procedure _ inside ∙ ap (procedure_entry core.labels) (sym is) in
    let left : List Exits = map exits_of (paths_of program after) in
    let goes : drop old.index entries ≡ map exits_of (block_paths program (here scope).body) ++ left =
    next-goes core entries i procedure old.index inside is had.entries_left in
    let passed = walks own left goes had.within in
    let next : map (procedure_entry core.labels) (take (i + 1) procedures) ≡ before ++ procedure_entry core.labels procedure ∷ [] = map_next (procedure_entry core.labels) procedures i procedure inside is in
    let made : made_from program 0 (map (procedure_entry core.labels) (take (i + 1) procedures)) ≡ made_from program 0 before + made_by_procedure scope =
    ap (made_from program 0) next ∙ (made-append program 0 before (procedure_entry core.labels procedure) ∙ ap (λ g. made_from program 0 before + made_by_procedure (record { program = program; number = g })) count') in
    let real : ℕ = real_unknowns program in
    let old_number : old.number ≡ real + made_from program 0 before = had.number_is in
    let new_number : new.number ≡ old.number + made_by_procedure scope = passed.number_is in
    let start : real + made_from program 0 before ≡ old.number = omega (arith, old_number) in
    record {
      added = whole-same core table (constraints_from program 0 real (map (procedure_entry core.labels) (take (i + 1) procedures)))
          (constraints_from program 0 real before ++ procedure_constraints scope old.number) new
          (ap (constraints_from program 0 real) next
          ∙ (from-append program 0 real before (procedure_entry core.labels procedure)
          ∙ (ap (λ g. constraints_from program 0 real before ++ procedure_constraints (record { program = program; number = g }) (real + made_from program 0 before)) count'
          ∙ ap (λ k. constraints_from program 0 real before ++ procedure_constraints scope k) start)))
          (whole-then core table (constraints_from program 0 real before) (procedure_constraints scope old.number) old new had.added passed.added);
      entries_left = passed.entries_left;
      number_is = omega (arith, made, old_number, new_number);
      low = (let own : made_by_procedure scope ≡ suc (length (here scope).throws + made_by_block (here scope).body) = refl in omega (arith, had.low, new_number, own));
      within = subst (λ level. AreWithin level new.thrown.items) (sym (add-one i)) passed.within;
      wide = omega (arith, passed.wide, had.wide);
    }

-- the first procedures make no more than all
made-within : (program : Program) (f n : ℕ) (ps : List ProcedureEntry) → made_from program f (take n ps) ≤ made_from program f ps
made-within program f zero [] = omega arith
made-within program f zero (p ∷ ps) = omega arith
made-within program f (suc n) [] = omega arith
made-within program f (suc n) (p ∷ ps) = omega (arith, made-within program (suc f) n ps)

-- what the walk past the next procedure asks for
pub next-ready : (core : Core) (table : List Label) (entries : List Exits) (i : ℕ) (procedure : Procedure) (now : Progress)
    → i < length core.procedures.items → procedure ≡ get_or core.procedures.items i procedure
    → ArePassed core table entries i now → IsProcedureReady core entries i i procedure now
next-ready core table entries i procedure now inside is had =
    let program : Program = program_of core in
    let procedures : List Procedure = core.procedures.items in
    let after : List ProcedureEntry = map (procedure_entry core.labels) (drop (i + 1) procedures) in
    let own : here (scope_of core i) ≡ procedure_entry core.labels procedure = get_or-map (procedure_entry core.labels) procedures i procedure _ inside ∙ ap (procedure_entry core.labels) (sym is) in
    let entries_of : List ProcedureEntry = map (procedure_entry core.labels) procedures in
    let same : get_or entries_of i (procedure_entry core.labels procedure) ≡ here (scope_of core i) =
    get_or-map (procedure_entry core.labels) procedures i procedure (procedure_entry core.labels procedure) inside ∙ ap (procedure_entry core.labels) (sym is) ∙ sym own in
    record {
      left = map exits_of (paths_of program after);
      goes_on = next-goes core entries i procedure now.index inside is had.entries_left;
      within = had.within;
      wide = had.wide;
      is = own;
      fitting = subst (λ entry. procedure_fits program entry ≡ true) same
          (AllPass-from_list_all (procedure_fits program) entries_of (program_parts program core.well_formed).procedures_fit i (procedure_entry core.labels procedure)
          (omega (arith, length-map procedures (procedure_entry core.labels), inside)));
      room =
          let before : List ProcedureEntry = map (procedure_entry core.labels) (take i procedures) in
          let within : i ≤ length procedures = omega (arith, inside) in
          let count : 0 + length before ≡ i = omega (arith, length-map (take i procedures) (procedure_entry core.labels), length-take-le i procedures within) in
          let next : map (procedure_entry core.labels) (take (i + 1) procedures) ≡ before ++ procedure_entry core.labels procedure ∷ [] = map_next (procedure_entry core.labels) procedures i procedure inside is in
          let made : made_from program 0 (map (procedure_entry core.labels) (take (i + 1) procedures)) ≡ made_from program 0 before + made_by_procedure (scope_of core i) =
          ap (made_from program 0) next ∙ (made-append program 0 before (procedure_entry core.labels procedure) ∙ ap (λ g. made_from program 0 before + made_by_procedure (record { program = program; number = g })) count) in
          let upto : made_from program 0 (map (procedure_entry core.labels) (take (i + 1) procedures)) ≤ made_from program 0 program.procedures =
          subst (λ list. made_from program 0 list ≤ made_from program 0 program.procedures) (take-map (procedure_entry core.labels) (i + 1) procedures)
          (made-within program 0 (i + 1) program.procedures) in
          omega (arith, had.number_is, made, upto, unknowns-counted program core.well_formed, program-small core);
      deep = had.low;
    }
