-- Ways out of statements: which are the same, those of exceptions, and that a test of an exit holds where there is no fault.
use Rattle.std.proofs.Common.{◌≡◌, ℕ, Bool, true, false, not, ◌&&◌, List, [], ◌∷◌, ◌++◌, filter, refl, sym, ap, ◌∙◌, append_assoc, append-nil, ⊎_elim, eq-eqb, eqb-true}
use Rattle.std.specs.List.{list_all}
use Rattle.std.proofs.lemmas.Bool.{and_parts, or_cases, or_left}
use Rattle.std.proofs.lemmas.List.Folds.{list_any-append}
use Rattle.std.proofs.lemmas.Map.Views.{any-filter_same}
use Rattle.resolved.specs.declared.statement.Exit.{Exit}
use Rattle.resolved.specs.declared.statement.Exit.TheVariants.{Normal, Return, Break, Continue, Throw}
use Rattle.resolved.specs.ExitFaults.{block_faults, handlers_faults}
use Rattle.resolved.specs.FaultParts.{place_of, may_stand, inner_faults}
use Rattle.resolved.specs.Tree.{Statement, Placed, Assign, Clear, Store, Receive, Send, Call, If, While, Leave, ReturnWith, Try, Nested, Block}
use Rattle.resolved.specs.Tree as tree
use Rattle.resolved.specs.Program.{Program, ThrownEntry}
use Rattle.common.specs.declared.refusal.RefusalAt.{RefusalAt}
use Rattle.resolved.specs.declared.fault.ExitRefusalKind.TheVariants as kind
use Rattle.resolved.specs.declared.fault.ExitRefusalKind.{ExitRefusalKind}
use Rattle.resolved.specs.Labelled.{thrown_label}
use Rattle.std.specs.Prelude.{if◌then◌else◌, ◌==◌}
use Rattle.resolved.specs.Exits.{has_exit, same_exit, then_exits, thrown_exits, statement_exits, block_exits, fault_unless}

-- exits that the test takes for the same are the same
pub same-exit : (a b : Exit) → same_exit a b ≡ true → a ≡ b
same-exit Normal Normal e = refl
same-exit Return Return e = refl
same-exit Break Break e = refl
same-exit Continue Continue e = refl
same-exit (Throw a) (Throw b) e = ap (λ x. Throw x) (eqb-true a b e)
same-exit a b e = absurd (let no : false ≡ true = e in cc)

pub same_exit-itself : (a : Exit) → same_exit a a ≡ true
same_exit-itself Normal = refl
same_exit-itself Return = refl
same_exit-itself Break = refl
same_exit-itself Continue = refl
same_exit-itself (Throw a) = eq-eqb a a refl

-- an exception is no other exit
pub thrown-normal : (xs : List ℕ) → has_exit (thrown_exits xs) Normal ≡ false
thrown-normal [] = refl
thrown-normal (x ∷ xs) = thrown-normal xs

pub thrown-break : (xs : List ℕ) → has_exit (thrown_exits xs) Break ≡ false
thrown-break [] = refl
thrown-break (x ∷ xs) = thrown-break xs

pub thrown-continue : (xs : List ℕ) → has_exit (thrown_exits xs) Continue ≡ false
thrown-continue [] = refl
thrown-continue (x ∷ xs) = thrown-continue xs

pub thrown-append : (xs ys : List ℕ) → thrown_exits (xs ++ ys) ≡ thrown_exits xs ++ thrown_exits ys
thrown-append [] ys = refl
thrown-append (x ∷ xs) ys = ap (λ exits. Throw x ∷ exits) (thrown-append xs ys)

pub no_fault-test : (test : Bool) (kind : ExitRefusalKind) (at : ℕ) → fault_unless test kind at ≡ [] → test ≡ true
no_fault-test true kind at e = refl
no_fault-test false kind at e = absurd (cc)

-- what all exits are, one of them is
pub all-has : (p : Exit → Bool) (exits : List Exit) (exit : Exit) → list_all p exits ≡ true → has_exit exits exit ≡ true → p exit ≡ true
all-has p [] exit h f = let e : true ≡ false = sym f in absurd (cc)
all-has p (first ∷ rest) exit h f =
    let parts = and_parts (p first) (list_all p rest) h in
    ⊎_elim (λ g. rw (same-exit exit first g) parts.0) (all-has p rest exit parts.1) (or_cases (same_exit exit first) (has_exit rest exit) f)

-- the exits of a list that pass a test
pub end-filter : (p : Exit → Bool) (exits : List Exit) (exit : Exit) → has_exit (filter p exits) exit ≡ (p exit && has_exit exits exit)
end-filter p exits exit = any-filter_same (same_exit exit) p (p exit) (λ e h. sym (ap p (same-exit exit e h))) exits

-- an exit other than the normal one is an exit of what follows too
pub then-other : (first rest : List Exit) (exit : Exit) → same_exit Normal exit ≡ false → has_exit first exit ≡ true
    → has_exit (then_exits first rest) exit ≡ true
then-other first rest exit other h = go (has_exit first Normal) refl
  where
    go : (b : Bool) → has_exit first Normal ≡ b → has_exit (then_exits first rest) exit ≡ true
    go true e =
        let passing = filter (λ x. not (same_exit Normal x)) first in
        rw e (list_any-append (same_exit exit) passing rest ∙ or_left (has_exit passing exit) (has_exit rest exit)
        (end-filter (λ x. not (same_exit Normal x)) first exit ∙ rw (other, h) refl))
    go false e = rw e h

-- the label of an exception is that of the first entry if this is of it, and else that of a later one
pub thrown_label-first : (entry : ThrownEntry) (rest : List ThrownEntry) (exception : ℕ)
    → thrown_label (entry ∷ rest) exception ≡ (if exception == entry.exception then entry.label else thrown_label rest exception)
thrown_label-first entry rest exception = go (exception == entry.exception) refl
  where
    go : (b : Bool) → (exception == entry.exception) ≡ b
        → thrown_label (entry ∷ rest) exception ≡ (if exception == entry.exception then entry.label else thrown_label rest exception)
    go true e = rw e refl
    go false e = rw e refl

-- the faults of a block, with those of its first statement in parts
module _ (program : Program) (in_loop reached : Bool) (rest : Block) where
  abbrev unreached : ℕ → List (RefusalAt ExitRefusalKind)
  unreached at = fault_unless reached kind.Unreachable at

  abbrev parts : Statement → List (RefusalAt ExitRefusalKind)
  parts s = fault_unless (may_stand in_loop s) kind.OutsideLoop (place_of s) ++ unreached (place_of s) ++ inner_faults program in_loop s

  abbrev later : Statement → List (RefusalAt ExitRefusalKind)
  later s = block_faults program in_loop (has_exit (statement_exits program s) Normal) rest

  alone : (s : Statement) (own : List (RefusalAt ExitRefusalKind)) → own ++ later s ≡ (own ++ []) ++ later s
  alone s own = ap (λ xs. xs ++ later s) (sym (append-nil own))

  pub faults-in_parts : (s : Statement) → block_faults program in_loop reached (tree.Then s rest) ≡ parts s ++ later s
  faults-in_parts (Placed at (Assign x e)) = alone (Placed at (Assign x e)) (unreached at)
  faults-in_parts (Placed at (Clear slot)) = alone (Placed at (Clear slot)) (unreached at)
  faults-in_parts (Placed at (Store array count index e)) = alone (Placed at (Store array count index e)) (unreached at)
  faults-in_parts (Placed at (Receive channel target)) = alone (Placed at (Receive channel target)) (unreached at)
  faults-in_parts (Placed at (Send channel e)) = alone (Placed at (Send channel e)) (unreached at)
  faults-in_parts (Placed at (Call procedure arguments target)) = alone (Placed at (Call procedure arguments target)) (unreached at)
  faults-in_parts (Placed at (If e then_block else_block)) =
      ap (λ xs. xs ++ later (Placed at (If e then_block else_block)))
      (append_assoc (unreached at) (block_faults program in_loop true then_block) (block_faults program in_loop true else_block))
  faults-in_parts (Placed at (While loop e body)) = refl
  faults-in_parts (Placed at (Leave exit)) =
      alone (Placed at (Leave exit)) (fault_unless (may_stand in_loop (Placed at (Leave exit))) kind.OutsideLoop at ++ unreached at)
  faults-in_parts (Placed at (ReturnWith value)) = alone (Placed at (ReturnWith value)) (unreached at)
  faults-in_parts (Placed at (Try block handlers)) =
      ap (λ xs. xs ++ later (Placed at (Try block handlers)))
      (append_assoc (unreached at) (block_faults program in_loop true block) (handlers_faults program in_loop (block_exits program block) handlers))
  faults-in_parts (Placed at (Nested block)) = refl
