-- The one exit of exits, by their summary.
use Rattle.std.proofs.Common.{◌≡◌, refl, sym, ap, ◌∙◌, ℕ, List, [], ◌∷◌, Bool, true, false, not, ◌&&◌, ◌||◌, map}
use Rattle.std.specs.Prelude.{◌==◌, if◌then◌else◌, Option, Some, None, is_some}
use Rattle.std.specs.List.{list_all}
use Rattle.resolved.specs.declared.statement.Exit.{Exit}
use Rattle.resolved.specs.declared.statement.Exit.TheVariants.{Normal, Return, Break, Continue, Throw}
use Rattle.resolved.specs.Exits.{same_exit, has_exit, one_exit}
use Rattle.resolved.specs.Labelled.{as_one_exit}
use Rattle.path_map.specs.declared.exits.Raised.{Raised}
use Rattle.path_map.specs.declared.exits.Raised.TheVariants.{Nothing, One, Several}
use Rattle.path_map.specs.Exits.{Exits}
use Rattle.path_map.specs.Exits.{thrown_in, raised_by, exits_of, single_exit}

abbrev pub is_nothing : Raised → Bool
is_nothing Nothing = true
is_nothing (One e) = false
is_nothing Several = false

-- the exit of an exception, if there is one only
abbrev pub raised_alone : Raised → Option Exit
raised_alone Nothing = None
raised_alone (One e) = Some (Throw e)
raised_alone Several = None

-- an exit, if there are neither three others nor an exception
abbrev pub alone : Exit → (a b c : Bool) → Raised → Option Exit
alone exit a b c r = if not a && (not b && (not c && is_nothing r)) then Some exit else None

abbrev pub single_of : (normal returns breaks continues : Bool) → Raised → Option Exit
single_of true b c d r = alone Normal b c d r
single_of false true c d r = alone Return false c d r
single_of false false true d r = alone Break false false d r
single_of false false false true r = alone Continue false false false r
single_of false false false false r = raised_alone r

abbrev pub single_summary : Exits → Option Exit
single_summary summary = single_of summary.normal summary.returns summary.breaks summary.continues summary.raised

nothing-else : (a b c : Bool) → false ≡ (not a && (not b && (not c && false)))
nothing-else true b c = refl
nothing-else false true c = refl
nothing-else false false true = refl
nothing-else false false false = refl

second-out : (a c : Bool) (d : Bool) → false ≡ (not a && (not true && (not c && d)))
second-out true c d = refl
second-out false c d = refl

third-out : (a b : Bool) (d : Bool) → false ≡ (not a && (not b && (not true && d)))
third-out true b d = refl
third-out false true d = refl
third-out false false d = refl

some-raised : (e : ℕ) (es : List ℕ) → false ≡ is_nothing (raised_by (e ∷ es))
some-raised e es = go (list_all (λ other. e == other) es)
  where
    go : (b : Bool) → false ≡ is_nothing (if b then One e else Several)
    go true = refl
    go false = refl

all-normal : (ends : List Exit) → list_all (same_exit Normal) ends
    ≡ (not (has_exit ends Return) && (not (has_exit ends Break) && (not (has_exit ends Continue) && is_nothing (raised_by (thrown_in ends)))))
all-normal [] = refl
all-normal (Normal ∷ ends) = all-normal ends
all-normal (Return ∷ ends) = refl
all-normal (Break ∷ ends) = second-out (has_exit ends Return) (has_exit ends Continue) (is_nothing (raised_by (thrown_in ends)))
all-normal (Continue ∷ ends) = third-out (has_exit ends Return) (has_exit ends Break) (is_nothing (raised_by (thrown_in ends)))
all-normal (Throw e ∷ ends) =
    nothing-else (has_exit ends Return) (has_exit ends Break) (has_exit ends Continue)
    ∙ ap (λ b. not (has_exit ends Return) && (not (has_exit ends Break) && (not (has_exit ends Continue) && b))) (some-raised e (thrown_in ends))

all-return : (ends : List Exit) → list_all (same_exit Return) ends
    ≡ (not (has_exit ends Normal) && (not (has_exit ends Break) && (not (has_exit ends Continue) && is_nothing (raised_by (thrown_in ends)))))
all-return [] = refl
all-return (Normal ∷ ends) = refl
all-return (Return ∷ ends) = all-return ends
all-return (Break ∷ ends) = second-out (has_exit ends Normal) (has_exit ends Continue) (is_nothing (raised_by (thrown_in ends)))
all-return (Continue ∷ ends) = third-out (has_exit ends Normal) (has_exit ends Break) (is_nothing (raised_by (thrown_in ends)))
all-return (Throw e ∷ ends) =
    nothing-else (has_exit ends Normal) (has_exit ends Break) (has_exit ends Continue)
    ∙ ap (λ b. not (has_exit ends Normal) && (not (has_exit ends Break) && (not (has_exit ends Continue) && b))) (some-raised e (thrown_in ends))

all-break : (ends : List Exit) → list_all (same_exit Break) ends
    ≡ (not (has_exit ends Normal) && (not (has_exit ends Return) && (not (has_exit ends Continue) && is_nothing (raised_by (thrown_in ends)))))
all-break [] = refl
all-break (Normal ∷ ends) = refl
all-break (Return ∷ ends) = second-out (has_exit ends Normal) (has_exit ends Continue) (is_nothing (raised_by (thrown_in ends)))
all-break (Break ∷ ends) = all-break ends
all-break (Continue ∷ ends) = third-out (has_exit ends Normal) (has_exit ends Return) (is_nothing (raised_by (thrown_in ends)))
all-break (Throw e ∷ ends) =
    nothing-else (has_exit ends Normal) (has_exit ends Return) (has_exit ends Continue)
    ∙ ap (λ b. not (has_exit ends Normal) && (not (has_exit ends Return) && (not (has_exit ends Continue) && b))) (some-raised e (thrown_in ends))

all-continue : (ends : List Exit) → list_all (same_exit Continue) ends
    ≡ (not (has_exit ends Normal) && (not (has_exit ends Return) && (not (has_exit ends Break) && is_nothing (raised_by (thrown_in ends)))))
all-continue [] = refl
all-continue (Normal ∷ ends) = refl
all-continue (Return ∷ ends) = second-out (has_exit ends Normal) (has_exit ends Break) (is_nothing (raised_by (thrown_in ends)))
all-continue (Break ∷ ends) = third-out (has_exit ends Normal) (has_exit ends Return) (is_nothing (raised_by (thrown_in ends)))
all-continue (Continue ∷ ends) = all-continue ends
all-continue (Throw e ∷ ends) =
    nothing-else (has_exit ends Normal) (has_exit ends Return) (has_exit ends Break)
    ∙ ap (λ b. not (has_exit ends Normal) && (not (has_exit ends Return) && (not (has_exit ends Break) && b))) (some-raised e (thrown_in ends))

-- an exit that is there is the single one where it is alone
alone-return : (a b c : Bool) (r : Raised) → alone Return a b c r ≡ single_of a true b c r
alone-return true b c r = refl
alone-return false b c r = refl

alone-break : (a b c : Bool) (r : Raised) → alone Break a b c r ≡ single_of a b true c r
alone-break true true c r = refl
alone-break true false c r = refl
alone-break false true c r = refl
alone-break false false c r = refl

alone-continue : (a b c : Bool) (r : Raised) → alone Continue a b c r ≡ single_of a b c true r
alone-continue true true c r = refl
alone-continue true false true r = refl
alone-continue true false false r = refl
alone-continue false true true r = refl
alone-continue false true false r = refl
alone-continue false false true r = refl
alone-continue false false false r = refl

all-throw : (x : ℕ) (ends : List Exit) → list_all (same_exit (Throw x)) ends
    ≡ (not (has_exit ends Normal) && (not (has_exit ends Return) && (not (has_exit ends Break) && (not (has_exit ends Continue) && list_all (λ other. x == other) (thrown_in ends)))))
all-throw x [] = refl
all-throw x (Normal ∷ ends) = refl
all-throw x (Return ∷ ends) = go (has_exit ends Normal)
  where
    go : (a : Bool) → false ≡ (not a && false)
    go true = refl
    go false = refl
all-throw x (Break ∷ ends) = go (has_exit ends Normal) (has_exit ends Return)
  where
    go : (a b : Bool) → false ≡ (not a && (not b && false))
    go true b = refl
    go false true = refl
    go false false = refl
all-throw x (Continue ∷ ends) = nothing-else (has_exit ends Normal) (has_exit ends Return) (has_exit ends Break)
all-throw x (Throw y ∷ ends) = go (x == y) (has_exit ends Normal) (has_exit ends Return) (has_exit ends Break) (has_exit ends Continue) (all-throw x ends)
  where
    go : (same a b c d : Bool) → list_all (same_exit (Throw x)) ends ≡ (not a && (not b && (not c && (not d && list_all (λ other. x == other) (thrown_in ends)))))
        → (same && list_all (same_exit (Throw x)) ends)
        ≡ (not a && (not b && (not c && (not d && (same && list_all (λ other. x == other) (thrown_in ends))))))
    go true a b c d rest = rest
    go false true b c d rest = refl
    go false false true c d rest = refl
    go false false false true d rest = refl
    go false false false false true rest = refl
    go false false false false false rest = refl

first-throw : (x : ℕ) (a b c d e : Bool) → (if not a && (not b && (not c && (not d && e))) then Some (Throw x) else None)
    ≡ single_of a b c d (if e then One x else Several)
first-throw x true true true true true = refl
first-throw x true true true true false = refl
first-throw x true true true false true = refl
first-throw x true true true false false = refl
first-throw x true true false true true = refl
first-throw x true true false true false = refl
first-throw x true true false false true = refl
first-throw x true true false false false = refl
first-throw x true false true true true = refl
first-throw x true false true true false = refl
first-throw x true false true false true = refl
first-throw x true false true false false = refl
first-throw x true false false true true = refl
first-throw x true false false true false = refl
first-throw x true false false false true = refl
first-throw x true false false false false = refl
first-throw x false true true true true = refl
first-throw x false true true true false = refl
first-throw x false true true false true = refl
first-throw x false true true false false = refl
first-throw x false true false true true = refl
first-throw x false true false true false = refl
first-throw x false true false false true = refl
first-throw x false true false false false = refl
first-throw x false false true true true = refl
first-throw x false false true true false = refl
first-throw x false false true false true = refl
first-throw x false false true false false = refl
first-throw x false false false true true = refl
first-throw x false false false true false = refl
first-throw x false false false false true = refl
first-throw x false false false false false = refl

pub single-is : (ends : List Exit) → single_exit ends ≡ single_summary (exits_of ends)
single-is [] = refl
single-is (Normal ∷ ends) =
    ap (λ b. if b then Some Normal else None) (all-normal ends)
single-is (Return ∷ ends) =
    ap (λ b. if b then Some Return else None) (all-return ends)
    ∙ alone-return (has_exit ends Normal) (has_exit ends Break) (has_exit ends Continue) (raised_by (thrown_in ends))
single-is (Break ∷ ends) =
    ap (λ b. if b then Some Break else None) (all-break ends)
    ∙ alone-break (has_exit ends Normal) (has_exit ends Return) (has_exit ends Continue) (raised_by (thrown_in ends))
single-is (Continue ∷ ends) =
    ap (λ b. if b then Some Continue else None) (all-continue ends)
    ∙ alone-continue (has_exit ends Normal) (has_exit ends Return) (has_exit ends Break) (raised_by (thrown_in ends))
single-is (Throw x ∷ ends) =
    ap (λ b. if b then Some (Throw x) else None) (all-throw x ends)
    ∙ first-throw x (has_exit ends Normal) (has_exit ends Return) (has_exit ends Break) (has_exit ends Continue) (list_all (λ other. x == other) (thrown_in ends))

-- the answer of a function that finds it
pub answer : (summary : Exits) (found : Option Exit) → found ≡ single_summary summary → (ends : List Exit) → summary ≡ exits_of ends → found ≡ single_exit ends
answer summary found is ends e = is ∙ (ap single_summary e ∙ sym (single-is ends))

pub one-is : (ends : List Exit) → is_some (single_exit ends) ≡ one_exit ends
one-is [] = refl
one-is (exit ∷ ends) = go (list_all (same_exit exit) ends)
  where
    go : (b : Bool) → is_some (if b then Some exit else None) ≡ b
    go true = refl
    go false = refl

-- for a procedure, where a normal exit and a return are one
normal-joined : (ends : List Exit) → has_exit (map as_one_exit ends) Normal ≡ (has_exit ends Normal || has_exit ends Return)
normal-joined [] = refl
normal-joined (Normal ∷ ends) = refl
normal-joined (Return ∷ ends) = go (has_exit ends Normal)
  where
    go : (a : Bool) → true ≡ (a || true)
    go true = refl
    go false = refl
normal-joined (Break ∷ ends) = normal-joined ends
normal-joined (Continue ∷ ends) = normal-joined ends
normal-joined (Throw e ∷ ends) = normal-joined ends

return-joined : (ends : List Exit) → has_exit (map as_one_exit ends) Return ≡ false
return-joined [] = refl
return-joined (Normal ∷ ends) = return-joined ends
return-joined (Return ∷ ends) = return-joined ends
return-joined (Break ∷ ends) = return-joined ends
return-joined (Continue ∷ ends) = return-joined ends
return-joined (Throw e ∷ ends) = return-joined ends

break-joined : (ends : List Exit) → has_exit (map as_one_exit ends) Break ≡ has_exit ends Break
break-joined [] = refl
break-joined (Normal ∷ ends) = break-joined ends
break-joined (Return ∷ ends) = break-joined ends
break-joined (Break ∷ ends) = refl
break-joined (Continue ∷ ends) = break-joined ends
break-joined (Throw e ∷ ends) = break-joined ends

continue-joined : (ends : List Exit) → has_exit (map as_one_exit ends) Continue ≡ has_exit ends Continue
continue-joined [] = refl
continue-joined (Normal ∷ ends) = continue-joined ends
continue-joined (Return ∷ ends) = continue-joined ends
continue-joined (Break ∷ ends) = continue-joined ends
continue-joined (Continue ∷ ends) = refl
continue-joined (Throw e ∷ ends) = continue-joined ends

thrown-joined : (ends : List Exit) → thrown_in (map as_one_exit ends) ≡ thrown_in ends
thrown-joined [] = refl
thrown-joined (Normal ∷ ends) = thrown-joined ends
thrown-joined (Return ∷ ends) = thrown-joined ends
thrown-joined (Break ∷ ends) = thrown-joined ends
thrown-joined (Continue ∷ ends) = thrown-joined ends
thrown-joined (Throw e ∷ ends) = ap (λ es. e ∷ es) (thrown-joined ends)

pub joined-is : (summary : Exits) (ends : List Exit) → summary ≡ exits_of ends
    → record summary { normal = summary.normal || summary.returns; returns = false } ≡ exits_of (map as_one_exit ends)
joined-is summary ends is =
    ap (λ (x : Exits). record x { normal = x.normal || x.returns; returns = false }) is
    ∙ sym (rw (normal-joined ends, return-joined ends, break-joined ends, continue-joined ends, thrown-joined ends) refl)

-- several exits have no single one
pub more-normal : (r : Raised) → (r ≡ Nothing → ⊥) → None ≡ single_of true false false false r
more-normal Nothing more = absurd (more refl)
more-normal (One e) more = refl
more-normal Several more = refl

pub more-return : (r : Raised) → (r ≡ Nothing → ⊥) → None ≡ single_of false true false false r
more-return Nothing more = absurd (more refl)
more-return (One e) more = refl
more-return Several more = refl

pub more-break : (r : Raised) → (r ≡ Nothing → ⊥) → None ≡ single_of false false true false r
more-break Nothing more = absurd (more refl)
more-break (One e) more = refl
more-break Several more = refl

pub more-continue : (r : Raised) → (r ≡ Nothing → ⊥) → None ≡ single_of false false false true r
more-continue Nothing more = absurd (more refl)
more-continue (One e) more = refl
more-continue Several more = refl

pub more-throws : (r : Raised) → ((e : ℕ) → r ≡ One e → ⊥) → None ≡ single_of false false false false r
more-throws Nothing more = refl
more-throws (One e) more = absurd (more e refl)
more-throws Several more = refl
