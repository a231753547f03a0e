-- The faults of a procedure, and the entries and faults of all of a program's.
use Rattle.std.proofs.Common.{◌≡◌, refl, sym, ap, ◌∙◌, subst, ℕ, List, [], ◌∷◌, ◌++◌, Bool, true, false, not, ◌&&◌, ◌||◌, map, flat_map, take, drop, get_or, length, ◌<◌, ◌≤◌, ◌+◌, suc}
use Rattle.std.specs.Prelude.{◌==◌, is_some, Some, None, Option}
use Rattle.std.specs.List.{list_all}
use Rattle.std.proofs.lemmas.List.{map-append, take_more, take-append-drop}
use Rattle.std.proofs.Math.ListN.{drop_of_length-le}
use Rattle.std.proofs.Math.Seq.{drop-cons}
use Rattle.std.proofs.Math.Numerals.{add-one}
use Rattle.std.proofs.Math.Bool.{or-true, or-false}
use Rattle.std.proofs.lemmas.List.Folds.{list_any-append}
use Rattle.resolved.specs.declared.statement.Exit.{Exit}
use Rattle.resolved.specs.declared.statement.Exit.TheVariants.{Normal, Return, Break, Continue, Throw}
use Rattle.resolved.specs.declared.statement.Statement as S
use Rattle.resolved.specs.TreeOf.{block_of}
use Rattle.resolved.specs.declared.tables.ResultType.{ResultType}
use Rattle.resolved.specs.declared.tables.Thrown.{Thrown}
use Rattle.resolved.specs.declared.tables.Procedure.{Procedure}
use Rattle.labels.specs.Label.{Label}
use Rattle.resolved.specs.Program.{Program, ProcedureEntry}
use Rattle.resolved.specs.ProgramOf.{result_entry, procedure_entry}
use Rattle.resolved.specs.Exits.{has_exit, declared_by, block_exits, fault_unless}
use Rattle.resolved.specs.ExitFaults.{block_faults, procedure_faults}
use Rattle.resolved.specs.FaultParts.{may_exit}
use Rattle.resolved.specs.declared.fault.ExitRefusalKind.TheVariants.{NoValueReturned, Undeclared}
use Rattle.path_map.specs.declared.exits.Raised.TheVariants.{Several}
use Rattle.path_map.specs.Exits.{Exits}
use Rattle.common.specs.declared.fault.OrNoMemory.{OrNoMemory}
use Rattle.common.specs.declared.fault.OrNoMemory.TheVariants.{Refused}
use Rattle.common.specs.Answers.{IfRefused}
use Rattle.common.specs.declared.refusal.RefusalAt.{RefusalAt}
use Rattle.resolved.specs.declared.fault.ExitRefusalKind.{ExitRefusalKind}
use Rattle.path_map.specs.FirstFault.{IsFirstEndFault}
use Rattle.path_map.specs.Exits.{exits_of, raised_by}
use Rattle.path_map.specs.Joins.{join_raised}
use Rattle.path_map.specs.Paths.{HaveSameExits, block_paths}
use Rattle.path_map.specs.Exceptions.{exceptions_of, is_one_of}
use Rattle.path_map.specs.Sets.{AreDeclared, throws}
use Rattle.path_map.specs.Walks.{IsFound}
use Rattle.path_map.proofs.Summary.{same-number, raised-append, throws-thrown}
use Rattle.path_map.proofs.Declared.{declared-same}
use Rattle.path_map.proofs.Alike.{alike-refl, alike-step, alike-end}
use Rattle.path_map.proofs.Walking.{first-left}
use Rattle.resolved.proofs.Exits.{all-has, thrown-break, thrown-continue}

not-all : (f : Exit → Bool) (ends : List Exit) (x : Exit) → has_exit ends x ≡ true → f x ≡ false → list_all f ends ≡ false
not-all f ends x there is = go (list_all f ends) refl
  where
    go : (b : Bool) → list_all f ends ≡ b → list_all f ends ≡ false
    go false e = e
    go true e = absurd (let no : true ≡ false = sym (all-has f ends x e there) ∙ is in cc)

module _ (procedure : ProcedureEntry) where
  throw-ends : (e : ℕ) → may_exit procedure (Throw e) ≡ is_one_of (declared_by procedure.throws) e
  throw-ends e = throws-thrown (declared_by procedure.throws) e

  all-end : (ends : List Exit) → has_exit ends Break ≡ false → has_exit ends Continue ≡ false
      → ((e : ℕ) → throws ends e ≡ true → is_one_of (declared_by procedure.throws) e ≡ true) → list_all (may_exit procedure) ends ≡ true
  all-end [] b c each = refl
  all-end (Normal ∷ ends) b c each = all-end ends b c each
  all-end (Return ∷ ends) b c each = all-end ends b c each
  all-end (Break ∷ ends) b c each = absurd (let no : true ≡ false = b in cc)
  all-end (Continue ∷ ends) b c each = absurd (let no : true ≡ false = c in cc)
  all-end (Throw e ∷ ends) b c each =
      ap (λ t. t && list_all (may_exit procedure) ends) (throw-ends e ∙ each e (ap (λ t. t || throws ends e) (same-number e)))
      ∙ all-end ends b c (λ x there. each x (ap (λ t. (x == e) || t) there ∙ or-true (x == e)))

  pub may-all : (ends : List Exit) (set : ℕ → Bool) (declared : Bool) → ((e : ℕ) → set e ≡ throws ends e)
      → AreDeclared set (declared_by procedure.throws) declared
      → list_all (may_exit procedure) ends ≡ not (has_exit ends Break || (has_exit ends Continue || not declared))
  may-all ends set declared same are = go (has_exit ends Break) refl (has_exit ends Continue) refl declared are
    where
      go : (b : Bool) → has_exit ends Break ≡ b → (c : Bool) → has_exit ends Continue ≡ c → (d : Bool) → AreDeclared set (declared_by procedure.throws) d
          → list_all (may_exit procedure) ends ≡ not (has_exit ends Break || (has_exit ends Continue || not d))
      go true e c f d are = rw e (not-all (may_exit procedure) ends Break e (thrown-break (declared_by procedure.throws)))
      go false e true f d are = rw (e, f) (not-all (may_exit procedure) ends Continue f (thrown-continue (declared_by procedure.throws)))
      go false e false f true are = rw (e, f) (all-end ends e f (λ x there. are x (same x ∙ there)))
      go false e false f false are =
          rw (e, f) (not-all (may_exit procedure) ends (Throw are.exception) (sym (same are.exception) ∙ are.has) (throw-ends are.exception ∙ are.none))

-- whether there is a result
some-result : (labels : List Label) (result : Option ResultType) → is_some (result_entry labels result) ≡ is_some result
some-result labels None = refl
some-result labels (Some type) = refl

pub some-value : (labels : List Label) (result : Option ResultType) (normal : Bool) → (is_some (result_entry labels result) && normal) ≡ (is_some result && normal)
some-value labels result normal = ap (λ some. some && normal) (some-result labels result)

-- the faults of a procedure
module _ (program : Program) (procedure : ProcedureEntry) where
  pub body-first : (fault : OrNoMemory (RefusalAt ExitRefusalKind)) → IfRefused (IsFirstEndFault (block_faults program false true procedure.body)) fault → IfRefused (IsFirstEndFault (procedure_faults program procedure)) fault
  body-first fault first =
      first-left (block_faults program false true procedure.body
      ++ fault_unless (not (is_some procedure.result && has_exit (block_exits program procedure.body) Normal)) NoValueReturned procedure.at)
      (fault_unless (list_all (may_exit procedure) (block_exits program procedure.body)) Undeclared procedure.at) fault
      (first-left (block_faults program false true procedure.body)
      (fault_unless (not (is_some procedure.result && has_exit (block_exits program procedure.body) Normal)) NoValueReturned procedure.at) fault first)

  pub no-value-first : block_faults program false true procedure.body ≡ []
      → (is_some procedure.result && has_exit (block_exits program procedure.body) Normal) ≡ true
      → IfRefused (IsFirstEndFault (procedure_faults program procedure)) (Refused (record { kind = NoValueReturned; at = procedure.at }))
  no-value-first clean value = rw (clean, value) refl

  pub undeclared-first : block_faults program false true procedure.body ≡ []
      → (is_some procedure.result && has_exit (block_exits program procedure.body) Normal) ≡ false
      → list_all (may_exit procedure) (block_exits program procedure.body) ≡ false
      → IfRefused (IsFirstEndFault (procedure_faults program procedure)) (Refused (record { kind = Undeclared; at = procedure.at }))
  undeclared-first clean value ends = rw (clean, value, ends) refl

  pub no-faults : block_faults program false true procedure.body ≡ []
      → (is_some procedure.result && has_exit (block_exits program procedure.body) Normal) ≡ false
      → list_all (may_exit procedure) (block_exits program procedure.body) ≡ true
      → procedure_faults program procedure ≡ []
  no-faults clean value ends = rw (clean, value, ends) refl

-- what a walk along a procedure's body has found of its exits
pub record Ended (program : Program) (procedure : ProcedureEntry) (raised : ℕ → Bool) (exits : Exits) : Type 0 where
  pub summary : exits ≡ exits_of (block_exits program procedure.body)
  pub same : (e : ℕ) → raised e ≡ throws (block_exits program procedure.body) e
  pub clean : block_faults program false true procedure.body ≡ []
  pub value : (is_some procedure.result && has_exit (block_exits program procedure.body) Normal) ≡ (is_some procedure.result && exits.normal)

pub walked : (labels : List Label) (program : Program) (procedure : Procedure) (body : List S.Statement) (old new : List (List Exit)) (none raised : ℕ → Bool) (exits : Exits)
    → body ≡ procedure.body.items → ((e : ℕ) → none e ≡ false)
    → IsFound (block_exits program (block_of body)) (block_paths program (block_of body)) old new none raised exits
    → block_faults program false true (block_of body) ≡ []
    → Ended program (procedure_entry labels procedure) raised exits
walked labels program procedure body old new none raised exits lent empty found clean =
    let summary : exits ≡ exits_of (block_exits program (block_of procedure.body.items)) =
    found.summary ∙ ap (λ list. exits_of (block_exits program (block_of list))) lent in
    record {
      summary = summary;
      same = λ e.
          found.raised.has e ∙ ap (λ b. b || throws (block_exits program (block_of body)) e) (empty e)
          ∙ ap (λ list. throws (block_exits program (block_of list)) e) lent;
      clean = sym (ap (λ list. block_faults program false true (block_of list)) lent) ∙ clean;
      value = ap (λ (x : Exits). is_some (result_entry labels procedure.result) && x.normal) (sym summary);
    }

pub all-may-end : (labels : List Label) (program : Program) (procedure : Procedure) (list : List Thrown) (raised : ℕ → Bool) (exits : Exits) (declared : Bool)
    → list ≡ procedure.throws.items → Ended program (procedure_entry labels procedure) raised exits
    → AreDeclared raised (exceptions_of list) declared
    → list_all (may_exit (procedure_entry labels procedure)) (block_exits program (block_of procedure.body.items)) ≡ not (exits.breaks || (exits.continues || not declared))
all-may-end labels program procedure list raised exits declared lent ended are =
    may-all (procedure_entry labels procedure) (block_exits program (block_of procedure.body.items)) raised declared ended.same
    (subst (λ exceptions. AreDeclared raised exceptions declared) (ap exceptions_of lent ∙ sym (declared-same labels procedure.throws.items)) are)
    ∙ ap (λ (x : Exits). not (x.breaks || (x.continues || not declared))) (sym ended.summary)

-- along the procedures of a program
pub record WithEnds (program : Program) (all tail : List ProcedureEntry) (now : List (List Exit)) : Type 0 where
  pub entries : HaveSameExits (now ++ flat_map (λ (procedure : ProcedureEntry). block_paths program procedure.body) tail)
      (flat_map (λ (procedure : ProcedureEntry). block_paths program procedure.body) all)
  pub faults : flat_map (procedure_faults program) tail ≡ flat_map (procedure_faults program) all

module _ (program : Program) (all : List ProcedureEntry) where
  pub beside-begin : (now : List (List Exit)) → now ≡ [] → WithEnds program all all now
  beside-begin now none = record {
    entries =
        let paths = flat_map (λ (procedure : ProcedureEntry). block_paths program procedure.body) all in
        subst (λ xs. HaveSameExits (xs ++ paths) paths) (sym none) (alike-refl paths);
    faults = refl;
  }

  pub beside-first : (procedure : ProcedureEntry) (tail : List ProcedureEntry) (now : List (List Exit)) (fault : OrNoMemory (RefusalAt ExitRefusalKind)) → WithEnds program all (procedure ∷ tail) now
      → IfRefused (IsFirstEndFault (procedure_faults program procedure)) fault → IfRefused (IsFirstEndFault (flat_map (procedure_faults program) all)) fault
  beside-first procedure tail now fault along first =
      subst (λ faults. IfRefused (IsFirstEndFault faults) fault) along.faults
      (first-left (procedure_faults program procedure) (flat_map (procedure_faults program) tail) fault first)

  pub beside-step : (procedure : ProcedureEntry) (tail : List ProcedureEntry) (now next : List (List Exit)) → WithEnds program all (procedure ∷ tail) now
      → HaveSameExits next (now ++ block_paths program procedure.body) → procedure_faults program procedure ≡ []
      → WithEnds program all tail next
  beside-step procedure tail now next along grown clean =
      let rest = flat_map (λ (other : ProcedureEntry). block_paths program other.body) tail in
      record {
        entries =
            alike-step next now (block_paths program procedure.body) rest
            (flat_map (λ (other : ProcedureEntry). block_paths program other.body) all) grown along.entries;
        faults = sym (ap (λ xs. xs ++ flat_map (procedure_faults program) tail) clean) ∙ along.faults;
      }

  pub beside-end : (now : List (List Exit)) → WithEnds program all [] now
      → HaveSameExits now (flat_map (λ (procedure : ProcedureEntry). block_paths program procedure.body) all)
  beside-end now along =
      alike-end now (flat_map (λ (procedure : ProcedureEntry). block_paths program procedure.body) all) along.entries

  pub beside-clean : (now : List (List Exit)) → WithEnds program all [] now → flat_map (procedure_faults program) all ≡ []
  beside-clean now along = sym along.faults

-- along declared exceptions
pub declared-more : (throws : List Thrown) (i : ℕ) (thrown : Thrown) → i < length throws → thrown ≡ get_or throws i thrown → (e : ℕ)
    → is_one_of (exceptions_of (take (i + 1) throws)) e ≡ (is_one_of (exceptions_of (take i throws)) e || (e == thrown.exception))
declared-more throws i thrown inside is e =
    ap (λ list. is_one_of (exceptions_of list) e) (take_more throws i thrown inside ∙ ap (λ t. take i throws ++ t ∷ []) (sym is))
    ∙ ap (λ list. is_one_of list e) (map-append (λ (t : Thrown). t.exception) (take i throws) (thrown ∷ []))
    ∙ list_any-append (λ other. e == other) (exceptions_of (take i throws)) (thrown.exception ∷ [])
    ∙ ap (λ b. is_one_of (exceptions_of (take i throws)) e || b) (or-false (e == thrown.exception))

-- along procedures
pub next-procedure : (entry : Procedure → ProcedureEntry) (procedures : List Procedure) (i : ℕ) (procedure : Procedure)
    → i < length procedures → procedure ≡ get_or procedures i procedure
    → map entry (drop i procedures) ≡ entry procedure ∷ map entry (drop (i + 1) procedures)
next-procedure entry procedures i procedure inside is =
    ap (map entry) (drop-cons procedures i procedure inside ∙ ap (λ p. p ∷ drop (suc i) procedures) (sym is))
    ∙ ap (λ n. entry procedure ∷ map entry (drop n procedures)) (sym (add-one i))

pub last-procedure : (entry : Procedure → ProcedureEntry) (procedures : List Procedure) (i : ℕ) → length procedures ≤ i → map entry (drop i procedures) ≡ []
last-procedure entry procedures i past = ap (map entry) (drop_of_length-le procedures past)

-- more than one exception stays more than one
pub several-stays : (throws : List Thrown) (i : ℕ) → raised_by (exceptions_of (take i throws)) ≡ Several
    → Several ≡ raised_by (exceptions_of throws)
several-stays throws i some =
    let first : List ℕ = exceptions_of (take i throws) in
    let rest : List ℕ = exceptions_of (drop i throws) in
    sym (ap (λ r. join_raised r (raised_by rest)) some)
    ∙ sym (raised-append first rest)
    ∙ ap raised_by (
    sym (map-append (λ (t : Thrown). t.exception) (take i throws) (drop i throws))
    ∙ ap exceptions_of (take-append-drop i throws)
    )
