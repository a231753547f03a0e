-- The statements that are found fit where they stand, their loops count up, the slots that they take fit, and they have no more nodes
-- than the written ones.
use Rattle.labels.specs.Label.{Label}
use Rattle.std.proofs.Common.{◌≡◌, refl, sym, ◌∙◌, subst, ap, ℕ, suc, ◌+◌, ◌≤◌, List, [], ◌∷◌, ◌++◌, map, length, Bool, true, false, append-nil, append_assoc, arith}
use Rattle.std.specs.Prelude.{All, IfOk, Option, Some, None, ◌==◌, ◌&&◌, is_none, slice_get, slice_index_or, sum_by, nat_lt, nat_le}
use Rattle.std.specs.List.{list_all}
use Rattle.std.proofs.lemmas.Bool.{eq-eqb, eqb-true, and_from, and_parts}
use Rattle.std.proofs.lemmas.List.{length-append}
use Rattle.std.proofs.lemmas.List.Elements.{All-head, All-tail}
use Rattle.std.proofs.lemmas.List.Folds.{list_all-append}
use Rattle.std.proofs.lemmas.List.Sums.{sum_by-cons, sum_by_push}
use Rattle.std.proofs.lemmas.Result.{IfOk-weaker}
use Rattle.syntax.specs.Nodes as tree
use Rattle.syntax.specs.Tree.{NameTree, LabelTree, ExpressionTree, CallTree, RightTree, ReceivedTree, CalledTree, ValueTree, SizeTree, StatementTree, DeclareTree, DeclareArrayTree, AssignTree, AssignElementTree, CallTree', ReceiveTree, SendTree, IfTree, WhileTree, BreakTree, ContinueTree, ThrowTree, ReturnTree, TryTree, NestedTree, BlockTree, BlockOf, StatementTrees, NoStatement, StatementThen, CatchTrees, NoCatch, CatchThen, expression_at}
use Rattle.syntax.specs.Written.{IsWrittenExpression, IsWrittenOptionalExpression, IsWrittenCall, IsWrittenRight, IsWrittenStatement, IsWrittenBlock, AreWrittenStatements, AreWrittenCatches, IsInteger}
use Rattle.common.specs.declared.base_type.BaseType.{BaseType}
use Rattle.common.specs.declared.base_type.BaseType.TheVariants.{Int, Boolean}
use Rattle.resolved.specs.declared.expression.Variable.{Variable}
use Rattle.resolved.specs.declared.expression.Variable.TheVariants.{Local}
use Rattle.common.specs.declared.direction.Direction.TheVariants as directions
use Rattle.resolved.specs.declared.statement.Exit.TheVariants as exits
use Rattle.resolved.specs.Program.{Program, ProcedureEntry, SlotEntry, ResultEntry}
use Rattle.resolved.specs.Tree.{Expression, Statement, Placed, Store, Receive, Send, Call, If, While, Leave, ReturnWith, Try, Nested, Block, Handlers, Catch, Clear}
use Rattle.resolved.specs.WellFormed.{same_base, slot_type, variable_type, scalar_by, array_by, has_base, has_result, target_by, channel_is, is_exception, is_array, arguments_match, call_matches, parameters_of, statement_fits, block_fits, handlers_fit, statement_loops, block_loops, handlers_loops, counts_from, size_fits, written_fits, expression_nodes, statement_nodes, block_nodes, handlers_nodes}
use Rattle.resolved.proofs.Sound.Values.{same_base_is, same_base_itself}
use Rattle.types.specs.declared.scope.ItemKind.TheVariants.{Channel, Exception, Procedure}
use Rattle.types.specs.declared.scope.Meaning.TheVariants as meanings
use Rattle.common.specs.Results.{along}
use Rattle.types.specs.Finding.{require}
use Rattle.types.specs.Environment.{Environment, fresh_finding, use_as, scalar_of, array_of, item_of}
use Rattle.types.specs.Labels.{optional_label_finding}
use Rattle.types.specs.Expressions.{expression_finding, typed_finding}
use Rattle.types.specs.Statements.{arguments_finding, Setting, Point, label_scope, signature_at, next_argument, call_finding, gives_base, assigned_finding, declare_finding, size_finding, declare_array_finding, declared_finding, with_local, after_block, statement_finding, block_finding, statements_finding, catches_finding, slot_of}
use Rattle.types.proofs.Passing.{then_finds, if_finds, require_finds, any_finds, finds_for_all}
use Rattle.types.proofs.WellFormedExpressions.{given_base, slot_base, scalar_type, array_type, Stands, Means, means_declaring, scalar_found, array_found, item_found, IsWellFormedTyped, IsWellFormedExpression, expression_keeps, typed_keeps}
use Rattle.types.proofs.WellFormedLabels.{GlobalsFit, SlotsFit, optional_label_there}
use Rattle.common.specs.declared.limits.TheConstants.{MAX_ELEMENTS}
use Rattle.types.specs.Views.{CallUse}

-- ---- lists

counts_both : (n : ℕ) (xs ys : List ℕ) → counts_from n xs ≡ true → counts_from (n + length xs) ys ≡ true → counts_from n (xs ++ ys) ≡ true
counts_both n [] ys e f =
    let same : n + 0 ≡ n = omega arith in
    subst (λ one. counts_from one ys ≡ true) same f
counts_both n (m ∷ xs) ys e f =
    let parts = and_parts (m == n) (counts_from (suc n) xs) e in
    let same : n + suc (length xs) ≡ suc n + length xs = omega arith in
    and_from (m == n) (counts_from (suc n) (xs ++ ys)) parts.0
    (counts_both (suc n) xs ys parts.1 (subst (λ one. counts_from one ys ≡ true) same f))

at_end : {X : Type 0} (xs : List X) (x : X) (rest : List X) → slice_get ((xs ++ x ∷ []) ++ rest) (length xs) ≡ Some x
at_end [] x rest = refl
at_end (y ∷ xs) x rest = at_end xs x rest

index_end : {X : Type 0} (xs : List X) (x : X) (rest : List X) (n : ℕ) (d : X) → length xs ≡ n → slice_index_or (xs ++ x ∷ rest) n d ≡ x
index_end {X = X} xs x rest n d e = subst (λ one. slice_index_or (xs ++ x ∷ rest) one d ≡ x) e (go xs)
  where
    go : (xs : List X) → slice_index_or (xs ++ x ∷ rest) (length xs) d ≡ x
    go [] = refl
    go (y ∷ xs) = go xs

abbrev pub slot_fits : (setting : Setting) → SlotEntry → Bool
slot_fits setting slot = size_fits slot.size && written_fits setting.outer.hierarchy slot.written

module _ (program : Program) (procedure : ProcedureEntry) (setting : Setting) where
  pub written_fit : (slots : List SlotEntry) → list_all (slot_fits setting) slots ≡ true → SlotsFit setting.outer.hierarchy slots
  written_fit [] fit = refl
  written_fit (slot ∷ slots) fit =
      let parts = and_parts (slot_fits setting slot) (list_all (slot_fits setting) slots) fit in
      let own = and_parts (size_fits slot.size) (written_fits setting.outer.hierarchy slot.written) parts.0 in
      and_from (written_fits setting.outer.hierarchy slot.written) (list_all (λ (other : SlotEntry). written_fits setting.outer.hierarchy other.written) slots) own.1
      (written_fit slots parts.1)

  abbrev MeansHere : Environment → Type 0
  MeansHere names = Means program procedure setting.signatures names

  abbrev HasBase : Environment → BaseType → ℕ → Expression → Type 0
  HasBase names base nodes e = IsWellFormedTyped program procedure setting.signatures names base nodes e

  -- ---- points

  -- these are the first slots of the procedure
  abbrev pub IsPrefix : List SlotEntry → Type 0
  IsPrefix slots = (rest : List SlotEntry) × (procedure.slots ≡ slots ++ rest)

  -- the globals that are declared before fit, and the slots so far do
  abbrev pub FitBefore : Point → Type 0
  FitBefore point = GlobalsFit setting.outer.hierarchy setting.outer.globals × (list_all (slot_fits setting) point.slots ≡ true)

  -- From one point to another: the slots that were taken fit where those before do, the loops count up, and there are few enough nodes; and if those slots
  -- are the procedure's and what is in scope before stands for entries, then what was found fits, and what is in scope after does.
  pub record Kept (point after : Point) (test : Bool) (loops : List ℕ) (nodes written : ℕ) : Type 0 where
    pub more : List SlotEntry
    pub slots : after.slots ≡ point.slots ++ more
    pub slots_fit : FitBefore point → list_all (slot_fits setting) more ≡ true
    pub loops_count : counts_from point.loops loops ≡ true
    pub loops_all : after.loops ≡ point.loops + length loops
    pub few : length more + nodes ≤ written
    pub fits : IsPrefix after.slots → MeansHere point.names → test ≡ true
    pub names : IsPrefix after.slots → MeansHere point.names → MeansHere after.names

  abbrev pub IsWellFormedStatement : Point → ℕ → Point × Statement → Type 0
  IsWellFormedStatement point written done =
      Kept point done.0 (statement_fits program procedure done.1) (statement_loops done.1) (statement_nodes done.1) written

  abbrev pub IsWellFormedBlock : Point → ℕ → Point × Block → Type 0
  IsWellFormedBlock point written done = Kept point done.0 (block_fits program procedure done.1) (block_loops done.1) (block_nodes done.1) written

  abbrev pub AreWellFormedHandlers : Point → ℕ → Point × Handlers → Type 0
  AreWellFormedHandlers point written done =
      Kept point done.0 (handlers_fit program procedure done.1) (handlers_loops done.1) (handlers_nodes done.1) written

  pub prefix_before : (slots more after : List SlotEntry) → after ≡ slots ++ more → IsPrefix after → IsPrefix slots
  prefix_before slots more after e is =
      let (rest, same) = is in
      (more ++ rest, same ∙ ap (λ one. one ++ rest) e ∙ append_assoc slots more rest)

  -- the slot of a local
  pub local_there : (slots : List SlotEntry) (slot : SlotEntry) → IsPrefix (slots ++ slot ∷ [])
      → variable_type program procedure (Local (length slots)) ≡ Some (record { base = slot.base; size = slot.size })
  local_there slots slot is =
      let (rest, same) = is in
      ap slot_type (ap (λ one. slice_get one (length slots)) same ∙ at_end slots slot rest)

  nothing_keeps : (point : Point) → Kept point point true [] 0 0
  nothing_keeps point = record {
    more = [];
    slots = sym (append-nil point.slots);
    slots_fit = λ before. refl;
    loops_count = refl;
    loops_all = omega arith;
    few = omega arith;
    fits = λ is means. refl;
    names = λ is means. means;
  }

  then_keeps : {p q r : Point} {s t : Bool} {k l : List ℕ} {m n v w : ℕ} → Kept p q s k m v → Kept q r t l n w → Kept p r (s && t) (k ++ l) (m + n) (v + w)
  then_keeps {p = p} {q = q} {r = r} {s = s} {t = t} {k = k} {l = l} first second = record {
    more = first.more ++ second.more;
    slots = second.slots ∙ ap (λ one. one ++ second.more) first.slots ∙ append_assoc p.slots first.more second.more;
    slots_fit =
        λ before. let between : list_all (slot_fits setting) q.slots ≡ true =
        ap (list_all (slot_fits setting)) first.slots ∙ list_all-append (slot_fits setting) p.slots first.more
        ∙ and_from (list_all (slot_fits setting) p.slots) (list_all (slot_fits setting) first.more) before.1 (first.slots_fit before) in
        list_all-append (slot_fits setting) first.more second.more
        ∙ and_from (list_all (slot_fits setting) first.more) (list_all (slot_fits setting) second.more) (first.slots_fit before) (second.slots_fit (before.0, between));
    loops_count = counts_both p.loops k l first.loops_count (subst (λ one. counts_from one l ≡ true) first.loops_all second.loops_count);
    loops_all = omega (arith, first.loops_all, second.loops_all, length-append k l);
    few = omega (arith, first.few, second.few, length-append first.more second.more);
    fits =
        λ is means. let before = prefix_before q.slots second.more r.slots second.slots is in
        and_from s t (first.fits before means) (second.fits is (first.names before means));
    names =
        λ is means. second.names is (first.names (prefix_before q.slots second.more r.slots second.slots is) means);
  }

  -- the same with a test of what is in scope before
  test_keeps : {p q : Point} {t : Bool} {l : List ℕ} {n w : ℕ} (test : Bool) → (MeansHere p.names → test ≡ true) → Kept p q t l n w → Kept p q (test && t) l n w
  test_keeps {t = t} test passes kept = record {
    more = kept.more;
    slots = kept.slots;
    slots_fit = kept.slots_fit;
    loops_count = kept.loops_count;
    loops_all = kept.loops_all;
    few = kept.few;
    fits = λ is means. and_from test t (passes means) (kept.fits is means);
    names = kept.names;
  }

  -- and with more nodes on both sides
  weigh : {p q : Point} {t : Bool} {l : List ℕ} {n w : ℕ} (m v : ℕ) → m + w ≤ n + v → Kept p q t l n w → Kept p q t l m v
  weigh m v more kept = record {
    more = kept.more;
    slots = kept.slots;
    slots_fit = kept.slots_fit;
    loops_count = kept.loops_count;
    loops_all = kept.loops_all;
    few = omega (arith, kept.few, more);
    fits = kept.fits;
    names = kept.names;
  }

  -- ---- arguments

  -- arguments of these types, in their order
  abbrev match_bases : List BaseType → List Expression → Bool
  match_bases [] [] = true
  match_bases [] (e ∷ rest) = false
  match_bases (base ∷ bases) [] = false
  match_bases (base ∷ bases) (e ∷ rest) = has_base program procedure base e && match_bases bases rest

  matches_parameters : (parameters : List SlotEntry) (arguments : List Expression) → match_bases (map slot_base parameters) arguments ≡ true
      → arguments_match program procedure parameters arguments ≡ true
  matches_parameters [] [] e = refl
  matches_parameters [] (argument ∷ rest) e = e
  matches_parameters (parameter ∷ parameters) [] e = e
  matches_parameters (parameter ∷ parameters) (argument ∷ rest) e =
      let parts = and_parts (has_base program procedure parameter.base argument) (match_bases (map slot_base parameters) rest) e in
      and_from (has_base program procedure parameter.base argument) (arguments_match program procedure parameters rest) parts.0
      (matches_parameters parameters rest parts.1)

  match_push : (bases : List BaseType) (found : List Expression) (base : BaseType) (e : Expression) → match_bases bases found ≡ true
      → has_base program procedure base e ≡ true → match_bases (bases ++ base ∷ []) (found ++ e ∷ []) ≡ true
  match_push [] [] base e matched has = and_from (has_base program procedure base e) true has refl
  match_push [] (x ∷ found) base e matched has = cc
  match_push (b ∷ bases) [] base e matched has = cc
  match_push (b ∷ bases) (x ∷ found) base e matched has =
      let parts = and_parts (has_base program procedure b x) (match_bases bases found) matched in
      and_from (has_base program procedure b x) (match_bases (bases ++ base ∷ []) (found ++ e ∷ [])) parts.0
      (match_push bases found base e parts.1 has)

  record AreWellFormedArguments (names : Environment) (bases : List BaseType) (written : ℕ) (found : List Expression) : Type 0 where
    pub fit : MeansHere names → match_bases bases found ≡ true
    pub long : length bases ≡ length found
    pub few : sum_by expression_nodes found ≤ written

  module _ (placed : ℕ → Type 0) (word : List ℕ → Type 0) where
    arguments_keep : (names : Environment) (parameters bases rest : List BaseType) (found : List Expression) (arguments : List ExpressionTree) (before : ℕ)
        → parameters ≡ bases ++ rest → AreWellFormedArguments names bases before found → length rest ≡ length arguments
        → All (IsWrittenExpression placed word IsInteger) arguments
        → IfOk (along (next_argument names parameters) found arguments)
        (AreWellFormedArguments names parameters (before + sum_by tree.expression_nodes arguments))
    arguments_keep names parameters bases [] found [] before e kept long all =
        subst (λ one. AreWellFormedArguments names one (before + 0) found) (sym (e ∙ append-nil bases))
        (record { fit = kept.fit; long = kept.long; few = omega (arith, kept.few) })
    arguments_keep names parameters bases [] found (argument ∷ arguments) before e kept long all = absurd (cc)
    arguments_keep names parameters bases (base ∷ rest) found [] before e kept long all = absurd (cc)
    arguments_keep names parameters bases (base ∷ rest) found (argument ∷ arguments) before e kept long all =
        let wanted = slice_index_or parameters (length found) Int in
        let same : wanted ≡ base = ap (λ one. slice_index_or one (length found) Int) e ∙ index_end bases base rest (length found) Int kept.long in
        then_finds (next_argument names parameters found argument) (λ next. along (next_argument names parameters) next arguments)
        (AreWellFormedArguments names (bases ++ base ∷ []) (before + tree.expression_nodes argument)) _
        (then_finds (typed_finding names wanted argument) _ (HasBase names wanted (tree.expression_nodes argument)) _
        (typed_keeps program procedure setting.signatures placed word names wanted argument (All-head (IsWrittenExpression placed word IsInteger) argument arguments all))
        (λ e kept_e. record {
          fit =
              λ means. match_push bases found base e (kept.fit means)
              (subst (λ one. has_base program procedure one e ≡ true) same (kept_e.fits means));
          long = omega (arith, length-append bases (base ∷ []), length-append found (e ∷ []), kept.long);
          few = omega (arith, sum_by_push expression_nodes found e, kept.few, kept_e.few);
        }))
        (λ next kept_next.
        IfOk-weaker (along (next_argument names parameters) next arguments)
        (AreWellFormedArguments names parameters (before + tree.expression_nodes argument + sum_by tree.expression_nodes arguments))
        (AreWellFormedArguments names parameters (before + sum_by tree.expression_nodes (argument ∷ arguments)))
        (λ made kept_made. record {
          fit = kept_made.fit;
          long = kept_made.long;
          few = omega (arith, kept_made.few, sum_by-cons tree.expression_nodes argument arguments);
        })
        (arguments_keep names parameters (bases ++ base ∷ []) rest next arguments (before + tree.expression_nodes argument)
        (e ∙ sym (append_assoc bases (base ∷ []) rest)) kept_next (omega (arith, long))
        (All-tail (IsWrittenExpression placed word IsInteger) argument arguments all)))

    -- ---- calls

    -- the procedure is there, and takes these arguments
    abbrev CalledThere : CallUse → Type 0
    CalledThere made =
        (callee : ProcedureEntry) × (slice_get program.procedures made.0 ≡ Some callee)
        × (arguments_match program procedure (parameters_of callee) made.1 ≡ true) × (given_base callee.result ≡ made.2)

    record IsWellFormedCall (names : Environment) (written : ℕ) (made : CallUse) : Type 0 where
      pub there : MeansHere names → CalledThere made
      pub few : 2 + sum_by expression_nodes made.1 ≤ written

    call_keeps : (names : Environment) (call : CallTree) → IsWrittenCall placed word IsInteger call
        → IfOk (call_finding setting.signatures names call) (IsWellFormedCall names (tree.call_nodes call))
    unfolding call_finding
    call_keeps names call written =
        then_finds (use_as (item_of Procedure) (names call.0.text) call.0.at) _
        (λ number. MeansHere names → Stands program procedure setting.signatures (meanings.Item Procedure number)) _
        (item_found program procedure setting.signatures Procedure names call.0) (λ number stands.
        let signature = signature_at setting.signatures number in
        then_finds (require (length signature.parameters == length call.1) _ call.0.at) _
        (λ one. (length signature.parameters == length call.1) ≡ true) _
        (require_finds (length signature.parameters == length call.1) _ call.0.at) (λ one same.
        then_finds (along (next_argument names signature.parameters) [] call.1) _
        (AreWellFormedArguments names signature.parameters (0 + sum_by tree.expression_nodes call.1)) _
        (arguments_keep names signature.parameters [] signature.parameters [] call.1 0 refl
        (record { fit = λ means. refl; long = refl; few = omega arith }) (eqb-true (length signature.parameters) (length call.1) same) written.1)
        (λ arguments kept. record {
          there =
              λ means. let (callee, found, signed) = stands means in (
                callee,
                found,
                matches_parameters (parameters_of callee) arguments
                    (subst (λ bases. match_bases bases arguments ≡ true) (sym signed.parameters) (kept.fit means)),
                signed.value,
              );
          few = omega (arith, kept.few);
        })))

    -- ---- statements that hold no others

    -- a statement that fits where names mean what they do, and that has no loop
    record IsWellFormedPlain (names : Environment) (nodes : ℕ) (statement : Statement) : Type 0 where
      pub fits : MeansHere names → statement_fits program procedure statement ≡ true
      pub no_loops : statement_loops statement ≡ []
      pub few : statement_nodes statement ≤ nodes

    -- the same of one with a target of a base type
    record IsWellFormedAssigned (names : Environment) (target : Variable) (base : BaseType) (nodes : ℕ) (statement : Statement) : Type 0 where
      pub fits : MeansHere names → variable_type program procedure target ≡ scalar_type base → statement_fits program procedure statement ≡ true
      pub no_loops : statement_loops statement ≡ []
      pub few : statement_nodes statement ≤ nodes

    scalar_passes : (x : Variable) (base : BaseType) (test : BaseType → Bool) → variable_type program procedure x ≡ scalar_type base → test base ≡ true
        → scalar_by (variable_type program procedure x) test ≡ true
    scalar_passes x base test e passed = subst (λ one. scalar_by one test ≡ true) (sym e) passed

    array_passes : (x : Variable) (base : BaseType) (size : ℕ) (test : BaseType → Bool) → variable_type program procedure x ≡ array_type base size → test base ≡ true
        → array_by (variable_type program procedure x) size test ≡ true
    array_passes x base size test e passed =
        subst (λ one. array_by one size test ≡ true) (sym e) (and_from (size == size) (test base) (eq-eqb size size refl) passed)

    gives_value : (given : Option ResultEntry) (base : BaseType) → gives_base base (given_base given) ≡ true → has_result given (same_base base) ≡ true
    gives_value None base e = e
    gives_value (Some entry) base e = e

    call_passes : (made : CallUse) (target : Option Variable) → CalledThere made
        → ((callee : ProcedureEntry) → given_base callee.result ≡ made.2 → target_by program procedure target (λ base. has_result callee.result (same_base base)) ≡ true)
        → call_matches program procedure (slice_get program.procedures made.0) made.1 target ≡ true
    call_passes made target there takes =
        let (callee, found, matched, given) = there in
        subst (λ one. call_matches program procedure one made.1 target ≡ true) (sym found)
        (and_from (arguments_match program procedure (parameters_of callee) made.1)
        (target_by program procedure target (λ base. has_result callee.result (same_base base))) matched (takes callee given))

    assigned_keeps : (names : Environment) (at : ℕ) (target : Variable) (base : BaseType) (right : RightTree) → IsWrittenRight placed word IsInteger right
        → IfOk (assigned_finding setting.signatures names at target base right) (IsWellFormedAssigned names target base (1 + tree.right_nodes right))
    unfolding assigned_finding
    assigned_keeps names at target base (ReceivedTree receive_at channel) written =
        then_finds (require (same_base Int base) _ receive_at) _ (λ one. same_base Int base ≡ true) _ (require_finds (same_base Int base) _ receive_at) (λ one same.
        then_finds (use_as (item_of (Channel directions.Input)) (names channel.text) channel.at) _
        (λ number. MeansHere names → Stands program procedure setting.signatures (meanings.Item (Channel directions.Input) number)) _
        (item_found program procedure setting.signatures (Channel directions.Input) names channel) (λ number stands. record {
          fits =
              λ means e. and_from (channel_is (slice_get program.channels number) directions.Input)
              (scalar_by (variable_type program procedure target) (same_base Int)) (stands means) (scalar_passes target base (same_base Int) e same);
          no_loops = refl;
          few = omega arith;
        }))
    assigned_keeps names at target base (CalledTree call) written =
        then_finds (call_finding setting.signatures names call) _ (IsWellFormedCall names (tree.call_nodes call)) _ (call_keeps names call written) (λ made kept.
        if_finds (gives_base base made.2) (Placed at (Call made.0 made.1 (Some target))) _ call.0.at _ (λ given. record {
          fits =
              λ means e. call_passes made (Some target) (kept.there means) (λ callee same.
              scalar_passes target base (λ base. has_result callee.result (same_base base)) e
              (gives_value callee.result base (subst (λ one. gives_base base one ≡ true) (sym same) given)));
          no_loops = refl;
          few = omega (arith, kept.few);
        }))
    assigned_keeps names at target base (ValueTree value) written =
        then_finds (typed_finding names base value) _ (HasBase names base (tree.expression_nodes value)) _
        (typed_keeps program procedure setting.signatures placed word names base value written) (λ e kept. record {
          fits = λ means same. scalar_passes target base (λ base. has_base program procedure base e) same (kept.fits means);
          no_loops = refl;
          few = omega (arith, kept.few);
        })

    plain_keeps : (point : Point) (nodes : ℕ) (statement : Statement) → IsWellFormedPlain point.names nodes statement → IsWellFormedStatement point nodes (point, statement)
    plain_keeps point nodes statement kept = record {
      more = [];
      slots = sym (append-nil point.slots);
      slots_fit = λ before. refl;
      loops_count = subst (λ loops. counts_from point.loops loops ≡ true) (sym kept.no_loops) refl;
      loops_all =
          let none : length (statement_loops statement) ≡ 0 = ap length kept.no_loops in
          omega (arith, none);
      few = omega (arith, kept.few);
      fits = λ is means. kept.fits means;
      names = λ is means. means;
    }

    assign_keeps : (point : Point) (target : NameTree) (right : RightTree) → IsWrittenRight placed word IsInteger right
        → IfOk (statement_finding setting point (AssignTree target right)) (IsWellFormedStatement point (2 + tree.right_nodes right))
    unfolding statement_finding
    assign_keeps point target right written =
        then_finds (use_as scalar_of (point.names target.text) target.at) _
        (λ (x : Variable × BaseType). MeansHere point.names → variable_type program procedure x.0 ≡ scalar_type x.1) _
        (scalar_found program procedure setting.signatures point.names target) (λ x stands.
        then_finds (assigned_finding setting.signatures point.names target.at x.0 x.1 right) _
        (IsWellFormedAssigned point.names x.0 x.1 (1 + tree.right_nodes right)) _
        (assigned_keeps point.names target.at x.0 x.1 right written) (λ statement kept.
        plain_keeps point (2 + tree.right_nodes right) statement (record {
          fits = λ means. kept.fits means (stands means);
          no_loops = kept.no_loops;
          few = omega (arith, kept.few);
        })))

    store_keeps : (point : Point) (array : NameTree) (index right : ExpressionTree) → IsWrittenExpression placed word IsInteger index
        → IsWrittenExpression placed word IsInteger right
        → IfOk (statement_finding setting point (AssignElementTree array index right))
        (IsWellFormedStatement point (2 + (tree.expression_nodes index + tree.expression_nodes right)))
    unfolding statement_finding
    store_keeps point array index right index_written right_written =
        then_finds (use_as array_of (point.names array.text) array.at) _
        (λ (a : Variable × BaseType × ℕ). MeansHere point.names → variable_type program procedure a.0 ≡ array_type a.1 a.2) _
        (array_found program procedure setting.signatures point.names array) (λ a stands.
        then_finds (typed_finding point.names Int index) _ (HasBase point.names Int (tree.expression_nodes index)) _
        (typed_keeps program procedure setting.signatures placed word point.names Int index index_written) (λ i kept_i.
        then_finds (typed_finding point.names a.1 right) _ (HasBase point.names a.1 (tree.expression_nodes right)) _
        (typed_keeps program procedure setting.signatures placed word point.names a.1 right right_written) (λ e kept_e.
        plain_keeps point (2 + (tree.expression_nodes index + tree.expression_nodes right)) (Placed array.at (Store a.0 a.2 i e)) (record {
          fits =
              λ means. and_from (array_by (variable_type program procedure a.0) a.2 (λ base. has_base program procedure base e)) (has_base program procedure Int i)
              (array_passes a.0 a.1 a.2 (λ base. has_base program procedure base e) (stands means) (kept_e.fits means)) (kept_i.fits means);
          no_loops = refl;
          few = omega (arith, kept_i.few, kept_e.few);
        }))))

    call_statement_keeps : (point : Point) (call : CallTree) → IsWrittenCall placed word IsInteger call
        → IfOk (statement_finding setting point (CallTree' call)) (IsWellFormedStatement point (1 + tree.call_nodes call))
    unfolding statement_finding
    call_statement_keeps point call written =
        then_finds (call_finding setting.signatures point.names call) _ (IsWellFormedCall point.names (tree.call_nodes call)) _
        (call_keeps point.names call written) (λ made kept.
        plain_keeps point (1 + tree.call_nodes call) (Placed call.0.at (Call made.0 made.1 None)) (record {
          fits = λ means. call_passes made None (kept.there means) (λ callee same. refl);
          no_loops = refl;
          few = omega (arith, kept.few);
        }))

    receive_keeps : (point : Point) (at : ℕ) (channel : NameTree)
        → IfOk (statement_finding setting point (ReceiveTree at channel)) (IsWellFormedStatement point 2)
    unfolding statement_finding
    receive_keeps point at channel =
        then_finds (use_as (item_of (Channel directions.Input)) (point.names channel.text) channel.at) _
        (λ number. MeansHere point.names → Stands program procedure setting.signatures (meanings.Item (Channel directions.Input) number)) _
        (item_found program procedure setting.signatures (Channel directions.Input) point.names channel) (λ number stands.
        plain_keeps point 2 (Placed at (Receive number None)) (record {
          fits = λ means. and_from (channel_is (slice_get program.channels number) directions.Input) true (stands means) refl;
          no_loops = refl;
          few = omega arith;
        }))

    send_keeps : (point : Point) (at : ℕ) (channel : NameTree) (right : ExpressionTree) → IsWrittenExpression placed word IsInteger right
        → IfOk (statement_finding setting point (SendTree at channel right)) (IsWellFormedStatement point (2 + tree.expression_nodes right))
    unfolding statement_finding
    send_keeps point at channel right written =
        then_finds (use_as (item_of (Channel directions.Output)) (point.names channel.text) channel.at) _
        (λ number. MeansHere point.names → Stands program procedure setting.signatures (meanings.Item (Channel directions.Output) number)) _
        (item_found program procedure setting.signatures (Channel directions.Output) point.names channel) (λ number stands.
        then_finds (typed_finding point.names Int right) _ (HasBase point.names Int (tree.expression_nodes right)) _
        (typed_keeps program procedure setting.signatures placed word point.names Int right written) (λ e kept.
        plain_keeps point (2 + tree.expression_nodes right) (Placed at (Send number e)) (record {
          fits =
              λ means. and_from (channel_is (slice_get program.channels number) directions.Output) (has_base program procedure Int e)
              (stands means) (kept.fits means);
          no_loops = refl;
          few = omega (arith, kept.few);
        })))

    throw_keeps : (point : Point) (at : ℕ) (exception : NameTree)
        → IfOk (statement_finding setting point (ThrowTree at exception)) (IsWellFormedStatement point 2)
    unfolding statement_finding
    throw_keeps point at exception =
        then_finds (use_as (item_of Exception) (point.names exception.text) exception.at) _
        (λ number. MeansHere point.names → Stands program procedure setting.signatures (meanings.Item Exception number)) _
        (item_found program procedure setting.signatures Exception point.names exception) (λ number stands.
        plain_keeps point 2 (Placed at (Leave (exits.Throw number))) (record { fits = stands; no_loops = refl; few = omega arith }))

    module _ (value : given_base procedure.result ≡ setting.result) where
      no_value : (entry : Option ResultEntry) → is_none (given_base entry) ≡ true → is_none entry ≡ true
      no_value None e = refl
      no_value (Some entry) e = e

      returns_value : (entry : Option ResultEntry) (base : BaseType) (e : Expression) → gives_base base (given_base entry) ≡ true
          → has_base program procedure base e ≡ true → has_result entry (λ base. has_base program procedure base e) ≡ true
      returns_value None base e given fits = given
      returns_value (Some entry) base e given fits = subst (λ one. has_base program procedure one e ≡ true) (same_base_is base entry.base given) fits

      return_keeps : (point : Point) (at : ℕ) (right : Option ExpressionTree) → IsWrittenOptionalExpression placed word IsInteger right
          → IfOk (statement_finding setting point (ReturnTree at right)) (IsWellFormedStatement point (1 + tree.optional_expression_nodes right))
      unfolding statement_finding
      return_keeps point at None written =
          if_finds (is_none setting.result) (point, Placed at (ReturnWith None)) _ at _ (λ none. plain_keeps point 1 (Placed at (ReturnWith None)) (record {
            fits = λ means. no_value procedure.result (subst (λ one. is_none one ≡ true) (sym value) none);
            no_loops = refl;
            few = omega arith;
          }))
      return_keeps point at (Some right) written =
          then_finds (expression_finding point.names right) _ (IsWellFormedExpression program procedure setting.signatures point.names (tree.expression_nodes right)) _
          (expression_keeps program procedure setting.signatures placed word point.names right written)
          (λ found kept. if_finds (gives_base found.1 setting.result) (point, Placed at (ReturnWith (Some found.0))) _ (expression_at right) _ (λ given.
          plain_keeps point (1 + tree.optional_expression_nodes (Some right)) (Placed at (ReturnWith (Some found.0))) (record {
            fits = λ means. returns_value procedure.result found.1 found.0 (subst (λ one. gives_base found.1 one ≡ true) (sym value) given) (kept.fits means);
            no_loops = refl;
            few = omega (arith, kept.few);
          })))

      -- ---- declarations

      local_label_there : (point : Point) (label : Option LabelTree)
          → IfOk (optional_label_finding (label_scope setting point) label) (λ found. FitBefore point → written_fits setting.outer.hierarchy found ≡ true)
      local_label_there point label =
          finds_for_all (optional_label_finding (label_scope setting point) label) (λ (before : FitBefore point) found. written_fits setting.outer.hierarchy found ≡ true)
          (λ before. optional_label_there (label_scope setting point) before.0 (written_fit point.slots before.1) label)

      -- the point after a declaration has one slot more, of which the label fits
      record IsDeclared (point : Point) (at : ℕ) (base : BaseType) (name : NameTree) (size : Option ℕ) (next : Point) : Type 0 where
        pub written : Option Label
        pub next_is : next ≡ with_local point (slot_of at base written name.text size)
        pub there : FitBefore point → written_fits setting.outer.hierarchy written ≡ true

      declared_there : (point : Point) (at : ℕ) (base : BaseType) (label : Option LabelTree) (name : NameTree) (size : Option ℕ)
          → IfOk (declared_finding (label_scope setting point) point at base label name size) (IsDeclared point at base name size)
      unfolding declared_finding
      declared_there point at base label name size =
          then_finds (optional_label_finding (label_scope setting point) label) _ (λ found. FitBefore point → written_fits setting.outer.hierarchy found ≡ true) _
          (local_label_there point label) (λ written there.
          then_finds (fresh_finding (point.names name.text) name.at) _ (λ one. Unit {0}) _ (any_finds (fresh_finding (point.names name.text) name.at))
          (λ one nothing. record { written = written; next_is = refl; there = there }))

      declare_keeps : (point : Point) (at : ℕ) (base : BaseType) (label : Option LabelTree) (name : NameTree) (right : RightTree) → IsWrittenRight placed word IsInteger right
          → IfOk (declare_finding setting point at base label name right) (IsWellFormedStatement point (2 + (tree.optional_label_nodes label + tree.right_nodes right)))
      unfolding statement_finding
      declare_keeps point at base label name right written_right =
          let target = Local (length point.slots) in
          then_finds (declared_finding (label_scope setting point) point at base label name None) _ (IsDeclared point at base name None) _
          (declared_there point at base label name None) (λ after declared.
          then_finds (assigned_finding setting.signatures point.names at target base right) _ (IsWellFormedAssigned point.names target base (1 + tree.right_nodes right)) _
          (assigned_keeps point.names at target base right written_right) (λ statement kept.
          let slot = slot_of at base declared.written name.text None in
          let there = declared.there in
          subst (λ next. IsWellFormedStatement point (2 + (tree.optional_label_nodes label + tree.right_nodes right)) (next, statement)) (sym declared.next_is) (record {
            more = slot ∷ [];
            slots = refl;
            slots_fit = λ before. and_from (slot_fits setting slot) true (there before) refl;
            loops_count = subst (λ loops. counts_from point.loops loops ≡ true) (sym kept.no_loops) refl;
            loops_all =
                let none : length (statement_loops statement) ≡ 0 = ap length kept.no_loops in
                omega (arith, none);
            few = omega (arith, kept.few);
            fits = λ is means. kept.fits means (local_there point.slots slot is);
            names =
                λ is means. means_declaring program procedure setting.signatures name.text (meanings.Variable target base None) point.names
                (local_there point.slots slot is) means;
          })))

      declare_array_keeps : (point : Point) (at : ℕ) (base : BaseType) (label : Option LabelTree) (name : NameTree) (size : SizeTree)
          → IfOk (declare_array_finding setting point at base label name size) (IsWellFormedStatement point (3 + tree.optional_label_nodes label))
      unfolding statement_finding size_finding
      declare_array_keeps point at base label name size =
          let target = Local (length point.slots) in
          then_finds (declared_finding (label_scope setting point) point at base label name (Some size.1)) _ (IsDeclared point at base name (Some size.1)) _
          (declared_there point at base label name (Some size.1)) (λ after declared.
          then_finds (size_finding size) _ (λ found. size_fits (Some size.1) ≡ true) _
          (if_finds (nat_lt 0 size.1 && nat_le size.1 MAX_ELEMENTS) size.1 _ size.0 _ (λ fit. fit)) (λ found fit.
          let slot = slot_of at base declared.written name.text (Some size.1) in
          let there = declared.there in
          subst (λ next. IsWellFormedStatement point (3 + tree.optional_label_nodes label) (next, Placed at (Clear (length point.slots)))) (sym declared.next_is) (record {
            more = slot ∷ [];
            slots = refl;
            slots_fit =
                λ before. and_from (slot_fits setting slot) true (and_from (size_fits (Some size.1)) (written_fits setting.outer.hierarchy declared.written) fit (there before)) refl;
            loops_count = refl;
            loops_all = omega arith;
            few = omega arith;
            fits = λ is means. subst (λ one. is_array one ≡ true) (sym (local_there point.slots slot is)) refl;
            names =
                λ is means. means_declaring program procedure setting.signatures name.text (meanings.Variable target base (Some size.1)) point.names
                (local_there point.slots slot is) means;
          })))

      -- ---- statements that hold others

      if_keeps : (point : Point) (at nodes others : ℕ) (e : Expression) (condition : ℕ) → HasBase point.names Boolean condition e
          → (done : Point × Block) → IsWellFormedBlock point nodes done → (other : Point × Block) → IsWellFormedBlock done.0 others other
          → IsWellFormedStatement point (1 + (condition + (nodes + others))) (other.0, Placed at (If e done.1 other.1))
      if_keeps point at nodes others e condition kept_e done kept other kept_other =
          weigh (statement_nodes (Placed at (If e done.1 other.1))) (1 + (condition + (nodes + others))) (omega (arith, kept_e.few))
          (then_keeps (test_keeps (has_base program procedure Boolean e) kept_e.fits kept) kept_other)

      while_keeps : (point : Point) (at nodes : ℕ) (e : Expression) (condition : ℕ) → HasBase point.names Boolean condition e
          → (done : Point × Block) → IsWellFormedBlock (record point { loops = point.loops + 1 }) nodes done → IsWellFormedStatement point (1 + (condition + nodes)) (done.0, Placed at (While point.loops e done.1))
      while_keeps point at nodes e condition kept_e done kept =
          let next : point.loops + 1 ≡ suc point.loops = omega arith in
          record {
            more = kept.more;
            slots = kept.slots;
            slots_fit = kept.slots_fit;
            loops_count =
                and_from (point.loops == point.loops) (counts_from (suc point.loops) (block_loops done.1)) (eq-eqb point.loops point.loops refl)
                (subst (λ one. counts_from one (block_loops done.1) ≡ true) next kept.loops_count);
            loops_all = omega (arith, kept.loops_all);
            few = omega (arith, kept.few, kept_e.few);
            fits =
                λ is means. and_from (has_base program procedure Boolean e) (block_fits program procedure done.1) (kept_e.fits means)
                (kept.fits is means);
            names = kept.names;
          }

      try_keeps : (point : Point) (at nodes others : ℕ) (done : Point × Block) → IsWellFormedBlock point nodes done
          → (handled : Point × Handlers) → AreWellFormedHandlers done.0 others handled → IsWellFormedStatement point (1 + (nodes + others)) (handled.0, Placed at (Try done.1 handled.1))
      try_keeps point at nodes others done kept handled kept_handlers =
          weigh (statement_nodes (Placed at (Try done.1 handled.1))) (1 + (nodes + others)) (omega arith) (then_keeps kept kept_handlers)

      nested_keeps : (point : Point) (at nodes : ℕ) (done : Point × Block) → IsWellFormedBlock point nodes done
          → IsWellFormedStatement point (1 + nodes) (done.0, Placed at (Nested done.1))
      nested_keeps point at nodes done kept = weigh (statement_nodes (Placed at (Nested done.1))) (1 + nodes) (omega arith) kept

      after_keeps : (point : Point) (nodes : ℕ) (done : Point × Block) → IsWellFormedBlock point nodes done
          → IsWellFormedBlock point (1 + nodes) (after_block point done.0, done.1)
      after_keeps point nodes done kept = record {
        more = kept.more;
        slots = kept.slots;
        slots_fit = kept.slots_fit;
        loops_count = kept.loops_count;
        loops_all = kept.loops_all;
        few = omega (arith, kept.few);
        fits = kept.fits;
        names = λ is means. means;
      }

      catch_keeps : (point : Point) (at number nodes others : ℕ) → (MeansHere point.names → is_exception program number ≡ true)
          → (done : Point × Block) → IsWellFormedBlock point nodes done → (rest : Point × Handlers) → AreWellFormedHandlers done.0 others rest
          → AreWellFormedHandlers point (2 + (nodes + others)) (rest.0, Catch at number done.1 rest.1)
      catch_keeps point at number nodes others there done kept rest kept_rest =
          weigh (handlers_nodes (Catch at number done.1 rest.1)) (2 + (nodes + others)) (omega arith)
          (then_keeps (test_keeps (is_exception program number) there kept) kept_rest)

      mutual
        unfolding statement_finding block_finding statements_finding catches_finding

        pub statement_keeps : (point : Point) (written : StatementTree) → IsWrittenStatement placed word IsInteger written
            → IfOk (statement_finding setting point written) (IsWellFormedStatement point (tree.statement_nodes written))
        statement_keeps point (DeclareTree at base label name right) is = declare_keeps point at base label name right is.3
        statement_keeps point (DeclareArrayTree at base label name size) is = declare_array_keeps point at base label name size
        statement_keeps point (AssignTree target right) is = assign_keeps point target right is.1
        statement_keeps point (AssignElementTree array index right) is = store_keeps point array index right is.1 is.2
        statement_keeps point (CallTree' call) is = call_statement_keeps point call is
        statement_keeps point (ReceiveTree at channel) is = receive_keeps point at channel
        statement_keeps point (SendTree at channel right) is = send_keeps point at channel right is.2
        statement_keeps point (IfTree at condition body otherwise) is =
            then_finds (typed_finding point.names Boolean condition) _ (HasBase point.names Boolean (tree.expression_nodes condition)) _
            (typed_keeps program procedure setting.signatures placed word point.names Boolean condition is.1) (λ e kept_e.
            then_finds (block_finding setting point body) _ (IsWellFormedBlock point (tree.block_nodes body)) _ (block_keeps point body is.2) (λ done kept.
            then_finds (block_finding setting done.0 otherwise) _ (IsWellFormedBlock done.0 (tree.block_nodes otherwise)) _ (block_keeps done.0 otherwise is.3)
            (λ other kept_other.
            if_keeps point at (tree.block_nodes body) (tree.block_nodes otherwise) e (tree.expression_nodes condition) kept_e done kept other kept_other)))
        statement_keeps point (WhileTree at condition body) is =
            then_finds (typed_finding point.names Boolean condition) _ (HasBase point.names Boolean (tree.expression_nodes condition)) _
            (typed_keeps program procedure setting.signatures placed word point.names Boolean condition is.1) (λ e kept_e.
            then_finds (block_finding setting (record point { loops = point.loops + 1 }) body) _ (IsWellFormedBlock (record point { loops = point.loops + 1 }) (tree.block_nodes body)) _ (block_keeps (record point { loops = point.loops + 1 }) body is.2)
            (λ done kept. while_keeps point at (tree.block_nodes body) e (tree.expression_nodes condition) kept_e done kept))
        statement_keeps point (BreakTree at) is = plain_keeps point 1 (Placed at (Leave exits.Break)) (record { fits = λ means. refl; no_loops = refl; few = omega arith })
        statement_keeps point (ContinueTree at) is = plain_keeps point 1 (Placed at (Leave exits.Continue)) (record { fits = λ means. refl; no_loops = refl; few = omega arith })
        statement_keeps point (ThrowTree at exception) is = throw_keeps point at exception
        statement_keeps point (ReturnTree at right) is = return_keeps point at right is.1
        statement_keeps point (TryTree at body catches) is =
            then_finds (block_finding setting point body) _ (IsWellFormedBlock point (tree.block_nodes body)) _ (block_keeps point body is.1) (λ done kept.
            then_finds (catches_finding setting done.0 catches) _ (AreWellFormedHandlers done.0 (tree.catches_nodes catches)) _ (catches_keep done.0 catches is.2)
            (λ handled kept_handlers. try_keeps point at (tree.block_nodes body) (tree.catches_nodes catches) done kept handled kept_handlers))
        statement_keeps point (NestedTree (BlockOf at statements)) is =
            then_finds (block_finding setting point (BlockOf at statements)) _ (IsWellFormedBlock point (tree.block_nodes (BlockOf at statements))) _
            (block_keeps point (BlockOf at statements) is)
            (λ done kept. nested_keeps point at (tree.block_nodes (BlockOf at statements)) done kept)

        pub block_keeps : (point : Point) (written : BlockTree) → IsWrittenBlock placed word IsInteger written
            → IfOk (block_finding setting point written) (IsWellFormedBlock point (tree.block_nodes written))
        block_keeps point (BlockOf at statements) is =
            then_finds (statements_finding setting point statements) _ (IsWellFormedBlock point (tree.statements_nodes statements)) _
            (statements_keep point statements is.1) (λ done kept. after_keeps point (tree.statements_nodes statements) done kept)

        statements_keep : (point : Point) (written : StatementTrees) → AreWrittenStatements placed word IsInteger written
            → IfOk (statements_finding setting point written) (IsWellFormedBlock point (tree.statements_nodes written))
        statements_keep point NoStatement is = nothing_keeps point
        statements_keep point (StatementThen statement rest) is =
            then_finds (statement_finding setting point statement) _ (IsWellFormedStatement point (tree.statement_nodes statement)) _
            (statement_keeps point statement is.0) (λ first kept.
            then_finds (statements_finding setting first.0 rest) _ (IsWellFormedBlock first.0 (tree.statements_nodes rest)) _
            (statements_keep first.0 rest is.1) (λ others kept_others. then_keeps kept kept_others))

        catches_keep : (point : Point) (written : CatchTrees) → AreWrittenCatches placed word IsInteger written
            → IfOk (catches_finding setting point written) (AreWellFormedHandlers point (tree.catches_nodes written))
        catches_keep point NoCatch is = nothing_keeps point
        catches_keep point (CatchThen at exception body rest) is =
            then_finds (use_as (item_of Exception) (point.names exception.text) exception.at) _
            (λ number. MeansHere point.names → Stands program procedure setting.signatures (meanings.Item Exception number)) _
            (item_found program procedure setting.signatures Exception point.names exception) (λ number there.
            then_finds (block_finding setting point body) _ (IsWellFormedBlock point (tree.block_nodes body)) _ (block_keeps point body is.2) (λ done kept.
            then_finds (catches_finding setting done.0 rest) _ (AreWellFormedHandlers done.0 (tree.catches_nodes rest)) _ (catches_keep done.0 rest is.3)
            (λ others kept_others.
            catch_keeps point exception.at number (tree.block_nodes body) (tree.catches_nodes rest) there done kept others kept_others)))
