-- The statements, procedures and programs that are found read as they are written.
use Rattle.std.proofs.Common.{◌+◌, ◌≡◌, refl, sym, ◌∙◌, ap, subst, ℕ, List, [], ◌∷◌, ◌++◌, map, length, append-nil, append_assoc}
use Rattle.std.specs.Prelude.{IfOk, Option, Some, None, not, codes, is_none}
use Rattle.std.proofs.lemmas.List.{length-map, map_push}
use Rattle.std.proofs.lemmas.Result.{IfOk-weaker}
use Rattle.principals.specs.ActsFor.{PrincipalHierarchy}
use Rattle.syntax.specs.Tree.{NameTree, LabelTree, ExpressionTree, RightTree, SizeTree, StatementTree, DeclareTree, DeclareArrayTree, AssignTree, AssignElementTree, CallTree', ReceiveTree, SendTree, IfTree, WhileTree, BreakTree, ContinueTree, ThrowTree, ReturnTree, TryTree, NestedTree, BlockTree, BlockOf, StatementTrees, NoStatement, StatementThen, CatchTrees, NoCatch, CatchThen, ParameterTree, ThrownTree, ProcedureTree, ItemTree, ChannelItem, ExceptionItem, GlobalItem, ProcedureItem, ProgramTree, expression_at}
use Rattle.common.specs.declared.base_type.BaseType.{BaseType}
use Rattle.resolved.specs.declared.expression.Variable.{Variable}
use Rattle.common.specs.declared.base_type.BaseType.TheVariants.{Int, Boolean}
use Rattle.resolved.specs.declared.expression.Variable.TheVariants.{Global, Local}
use Rattle.labels.specs.Channel.{ChannelContents}
use Rattle.resolved.specs.Program.{Program, GlobalEntry, SlotEntry, ThrownEntry, ProcedureEntry}
use Rattle.resolved.specs.Tree.{Statement, Placed, Clear, ReturnWith, Block, Handlers}
use Rattle.types.specs.declared.scope.Meaning.{Meaning}
use Rattle.common.specs.declared.direction.Direction.TheVariants as directions
use Rattle.types.specs.declared.scope.ItemKind.TheVariants.{Channel, Exception, Procedure}
use Rattle.types.specs.declared.scope.Meaning.TheVariants as meanings
use Rattle.common.specs.Results.{along}
use Rattle.types.specs.Finding.{give, require}
use Rattle.types.specs.Environment.{Environment, declaring, fresh_finding, use_as, scalar_of, array_of, item_of}
use Rattle.types.specs.Labels.{LabelScope, label_finding, optional_label_finding}
use Rattle.types.specs.Expressions.{Typed, expression_finding, typed_finding}
use Rattle.types.specs.Laws.{channel_names, global_names, MeaningHasName}
use Rattle.types.specs.Statements.{Signature, Setting, Point, label_scope, with_local, call_finding, assigned_finding, declare_finding, size_finding, declare_array_finding, gives_base, declared_finding, after_block, statement_finding, block_finding, statements_finding, catches_finding, slot_of}
use Rattle.types.specs.Views.{CallUse, setting_within, program_with}
use Rattle.types.proofs.NextItems.{next_channel, next_global}
use Rattle.types.specs.Resolution.{TopLevel, heads, result_finding, next_parameter, is_thrown, next_thrown, procedure_entry_finding, channel_finding, global_finding, next_item, main_finding, resolution, empty_program, next_name, built_in, next_frame, next_global_cells}
use Rattle.types.specs.ReadBack.{NameScope, top_scope, with_declared, leaving_block, IsChannel, IsException, IsProcedure, IsVariable, ReadsExpression, ReadsArguments, ReadsRight, ReadsStatement, ReadDeclare, ReadDeclareArray, ReadAssign, ReadStore, ReadCall, ReadReceive, ReadSend, ReadIf, ReadWhile, ReadBreak, ReadContinue, ReadThrow, ReadReturn, ReadReturnValue, ReadTry, ReadNested, ReadsBlock, ReadBlock, ReadsStatements, ReadNoStatement, ReadStatement, ReadsCatches, ReadNoCatch, ReadCatch, ReadsThrows, ReadNoThrown, ReadThrown, with_parameters, slot_declaration, ReadsProcedure, ReadsItems, ReadNoItem, ReadChannel, ReadException, ReadGlobal, ReadProcedure}
use Rattle.types.proofs.ItemNames.{channel_name, global_name, channel_named, global_named}
use Rattle.types.proofs.NamedMeanings.{finds_itself}
use Rattle.types.proofs.Passing.{then_finds, if_finds, any_finds, finds_for_all}
use Rattle.types.proofs.ReadExpressions.{Agrees, IsMeaning, same_scope, agrees_declaring, scalar_reads, array_reads, item_reads, expression_reads, typed_reads, call_reads, right_reads}

-- the names of entries, with one more
name_pushed : {X : Type 0} (name : X → List ℕ) (entries : List X) (entry : X) (text : List ℕ) (more : List (List ℕ)) → name entry ≡ text
    → map name (entries ++ entry ∷ []) ++ more ≡ map name entries ++ text ∷ more
name_pushed name entries entry text more named =
    ap (λ one. one ++ more) (map_push name entries entry) ∙ (λ i. (map name entries ++ named i ∷ []) ++ more)
    ∙ append_assoc (map name entries) (text ∷ []) more

module _ (program : Program) where
  -- ---- points

  -- what is in scope at a point is what is declared, and the slots are all that is declared so far
  record Matches (scope : NameScope) (point : Point) : Type 0 where
    pub agrees : Agrees program scope point.names
    pub declared : map slot_declaration point.slots ≡ scope.declared

  -- what was found together with the point after it reads as what is written, from this scope on
  record Reading (A : Type 0) (Reads : A → NameScope → Type 0) (done : Point × A) : Type 0 where
    pub after : NameScope
    pub reads : Reads done.1 after
    pub matches : Matches after done.0

  abbrev StatementRead : NameScope → StatementTree → Point × Statement → Type 0
  StatementRead scope written done = Reading Statement (ReadsStatement program scope written) done

  abbrev BlockRead : NameScope → BlockTree → Point × Block → Type 0
  BlockRead scope written done = Reading Block (ReadsBlock program scope written) done

  abbrev StatementsRead : NameScope → StatementTrees → Point × Block → Type 0
  StatementsRead scope written done = Reading Block (ReadsStatements program scope written) done

  abbrev CatchesRead : NameScope → CatchTrees → Point × Handlers → Type 0
  CatchesRead scope written done = Reading Handlers (ReadsCatches program scope written) done

  next_number : (scope : NameScope) (point : Point) → Matches scope point → length point.slots ≡ length scope.declared
  next_number scope point matches = sym (length-map point.slots slot_declaration) ∙ ap length matches.declared

  -- after the declaration of a local
  local_matches : (scope : NameScope) (point : Point) (name : NameTree) (slot : SlotEntry) → Matches scope point → slot.name ≡ name.text
      → Matches (with_declared scope name slot.at) (with_local point slot)
  local_matches scope point name slot matches named =
      let meaning : Meaning = meanings.Variable (Local (length point.slots)) slot.base slot.size in
      record {
        agrees =
            subst (λ one. Agrees program (with_declared scope name slot.at) (declaring one meaning point.names)) (sym named)
            (agrees_declaring program scope name slot.at meaning point.names
            (λ other is. is ∙ ap (λ n. Some n) (sym (next_number scope point matches))) matches.agrees);
        declared =
            map_push slot_declaration point.slots slot
            ∙ (λ i. matches.declared i ++ record { name = named i; at = slot.at } ∷ []);
      }

  leaving_matches : (scope inside : NameScope) (point after : Point) → Matches scope point → Matches inside after
      → Matches (leaving_block scope inside) (after_block point after)
  leaving_matches scope inside point after before matches = record {
    agrees = same_scope program scope (leaving_block scope inside) point.names refl before.agrees;
    declared = matches.declared;
  }

  -- ---- statements that declare nothing

  module _ (scope : NameScope) (names : Environment) (agrees : Agrees program scope names) where
    abbrev Stays : StatementTree → Statement → Type 0
    Stays written s = ReadsStatement program scope written s scope

  return_reads : (setting : Setting) (scope : NameScope) (point : Point) (at : ℕ) (value : Option ExpressionTree) → Matches scope point
      → IfOk (statement_finding setting point (ReturnTree at value)) (StatementRead scope (ReturnTree at value))
  unfolding statement_finding
  return_reads setting scope point at None matches =
      if_finds (is_none setting.result) (point, Placed at (ReturnWith None)) _ at _ (λ none. record { after = scope; reads = ReadReturn; matches = matches })
  return_reads setting scope point at (Some value) matches =
      then_finds (expression_finding point.names value) _ (λ (found : Typed). ReadsExpression program scope value found.0) _
      (expression_reads program scope point.names matches.agrees value) (λ found reads.
      if_finds (gives_base found.1 setting.result) (point, Placed at (ReturnWith (Some found.0))) _ (expression_at value) _
      (λ is. record { after = scope; reads = ReadReturnValue reads; matches = matches }))

  -- ---- declarations

  declared_reads : (labels : LabelScope) (scope : NameScope) (point : Point) (at : ℕ) (base : BaseType) (label : Option LabelTree) (name : NameTree) (size : Option ℕ)
      → Matches scope point
      → IfOk (declared_finding labels point at base label name size) (Matches (with_declared scope name at))
  unfolding declared_finding
  declared_reads labels scope point at base label name size matches =
      then_finds (optional_label_finding labels label) _ (λ one. Unit {0}) _ (any_finds (optional_label_finding labels label)) (λ written nothing.
      then_finds (fresh_finding (point.names name.text) name.at) _ (λ one. Unit {0}) _ (any_finds (fresh_finding (point.names name.text) name.at))
      (λ one nothing. local_matches scope point name (slot_of at base written name.text size) matches refl))

  declare_reads : (setting : Setting) (scope : NameScope) (point : Point) (at : ℕ) (base : _) (label : Option LabelTree) (name : NameTree) (right : RightTree)
      → Matches scope point
      → IfOk (declare_finding setting point at base label name right) (StatementRead scope (DeclareTree at base label name right))
  unfolding statement_finding
  declare_reads setting scope point at base label name right matches =
      let target = Local (length point.slots) in
      then_finds (declared_finding (label_scope setting point) point at base label name None) _ (Matches (with_declared scope name at)) _
      (declared_reads (label_scope setting point) scope point at base label name None matches) (λ next matches_next.
      then_finds (assigned_finding setting.signatures point.names at target base right) _ (ReadsRight program scope at target right) _
      (right_reads program scope point.names matches.agrees setting.signatures at target base right) (λ s reads. record {
        after = with_declared scope name at;
        reads = ReadDeclare (subst (λ n. ReadsRight program scope at (Local n) right s) (next_number scope point matches) reads);
        matches = matches_next;
      }))

  declare_array_reads : (setting : Setting) (scope : NameScope) (point : Point) (at : ℕ) (base : _) (label : Option LabelTree) (name : NameTree) (size : SizeTree)
      → Matches scope point
      → IfOk (declare_array_finding setting point at base label name size) (StatementRead scope (DeclareArrayTree at base label name size))
  unfolding statement_finding
  declare_array_reads setting scope point at base label name size matches =
      let target = Local (length point.slots) in
      then_finds (declared_finding (label_scope setting point) point at base label name (Some size.1)) _ (Matches (with_declared scope name at)) _
      (declared_reads (label_scope setting point) scope point at base label name (Some size.1) matches) (λ next matches_next.
      then_finds (size_finding size) _ (λ one. Unit {0}) _ (any_finds (size_finding size)) (λ length_of nothing. record {
        after = with_declared scope name at;
        reads =
            subst (λ n. ReadsStatement program scope (DeclareArrayTree at base label name size) (Placed at (Clear n)) (with_declared scope name at))
            (sym (next_number scope point matches)) ReadDeclareArray;
        matches = matches_next;
      }))

  -- ---- statements, blocks and handlers

  module _ (setting : Setting) where
    mutual
      unfolding statement_finding block_finding statements_finding catches_finding

      statement_reads : (scope : NameScope) (point : Point) (written : StatementTree) → Matches scope point
          → IfOk (statement_finding setting point written) (StatementRead scope written)
      statement_reads scope point (DeclareTree at base label name right) matches = declare_reads setting scope point at base label name right matches
      statement_reads scope point (DeclareArrayTree at base label name size) matches = declare_array_reads setting scope point at base label name size matches
      statement_reads scope point (AssignTree name right) matches =
          then_finds (use_as scalar_of (point.names name.text) name.at) _ (λ (x : Variable × BaseType). IsVariable program scope name x.0) _
          (scalar_reads program scope point.names matches.agrees name) (λ x is.
          then_finds (assigned_finding setting.signatures point.names name.at x.0 x.1 right) _ (ReadsRight program scope name.at x.0 right) _
          (right_reads program scope point.names matches.agrees setting.signatures name.at x.0 x.1 right)
          (λ s reads. record { after = scope; reads = ReadAssign is reads; matches = matches }))
      statement_reads scope point (AssignElementTree array index value) matches =
          then_finds (use_as array_of (point.names array.text) array.at) _ (λ (a : Variable × BaseType × ℕ). IsVariable program scope array a.0) _
          (array_reads program scope point.names matches.agrees array) (λ a is.
          then_finds (typed_finding point.names Int index) _ (ReadsExpression program scope index) _
          (typed_reads program scope point.names matches.agrees Int index) (λ i index_reads.
          then_finds (typed_finding point.names a.1 value) _ (ReadsExpression program scope value) _
          (typed_reads program scope point.names matches.agrees a.1 value)
          (λ e reads. record { after = scope; reads = ReadStore is index_reads reads; matches = matches })))
      statement_reads scope point (CallTree' call) matches =
          then_finds (call_finding setting.signatures point.names call) _
          (λ (made : CallUse). IsProcedure program scope call.0 made.0 × ReadsArguments program scope call.1 made.1) _
          (call_reads program scope point.names matches.agrees setting.signatures call)
          (λ made parts. record { after = scope; reads = ReadCall parts.0 parts.1; matches = matches })
      statement_reads scope point (ReceiveTree at channel) matches =
          then_finds (use_as (item_of (Channel directions.Input)) (point.names channel.text) channel.at) _ (IsChannel program scope channel) _
          (item_reads program scope point.names matches.agrees (Channel directions.Input) channel)
          (λ number is. record { after = scope; reads = ReadReceive is; matches = matches })
      statement_reads scope point (SendTree at channel value) matches =
          then_finds (use_as (item_of (Channel directions.Output)) (point.names channel.text) channel.at) _ (IsChannel program scope channel) _
          (item_reads program scope point.names matches.agrees (Channel directions.Output) channel) (λ number is.
          then_finds (typed_finding point.names Int value) _ (ReadsExpression program scope value) _
          (typed_reads program scope point.names matches.agrees Int value)
          (λ e reads. record { after = scope; reads = ReadSend is reads; matches = matches }))
      statement_reads scope point (IfTree at condition body otherwise) matches =
          then_finds (typed_finding point.names Boolean condition) _ (ReadsExpression program scope condition) _
          (typed_reads program scope point.names matches.agrees Boolean condition) (λ e reads.
          then_finds (block_finding setting point body) _ (BlockRead scope body) _ (block_reads scope point body matches) (λ done read.
          then_finds (block_finding setting done.0 otherwise) _ (BlockRead read.after otherwise) _ (block_reads read.after done.0 otherwise read.matches)
          (λ other read_other. record {
            after = read_other.after;
            reads = ReadIf reads read.reads read_other.reads;
            matches = read_other.matches;
          })))
      statement_reads scope point (WhileTree at condition body) matches =
          then_finds (typed_finding point.names Boolean condition) _ (ReadsExpression program scope condition) _
          (typed_reads program scope point.names matches.agrees Boolean condition) (λ e reads.
          then_finds (block_finding setting (record point { loops = point.loops + 1 }) body) _ (BlockRead scope body) _
          (block_reads scope (record point { loops = point.loops + 1 }) body (record { agrees = matches.agrees; declared = matches.declared })) (λ done read. record {
            after = read.after;
            reads = ReadWhile reads read.reads;
            matches = read.matches;
          }))
      statement_reads scope point (BreakTree at) matches = record { after = scope; reads = ReadBreak; matches = matches }
      statement_reads scope point (ContinueTree at) matches = record { after = scope; reads = ReadContinue; matches = matches }
      statement_reads scope point (ThrowTree at exception) matches =
          then_finds (use_as (item_of Exception) (point.names exception.text) exception.at) _ (IsException program scope exception) _
          (item_reads program scope point.names matches.agrees Exception exception)
          (λ number is. record { after = scope; reads = ReadThrow is; matches = matches })
      statement_reads scope point (ReturnTree at value) matches = return_reads setting scope point at value matches
      statement_reads scope point (TryTree at body catches) matches =
          then_finds (block_finding setting point body) _ (BlockRead scope body) _ (block_reads scope point body matches) (λ done read.
          then_finds (catches_finding setting done.0 catches) _ (CatchesRead read.after catches) _ (catches_read read.after done.0 catches read.matches)
          (λ handled read_handlers. record {
            after = read_handlers.after;
            reads = ReadTry read.reads read_handlers.reads;
            matches = read_handlers.matches;
          }))
      statement_reads scope point (NestedTree (BlockOf at statements)) matches =
          then_finds (block_finding setting point (BlockOf at statements)) _ (BlockRead scope (BlockOf at statements)) _
          (block_reads scope point (BlockOf at statements) matches) (λ done read. record {
            after = read.after;
            reads = ReadNested read.reads;
            matches = read.matches;
          })

      block_reads : (scope : NameScope) (point : Point) (written : BlockTree) → Matches scope point
          → IfOk (block_finding setting point written) (BlockRead scope written)
      block_reads scope point (BlockOf at statements) matches =
          then_finds (statements_finding setting point statements) _ (StatementsRead scope statements) _ (statements_read scope point statements matches)
          (λ done read. record {
            after = leaving_block scope read.after;
            reads = ReadBlock read.reads;
            matches = leaving_matches scope read.after point done.0 matches read.matches;
          })

      statements_read : (scope : NameScope) (point : Point) (written : StatementTrees) → Matches scope point
          → IfOk (statements_finding setting point written) (StatementsRead scope written)
      statements_read scope point NoStatement matches = record { after = scope; reads = ReadNoStatement; matches = matches }
      statements_read scope point (StatementThen statement rest) matches =
          then_finds (statement_finding setting point statement) _ (StatementRead scope statement) _ (statement_reads scope point statement matches) (λ first read.
          then_finds (statements_finding setting first.0 rest) _ (StatementsRead read.after rest) _ (statements_read read.after first.0 rest read.matches)
          (λ others read_others. record {
            after = read_others.after;
            reads = ReadStatement read.reads read_others.reads;
            matches = read_others.matches;
          }))

      catches_read : (scope : NameScope) (point : Point) (written : CatchTrees) → Matches scope point
          → IfOk (catches_finding setting point written) (CatchesRead scope written)
      catches_read scope point NoCatch matches = record { after = scope; reads = ReadNoCatch; matches = matches }
      catches_read scope point (CatchThen at exception body rest) matches =
          then_finds (use_as (item_of Exception) (point.names exception.text) exception.at) _ (IsException program scope exception) _
          (item_reads program scope point.names matches.agrees Exception exception) (λ number is.
          then_finds (block_finding setting point body) _ (BlockRead scope body) _ (block_reads scope point body matches) (λ done read.
          then_finds (catches_finding setting done.0 rest) _ (CatchesRead read.after rest) _ (catches_read read.after done.0 rest read.matches)
          (λ others read_others. record {
            after = read_others.after;
            reads = ReadCatch is read.reads read_others.reads;
            matches = read_others.matches;
          })))

  -- ---- procedures

  parameters_read : (labels : LabelScope) (scope : NameScope) (point : Point) (parameters : List ParameterTree) → Matches scope point
      → IfOk (along (next_parameter labels) point parameters) (Matches (with_parameters scope parameters))
  parameters_read labels scope point [] matches = matches
  parameters_read labels scope point (parameter ∷ parameters) matches =
      let inside = with_declared scope parameter.name parameter.at in
      then_finds (next_parameter labels point parameter) (λ next. along (next_parameter labels) next parameters) (Matches inside) _
      (declared_reads labels scope point parameter.at parameter.base (Some parameter.label) parameter.name None matches)
      (λ next matches_next. parameters_read labels (with_declared scope parameter.name parameter.at) next parameters matches_next)

  -- after those that were found before
  record ThrowsRead (before : List ThrownEntry) (written : List ThrownTree) (found : List ThrownEntry) : Type 0 where
    pub more : List ThrownEntry
    pub found_is : found ≡ before ++ more
    pub reads : ReadsThrows program written more

  throws_read : (labels : LabelScope) → Agrees program top_scope labels.names → (before : List ThrownEntry) (written : List ThrownTree)
      → IfOk (along (next_thrown labels) before written) (ThrowsRead before written)
  throws_read labels agrees before [] = record { more = []; found_is = sym (append-nil before); reads = ReadNoThrown }
  throws_read labels agrees before (thrown ∷ written) =
      then_finds (next_thrown labels before thrown) (λ next. along (next_thrown labels) next written)
      (λ next. (entry : ThrownEntry) × (next ≡ before ++ entry ∷ []) × IsException program top_scope thrown.0 entry.exception) _
      (then_finds (use_as (item_of Exception) (labels.names thrown.0.text) thrown.0.at) _ (IsException program top_scope thrown.0) _
      (item_reads program top_scope labels.names agrees Exception thrown.0) (λ exception is.
      then_finds (require (not (is_thrown before exception)) _ thrown.0.at) _ (λ one. Unit {0}) _
      (any_finds (require (not (is_thrown before exception)) _ thrown.0.at)) (λ one nothing.
      then_finds (label_finding labels thrown.1) _ (λ one. Unit {0}) _ (any_finds (label_finding labels thrown.1))
      (λ label nothing. (record { exception = exception; label = label }, refl, is)))))
      (λ next parts.
      let (entry, same, first) = parts in
      IfOk-weaker (along (next_thrown labels) next written) (ThrowsRead next written) (ThrowsRead before (thrown ∷ written))
      (λ found rest. record {
        more = entry ∷ rest.more;
        found_is = rest.found_is ∙ ap (λ one. one ++ rest.more) same ∙ append_assoc before (entry ∷ []) rest.more;
        reads = ReadThrown first rest.reads;
      })
      (throws_read labels agrees next written))

  procedure_read : (labels : LabelScope) (signatures : List Signature) (written : ProcedureTree) → Agrees program top_scope labels.names
      → IfOk (procedure_entry_finding labels signatures written) (ReadsProcedure program written)
  unfolding procedure_entry_finding
  procedure_read labels signatures written agrees =
      let setting = setting_within labels signatures written in
      let first : Point = record { names = labels.names; slots = []; loops = 0 } in
      then_finds (result_finding labels written.result) _ (λ one. Unit {0}) _ (any_finds (result_finding labels written.result)) (λ result nothing.
      then_finds (optional_label_finding labels written.begin) _ (λ one. Unit {0}) _ (any_finds (optional_label_finding labels written.begin)) (λ begin nothing.
      then_finds (along (next_parameter labels) first written.parameters) _ (Matches (with_parameters top_scope written.parameters)) _
      (parameters_read labels top_scope first written.parameters (record { agrees = agrees; declared = refl })) (λ point matches.
      then_finds (optional_label_finding labels written.end) _ (λ one. Unit {0}) _ (any_finds (optional_label_finding labels written.end)) (λ end nothing.
      then_finds (along (next_thrown labels) [] written.throws) _ (ThrowsRead [] written.throws) _
      (throws_read labels agrees [] written.throws) (λ throws thrown.
      then_finds (block_finding setting point written.body) _ (BlockRead (with_parameters top_scope written.parameters) written.body) _
      (block_reads setting (with_parameters top_scope written.parameters) point written.body matches) (λ done read. record {
        place = refl;
        name = refl;
        throws = subst (ReadsThrows program written.throws) (sym thrown.found_is) thrown.reads;
        parameters = refl;
        after = read.after;
        body = read.reads;
        slots = read.matches.declared;
      }))))))

  -- ---- items

  -- after the items that were found before
  record ItemsRead (before : Program) (items : List ItemTree) (tables : Program) : Type 0 where
    pub channels : List (List ℕ)
    pub exceptions : List (List ℕ)
    pub globals : List (List ℕ)
    pub procedures : List ProcedureEntry
    pub channels_are : map channel_name tables.channels ≡ map channel_name before.channels ++ channels
    pub exceptions_are : tables.exceptions ≡ before.exceptions ++ exceptions
    pub globals_are : map global_name tables.globals ≡ map global_name before.globals ++ globals
    pub procedures_are : tables.procedures ≡ before.procedures ++ procedures
    pub reads : ReadsItems program items channels exceptions globals procedures

  module _ (h : PrincipalHierarchy) (top : TopLevel) (agrees : Agrees program top_scope top.names) where
    -- what is found after the next item is found after those before it, with that item
    abbrev Step : Program → ItemTree → List ItemTree → Program → Type 0
    Step before item items next = (tables : Program) → ItemsRead next items tables → ItemsRead before (item ∷ items) tables

    step : (before : Program) (item : ItemTree) (items : List ItemTree) → IfOk (next_item h top before item) (Step before item items)
    unfolding next_item
    step before (ChannelItem at way label called) items =
        subst (λ found. IfOk found (Step before (ChannelItem at way label called) items)) (sym (next_channel h top before (record { at = at; direction = way; label = label; name = called })))
        (then_finds (channel_finding (heads h top before.globals) (record { at = at; direction = way; label = label; name = called })) _ (λ (entry : ChannelContents). entry.name ≡ called.text) _ (channel_named (heads h top before.globals) (record { at = at; direction = way; label = label; name = called }))
        (λ entry named tables rest. record {
          channels = called.text ∷ rest.channels;
          exceptions = rest.exceptions;
          globals = rest.globals;
          procedures = rest.procedures;
          channels_are = rest.channels_are ∙ name_pushed channel_name before.channels entry called.text rest.channels named;
          exceptions_are = rest.exceptions_are;
          globals_are = rest.globals_are;
          procedures_are = rest.procedures_are;
          reads = ReadChannel rest.reads;
        }))
    step before (ExceptionItem at name) items = λ tables rest. record {
      channels = rest.channels;
      exceptions = name.text ∷ rest.exceptions;
      globals = rest.globals;
      procedures = rest.procedures;
      channels_are = rest.channels_are;
      exceptions_are = rest.exceptions_are ∙ append_assoc before.exceptions (name.text ∷ []) rest.exceptions;
      globals_are = rest.globals_are;
      procedures_are = rest.procedures_are;
      reads = ReadException rest.reads;
    }
    step before (GlobalItem at typed label called value) items =
        subst (λ found. IfOk found (Step before (GlobalItem at typed label called value) items)) (sym (next_global h top before (record { at = at; base = typed; label = label; name = called; value = value })))
        (then_finds (global_finding (heads h top before.globals) (record { at = at; base = typed; label = label; name = called; value = value })) _ (λ (entry : GlobalEntry). entry.name ≡ called.text) _ (global_named (heads h top before.globals) (record { at = at; base = typed; label = label; name = called; value = value }))
        (λ entry named tables rest. record {
          channels = rest.channels;
          exceptions = rest.exceptions;
          globals = called.text ∷ rest.globals;
          procedures = rest.procedures;
          channels_are = rest.channels_are;
          exceptions_are = rest.exceptions_are;
          globals_are = rest.globals_are ∙ name_pushed global_name before.globals entry called.text rest.globals named;
          procedures_are = rest.procedures_are;
          reads = ReadGlobal rest.reads;
        }))
    step before (ProcedureItem written) items =
        then_finds (procedure_entry_finding (heads h top before.globals) top.signatures written) _ (ReadsProcedure program written) _ (procedure_read (heads h top before.globals) top.signatures written agrees)
        (λ entry reads tables rest. record {
          channels = rest.channels;
          exceptions = rest.exceptions;
          globals = rest.globals;
          procedures = entry ∷ rest.procedures;
          channels_are = rest.channels_are;
          exceptions_are = rest.exceptions_are;
          globals_are = rest.globals_are;
          procedures_are = rest.procedures_are ∙ append_assoc before.procedures (entry ∷ []) rest.procedures;
          reads = ReadProcedure reads rest.reads;
        })

    items_read : (before : Program) (items : List ItemTree) → IfOk (along (next_item h top) before items) (ItemsRead before items)
    items_read before [] = record {
      channels = [];
      exceptions = [];
      globals = [];
      procedures = [];
      channels_are = sym (append-nil (map channel_name before.channels));
      exceptions_are = sym (append-nil before.exceptions);
      globals_are = sym (append-nil (map global_name before.globals));
      procedures_are = sym (append-nil before.procedures);
      reads = ReadNoItem;
    }
    items_read before (item ∷ items) =
        then_finds (next_item h top before item) (λ next. along (next_item h top) next items) (Step before item items) _ (step before item items)
        (λ next pass.
        IfOk-weaker (along (next_item h top) next items) (ItemsRead next items) (ItemsRead before (item ∷ items)) pass (items_read next items))

  -- what the names of the items mean outside of all bodies
  pub top_agrees : (names : Environment) → ((name : List ℕ) (meaning : Meaning) → names name ≡ Some meaning → MeaningHasName program meaning name)
      → Agrees program top_scope names
  top_agrees names named name meaning e = go meaning (named name.text meaning e)
    where
      go : (meaning : Meaning) → MeaningHasName program meaning name.text → IsMeaning program top_scope name meaning
      go (meanings.Item (Channel direction) n) is = (refl, is)
      go (meanings.Item Exception n) is = (refl, is)
      go (meanings.Item Procedure n) is = (refl, is)
      go (meanings.Variable (Global n) base size) is = (refl, is)
      go (meanings.Variable (Local n) base size) is = absurd is

-- ---- the whole

-- a program in which the names of the items mean what they do
record World (top : TopLevel) : Type 0 where
  pub program : Program
  pub agrees : Agrees program top_scope top.names

abbrev pub TopAgrees : List ItemTree → Program → Type 0
TopAgrees items program = (top : TopLevel) → along next_name built_in items ≡ give top → Agrees program top_scope top.names

abbrev pub ReadsProgram : List ItemTree → Program → Type 0
ReadsProgram items program =
    ReadsItems program items (channel_names program) program.exceptions (global_names program) program.procedures

pub program_read : (h : PrincipalHierarchy) (written : ProgramTree)
    → IfOk (resolution h written) (λ program. TopAgrees written.items program → ReadsProgram written.items program)
unfolding resolution
program_read h written =
    then_finds (along next_name built_in written.items) _ (λ top. along next_name built_in written.items ≡ give top) _ (finds_itself (along next_name built_in written.items)) (λ top top_is.
    then_finds (along (next_item h top) empty_program written.items) _
    (λ tables. (world : World top) → ItemsRead world.program empty_program written.items tables) _
    (finds_for_all (along (next_item h top) empty_program written.items) (λ (world : World top) tables. ItemsRead world.program empty_program written.items tables)
    (λ world. items_read world.program h top world.agrees empty_program written.items)) (λ tables read.
    then_finds (main_finding (top.names (codes "main")) tables.procedures) _ (λ one. Unit {0}) _
    (any_finds (main_finding (top.names (codes "main")) tables.procedures)) (λ main nothing.
    then_finds (along next_global_cells 0 written.items) _ (λ one. Unit {0}) _ (any_finds (along next_global_cells 0 written.items)) (λ cells nothing.
    then_finds (along next_frame tt tables.procedures) _ (λ one. Unit {0}) _ (any_finds (along next_frame tt tables.procedures)) (λ done nothing agrees.
    tables_read h tables main written.items (read (record { program = program_with h tables main; agrees = agrees top top_is })))))))
  where
    tables_read : (h : PrincipalHierarchy) (tables : Program) (main : ℕ) (items : List ItemTree)
        → ItemsRead (program_with h tables main) empty_program items tables → ReadsProgram items (program_with h tables main)
    tables_read h tables main items found =
        subst (λ one. ReadsItems (program_with h tables main) items one tables.exceptions (map global_name tables.globals) tables.procedures)
        (sym found.channels_are)
        (subst (λ one. ReadsItems (program_with h tables main) items found.channels one (map global_name tables.globals) tables.procedures)
        (sym found.exceptions_are)
        (subst (λ one. ReadsItems (program_with h tables main) items found.channels found.exceptions one tables.procedures) (sym found.globals_are)
        (subst (ReadsItems (program_with h tables main) items found.channels found.exceptions found.globals) (sym found.procedures_are) found.reads)))
