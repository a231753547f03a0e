-- Procedures, by what their parts were found to be.
use Rattle.types.specs.declared.scope.ItemKind.TheVariants.{Exception}
use Rattle.std.proofs.Common.{◌≡◌, ℕ, ◌*◌, ◌≤◌, List, [], ◌∷◌, ◌++◌, Bool, true, false, cond, refl, map, length, Option, Some, Ok, sym, ◌∙◌, ap, subst, arith}
use Rattle.std.specs.Prelude.{sum_by, not, ◌||◌, ◌==◌, unwrap_or, None}
use Rattle.std.proofs.lemmas.List.{length-map, map_push}
use Rattle.std.proofs.lemmas.List.Folds.{list_any-append}
use Rattle.std.proofs.lemmas.List.Sums.{sum_by-cons}
use Rattle.labels.specs.Label.{Label}
use Rattle.labels.specs.LabelTable.{Extends}
use Rattle.syntax.specs.Nodes.{parameter_nodes, thrown_nodes}
use Rattle.syntax.specs.Tree.{LabelTree, ParameterTree, ProcedureTree, ThrownTree}
use Rattle.common.specs.declared.base_type.BaseType.{BaseType}
use Rattle.resolved.specs.declared.tables.Thrown.{Thrown}
use Rattle.resolved.specs.ProgramOf.{thrown_entry}
use Rattle.resolved.specs.Program.{SlotEntry, ResultEntry, ThrownEntry}
use Rattle.resolved.specs.Tree.{Block}
use Rattle.common.specs.Answers.{IfRefused}
use Rattle.common.specs.declared.fault.OrNoMemory.{OrNoMemory}
use Rattle.common.specs.declared.refusal.RefusalAt.{RefusalAt}
use Rattle.types.specs.declared.fault.TypeRefusalKind.{TypeRefusalKind}
use Rattle.types.specs.declared.scope.Meaning.{Meaning}
use Rattle.types.specs.declared.fault.TypeRefusalKind.TheVariants as refusals
use Rattle.common.specs.Results.{along}
use Rattle.types.specs.Finding.{Finding, IsRefusalOf, give, require, of_option}
use Rattle.types.specs.Environment.{fresh_finding, use_as, item_of}
use Rattle.types.specs.Labels.{LabelScope, label_finding, optional_label_finding}
use Rattle.types.specs.declared.label.ItemContext.{ItemContext}
use Rattle.types.specs.Views.{setting_within, item_scope, top_view}
use Rattle.types.specs.Resolution.{heads, is_thrown, next_parameter, next_thrown, procedure_entry_finding, result_finding, joined_all}
use Rattle.types.specs.Statements.{Signature, Point, with_local, block_finding, slot_of, declared_finding}
use Rattle.types.specs.VariableEntries.{VariableEntries, LabelPolicies, AreThrownLabelsInside, label_with}
use Rattle.types.proofs.LabelNumbers.{same_thrown}
use Rattle.types.proofs.Loops.{then_ok, fails_later, fails_second}

-- ---- parameters

-- the label of a parameter by what the place that it stands at is seen as
pub item_labelled : (label : LabelTree) (parts : LabelPolicies) (seen scope : LabelScope) (there variables : VariableEntries) → seen ≡ scope → there ≡ variables
    → label_finding seen label ≡ Ok (label_with there.labels parts) → label_finding scope label ≡ Ok (label_with variables.labels parts)
item_labelled label parts seen scope there variables same held found =
    ap (λ one. label_finding one label) (sym same) ∙ found ∙ ap (λ (one : VariableEntries). Ok (label_with one.labels parts)) held

pub parameter_declared : (scope : LabelScope) (point after : Point) (parameter : ParameterTree) (label : Label) (found : Option Meaning) (base : BaseType) (slot : SlotEntry)
    → label_finding scope parameter.label ≡ Ok label → found ≡ point.names parameter.name.text → fresh_finding found parameter.name.at ≡ Ok tt → base ≡ parameter.base
    → slot ≡ slot_of parameter.at base (Some label) parameter.name.text None → give (with_local point slot) ≡ give after
    → next_parameter scope point parameter ≡ Ok after
unfolding declared_finding of_option
parameter_declared scope point after parameter label found base slot labelled looked new typed entry declared =
    then_ok _ _ (Some label) (then_ok _ _ label labelled) ∙ then_ok _ _ tt (sym (ap (λ one. fresh_finding one parameter.name.at) looked) ∙ new)
    ∙ ap (λ b. Ok (with_local point (slot_of parameter.at b (Some label) parameter.name.text None))) (sym typed)
    ∙ ap (λ one. Ok (with_local point one)) (sym entry) ∙ declared

-- what the parameters of a procedure come to
abbrev pub parameters_finding : LabelScope → List ParameterTree → Finding Point
parameters_finding scope parameters = along (next_parameter scope) (record { names = scope.names; slots = []; loops = 0 }) parameters

parameters_are : (scope : LabelScope) (begin : Point) (parameters : List ParameterTree)
    → begin ≡ record { names = scope.names; slots = []; loops = 0 } → along (next_parameter scope) begin parameters ≡ parameters_finding scope parameters
parameters_are scope begin parameters first = λ i. along (next_parameter scope) (first i) parameters

-- the parameters of a procedure, by what their labels may name
pub parameters_in_scope : (seen scope : LabelScope) (begin : Point) (parameters all : List ParameterTree) → seen ≡ scope → begin ≡ record { names = scope.names; slots = []; loops = 0 } → parameters ≡ all
    → along (next_parameter seen) begin parameters ≡ parameters_finding scope all
parameters_in_scope seen scope begin parameters all same first are =
    ap (λ one. along (next_parameter one) begin parameters) same ∙ parameters_are scope begin parameters first ∙ ap (parameters_finding scope) are

-- each parameter has two nodes of its own
pub parameters_few : (parameters : List ParameterTree) → 2 * length parameters ≤ sum_by parameter_nodes parameters
parameters_few [] = omega arith
parameters_few (parameter ∷ rest) = let few = parameters_few rest in omega (arith, few, sum_by-cons parameter_nodes parameter rest)

-- the same of a list that is lent
pub parameters_need : {X : Type 0} (tree : X → ParameterTree) (lent all : List X) → lent ≡ all → 2 * length lent ≤ sum_by parameter_nodes (map tree all)
parameters_need tree lent all are = let few = parameters_few (map tree all) in omega (arith, few, length-map all tree, ap length are)

-- ---- exceptions

-- the entries of exceptions with one more
pub thrown_pushed : (before after : List Label) → Extends before after → (throws pushed : List Thrown) (one : Thrown) → AreThrownLabelsInside before throws → pushed ≡ throws ++ one ∷ []
    → map (thrown_entry after) pushed ≡ map (thrown_entry before) throws ++ thrown_entry after one ∷ []
thrown_pushed before after extended throws pushed one inside is =
    ap (map (thrown_entry after)) is ∙ map_push (thrown_entry after) throws one
    ∙ ap (λ front. front ++ thrown_entry after one ∷ []) (same_thrown before after extended throws inside)

pub thrown_found : (scope : LabelScope) (before after : List ThrownEntry) (thrown : ThrownTree) (exception : ℕ) (label : Label) → use_as (item_of Exception) (scope.names thrown.0.text) thrown.0.at ≡ Ok exception
    → is_thrown before exception ≡ false → label_finding scope thrown.1 ≡ Ok label → after ≡ before ++ record { exception = exception; label = label } ∷ []
    → next_thrown scope before thrown ≡ Ok after
thrown_found scope before after thrown exception label known new labelled is =
    then_ok _ _ exception known ∙ then_ok _ _ tt (ap (λ test. require (not test) refusals.DeclaredTwice thrown.0.at) new) ∙ then_ok _ _ label labelled ∙ ap (λ list. Ok list) (sym is)

-- which exceptions are named, with one more
pub thrown_or_last : (throws : List ThrownEntry) (one : ThrownEntry) (number : ℕ) → is_thrown (throws ++ one ∷ []) number ≡ cond (one.exception == number) true (is_thrown throws number)
thrown_or_last throws one number =
    list_any-append (λ (thrown : ThrownEntry). thrown.exception == number) throws (one ∷ []) ∙ by (is_thrown throws number) (one.exception == number)
  where
    by : (before last : Bool) → (before || (last || false)) ≡ cond last true before
    by true true = refl
    by true false = refl
    by false true = refl
    by false false = refl

-- ---- a whole procedure

-- what the labels of an item may name where only labels have come since
pub same_scope : (place : ItemContext) (before after : VariableEntries) → after.globals ≡ before.globals → item_scope place after ≡ item_scope place before
same_scope place before after same = λ i. heads place.hierarchy.now (top_view place.top.now) (same i)

-- what is found or refused in the one scope is so in the other
pub optional_in_scope : (seen scope : LabelScope) (label : Option LabelTree) (found : Option Label) → seen ≡ scope → optional_label_finding seen label ≡ Ok found
    → optional_label_finding scope label ≡ Ok found
optional_in_scope seen scope label found same = subst (λ one. optional_label_finding one label ≡ Ok found) same

pub optional_wrong_in_scope : (seen scope : LabelScope) (label : Option LabelTree) (fault : OrNoMemory (RefusalAt TypeRefusalKind)) → seen ≡ scope
    → IfRefused (IsRefusalOf (optional_label_finding seen label)) fault → IfRefused (IsRefusalOf (optional_label_finding scope label)) fault
optional_wrong_in_scope seen scope label fault same = subst (λ one. IfRefused (IsRefusalOf (optional_label_finding one label)) fault) same

-- each exception has a node of its own
pub throws_few : (throws : List ThrownTree) → length throws ≤ sum_by thrown_nodes throws
throws_few [] = omega arith
throws_few (thrown ∷ rest) = let few = throws_few rest in omega (arith, few, sum_by-cons thrown_nodes thrown rest)

pub throws_need : {X : Type 0} (tree : X → ThrownTree) (lent all : List X) → lent ≡ all → length lent ≤ sum_by thrown_nodes (map tree all)
throws_need tree lent all are = let few = throws_few (map tree all) in omega (arith, few, length-map all tree, ap length are)

module _ (scope : LabelScope) (signatures : List Signature) (procedure : ProcedureTree) (result : Option ResultEntry) (begin : Option Label)
    (valued : result_finding scope procedure.result ≡ Ok result) (begun : optional_label_finding scope procedure.begin ≡ Ok begin) where
  pub parameters_wrong : (fault : OrNoMemory (RefusalAt TypeRefusalKind)) → IfRefused (IsRefusalOf (parameters_finding scope procedure.parameters)) fault → IfRefused (IsRefusalOf (procedure_entry_finding scope signatures procedure)) fault
  unfolding procedure_entry_finding
  parameters_wrong fault wrong = fails_second _ _ result fault valued (fails_second _ _ begin fault begun (fails_later _ _ fault wrong))

  module _ (point : Point) (declared : parameters_finding scope procedure.parameters ≡ Ok point) where
    pub end_wrong : (fault : OrNoMemory (RefusalAt TypeRefusalKind)) → IfRefused (IsRefusalOf (optional_label_finding scope procedure.end)) fault → IfRefused (IsRefusalOf (procedure_entry_finding scope signatures procedure)) fault
    unfolding procedure_entry_finding
    end_wrong fault wrong = fails_second _ _ result fault valued (fails_second _ _ begin fault begun (fails_second _ _ point fault declared (fails_later _ _ fault wrong)))

    module _ (end : Option Label) (ended : optional_label_finding scope procedure.end ≡ Ok end) where
      pub throws_wrong : (fault : OrNoMemory (RefusalAt TypeRefusalKind)) → IfRefused (IsRefusalOf (along (next_thrown scope) [] procedure.throws)) fault → IfRefused (IsRefusalOf (procedure_entry_finding scope signatures procedure)) fault
      unfolding procedure_entry_finding
      throws_wrong fault wrong =
          fails_second _ _ result fault valued (fails_second _ _ begin fault begun (fails_second _ _ point fault declared (fails_second _ _ end fault ended (fails_later _ _ fault wrong))))

      module _ (throws : List ThrownEntry) (thrown : along (next_thrown scope) [] procedure.throws ≡ Ok throws) where
        pub block_wrong : (fault : OrNoMemory (RefusalAt TypeRefusalKind))
            → IfRefused (IsRefusalOf (block_finding (setting_within scope signatures procedure) point procedure.body)) fault
            → IfRefused (IsRefusalOf (procedure_entry_finding scope signatures procedure)) fault
        unfolding procedure_entry_finding
        block_wrong fault wrong =
            fails_second _ _ result fault valued (fails_second _ _ begin fault begun (fails_second _ _ point fault declared (fails_second _ _ end fault ended (fails_second _ _ throws fault thrown (fails_later _ _ fault wrong)))))

        pub procedure_found : (inside : Point) (body : Block)
            → block_finding (setting_within scope signatures procedure) point procedure.body ≡ Ok (inside, body)
            → (name : List ℕ) (begin_label end_label : Label) (parameters : ℕ) → name ≡ procedure.name.text → begin_label ≡ unwrap_or begin []
            → end_label ≡ unwrap_or end (joined_all begin_label throws) → parameters ≡ length procedure.parameters
            → procedure_entry_finding scope signatures procedure ≡ Ok (record {
              at = procedure.name.at;
              name = name;
              result = result;
              begin_label = begin_label;
              end_label = end_label;
              throws = throws;
              parameters = parameters;
              slots = inside.slots;
              loops = inside.loops;
              body = body;
            })
        unfolding procedure_entry_finding
        procedure_found inside body found name begin_label end_label parameters named began ends counted =
            then_ok _ _ result valued ∙ then_ok _ _ begin begun ∙ then_ok _ _ point declared ∙ then_ok _ _ end ended ∙ then_ok _ _ throws thrown ∙ then_ok _ _ (inside, body) found
            ∙ (λ i. Ok (record {
              at = procedure.name.at;
              name = sym named i;
              result = result;
              begin_label = sym began i;
              end_label = (ap (λ label. unwrap_or end (joined_all label throws)) (sym began) ∙ sym ends) i;
              throws = throws;
              parameters = sym counted i;
              slots = inside.slots;
              loops = inside.loops;
              body = body;
            }))
