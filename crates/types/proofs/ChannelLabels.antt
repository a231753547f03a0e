-- The labels of the channels of a program are canonical, and its hierarchy is the one under which it is resolved.
use Rattle.types.proofs.Together.{policy_together}
use Rattle.std.proofs.Common.{◌≡◌, refl, sym, subst, ℕ, zero, suc, List, [], ◌∷◌}
use Rattle.std.specs.Prelude.{All, IfOk, IfSome, slice_get, codes}
use Rattle.std.proofs.lemmas.List.Elements.{All-nil, All-cons, All-head, All-tail, All-append}
use Rattle.std.proofs.lemmas.Result.{IfOk-weaker}
use Rattle.principals.specs.ActsFor.{PrincipalHierarchy}
use Rattle.labels.specs.Label.{ReaderPolicy}
use Rattle.labels.specs.Canonical.{IsCanonicalPolicy, IsCanonicalLabel}
use Rattle.labels.proofs.Written.{IsCanonicalPolicy-written, IsCanonicalLabel-written}
use Rattle.syntax.specs.Tree.{NameTree, ComponentTree, PolicyComponent, VariableComponent, LabelTree, ItemTree, ChannelItem, ExceptionItem, GlobalItem, ProcedureItem, ProgramTree}
use Rattle.resolved.specs.declared.expression.Variable.{Variable}
use Rattle.resolved.specs.declared.expression.Variable.TheVariants.{Global, Local}
use Rattle.labels.specs.Channel.{ChannelContents}
use Rattle.resolved.specs.Program.{Program, GlobalEntry, SlotEntry}
use Rattle.types.specs.Environment.{use_as, variable_of}
use Rattle.types.specs.declared.fault.TypeRefusalKind.TheVariants as refusals
use Rattle.common.specs.Results.{along, ◌>>=◌}
use Rattle.types.specs.Finding.{found_or, of_each}
use Rattle.types.specs.Labels.{LabelScope, principal_finding, policy_finding, variable_label_finding, component_finding, next_component, label_finding}
use Rattle.types.proofs.NextItems.{next_channel, next_global}
use Rattle.types.specs.Resolution.{TopLevel, heads, channel_finding, first_finding, global_finding, procedure_entry_finding, next_item, main_finding, resolution, empty_program, next_name, built_in, next_frame, next_global_cells}
use Rattle.types.proofs.Passing.{then_finds, found_finds, any_finds}

abbrev IsCanonicalChannel : ChannelContents → Type 0
IsCanonicalChannel entry = IsCanonicalLabel entry.label

abbrev IsCanonicalGlobal : GlobalEntry → Type 0
IsCanonicalGlobal entry = IsCanonicalLabel entry.label

record HasCanonicalLabels (tables : Program) : Type 0 where
  pub channels : All IsCanonicalChannel tables.channels
  pub globals : All IsCanonicalGlobal tables.globals

all_there : {X : Type 0} (P : X → Type 0) (xs : List X) (n : ℕ) → All P xs → IfSome (slice_get xs n) P
all_there P [] n all = tt
all_there P (x ∷ xs) zero all = All-head P x xs all
all_there P (x ∷ xs) (suc n) all = all_there P xs n (All-tail P x xs all)

policy_canonical : (h : PrincipalHierarchy) (owner : NameTree) (readers : List NameTree) → IfOk (policy_finding h owner readers) IsCanonicalPolicy
unfolding policy_finding
policy_canonical h owner readers =
    then_finds (principal_finding h owner) _ (λ one. Unit {0}) _ (any_finds (principal_finding h owner)) (λ number nothing.
    then_finds (of_each (principal_finding h) readers) _ (λ one. Unit {0}) _ (any_finds (of_each (principal_finding h) readers)) (λ numbers nothing.
    IsCanonicalPolicy-written number numbers))

-- ---- labels that may name globals alone

module _ (scope : LabelScope) (globals : (number : ℕ) → IfSome (slice_get scope.globals number) IsCanonicalGlobal) (no_slots : scope.slots ≡ []) where
  variable_canonical : (variable : Variable) (at : ℕ) → IfOk (variable_label_finding scope variable at) IsCanonicalLabel
  unfolding variable_label_finding
  variable_canonical (Global number) at =
      then_finds (found_or refusals.UnknownName at (slice_get scope.globals number)) _ IsCanonicalGlobal IsCanonicalLabel
      (found_finds refusals.UnknownName at (slice_get scope.globals number) IsCanonicalGlobal (globals number)) (λ entry is. is)
  variable_canonical (Local number) at =
      subst (λ slots. IfOk (found_or refusals.UnknownName at (slice_get slots number) >>= λ (slot : SlotEntry). found_or refusals.LabelNotWritten at slot.written) IsCanonicalLabel)
      (sym no_slots) tt

  component_canonical : (component : ComponentTree) → IfOk (component_finding scope component) (All IsCanonicalPolicy)
  unfolding component_finding
  component_canonical (PolicyComponent owner readers) =
      subst (λ looked. IfOk looked (All IsCanonicalPolicy)) (sym (policy_together scope owner readers))
      (then_finds (policy_finding scope.hierarchy owner readers) _ IsCanonicalPolicy (All IsCanonicalPolicy) (policy_canonical scope.hierarchy owner readers)
      (λ policy is. All-cons IsCanonicalPolicy policy [] is (All-nil IsCanonicalPolicy)))
  component_canonical (VariableComponent name) =
      then_finds (use_as variable_of (scope.names name.text) name.at) _ (λ one. Unit {0}) _ (any_finds (use_as variable_of (scope.names name.text) name.at))
      (λ variable nothing.
      IfOk-weaker (variable_label_finding scope variable name.at) IsCanonicalLabel (All IsCanonicalPolicy) (λ label is. is.each_canonical)
      (variable_canonical variable name.at))

  components_canonical : (found : List ReaderPolicy) (components : List ComponentTree) → All IsCanonicalPolicy found
      → IfOk (along (next_component scope) found components) (All IsCanonicalPolicy)
  components_canonical found [] all = all
  components_canonical found (component ∷ components) all =
      then_finds (next_component scope found component) (λ next. along (next_component scope) next components) (All IsCanonicalPolicy) _
      (then_finds (component_finding scope component) _ (All IsCanonicalPolicy) _ (component_canonical component)
      (λ policies are. All-append IsCanonicalPolicy found policies all are))
      (λ next every. components_canonical next components every)

  pub label_canonical : (label : LabelTree) → IfOk (label_finding scope label) IsCanonicalLabel
  unfolding label_finding
  label_canonical label =
      then_finds (along (next_component scope) [] label.components) _ (All IsCanonicalPolicy) _
      (components_canonical [] label.components (All-nil IsCanonicalPolicy)) IsCanonicalLabel-written

-- ---- items

module _ (h : PrincipalHierarchy) where
  item_canonical : (top : TopLevel) (tables : Program) (item : ItemTree) → HasCanonicalLabels tables → IfOk (next_item h top tables item) HasCanonicalLabels
  unfolding next_item channel_finding global_finding
  item_canonical top tables (ChannelItem at way label called) kept =
      subst (λ found. IfOk found (HasCanonicalLabels)) (sym (next_channel h top tables (record { at = at; direction = way; label = label; name = called })))
      (then_finds (channel_finding (heads h top tables.globals) (record { at = at; direction = way; label = label; name = called })) _ IsCanonicalChannel HasCanonicalLabels
      (then_finds (label_finding (heads h top tables.globals) label) _ IsCanonicalLabel IsCanonicalChannel
      (label_canonical (heads h top tables.globals) (λ number. all_there IsCanonicalGlobal tables.globals number kept.globals) refl label) (λ label is. is))
      (λ entry is. record {
        channels = All-append IsCanonicalChannel tables.channels (entry ∷ []) kept.channels (All-cons IsCanonicalChannel entry [] is (All-nil IsCanonicalChannel));
        globals = kept.globals;
      }))
  item_canonical top tables (ExceptionItem at name) kept = record { channels = kept.channels; globals = kept.globals }
  item_canonical top tables (GlobalItem at typed label called value) kept =
      subst (λ found. IfOk found (HasCanonicalLabels)) (sym (next_global h top tables (record { at = at; base = typed; label = label; name = called; value = value })))
      (then_finds (global_finding (heads h top tables.globals) (record { at = at; base = typed; label = label; name = called; value = value })) _ IsCanonicalGlobal HasCanonicalLabels
      (then_finds (label_finding (heads h top tables.globals) label) _ IsCanonicalLabel IsCanonicalGlobal
      (label_canonical (heads h top tables.globals) (λ number. all_there IsCanonicalGlobal tables.globals number kept.globals) refl label) (λ label is.
      then_finds (first_finding typed value) _ (λ one. Unit {0}) IsCanonicalGlobal (any_finds (first_finding typed value))
      (λ value nothing. is)))
      (λ entry is. record {
        channels = kept.channels;
        globals = All-append IsCanonicalGlobal tables.globals (entry ∷ []) kept.globals (All-cons IsCanonicalGlobal entry [] is (All-nil IsCanonicalGlobal));
      }))
  item_canonical top tables (ProcedureItem procedure) kept =
      then_finds (procedure_entry_finding (heads h top tables.globals) top.signatures procedure) _ (λ one. Unit {0}) HasCanonicalLabels
      (any_finds (procedure_entry_finding (heads h top tables.globals) top.signatures procedure))
      (λ entry nothing. record { channels = kept.channels; globals = kept.globals })

  items_canonical : (top : TopLevel) (tables : Program) (items : List ItemTree) → HasCanonicalLabels tables
      → IfOk (along (next_item h top) tables items) HasCanonicalLabels
  items_canonical top tables [] kept = kept
  items_canonical top tables (item ∷ items) kept =
      then_finds (next_item h top tables item) (λ next. along (next_item h top) next items) HasCanonicalLabels _ (item_canonical top tables item kept)
      (λ next kept_next. items_canonical top next items kept_next)

  pub record KeepsChannels (program : Program) : Type 0 where
    pub hierarchy : program.hierarchy ≡ h
    pub labels : All IsCanonicalChannel program.channels

  pub channels_kept : (written : ProgramTree) → IfOk (resolution h written) KeepsChannels
  unfolding resolution
  channels_kept written =
      then_finds (along next_name built_in written.items) _ (λ one. Unit {0}) _ (any_finds (along next_name built_in written.items)) (λ top nothing.
      then_finds (along (next_item h top) empty_program written.items) _ HasCanonicalLabels _
      (items_canonical top empty_program written.items (record { channels = All-nil IsCanonicalChannel; globals = All-nil IsCanonicalGlobal })) (λ tables kept.
      then_finds (main_finding (top.names (codes "main")) tables.procedures) _ (λ one. Unit {0}) _
      (any_finds (main_finding (top.names (codes "main")) tables.procedures)) (λ main nothing.
      then_finds (along next_global_cells 0 written.items) _ (λ one. Unit {0}) _ (any_finds (along next_global_cells 0 written.items)) (λ cells nothing.
      then_finds (along next_frame tt tables.procedures) _ (λ one. Unit {0}) _ (any_finds (along next_frame tt tables.procedures)) (λ done nothing.
      record { hierarchy = refl; labels = kept.channels })))))
