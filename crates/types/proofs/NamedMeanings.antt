-- The names of the items of a program stand for the entries of those names.
use Rattle.std.proofs.Common.{◌≡◌, refl, sym, ◌∙◌, subst, ap, ℕ, List, [], ◌∷◌, ◌++◌, length, Bool, true, false, cond, Ok, Err, arith}
use Rattle.common.specs.Exceptions.{built_in_names}
use Rattle.std.specs.Prelude.{IfOk, Option, Some, None, slice_get, bytes_eq, codes, ◌==◌, ◌&&◌, is_none}
use Rattle.std.proofs.lemmas.Bool.{eqb-true, and_parts}
use Rattle.std.proofs.lemmas.List.{length-append}
use Rattle.principals.specs.ActsFor.{PrincipalHierarchy}
use Rattle.syntax.specs.Tree.{ItemTree, ChannelItem, ExceptionItem, GlobalItem, ProcedureItem, ProgramTree}
use Rattle.resolved.specs.declared.expression.Variable.TheVariants.{Global, Local}
use Rattle.resolved.specs.Program.{Program, ProcedureEntry}
use Rattle.types.specs.declared.scope.Meaning.{Meaning}
use Rattle.types.specs.declared.scope.ItemKind.TheVariants.{Channel, Exception, Procedure}
use Rattle.types.specs.declared.scope.Meaning.TheVariants as meanings
use Rattle.types.specs.declared.fault.TypeRefusalKind.TheVariants as refusals
use Rattle.common.specs.Results.{along, ◌>>=◌}
use Rattle.types.specs.Finding.{Finding, give, found_or, give_if}
use Rattle.types.specs.Environment.{Environment, declaring, fresh_finding}
use Rattle.types.specs.Laws.{MeaningHasName}
use Rattle.types.specs.Views.{program_with}
use Rattle.types.proofs.NextItems.{next_is}
use Rattle.types.specs.Resolution.{TopLevel, nothing_declared, built_in, item_name, item_meaning, signature_of, counted, next_name, next_item, main_finding, resolution, empty_program, next_frame, next_global_cells}
use Rattle.types.proofs.Passing.{then_finds, if_finds, any_finds}
use Rattle.types.proofs.Tables.{ok_inside}
use Rattle.types.proofs.WellFormedPrograms.{last_is, still_is}
use Rattle.types.proofs.ItemNames.{ItemNames, names_with, names_all, no_names, TableNames, items_named}

same_bytes : (a b : List ℕ) → bytes_eq a b ≡ true → a ≡ b
same_bytes [] [] e = refl
same_bytes [] (y ∷ b) e = absurd (cc)
same_bytes (x ∷ a) [] e = absurd (cc)
same_bytes (x ∷ a) (y ∷ b) e =
    let parts = and_parts (x == y) (bytes_eq a b) e in
    let first = eqb-true x y parts.0 in
    let rest = same_bytes a b parts.1 in
    λ i. first i ∷ rest i

-- the name stands under the number of what it means
abbrev PlacedIn : ItemNames → Meaning → List ℕ → Type 0
PlacedIn named (meanings.Item (Channel direction) n) name = slice_get named.channels n ≡ Some name
PlacedIn named (meanings.Item Exception n) name = slice_get (built_in_names ++ named.exceptions) n ≡ Some name
PlacedIn named (meanings.Item Procedure n) name = slice_get named.procedures n ≡ Some name
PlacedIn named (meanings.Variable (Global n) base size) name = slice_get named.globals n ≡ Some name
PlacedIn named (meanings.Variable (Local n) base size) name = ⊥

record NamesAreNumbered (named : ItemNames) (top : TopLevel) : Type 0 where
  pub channels : top.channels ≡ length named.channels
  pub exceptions : top.exceptions ≡ length (built_in_names ++ named.exceptions)
  pub globals : top.globals ≡ length named.globals
  pub procedures : length top.signatures ≡ length named.procedures
  pub names : (name : List ℕ) (meaning : Meaning) → top.names name ≡ Some meaning → PlacedIn named meaning name

placed_declaring : (named : ItemNames) (name : List ℕ) (meaning : Meaning) (names : Environment) → PlacedIn named meaning name
    → ((other : List ℕ) (found : Meaning) → names other ≡ Some found → PlacedIn named found other)
    → (other : List ℕ) (found : Meaning) → declaring name meaning names other ≡ Some found → PlacedIn named found other
placed_declaring named name meaning names placed all other found e = go (bytes_eq name other) refl e
  where
    go : (b : Bool) → bytes_eq name other ≡ b → ◌≡◌ {A = Option Meaning} (cond b (Some meaning) (names other)) (Some found) → PlacedIn named found other
    go true is e =
        let same : meaning ≡ found = cc in
        subst (λ one. PlacedIn named one other) same (subst (PlacedIn named meaning) (same_bytes name other is) placed)
    go false is e = all other found e

placed_further : (named : ItemNames) (item : ItemTree) (meaning : Meaning) (name : List ℕ) → PlacedIn named meaning name → PlacedIn (names_with named item) meaning name
placed_further named (ChannelItem at way label called) (meanings.Item (Channel direction) n) name e = still_is named.channels (called.text ∷ []) n name e
placed_further named (ChannelItem at way label called) (meanings.Item Exception n) name e = e
placed_further named (ChannelItem at way label called) (meanings.Item Procedure n) name e = e
placed_further named (ChannelItem at way label called) (meanings.Variable (Global n) base size) name e = e
placed_further named (ChannelItem at way label called) (meanings.Variable (Local n) base size) name e = e
placed_further named (ExceptionItem at text) (meanings.Item (Channel direction) n) name e = e
placed_further named (ExceptionItem at text) (meanings.Item Exception n) name e = still_is (built_in_names ++ named.exceptions) (text.text ∷ []) n name e
placed_further named (ExceptionItem at text) (meanings.Item Procedure n) name e = e
placed_further named (ExceptionItem at text) (meanings.Variable (Global n) base size) name e = e
placed_further named (ExceptionItem at text) (meanings.Variable (Local n) base size) name e = e
placed_further named (GlobalItem at typed label called value) (meanings.Item (Channel direction) n) name e = e
placed_further named (GlobalItem at typed label called value) (meanings.Item Exception n) name e = e
placed_further named (GlobalItem at typed label called value) (meanings.Item Procedure n) name e = e
placed_further named (GlobalItem at typed label called value) (meanings.Variable (Global n) base size) name e = still_is named.globals (called.text ∷ []) n name e
placed_further named (GlobalItem at typed label called value) (meanings.Variable (Local n) base size) name e = e
placed_further named (ProcedureItem procedure) (meanings.Item (Channel direction) n) name e = e
placed_further named (ProcedureItem procedure) (meanings.Item Exception n) name e = e
placed_further named (ProcedureItem procedure) (meanings.Item Procedure n) name e = still_is named.procedures (procedure.name.text ∷ []) n name e
placed_further named (ProcedureItem procedure) (meanings.Variable (Global n) base size) name e = e
placed_further named (ProcedureItem procedure) (meanings.Variable (Local n) base size) name e = e

new_placed : (named : ItemNames) (top : TopLevel) (item : ItemTree) → NamesAreNumbered named top → PlacedIn (names_with named item) (item_meaning top item) (item_name item).text
new_placed named top (ChannelItem at way label called) kept =
    subst (λ n. slice_get (named.channels ++ called.text ∷ []) n ≡ Some called.text) (sym kept.channels) (last_is named.channels called.text)
new_placed named top (ExceptionItem at name) kept =
    subst (λ n. slice_get ((built_in_names ++ named.exceptions) ++ name.text ∷ []) n ≡ Some name.text) (sym kept.exceptions) (last_is (built_in_names ++ named.exceptions) name.text)
new_placed named top (GlobalItem at typed label called value) kept =
    subst (λ n. slice_get (named.globals ++ called.text ∷ []) n ≡ Some called.text) (sym kept.globals) (last_is named.globals called.text)
new_placed named top (ProcedureItem procedure) kept =
    subst (λ n. slice_get (named.procedures ++ procedure.name.text ∷ []) n ≡ Some procedure.name.text) (sym kept.procedures) (last_is named.procedures procedure.name.text)

counted_placed : (named : ItemNames) (top : TopLevel) (item : ItemTree) (names : Environment) → NamesAreNumbered named top
    → ((name : List ℕ) (meaning : Meaning) → names name ≡ Some meaning → PlacedIn (names_with named item) meaning name)
    → NamesAreNumbered (names_with named item) (record (counted top item) { names = names })
counted_placed named top (ChannelItem at way label called) names kept placed = record {
  channels = omega (arith, kept.channels, length-append named.channels (called.text ∷ []));
  exceptions = kept.exceptions;
  globals = kept.globals;
  procedures = kept.procedures;
  names = placed;
}
counted_placed named top (ExceptionItem at text) names kept placed = record {
  channels = kept.channels;
  exceptions = omega (arith, kept.exceptions, length-append named.exceptions (text.text ∷ []));
  globals = kept.globals;
  procedures = kept.procedures;
  names = placed;
}
counted_placed named top (GlobalItem at typed label called value) names kept placed = record {
  channels = kept.channels;
  exceptions = kept.exceptions;
  globals = omega (arith, kept.globals, length-append named.globals (called.text ∷ []));
  procedures = kept.procedures;
  names = placed;
}
counted_placed named top (ProcedureItem procedure) names kept placed = record {
  channels = kept.channels;
  exceptions = kept.exceptions;
  globals = kept.globals;
  procedures = omega (arith, kept.procedures, length-append top.signatures (signature_of procedure ∷ []), length-append named.procedures (procedure.name.text ∷ []));
  names = placed;
}

names_numbered : (named : ItemNames) (top : TopLevel) (items : List ItemTree) → NamesAreNumbered named top → IfOk (along next_name top items) (NamesAreNumbered (names_all named items))
names_numbered named top [] kept = kept
names_numbered named top (item ∷ items) kept =
    then_finds (next_name top item) (λ next. along next_name next items) (NamesAreNumbered (names_with named item)) _
    (subst (λ found. IfOk found (NamesAreNumbered (names_with named item))) (sym (next_is top item))
    (then_finds (fresh_finding (top.names (item_name item).text) (item_name item).at) _ (λ one. Unit {0}) _
    (any_finds (fresh_finding (top.names (item_name item).text) (item_name item).at)) (λ one nothing.
    counted_placed named top item (declaring (item_name item).text (item_meaning top item) top.names) kept
    (placed_declaring (names_with named item) (item_name item).text (item_meaning top item) top.names (new_placed named top item kept)
    (λ name meaning e. placed_further named item meaning name (kept.names name meaning e))))))
    (λ next kept_next. names_numbered (names_with named item) next items kept_next)

built_in_placed : NamesAreNumbered no_names built_in
built_in_placed = record {
  channels = refl;
  exceptions = refl;
  globals = refl;
  procedures = refl;
  names =
      placed_declaring no_names (codes "End") (meanings.Item Exception 2)
      (declaring (codes "Bounds") (meanings.Item Exception 1) (declaring (codes "Arith") (meanings.Item Exception 0) nothing_declared)) refl
      (placed_declaring no_names (codes "Bounds") (meanings.Item Exception 1) (declaring (codes "Arith") (meanings.Item Exception 0) nothing_declared) refl
      (placed_declaring no_names (codes "Arith") (meanings.Item Exception 0) nothing_declared refl (λ name meaning e. absurd (cc))));
}

-- ---- the whole

pub finds_itself : {A : Type 0} (looked : Finding A) → IfOk looked (λ x. looked ≡ give x)
finds_itself (Ok x) = refl
finds_itself (Err fault) = tt

main_named : (found : Option Meaning) (procedures : List ProcedureEntry) → IfOk (main_finding found procedures) (λ main. found ≡ Some (meanings.Item Procedure main))
unfolding main_finding
main_named None procedures = tt
main_named (Some (meanings.Item Procedure number)) procedures = go (slice_get procedures number)
  where
    go : (entry : Option ProcedureEntry)
        → IfOk (found_or refusals.NoProperMain 0 entry >>= λ procedure. give_if (procedure.parameters == 0 && is_none procedure.result) number refusals.NoProperMain procedure.at)
        (λ main. ◌≡◌ {A = Option Meaning} (Some (meanings.Item Procedure number)) (Some (meanings.Item Procedure main)))
    go None = tt
    go (Some procedure) =
        if_finds (procedure.parameters == 0 && is_none procedure.result) number _ procedure.at (λ main. ◌≡◌ {A = Option Meaning} (Some (meanings.Item Procedure number)) (Some (meanings.Item Procedure main))) (λ plain. refl)
main_named (Some (meanings.Item (Channel direction) n)) procedures = tt
main_named (Some (meanings.Item Exception n)) procedures = tt
main_named (Some (meanings.Variable variable base None)) procedures = tt
main_named (Some (meanings.Variable variable base (Some size))) procedures = tt

both_find : {A : Type 0} (looked : Finding A) (P Q : A → Type 0) → IfOk looked P → IfOk looked Q → IfOk looked (λ x. P x × Q x)
both_find (Ok x) P Q p q = (p, q)
both_find (Err fault) P Q p q = tt

placed_there : (h : PrincipalHierarchy) (tables : Program) (main : ℕ) (named : ItemNames) → TableNames named tables → (meaning : Meaning) (name : List ℕ)
    → PlacedIn named meaning name → MeaningHasName (program_with h tables main) meaning name
placed_there h tables main named kept (meanings.Item (Channel direction) n) name e = ap (λ one. slice_get one n) kept.channels ∙ e
placed_there h tables main named kept (meanings.Item Exception n) name e = ap (λ one. slice_get (built_in_names ++ one) n) kept.exceptions ∙ e
placed_there h tables main named kept (meanings.Item Procedure n) name e = ap (λ one. slice_get one n) kept.procedures ∙ e
placed_there h tables main named kept (meanings.Variable (Global n) base size) name e = ap (λ one. slice_get one n) kept.globals ∙ e
placed_there h tables main named kept (meanings.Variable (Local n) base size) name e = e

pub record MeaningsHaveNames (items : List ItemTree) (program : Program) : Type 0 where
  pub names : (top : TopLevel) → along next_name built_in items ≡ give top → (name : List ℕ) (meaning : Meaning) → top.names name ≡ Some meaning → MeaningHasName program meaning name
  pub main : MeaningHasName program (meanings.Item Procedure program.main) (codes "main")

pub meanings_have_names : (h : PrincipalHierarchy) (written : ProgramTree) → IfOk (resolution h written) (MeaningsHaveNames written.items)
unfolding resolution
meanings_have_names h written =
    let named = names_all no_names written.items in
    let looked = along next_name built_in written.items in
    then_finds looked _ (λ top. (looked ≡ give top) × NamesAreNumbered named top) _
    (both_find looked (λ top. looked ≡ give top) (NamesAreNumbered named) (finds_itself looked) (names_numbered no_names built_in written.items built_in_placed)) (λ top top_parts.
    then_finds (along (next_item h top) empty_program written.items) _ (TableNames named) _
    (items_named h top no_names empty_program written.items (record { exceptions = refl; channels = refl; globals = refl; procedures = refl })) (λ tables kept.
    then_finds (main_finding (top.names (codes "main")) tables.procedures) _ (λ main. top.names (codes "main") ≡ Some (meanings.Item Procedure main)) _
    (main_named (top.names (codes "main")) tables.procedures) (λ main main_is.
    then_finds (along next_global_cells 0 written.items) _ (λ one. Unit {0}) _ (any_finds (along next_global_cells 0 written.items)) (λ cells nothing.
    then_finds (along next_frame tt tables.procedures) _ (λ one. Unit {0}) _ (any_finds (along next_frame tt tables.procedures)) (λ done nothing.
    record {
      names =
          λ other e name meaning means.
          let same : top ≡ other = ok_inside top other (sym top_parts.0 ∙ e) in
          placed_there h tables main named kept meaning name
          (top_parts.1.names name meaning (subst (λ (one : TopLevel). one.names name ≡ Some meaning) (sym same) means));
      main = placed_there h tables main named kept (meanings.Item Procedure main) (codes "main") (top_parts.1.names (codes "main") (meanings.Item Procedure main) main_is);
    })))))
