-- The bytes of the module that a program's graph is laid out as are its code.
use Rattle.std.proofs.Common.{◌≡◌, ◌∙◌, ◌↔◌, ℕ, List, ap, sym, subst}
use Rattle.principals.specs.ActsFor.{ActsFor, PrincipalHierarchy}
use Rattle.isolation.specs.Larger.{IsolatedUnderLarger}
use Rattle.resolved.specs.Program.{Program}
use Rattle.modules.specs.Contents.{ModuleContents}
use Rattle.modules.specs.ByteFormat.{Spells}
use Rattle.modules.specs.Format.{module_file}
use Rattle.layout.specs.Offsets.{laid_out}
use Rattle.layout.specs.Runs.{graph_after_steps}
use Rattle.layout.specs.SameRuns.{SameInterface, SameRuns}
use Rattle.verifier.specs.Refusals.{IsNotRefused}
use Rattle.verifier.specs.Safety.{IsNeverStuck}
use Rattle.lowering.specs.Interface.{HasInterfaceOf}
use Rattle.lowering.specs.SameMeaning.{SameMeaning}
use Rattle.lowering.proofs.Keeping.{layout-keeps}
use Rattle.compiler.specs.Compiled.{IsCodeOf}
use Rattle.compiler.proofs.Isolating.{isolated-module}
use Rattle.compiler.proofs.Typed.{typed_from}

module _ (program : Program) (graph m : ModuleContents) (interface : HasInterfaceOf program graph) (same : SameInterface graph m) where
  -- the module shows what the graph does
  same-interface : HasInterfaceOf program m
  same-interface = record {
    version = same.version ∙ interface.version;
    names = ap (λ (h : PrincipalHierarchy). h.names) same.hierarchy ∙ interface.names;
    acts = λ a b. subst (λ (h : PrincipalHierarchy). ActsFor h.pairs a b ↔ ActsFor program.hierarchy.pairs a b) (sym same.hierarchy) (interface.acts a b);
    channels = same.channels ∙ interface.channels;
    exceptions = same.exceptions ∙ interface.exceptions;
  }

  pub code_of_module : (code : List ℕ) → m ≡ laid_out graph → SameRuns graph m → SameMeaning program (graph_after_steps graph) → IsNotRefused (laid_out graph) → IsNeverStuck (laid_out graph) →
      Spells module_file m code → IsolatedUnderLarger program → IsCodeOf program code
  code_of_module code is runs kept not_refused never_stuck spelled isolated =
      let meaning = layout-keeps program graph m kept runs in
      record {
        contents = m;
        spelled = spelled;
        typed = typed_from m (subst IsNotRefused (sym is) not_refused);
        never_stuck = subst IsNeverStuck (sym is) never_stuck;
        interface = same-interface;
        kept = meaning;
        isolated = isolated-module program m same-interface meaning isolated;
      }
