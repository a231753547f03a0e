-- What a task writes to standard error: one line, or nothing.
-- Source: our own.
use Rattle.std.specs.Prelude.{◌≡◌, ◌≤◌, ◌⊎◌, ℕ, List, [], Bool, false, IsTrue, Option, Some, None, option_map, IsUtf8}
use Rattle.std.specs.Io.KnownBytes.{Appends}
use Rattle.std.specs.String.{string_bytes}
use Rattle.std.specs.declared.alloc.Global.{Global}
use Rattle.std.specs.declared.vec.Vec.{Vec}
use Rattle.principals.specs.ActsFor.{PrincipalHierarchy, ContainsHierarchy, HasName}
use Rattle.acceptance.specs.Accepted.{HasHierarchy}
use Rattle.modules.specs.Contents.{ModuleContents}
use Rattle.modules.specs.ByteFormat.{Spells}
use Rattle.modules.specs.Format.{module_file}
use Rattle.modules.specs.Machine.{after_steps, machine_code}
use Rattle.channels.specs.Sink.{AppendsPrefix}
use Rattle.channels.specs.World.{input_names}
use Rattle.channels.specs.WorldText.{IsWorldRefusal, IsWorldText, lines_of}
use Rattle.channels.specs.declared.kind.WorldRefusal.{WorldRefusal}
use Rattle.checker.specs.Reported.{IsFirstFault, IsHierarchyFault, text_among}
use Rattle.checker.specs.declared.fault.Refusal.{Refusal}
use Rattle.machine.specs.Run.{ReportsStatus}
use Rattle.machine.specs.declared.status.Status.{Status}
use Rattle.verifier.specs.Refusals.{IsNotRefused}
use Rattle.verifier.specs.Loaded.{CannotLoad}
use Rattle.verifier.specs.declared.loading.LoadRefusal.{LoadRefusal}
use Rattle.command_line.specs.declared.request.Task.{Task}
use Rattle.command_line.specs.declared.request.Task.TheVariants.{Check, Build, Run, Explain, List as ListModule}
use Rattle.flowc.specs.Compiled.{NamedText, bytes_at, bytes_of, text_at}
use Rattle.flowc.specs.Lines.{cannot_write, encoding_line, end_line, module_line, no_memory, not_contained_line, observer_line, text_line, world_line}
use Rattle.flowc.specs.Stdout.{CanRun, IsViewedUnder, numbers_in}
use Rattle.flowc.specs.Task.{reported_status}

-- a line was written: all of it, or a prefix of it where the stream failed
abbrev pub WroteLine : (line : List ℕ) → (old new : Option (List ℕ)) → (failed : Bool) → Type 0
WroteLine line old new failed = Appends old new line ⊎ (IsTrue failed × AppendsPrefix old new line)

-- ---- lines of refusals

-- the line reports the first fault of two texts, with the path of the text that it is in
pub record IsTextsLine (hierarchy_path source_path hierarchy source line : List ℕ) : Type 0 where
  pub refusal : Refusal
  pub first : IsFirstFault hierarchy source refusal
  pub says : line ≡ text_line (text_among hierarchy_path source_path refusal.text) refusal

-- the line reports why the bytes of a module cannot be loaded: their first refusal, or a refusal of the code of the module that
-- they spell
pub record IsModuleLine (path code line : List ℕ) : Type 0 where
  pub refusal : LoadRefusal
  pub refused : CannotLoad code refusal
  pub says : line ≡ module_line path refusal

-- the line says that the bytes of a world are no text, or the first wrong line of the text for a module
pub data IsWorldLine (program : ModuleContents) (path text line : List ℕ) : Type 0 where
  no_text : ¬ IsUtf8 text → line ≡ encoding_line path → IsWorldLine program path text line
  wrong : (refusal : WorldRefusal) → IsUtf8 text → IsWorldRefusal (input_names program) (lines_of text) refusal → line ≡ world_line path refusal → IsWorldLine program path text line

-- the line reports why a text has no hierarchy, or says that its hierarchy does not contain that of a module
pub data IsHierarchyLine (program : ModuleContents) (file : NamedText) (line : List ℕ) : Type 0 where
  no_hierarchy : (refusal : Refusal) → IsHierarchyFault file.bytes refusal → line ≡ text_line file.path refusal
      → IsHierarchyLine program file line
  not_contained : (hierarchy : PrincipalHierarchy) → HasHierarchy file.bytes hierarchy
      → ¬ ContainsHierarchy hierarchy program.hierarchy → line ≡ not_contained_line file.path → IsHierarchyLine program file line

-- the same of a hierarchy that is named
abbrev pub IsUnderLine : ModuleContents → (under : Option NamedText) → (line : List ℕ) → Type 0
IsUnderLine program under line = (file : NamedText) × (under ≡ Some file) × IsHierarchyLine program file line

-- the line says that no principal has the name of the observer
pub record IsObserverLine (hierarchy : PrincipalHierarchy) (observer : Option (List ℕ)) (line : List ℕ) : Type 0 where
  pub name : List ℕ
  pub named : observer ≡ Some name
  pub unknown : (principal : ℕ) → ¬ HasName hierarchy principal name
  pub says : line ≡ observer_line name

-- a module and a world for it
pub record AreSound (code text : List ℕ) (program : ModuleContents) : Type 0 where
  pub spelled : Spells module_file program code
  pub not_refused : IsNotRefused program
  pub encoded : IsUtf8 text
  pub right : IsWorldText (input_names program) (lines_of text)

-- the line says why nothing can be run: the module is wrong; or it is right, and the world is wrong for it; or both are right, and
-- the hierarchy that is named is wrong for the module; or all are right, and the observer is none of the hierarchy's principals
pub data IsRefusedLine (code world : NamedText) (under : Option NamedText) (observer : Option (List ℕ)) (line : List ℕ) : Type 0 where
  of_module : IsModuleLine code.path code.bytes line → IsRefusedLine code world under observer line
  of_world : (program : ModuleContents) → Spells module_file program code.bytes → IsNotRefused program
      → IsWorldLine program world.path world.bytes line → IsRefusedLine code world under observer line
  of_hierarchy : (program : ModuleContents) → AreSound code.bytes world.bytes program → IsUnderLine program under line
      → IsRefusedLine code world under observer line
  of_observer : (program : ModuleContents) → AreSound code.bytes world.bytes program → (hierarchy : PrincipalHierarchy)
      → IsViewedUnder program (bytes_of under) hierarchy → IsObserverLine hierarchy observer line
      → IsRefusedLine code world under observer line

-- ---- other lines

-- the line says that a task was not done: standard output failed, or memory ran out
abbrev pub IsFailureLine : (status : ℕ) → (out_failed : Bool) → (line : List ℕ) → Type 0
IsFailureLine status out_failed line = (status ≡ 3) × ((IsTrue out_failed × (line ≡ cannot_write)) ⊎ (line ≡ no_memory))

-- the line of the end of a run, which is not reported to an observer
abbrev pub reported_line : ModuleContents → (principal : Option ℕ) → Status → List ℕ
reported_line program None end = end_line program.exceptions end
reported_line program (Some principal) end = []

-- the line reports the end that a run had come to after at most this number of steps, and to an observer nothing
pub record IsEndLine (code text : List ℕ) (under observer : Option (List ℕ)) (steps status : ℕ) (line : List ℕ) : Type 0 where
  pub program : ModuleContents
  pub hierarchy : PrincipalHierarchy
  pub principal : Option ℕ
  pub taken : ℕ
  pub can_run : CanRun code text under observer program hierarchy principal
  pub within : taken ≤ steps
  pub end : Status
  pub ended : ReportsStatus (machine_code program) steps taken end (after_steps program (numbers_in program text) taken)
  pub reported : status ≡ reported_status principal end
  pub says : line ≡ reported_line program principal end

-- ---- tasks

-- the line of a task of which faults alone are reported: with status 0 none, with status 1 that of a refusal, else that it was
-- not done
abbrev pub IsFaultLine : (IsRefusal : List ℕ → Type 0) → (status : ℕ) → (out_failed : Bool) → (line : List ℕ) → Type 0
IsFaultLine IsRefusal status out_failed line =
    ((status ≡ 0) × (line ≡ []))
    ⊎ (((status ≡ 1) × IsRefusal line) ⊎ IsFailureLine status out_failed line)

-- the same of a check or a build of two texts, which are refused for the first fault of them
abbrev pub IsCompilingLine : (hierarchy_path source_path hierarchy source : List ℕ) → (status : ℕ) → (out_failed : Bool) → (line : List ℕ) → Type 0
IsCompilingLine hierarchy_path source_path hierarchy source =
    IsFaultLine (IsTextsLine hierarchy_path source_path hierarchy source)

-- the line of a run: with status 1 that of a refusal, else that of its end or that it was not done
abbrev pub IsRunLine : (code world : NamedText) (under : Option NamedText) (observer : Option (List ℕ)) → (steps status : ℕ)
    → (out_failed : Bool) → (line : List ℕ) → Type 0
IsRunLine code world under observer steps status out_failed line =
    ((status ≡ 1) × IsRefusedLine code world under observer line)
    ⊎ (IsFailureLine status out_failed line ⊎ IsEndLine code.bytes world.bytes (bytes_of under) observer steps status line)

-- the line with which a task ends with this status; a build writes nothing to standard output that could fail
abbrev pub IsTaskLine : Task → List (Vec ℕ Global) → (status : ℕ) → (out_failed : Bool) → (line : List ℕ) → Type 0
IsTaskLine (Check hierarchy source) files status out_failed line =
    IsCompilingLine (string_bytes hierarchy) (string_bytes source) (bytes_at files 0) (bytes_at files 1) status out_failed line
IsTaskLine (Build hierarchy source out) files status out_failed line =
    IsCompilingLine (string_bytes hierarchy) (string_bytes source) (bytes_at files 0) (bytes_at files 1) status false line
IsTaskLine (Run file world under observer steps) files status out_failed line =
    IsRunLine (text_at file files 0) (text_at world files 1) (option_map (λ path. text_at path files 2) under)
    (option_map string_bytes observer) steps status out_failed line
IsTaskLine (ListModule file) files status out_failed line =
    IsFaultLine (IsModuleLine (string_bytes file) (bytes_at files 0)) status out_failed line
IsTaskLine (Explain hierarchy source) files status out_failed line =
    IsCompilingLine (string_bytes hierarchy) (string_bytes source) (bytes_at files 0) (bytes_at files 1) status out_failed line

-- what a task has written to standard error when it ends with this status, and standard output has failed or not
abbrev pub WritesMessage : Task → List (Vec ℕ Global) → (status : ℕ) → (out_failed : Bool) → (old new : Option (List ℕ)) → (failed : Bool) → Type 0
WritesMessage task files status out_failed old new failed =
    (line : List ℕ) × IsTaskLine task files status out_failed line × WroteLine line old new failed
