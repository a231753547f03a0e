-- What compiled bytes promise, from what is known of compiling, of hosts and of the program.
use Rattle.std.proofs.Common.{◌≡◌, ℕ, ◌+◌, ◌-◌, ◌≤◌, List, [], ◌∷◌, Option, Some, None, refl, sym, ap, ◌∙◌, subst, arith, ⊎_elim, inl, inr}
use Rattle.std.specs.Str.{IsUtf8}
use Rattle.std.proofs.lemmas.Bool.{cases_lt}
use Rattle.std.specs.String.{string_bytes}
use Rattle.std.specs.Prelude.{IfSome, Ok, ◌||◌, filter, option_map}
use Rattle.std.specs.List.{list_all, list_any}
use Rattle.std.proofs.lemmas.Bool.Decides.{same_from_decides}
use Rattle.std.proofs.lemmas.Option.{none-some, same_Some}
use Rattle.acceptance.specs.Accepted.{HasHierarchy}
use Rattle.principals.specs.ActsFor.{PrincipalHierarchy, AllDifferent, ContainsHierarchy, HasName, IsHierarchy, acts_for}
use Rattle.principals.specs.Laws.{HasOneHierarchy, IsNotReadAndRefused}
use Rattle.principals.proofs.Closure.{acts_for-decides}
use Rattle.principals.proofs.Names.{one_number}
use Rattle.principals.specs.HierarchyText.{IsReadAs, Formed}
use Rattle.principals.proofs.Total.{described_is_hierarchy}
use Rattle.labels.specs.Carried.{label_under}
use Rattle.labels.specs.Label.{Label, may_read}
use Rattle.common.specs.declared.sent.Pair.{Pair}
use Rattle.labels.specs.Sent.{IsPrefix, OneIsPrefix}
use Rattle.labels.proofs.Prefixes.{prefix-itself, prefixes-of-two, prefix-through, seen-prefix}
use Rattle.resolved.specs.Labelled as labels
use Rattle.resolved.specs.Meaning.{sent_by}
use Rattle.resolved.specs.Program.{Program}
use Rattle.resolved.specs.SourceState.{World}
use Rattle.modules.specs.Contents.{ModuleContents}
use Rattle.bytecode.specs.Decoded.{first_refusal}
use Rattle.modules.specs.ByteFormat.{Fits, Spells}
use Rattle.bytecode.proofs.Both.{module_fits}
use Rattle.modules.specs.Format.{module_file}
use Rattle.modules.specs.Isolated.{AgreeOnInputs, IsIsolated, StaysIsolated, channel_label, module_view}
use Rattle.modules.proofs.Isolated.{isolated-by_views}
use Rattle.modules.proofs.Own.{module-hierarchy, own-isolation, own-view}
use Rattle.modules.specs.Machine.{Machine, Ending, after_steps, machine_code, sent_after, sent_of}
use Rattle.channels.specs.World.{InputNumbers, input_names, numbers_of_channel}
use Rattle.compiler.specs.Compiled.{IsCompiled}
use Rattle.lowering.specs.Interface.{HasInterfaceOf}
use Rattle.channels.specs.WorldText.{IsWorldText, lines_of}
use Rattle.compiler.proofs.Readers.{label-module, seen-module}
use Rattle.compiler.proofs.Typed.{typed_is_not_refused}
use Rattle.lowering.proofs.Sent.{exec-keeps}
use Rattle.modules.proofs.Executing.{exec_more}
use Rattle.machine.specs.Run.{HasEnded}
use Rattle.machine.specs.declared.status.Status.{Status}
use Rattle.verifier.specs.Refusals.{IsNotRefused}
use Rattle.verifier.specs.Loaded.{CannotLoad}
use Rattle.verifier.specs.declared.loading.LoadRefusal.{LoadRefusal}
use Rattle.verifier.specs.declared.loading.LoadRefusal.TheVariants.{Bytes, Code}
use Rattle.host.specs.Laws as sessions
use Rattle.host.specs.Meaning.{CanOpen, IsContained, hierarchy_under}
use Rattle.host.proofs.Ends.{end_of_status, same_at}
use Rattle.flowc.specs.Compiled.{NamedText, bytes_of, text_at}
use Rattle.flowc.specs.Lines.{end_line}
use Rattle.flowc.specs.Promises.{RunsAreIsolated, RunsEndAsTheSource, RunsShowThemselves, CompiledSessionsAreIsolated, SessionsEndAsTheSource, SessionsShowNoLess, SessionsShowNoMore, SilentModulesShowLess, SomeSessionsShowAll, StandardErrorIsFixed, module_in, program_in, program_view, seen_under}
use Rattle.flowc.specs.Stdout.{CanRun, IsViewedUnder, numbers_in, text_shown}
use Rattle.flowc.specs.Task.{reported_status}
use Rattle.flowc.specs.Messages.{IsHierarchyLine, IsObserverLine, IsRefusedLine, IsUnderLine, IsWorldLine, reported_line}
use Rattle.flowc.specs.Messages.IsHierarchyLine.{no_hierarchy, not_contained}
use Rattle.flowc.specs.Messages.IsRefusedLine.{of_hierarchy, of_module, of_observer, of_world}
use Rattle.flowc.specs.Messages.IsWorldLine.{no_text, wrong}
use Rattle.flowc.specs.View.{IsObserver, view_text}
use Rattle.flowc.proofs.Sessions.{opened_for}
use Rattle.flowc.proofs.Refusals.{refused_no_hierarchy, viewed_once, wrong_is_no_world}
use Rattle.channels.proofs.Views.{view_text-append}
use Rattle.verifier.proofs.Reported.{excluded}

-- ---- sessions

-- what was sent stays sent
sent-grows : (m : ModuleContents) (numbers : World) (i j : ℕ) → i ≤ j → IsPrefix (sent_after m numbers i) (sent_after m numbers j)
sent-grows m numbers i j h =
    let program : j ≡ i + (j - i) = omega (arith, h) in
    subst (λ (x : Machine). IsPrefix (sent_after m numbers i) (sent_of x)) (exec_more (machine_code m) i (j - i) j _ program)
    (exec-keeps (machine_code m) (j - i) (after_steps m numbers i))

-- who may read a label by the module's hierarchy may do so by the program's
module _ (program : Program) (m : ModuleContents) (same : HasInterfaceOf program m) where
  acts_for-module : (a b : ℕ) → acts_for m.hierarchy.pairs a b ≡ acts_for program.hierarchy.pairs a b
  acts_for-module a b =
      let left = acts_for-decides m.hierarchy.pairs a b in
      let right = acts_for-decides program.hierarchy.pairs a b in
      same_from_decides (acts_for m.hierarchy.pairs a b) (acts_for program.hierarchy.pairs a b) left ((λ t. (same.acts a b).1 (right.0 t)), (λ acts. right.1 ((same.acts a b).0 acts)))

  may_read-module : (p : ℕ) (label : Label) → may_read m.hierarchy p label ≡ may_read program.hierarchy p label
  may_read-module p label =
      λ i. list_all (λ policy. acts_for-module p policy.owner i || list_any (λ reader. acts_for-module p reader i) policy.readers) label

-- what a principal sees of a module's pairs is what it sees of the program's, also under a larger hierarchy
seen : (program : Program) (m : ModuleContents) → Fits module_file m → HasInterfaceOf program m → (under : Option PrincipalHierarchy) (p : ℕ) (list : List Pair)
    → module_view (hierarchy_under under m) m p list ≡ seen_under program under p list
seen program m fits same None p list =
    own-view m fits p list
    ∙ (λ i. filter (λ pair. may_read-module program m same p (channel_label m pair.channel) i) list)
    ∙ (λ i. filter (λ pair. may_read program.hierarchy p (label-module program m same pair.channel i)) list)
seen program m fits same (Some larger) p list = seen-module program m same larger p list

-- a prefix is seen as a prefix
seen-part : (program : Program) (under : Option PrincipalHierarchy) (p : ℕ) (xs ys : List Pair) → IsPrefix xs ys
    → IsPrefix (seen_under program under p xs) (seen_under program under p ys)
seen-part program None p xs ys part = seen-prefix program.hierarchy (labels.channel_label program) p xs ys part
seen-part program (Some larger) p xs ys part =
    seen-prefix larger (λ channel. label_under program.hierarchy larger (labels.channel_label program channel)) p xs ys part

pub no_more : sessions.SessionsAreFreshRuns → SessionsShowNoMore
no_more fresh said source code compiled world under p pairs shows =
    let m = module_in compiled in
    let program = program_in compiled in
    let numbers = numbers_of_channel m world in
    let n = sessions.steps_of shows in
    subst (λ (list : List Pair). IsPrefix list (program_view program under p numbers n))
    (sym (fresh code world under p pairs m compiled.code_of.spelled shows ∙ seen program m (module_fits m _ compiled.code_of.spelled) compiled.code_of.interface under p (sent_after m numbers n)))
    (seen-part program under p (sent_after m numbers n) (sent_by program numbers n) (compiled.code_of.kept.no_more numbers n))

-- a run that has ended sends no more
sent-ended : (m : ModuleContents) (numbers : World) (n j : ℕ) (ending : Ending) → HasEnded ending (after_steps m numbers n)
    → n ≤ j → sent_after m numbers j ≡ sent_after m numbers n
sent-ended m numbers n j ending ended h =
    ap sent_of (same_at (machine_code m) n j ending (after_steps m numbers 0) h ended)

-- what a session shows, where a fresh run has sent all of a list by the steps that the session has taken
shown-by : sessions.SessionsAreFreshRuns → (hierarchy source code : List ℕ) (compiled : IsCompiled hierarchy source code) (world : List InputNumbers)
    (under : Option PrincipalHierarchy) (p : ℕ) (sent pairs : List Pair) (shows : sessions.Shows code world under p pairs)
    → IsPrefix sent (sent_after (module_in compiled) (numbers_of_channel (module_in compiled) world) (sessions.steps_of shows))
    → IsPrefix (seen_under (program_in compiled) under p sent) pairs
shown-by fresh said source code compiled world under p sent pairs shows later =
    let m = module_in compiled in
    let program = program_in compiled in
    let numbers = numbers_of_channel m world in
    let n = sessions.steps_of shows in
    subst (λ (list : List Pair). IsPrefix (seen_under program under p sent) list)
    (sym (fresh code world under p pairs m compiled.code_of.spelled shows ∙ seen program m (module_fits m _ compiled.code_of.spelled) compiled.code_of.interface under p (sent_after m numbers n)))
    (seen-part program under p sent (sent_after m numbers n) later)

pub no_less : sessions.SessionsAreFreshRuns → sessions.SessionsEndAsReported → SessionsShowNoLess
no_less fresh ends said source code compiled world under p fuel =
    let m = module_in compiled in
    let numbers = numbers_of_channel m world in
    let some = compiled.code_of.kept.no_less numbers fuel in
    let sent = sent_by (program_in compiled) numbers fuel in (
      some.0,
      λ pairs shows run.
          let n = sessions.steps_of shows in
          let long : some.0 ≤ n → IsPrefix sent (sent_after m numbers n) =
          λ enough. prefix-through sent (sent_after m numbers some.0) (sent_after m numbers n) some.1 (sent-grows m numbers some.0 n enough) in
          shown-by fresh said source code compiled world under p sent pairs shows
          (⊎_elim long
          (λ over. ⊎_elim
          (λ past. subst (λ (list : List Pair). IsPrefix sent list)
          (sent-ended m numbers n some.0 over.0 (ends code world under p pairs m compiled.code_of.spelled shows over.0 over.1) (omega (arith, past))) some.1)
          long
          (cases_lt n some.0))
          run),
    )

pub ends_as_the_source : sessions.SessionsAreFreshRuns → sessions.SessionsEndAsReported → SessionsEndAsTheSource
ends_as_the_source fresh ends said source code compiled world under p pairs shows ending reports =
    let m = module_in compiled in
    let program = program_in compiled in
    let numbers = numbers_of_channel m world in
    let n = sessions.steps_of shows in
    let over = ends code world under p pairs m compiled.code_of.spelled shows ending reports in
    let source_ends = compiled.code_of.kept.ends_so numbers n ending (sent_after m numbers n) over in (
      source_ends.0,
      fresh code world under p pairs m compiled.code_of.spelled shows
          ∙ seen program m (module_fits m _ compiled.code_of.spelled) compiled.code_of.interface under p (sent_after m numbers n)
          ∙ ap (λ (list : List Pair). seen_under program under p list) (sym source_ends.1),
    )

-- a list that is a prefix of nothing is empty
prefix_of_nothing : (xs : List Pair) → IsPrefix xs [] → xs ≡ []
prefix_of_nothing [] b = refl
prefix_of_nothing (x ∷ xs) b = cc b.1

pub some_show_all : sessions.SessionsAreFreshRuns → sessions.SessionsEndAsReported → SomeSessionsShowAll
some_show_all fresh ends said source code compiled world under p fuel named contained there =
    let m = module_in compiled in
    let can : CanOpen code world under m = record {
      spelled = compiled.code_of.spelled;
      not_refused = (typed_is_not_refused m).0 compiled.code_of.typed;
      named = named;
      contained = contained;
    } in
    let law = no_less fresh ends said source code compiled world under p fuel in
    let session = opened_for code world under m can compiled.code_of.never_stuck p there law.0 in
    (session.pairs, session.shows, law.1 session.pairs session.shows session.has_run)

pub silent_show_less : SilentModulesShowLess
silent_show_less program m code world under p fuel can never_stuck there silent some less =
    let law = less world under p fuel in
    let session = opened_for code world under m can never_stuck p there law.0 in
    let nothing : session.pairs ≡ [] = session.sees ∙ ap (λ (list : List Pair). module_view (hierarchy_under under m) m p list) (silent session.taken) in
    some (prefix_of_nothing (program_view program under p (numbers_of_channel m world) fuel)
    (subst (λ (list : List Pair). IsPrefix (program_view program under p (numbers_of_channel m world) fuel) list) nothing
    (law.1 session.pairs session.shows session.has_run)))

-- a module that stays isolated is so under each hierarchy that its sessions are opened under
there_isolated : (m : ModuleContents) → Fits module_file m → StaysIsolated m → (under : Option PrincipalHierarchy) → IfSome under IsHierarchy → IsContained m under
    → IsIsolated (hierarchy_under under m) m
there_isolated m fits stays None kept contained = own-isolation m fits stays
there_isolated m fits stays (Some larger) kept contained = stays larger kept contained

pub isolated : (one : (m n : ModuleContents) (bytes : List ℕ) → Spells module_file m bytes → Spells module_file n bytes → m ≡ n)
    → sessions.SessionsAreIsolated → sessions.SessionsCanBeOpened → CompiledSessionsAreIsolated
isolated one law can_be said source code compiled under kept p first second agree pairs others shown other_shown =
    let m = module_in compiled in
    let can = can_be code first under p pairs shown in
    let contained = subst (λ (w : ModuleContents). IsContained w under) (one can.0 m code can.1.spelled compiled.code_of.spelled) can.1.contained in
    law code m under compiled.code_of.spelled (there_isolated m (module_fits m _ compiled.code_of.spelled) compiled.code_of.isolated under kept contained)
    p first second agree pairs others shown other_shown

-- ---- the program

-- the text of a prefix is a prefix of the text of the whole
view-prefix : (m : ModuleContents) (xs ys : List Pair) → IsPrefix xs ys → IsPrefix (view_text m xs) (view_text m ys)
view-prefix m xs ys b = (view_text m b.0, sym (view_text-append m xs b.0) ∙ ap (view_text m) b.1)

views-prefix : (m : ModuleContents) (xs ys : List Pair) → OneIsPrefix xs ys → OneIsPrefix (view_text m xs) (view_text m ys)
views-prefix m xs ys one = ⊎_elim (λ (b : IsPrefix xs ys). inl (view-prefix m xs ys b)) (λ (b : IsPrefix ys xs). inr (view-prefix m ys xs b)) one

-- to an observer with a name no end is reported
no_end_reported : (h : PrincipalHierarchy) (name : List ℕ) (principal : Option ℕ) (end : Status) → IsObserver h (Some name) principal → reported_status principal end ≡ 0
no_end_reported h name None end is = absurd is
no_end_reported h name (Some p) end is = refl

no_line_reported : (m : ModuleContents) (h : PrincipalHierarchy) (name : List ℕ) (principal : Option ℕ) (end : Status) → IsObserver h (Some name) principal
    → reported_line m principal end ≡ []
no_line_reported m h name None end is = absurd is
no_line_reported m h name (Some p) end is = refl

-- the line of a run without an observer
operator_line : (m : ModuleContents) (h : PrincipalHierarchy) (principal : Option ℕ) (end : Status) → IsObserver h None principal
    → reported_line m principal end ≡ end_line m.exceptions end
operator_line m h principal end none = ap (λ (o : Option ℕ). reported_line m o end) none

-- what a text is read as is a hierarchy
read_is_hierarchy : (text : List ℕ) (h : PrincipalHierarchy) → IsReadAs text (Ok h) → IsHierarchy h
read_is_hierarchy text h (Formed _ entries _ _ _ _ built) = described_is_hierarchy entries h built

-- the hierarchy that a run is viewed under is one, and contains the module's
viewed_hierarchy : (m : ModuleContents) → Fits module_file m → (under : Option (List ℕ)) (h : PrincipalHierarchy) → IsViewedUnder m under h → IsHierarchy h
viewed_hierarchy m fits None h is = subst IsHierarchy (sym is) (module-hierarchy m fits)
viewed_hierarchy m fits (Some text) h is = read_is_hierarchy text h is.0.hierarchy_of

viewed_isolated : (m : ModuleContents) → Fits module_file m → StaysIsolated m → (under : Option (List ℕ)) (h : PrincipalHierarchy) → IsViewedUnder m under h → IsIsolated h m
viewed_isolated m fits stays None h is = subst (λ (k : PrincipalHierarchy). IsIsolated k m) (sym is) (own-isolation m fits stays)
viewed_isolated m fits stays (Some text) h is = stays h (viewed_hierarchy m fits (Some text) h is) is.1

-- what an isolated module shows to the principal of a name in two runs
texts_prefix : (m : ModuleContents) (h : PrincipalHierarchy) → AllDifferent h.names → IsIsolated h m → (name first second : List ℕ)
    → ((p : ℕ) → HasName h p name → AgreeOnInputs h m p (numbers_in m first) (numbers_in m second))
    → (p q : Option ℕ) → IsObserver h (Some name) p → IsObserver h (Some name) q
    → (i j : ℕ) → OneIsPrefix (text_shown h m first p i) (text_shown h m second q j)
texts_prefix m h differ isolated_module name first second agree None q is also i j = absurd is
texts_prefix m h differ isolated_module name first second agree (Some p) None is also i j = absurd also
texts_prefix m h differ isolated_module name first second agree (Some p) (Some q) is also i j =
    let same : p ≡ q = one_number h.names differ p q name is also in
    subst (λ (n : ℕ). OneIsPrefix (text_shown h m first (Some p) i) (text_shown h m second (Some n) j)) same
    (views-prefix m (module_view h m p (sent_after m (numbers_in m first) i)) (module_view h m p (sent_after m (numbers_in m second) j))
    ((isolated-by_views h m).0 isolated_module p (numbers_in m first) (numbers_in m second) (agree p is) i j))

-- two runs of one module under one hierarchy
module _ (once : HasOneHierarchy) (m : ModuleContents) (fits : Fits module_file m) (stays : StaysIsolated m) (under : Option (List ℕ)) (name first second : List ℕ)
    (agree : (h : PrincipalHierarchy) (p : ℕ) → IsViewedUnder m under h → HasName h p name → AgreeOnInputs h m p (numbers_in m first) (numbers_in m second)) where
  two_runs : (w v : ModuleContents) → w ≡ m → v ≡ m → (h k : PrincipalHierarchy) → IsViewedUnder w under h → IsViewedUnder v under k
      → (p q : Option ℕ) → IsObserver h (Some name) p → IsObserver k (Some name) q
      → (i j : ℕ) → OneIsPrefix (text_shown h w first p i) (text_shown k v second q j)
  two_runs w v e f h k is also p q observed observed_too i j =
      let here = subst (λ (x : ModuleContents). IsViewedUnder x under h) e is in
      let there = subst (λ (x : ModuleContents). IsViewedUnder x under k) f also in
      let same : h ≡ k = viewed_once once m under h k here there in
      subst (λ (x : ModuleContents). OneIsPrefix (text_shown h x first p i) (text_shown k v second q j)) (sym e)
      (subst (λ (x : ModuleContents). OneIsPrefix (text_shown h m first p i) (text_shown k x second q j)) (sym f)
      (subst (λ (x : PrincipalHierarchy). OneIsPrefix (text_shown h m first p i) (text_shown x m second q j)) same
      (texts_prefix m h (viewed_hierarchy m fits under h here).different (viewed_isolated m fits stays under h here) name first second
      (λ n called. agree h n here called) p q observed (subst (λ (x : PrincipalHierarchy). IsObserver x (Some name) q) (sym same) observed_too) i j)))

pub shows_itself : RunsShowThemselves
shows_itself code world name under steps status old new run = (
  run.reported ∙ no_end_reported run.hierarchy name run.principal run.end run.can_run.observed,
  record {
    program = run.program;
    hierarchy = run.hierarchy;
    principal = run.principal;
    taken = run.taken;
    can_run = run.can_run;
    within = run.within;
    prefix = prefix-itself (text_shown run.hierarchy run.program world run.principal run.taken);
  },
)

-- bytes spell one module at most
module _ (one : (m n : ModuleContents) (bytes : List ℕ) → Spells module_file m bytes → Spells module_file n bytes → m ≡ n) where
  pub runs_isolated : HasOneHierarchy → RunsAreIsolated
  runs_isolated once said source code compiled under name first second agree steps more out other run again =
      let m = module_in compiled in
      let same = one run.program m code run.can_run.spelled compiled.code_of.spelled in
      let same_again = one again.program m code again.can_run.spelled compiled.code_of.spelled in
      prefixes-of-two out other (text_shown run.hierarchy run.program first run.principal run.taken) (text_shown again.hierarchy again.program second again.principal again.taken)
      run.prefix again.prefix
      (two_runs once m (module_fits m _ compiled.code_of.spelled) compiled.code_of.isolated under name first second agree run.program again.program same same_again
      run.hierarchy again.hierarchy run.can_run.viewed again.can_run.viewed
      run.principal again.principal run.can_run.observed again.can_run.observed run.taken again.taken)

  -- ---- ends

  pub run_ends_as_the_source : RunsEndAsTheSource
  run_ends_as_the_source said source code compiled text under steps status line run =
      let m = module_in compiled in
      let same : run.program ≡ m = one run.program m code run.can_run.spelled compiled.code_of.spelled in
      let numbers = numbers_in m text in (
        run.says ∙ operator_line run.program run.hierarchy run.principal run.end run.can_run.observed
            ∙ ap (λ (w : ModuleContents). end_line w.exceptions run.end) same
            ∙ ap (λ names. end_line names run.end) compiled.code_of.interface.exceptions,
        λ ending ends.
            let over : HasEnded ending (after_steps run.program (numbers_in run.program text) run.taken) =
            end_of_status (machine_code run.program) steps run.taken run.end (after_steps run.program (numbers_in run.program text) run.taken) ending ends run.ended in
            let here = subst (λ (w : ModuleContents). HasEnded ending (after_steps w (numbers_in w text) run.taken)) same over in
            (compiled.code_of.kept.ends_so numbers run.taken ending (sent_after m numbers run.taken) here).0,
      )

  -- ---- standard error

  -- what can be run is not refused
  module _ (not_refused : (m : ModuleContents) (bytes : List ℕ) → Spells module_file m bytes → first_refusal bytes ≡ None) where
    right_module : (code : List ℕ) (m : ModuleContents) → Spells module_file m code → IsNotRefused m → (refusal : LoadRefusal) → CannotLoad code refusal → ⊥
    right_module code m spelled accepted (Bytes refusal) found =
        let none = not_refused m code spelled in
        cc
    right_module code m spelled accepted (Code refusal) of_code =
        excluded of_code.0 refusal of_code.2 (subst (λ (w : ModuleContents). IsNotRefused w) (one m of_code.0 code spelled of_code.1) accepted)

    right_world : (path text line : List ℕ) (m other : ModuleContents) → m ≡ other → IsUtf8 text → IsWorldText (input_names m) (lines_of text)
        → IsWorldLine other path text line → ⊥
    right_world path text line m other same encoded right (no_text none says) = none encoded
    right_world path text line m other same encoded right (wrong refusal encoded_too first says) =
        wrong_is_no_world (input_names other) (lines_of text) refusal first
        (subst (λ (w : ModuleContents). IsWorldText (input_names w) (lines_of text)) same right)

    -- the hierarchy that a run can be viewed under is not refused
    right_hierarchy : HasOneHierarchy → IsNotReadAndRefused → (line : List ℕ) (m other : ModuleContents) → m ≡ other → (under : Option NamedText) (h : PrincipalHierarchy)
        → IsViewedUnder m (bytes_of under) h → IsUnderLine other under line → ⊥
    right_hierarchy once not_both line m other same None h viewed wrong_file = none-some wrong_file.0 wrong_file.1
    right_hierarchy once not_both line m other same (Some file) h viewed wrong_file =
        let here : file ≡ wrong_file.0 = same_Some file wrong_file.0 wrong_file.1 in
        right_text once not_both line other file h viewed.0 (subst (λ (w : ModuleContents). ContainsHierarchy h w.hierarchy) same viewed.1)
        (subst (λ (x : NamedText). IsHierarchyLine other x line) (sym here) wrong_file.2)
      where
        right_text : HasOneHierarchy → IsNotReadAndRefused → (line : List ℕ) (other : ModuleContents) (file : NamedText) (h : PrincipalHierarchy) → HasHierarchy file.bytes h
            → ContainsHierarchy h other.hierarchy → IsHierarchyLine other file line → ⊥
        right_text once not_both line other file h has contains (no_hierarchy refusal fault says) = refused_no_hierarchy not_both file.bytes fault.kind fault.at fault.refused h has
        right_text once not_both line other file h has contains (not_contained k also not_there says) =
            not_there (subst (λ (x : PrincipalHierarchy). ContainsHierarchy x other.hierarchy) (once file.bytes h k has.hierarchy_of also.hierarchy_of) contains)

    right_observer : HasOneHierarchy → (name line : List ℕ) (m other : ModuleContents) → m ≡ other → (under : Option (List ℕ)) (h k : PrincipalHierarchy) (principal : Option ℕ)
        → IsViewedUnder m under h → IsViewedUnder other under k → IsObserver h (Some name) principal → IsObserverLine k (Some name) line → ⊥
    right_observer once name line m other same under h k None viewed also observed unknown = absurd observed
    right_observer once name line m other same under h k (Some p) viewed also observed unknown =
        let called : name ≡ unknown.name = cc unknown.named in
        let one_view : h ≡ k = viewed_once once m under h k viewed (subst (λ (w : ModuleContents). IsViewedUnder w under k) (sym same) also) in
        unknown.unknown p
        (subst (λ (text : List ℕ). HasName k p text) called (subst (λ (x : PrincipalHierarchy). HasName x p name) one_view observed))

    right_run : HasOneHierarchy → IsNotReadAndRefused → (code world : NamedText) (under : Option NamedText) (name line : List ℕ) (m : ModuleContents) (h : PrincipalHierarchy) (principal : Option ℕ)
        → CanRun code.bytes world.bytes (bytes_of under) (Some name) m h principal → IsRefusedLine code world under (Some name) line → ⊥
    right_run once not_both code world under name line m h principal can (of_module wrong_module) =
        right_module code.bytes m can.spelled can.not_refused wrong_module.refusal wrong_module.refused
    right_run once not_both code world under name line m h principal can (of_world other spelled not_refused wrong_world) =
        right_world world.path world.bytes line m other (one m other code.bytes can.spelled spelled) can.encoded can.right wrong_world
    right_run once not_both code world under name line m h principal can (of_hierarchy other sound wrong_file) =
        right_hierarchy once not_both line m other (one m other code.bytes can.spelled sound.spelled) under h can.viewed wrong_file
    right_run once not_both code world under name line m h principal can (of_observer other sound k viewed unknown) =
        right_observer once name line m other (one m other code.bytes can.spelled sound.spelled) (bytes_of under) h k principal can.viewed viewed can.observed unknown

    pub error_is_fixed : HasOneHierarchy → IsNotReadAndRefused → StandardErrorIsFixed
    error_is_fixed once not_both file world observer under steps files m h principal can status out_failed line (inl refused_line) =
        absurd (right_run once not_both (text_at file files 0) (text_at world files 1) (option_map (λ path. text_at path files 2) under) (string_bytes observer) line m h principal can refused_line.1)
    error_is_fixed once not_both file world observer under steps files m h principal can status out_failed line (inr (inl fault)) = inr fault
    error_is_fixed once not_both file world observer under steps files m h principal can status out_failed line (inr (inr run)) =
        inl (
          run.reported ∙ no_end_reported run.hierarchy (string_bytes observer) run.principal run.end run.can_run.observed,
          run.says ∙ no_line_reported run.program run.hierarchy (string_bytes observer) run.principal run.end run.can_run.observed,
        )
