-- Each phase lets a text pass or refuses it, for one reason at one byte.
use Rattle.std.proofs.Common.{◌≡◌, ℕ, refl, sym, ap, ◌∙◌, subst, List, [], ◌∷◌, ◌≤◌, length, ◌⊎◌, inl, inr, ⊎_elim, arith}
use Rattle.std.specs.Prelude.{Option, None, Some, Ok, Err}
use Rattle.std.proofs.lemmas.Str.{IsUtf8-from_is_utf8}
use Rattle.lexer.specs.Cut.{IsCut}
use Rattle.lexer.specs.Cut as lexer
use Rattle.lexer.specs.Terminal.{Terminal}
use Rattle.common.specs.declared.limits.TheConstants.{MAX_TEXT}
use Rattle.common.specs.declared.refusal.RefusalAt.{RefusalAt}
use Rattle.lexer.specs.declared.fault.LexRefusalKind.{LexRefusalKind}
use Rattle.lexer.proofs.Cutting.{has_one_cut, not_cut_and_refused, has_one_refusal}
use Rattle.lexer.proofs.Total.{is_cut_or_refused}
use Rattle.lexer.proofs.Listed.{listed}
use Rattle.parser.specs.Refusal as parser
use Rattle.parser.specs.declared.fault.ParseRefusalKind.{ParseRefusalKind}
use Rattle.parser.proofs.Programs.{one_tree}
use Rattle.parser.proofs.Refusals.{spelled_or_refused, spelled_not_refused, one_refusal}
use Rattle.principals.specs.ActsFor.{PrincipalHierarchy}
use Rattle.principals.specs.declared.fault.HierarchyRefusalKind.{HierarchyRefusalKind}
use Rattle.principals.specs.HierarchyText.{IsReadAs, Formed}
use Rattle.principals.specs.Laws.{HasOneHierarchy, IsReadOrRefused, IsNotReadAndRefused, HierarchiesHaveOneRefusal}
use Rattle.syntax.specs.Grammar.{SpellsProgram}
use Rattle.syntax.specs.Tree.{ProgramTree}
use Rattle.resolved.specs.Program.{Program}
use Rattle.resolved.specs.declared.fault.ExitRefusalKind.{ExitRefusalKind}
use Rattle.resolved.specs.Labelled.{Demand, Labelled, exit_faults}
use Rattle.resolved.proofs.Flow.{labelled-or_refused}
use Rattle.types.specs.Finding.{Finding}
use Rattle.types.specs.declared.fault.TypeRefusalKind.{TypeRefusalKind}
use Rattle.types.specs.Resolution.{resolution}
use Rattle.acceptance.proofs.Texts.{some_inside, no_text_fault, text_no_fault, fault_no_text, no_fault_text}
use Rattle.acceptance.specs.Accepted.{text_fault, IsText, IsTreeOf, IsResolvedFrom, IsAccepted, HasHierarchy, StandFor}
use Rattle.acceptance.specs.Refused.{IsFirstUnmet, IsNoText, TooLong, NotUtf8, IsHierarchyRefused, Unreadable, Wrong, IsSourceRefused, NoText, NoTokens, NoTree, WrongName, WrongEnd, WrongFlow, AreTextsRefusedAt, NoHierarchyText, WrongHierarchy, Source}
use Rattle.acceptance.specs.Laws.{Verdict, Accepted, Refused, IsVerdict, HasVerdict, HasOneVerdict}
use Rattle.acceptance.specs.declared.kind.RefusalKind.{RefusalKind}
use Rattle.acceptance.specs.declared.kind.RefusalKind.TheVariants as kinds
use Rattle.acceptance.specs.declared.kind.Text.{Text}
use Rattle.acceptance.specs.declared.kind.Text.TheVariants as texts
use Rattle.acceptance.proofs.Demands.{first-unmet, one_last, unmet-not_labelled}

-- two kinds of refusal at two bytes are the same
abbrev pub Same : RefusalKind → ℕ → RefusalKind → ℕ → Type 0
Same kind at other there = (kind ≡ other) × (at ≡ there)

-- ---- bytes that are no text

no_text_same : (bytes : List ℕ) (kind other : RefusalKind) (at there : ℕ) → IsNoText bytes kind at → IsNoText bytes other there → Same kind at other there
no_text_same bytes _ _ _ _ (TooLong long) (TooLong again) = (refl, refl)
no_text_same bytes _ _ _ _ (TooLong long) (NotUtf8 short not_utf8) = absurd (omega (arith, long, short))
no_text_same bytes _ _ _ _ (NotUtf8 short not_utf8) (TooLong long) = absurd (omega (arith, long, short))
no_text_same bytes _ _ _ _ (NotUtf8 short not_utf8) (NotUtf8 again others) = (refl, refl)

text_or_no_text : (bytes : List ℕ) (kind : RefusalKind) (at : ℕ) → IsNoText bytes kind at → IsText bytes → ⊥
text_or_no_text bytes _ _ (TooLong long) text = omega (arith, long, text.short)
text_or_no_text bytes _ _ (NotUtf8 short not_utf8) text = not_utf8 text.characters

-- the same by the one test of bytes
no_text_once : (bytes : List ℕ) (kind other : RefusalKind) → text_fault bytes ≡ Some kind → text_fault bytes ≡ Some other → Same kind 0 other 0
no_text_once bytes kind other one two = (some_inside kind other (sym one ∙ two), refl)

text_or_none : (bytes : List ℕ) (kind : RefusalKind) → text_fault bytes ≡ Some kind → text_fault bytes ≡ None → ⊥
text_or_none bytes kind fault none = let both : Some kind ≡ None = sym fault ∙ none in absurd (cc)

readable : (bytes : List ℕ) → (text_fault bytes ≡ None) ⊎ ((kind : RefusalKind) × (text_fault bytes ≡ Some kind))
readable bytes = by_fault (text_fault bytes) refl
  where
    by_fault : (fault : Option RefusalKind) → text_fault bytes ≡ fault → (text_fault bytes ≡ None) ⊎ ((kind : RefusalKind) × (text_fault bytes ≡ Some kind))
    by_fault None e = inl e
    by_fault (Some kind) e = inr (kind, e)

-- ---- the source: what a phase let pass is not what an earlier one refused

cut_refused : (source : List ℕ) (tokens : List Terminal) (refusal : RefusalAt LexRefusalKind) → IsCut source tokens → lexer.IsTextRefused source refusal → ⊥
cut_refused source tokens refusal cut refused = not_cut_and_refused source tokens refusal cut refused

same_tokens : (source : List ℕ) (tree : ProgramTree) (of : IsTreeOf source tree) (tokens : List Terminal) → IsCut source tokens → of.tokens ≡ tokens
same_tokens source tree of tokens cut = has_one_cut source of.tokens tokens of.cut cut

tree_refused : (source : List ℕ) (tree : ProgramTree) (tokens : List Terminal) (refusal : RefusalAt ParseRefusalKind) → IsTreeOf source tree → IsCut source tokens → parser.AreTokensRefused tokens refusal → ⊥
tree_refused source tree tokens refusal of cut refused =
    spelled_not_refused tokens tree refusal (subst (λ ts. SpellsProgram ts tree) (same_tokens source tree of tokens cut) of.spelled) refused

same_tree : (source : List ℕ) (tree other : ProgramTree) → IsTreeOf source tree → IsTreeOf source other → tree ≡ other
same_tree source tree other one two =
    one_tree two.tokens tree other (subst (λ ts. SpellsProgram ts tree) (same_tokens source tree one two.tokens two.cut) one.spelled) two.spelled

module _ (h : PrincipalHierarchy) (source : List ℕ) where
  named_refused : (tree : ProgramTree) (refusal : RefusalAt TypeRefusalKind) (program : Program) → IsTreeOf source tree → resolution h tree ≡ Err refusal → IsResolvedFrom h source program → ⊥
  named_refused tree refusal program of refused resolved =
      let same = same_tree source tree resolved.tree of resolved.tree_of in
      let both : Err refusal ≡ Ok program = sym refused ∙ (ap (resolution h) same ∙ resolved.resolved) in
      cc

  same_refusal : (tree other : ProgramTree) (refusal again : RefusalAt TypeRefusalKind) → IsTreeOf source tree → IsTreeOf source other → resolution h tree ≡ Err refusal → resolution h other ≡ Err again → refusal ≡ again
  same_refusal tree other refusal again one two e f =
      let both : Err refusal ≡ Err again = sym e ∙ (ap (resolution h) (same_tree source tree other one two) ∙ f) in cc

  same_program : (program other : Program) → IsResolvedFrom h source program → IsResolvedFrom h source other → program ≡ other
  same_program program other one two =
      let both : Ok program ≡ Ok other = sym one.resolved ∙ (ap (resolution h) (same_tree source one.tree two.tree one.tree_of two.tree_of) ∙ two.resolved) in cc

  agreed_exit : (program other : Program) (refusal again : RefusalAt ExitRefusalKind) (faults more : List (RefusalAt ExitRefusalKind)) → program ≡ other → exit_faults program ≡ refusal ∷ faults → exit_faults other ≡ again ∷ more → refusal ≡ again
  agreed_exit program other refusal again faults more same e f =
      let both : refusal ∷ faults ≡ again ∷ more = sym e ∙ (ap exit_faults same ∙ f) in cc

  ended_refused : (program other : Program) (refusal : RefusalAt ExitRefusalKind) (faults : List (RefusalAt ExitRefusalKind)) → program ≡ other → exit_faults program ≡ refusal ∷ faults → exit_faults other ≡ [] → ⊥
  ended_refused program other refusal faults same e f =
      let both : refusal ∷ faults ≡ [] = sym e ∙ (ap exit_faults same ∙ f) in cc

  same_flow : (program other : Program) (last again : Demand) → program ≡ other → IsFirstUnmet program last → IsFirstUnmet other again → last ≡ again
  same_flow program other last again same one two = one_last other last again (subst (λ p. IsFirstUnmet p last) same one) two

  -- what an earlier phase refuses does not come to a later one
  lexed_later : (refusal : RefusalAt LexRefusalKind) → lexer.IsTextRefused source refusal → (tree : ProgramTree) → IsTreeOf source tree → ⊥
  lexed_later refusal refused tree of = cut_refused source of.tokens refusal of.cut refused

  source_once : (kind other : RefusalKind) (at there : ℕ) → IsSourceRefused h source kind at → IsSourceRefused h source other there → Same kind at other there
  source_once kind other _ _ (NoText _ one) (NoText _ two) = no_text_once source kind other one two
  source_once kind other _ there (NoText _ one) (NoTokens text _ _) = absurd (text_or_none source kind one text)
  source_once kind other _ there (NoText _ one) (NoTree text _ _ _ _) = absurd (text_or_none source kind one text)
  source_once kind _ _ _ (NoText _ one) (WrongName tree of refusal e) = absurd (text_or_none source kind one of.text)
  source_once kind _ _ _ (NoText _ one) (WrongEnd program from refusal others e) = absurd (text_or_none source kind one from.tree_of.text)
  source_once kind _ _ _ (NoText _ one) (WrongFlow program from ended last refused) = absurd (text_or_none source kind one from.tree_of.text)
  source_once kind other at _ (NoTokens text _ _) (NoText _ two) = absurd (text_or_none source other two text)
  source_once _ _ _ _ (NoTokens _ refusal refused) (NoTokens _ again refused_too) =
      let same : refusal ≡ again = has_one_refusal source refusal again refused refused_too in
      (ap (λ (r : RefusalAt LexRefusalKind). kinds.Lex r.kind) same, ap (λ (r : RefusalAt LexRefusalKind). r.at) same)
  source_once kind other at there (NoTokens _ refusal refused) (NoTree _ tokens cut _ _) = absurd (cut_refused source tokens refusal cut refused)
  source_once kind _ at _ (NoTokens _ refusal refused) (WrongName tree of wrong e) = absurd (lexed_later refusal refused tree of)
  source_once kind _ at _ (NoTokens _ refusal refused) (WrongEnd program from wrong others e) = absurd (lexed_later refusal refused from.tree from.tree_of)
  source_once kind _ at _ (NoTokens _ refusal refused) (WrongFlow program from ended last unmet) = absurd (lexed_later refusal refused from.tree from.tree_of)
  source_once kind other at _ (NoTree text _ _ _ _) (NoText _ two) = absurd (text_or_none source other two text)
  source_once kind other at there (NoTree _ tokens cut _ _) (NoTokens _ refusal refused) = absurd (cut_refused source tokens refusal cut refused)
  source_once _ _ _ _ (NoTree _ tokens cut refusal refused) (NoTree _ others cut_too again refused_too) =
      let one : tokens ≡ others = has_one_cut source tokens others cut cut_too in
      let same : refusal ≡ again = one_refusal others refusal again (subst (λ ts. parser.AreTokensRefused ts refusal) one refused) refused_too in
      (ap (λ (r : RefusalAt ParseRefusalKind). kinds.Parse r.kind) same, ap (λ (r : RefusalAt ParseRefusalKind). r.at) same)
  source_once kind _ at _ (NoTree _ tokens cut refusal refused) (WrongName tree of wrong e) = absurd (tree_refused source tree tokens refusal of cut refused)
  source_once kind _ at _ (NoTree _ tokens cut refusal refused) (WrongEnd program from wrong others e) = absurd (tree_refused source from.tree tokens refusal from.tree_of cut refused)
  source_once kind _ at _ (NoTree _ tokens cut refusal refused) (WrongFlow program from ended last unmet) = absurd (tree_refused source from.tree tokens refusal from.tree_of cut refused)
  source_once _ other _ _ (WrongName tree of wrong e) (NoText _ two) = absurd (text_or_none source other two of.text)
  source_once _ other _ there (WrongName tree of wrong e) (NoTokens _ refusal refused) = absurd (lexed_later refusal refused tree of)
  source_once _ other _ there (WrongName tree of wrong e) (NoTree _ tokens cut refusal refused) = absurd (tree_refused source tree tokens refusal of cut refused)
  source_once _ _ _ _ (WrongName tree of wrong e) (WrongName other of_too again f) =
      let same : wrong ≡ again = same_refusal tree other wrong again of of_too e f in
      (ap (λ (refusal : RefusalAt TypeRefusalKind). kinds.Name refusal.kind) same, ap (λ (refusal : RefusalAt TypeRefusalKind). refusal.at) same)
  source_once _ _ _ _ (WrongName tree of wrong e) (WrongEnd program from refusal others f) = absurd (named_refused tree wrong program of e from)
  source_once _ _ _ _ (WrongName tree of wrong e) (WrongFlow program from ended last unmet) = absurd (named_refused tree wrong program of e from)
  source_once _ other _ _ (WrongEnd program from wrong others e) (NoText _ two) = absurd (text_or_none source other two from.tree_of.text)
  source_once _ other _ there (WrongEnd program from wrong others e) (NoTokens _ refusal refused) = absurd (lexed_later refusal refused from.tree from.tree_of)
  source_once _ other _ there (WrongEnd program from wrong others e) (NoTree _ tokens cut refusal refused) = absurd (tree_refused source from.tree tokens refusal from.tree_of cut refused)
  source_once _ _ _ _ (WrongEnd program from wrong others e) (WrongName tree of refusal f) = absurd (named_refused tree refusal program of f from)
  source_once _ _ _ _ (WrongEnd program from wrong others e) (WrongEnd other from_too again more f) =
      let same : wrong ≡ again = agreed_exit program other wrong again others more (same_program program other from from_too) e f in
      (ap (λ (refusal : RefusalAt ExitRefusalKind). kinds.End refusal.kind) same, ap (λ (refusal : RefusalAt ExitRefusalKind). refusal.at) same)
  source_once _ _ _ _ (WrongEnd program from wrong others e) (WrongFlow other from_too ended last unmet) =
      absurd (ended_refused program other wrong others (same_program program other from from_too) e ended)
  source_once _ other _ _ (WrongFlow program from ended last unmet) (NoText _ two) = absurd (text_or_none source other two from.tree_of.text)
  source_once _ other _ there (WrongFlow program from ended last unmet) (NoTokens _ refusal refused) = absurd (lexed_later refusal refused from.tree from.tree_of)
  source_once _ other _ there (WrongFlow program from ended last unmet) (NoTree _ tokens cut refusal refused) = absurd (tree_refused source from.tree tokens refusal from.tree_of cut refused)
  source_once _ _ _ _ (WrongFlow program from ended last unmet) (WrongName tree of refusal f) = absurd (named_refused tree refusal program of f from)
  source_once _ _ _ _ (WrongFlow program from ended last unmet) (WrongEnd other from_too again more f) =
      absurd (ended_refused other program again more (same_program other program from_too from) f ended)
  source_once _ _ _ _ (WrongFlow program from ended last unmet) (WrongFlow other from_too ended_too again unmet_too) =
      (refl, ap (λ (d : Demand). d.at) (same_flow program other last again (same_program program other from from_too) unmet unmet_too))

  -- an accepted source is not refused
  pub accepted_refused : (program : Program) (kind : RefusalKind) (at : ℕ) → IsAccepted h source program → IsSourceRefused h source kind at → ⊥
  accepted_refused program kind _ accepted (NoText _ no_text) = text_or_none source kind no_text accepted.resolved.tree_of.text
  accepted_refused program kind at accepted (NoTokens _ refusal refused) = lexed_later refusal refused accepted.resolved.tree accepted.resolved.tree_of
  accepted_refused program kind at accepted (NoTree _ tokens cut refusal refused) = tree_refused source accepted.resolved.tree tokens refusal accepted.resolved.tree_of cut refused
  accepted_refused program _ _ accepted (WrongName tree of wrong e) = named_refused tree wrong program of e accepted.resolved
  accepted_refused program _ _ accepted (WrongEnd other from wrong others e) =
      ended_refused other program wrong others (same_program other program from accepted.resolved) e accepted.ended
  accepted_refused program _ _ accepted (WrongFlow other from ended last unmet) =
      unmet-not_labelled other last unmet (subst Labelled (same_program program other accepted.resolved from) accepted.labelled)

  -- ---- each phase lets the source pass or refuses it

  abbrev Refusal : Type 0
  Refusal = (kind : RefusalKind) × (at : ℕ) × IsSourceRefused h source kind at

  checked : (program : Program) → IsResolvedFrom h source program → ((found : Program) × IsAccepted h source found) ⊎ Refusal
  checked program from = by_exits (exit_faults program) refl
    where
      by_exits : (faults : List (RefusalAt ExitRefusalKind)) → exit_faults program ≡ faults → ((found : Program) × IsAccepted h source found) ⊎ Refusal
      by_exits (refusal ∷ others) e = inr (kinds.End refusal.kind, refusal.at, WrongEnd program from refusal others e)
      by_exits [] e =
          ⊎_elim
          (λ labelled. inl (program, record { resolved = from; ended = e; labelled = labelled }))
          (λ unmet. inr (kinds.FlowNotAllowed, unmet.2.at, WrongFlow program from e unmet.2 (first-unmet program unmet.0 unmet.1 unmet.2 unmet.3)))
          (labelled-or_refused program)

  named : (tree : ProgramTree) → IsTreeOf source tree → ((found : Program) × IsAccepted h source found) ⊎ Refusal
  named tree of = by_finding (resolution h tree) refl
    where
      by_finding : (finding : Finding Program) → resolution h tree ≡ finding → ((found : Program) × IsAccepted h source found) ⊎ Refusal
      by_finding (Ok program) e = checked program (record { tree = tree; tree_of = of; resolved = e })
      by_finding (Err refusal) e = inr (kinds.Name refusal.kind, refusal.at, WrongName tree of refusal e)

  parsed : (text : IsText source) (tokens : List Terminal) → IsCut source tokens → ((found : Program) × IsAccepted h source found) ⊎ Refusal
  parsed text tokens cut =
      ⊎_elim
      (λ found. named found.0 (record { text = text_no_fault source text; tokens = tokens; cut = cut; spelled = found.1 }))
      (λ found. inr (kinds.Parse found.0.kind, found.0.at, NoTree (text_no_fault source text) tokens cut found.0 found.1))
      (spelled_or_refused tokens (listed source tokens (IsUtf8-from_is_utf8 source text.characters) cut).terminated)

  lexed : IsText source → ((found : Program) × IsAccepted h source found) ⊎ Refusal
  lexed text =
      ⊎_elim
      (λ found. parsed text found.0 found.1)
      (λ found. inr (kinds.Lex found.0.kind, found.0.at, NoTokens (text_no_fault source text) found.0 found.1))
      (is_cut_or_refused source (IsUtf8-from_is_utf8 source text.characters))

  read : ((found : Program) × IsAccepted h source found) ⊎ Refusal
  read = ⊎_elim (λ none. lexed (no_fault_text source none)) (λ fault. inr (fault.0, 0, NoText fault.0 fault.1)) (readable source)

-- ---- the parts of the rules

pub hierarchy_refused : (hierarchy source : List ℕ) (kind : RefusalKind) (at : ℕ) → IsHierarchyRefused hierarchy kind at →
    AreTextsRefusedAt hierarchy source texts.Hierarchy kind at
hierarchy_refused hierarchy source _ _ (Unreadable kind at no_text) =
    let fault = no_text_fault hierarchy kind at no_text in
    subst (λ place. AreTextsRefusedAt hierarchy source texts.Hierarchy kind place) (sym fault.1) (NoHierarchyText kind fault.0)
hierarchy_refused hierarchy source _ _ (Wrong is_text refusal refused) = WrongHierarchy (text_no_fault hierarchy is_text) refusal refused

pub stands_accepted : (hierarchy source : List ℕ) (program : Program) (stand : StandFor hierarchy source program) → IsAccepted stand.principals source program
stands_accepted hierarchy source program stand = record { resolved = stand.resolved; ended = stand.ended; labelled = stand.labelled }

pub accepted_stand : (hierarchy source : List ℕ) (h : PrincipalHierarchy) (program : Program) → HasHierarchy hierarchy h → IsAccepted h source program → StandFor hierarchy source program
accepted_stand hierarchy source h program has accepted =
    record { principals = h; has = has; resolved = accepted.resolved; ended = accepted.ended; labelled = accepted.labelled }

-- a text that has a hierarchy is not too long
pub read_fits : (text : List ℕ) (h : PrincipalHierarchy) → IsReadAs text (Ok h) → length text ≤ MAX_TEXT
read_fits text h (Formed _ _ _ fits _ _ _) = fits

-- the laws of the texts of hierarchies
pub record HierarchyLaws : Type 0 where
  pub read_or_refused : IsReadOrRefused
  pub one_hierarchy : HasOneHierarchy
  pub not_both : IsNotReadAndRefused
  pub one_refusal : HierarchiesHaveOneRefusal

module _ (laws : HierarchyLaws) where
  -- ---- the hierarchy

  unreadable : (text : List ℕ) (kind : RefusalKind) → text_fault text ≡ Some kind → IsHierarchyRefused text kind 0
  unreadable text kind fault = Unreadable kind 0 (fault_no_text text kind fault)

  hierarchy_once : (text : List ℕ) (kind other : RefusalKind) (at there : ℕ) → IsHierarchyRefused text kind at → IsHierarchyRefused text other there → Same kind at other there
  hierarchy_once text kind other at there (Unreadable _ _ one) (Unreadable _ _ two) = no_text_same text kind other at there one two
  hierarchy_once text kind other at there (Unreadable _ _ one) (Wrong is_text refusal refused) = absurd (text_or_no_text text kind at one is_text)
  hierarchy_once text kind other at there (Wrong is_text refusal refused) (Unreadable _ _ two) = absurd (text_or_no_text text other there two is_text)
  hierarchy_once text _ _ _ _ (Wrong _ refusal refused) (Wrong _ again refused_too) =
      let same : refusal ≡ again = laws.one_refusal text refusal again refused refused_too in
      (ap (λ (r : RefusalAt HierarchyRefusalKind). kinds.Hierarchy r.kind) same, ap (λ (r : RefusalAt HierarchyRefusalKind). r.at) same)

  hierarchy_or_refused : (text : List ℕ) (h : PrincipalHierarchy) (kind : RefusalKind) (at : ℕ) → HasHierarchy text h → IsHierarchyRefused text kind at → ⊥
  hierarchy_or_refused text h kind at has (Unreadable _ _ no_text) =
      text_or_no_text text kind at no_text (record { short = read_fits text h has.hierarchy_of; characters = has.characters })
  hierarchy_or_refused text h kind at has (Wrong is_text refusal refused) = laws.not_both text h refusal has.hierarchy_of refused

  hierarchy_read : (text : List ℕ) → ((h : PrincipalHierarchy) × HasHierarchy text h) ⊎ ((kind : RefusalKind) × (at : ℕ) × IsHierarchyRefused text kind at)
  hierarchy_read text = ⊎_elim (λ none. reads (no_fault_text text none)) (λ fault. inr (fault.0, 0, Unreadable fault.0 0 (fault_no_text text fault.0 fault.1))) (readable text)
    where
      reads : IsText text → ((h : PrincipalHierarchy) × HasHierarchy text h) ⊎ ((kind : RefusalKind) × (at : ℕ) × IsHierarchyRefused text kind at)
      reads is_text =
          ⊎_elim
          (λ found. inl (found.0, record { characters = is_text.characters; hierarchy_of = found.1 }))
          (λ found. inr (kinds.Hierarchy found.0.kind, found.0.at, Wrong is_text found.0 found.1))
          (laws.read_or_refused text (IsUtf8-from_is_utf8 text is_text.characters))

  -- ---- both texts

  pub has_verdict : HasVerdict
  has_verdict hierarchy source = ⊎_elim under (λ refused. (Refused texts.Hierarchy refused.0 refused.1, hierarchy_refused hierarchy source refused.0 refused.1 refused.2)) (hierarchy_read hierarchy)
    where
      under : ((h : PrincipalHierarchy) × HasHierarchy hierarchy h) → (verdict : Verdict) × IsVerdict hierarchy source verdict
      under found =
          ⊎_elim
          (λ accepted. (Accepted accepted.0, accepted_stand hierarchy source found.0 accepted.0 found.1 accepted.1))
          (λ refused. (Refused texts.Source refused.0 refused.1, Source found.0 found.1 refused.0 refused.1 refused.2))
          (read found.0 source)

  same_hierarchy : (text : List ℕ) (h other : PrincipalHierarchy) → HasHierarchy text h → HasHierarchy text other → h ≡ other
  same_hierarchy text h other one two = laws.one_hierarchy text h other one.hierarchy_of two.hierarchy_of

  in_hierarchy_once : (hierarchy : List ℕ) (kind other : RefusalKind) (at there : ℕ) → IsHierarchyRefused hierarchy kind at → IsHierarchyRefused hierarchy other there →
      Refused texts.Hierarchy kind at ≡ Refused texts.Hierarchy other there
  in_hierarchy_once hierarchy kind other at there one two =
      let same = hierarchy_once hierarchy kind other at there one two in
      ap (λ c. Refused texts.Hierarchy c at) same.0 ∙ ap (Refused texts.Hierarchy other) same.1

  refused_once : (hierarchy source : List ℕ) (text again : Text) (kind other : RefusalKind) (at there : ℕ) →
      AreTextsRefusedAt hierarchy source text kind at → AreTextsRefusedAt hierarchy source again other there → Refused text kind at ≡ Refused again other there
  refused_once hierarchy source _ _ kind other _ _ (NoHierarchyText _ one) (NoHierarchyText _ two) =
      in_hierarchy_once hierarchy kind other 0 0 (unreadable hierarchy kind one) (unreadable hierarchy other two)
  refused_once hierarchy source _ _ kind _ _ _ (NoHierarchyText _ one) (WrongHierarchy none refusal refused) =
      in_hierarchy_once hierarchy kind _ 0 _ (unreadable hierarchy kind one) (Wrong (no_fault_text hierarchy none) refusal refused)
  refused_once hierarchy source _ _ _ other _ _ (WrongHierarchy none refusal refused) (NoHierarchyText _ two) =
      in_hierarchy_once hierarchy _ other _ 0 (Wrong (no_fault_text hierarchy none) refusal refused) (unreadable hierarchy other two)
  refused_once hierarchy source _ _ _ _ _ _ (WrongHierarchy none refusal refused) (WrongHierarchy none_too again refused_too) =
      in_hierarchy_once hierarchy _ _ _ _ (Wrong (no_fault_text hierarchy none) refusal refused) (Wrong (no_fault_text hierarchy none_too) again refused_too)
  refused_once hierarchy source _ _ kind other _ there (NoHierarchyText _ one) (Source h has _ _ two) =
      absurd (hierarchy_or_refused hierarchy h kind 0 has (unreadable hierarchy kind one))
  refused_once hierarchy source _ _ _ other _ there (WrongHierarchy none refusal refused) (Source h has _ _ two) =
      absurd (hierarchy_or_refused hierarchy h _ _ has (Wrong (no_fault_text hierarchy none) refusal refused))
  refused_once hierarchy source _ _ kind other at _ (Source h has _ _ one) (NoHierarchyText _ two) =
      absurd (hierarchy_or_refused hierarchy h other 0 has (unreadable hierarchy other two))
  refused_once hierarchy source _ _ kind _ at _ (Source h has _ _ one) (WrongHierarchy none refusal refused) =
      absurd (hierarchy_or_refused hierarchy h _ _ has (Wrong (no_fault_text hierarchy none) refusal refused))
  refused_once hierarchy source _ _ kind other at there (Source h has _ _ one) (Source k has_too _ _ two) =
      let same = source_once k source kind other at there (subst (λ p. IsSourceRefused p source kind at) (same_hierarchy hierarchy h k has has_too) one) two in
      ap (λ c. Refused texts.Source c at) same.0 ∙ ap (Refused texts.Source other) same.1

  accepted_or_refused : (hierarchy source : List ℕ) (program : Program) (text : Text) (kind : RefusalKind) (at : ℕ) →
      StandFor hierarchy source program → AreTextsRefusedAt hierarchy source text kind at → ⊥
  accepted_or_refused hierarchy source program _ kind _ stand (NoHierarchyText _ fault) =
      hierarchy_or_refused hierarchy stand.principals kind 0 stand.has (unreadable hierarchy kind fault)
  accepted_or_refused hierarchy source program _ _ _ stand (WrongHierarchy none refusal refused) =
      hierarchy_or_refused hierarchy stand.principals _ _ stand.has (Wrong (no_fault_text hierarchy none) refusal refused)
  accepted_or_refused hierarchy source program _ kind at stand (Source h has _ _ refused) =
      accepted_refused stand.principals source program kind at (stands_accepted hierarchy source program stand)
      (subst (λ p. IsSourceRefused p source kind at) (same_hierarchy hierarchy h stand.principals has stand.has) refused)

  pub has_one_verdict : HasOneVerdict
  has_one_verdict hierarchy source (Accepted program) (Accepted other) one two =
      let same = same_hierarchy hierarchy one.principals two.principals one.has two.has in
      let resolved = subst (λ p. IsResolvedFrom p source program) same one.resolved in
      ap Accepted (same_program two.principals source program other resolved two.resolved)
  has_one_verdict hierarchy source (Accepted program) (Refused text kind at) one two = absurd (accepted_or_refused hierarchy source program text kind at one two)
  has_one_verdict hierarchy source (Refused text kind at) (Accepted program) one two = absurd (accepted_or_refused hierarchy source program text kind at two one)
  has_one_verdict hierarchy source (Refused text kind at) (Refused again other there) one two = refused_once hierarchy source text again kind other at there one two
