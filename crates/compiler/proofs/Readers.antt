-- Who may read what in a module is who may do so in its program.
use Rattle.std.proofs.Common.{◌≡◌, ℕ, zero, suc, List, [], ◌∷◌, filter, slice_get, slice_index_or, refl, sym, ap, subst, ◌∙◌}
use Rattle.std.specs.Prelude.{Contains, option_and_then, unwrap_or}
use Rattle.principals.specs.ActsFor.{PrincipalHierarchy, ContainsHierarchy, number_of}
use Rattle.common.specs.declared.sent.Pair.{Pair}
use Rattle.labels.specs.Carried.{carried_label, label_under}
use Rattle.labels.specs.Isolated.{WorldsAgree}
use Rattle.labels.specs.Label.{MayRead, may_read}
use Rattle.labels.specs.Sent.{pairs_for}
use Rattle.common.specs.declared.direction.Direction.TheVariants as channel
use Rattle.resolved.specs.Labelled.{channel_label}
use Rattle.labels.specs.Channel.{ChannelContents}
use Rattle.resolved.specs.Program.{Program}
use Rattle.resolved.specs.SourceState.{World}
use Rattle.modules.specs.Contents.{ModuleContents}
use Rattle.modules.specs.Isolated.{channel_label as module_label, channel_label_under, module_view, AgreeOnInputs}
use Rattle.modules.specs.MachineParts.{label_in}
use Rattle.lowering.specs.Interface.{HasInterfaceOf}

-- what stands in a module's table of channels is what stands in the program's
label_at : (channels : List ChannelContents) (n : ℕ) →
    label_in (slice_get channels n) ≡ (slice_index_or channels n (record { direction = channel.Output; name = []; label = [] })).label
label_at [] n = refl
label_at (entry ∷ channels) zero = refl
label_at (entry ∷ channels) (suc n) = label_at channels n

module _ (program : Program) (m : ModuleContents) (same : HasInterfaceOf program m) where
  pub label-module : (n : ℕ) → module_label m n ≡ channel_label program n
  label-module n = ap (λ (all : List ChannelContents). label_in (slice_get all n)) same.channels ∙ label_at program.channels n

  -- by its names alone a label is under another hierarchy what it is there from the program's
  pub label_under-module : (h : PrincipalHierarchy) (n : ℕ)
      → channel_label_under h m n ≡ label_under program.hierarchy h (channel_label program n)
  label_under-module h n =
      (λ i. carried_label (λ a. unwrap_or (option_and_then (λ name. number_of h name) (slice_get (same.names i) a)) 0) (module_label m n))
      ∙ ap (label_under program.hierarchy h) (label-module n)

  -- what contains the module's hierarchy contains the program's
  pub contains-module : (h : PrincipalHierarchy) → ContainsHierarchy h m.hierarchy → ContainsHierarchy h program.hierarchy
  contains-module h contains = record {
    principals = λ name there. contains.principals name (subst (λ names. Contains names name) (sym same.names) there);
    acts = λ first second acting.
        contains.acts first second (acting.0, acting.1, ap (λ names. slice_get names acting.0) same.names ∙ acting.2, ap (λ names. slice_get names acting.1) same.names ∙ acting.3, (same.acts acting.0 acting.1).1 acting.4);
  }

  -- what a principal sees by the module's labels under a hierarchy is what it sees by the program's
  pub seen-module : (h : PrincipalHierarchy) (p : ℕ) (list : List Pair)
      → module_view h m p list ≡ pairs_for h (λ n. label_under program.hierarchy h (channel_label program n)) p list
  seen-module h p list = λ i. filter (λ pair. may_read h p (label_under-module h pair.channel i)) list

  -- worlds that agree for a principal on the module's inputs do so on the program's
  pub agree-module : (h : PrincipalHierarchy) (p : ℕ) (first second : World) → AgreeOnInputs h m p first second
      → WorldsAgree h (λ n. label_under program.hierarchy h (channel_label program n)) program.channels p first second
  agree-module h p first second agree n channel there input reads =
      agree n channel (ap (λ (all : List ChannelContents). slice_get all n) same.channels ∙ there) input
      (subst (MayRead h p) (sym (label_under-module h n)) reads)
