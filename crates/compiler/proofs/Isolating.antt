-- A module that keeps the meaning of a program that is isolated under every larger hierarchy stays isolated.
use Rattle.labels.specs.Sent.{OneIsPrefix}
use Rattle.std.proofs.Common.{List, sym, subst}
use Rattle.common.specs.declared.sent.Pair.{Pair}
use Rattle.labels.proofs.Isolated.{isolated-views}
use Rattle.labels.proofs.Prefixes.{prefixes-of-two, seen-prefix}
use Rattle.labels.specs.Carried.{label_under}
use Rattle.isolation.specs.Larger.{IsolatedUnderLarger}
use Rattle.resolved.specs.Labelled.{channel_label}
use Rattle.resolved.specs.Meaning.{sent_by}
use Rattle.resolved.specs.Program.{Program}
use Rattle.modules.specs.Contents.{ModuleContents}
use Rattle.modules.specs.Isolated.{channel_label_under, module_view, StaysIsolated}
use Rattle.modules.specs.Machine.{after_steps, sent_after}
use Rattle.modules.proofs.Isolated.{isolated-by_views}
use Rattle.lowering.specs.SameMeaning.{SameMeaning}
use Rattle.lowering.specs.Interface.{HasInterfaceOf}
use Rattle.compiler.proofs.Readers.{contains-module, seen-module, agree-module}

pub isolated-module : (program : Program) (m : ModuleContents) → HasInterfaceOf program m → SameMeaning program (after_steps m) → IsolatedUnderLarger program → StaysIsolated m
isolated-module program m same kept isolated h is_hierarchy contains = (isolated-by_views h m).1 (λ p first second agree i j.
    let xs : List Pair = sent_by program first i in
    let ys : List Pair = sent_by program second j in
    let related : OneIsPrefix (module_view h m p xs) (module_view h m p ys) =
    subst (λ seen. OneIsPrefix seen (module_view h m p ys)) (sym (seen-module program m same h p xs))
    (subst (OneIsPrefix _) (sym (seen-module program m same h p ys))
    (isolated-views h (λ n. label_under program.hierarchy h (channel_label program n)) program.channels (sent_by program)
    (isolated h is_hierarchy (contains-module program m same h contains)) p first second (agree-module program m same h p first second agree) i j)) in
    prefixes-of-two (module_view h m p (sent_after m first i)) (module_view h m p (sent_after m second j)) (module_view h m p xs) (module_view h m p ys)
    (seen-prefix h (channel_label_under h m) p (sent_after m first i) xs (kept.no_more first i))
    (seen-prefix h (channel_label_under h m) p (sent_after m second j) ys (kept.no_more second j)) related)
