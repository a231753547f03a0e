-- A module is isolated where its views are.
use Rattle.std.proofs.Common.{◌↔◌}
use Rattle.principals.specs.ActsFor.{PrincipalHierarchy}
use Rattle.labels.proofs.Isolated.{isolated-by_views as by-views}
use Rattle.modules.specs.Contents.{ModuleContents}
use Rattle.modules.specs.Isolated.{IsIsolated, ViewsAreIsolated, channel_label_under}
use Rattle.modules.specs.Machine.{sent_after}

pub isolated-by_views : (h : PrincipalHierarchy) (m : ModuleContents) → IsIsolated h m ↔ ViewsAreIsolated h m
isolated-by_views h m = by-views h (channel_label_under h m) m.channels (sent_after m)
