use Rattle.types.proofs.Buckets.{filled_up, found_at_first}
use Rattle.types.proofs.short_names.ShortNames.with_buckets.Goals as goal

pub returns : goal.returns
returns c = found_at_first c.args.shift _ c.resize.new.self.items c.new.result (filled_up _ _ c.new-buckets.result.items c.resize.new.self.items c.new-buckets.ensures.items c.in_ok-resize.ensures.items) c.new.ensures.empty
