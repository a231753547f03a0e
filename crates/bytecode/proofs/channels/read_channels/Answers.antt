use Rattle.std.proofs.Common.{[], ◌++◌, ◌∷◌, ◌≡◌}
use Rattle.std.proofs.lemmas.List.{map_push}
use Rattle.std.proofs.lemmas.Result.{err_from_is_err_and}
use Rattle.std.specs.BTreeSet.{contains_text}
use Rattle.modules.specs.FormatParts.{channel_names}
use Rattle.bytecode.proofs.NewNames.{channels_fail, channels_go_on, in_set_more}
use Rattle.bytecode.proofs.channels.read_channels.Goals as goal

pub returns-in_err-channel : goal.returns-in_err-channel
returns-in_err-channel c =
    let p = err_from_is_err_and c.from_residual.result c.from_residual.ensures.1 in
    rw (p.1, p.2) (channels_fail c.in_err-channel.field-0.0 c.args.principals (contains_text c.args.taken) (contains_text c.loop.taken) c.args.count c.loop.counter c.loop.channels.items c.loop.rest.now _ c.loop-test.true c.loop.invariant.has c.in_err-channel.ensures c.loop.invariant.goes_on)

pub loop-preserved : goal.loop-preserved
loop-preserved c =
    let named : channel_names c.push.new.self.items ≡ channel_names c.loop.channels.items ++ c.in_ok-channel.channel.name ∷ [] = rw c.in_ok-push.ensures.items (map_push _ c.loop.channels.items c.in_ok-channel.channel) in
    record {
      goes_on = rw c.in_ok-push.ensures.items (channels_go_on c.args.principals (contains_text c.args.taken) (contains_text c.loop.taken) c.args.count c.loop.counter c.loop.channels.items c.loop.rest.now c.in_ok-channel.channel c.in_ok-channel.after.now _ c.loop-test.true c.loop.invariant.has c.in_ok-channel.ensures c.loop.invariant.goes_on);
      has = rw named (in_set_more (contains_text c.args.taken) (contains_text c.loop.taken) _ (channel_names c.loop.channels.items) c.in_ok-channel.channel.name c.loop.invariant.has (rw c.name.ensures at c.in_ok-take.ensures));
    }
