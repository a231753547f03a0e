use Rattle.std.proofs.Common.{◌≡◌, length, map, sym, ap, arith}
use Rattle.std.proofs.lemmas.List.{length-map}
use Rattle.types.specs.Resolution.{built_in}
use Rattle.types.specs.Views.{signature_view, top_view}
use Rattle.types.proofs.Loops.{starts}
use Rattle.types.proofs.Tables.{ok_inside}
use Rattle.types.proofs.top.TopNames.of.Goals as goal

pub loop-item-init : goal.loop-item-init
loop-item-init c =
    let e : built_in ≡ top_view c.in_ok-top.top = ok_inside _ _ c.in_ok-top.ensures in
    let no_channels : 0 ≡ c.in_ok-top.top.channels = ap (λ top. top.channels) e in
    let three_exceptions : 3 ≡ c.in_ok-top.top.exceptions = ap (λ top. top.exceptions) e in
    let no_globals : 0 ≡ c.in_ok-top.top.globals = ap (λ top. top.globals) e in
    let no_signatures : 0 ≡ length (map signature_view c.in_ok-top.top.signatures.items) = ap (λ top. length top.signatures) e in
    let long = length-map c.in_ok-top.top.signatures.items signature_view in
    record { on = starts _ _ c.args.items.now _ built_in (sym e); few = omega (arith, long) }
