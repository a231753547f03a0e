use Rattle.std.proofs.Common.{rules, ◌≡◌, ◌≤◌, ◌+◌, length, arith, refl}
use Rattle.bytecode.proofs.Widths.{most_few, most_goes_on, most_rest, run_few, run_goes_on}
use Rattle.bytecode.proofs.code.read_most.Goals as goal
use Rattle.bytecode.proofs.code.read_most.Goals.{then-len-capacity+in_ok-code, else-len-capacity, then-len-capacity-2+in_ok-code-2, else-len-capacity-2}

pub loop-front-preserved-in-Some : goal.loop-front-preserved-in-Some
loop-front-preserved-in-Some c =
    let v = c.loop-front.invariant in
    let at = c.loop-front.at in
    let wide = c.in-Some.ensures.width in
    let long : 5 + at ≤ length c.args.bytes.now = omega (arith, v.bytes_there, c.loop-front-test.true) in
    record {
      goes_on = rw c.push_reserved.ensures.items (run_goes_on c.args.version 5 at c.args.before.items c.loop-front.code.items c.args.bytes.now c.in-Some.next (omega arith) long wide v.few (c.in-Some.ensures.gives c.args.version) v.goes_on);
      few = rw c.push_reserved.ensures.items (run_few c.args.version 5 at c.args.before.items c.loop-front.code.items c.args.bytes.now c.in-Some.next (omega arith) long wide v.few);
      bytes_there = omega (arith, v.bytes_there, c.push_reserved.ensures.len, c.loop-front-test.true);
      places = omega (arith, v.places, c.push_reserved.ensures.capacity);
      so_far = omega (arith, c.loop-front-test.true, c.push_reserved.ensures.len);
    }

pub loop-front-preserved : goal.loop-front-preserved
loop-front-preserved c =
    let v = c.loop-front.invariant in
    let at = c.loop-front.at in
    let next = c.in-Some-read_plain.next in
    let wide = c.in-Some-read_plain.ensures.width in
    let pushed = c.push_reserved-in-Some-read_plain.ensures in
    let long : 1 + at ≤ length c.args.bytes.now = omega (arith, v.bytes_there, c.loop-front-test.true) in
    record {
      goes_on = rw pushed.items (run_goes_on c.args.version 1 at c.args.before.items c.loop-front.code.items c.args.bytes.now next (omega arith) long wide v.few c.in-Some-read_plain.ensures.gives v.goes_on);
      few = rw pushed.items (run_few c.args.version 1 at c.args.before.items c.loop-front.code.items c.args.bytes.now next (omega arith) long wide v.few);
      bytes_there = omega (arith, v.bytes_there, pushed.len, c.loop-front-test.true);
      places = omega (arith, v.places, pushed.capacity);
      so_far = omega (arith, c.loop-front-test.true, pushed.len);
    }

pub loop-front-2-preserved : goal.loop-front-2-preserved
loop-front-2-preserved c =
    let v = c.loop-front-2.invariant in
    let same : c.if-len-capacity-2.code.items ≡ c.loop-front-2.code.items = elim c.if-len-capacity-2.branch [
      | then-len-capacity-2+in_ok-code-2 w ↦ rw w.code-is w.in_ok-code-2.ensures.same
      | else-len-capacity-2 w ↦ rw w.code-is refl
    ] in
    let next = c.in-Some-read_plain-2.next in
    let wide = c.in-Some-read_plain-2.ensures.width in
    let long : 1 ≤ length c.loop-front-2.front.now = search rules in
    record {
      goes_on = rw (c.push_reserved-in-loop-front-2.ensures.items, same) (most_goes_on c.args.version 1 c.args.before.items c.loop-front-2.code.items c.args.bytes.now c.loop-front-2.front.now next (omega arith) long wide v.few c.in-Some-read_plain-2.ensures.gives v.goes_on);
      few = rw (c.push_reserved-in-loop-front-2.ensures.items, same) (most_few c.args.version 1 c.args.before.items c.loop-front-2.code.items c.args.bytes.now c.loop-front-2.front.now next (omega arith) long wide v.few);
      rest = most_rest c.args.version 1 c.args.before.items c.loop-front-2.code.items c.args.bytes.now c.loop-front-2.front.now next (omega arith) long wide v.few v.rest;
    }
