use Rattle.std.proofs.Common.{length, take, ◌++◌, ◌≡◌}
use Rattle.std.specs.List.{flat_map}
use Rattle.bytecode.specs.Writing.{number_bytes}
use Rattle.bytecode.proofs.writing.put_list.Given as goal

-- the count and the fields up to here are written
abbrev pub invariant-loop-field : goal.invariant-loop-field
invariant-loop-field g l = l.out.items ≡ l.fn.out.items ++ (number_bytes (length l.fields) ++ flat_map g.F.Field.spelling (take l.field-index l.fields))
