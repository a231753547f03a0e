use Rattle.std.proofs.Common.{List, subst, ◌++◌, ◌≡◌, ℕ}
use Rattle.std.specs.Prelude.{OnOk}
use Rattle.bytecode.proofs.Written.{texts-bytes, texts-short}
use Rattle.bytecode.proofs.encoding.put_names.Goals as goal

pub put_list-requires-clause-each : goal.put_list-requires-clause-each
put_list-requires-clause-each c = texts-short c.args.names.now c.requires.each

pub returns : goal.returns
returns c =
    let P : List ℕ → Type 0 = λ bytes. OnOk c.put_list.result (c.put_list.new.out.items ≡ c.args.out.now.items ++ bytes) in
    subst P (texts-bytes c.args.names.now) c.put_list.ensures
