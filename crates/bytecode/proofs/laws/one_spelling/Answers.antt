use Rattle.std.proofs.Common.{[], refl, sym, ◌∙◌}
use Rattle.modules.specs.Format.{module_file}
use Rattle.bytecode.proofs.Both.{one_spelling}
use Rattle.bytecode.proofs.Lawful.{module_file-coherent}
use Rattle.bytecode.proofs.Spelt.{own, spells}
use Rattle.bytecode.proofs.laws.one_spelling.Goals as goal

pub returns-clause-contents : goal.returns-clause-contents
returns-clause-contents c = λ m n bytes h k. (one_spelling module_file module_file-coherent m n bytes bytes [] [] h k refl).0

pub returns-clause-bytes : goal.returns-clause-bytes
returns-clause-bytes c = λ m a b h k.
    (own module_file module_file-coherent m a h).1 ∙ sym (own module_file module_file-coherent m b k).1

pub returns-clause-each : goal.returns-clause-each
returns-clause-each c = λ m h. spells module_file module_file-coherent m h
