use Rattle.std.proofs.Common.{List, ap, subst, ◌++◌, ◌∙◌, ◌≡◌, ℕ}
use Rattle.principals.specs.ActsFor.{PrincipalHierarchy}
use Rattle.labels.specs.Channel.{ChannelContents}
use Rattle.modules.specs.Contents.{ProcedureContents}
use Rattle.modules.specs.declared.declaration.Global.{Global}
use Rattle.modules.specs.Format.{version_number}
use Rattle.bytecode.specs.Writing.{list_bytes, pair_bytes, text_bytes, channel_bytes, variable_bytes, procedure_bytes, number_bytes}
use Rattle.bytecode.proofs.Written.{module_fits, module_written}
use Rattle.bytecode.proofs.encoding.put_module.Goals as goal

pub put_hierarchy-requires-clause-names : goal.put_hierarchy-requires-clause-names
put_hierarchy-requires-clause-names c = rw c.hierarchy-hierarchy.ensures.hierarchy (module_fits c.args.program.now c.hierarchy-hierarchy.ensures.spelled).names

pub put_hierarchy-requires-clause-each : goal.put_hierarchy-requires-clause-each
put_hierarchy-requires-clause-each c = rw c.hierarchy-hierarchy.ensures.hierarchy (module_fits c.args.program.now c.hierarchy-hierarchy.ensures.spelled).each_name

pub put_hierarchy-requires-clause-pairs : goal.put_hierarchy-requires-clause-pairs
put_hierarchy-requires-clause-pairs c = rw c.hierarchy-hierarchy.ensures.hierarchy (module_fits c.args.program.now c.hierarchy-hierarchy.ensures.spelled).pairs

pub put_names-requires-clause-few : goal.put_names-requires-clause-few
put_names-requires-clause-few c = rw c.exceptions.ensures (module_fits c.args.program.now c.hierarchy-hierarchy.ensures.spelled).exceptions

pub put_names-requires-clause-each : goal.put_names-requires-clause-each
put_names-requires-clause-each c = rw c.exceptions.ensures (module_fits c.args.program.now c.hierarchy-hierarchy.ensures.spelled).each_exception

pub put_list-requires-clause-few : goal.put_list-requires-clause-few
put_list-requires-clause-few c = rw c.channels.ensures (module_fits c.args.program.now c.hierarchy-hierarchy.ensures.spelled).channels

pub put_list-requires-clause-each : goal.put_list-requires-clause-each
put_list-requires-clause-each c = rw c.channels.ensures (module_fits c.args.program.now c.hierarchy-hierarchy.ensures.spelled).each_channel

pub put_list-requires-2-clause-few : goal.put_list-requires-2-clause-few
put_list-requires-2-clause-few c = rw c.globals.ensures (module_fits c.args.program.now c.hierarchy-hierarchy.ensures.spelled).globals

pub put_list-requires-3-clause-few : goal.put_list-requires-3-clause-few
put_list-requires-3-clause-few c = rw c.procedures.ensures.procedures (module_fits c.args.program.now c.hierarchy-hierarchy.ensures.spelled).procedures

pub put_list-requires-3-clause-each : goal.put_list-requires-3-clause-each
put_list-requires-3-clause-each c = rw c.procedures.ensures.procedures (module_fits c.args.program.now c.hierarchy-hierarchy.ensures.spelled).each_procedure

pub returns-clause-written : goal.returns-clause-written
returns-clause-written c =
    let version : ℕ → Type 0 = λ number. c.put_number-2.new.out.items ≡ c.put_number.new.out.items ++ number_bytes number in
    let authority : PrincipalHierarchy → Type 0 = λ h. c.put_hierarchy.new.out.items ≡ c.put_number-2.new.out.items ++ (list_bytes text_bytes h.names ++ list_bytes pair_bytes h.pairs) in
    let names : List (List ℕ) → Type 0 = λ texts. c.put_names.new.out.items ≡ c.put_hierarchy.new.out.items ++ list_bytes text_bytes texts in
    let all : List ChannelContents → Type 0 = λ channels. c.put_list.new.out.items ≡ c.put_names.new.out.items ++ list_bytes channel_bytes channels in
    let variables : List Global → Type 0 = λ globals. c.put_list-2.new.out.items ≡ c.put_list.new.out.items ++ list_bytes variable_bytes globals in
    let runs : List ProcedureContents → Type 0 = λ procedures. c.put_list-3.new.out.items ≡ c.put_list-2.new.out.items ++ list_bytes procedure_bytes procedures in
    let last : ℕ → Type 0 = λ main. c.put_number-3.new.out.items ≡ c.put_list-3.new.out.items ++ number_bytes main in
    module_written c.args.program.now c.args.out.now.items c.put_number.new.out.items c.put_number-2.new.out.items c.put_hierarchy.new.out.items c.put_names.new.out.items c.put_list.new.out.items c.put_list-2.new.out.items c.put_list-3.new.out.items c.put_number-3.new.out.items
    c.in_ok-put_number.ensures
    (subst version (c.number-version.ensures ∙ ap version_number c.version.ensures) c.in_ok-put_number-2.ensures)
    (subst authority c.hierarchy-hierarchy.ensures.hierarchy c.in_ok-put_hierarchy.ensures)
    (subst names c.exceptions.ensures c.in_ok-put_names.ensures)
    (subst all c.channels.ensures c.in_ok-put_list.ensures)
    (subst variables c.globals.ensures c.in_ok-put_list-2.ensures)
    (subst runs c.procedures.ensures.procedures c.in_ok-put_list-3.ensures)
    (subst last c.main.ensures c.in_ok-put_number-3.ensures)
