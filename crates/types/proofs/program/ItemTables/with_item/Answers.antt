use Rattle.std.proofs.lemmas.Result.{err_from_is_err_and}
use Rattle.syntax.specs.Tree.{name_tree, channel_tree, global_tree, procedure_tree}
use Rattle.types.specs.Views.{top_view, tables_view}
use Rattle.types.proofs.NextItems.{channel_wrong, global_wrong}
use Rattle.types.proofs.ItemsAdded.{exception_added, channel_added, global_added, procedure_added, same_inside, channel_inside, procedure_inside}
use Rattle.types.proofs.program.ItemTables.with_item.Goals as goal
use Rattle.types.proofs.program.ItemTables.with_item.Goals.{in-Channel+in_ok-resolve_channel-in-Channel+in_ok-push-in-Channel, in-Exception+in_ok-from_str-in-Exception+in_ok-push-in-Exception, in-Global+in_ok-global-in-Global+in_ok-push_global-in-Global, in-Procedure+in_ok-after-in-Procedure+in_ok-push-in-Procedure}

pub returns-in_err-resolve_channel-in-Channel-clause-made : goal.returns-in_err-resolve_channel-in-Channel-clause-made
returns-in_err-resolve_channel-in-Channel-clause-made c =
    let p = err_from_is_err_and c.from_residual.result c.from_residual.ensures.1 in
    rw (p.1, p.2, c.in-Channel.is) (channel_wrong c.args.context.now.hierarchy.now (top_view c.args.context.now.top.now) (tables_view c.args.self)
    (channel_tree c.in-Channel.one) c.in_err-resolve_channel-in-Channel.field-0.0 c.in_err-resolve_channel-in-Channel.ensures.made)

pub returns-in_err-global-in-Global-clause-made : goal.returns-in_err-global-in-Global-clause-made
returns-in_err-global-in-Global-clause-made c =
    let p = err_from_is_err_and c.from_residual-in_err-global-in-Global.result c.from_residual-in_err-global-in-Global.ensures.1 in
    rw (p.1, p.2, c.in-Global.is) (global_wrong c.args.context.now.hierarchy.now (top_view c.args.context.now.top.now) (tables_view c.args.self)
    (global_tree c.in-Global.one) c.in_err-global-in-Global.field-0.0 c.in_err-global-in-Global.ensures.made)

pub returns-clause-made : goal.returns-clause-made
returns-clause-made c =
    let h = c.args.context.now.hierarchy.now in
    let top = top_view c.args.context.now.top.now in
    elim c.match-item.branch [
      | in-Channel+in_ok-resolve_channel-in-Channel+in_ok-push-in-Channel w ↦
          rw (w.in-Channel.is, w.variables-is, w.channels-is, w.exceptions-is, w.procedures-is) (channel_added h top c.args.self c.requires.inside w.resolve_channel.new.variables
          w.in_ok-resolve_channel-in-Channel.ensures.more.extended w.in_ok-resolve_channel-in-Channel.ensures.more.globals (channel_tree w.in-Channel.one) w.in_ok-resolve_channel-in-Channel.field-0 w.push.new.self
          w.in_ok-resolve_channel-in-Channel.ensures.made w.in_ok-push-in-Channel.ensures.items)
      | in-Exception+in_ok-from_str-in-Exception+in_ok-push-in-Exception w ↦
          rw (w.in-Exception.is, w.variables-is, w.channels-is, w.exceptions-is, w.procedures-is) (exception_added h top c.args.self w.in-Exception.at (name_tree w.in-Exception.name) w.in_ok-from_str-in-Exception.field-0
          w.push-in-Exception.new.self w.in_ok-from_str-in-Exception.ensures.ok w.in_ok-push-in-Exception.ensures.items)
      | in-Global+in_ok-global-in-Global+in_ok-push_global-in-Global w ↦
          rw (w.in-Global.is, w.variables-is, w.channels-is, w.exceptions-is, w.procedures-is) (global_added h top c.args.self c.requires.inside w.resolve_global.new.variables
          w.in_ok-global-in-Global.ensures.more.extended w.in_ok-global-in-Global.ensures.more.globals (global_tree w.in-Global.one) w.in_ok-global-in-Global.global w.push_global.new.self
          w.in_ok-global-in-Global.ensures.made w.in_ok-push_global-in-Global.ensures)
      | in-Procedure+in_ok-after-in-Procedure+in_ok-push-in-Procedure w ↦
          rw (w.in-Procedure.is, w.variables-is, w.channels-is, w.exceptions-is, w.procedures-is) (procedure_added h top c.args.self c.requires.inside w.in_ok-after-in-Procedure.after
          w.in_ok-after-in-Procedure.ensures.more.extended w.in_ok-after-in-Procedure.ensures.more.globals (procedure_tree w.in-Procedure.one) w.in_ok-after-in-Procedure.procedure w.push-in-Procedure.new.self
          w.in_ok-after-in-Procedure.ensures.made w.in_ok-push-in-Procedure.ensures.items)
    ]

pub returns-clause-inside : goal.returns-clause-inside
returns-clause-inside c = elim c.match-item.branch [
  | in-Channel+in_ok-resolve_channel-in-Channel+in_ok-push-in-Channel w ↦
      rw (w.variables-is, w.channels-is, w.exceptions-is, w.procedures-is) (channel_inside c.args.self c.requires.inside w.resolve_channel.new.variables
      w.in_ok-resolve_channel-in-Channel.ensures.more.extended w.in_ok-resolve_channel-in-Channel.ensures.more.slots w.in_ok-resolve_channel-in-Channel.field-0 w.push.new.self
      w.in_ok-push-in-Channel.ensures.items w.in_ok-resolve_channel-in-Channel.ensures.inside)
  | in-Exception+in_ok-from_str-in-Exception+in_ok-push-in-Exception w ↦
      rw (w.variables-is, w.channels-is, w.exceptions-is, w.procedures-is) (record {
        of_channels = c.requires.inside.of_channels;
        of_procedures = c.requires.inside.of_procedures;
        no_slots = c.requires.inside.no_slots;
      })
  | in-Global+in_ok-global-in-Global+in_ok-push_global-in-Global w ↦
      let inside = same_inside c.args.self c.requires.inside w.resolve_global.new.variables w.in_ok-global-in-Global.ensures.more.extended w.in_ok-global-in-Global.ensures.more.slots in
      rw (w.variables-is, w.channels-is, w.exceptions-is, w.procedures-is, w.in_ok-push_global-in-Global.ensures) (record {
        of_channels = inside.of_channels;
        of_procedures = inside.of_procedures;
        no_slots = inside.no_slots;
      })
  | in-Procedure+in_ok-after-in-Procedure+in_ok-push-in-Procedure w ↦
      rw (w.variables-is, w.channels-is, w.exceptions-is, w.procedures-is) (procedure_inside c.args.self c.requires.inside w.in_ok-after-in-Procedure.after
      w.in_ok-after-in-Procedure.ensures.more.extended w.in_ok-after-in-Procedure.ensures.more.slots w.in_ok-after-in-Procedure.procedure w.push-in-Procedure.new.self
      w.in_ok-push-in-Procedure.ensures.items w.in_ok-after-in-Procedure.ensures.inside)
]
