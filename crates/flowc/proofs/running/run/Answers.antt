use Rattle.std.proofs.Common.{◌≡◌, ◌∙◌, false, IfOk, option_map, subst, sym}
use Rattle.std.specs.String.{string_bytes}
use Rattle.flowc.specs.Lines.{IsPerformFault}
use Rattle.modules.specs.Contents.{ModuleContents}
use Rattle.host.specs.Meaning.{IsContained, hierarchy_under}
use Rattle.flowc.proofs.Cut.{appended_all, can_run_lent, cut_off, ends_so, shows_run, sound_by}
use Rattle.flowc.proofs.Reporting.{memory_message, memory_status, observer_message, start_message, under_message, unwritten_message, unwritten_status}
use Rattle.flowc.specs.Compiled.{bytes_of}
use Rattle.flowc.specs.Given.{text_of}
use Rattle.flowc.specs.Messages.{IsObserverLine, IsRefusedLine, reported_line}
use Rattle.flowc.specs.Stdout.{IsViewedUnder}
use Rattle.flowc.proofs.Refusals.{observed_by_none, viewed_by_none}
use Rattle.flowc.proofs.running.run.Goals as goal
use Rattle.channels.proofs.Views.{on_err}

pub show-requires : goal.show-requires
show-requires g c =
    let program = c.module.ensures ∙ sym c.run-status.ensures.unchanged in
    record { contained = subst (λ (w : ModuleContents). IsContained w c.in_ok-larger.larger) program c.in_ok-larger.ensures.contained }

pub returns-in_err-machine-clause-message : goal.returns-in_err-machine-clause-message
returns-in_err-machine-clause-message g c =
    start_message c.from_residual.result (text_of c.args.files.code) (text_of c.args.files.world) _ _ _ _ c.from_residual.ensures.1 c.in_err-machine.ensures.message

pub returns-in_err-larger-clause-message : goal.returns-in_err-larger-clause-message
returns-in_err-larger-clause-message g c =
    let m = c.in_ok-machine.machine.program in
    let sound = sound_by c.args.files.code.bytes.now c.args.files.world.bytes.now m c.in_ok-machine.ensures.accepted.spelled c.in_ok-machine.ensures.accepted.not_refused c.in_ok-machine.ensures.encoded c.in_ok-machine.ensures.right in
    under_message c.from_residual-in_err-larger.result m c.module.result.now (text_of c.args.files.code) (text_of c.args.files.world) _ _ _ _ sound c.module.ensures
    c.from_residual-in_err-larger.ensures.1 c.in_err-larger.ensures.message

pub returns-in_err-larger-clause-rejected : goal.returns-in_err-larger-clause-rejected
returns-in_err-larger-clause-rejected g c =
    viewed_by_none c.from_residual-in_err-larger.result _ _ (bytes_of (option_map text_of c.args.files.under)) _ c.in_ok-machine.machine.program c.module.result.now _
    c.in_ok-machine.ensures.accepted.only c.module.ensures c.from_residual-in_err-larger.ensures.1 c.in_err-larger.ensures.rejected

pub returns-in_err-principal-clause-message : goal.returns-in_err-principal-clause-message
returns-in_err-principal-clause-message g c =
    let m = c.in_ok-machine.machine.program in
    let sound = sound_by c.args.files.code.bytes.now c.args.files.world.bytes.now m c.in_ok-machine.ensures.accepted.spelled c.in_ok-machine.ensures.accepted.not_refused c.in_ok-machine.ensures.encoded c.in_ok-machine.ensures.right in
    let larger = c.in_ok-larger.larger in
    let viewed : IsViewedUnder m (bytes_of (option_map text_of c.args.files.under)) (hierarchy_under larger m) =
    subst (λ (w : ModuleContents). IsViewedUnder w (bytes_of (option_map text_of c.args.files.under)) (hierarchy_under larger w)) c.module.ensures c.in_ok-larger.ensures.accepted in
    let message = subst (λ (w : ModuleContents). IsPerformFault (IsObserverLine (hierarchy_under larger w) (option_map (λ name. name.now) c.args.observer)) false c.in_err-principal.field-0.0) c.module-2.ensures c.in_err-principal.ensures.message in
    observer_message c.from_residual-in_err-principal.result m (hierarchy_under larger m) (text_of c.args.files.code) (text_of c.args.files.world) (option_map text_of c.args.files.under) _ _ _ sound viewed
    c.from_residual-in_err-principal.ensures.1 message

pub returns-in_err-principal-clause-rejected : goal.returns-in_err-principal-clause-rejected
returns-in_err-principal-clause-rejected g c =
    let m = c.in_ok-machine.machine.program in
    let sound = sound_by c.args.files.code.bytes.now c.args.files.world.bytes.now m c.in_ok-machine.ensures.accepted.spelled c.in_ok-machine.ensures.accepted.not_refused c.in_ok-machine.ensures.encoded c.in_ok-machine.ensures.right in
    let larger = c.in_ok-larger.larger in
    let viewed : IsViewedUnder m (bytes_of (option_map text_of c.args.files.under)) (hierarchy_under larger m) =
    subst (λ (w : ModuleContents). IsViewedUnder w (bytes_of (option_map text_of c.args.files.under)) (hierarchy_under larger w)) c.module.ensures c.in_ok-larger.ensures.accepted in
    observed_by_none c.from_residual-in_err-principal.result _ _ (bytes_of (option_map text_of c.args.files.under)) (option_map (λ name. name.now) c.args.observer) m
    c.module-2.result.now larger _ c.in_ok-machine.ensures.accepted.only c.module-2.ensures viewed c.one_reading.ensures.one_hierarchy
    c.from_residual-in_err-principal.ensures.1 c.in_err-principal.ensures.rejected

pub returns-in_err-show-clause-rejected : goal.returns-in_err-show-clause-rejected
returns-in_err-show-clause-rejected g c =
    unwritten_status c.from_residual-in_err-show.result _ _ c.from_residual-in_err-show.ensures.1

pub returns-in_err-show-clause-unchanged : goal.returns-in_err-show-clause-unchanged
returns-in_err-show-clause-unchanged g c =
    unwritten_status c.from_residual-in_err-show.result _ _ c.from_residual-in_err-show.ensures.1

pub returns-in_err-show-clause-message : goal.returns-in_err-show-clause-message
returns-in_err-show-clause-message g c =
    unwritten_message c.from_residual-in_err-show.result
    (IsRefusedLine (text_of c.args.files.code) (text_of c.args.files.world) (option_map text_of c.args.files.under) (option_map (λ name. name.now) c.args.observer))
    _ _ c.from_residual-in_err-show.ensures.1 c.in_err-show.ensures.rejected

pub returns-in_err-show-clause-prefix : goal.returns-in_err-show-clause-prefix
returns-in_err-show-clause-prefix g c =
    let m = c.in_ok-machine.machine.program in
    let sound = sound_by c.args.files.code.bytes.now c.args.files.world.bytes.now m c.in_ok-machine.ensures.accepted.spelled c.in_ok-machine.ensures.accepted.not_refused c.in_ok-machine.ensures.encoded c.in_ok-machine.ensures.right in
    let larger = c.in_ok-larger.larger in
    let principal = c.in_ok-principal.principal in
    let can = can_run_lent _ _ (bytes_of (option_map text_of c.args.files.under)) (option_map (λ name. name.now) c.args.observer) m _ _ larger principal sound c.module.ensures c.in_ok-larger.ensures.accepted c.module-2.ensures c.in_ok-principal.ensures.found in
    on_err _ _ (cut_off _ _ _ _ c.args.steps m c.run-status.new.self.program larger principal c.run-status.result.0 _ _ c.run-status.result.1 can c.run-status.ensures.within c.run-status.ensures.unchanged c.in_ok-machine.ensures.first c.run-status.ensures.after c.run-status.ensures.reported _ _ c.in_err-show.ensures.prefix)

pub returns-clause-prefix : goal.returns-clause-prefix
returns-clause-prefix g c =
    let m = c.in_ok-machine.machine.program in
    let sound = sound_by c.args.files.code.bytes.now c.args.files.world.bytes.now m c.in_ok-machine.ensures.accepted.spelled c.in_ok-machine.ensures.accepted.not_refused c.in_ok-machine.ensures.encoded c.in_ok-machine.ensures.right in
    let larger = c.in_ok-larger.larger in
    let principal = c.in_ok-principal.principal in
    let can = can_run_lent _ _ (bytes_of (option_map text_of c.args.files.under)) (option_map (λ name. name.now) c.args.observer) m _ _ larger principal sound c.module.ensures c.in_ok-larger.ensures.accepted c.module-2.ensures c.in_ok-principal.ensures.found in
    on_err c.report_end.result _ (cut_off _ _ _ _ c.args.steps m c.run-status.new.self.program larger principal c.run-status.result.0 _ _ c.run-status.result.1 can c.run-status.ensures.within c.run-status.ensures.unchanged c.in_ok-machine.ensures.first c.run-status.ensures.after c.run-status.ensures.reported _ _ (appended_all _ _ _ c.in_ok-show.ensures.accepted))

pub returns-clause-stdout : goal.returns-clause-stdout
returns-clause-stdout g c =
    let m = c.in_ok-machine.machine.program in
    let sound = sound_by c.args.files.code.bytes.now c.args.files.world.bytes.now m c.in_ok-machine.ensures.accepted.spelled c.in_ok-machine.ensures.accepted.not_refused c.in_ok-machine.ensures.encoded c.in_ok-machine.ensures.right in
    let larger = c.in_ok-larger.larger in
    let principal = c.in_ok-principal.principal in
    let can = can_run_lent _ _ (bytes_of (option_map text_of c.args.files.under)) (option_map (λ name. name.now) c.args.observer) m _ _ larger principal sound c.module.ensures c.in_ok-larger.ensures.accepted c.module-2.ensures c.in_ok-principal.ensures.found in
    shows_run _ _ _ _ c.args.steps m c.run-status.new.self.program larger principal c.run-status.result.0 _ _ c.run-status.result.1 can c.run-status.ensures.within c.run-status.ensures.unchanged c.in_ok-machine.ensures.first c.run-status.ensures.after c.run-status.ensures.reported _ _ c.report_end.result c.in_ok-show.ensures.accepted c.report_end.ensures.message

pub returns-clause-end : goal.returns-clause-end
returns-clause-end g c =
    let m = c.in_ok-machine.machine.program in
    let sound = sound_by c.args.files.code.bytes.now c.args.files.world.bytes.now m c.in_ok-machine.ensures.accepted.spelled c.in_ok-machine.ensures.accepted.not_refused c.in_ok-machine.ensures.encoded c.in_ok-machine.ensures.right in
    let larger = c.in_ok-larger.larger in
    let principal = c.in_ok-principal.principal in
    let can = can_run_lent _ _ (bytes_of (option_map text_of c.args.files.under)) (option_map (λ name. name.now) c.args.observer) m _ _ larger principal sound c.module.ensures c.in_ok-larger.ensures.accepted c.module-2.ensures c.in_ok-principal.ensures.found in
    let program = c.module-3.ensures in
    ends_so _ _ _ _ c.args.steps m c.run-status.new.self.program larger principal c.run-status.result.0 _ _ c.run-status.result.1 can c.run-status.ensures.within c.run-status.ensures.unchanged c.in_ok-machine.ensures.first c.run-status.ensures.after c.run-status.ensures.reported c.report_end.result c.report_end.ensures.message
    (subst (λ (w : ModuleContents). IfOk c.report_end.result (λ ended. string_bytes ended.line ≡ reported_line w principal c.run-status.result.1)) program c.report_end.ensures.line)

pub returns-clause-rejected : goal.returns-clause-rejected
returns-clause-rejected g c = memory_status c.report_end.result _ c.report_end.ensures.memory

pub returns-clause-unchanged : goal.returns-clause-unchanged
returns-clause-unchanged g c = memory_status c.report_end.result _ c.report_end.ensures.memory

pub returns-clause-message : goal.returns-clause-message
returns-clause-message g c =
    memory_message c.report_end.result
    (IsRefusedLine (text_of c.args.files.code) (text_of c.args.files.world) (option_map text_of c.args.files.under) (option_map (λ name. name.now) c.args.observer))
    _ c.report_end.ensures.memory
