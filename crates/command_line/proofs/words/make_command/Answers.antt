use Rattle.std.proofs.Common.{◌≡◌, ◌∙◌, ap, ap₂, codes, true}
use Rattle.std.proofs.lemmas.Result.{IfOk-weaker}
use Rattle.clap.specs.Words.{App, Shape, app_of, new_app, with_subcommand}
use Rattle.clap.specs.Simple.{app_of_fields, on_top}
use Rattle.command_line.proofs.words.make_command.Goals as goal

abbrev requiring : App → App
requiring = on_top (λ (top : Shape). record top { subcommand_required = true })

abbrev wanting : App → App
wanting = on_top (λ (top : Shape). record top { subcommand_required = true; has_version = true })

pub returns : goal.returns
returns c =
    let wants : app_of c.subcommand_required.result ≡ wanting (new_app (codes "flowc")) = ap app_of_fields c.subcommand_required.ensures
    ∙ ap (λ f. requiring (app_of_fields f)) c.version.ensures ∙ ap (λ f. wanting (app_of_fields f)) c.about.ensures
    ∙ ap wanting c.new.ensures.app in
    let top = λ (a : App). a.top in
    let checks = c.in_ok-subcommand.ensures.shape c.in_ok-make_check.ensures.local ∙ ap₂ with_subcommand wants (ap top c.in_ok-make_check.ensures.shape) in
    let builds = c.in_ok-subcommand-2.ensures.shape c.in_ok-make_build.ensures.local ∙ ap₂ with_subcommand checks (ap top c.in_ok-make_build.ensures.shape) in
    let runs = c.in_ok-subcommand-3.ensures.shape c.in_ok-make_run.ensures.local ∙ ap₂ with_subcommand builds (ap top c.in_ok-make_run.ensures.shape) in
    let lists = c.in_ok-subcommand-4.ensures.shape c.in_ok-make_list.ensures.local ∙ ap₂ with_subcommand runs (ap top c.in_ok-make_list.ensures.shape) in
    record {
      shape = IfOk-weaker c.subcommand-5.result _ _
          (λ r h. h.shape c.in_ok-make_explain.ensures.local ∙ ap₂ with_subcommand lists (ap top c.in_ok-make_explain.ensures.shape)) c.subcommand-5.ensures;
    }
