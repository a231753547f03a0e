use Rattle.std.proofs.Common.{[], ap, option_map, sym}
use Rattle.flowc.specs.Compiled.{NamedText, bytes_of}
use Rattle.flowc.specs.Given.{text_of}
use Rattle.flowc.specs.declared.ended.Ended.{Ended}
use Rattle.flowc.proofs.Explaining.{explain_shows}
use Rattle.flowc.proofs.Refusals.{run_shows}
use Rattle.std.specs.String.{string_bytes}
use Rattle.flowc.proofs.Settled.{accepted_along, handed_along, held_at_zero, ok_is_zero, refused_at_one}
use Rattle.flowc.proofs.Reporting.{fault_message, module_named, ok_is_silent, run_message, texts_named}
use Rattle.flowc.proofs.tasks.perform.Goals as goal

pub returns-in-Run-clause-stdout : goal.returns-in-Run-clause-stdout
returns-in-Run-clause-stdout g c = rw c.in-Run.is
    (run_shows _ _ _ _ _ _ _ _ _ _ _ _ c.run.result c.run.ensures.stdout c.run.ensures.rejected c.run.ensures.unchanged c.run.ensures.prefix
    c.finish.ensures.status (ap (λ (t : NamedText). t.bytes) c.run_files-read.ensures.code) (ap (λ (t : NamedText). t.bytes) c.run_files-read.ensures.world)
    (ap bytes_of c.run_files-read.ensures.under) c.name_of.ensures)

pub returns-in-Check-clause-accepted : goal.returns-in-Check-clause-accepted
returns-in-Check-clause-accepted g c = λ source zero.
    accepted_along _ _ _ _ c.file_at-hierarchy.ensures.bytes c.file_at-source.ensures.bytes
    (held_at_zero _ (λ accepted. 0) c.check.result c.finish_texts.result.status
    c.check.ensures.accepted c.finish_texts.ensures.status zero)

pub returns-in-Check-clause-rejected : goal.returns-in-Check-clause-rejected
returns-in-Check-clause-rejected g c = λ source one holds.
    refused_at_one _ (λ accepted. 0) c.check.result c.finish_texts.result.status
    c.check.ensures.rejected (ok_is_zero c.check.result) c.finish_texts.ensures.status one
    (accepted_along _ _ _ _ (sym c.file_at-hierarchy.ensures.bytes) (sym c.file_at-source.ensures.bytes) holds)

pub returns-in-Build-clause-accepted : goal.returns-in-Build-clause-accepted
returns-in-Build-clause-accepted g c = λ source zero.
    accepted_along _ _ _ _ c.file_at-hierarchy-in-Build.ensures.bytes c.file_at-source-in-Build.ensures.bytes
    (held_at_zero _ (λ code. 0) c.build.result c.finish_texts-in-Build.result.status
    c.build.ensures.accepted c.finish_texts-in-Build.ensures.status zero)

pub returns-in-Build-clause-rejected : goal.returns-in-Build-clause-rejected
returns-in-Build-clause-rejected g c = λ source one holds.
    refused_at_one _ (λ code. 0) c.build.result c.finish_texts-in-Build.result.status
    c.build.ensures.rejected (ok_is_zero c.build.result) c.finish_texts-in-Build.ensures.status one
    (accepted_along _ _ _ _ (sym c.file_at-hierarchy-in-Build.ensures.bytes) (sym c.file_at-source-in-Build.ensures.bytes) holds)

pub returns-in-Run-clause-message : goal.returns-in-Run-clause-message
returns-in-Run-clause-message g c = rw c.in-Run.is
    (run_message c.run.result _ _ (text_of c.run_files-read.result.code) (text_of c.run_files-read.result.world) _ (option_map text_of c.run_files-read.result.under) _ _ _ _ _ _ _ _
    c.run.ensures.end c.run.ensures.message c.finish.ensures.status c.finish.ensures.message
    c.run_files-read.ensures.code c.run_files-read.ensures.world c.run_files-read.ensures.under c.name_of.ensures)

pub returns-in-Check-clause-message : goal.returns-in-Check-clause-message
returns-in-Check-clause-message g c = rw c.in-Check.is
    (fault_message (λ accepted. []) (λ accepted. 0) c.check.result _ _ _ _ _ _ _
    (ok_is_silent c.check.result) (ok_is_zero c.check.result) c.check.ensures.message
    (texts_named _ _ _ _ _ _ _ _ c.file_at-hierarchy.ensures.path c.file_at-source.ensures.path c.file_at-hierarchy.ensures.bytes c.file_at-source.ensures.bytes)
    c.finish_texts.ensures.status c.finish_texts.ensures.message)

pub returns-in-Build-clause-message : goal.returns-in-Build-clause-message
returns-in-Build-clause-message g c = rw c.in-Build.is
    (fault_message (λ code. []) (λ code. 0) c.build.result _ _ _ _ _ _ _
    (ok_is_silent c.build.result) (ok_is_zero c.build.result) c.build.ensures.message
    (texts_named _ _ _ _ _ _ _ _ c.file_at-hierarchy-in-Build.ensures.path c.file_at-source-in-Build.ensures.path c.file_at-hierarchy-in-Build.ensures.bytes
    c.file_at-source-in-Build.ensures.bytes)
    c.finish_texts-in-Build.ensures.status c.finish_texts-in-Build.ensures.message)

pub returns-in-List-clause-message : goal.returns-in-List-clause-message
returns-in-List-clause-message g c = rw c.in-List.is
    (fault_message (λ (ended : Ended). string_bytes ended.line) (λ (ended : Ended). ended.status) c.list_module.result _ _ _ _ _ _ _
    c.list_module.ensures.silent c.list_module.ensures.status c.list_module.ensures.message
    (module_named _ _ _ _ c.file_at.ensures.path c.file_at.ensures.bytes)
    c.finish-in-List.ensures.status c.finish-in-List.ensures.message)

pub returns-in-Explain-clause-stdout : goal.returns-in-Explain-clause-stdout
returns-in-Explain-clause-stdout g c = rw c.in-Explain.is
    (explain_shows _ _ _ _ _ _ _ c.explain.result c.explain.ensures.stdout c.explain.ensures.chain c.explain.ensures.prefix c.explain.ensures.status
    c.finish-in-Explain.ensures.status c.file_at-hierarchy-in-Explain.ensures.bytes c.file_at-source-in-Explain.ensures.bytes)

pub returns-in-Explain-clause-accepted : goal.returns-in-Explain-clause-accepted
returns-in-Explain-clause-accepted g c = λ source zero.
    accepted_along _ _ _ _ c.file_at-hierarchy-in-Explain.ensures.bytes c.file_at-source-in-Explain.ensures.bytes
    (held_at_zero _ (λ (ended : Ended). ended.status) c.explain.result c.finish-in-Explain.result.status
    c.explain.ensures.accepted c.finish-in-Explain.ensures.status zero)

pub returns-in-Explain-clause-rejected : goal.returns-in-Explain-clause-rejected
returns-in-Explain-clause-rejected g c = λ source one holds.
    refused_at_one _ (λ (ended : Ended). ended.status) c.explain.result c.finish-in-Explain.result.status
    c.explain.ensures.rejected c.explain.ensures.status c.finish-in-Explain.ensures.status one
    (accepted_along _ _ _ _ (sym c.file_at-hierarchy-in-Explain.ensures.bytes) (sym c.file_at-source-in-Explain.ensures.bytes) holds)

pub returns-in-Explain-clause-message : goal.returns-in-Explain-clause-message
returns-in-Explain-clause-message g c = rw c.in-Explain.is
    (fault_message (λ (ended : Ended). string_bytes ended.line) (λ (ended : Ended). ended.status) c.explain.result _ _ _ _ _ _ _
    c.explain.ensures.silent c.explain.ensures.status c.explain.ensures.message
    (texts_named _ _ _ _ _ _ _ _ c.file_at-hierarchy-in-Explain.ensures.path c.file_at-source-in-Explain.ensures.path c.file_at-hierarchy-in-Explain.ensures.bytes
    c.file_at-source-in-Explain.ensures.bytes)
    c.finish-in-Explain.ensures.status c.finish-in-Explain.ensures.message)

pub returns-in-Check-clause-checked : goal.returns-in-Check-clause-checked
returns-in-Check-clause-checked g c =
    handed_along _ _ _ _ c.check.result _ c.file_at-hierarchy.ensures.bytes c.file_at-source.ensures.bytes
    c.check.ensures.checked c.finish_texts.ensures.checked

pub returns-in-Build-clause-checked : goal.returns-in-Build-clause-checked
returns-in-Build-clause-checked g c =
    handed_along _ _ _ _ c.build.result _ c.file_at-hierarchy-in-Build.ensures.bytes c.file_at-source-in-Build.ensures.bytes
    c.build.ensures.checked c.finish_texts-in-Build.ensures.checked
