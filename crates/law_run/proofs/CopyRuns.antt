-- A run of copy that is done: OUT holds what copy writes of FILE.
use Rattle.std.proofs.Common.{◌≡◌, ◌<◌, Option, sym, ap, ◌∙◌, subst, arith}
use Rattle.tool_output.specs.Statuses.{status_code}
use Rattle.tool_output.specs.Outcomes.{FileWrite, Outcome, held_after}
use Rattle.elfkit_run.specs.elfkit_words.declared.commands.Command.TheVariants.{Copy}
use Rattle.elfkit_outcomes.specs.Copy.{copy_outcome}
use Rattle.law_files.specs.Copy.CopiedFiles.{CopiedFilesKeep, CopyGivesFile}
use Rattle.elfkit_run.specs.Program.{command_outcome, program}
use Rattle.law_run.specs.Copied.{RunKeepsCopied}
use Rattle.law_run.proofs.Requests.{command_stated}
use Rattle.law_run.proofs.CopyRequests.{copy_in_range}
use Rattle.law_run.proofs.Written.{IsRunOf, held_anew}

pub run_keeps_copied : CopiedFilesKeep → CopyGivesFile → RunKeepsCopied
unfolding command_outcome
run_keeps_copied keep gives words status around delivered is =
    let old = around.named_old in
    let stated : program words old ≡ copy_outcome is.changes old is.out is.file =
    command_stated words (Copy is.changes is.out is.file) old is.asked in
    let run = subst (λ (x : Outcome). IsRunOf x status around) stated delivered in
    let code : status_code status ≡ 0 = ap status_code is.done in
    let below : status_code status < 3 = omega (arith, code) in
    let write = gives is.changes old is.out is.file (sym (run.status_is below) ∙ code) in
    let copies = keep is.changes old is.out is.file write.0
    (copy_in_range words is.changes is.out is.file old is.bytes is.asked) write.1 in
    record {
      write = write.0;
      is_held = run.files below is.out
          ∙ ap (λ (w : Option FileWrite). held_after w (old is.out)) write.1
          ∙ held_anew write.0 (old is.out) copies.anew;
      copies = copies;
    }
