-- Whatever a run changes that comes to its end is an image afterwards.
use Rattle.std.proofs.Common.{◌≡◌, ◌≢◌, ℕ, Bool, true, false, List, Option, Some, None, refl}
use Rattle.std.specs.Prelude.{if◌then◌else◌}
use Rattle.std.specs.Option.{option_map}
use Rattle.tool_output.specs.Outcomes.{FileWrite, write_of, held_after}
use Rattle.law_files.specs.Copy.CopiedFiles.{CopiedFilesKeep}
use Rattle.elfkit_run.specs.Program.{program}
use Rattle.law_reopen.specs.Scripts.{CallsReopen}
use Rattle.law_reopen.specs.Written.{StripOpens, DebugOpens, RehashOpens, UnstripOpens}
use Rattle.law_run.specs.Opened.{HoldsImage, RunChangesToImages}
use Rattle.law_run.proofs.CallsWritten.{OpensAsImage}
use Rattle.law_run.proofs.ProgramWritten.{program_written}

-- a name that holds something else holds what was written
changed_holds : (found : Option FileWrite) (old new : Option (List ℕ))
    → ((w : FileWrite) → found ≡ Some w → OpensAsImage w.bytes)
    → new ≡ held_after found old → new ≢ old → HoldsImage new
changed_holds None old new opens is other = absurd (other is)
changed_holds (Some w) old new opens is other = by_place w.in_place old is other
  where
    image : new ≡ Some w.bytes → HoldsImage new
    image held =
        let opened = opens w refl in
        record { bytes = w.bytes; is_held = held; object = opened.0; opens = opened.1 }

    by_place : (b : Bool) (before : Option (List ℕ))
        → new ≡ (if b then option_map (λ _. w.bytes) before else Some w.bytes)
        → new ≢ before → HoldsImage new
    by_place false before held differs = image held
    by_place true None held differs = absurd (differs held)
    by_place true (Some bytes) held differs = image held

pub run_changes_to_images : StripOpens → DebugOpens → CopiedFilesKeep → RehashOpens → UnstripOpens
    → CallsReopen → RunChangesToImages
run_changes_to_images strip_opens debug_opens copies rehash_opens unstrip_opens calls_reopen words
    status around run are below name other =
    let old = around.named_old in
    changed_holds (write_of (program words old).writes name) (old name) (around.named_new name)
    (λ w found. program_written strip_opens debug_opens copies rehash_opens unstrip_opens
    calls_reopen words old are name w found)
    (run.files below name) other
