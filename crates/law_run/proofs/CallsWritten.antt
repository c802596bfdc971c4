-- What calls -o and -i write of an image is one.
use Rattle.std.proofs.Common.{◌≡◌, ℕ, List, Option, Some, None, Result, Ok, Err, refl, sym, ap, ◌∙◌, subst}
use Rattle.elf_types.specs.Answers.{answered}
use Rattle.elf_types.specs.Lists.{AreBytes}
use Rattle.elf_types.specs.declared.errors.ElfError.{ElfError}
use Rattle.elf_outside.specs.Names.{Map}
use Rattle.elf_ident.specs.FileKinds.{file_kind}
use Rattle.elf_ident.specs.declared.file_kinds.FileKind.{FileKind}
use Rattle.elf_ident.specs.declared.file_kinds.FileKind.TheVariants.{Archive, Elf, Other}
use Rattle.elf_ident.proofs.Refusals.{answered_ok}
use Rattle.elf_object.specs.Object.{Object}
use Rattle.elf_object.specs.Open.{opened}
use Rattle.elf_object.specs.Calls as calls
use Rattle.elf_object.specs.Image.{image, image_length}
use Rattle.elf_object.specs.Refusal.{refusal}
use Rattle.elf_object.specs.Runs.{left_by}
use Rattle.rebuild_model.specs.Files.{file_of}
use Rattle.tool_output.specs.Outcomes.{FileWrite, Outcome, write_of, report_outcome}
use Rattle.elfkit_run.specs.calls_tool.declared.update.outputs.CallsOutput.{CallsOutput}
use Rattle.elfkit_run.specs.calls_tool.declared.update.outputs.CallsOutput.TheVariants.{To, InPlace}
use Rattle.tool_objects.specs.Images.{object_by, file_object}
use Rattle.elf_calls_script.specs.declared.calls.Call.{Call}
use Rattle.law_reopen.specs.calls_tool.declared.scripts.BadLine.{BadLine}
use Rattle.law_reopen.specs.calls_tool.Runs.{stated_calls}
use Rattle.law_reopen.specs.calls_tool.Scripts.{script_calls, calls_or_text}
use Rattle.elfkit_run.specs.calls_tool.Update.Updates.{write_by, updated_writes, updated_outcome, updated_by}
use Rattle.elfkit_run.specs.elfkit_edit.Calls.{script_of, updated_held, updated_script, calls_update_outcome}
use Rattle.law_reopen.specs.Scripts.{CallsReopen}
use Rattle.law_reopen.specs.Written.{reopened}
use Rattle.law_run.proofs.Written.{nothing_found, only_found}

-- bytes that open
abbrev pub OpensAsImage : List ℕ → Type 0
OpensAsImage bytes = (o : Object) × (opened bytes ≡ Ok o)

object_opens : (bytes : List ℕ) (o : Object) → file_object bytes ≡ Ok o → opened bytes ≡ Ok o
unfolding file_object object_by
object_opens bytes o e = by_kind (file_kind bytes) e
  where
    by_kind : (kind : FileKind) → object_by kind bytes ≡ Ok o → opened bytes ≡ Ok o
    by_kind Archive h = cc
    by_kind Elf h = h
    by_kind Other h = h

write_holds : (output : CallsOutput) (file bytes : List ℕ)
    → (write_by output file bytes).bytes ≡ bytes
write_holds (To out) file bytes = refl
write_holds InPlace file bytes = refl

update_passed : (o : Object) (n : ℕ) → calls.update_null.answer o ≡ Ok n
    → file_of o ≡ Ok (image o)
unfolding file_of
update_passed o n e =
    ap (λ (r : Option ElfError). answered r (image o))
    (answered_ok (refusal o) (image_length o) n e).0

module _ (reopen : CallsReopen) (output : CallsOutput) (file script : List ℕ) (named : Map)
    (files_are : (name bytes : List ℕ) → named name ≡ Some bytes → AreBytes bytes)
    (name : List ℕ) (w : FileWrite) where
  abbrev Finds : Outcome → Type 0
  Finds x = write_of x.writes name ≡ Some w

  module _ (text : List ℕ) (cs : List Call) (said : script_calls text ≡ Ok cs) where
    abbrev left : Object → Object
    left o = left_by (stated_calls cs) o

    -- the image that they leave
    left_opens : (bytes : List ℕ) (before : Object) (asked : Option ℕ) → AreBytes bytes
        → opened bytes ≡ Ok before
        → write_of (updated_outcome output cs file asked before).writes name ≡ Some w
        → OpensAsImage w.bytes
    unfolding updated_outcome
    left_opens bytes before asked are opens found =
        by_answer (calls.update_null.answer (left before)) refl found
      where
        by_answer : (r : Result ℕ ElfError) → calls.update_null.answer (left before) ≡ r
            → write_of (updated_writes (write_by output file (image (left before))) r) name ≡ Some w
            → OpensAsImage w.bytes
        by_answer (Err e) answer h = absurd (nothing_found name w h)
        by_answer (Ok n) answer h =
            let again = reopen text bytes cs before (image (left before)) said are opens
            (update_passed (left before) n answer) in
            let same : image (left before) ≡ w.bytes =
            sym (write_holds output file (image (left before)))
            ∙ ap (λ (x : FileWrite). x.bytes) (only_found _ name w h).0 in
            let P : List ℕ → Type 0 = λ l. opened l ≡ Ok (reopened (left before)) in
            (reopened (left before), subst P same again)

    by_object : (bytes : List ℕ) (asked : Option ℕ) (r : Result Object ElfError) → AreBytes bytes
        → file_object bytes ≡ r
        → write_of (updated_by output cs file asked r).writes name ≡ Some w → OpensAsImage w.bytes
    unfolding report_outcome
    by_object bytes asked (Err e) are is h = absurd (nothing_found name w h)
    by_object bytes asked (Ok o) are is h =
        left_opens bytes o asked are (object_opens bytes o is) h

    by_file : (held : Option (List ℕ)) (asked : Option ℕ) → named file ≡ held
        → write_of (updated_held output cs file asked held).writes name ≡ Some w
        → OpensAsImage w.bytes
    unfolding report_outcome
    by_file None asked is h = absurd (nothing_found name w h)
    by_file (Some bytes) asked is h =
        by_object bytes _ (file_object bytes) (files_are file bytes is) refl h

  by_calls : (text : List ℕ) (asked : Option ℕ) (r : Result (List Call) BadLine)
      → script_calls text ≡ r
      → Finds (updated_script output (calls_or_text r) file script asked (named file))
      → OpensAsImage w.bytes
  unfolding report_outcome
  by_calls text asked (Err bad) is h = absurd (nothing_found name w h)
  by_calls text asked (Ok cs) is h = by_file text cs is (named file) asked refl h

  by_script : (held : Option (List ℕ)) (asked : Option ℕ)
      → Finds (updated_script output (script_of held) file script asked (named file))
      → OpensAsImage w.bytes
  unfolding report_outcome
  by_script None asked h = absurd (nothing_found name w h)
  by_script (Some text) asked h = by_calls text asked (script_calls text) refl h

  pub calls_written :
      write_of (calls_update_outcome output file script named).writes name ≡ Some w
      → OpensAsImage w.bytes
  unfolding calls_update_outcome
  calls_written found = by_script (named script) _ found
