-- What a run of elfkit writes, whatever the command, is an image.
use Rattle.std.proofs.Common.{◌≡◌, ◌⊎◌, inl, inr, ℕ, List, [], ◌∷◌, Some, None, Result, Ok, Err, refl, sym, ap, ◌∙◌, subst}
use Rattle.std.specs.Prelude.{codes}
use Rattle.elf_types.specs.Lists.{AreBytes}
use Rattle.elf_outside.specs.Names.{Map}
use Rattle.elf_ident.proofs.Refusals.{bind_ok}
use Rattle.elf_object.specs.Open.{opened}
use Rattle.rebuild_model.specs.Copied.{copied}
use Rattle.rebuild_model.specs.Files.{file_of}
use Rattle.rebuild_model.specs.Generated.{generated_and_shifted, told_lines}
use Rattle.rebuild_model.specs.Rebuilt.{stripped}
use Rattle.rebuild_model.specs.Rehashed.{RehashFault, rehashed}
use Rattle.rebuild_model.specs.Split.{unstripped}
use Rattle.elfkit_run.specs.elfkit_words.declared.usages.Usage.{Usage}
use Rattle.tool_output.specs.Outcomes.{FileWrite, Outcome, write_of, report_outcome, only_says}
use Rattle.tool_output.specs.Made.{Done, Complaint, complaint, made_file_alone, made_file, of_file, written_outcome}
use Rattle.elfkit_run.specs.elfkit_words.declared.commands.Command.{Command}
use Rattle.elfkit_run.specs.elfkit_words.declared.commands.Command.TheVariants.{Readelf, Nm, Size, Strings, Strip, Elflint, Calls, Selftest, Rehash, Copy, Unstrip, Lines}
use Rattle.elfkit_outcomes.specs.rebuild_changes.declared.options.CopyChanges.{CopyChanges}
use Rattle.elfkit_outcomes.specs.declared.options.StripOptions.{StripOptions}
use Rattle.elfkit_run.specs.elfkit_words.declared.commands.Request.{Request}
use Rattle.elfkit_run.specs.elfkit_words.declared.commands.Request.TheVariants.{Run, Tell}
use Rattle.elfkit_run.specs.elfkit_words.Reading.{request_of_words}
use Rattle.elfkit_run.specs.elfkit_read.Objects.{objects_outcome}
use Rattle.elfkit_run.specs.elfkit_read.Readelf.{readelf_outcome}
use Rattle.elfkit_run.specs.elfkit_read.Nm.{nm_outcome}
use Rattle.elfkit_run.specs.elfkit_read.Size.{size_outcome, outcome_behind_text}
use Rattle.elfkit_run.specs.elfkit_read.Strings.{strings_outcome}
use Rattle.elfkit_run.specs.elfkit_read.Lines.{lines_outcome}
use Rattle.elfkit_run.specs.elfkit_read.Elflint.{elflint_outcome}
use Rattle.elfkit_run.specs.elfkit_edit.Calls.{calls_outcome}
use Rattle.elfkit_outcomes.specs.Files.{object_named, bytes_of_each}
use Rattle.elfkit_outcomes.specs.Strip.{or_complaint, strip_done, strip_outcome, unstrip_complaint, unstrip_done, unstrip_outcome}
use Rattle.elfkit_outcomes.specs.Copy.{changes_with, copy_text, copy_done, copy_outcome, rehash_text, rehash_done, rehash_outcome}
use Rattle.elfkit_outcomes.specs.Selftest.{selftest_done, selftest_outcome}
use Rattle.law_files.specs.Copy.CopiedFiles.{AreInRange, CopiedFilesKeep}
use Rattle.law_files.proofs.strip.Written.{object_known, of_file_ok, outcome_done}
use Rattle.elfkit_run.specs.Program.{command_outcome, request_outcome, outcome_by, notice_outcome, usage_outcome, program}
use Rattle.elfkit_run.specs.Sentences.{says}
use Rattle.law_reopen.specs.Scripts.{CallsReopen}
use Rattle.law_reopen.specs.Written.{reopened, StripOpens, DebugOpens, RehashOpens, UnstripOpens}
use Rattle.law_run.specs.Copied.{AreAllBytes}
use Rattle.law_run.proofs.CopyRequests.{copy_in_range}
use Rattle.law_run.proofs.StripRuns.{StripsObject, strip_known}
use Rattle.law_run.proofs.Written.{found_either, nothing_found, only_found}
use Rattle.law_run.proofs.CallsWritten.{OpensAsImage, calls_written}

abbrev HoldBytes : Map → Type 0
HoldBytes named = (name bytes : List ℕ) → named name ≡ Some bytes → AreBytes bytes

or_complaint_ok : {A F : Type 0} (complain : F → Complaint) (r : Result A F) (x : A)
    → or_complaint complain r ≡ Ok x → r ≡ Ok x
or_complaint_ok complain (Ok y) x e = cc
or_complaint_ok complain (Err d) x e = cc

-- a file that is made alone
made_opens : (out bytes : List ℕ) (done : Done) (name : List ℕ) (w : FileWrite)
    → made_file_alone out bytes ≡ done → write_of done.writes name ≡ Some w → OpensAsImage bytes
    → OpensAsImage w.bytes
made_opens out bytes done name w is found opens =
    let one = only_found (made_file out bytes) name w
    (ap (λ (d : Done). write_of d.writes name) is ∙ found) in
    subst OpensAsImage (ap (λ (x : FileWrite). x.bytes) one.0) opens

-- ---- strip

strip_writes : StripOpens → DebugOpens → (options : StripOptions) (named : Map) (file : List ℕ)
    (name : List ℕ) (w : FileWrite) → HoldBytes named
    → write_of (strip_outcome options named file).writes name ≡ Some w → OpensAsImage w.bytes
unfolding strip_outcome stripped
strip_writes strip_opens debug_opens options named file name w are found =
    let done = outcome_done (codes "strip") (strip_done options named file) name w found in
    let known = strip_known options named file done.0 done.1 in
    let writes = known.writes in
    let bytes = are file known.read.image known.read.held in
    let opens : OpensAsImage writes.bytes = (
      reopened writes.made.object,
      strip_opens options.debug_only options.names known.read.image known.object writes.made
          writes.bytes bytes known.read.opens writes.is_made writes.is_bytes,
    ) in
    by_place known bytes opens (found_either (made_file options.out writes.bytes) writes.later name
    w (sym (ap (λ (l : List FileWrite). write_of l name) writes.writes) ∙ done.2))
  where
    by_place : {done : Done} (known : StripsObject options named file done)
        → AreBytes known.read.image → OpensAsImage known.writes.bytes
        → (((made_file options.out known.writes.bytes) ≡ w) × (options.out ≡ name))
        ⊎ (write_of known.writes.later name ≡ Some w)
        → OpensAsImage w.bytes
    by_place known bytes opens (inl is) =
        subst OpensAsImage (ap (λ (x : FileWrite). x.bytes) is.0) opens
    by_place known bytes opens (inr later) =
        let debug = known.writes.debug name w later in (
          reopened debug.half,
          debug_opens known.read.image known.object debug.half w.bytes bytes known.read.opens
              debug.is_half debug.is_bytes,
        )

-- ---- copy

copy_makes : (c : CopyChanges) (named : Map) (out file : List ℕ) (done : Done)
    → copy_done c named out file ≡ Ok done → (bytes : List ℕ) × (made_file_alone out bytes ≡ done)
unfolding copy_done
copy_makes c named out file done e =
    let update = bind_ok (bytes_of_each named c.update) _ done e in
    let add = bind_ok (bytes_of_each named c.add) _ done update.2 in
    let before = bind_ok (object_named named file) _ done add.2 in
    let object = bind_ok (or_complaint (λ fault. complaint file (copy_text fault))
    (copied (changes_with c update.0 add.0) before.0)) _ done before.2 in
    let bytes = bind_ok (of_file file (file_of object.0.object)) (λ bytes. Ok (made_file_alone out bytes)) done
    object.2 in
    (bytes.0, let both = bytes.2 in cc)

copy_writes : CopiedFilesKeep → (c : CopyChanges) (named : Map) (out file : List ℕ)
    (name : List ℕ) (w : FileWrite) → AreInRange c named
    → write_of (copy_outcome c named out file).writes name ≡ Some w → OpensAsImage w.bytes
unfolding copy_outcome
copy_writes keep c named out file name w are found =
    let done = outcome_done (codes "copy") (copy_done c named out file) name w found in
    let makes = copy_makes c named out file done.0 done.1 in
    let one = only_found (made_file out makes.0) name w
    (ap (λ (d : Done). write_of d.writes name) makes.1 ∙ done.2) in
    let there = subst (λ (text : List ℕ).
    write_of (written_outcome (codes "copy") (copy_done c named out file)).writes text ≡ Some w)
    (sym one.1) found in
    let copies = keep c named out file w are there in (
      copies.after,
      subst (λ (l : List ℕ). opened l ≡ Ok copies.after) copies.written copies.copied.is_after,
    )

-- ---- rehash

rehash_writes : RehashOpens → (named : Map) (out file : List ℕ) (name : List ℕ) (w : FileWrite)
    → HoldBytes named
    → write_of (rehash_outcome named out file).writes name ≡ Some w → OpensAsImage w.bytes
unfolding rehash_outcome rehash_done
rehash_writes reopen named out file name w are found =
    let done = outcome_done (codes "rehash") (rehash_done named out file) name w found in
    let before = bind_ok (object_named named file) _ done.0 done.1 in
    let edited = bind_ok (or_complaint (λ (fault : RehashFault). complaint file (rehash_text fault))
    (rehashed before.0)) _ done.0 before.2 in
    let bytes = bind_ok (of_file file (file_of edited.0)) (λ bytes. Ok (made_file_alone out bytes)) done.0
    edited.2 in
    let is : made_file_alone out bytes.0 ≡ done.0 = let both = bytes.2 in cc in
    let read = object_known named file before.0 before.1 in
    let is_edited = or_complaint_ok (λ (fault : RehashFault). complaint file (rehash_text fault))
    (rehashed before.0) edited.0 edited.1 in
    made_opens out bytes.0 done.0 name w is done.2 (
      reopened edited.0,
      reopen read.image before.0 edited.0 bytes.0 (are file read.image read.held) read.opens
          is_edited (of_file_ok file (file_of edited.0) bytes.0 bytes.1),
    )

-- ---- unstrip

unstrip_writes : UnstripOpens → (named : Map) (out one other : List ℕ) (name : List ℕ)
    (w : FileWrite) → HoldBytes named
    → write_of (unstrip_outcome named out one other).writes name ≡ Some w → OpensAsImage w.bytes
unfolding unstrip_outcome unstrip_done
unstrip_writes reopen named out one other name w are found =
    let done = outcome_done (codes "unstrip") (unstrip_done named out one other) name w found in
    let before = bind_ok (object_named named one) _ done.0 done.1 in
    let debug = bind_ok (object_named named other) _ done.0 before.2 in
    let object = bind_ok
    (or_complaint (unstrip_complaint one other) (unstripped before.0 debug.0)) _ done.0 debug.2 in
    let bytes = bind_ok (of_file one (file_of object.0.object)) (λ bytes. Ok (made_file_alone out bytes))
    done.0 object.2 in
    let is : made_file_alone out bytes.0 ≡ done.0 = let both = bytes.2 in cc in
    let read = object_known named one before.0 before.1 in
    let debug_read = object_known named other debug.0 debug.1 in
    let is_made = or_complaint_ok (unstrip_complaint one other) (unstripped before.0 debug.0)
    object.0 object.1 in
    made_opens out bytes.0 done.0 name w is done.2 (
      reopened object.0.object,
      reopen read.image debug_read.image before.0 debug.0 object.0 bytes.0
          (are one read.image read.held) (are other debug_read.image debug_read.held) read.opens
          debug_read.opens is_made (of_file_ok one (file_of object.0.object) bytes.0 bytes.1),
    )

-- ---- selftest

selftest_writes : (out : List ℕ) (n : ℕ) (name : List ℕ) (w : FileWrite)
    → write_of (selftest_outcome out n).writes name ≡ Some w → OpensAsImage w.bytes
unfolding selftest_outcome selftest_done
selftest_writes out n name w found =
    let done = outcome_done (codes "selftest") (selftest_done out n) name w found in
    let bytes = bind_ok (of_file out (file_of (generated_and_shifted n))) _ done.0 done.1 in
    let object = bind_ok (of_file out (opened bytes.0)) _ done.0 bytes.2 in
    let lines = bind_ok (of_file out (told_lines n object.0)) _ done.0 object.2 in
    let files : Done = record { shown = lines.0; writes = made_file out bytes.0 ∷ [] } in
    let is : files ≡ done.0 = let both = lines.2 in cc in
    let one = only_found (made_file out bytes.0) name w
    (ap (λ (d : Done). write_of d.writes name) is ∙ done.2) in
    subst OpensAsImage (ap (λ (x : FileWrite). x.bytes) one.0)
    (object.0, of_file_ok out (opened bytes.0) object.0 object.1)

-- ---- Commands that write nothing

abbrev WritesNone : Outcome → Type 0
WritesNone x = x.writes ≡ []

none_opens : (x : Outcome) (name : List ℕ) (w : FileWrite) → WritesNone x
    → write_of x.writes name ≡ Some w → OpensAsImage w.bytes
none_opens x name w none found =
    absurd (nothing_found name w (sym (ap (λ (l : List FileWrite). write_of l name) none) ∙ found))

-- ---- All commands

module _ (strip_opens : StripOpens) (debug_opens : DebugOpens) (copies : CopiedFilesKeep)
    (rehash_opens : RehashOpens) (unstrip_opens : UnstripOpens) (calls_reopen : CallsReopen)
    (words : List (List ℕ)) (named : Map) (are : AreAllBytes words named) (name : List ℕ)
    (w : FileWrite) where
  by_command : (command : Command) → request_of_words words ≡ Ok (Run command)
      → write_of (command_outcome command named).writes name ≡ Some w → OpensAsImage w.bytes
  unfolding command_outcome readelf_outcome nm_outcome size_outcome strings_outcome
      elflint_outcome lines_outcome calls_outcome objects_outcome outcome_behind_text report_outcome
  by_command (Readelf parts files) asked h =
      none_opens (readelf_outcome parts files named) name w refl h
  by_command (Nm options files) asked h =
      none_opens (nm_outcome options files named) name w refl h
  by_command (Size files) asked h = none_opens (size_outcome files named) name w refl h
  by_command (Strings options files) asked h =
      none_opens (strings_outcome options files named) name w refl h
  by_command (Strip options file) asked h =
      strip_writes strip_opens debug_opens options named file name w are.files_are h
  by_command (Elflint files) asked h = none_opens (elflint_outcome files named) name w refl h
  by_command (Calls None file script) asked h =
      none_opens (calls_outcome file script named) name w refl h
  by_command (Calls (Some output) file script) asked h =
      calls_written calls_reopen output file script named are.files_are name w h
  by_command (Selftest out count) asked h = selftest_writes out count name w h
  by_command (Rehash out file) asked h =
      rehash_writes rehash_opens named out file name w are.files_are h
  by_command (Copy changes out file) asked h =
      copy_writes copies changes named out file name w
      (copy_in_range words changes out file named are asked) h
  by_command (Unstrip out one other) asked h =
      unstrip_writes unstrip_opens named out one other name w are.files_are h
  by_command (Lines files) asked h = none_opens (lines_outcome files named) name w refl h

  by_request : (request : Request) → request_of_words words ≡ Ok request
      → write_of (request_outcome request named).writes name ≡ Some w → OpensAsImage w.bytes
  unfolding request_outcome notice_outcome only_says
  by_request (Run command) asked h = by_command command asked h
  by_request (Tell notice) asked h = none_opens (notice_outcome notice) name w refl h

  by_reading : (r : Result Request Usage) → request_of_words words ≡ r
      → write_of (outcome_by r named).writes name ≡ Some w → OpensAsImage w.bytes
  unfolding outcome_by usage_outcome says only_says
  by_reading (Ok request) asked h = by_request request asked h
  by_reading (Err usage) asked h = none_opens (usage_outcome usage) name w refl h

  pub program_written : write_of (program words named).writes name ≡ Some w → OpensAsImage w.bytes
  unfolding program
  program_written found = by_reading (request_of_words words) refl found
