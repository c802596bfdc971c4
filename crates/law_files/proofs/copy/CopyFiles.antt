-- The file that copy writes is the image of what it makes of FILE's object.
use Rattle.std.proofs.Common.{◌≡◌, ℕ, ◌^◌, ◌<◌, List, [], ◌∷◌, Some, Result, Ok, Err, sym, ap, ◌∙◌, subst}
use Rattle.std.specs.Prelude.{All, codes}
use Rattle.std.proofs.lemmas.List.Elements.{All-nil, All-cons, All-head, All-tail, All-map}
use Rattle.elf_types.specs.Lists.{AreBytes}
use Rattle.elf_outside.specs.Names.{Map}
use Rattle.elf_ident.proofs.Refusals.{bind_ok}
use Rattle.elf_object.specs.Object.{Object}
use Rattle.rebuild_model.specs.Arranged.{Rebuilt}
use Rattle.rebuild_model.specs.Copied.{CopyFault, copied}
use Rattle.rebuild_model.specs.Files.{file_of}
use Rattle.rebuild_model.specs.Laws.{AreChanges}
use Rattle.rebuild_model.specs.KeepingLaws.{IsCopied, CopyLaw}
use Rattle.elfkit_outcomes.specs.rebuild_changes.declared.options.CopyChanges.{CopyChanges}
use Rattle.elfkit_outcomes.specs.rebuild_changes.declared.options.NamedBits.{NamedBits}
use Rattle.elfkit_outcomes.specs.rebuild_changes.declared.options.NamedFile.{NamedFile}
use Rattle.elfkit_outcomes.specs.rebuild_changes.declared.options.Renaming.{Renaming}
use Rattle.tool_output.specs.Outcomes.{FileWrite, write_of}
use Rattle.tool_output.specs.Made.{Done, Complaint, complaint, made_file_alone, made_file, of_file, written_outcome}
use Rattle.elfkit_outcomes.specs.Files.{bytes_named, object_named, bytes_of_each}
use Rattle.elfkit_outcomes.specs.Strip.{or_complaint}
use Rattle.elfkit_outcomes.specs.Copy.{changes_with, copy_text, copy_done, copy_outcome}
use Rattle.law_rebuild.specs.Copy.CopyOpens.{CopyOpens}
use Rattle.law_files.proofs.strip.Written.{of_file_ok, bytes_known, object_known, first_found, first_written, outcome_done, outcome_ended}
use Rattle.law_files.specs.Copy.CopiedFiles.{AreInRange, CopiedFilesKeep, CopyGivesFile}

-- ---- The files of -u and -a

-- each holds bytes
pub files_bytes : (named : Map) → ((name bytes : List ℕ) → named name ≡ Some bytes → AreBytes bytes)
    → (l : List NamedFile) (r : List (List ℕ × List ℕ)) → bytes_of_each named l ≡ Ok r
    → All (λ change. AreBytes change.1) r
unfolding bytes_of_each
files_bytes named holds [] r e =
    let same : [] ≡ r = cc in
    subst (λ (m : List (List ℕ × List ℕ)). All (λ (x : List ℕ × List ℕ). AreBytes x.1) m) same
    (All-nil (λ (x : List ℕ × List ℕ). AreBytes x.1))
files_bytes named holds (f ∷ l) r e =
    let first = bind_ok (bytes_named named f.file) _ r e in
    let rest = bind_ok (bytes_of_each named l) (λ others. Ok ((f.name, first.0) ∷ others)) r first.2
    in
    let same : (f.name, first.0) ∷ rest.0 ≡ r = let both = rest.2 in cc in
    subst (λ (m : List (List ℕ × List ℕ)). All (λ (x : List ℕ × List ℕ). AreBytes x.1) m) same
    (All-cons (λ (x : List ℕ × List ℕ). AreBytes x.1) (f.name, first.0) rest.0
    (holds f.file first.0 (bytes_known named f.file first.0 first.1))
    (files_bytes named holds l rest.0 rest.1))

-- and so are their sections' names
pub files_named : (named : Map) → ((name bytes : List ℕ) → named name ≡ Some bytes → AreBytes bytes)
    → (l : List NamedFile) (r : List (List ℕ × List ℕ)) → All (λ f. AreBytes f.name) l
    → bytes_of_each named l ≡ Ok r → All (λ change. AreBytes change.0 × AreBytes change.1) r
unfolding bytes_of_each
files_named named holds [] r each e =
    let same : [] ≡ r = cc in
    subst (λ (m : List (List ℕ × List ℕ)).
    All (λ (x : List ℕ × List ℕ). AreBytes x.0 × AreBytes x.1) m) same
    (All-nil (λ (x : List ℕ × List ℕ). AreBytes x.0 × AreBytes x.1))
files_named named holds (f ∷ l) r each e =
    let first = bind_ok (bytes_named named f.file) _ r e in
    let rest = bind_ok (bytes_of_each named l) (λ others. Ok ((f.name, first.0) ∷ others)) r first.2
    in
    let same : (f.name, first.0) ∷ rest.0 ≡ r = let both = rest.2 in cc in
    subst (λ (m : List (List ℕ × List ℕ)).
    All (λ (x : List ℕ × List ℕ). AreBytes x.0 × AreBytes x.1) m) same
    (All-cons (λ (x : List ℕ × List ℕ). AreBytes x.0 × AreBytes x.1) (f.name, first.0) rest.0 (
      All-head (λ (x : NamedFile). AreBytes x.name) f l each,
      holds f.file first.0 (bytes_known named f.file first.0 first.1),
    )
    (files_named named holds l rest.0 (All-tail (λ (x : NamedFile). AreBytes x.name) f l each)
    rest.1))

changes_are : (c : CopyChanges) (named : Map) (update add : List (List ℕ × List ℕ))
    → AreInRange c named → bytes_of_each named c.update ≡ Ok update
    → bytes_of_each named c.add ≡ Ok add → AreChanges (changes_with c update add)
changes_are c named update add ranges is_update is_add = record {
  update = files_bytes named ranges.files c.update update is_update;
  flags = All-map (λ (change : List ℕ × ℕ). change.1 < 2 ^ 64)
      (λ (f : NamedBits). (f.name, f.bits)) c.flags ranges.flags;
  rename = All-map (λ (change : List ℕ × List ℕ). AreBytes change.1)
      (λ (r : Renaming). (r.old, r.new)) c.rename ranges.renamed;
  add = files_named named ranges.files c.add add ranges.added is_add;
}

-- ---- The file OUT

or_complaint_ok : {A F : Type 0} (complain : F → Complaint) (r : Result A F) (x : A)
    → or_complaint complain r ≡ Ok x → r ≡ Ok x
or_complaint_ok complain (Ok y) x e = cc
or_complaint_ok complain (Err d) x e = cc

-- what copy reads, makes and writes
record IsCopyDone (c : CopyChanges) (named : Map) (out file : List ℕ) (done : Done)
    : Type 0 where
  update : List (List ℕ × List ℕ)
  is_update : bytes_of_each named c.update ≡ Ok update
  add : List (List ℕ × List ℕ)
  is_add : bytes_of_each named c.add ≡ Ok add
  before : Object
  is_before : object_named named file ≡ Ok before
  object : Rebuilt
  is_object : copied (changes_with c update add) before ≡ Ok object
  bytes : List ℕ
  is_bytes : file_of object.object ≡ Ok bytes
  is : made_file_alone out bytes ≡ done

done_known : (c : CopyChanges) (named : Map) (out file : List ℕ) (done : Done)
    → copy_done c named out file ≡ Ok done → IsCopyDone c named out file done
unfolding copy_done
done_known c named out file done e =
    let update = bind_ok (bytes_of_each named c.update) _ done e in
    let add = bind_ok (bytes_of_each named c.add) _ done update.2 in
    let before = bind_ok (object_named named file) _ done add.2 in
    let changes = changes_with c update.0 add.0 in
    let object = bind_ok
    (or_complaint (λ fault. complaint file (copy_text fault)) (copied changes before.0)) _ done
    before.2 in
    let bytes = bind_ok (of_file file (file_of object.0.object)) (λ bytes. Ok (made_file_alone out bytes)) done
    object.2 in
    record {
      update = update.0;
      is_update = update.1;
      add = add.0;
      is_add = add.1;
      before = before.0;
      is_before = before.1;
      object = object.0;
      is_object = or_complaint_ok (λ (fault : CopyFault). complaint file (copy_text fault))
          (copied changes before.0) object.0 object.1;
      bytes = bytes.0;
      is_bytes = of_file_ok file (file_of object.0.object) bytes.0 bytes.1;
      is = let both = bytes.2 in cc;
    }

-- ---- The law

pub copied_files_keep : CopyLaw → CopyOpens → CopiedFilesKeep
unfolding copy_outcome
copied_files_keep law opens c named out file w ranges written =
    let found = outcome_done (codes "copy") (copy_done c named out file) out w written in
    let done = done_known c named out file found.0 found.1 in
    let read = object_known named file done.before done.is_before in
    let same = first_written out done.bytes [] found.0.writes w
    (sym (ap (λ (d : Done). d.writes) done.is)) found.2 in
    let changes = changes_with c done.update done.add in
    let are = changes_are c named done.update done.add ranges done.is_update done.is_add in
    let bytes = ranges.files file read.image read.held in
    let again = opens changes read.image done.before done.object done.bytes are bytes read.opens
    done.is_object done.is_bytes in
    let copied : IsCopied (changes_with c done.update done.add) done.before again.0 = record {
      image = read.image;
      bytes = bytes;
      is_before = read.opens;
      made = done.object;
      is_made = done.is_object;
      out = done.bytes;
      is_out = done.is_bytes;
      is_after = again.1;
    } in
    let both = law changes done.before again.0 are copied in
    record {
      update = done.update;
      is_update = done.is_update;
      add = done.add;
      is_add = done.is_add;
      before = done.before;
      after = again.0;
      copied = copied;
      read = read.held;
      written = sym (ap (λ (x : FileWrite). x.bytes) same);
      anew = ap (λ (x : FileWrite). x.in_place) same;
      kept = both.0;
      given = both.1;
    }

pub copy_gives_file : CopyGivesFile
unfolding copy_outcome written_outcome
copy_gives_file c named out file ended =
    let found = outcome_ended (codes "copy") (copy_done c named out file) ended in
    let done = done_known c named out file found.0 found.1 in (
      made_file out done.bytes,
      ap (λ (r : Result Done Complaint). write_of (written_outcome (codes "copy") r).writes out)
          found.1
          ∙ ap (λ (d : Done). write_of d.writes out) (sym done.is)
          ∙ first_found out done.bytes [],
    )
