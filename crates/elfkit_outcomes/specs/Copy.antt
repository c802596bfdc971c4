-- copy and rehash.
use Rattle.std.specs.Prelude.{ℕ, List, ◌++◌, map, Result, Ok, codes}
use Rattle.elf_types.specs.Answers.{◌>>=◌}
use Rattle.elf_types.specs.Text.{error_text}
use Rattle.tool_objects.specs.elf_outside.Names.{Map}
use Rattle.rebuild_changes.specs.declared.options.CopyChanges.{CopyChanges}
use Rattle.rebuild_model.specs.Copied.{Changes, CopyFault, copied}
use Rattle.rebuild_model.specs.Copied.CopyFault.{NoSection, NoBytes, Allocated, Fixed, NoTable, Strip}
use Rattle.rebuild_model.specs.Rehashed.{RehashFault, rehashed}
use Rattle.rebuild_model.specs.Rehashed.RehashFault.{NoDynamicHash, Refused}
use Rattle.rebuild_model.specs.Files.{file_of}
use Rattle.tool_objects.specs.tool_output.Outcomes.{Outcome}
use Rattle.tool_objects.specs.tool_output.Made.{Done, Complaint, written_outcome, made_file_alone, complaint, of_file}
use Rattle.elfkit_outcomes.specs.Files.{object_named, bytes_of_each}
use Rattle.elfkit_outcomes.specs.Strip.{or_complaint}

-- ---- copy

-- the changes, with the bytes of the files of -u and of -a
abbrev pub changes_with : CopyChanges → List (List ℕ × List ℕ) → List (List ℕ × List ℕ) → Changes
changes_with c update add = record {
  remove = c.remove;
  update = update;
  rename = map (λ r. (r.old, r.new)) c.rename;
  flags = map (λ f. (f.name, f.bits)) c.flags;
  add = add;
}

unfoldable pub copy_text : CopyFault → List ℕ
copy_text (NoSection name) = codes "no section " ++ name
copy_text (NoBytes name) = codes "section " ++ name ++ codes " has no bytes"
copy_text (Allocated name) = codes "section " ++ name ++ codes " is allocated"
copy_text (Fixed name) = codes "allocation of " ++ name ++ codes " is fixed"
copy_text NoTable = codes "no name table of its own"
copy_text (Strip e) = error_text e

-- the files of -u and then those of -a are read before the file itself is opened
unfoldable pub copy_done : CopyChanges → Map → List ℕ → List ℕ → Result Done Complaint
copy_done c named out file =
    bytes_of_each named c.update >>= λ update.
    bytes_of_each named c.add >>= λ add.
    object_named named file >>= λ o.
    let changes = changes_with c update add in
    or_complaint (λ fault. complaint file (copy_text fault)) (copied changes o) >>= λ r.
    of_file file (file_of r.object) >>= λ bytes.
    Ok (made_file_alone out bytes)

unfoldable pub copy_outcome : CopyChanges → Map → List ℕ → List ℕ → Outcome
copy_outcome c named out file = written_outcome (codes "copy") (copy_done c named out file)

-- ---- rehash

unfoldable pub rehash_text : RehashFault → List ℕ
rehash_text NoDynamicHash = codes "no dynamic hash"
rehash_text (Refused e) = error_text e

unfoldable pub rehash_done : Map → List ℕ → List ℕ → Result Done Complaint
rehash_done named out file =
    object_named named file >>= λ o.
    or_complaint (λ fault. complaint file (rehash_text fault)) (rehashed o) >>= λ p.
    of_file file (file_of p) >>= λ bytes.
    Ok (made_file_alone out bytes)

unfoldable pub rehash_outcome : Map → List ℕ → List ℕ → Outcome
rehash_outcome named out file = written_outcome (codes "rehash") (rehash_done named out file)
