-- The file that rehash writes is the image of what it makes of FILE's object.
use Rattle.std.proofs.Common.{◌≡◌, ℕ, ◌<◌, List, [], Option, Some, None, Result, Ok, Err, refl, sym, ap, ◌∙◌}
use Rattle.std.specs.Prelude.{codes}
use Rattle.elf_outside.specs.Names.{Map}
use Rattle.elf_ident.proofs.Refusals.{bind_ok}
use Rattle.elf_object.specs.Object.{Object}
use Rattle.elf_object.specs.Open.{opened}
use Rattle.hash_model.specs.Listed.{find_linear_answer}
use Rattle.rebuild_model.specs.Files.{file_of}
use Rattle.rebuild_model.specs.Laws.{IsRehashed}
use Rattle.rebuild_model.specs.Rehashed.{RehashFault, dynamic_symbols, gnu_section, sysv_section, rehashed_at, rehashed}
use Rattle.rebuild_model.specs.Rehashed.RehashFault.{NoDynamicHash}
use Rattle.tool_output.specs.Outcomes.{FileWrite, write_of}
use Rattle.tool_output.specs.Made.{Done, Complaint, complaint, made_file_alone, made_file, of_file, written_outcome}
use Rattle.elfkit_outcomes.specs.Files.{object_named}
use Rattle.elfkit_outcomes.specs.Strip.{or_complaint}
use Rattle.elfkit_outcomes.specs.Copy.{rehash_text, rehash_done, rehash_outcome}
use Rattle.law_files.proofs.strip.Written.{of_file_ok, object_known, first_found, first_written, outcome_done, outcome_ended}
use Rattle.law_hash.specs.Built.{BuiltAreFound}
use Rattle.law_hash.specs.Rehash.{RehashWrites, RehashRebuilds}
use Rattle.law_hash.specs.Find.Built.{BuiltHaveNoFinding}
use Rattle.law_reopen.specs.Written.{reopened, RehashOpens}
use Rattle.law_reopen.specs.Rehash.RehashedFiles.{KeepsDynamic, RehashFilesKeep, RehashGivesFile}

-- ---- What rehash does

or_complaint_ok : {A F : Type 0} (complain : F → Complaint) (r : Result A F) (x : A)
    → or_complaint complain r ≡ Ok x → r ≡ Ok x
or_complaint_ok complain (Ok y) x e = cc
or_complaint_ok complain (Err d) x e = cc

-- it finds a table of dynamic symbols
table_found : (o p : Object) → rehashed o ≡ Ok p → (s : ℕ) × (dynamic_symbols o ≡ Some s)
unfolding rehashed
table_found o p is = by (dynamic_symbols o) refl is
  where
    by : (found : Option ℕ) → dynamic_symbols o ≡ found
        → ◌≡◌ {A = Result Object RehashFault} (elim found [
          | None ↦ Err NoDynamicHash
          | Some s ↦ rehashed_at o s (gnu_section o s) (sysv_section o s)
        ]) (Ok p)
        → (s : ℕ) × (dynamic_symbols o ≡ Some s)
    by None found e = cc
    by (Some s) found e = (s, found)

-- what it reads, makes and writes
record IsRehashDone (named : Map) (out file : List ℕ) (done : Done) : Type 0 where
  before : Object
  is_before : object_named named file ≡ Ok before
  edited : Object
  is_edited : rehashed before ≡ Ok edited
  bytes : List ℕ
  is_bytes : file_of edited ≡ Ok bytes
  is : made_file_alone out bytes ≡ done

done_known : (named : Map) (out file : List ℕ) (done : Done)
    → rehash_done named out file ≡ Ok done → IsRehashDone named out file done
unfolding rehash_done
done_known named out file done e =
    let before = bind_ok (object_named named file) _ done e in
    let edited = bind_ok
    (or_complaint (λ fault. complaint file (rehash_text fault)) (rehashed before.0)) _ done
    before.2 in
    let bytes = bind_ok (of_file file (file_of edited.0)) (λ bytes. Ok (made_file_alone out bytes)) done
    edited.2 in
    record {
      before = before.0;
      is_before = before.1;
      edited = edited.0;
      is_edited = or_complaint_ok (λ (fault : RehashFault). complaint file (rehash_text fault))
          (rehashed before.0) edited.0 edited.1;
      bytes = bytes.0;
      is_bytes = of_file_ok file (file_of edited.0) bytes.0 bytes.1;
      is = let both = bytes.2 in cc;
    }

-- ---- What is kept

-- it found one of the two hash sections
one_found : (o p : Object) (s : ℕ) → dynamic_symbols o ≡ Some s → rehashed o ≡ Ok p
    → gnu_section o s ≡ None → sysv_section o s ≡ None → ⊥
unfolding rehashed rehashed_at
one_found o p s table is no_gnu no_sysv =
    let at : Option ℕ → Result Object RehashFault = λ found. elim found [
      | None ↦ Err NoDynamicHash
      | Some n ↦ rehashed_at o n (gnu_section o n) (sysv_section o n)
    ] in
    let none : ◌≡◌ {A = Result Object RehashFault} (Err NoDynamicHash) (Ok p) =
    sym (ap at table
    ∙ ap (λ (g : Option ℕ). rehashed_at o s g (sysv_section o s)) no_gnu
    ∙ ap (λ (h : Option ℕ). rehashed_at o s None h) no_sysv)
    ∙ is in
    cc

keeps_dynamic : RehashWrites → RehashRebuilds → BuiltHaveNoFinding → BuiltAreFound
    → (before after : Object) (s : ℕ) → IsRehashed before after s → 0 < s
    → KeepsDynamic before after s
keeps_dynamic writes rebuilds no_finding are_found before after s is later = record {
  lookup = writes before after s is later;
  some = one_found before is.edited s is.table is.is_edited;
  sysv = λ h found apart.
      let stands = (rebuilds before after s is later apart).sysv h found in
      record {
        from_1 = stands.0;
        link = stands.1;
        no_finding = no_finding.sysv after h stands.2.nbucket stands.2.holds;
        found = λ name.
            are_found.sysv after h stands.2.nbucket name stands.2.holds
            ∙ ap (λ (t : ℕ). find_linear_answer after t name) stands.1;
      };
  gnu = λ g found apart.
      let stands = (rebuilds before after s is later apart).gnu g found in
      record {
        from_1 = stands.0;
        link = stands.1;
        no_finding = no_finding.gnu after g stands.2.shape stands.2.holds;
        found = λ name.
            are_found.gnu after g stands.2.shape name stands.2.holds
            ∙ ap (λ (t : ℕ). find_linear_answer after t name) stands.1;
      };
}

-- ---- The laws

pub rehash_files_keep : RehashOpens → RehashWrites → RehashRebuilds → BuiltHaveNoFinding
    → BuiltAreFound → RehashFilesKeep
unfolding rehash_outcome
rehash_files_keep opens writes rebuilds no_finding are_found named out file w holds written =
    let found = outcome_done (codes "rehash") (rehash_done named out file) out w written in
    let done = done_known named out file found.0 found.1 in
    let read = object_known named file done.before done.is_before in
    let same = first_written out done.bytes [] found.0.writes w
    (sym (ap (λ (d : Done). d.writes) done.is)) found.2 in
    let bytes = holds read.image read.held in
    let again = opens read.image done.before done.edited done.bytes bytes read.opens done.is_edited
    done.is_bytes in
    let table = table_found done.before done.edited done.is_edited in
    let out_is : done.bytes ≡ w.bytes = sym (ap (λ (x : FileWrite). x.bytes) same) in
    record {
      image = read.image;
      read = read.held;
      before = done.before;
      is_before = read.opens;
      edited = done.edited;
      is_edited = done.is_edited;
      written = done.is_bytes ∙ ap (λ (l : List ℕ). Ok l) out_is;
      anew = ap (λ (x : FileWrite). x.in_place) same;
      after = reopened done.edited;
      is_after = ap opened (sym out_is) ∙ again;
      table = table.0;
      is_table = table.1;
      keeps = keeps_dynamic writes rebuilds no_finding are_found done.before
          (reopened done.edited) table.0 (record {
            image = read.image;
            bytes = bytes;
            is_before = read.opens;
            edited = done.edited;
            is_edited = done.is_edited;
            out = done.bytes;
            is_out = done.is_bytes;
            is_after = again;
            table = table.1;
          });
    }

pub rehash_gives_file : RehashGivesFile
unfolding rehash_outcome written_outcome
rehash_gives_file named out file ended =
    let found = outcome_ended (codes "rehash") (rehash_done named out file) ended in
    let done = done_known named out file found.0 found.1 in (
      made_file out done.bytes,
      ap (λ (r : Result Done Complaint).
          write_of (written_outcome (codes "rehash") r).writes out) found.1
          ∙ ap (λ (d : Done). write_of d.writes out) (sym done.is)
          ∙ first_found out done.bytes [],
    )
