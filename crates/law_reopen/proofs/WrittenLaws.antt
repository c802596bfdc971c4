-- What strip, copy, rehash and unstrip make of an image is dirty, an object, and has the program
-- headers of the image. So what an update writes of it opens again.
use Rattle.std.proofs.Common.{◌≡◌, ℕ, List, Option, Some, None, Result, Ok, Err, refl, sym, ap, ◌∙◌, subst}
use Rattle.std.specs.Prelude.{All}
use Rattle.elf_types.specs.Answers.{answered}
use Rattle.elf_types.specs.Lists.{AreBytes}
use Rattle.elf_types.specs.declared.records.Phdr.{Phdr}
use Rattle.elf_types.specs.declared.errors.ElfError.{ElfError}
use Rattle.elf_xlate.specs.Headers.{IsPhdr}
use Rattle.elf_ident.proofs.Refusals.{answered_ok, bind_ok}
use Rattle.elf_object.specs.Object.{Object}
use Rattle.elf_object.specs.Open.{opened}
use Rattle.law_object.specs.Laws.{ReopenLaw}
use Rattle.law_object.proofs.LawsHold.{beginnings_are}
use Rattle.rebuild_model.specs.Arranged.{Rebuilt, arranged}
use Rattle.rebuild_model.specs.Files.{file_of}
use Rattle.rebuild_model.specs.Rebuilt.{stripped}
use Rattle.rebuild_model.specs.Rehashed.{RehashFault, dynamic_symbols, gnu_section, sysv_section, rehashed_at, rehashed}
use Rattle.rebuild_model.specs.Rehashed.RehashFault.{NoDynamicHash}
use Rattle.rebuild_model.specs.Removed.{removed_sections}
use Rattle.rebuild_model.specs.Split.{combine_fault, combined_tail, combined_sections, combined_object, or_elf, unstripped}
use Rattle.law_rebuild.proofs.strip.ArrangedLaws.{arranged_keeps}
use Rattle.law_rebuild.proofs.strip.HalfLaws.{combined_is_object, halves_are_writable}
use Rattle.law_rebuild.proofs.strip.KeptLaws.{first_stays}
use Rattle.law_rebuild.proofs.strip.RehashLaws.{rehashed_is_object}
use Rattle.law_rebuild.proofs.strip.WrittenLaws.{opens_again}
use Rattle.law_split.proofs.Again.{IsWrittenAs}
use Rattle.law_split.proofs.DebugHalf.{debug_half_written}
use Rattle.law_split.proofs.Placed.{assembled_front, placed_front}
use Rattle.law_split.proofs.StrippedHalf.{stripped_written}
use Rattle.law_split.proofs.Whole.{opened_fits}
use Rattle.law_rebuild.proofs.copy.CopySteps.{copied_can_reopen}
use Rattle.law_rebuild.proofs.copy.Reopened.{marked_dirty}
use Rattle.law_hash.proofs.RehashedLaws.{rehash_ends}
use Rattle.law_reopen.specs.Written.{reopened, StripOpens, DebugOpens, CopyReopens, RehashOpens, UnstripOpens}

-- what is written of such an object opens again
pub written_opens : ((o : Object) → ReopenLaw o) → (q : Object) (out : List ℕ) → IsWrittenAs q out
    → opened out ≡ Ok (reopened q)
written_opens reopens q out w = opens_again reopens q out w.ok w.phdrs w.dirty w.written

-- ---- strip, and both files of strip -f

pub strip_opens : ((o : Object) → ReopenLaw o) → StripOpens
unfolding stripped
strip_opens reopens debug_only names image before made out bytes opens is_made is_out =
    written_opens reopens made.object out
    (stripped_written (removed_sections debug_only names before) before image made out bytes opens
    (first_stays.strip debug_only names before) is_made is_out)

pub debug_opens : ((o : Object) → ReopenLaw o) → DebugOpens
debug_opens reopens image before half out bytes opens is_half is_out =
    written_opens reopens half out
    (debug_half_written before image half out bytes opens is_half is_out)

-- ---- copy

pub copy_reopens : ((o : Object) → ReopenLaw o) → CopyReopens
copy_reopens reopens c image before made out are bytes opens is_made is_out =
    let w = copied_can_reopen c image before made are bytes opens is_made in
    opens_again reopens made.object out w.object w.phdrs (marked_dirty made.object w.marked) is_out

-- ---- rehash

-- it finds a table of dynamic symbols
rehash_table : (o p : Object) → rehashed o ≡ Ok p → (s : ℕ) × (dynamic_symbols o ≡ Some s)
unfolding rehashed
rehash_table o p e = by_table (dynamic_symbols o) refl e
  where
    by_table : (found : Option ℕ) → dynamic_symbols o ≡ found
        → ◌≡◌ {A = Result Object RehashFault} (elim found [
          | None ↦ Err NoDynamicHash
          | Some s ↦ rehashed_at o s (gnu_section o s) (sysv_section o s)
        ]) (Ok p)
        → (s : ℕ) × (dynamic_symbols o ≡ Some s)
    by_table None at h = cc
    by_table (Some s) at h = (s, at)

rehashed_written : (image : List ℕ) (before edited : Object) (out : List ℕ) → AreBytes image
    → opened image ≡ Ok before → rehashed before ≡ Ok edited → file_of edited ≡ Ok out
    → IsWrittenAs edited out
rehashed_written image before edited out bytes opens is_edited is_out =
    let table = rehash_table before edited is_edited in
    let done = rehash_ends before edited table.0 table.1 is_edited in
    record {
      ok = rehashed_is_object before edited (beginnings_are.from_image image before bytes opens)
          is_edited;
      phdrs = subst (λ (l : List Phdr). All IsPhdr l) (sym done.way.strings.phdrs)
          (beginnings_are.phdrs image before bytes opens);
      dirty = done.dirty;
      written = is_out;
    }

pub rehash_opens : ((o : Object) → ReopenLaw o) → RehashOpens
rehash_opens reopens image before edited out bytes opens is_edited is_out =
    written_opens reopens edited out
    (rehashed_written image before edited out bytes opens is_edited is_out)

-- ---- unstrip

or_elf_ok : (r : Result Rebuilt ElfError) (x : Rebuilt) → or_elf r ≡ Ok x → r ≡ Ok x
or_elf_ok (Ok y) x e = cc
or_elf_ok (Err d) x e = cc

-- what is combined has the program headers of the stripped file
combined_phdrs : (o d : Object) (r : Rebuilt) → unstripped o d ≡ Ok r → r.object.phdrs ≡ o.phdrs
unfolding unstripped combined_object
combined_phdrs o d r e =
    let made : Rebuilt = record { object = combined_object o d; tail = combined_tail o } in
    let whole = bind_ok (answered (combine_fault o d) made) (λ x. or_elf (arranged x)) r e in
    let value = answered_ok (combine_fault o d) made whole.0 whole.1 in
    let front = assembled_front o (combined_tail o) d.header.shstrndx (combined_sections o d) in
    arranged_keeps (λ (q : Object). q.phdrs ≡ o.phdrs) made r
    (ap arranged value.1 ∙ or_elf_ok (arranged whole.0) r whole.2) front.phdrs
    (λ tail stated passed. (placed_front (combined_object o d) tail).phdrs ∙ front.phdrs)

combined_written : (image debug_image : List ℕ) (before debug : Object) (r : Rebuilt)
    (out : List ℕ) → AreBytes image → AreBytes debug_image → opened image ≡ Ok before
    → opened debug_image ≡ Ok debug → unstripped before debug ≡ Ok r → file_of r.object ≡ Ok out
    → IsWrittenAs r.object out
combined_written image debug_image before debug r out bytes debug_bytes opens debug_opens is_made
    is_out =
    let ok = beginnings_are.from_image image before bytes opens in
    let debug_ok = beginnings_are.from_image debug_image debug debug_bytes debug_opens in
    let fits = opened_fits image before bytes opens in
    record {
      ok = combined_is_object before debug r ok debug_ok is_made;
      phdrs = subst (λ (l : List Phdr). All IsPhdr l) (sym (combined_phdrs before debug r is_made))
          (beginnings_are.phdrs image before bytes opens);
      dirty = (halves_are_writable.combined before debug r ok debug_ok fits.segments is_made).dirty;
      written = is_out;
    }

pub unstrip_opens : ((o : Object) → ReopenLaw o) → UnstripOpens
unstrip_opens reopens image debug_image before debug made out bytes debug_bytes opens debug_opens
    is_made is_out =
    written_opens reopens made.object out
    (combined_written image debug_image before debug made out bytes debug_bytes opens debug_opens
    is_made is_out)
