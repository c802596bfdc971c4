-- What two halves are combined to is refused by an update at most as too large, and so they combine
-- again (`SplitLaw` of rebuild_model).
use Rattle.std.proofs.Common.{◌≡◌, ℕ, Bool, true, false, not, List, length, Option, Some, None, Ok, refl, sym, ap, ◌∙◌, subst}
use Rattle.std.specs.Prelude.{if◌then◌else◌, ◌==◌}
use Rattle.elf_types.specs.declared.records.Phdr.{Phdr}
use Rattle.elf_types.specs.declared.errors.ElfError.{ElfError}
use Rattle.elf_types.specs.declared.errors.ElfError.TheVariants.{TooLarge}
use Rattle.elf_ident.proofs.Refusals.{answered_ok}
use Rattle.elf_object.specs.Object.{Object}
use Rattle.elf_object.specs.Open.{created_over}
use Rattle.elf_object.specs.Layout.{parts_of}
use Rattle.elf_object.specs.Refusal.{placing_refusal, refusal}
use Rattle.elf_object.specs.Steps.{with_ehdr, with_phdrs}
use Rattle.law_rebuild.specs.law_object.Laws.{ReopenLaw}
use Rattle.law_rebuild.proofs.law_object.OpenLaws.{opened_is}
use Rattle.law_rebuild.proofs.law_object.PlaceLaws.{Pairs}
use Rattle.elf_object.specs.Sections.{is_program}
use Rattle.rebuild_model.specs.Arranged.{Rebuilt, base_end, tail_of, over_base, placed_from, tail_refusal, arranged}
use Rattle.rebuild_model.specs.Rebuilt.{assembled}
use Rattle.rebuild_model.specs.Removed.{removed_sections}
use Rattle.rebuild_model.specs.Split.{combined_tail, combined_object, unstripped}
use Rattle.rebuild_model.specs.KeepingLaws.{SplitLaw}
use Rattle.law_rebuild.proofs.strip.HalfLaws.{halves_are_writable}
use Rattle.law_rebuild.proofs.strip.KeptLaws.{first_stays}
use Rattle.law_split.specs.Halves.{DebugHalfKeeps, StrippedHalfKeeps, HalvesCombine}
use Rattle.law_split.proofs.CombineFaults.{made_is}
use Rattle.law_split.proofs.CombineLaws.{AreHalves, halves_known, fault_none}
use Rattle.law_split.proofs.DebugHalf.{half_reopened}
use Rattle.law_split.proofs.Inside.{reopened_bytes}
use Rattle.law_split.proofs.Matching.{debug_of_split, stripped_of_split}
use Rattle.law_split.proofs.Overlaps.{NoneShared, large_alone}
use Rattle.law_split.proofs.StrippedHalf.{stripped_reopened}
use Rattle.law_split.proofs.ProgramParts.{parts_apart}
use Rattle.law_split.proofs.Whole.{opened_fits}

-- ---- What is arranged

-- placed from a tail on, where there is one
abbrev at_tail : Object → Option ℕ → Object
at_tail object None = object
at_tail object (Some n) = placed_from object n

arranged_at : (object : Object) (tail : Option ℕ) (r : Rebuilt)
    → arranged (record { object = object; tail = tail }) ≡ Ok r
    → r.object ≡ at_tail object tail
unfolding arranged
arranged_at object None r e =
    let made : Rebuilt = record { object = object; tail = None } in
    let same : made ≡ r = cc in
    sym (ap (λ (x : Rebuilt). x.object) same)
arranged_at object (Some n) r e =
    let made : Rebuilt = record { object = placed_from object n; tail = Some n } in
    let value = answered_ok (tail_refusal object n) made r e in
    sym (ap (λ (x : Rebuilt). x.object) value.1)

-- without program headers nothing is laid out by the caller
plain_layout : (stripped debug : Object) (r : Rebuilt) → is_program stripped ≡ false
    → arranged
    (record { object = combined_object stripped debug; tail = combined_tail stripped }) ≡ Ok r
    → r.object.layout ≡ false
unfolding combined_object tail_of over_base created_over assembled with_ehdr with_phdrs
plain_layout stripped debug r plain e =
    let none : combined_tail stripped ≡ None =
    ap (λ (b : Bool). if b then Some (base_end stripped stripped.sections) else None) plain in
    ap (λ (x : Object). x.layout)
    (arranged_at (combined_object stripped debug) (combined_tail stripped) r e)
    ∙ ap (λ (t : Option ℕ). (at_tail (combined_object stripped debug) t).layout) none
    ∙ ap (λ (t : Option ℕ). (over_base stripped t).layout) none

program_tail : (stripped : Object) → is_program stripped ≡ true
    → combined_tail stripped ≡ Some (base_end stripped stripped.sections)
unfolding tail_of
program_tail stripped program =
    ap (λ (b : Bool). if b then Some (base_end stripped stripped.sections) else None) program

-- ---- The law

updated_alone : (reopens : (o : Object) → ReopenLaw o) (removed : List ℕ)
    (whole stripped debug : Object) (r : Rebuilt) (e : ElfError)
    → AreHalves removed whole stripped debug → unstripped stripped debug ≡ Ok r
    → refusal r.object ≡ Some e → e ≡ TooLarge
unfolding placing_refusal
updated_alone reopens removed whole stripped debug r e are is h =
    let split = are.split in
    let one = stripped_reopened removed whole stripped
    (stripped_of_split removed whole stripped debug split are.stays) in
    let other = half_reopened whole debug (debug_of_split removed whole stripped debug split) in
    let bytes = reopened_bytes split.made.object split.out stripped one in
    let debug_bytes = reopened_bytes split.half split.debug_out debug other in
    let writable = halves_are_writable.combined stripped debug r
    (opened_is split.out stripped bytes split.is_stripped)
    (opened_is split.debug_out debug debug_bytes split.is_debug)
    (opened_fits split.out stripped bytes split.is_stripped).segments is in
    let made = made_is stripped debug r
    (fault_none reopens removed whole stripped debug are) is in
    large_alone (parts_of r.object) r.object.layout (length r.object.base) r.object.header.class e
    (λ laid. by_program (is_program whole) refl made laid)
    (sym writable.refused ∙ h)
  where
    same : is_program stripped ≡ is_program whole
    same = ap (λ (l : List Phdr). not (length l == 0)) are.kept.phdrs

    by_program : (b : Bool) → is_program whole ≡ b
        → arranged
        (record { object = combined_object stripped debug; tail = combined_tail stripped }) ≡ Ok r
        → r.object.layout ≡ true → Pairs NoneShared (parts_of r.object)
    by_program false plain made laid =
        let clash : true ≡ false =
        sym laid ∙ plain_layout stripped debug r (same ∙ plain) made in cc
    by_program true program made laid =
        let object : r.object
        ≡ placed_from (combined_object stripped debug) (base_end stripped stripped.sections) =
        arranged_at (combined_object stripped debug) (combined_tail stripped) r made
        ∙ ap (at_tail (combined_object stripped debug))
        (program_tail stripped (same ∙ program)) in
        subst (λ (x : Object). Pairs NoneShared (parts_of x)) (sym object)
        (parts_apart removed whole stripped debug are program)

pub split_law : ((o : Object) → ReopenLaw o) → DebugHalfKeeps → StrippedHalfKeeps
    → HalvesCombine → SplitLaw
split_law reopens debug_keeps stripped_keeps combine debug_only names whole stripped debug is =
    let removed = removed_sections debug_only names whole in
    let stays = first_stays.strip debug_only names whole in
    let are = halves_known debug_keeps stripped_keeps removed whole stripped debug is stays in
    let back = combine removed whole stripped debug is stays in
    record {
      refused = back.refused;
      updated = λ r e made refused.
          updated_alone reopens removed whole stripped debug r e are made refused;
      same = back.same;
    }
