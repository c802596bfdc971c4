-- Combining the two halves is refused at most for a place that is too large.
use Rattle.std.proofs.Common.{◌≡◌, ℕ, zero, suc, ◌+◌, ◌-◌, ◌<◌, ◌≤◌, Bool, true, false, not, ◌&&◌, List, [], ◌∷◌, length, Option, Some, None, Result, Ok, Err, refl, sym, ap, ◌∙◌, arith}
use Rattle.std.specs.Prelude.{nat_le, ◌==◌, map}
use Rattle.std.specs.List.{range_with_len}
use Rattle.std.specs.Option.{option_map}
use Rattle.std.proofs.lemmas.List.FromFn.{length-map-range_with_len}
use Rattle.elf_types.specs.Answers.{refused_if, first_refusal, answered, ◌>>=◌}
use Rattle.elf_types.specs.declared.records.Part.TheVariants as part
use Rattle.elf_types.specs.declared.errors.ElfError.{ElfError}
use Rattle.elf_types.specs.declared.errors.ElfError.TheVariants.{NoSection, TooLarge, Unfit}
use Rattle.elf_xlate.specs.Headers.{ehdr_fits}
use Rattle.elf_layout.specs.Layout.{some_above, limit_of}
use Rattle.elf_object.specs.Object.{Object}
use Rattle.elf_object.specs.Answers.{raw_refusal}
use Rattle.elf_object.specs.Calls.{newphdr_refusal, update_ehdr_refusal}
use Rattle.elf_object.specs.Layout.{section_numbers}
use Rattle.elf_object.specs.Steps.{stored_ehdr}
use Rattle.elf_object.specs.Valid.{IsObject}
use Rattle.elf_object.proofs.PassedLaws.{passed_two}
use Rattle.rebuild_model.specs.Arranged.{Rebuilt, parts_from, tail_refusal, placed_from, arranged}
use Rattle.rebuild_model.specs.Rebuilt.{index_refusal}
use Rattle.rebuild_model.specs.Split.{debug_section, debug_sections, matches, counterpart, combined_section, combined_sections, combined_tail, combined_object, combined_raw_refusal, combine_fault, or_elf, UnstripFault, unstripped}
use Rattle.rebuild_model.specs.Split.UnstripFault.{Elf, Debug, Mismatch}

-- ---- Lists of refusals

later_none : {E : Type 0} (r : Option E) (rs : List (Option E)) → r ≡ None
    → first_refusal rs ≡ None → first_refusal (r ∷ rs) ≡ None
later_none None rs here rest = rest
later_none (Some e) rs here rest = cc

numbers_none : {E : Type 0} (f : ℕ → Option E) (a n : ℕ)
    → ((s : ℕ) → a ≤ s → s < a + n → f s ≡ None)
    → first_refusal (map f (range_with_len a n)) ≡ None
numbers_none f a zero each = refl
numbers_none f a (suc n) each =
    later_none (f a) (map f (range_with_len (a + 1) n)) (each a (omega arith) (omega arith))
    (numbers_none f (a + 1) n
    (λ s from below. each s (omega (arith, from)) (omega (arith, below))))

-- ---- A section's bytes

pub raw_none : (stripped debug : Object) (s : ℕ)
    → raw_refusal debug s ≡ None
    → ((t : ℕ) → counterpart stripped debug s ≡ Some t → raw_refusal stripped t ≡ None)
    → combined_raw_refusal stripped debug s ≡ None
unfolding combined_raw_refusal
raw_none stripped debug s here there = by_found (counterpart stripped debug s) refl
  where
    by_found : (found : Option ℕ) → counterpart stripped debug s ≡ found
        → ◌≡◌ {A = Option UnstripFault} (elim found [
          | None ↦ option_map Debug (raw_refusal debug s)
          | Some t ↦ option_map Elf (raw_refusal stripped t)
        ]) None
    by_found None e = ap (λ (x : Option ElfError). option_map Debug x) here
    by_found (Some t) e = ap (λ (x : Option ElfError). option_map Elf x) (there t e)

-- ---- The string index

-- one that the image does not refuse
pub index_none : (whole stripped debug : Object) → IsObject stripped
    → length debug.sections ≡ length whole.sections
    → debug.header.shstrndx ≡ whole.header.shstrndx
    → index_refusal whole (debug_sections whole) whole.header.shstrndx ≡ None
    → index_refusal stripped (combined_sections stripped debug) debug.header.shstrndx ≡ None
unfolding index_refusal update_ehdr_refusal stored_ehdr ehdr_fits
index_none whole stripped debug ok count index passed =
    let first : (not (whole.header.shstrndx == 0)
    && nat_le (length (debug_sections whole)) whole.header.shstrndx) ≡ false =
    (passed_two
    (not (whole.header.shstrndx == 0)
    && nat_le (length (debug_sections whole)) whole.header.shstrndx)
    (not (ehdr_fits (stored_ehdr
    (record whole.header { shnum = length (debug_sections whole) })
    (record whole.header { shstrndx = whole.header.shstrndx }))))
    (NoSection whole.header.shstrndx (length (debug_sections whole)))
    (Unfit part.Header 0) passed).0 in
    let long : length (combined_sections stripped debug) ≡ length (debug_sections whole) =
    length-map-range_with_len (combined_section stripped debug) 0 (length debug.sections)
    ∙ count
    ∙ sym (length-map-range_with_len (debug_section whole) 0 (length whole.sections)) in
    let here : (not (debug.header.shstrndx == 0)
    && nat_le (length (combined_sections stripped debug)) debug.header.shstrndx) ≡ false =
    ap (λ (n : ℕ). not (n == 0) && nat_le (length (combined_sections stripped debug)) n) index
    ∙ ap (λ (n : ℕ). not (whole.header.shstrndx == 0) && nat_le n whole.header.shstrndx) long
    ∙ first in
    later_none
    (refused_if (not (debug.header.shstrndx == 0)
    && nat_le (length (combined_sections stripped debug)) debug.header.shstrndx)
    (NoSection debug.header.shstrndx (length (combined_sections stripped debug))))
    (refused_if (not (ehdr_fits (stored_ehdr
    (record stripped.header { shnum = length (combined_sections stripped debug) })
    (record stripped.header { shstrndx = debug.header.shstrndx })))) (Unfit part.Header 0) ∷ [])
    (ap (λ (b : Bool). refused_if {E = ElfError} b
    (NoSection debug.header.shstrndx (length (combined_sections stripped debug)))) here)
    (later_none
    (refused_if (not (ehdr_fits (stored_ehdr
    (record stripped.header { shnum = length (combined_sections stripped debug) })
    (record stripped.header { shstrndx = debug.header.shstrndx })))) (Unfit part.Header 0)) []
    (ap (λ (b : Bool). refused_if {E = ElfError} (not b) (Unfit part.Header 0))
    ok.fitting)
    refl)

-- ---- No fault before the places

pub no_fault : (stripped debug : Object) → matches stripped debug ≡ true
    → newphdr_refusal (length stripped.phdrs) ≡ None
    → ((s : ℕ) → 1 ≤ s → s < length debug.sections
    → combined_raw_refusal stripped debug s ≡ None)
    → index_refusal stripped (combined_sections stripped debug) debug.header.shstrndx ≡ None
    → combine_fault stripped debug ≡ None
unfolding combine_fault
no_fault stripped debug matching segments raw index =
    let last = option_map Debug
    (index_refusal stripped (combined_sections stripped debug) debug.header.shstrndx) ∷ [] in
    let sections = first_refusal
    (map (combined_raw_refusal stripped debug) (section_numbers debug)) ∷ last in
    let rest = option_map Elf (newphdr_refusal (length stripped.phdrs)) ∷ sections in
    later_none (refused_if (not (matches stripped debug)) Mismatch) rest
    (ap (λ (b : Bool). refused_if {E = UnstripFault} (not b) Mismatch) matching)
    (later_none (option_map Elf (newphdr_refusal (length stripped.phdrs))) sections
    (ap (λ (x : Option ElfError). option_map Elf x) segments)
    (later_none
    (first_refusal (map (combined_raw_refusal stripped debug) (section_numbers debug))) last
    (numbers_none (combined_raw_refusal stripped debug) 1 (length debug.sections - 1)
    (λ s from below. raw s from (omega (arith, from, below))))
    (later_none
    (option_map Debug
    (index_refusal stripped (combined_sections stripped debug) debug.header.shstrndx)) []
    (ap (λ (x : Option ElfError). option_map Debug x) index) refl)))

-- ---- The places

too_large_alone : (r : Rebuilt) (e : ElfError) → arranged r ≡ Err e → e ≡ TooLarge
unfolding arranged tail_refusal
too_large_alone r e h = by_tail r.tail h
  where
    by_test : (b : Bool) (made : Rebuilt)
        → answered (refused_if b TooLarge) made ≡ Err e → e ≡ TooLarge
    by_test true made h = cc
    by_test false made h = cc

    by_tail : (t : Option ℕ)
        → ◌≡◌ {A = Result Rebuilt ElfError} (elim t [
          | None ↦ Ok r
          | Some tail ↦ answered
              (tail_refusal r.object tail)
              (record r { object = placed_from r.object tail })
        ]) (Err e)
        → e ≡ TooLarge
    by_tail None h = cc
    by_tail (Some tail) h =
        by_test (some_above (limit_of r.object.header.class) (parts_from r.object tail))
        (record r { object = placed_from r.object tail }) h

pub fault_is : (stripped debug : Object) (fault : UnstripFault)
    → combine_fault stripped debug ≡ None → unstripped stripped debug ≡ Err fault
    → fault ≡ Elf TooLarge
unfolding unstripped
fault_is stripped debug fault none e =
    let made : Rebuilt =
    record { object = combined_object stripped debug; tail = combined_tail stripped } in
    let places : or_elf (arranged made) ≡ Err fault =
    sym (ap (λ (x : Option UnstripFault). answered x made >>= λ (r : Rebuilt). or_elf (arranged r))
    none) ∙ e in
    by_answer (arranged made) refl places
  where
    by_answer : (x : Result Rebuilt ElfError)
        → arranged
        (record { object = combined_object stripped debug; tail = combined_tail stripped }) ≡ x
        → or_elf x ≡ Err fault → fault ≡ Elf TooLarge
    by_answer (Ok r) is h = cc
    by_answer (Err d) is h =
        let same : Elf d ≡ fault = cc in
        sym same
        ∙ ap Elf (too_large_alone
        (record { object = combined_object stripped debug; tail = combined_tail stripped }) d is)

pub made_is : (stripped debug : Object) (r : Rebuilt) → combine_fault stripped debug ≡ None
    → unstripped stripped debug ≡ Ok r
    → arranged
    (record { object = combined_object stripped debug; tail = combined_tail stripped }) ≡ Ok r
unfolding unstripped
made_is stripped debug r none e =
    let made : Rebuilt =
    record { object = combined_object stripped debug; tail = combined_tail stripped } in
    let places : or_elf (arranged made) ≡ Ok r =
    sym (ap (λ (x : Option UnstripFault). answered x made >>= λ (y : Rebuilt). or_elf (arranged y))
    none) ∙ e in
    by_answer (arranged made) places
  where
    by_answer : (x : Result Rebuilt ElfError) → or_elf x ≡ Ok r → x ≡ Ok r
    by_answer (Ok y) h = cc
    by_answer (Err d) h = cc
