-- Notes whose name and descriptor lie in the bytes, and those that do not.
use Rattle.std.proofs.Common.{◌≡◌, ℕ, zero, suc, ◌+◌, ◌<◌, ◌≤◌, min, ◌==◌, Bool, true, false, not, List, Ok, Err, if◌then◌else◌, refl, ap, ◌∙◌, arith}
use Rattle.std.proofs.lemmas.Bool.{cond-false, and_from, and_left, and_right, le-leb, lt-leb, ne_eqb}
use Rattle.elf_types.specs.declared.records.Order.{Order}
use Rattle.elf_types.specs.declared.errors.ElfError.TheVariants.{BadChain}
use Rattle.elf_types.specs.Answers.{refused_if, answered}
use Rattle.elf_descriptor.specs.elf_xlate.Numbers.{number_at}
use Rattle.elf_descriptor.specs.elf_layout.Layout.{rounded_up}
use Rattle.gelf_view.specs.declared.notes.TheConstants.{NOTE_HEADER_SIZE}
use Rattle.gelf_view.specs.Notes.{namesz, descsz, note_type, name_end, desc_place, desc_end, note_lies, note_of, note_with}

-- no place is rounded down
pub rounded_up_le : (n align : ℕ) → n ≤ rounded_up n align
unfolding rounded_up
rounded_up_le n align = omega arith

-- a descriptor that ends in the bytes, if it begins at their end at the latest, begins there
capped : (place size count : ℕ) → min place size + count ≤ size → (if count == 0 then min place size else place) ≡ min place size
capped place size zero fits = refl
capped place size (suc count) fits =
    cond-false (suc count == 0) (min place size) place (ne_eqb (suc count) 0 (λ e. cc)) ∙ omega (arith, fits)

-- one that does not, passes them
passed : (place size count : ℕ) → size < min place size + count → size < (if count == 0 then min place size else place) + count
passed place size zero past = past
passed place size (suc count) past =
    let begins = cond-false (suc count == 0) (min place size) place (ne_eqb (suc count) 0 (λ e. cc)) in
    omega (arith, begins, past)

module _ (order : Order) (align size : ℕ) (header : List ℕ) (at : ℕ) where
  -- where its descriptor begins, if that lies in the bytes
  abbrev begin : ℕ
  begin = min (rounded_up (at + NOTE_HEADER_SIZE + number_at order header 0 4) align) size

  refused : note_lies order align size header at ≡ false → note_with order align size header at ≡ Err (BadChain at)
  unfolding note_with
  refused not_in = ap (λ (b : Bool). answered (refused_if (not b) (BadChain at)) (note_of order align size header at)) not_in

  -- its name passes the bytes
  pub name_passes : size < at + NOTE_HEADER_SIZE + number_at order header 0 4 → note_with order align size header at ≡ Err (BadChain at)
  unfolding note_lies name_end namesz
  name_passes past = refused (and_left _ _ (lt-leb _ _ past))

  -- its descriptor passes them
  pub desc_passes : size < begin + number_at order header 4 4 → note_with order align size header at ≡ Err (BadChain at)
  unfolding note_lies desc_end desc_place name_end namesz descsz
  desc_passes past =
      refused (and_right _ _ (lt-leb _ _ (passed (rounded_up (at + NOTE_HEADER_SIZE + number_at order header 0 4) align) size (number_at order header 4 4) past)))

  -- both lie in them
  pub both_lie : at + NOTE_HEADER_SIZE + number_at order header 0 4 ≤ size → begin + number_at order header 4 4 ≤ size
      → note_with order align size header at ≡ Ok (record {
        ntype = number_at order header 8 4;
        name_at = at + NOTE_HEADER_SIZE;
        namesz = number_at order header 0 4;
        desc_at = begin;
        descsz = number_at order header 4 4;
        next = min (rounded_up (begin + number_at order header 4 4) align) size;
      })
  unfolding note_with note_lies note_of desc_end desc_place name_end namesz descsz note_type
  both_lie name_fits desc_fits =
      let place = rounded_up (at + NOTE_HEADER_SIZE + number_at order header 0 4) align in
      let count = number_at order header 4 4 in
      let begins = capped place size count desc_fits in
      let lies : note_lies order align size header at ≡ true =
      and_from _ _ (le-leb _ _ name_fits) (le-leb _ _ (omega (arith, begins, desc_fits))) in
      ap (λ (b : Bool). answered (refused_if (not b) (BadChain at)) (note_of order align size header at)) lies
      ∙ ap (λ (d : ℕ). Ok (record {
        ntype = number_at order header 8 4;
        name_at = at + NOTE_HEADER_SIZE;
        namesz = number_at order header 0 4;
        desc_at = d;
        descsz = count;
        next = min (rounded_up (d + count) align) size;
      })) begins
