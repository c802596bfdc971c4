-- The program headers, lent for writing.
use Rattle.std.proofs.Common.{◌≡◌, ℕ, ◌≤◌, List, ◌++◌, length, drop, true, false, Option, refl, sym, ap, ◌∙◌, arith}
use Rattle.std.proofs.lemmas.List.{length-append, length-drop, length-take-le}
use Rattle.elf_types.specs.declared.records.Phdr.{Phdr}
use Rattle.elf_types.specs.declared.constants.TheConstants.{MAX_SEGMENTS}
use Rattle.elf_types.specs.Lists.{refilled}
use Rattle.section_table.specs.elf_outside.declared.sources.Source.{Ghosts}
use Rattle.section_table.specs.elf_object.Steps.{with_phdrs}
use Rattle.section_table.specs.elf_object.Calls as calls
use Rattle.section_table.specs.elf_object.Valid.{KeepsObject, KeepsTied}
use Rattle.law_object.specs.Writing.Based.{KeepsBased}
use Rattle.elf_descriptor.specs.declared.body.Body.{Body}
use Rattle.elf_descriptor.specs.Views.{object_of, state_of, HasCounts}
use Rattle.elf_descriptor.specs.Sound.{IsElf}
use Rattle.elf_descriptor.specs.Edits.{IsStepped, homes_of, stepped}
use Rattle.elf_descriptor.specs.LentSegments.{refilled_body}
use Rattle.elf_descriptor.proofs.EditLaws.{stepped_elf, state_stepped}

-- what is left has the old length
refilled_length : {A : Type 0} (old left : List A) → length (refilled old left) ≡ length old
refilled_length old left =
    let whole = length-append left (drop (length left) old) in
    let rest = length-drop (length left) old in
    length-take-le (length old) (left ++ drop (length left) old) (omega (arith, whole, rest))

refilled_step : (b : Body) (left : List Phdr) → HasCounts b → IsStepped (calls.phdrs_mut (refilled b.phdrs left)).after false b (refilled_body b left)
unfolding object_of with_phdrs homes_of
refilled_step b left has = record {
  object = λ image size.
      ap (λ (n : ℕ). record (object_of image size b) { header = record b.header { phnum = n }; phdrs = refilled b.phdrs left; segments_marked = true })
      (has.phnum ∙ sym (refilled_length b.phdrs left));
  homes = refl;
  class = refl;
  order = refl;
  base = refl;
  written = refl;
  marks = λ h. h;
  ready = refl;
}

pub refilled_elf : (image : Option (List ℕ)) (size : ℕ) (b : Body) (left : List Phdr)
    → ((l : List Phdr) → length l ≤ MAX_SEGMENTS → KeepsObject (calls.phdrs_mut l)) → ((l : List Phdr) → KeepsTied (calls.phdrs_mut l)) → ((l : List Phdr) → KeepsBased (calls.phdrs_mut l))
    → IsElf image size b → IsElf image size (refilled_body b left)
unfolding object_of
refilled_elf image size b left keeps ties bases is =
    let l = refilled b.phdrs left in
    let few = is.sound.object.phdr_count in
    let same = refilled_length b.phdrs left in
    stepped_elf (calls.phdrs_mut l) image size (tt {0}) false b (refilled_body b left) (keeps l (omega (arith, few, same))) (ties l) (bases l) refl (refilled_step b left is.counts) is

pub refilled_state : {S : Type 0} (g : Ghosts S) (source : S) (b : Body) (left : List Phdr) → HasCounts b
    → state_of g source (refilled_body b left) ≡ stepped (calls.phdrs_mut (refilled (state_of g source b).o.phdrs left)) (state_of g source b)
unfolding object_of
refilled_state g source b left has = state_stepped g source (calls.phdrs_mut (refilled b.phdrs left)).after false b (refilled_body b left) (refilled_step b left has)

pub segments_are : (image : Option (List ℕ)) (size : ℕ) (b : Body) → b.phdrs ≡ (object_of image size b).phdrs
unfolding object_of
segments_are image size b = refl
