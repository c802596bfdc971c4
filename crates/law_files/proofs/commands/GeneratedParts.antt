-- The parts of the self test's image, where they end, and that its update is not refused.
use Rattle.std.proofs.Common.{◌≡◌, ℕ, ◌+◌, ◌*◌, ◌%◌, ◌<◌, ◌≤◌, true, false, List, [], ◌∷◌, length, replicate, refl, ap, ◌∙◌, arith}
use Rattle.std.specs.Prelude.{◌==◌}
use Rattle.std.proofs.lemmas.Bool.{ne_eqb}
use Rattle.std.proofs.lemmas.List.{length-replicate, length-map}
use Rattle.std.proofs.lemmas.List.FromFn.{length-map-range_with_len}
use Rattle.elf_types.specs.declared.records.Class.{Class}
use Rattle.elf_types.specs.declared.records.Class.TheVariants.{C64}
use Rattle.elf_types.specs.declared.records.Order.{Order}
use Rattle.elf_types.specs.declared.records.Order.TheVariants.{Least}
use Rattle.elf_xlate.specs.declared.content.Items.{Items}
use Rattle.elf_xlate.specs.declared.content.Items.TheVariants as items
use Rattle.elf_xlate.specs.Translation.{encoded}
use Rattle.elf_xlate.proofs.Lengths.{length_encoded}
use Rattle.elfkit_outcomes.specs.elf_object.Object.{Object, Section, section_at, has_file_bytes, occupies_file, absent_section, new_section}
use Rattle.elfkit_outcomes.specs.elf_object.Open.{created_over}
use Rattle.elfkit_outcomes.specs.elf_object.Joined.{piece_bytes, aligned_pieces, piece_blocks, pieces_end, file_bytes}
use Rattle.elfkit_outcomes.specs.elf_object.Layout.{alignment_of, section_part}
use Rattle.elfkit_outcomes.specs.elf_object.Runs.{more_sym}
use Rattle.elfkit_outcomes.specs.elf_object.Steps.{with_ehdr, stored_ehdr, own_piece}
use Rattle.strtab_build.specs.Table.{table}
use Rattle.elfkit_outcomes.proofs.law_object.ItemLaws.{alone_spread}
use Rattle.elfkit_outcomes.specs.rebuild_model.Rebuilt.{made_section}
use Rattle.elfkit_outcomes.specs.rebuild_model.Generated.{generated_sym, generated_data, generated_symtab, generated_strtab, generated_symbol_names, generated_section_names, generated}
use Rattle.law_files.specs.Commands.SelftestSizes.{digits_up_to}
use Rattle.law_files.proofs.commands.TableLemmas.{length-symbol_table, length-section_table}
use Rattle.law_files.proofs.commands.PlacedEnds.{IsPart}
use Rattle.law_files.proofs.commands.RowLemmas.{length-rows, row_at, last_at}
use Rattle.law_files.proofs.commands.GeneratedObject.{strtab, shstrtab, symtab_with, generated_symbols, shifted_symbols, shifted_object}

-- ---- Sections by their numbers

module _ (n : ℕ) where
  pub data_at : (i : ℕ) → 1 ≤ i → i ≤ n → section_at (shifted_object n) i ≡ generated_data n i
  unfolding section_at
  data_at i from upto = row_at new_section (generated_data n) n i (symtab_with n (shifted_symbols n)) (strtab n) (shstrtab n) absent_section from upto

  pub symtab_at : section_at (shifted_object n) (n + 1) ≡ symtab_with n (shifted_symbols n)
  unfolding section_at
  symtab_at = last_at new_section (generated_data n) n 0 (n + 1) (symtab_with n (shifted_symbols n)) (strtab n) (shstrtab n) absent_section (omega arith)

  pub strtab_at : section_at (shifted_object n) (n + 2) ≡ strtab n
  unfolding section_at
  strtab_at = last_at new_section (generated_data n) n 1 (n + 2) (symtab_with n (shifted_symbols n)) (strtab n) (shstrtab n) absent_section (omega arith)

  pub shstrtab_at : section_at (shifted_object n) (n + 3) ≡ shstrtab n
  unfolding section_at
  shstrtab_at = last_at new_section (generated_data n) n 2 (n + 3) (symtab_with n (shifted_symbols n)) (strtab n) (shstrtab n) absent_section (omega arith)

  pub count_is : length (shifted_object n).sections ≡ n + 4
  count_is = length-rows new_section (generated_data n) n (symtab_with n (shifted_symbols n)) (strtab n) (shstrtab n)

  pub class_is : (shifted_object n).header.class ≡ C64
  unfolding generated with_ehdr stored_ehdr created_over
  class_is = refl

  pub order_is : (shifted_object n).header.order ≡ Least
  unfolding generated with_ehdr stored_ehdr created_over
  order_is = refl

-- ---- Their bytes

-- a section with one piece
abbrev alone : Section → Items → Section
alone c items = record c { pieces = own_piece items 1 ∷ [] }

pub bytes_alone : (o : Object) (s : ℕ) (c : Section) (items : Items) → section_at o s ≡ alone c items → (s == 0) ≡ false → occupies_file c.header ≡ true
    → file_bytes o s ≡ encoded o.header.class o.header.order items
unfolding file_bytes pieces_end piece_blocks aligned_pieces piece_bytes has_file_bytes
bytes_alone o s c items at some filled =
    rw (at, some, filled) (alone_spread 1 (encoded o.header.class o.header.order items) o.fill)

module _ (n : ℕ) where
  -- in the class and the byte order of the object
  in_form : (items : Items) → encoded (shifted_object n).header.class (shifted_object n).header.order items ≡ encoded C64 Least items
  in_form items =
      ap (λ (c : Class). encoded c (shifted_object n).header.order items) (class_is n) ∙ ap (λ (r : Order). encoded C64 r items) (order_is n)

  pub data_bytes_are : (i : ℕ) → 1 ≤ i → i ≤ n → file_bytes (shifted_object n) i ≡ encoded C64 Least (items.Bytes (replicate (i % 7 + 1) (i % 256)))
  unfolding generated_data made_section
  data_bytes_are i from upto =
      bytes_alone (shifted_object n) i (generated_data n i) (items.Bytes (replicate (i % 7 + 1) (i % 256))) (data_at n i from upto) (ne_eqb i 0 (λ e. omega arith)) refl
      ∙ in_form (items.Bytes (replicate (i % 7 + 1) (i % 256)))

  pub symtab_bytes_are : file_bytes (shifted_object n) (n + 1) ≡ encoded C64 Least (items.Sym (shifted_symbols n))
  unfolding generated_symtab made_section
  symtab_bytes_are =
      bytes_alone (shifted_object n) (n + 1) (generated_symtab n) (items.Sym (shifted_symbols n)) (symtab_at n) (ne_eqb (n + 1) 0 (λ e. omega arith)) refl
      ∙ in_form (items.Sym (shifted_symbols n))

  pub strtab_bytes_are : file_bytes (shifted_object n) (n + 2) ≡ encoded C64 Least (items.Bytes (table (generated_symbol_names n)))
  unfolding generated_strtab made_section
  strtab_bytes_are =
      bytes_alone (shifted_object n) (n + 2) (strtab n) (items.Bytes (table (generated_symbol_names n))) (strtab_at n) (ne_eqb (n + 2) 0 (λ e. omega arith)) refl
      ∙ in_form (items.Bytes (table (generated_symbol_names n)))

  pub shstrtab_bytes_are : file_bytes (shifted_object n) (n + 3) ≡ encoded C64 Least (items.Bytes (table (generated_section_names n)))
  unfolding generated_strtab made_section
  shstrtab_bytes_are =
      bytes_alone (shifted_object n) (n + 3) (shstrtab n) (items.Bytes (table (generated_section_names n))) (shstrtab_at n) (ne_eqb (n + 3) 0 (λ e. omega arith)) refl
      ∙ in_form (items.Bytes (table (generated_section_names n)))

  -- ---- The parts

  length-bytes : (l : List ℕ) → length (encoded C64 Least (items.Bytes l)) ≡ length l
  length-bytes l = omega (arith, length_encoded C64 Least (items.Bytes l))

  part_is : (s align len : ℕ) (c : Section) → section_at (shifted_object n) s ≡ c → occupies_file c.header ≡ true → alignment_of c.header ≡ align → length (file_bytes (shifted_object n) s) ≡ len
      → IsPart (section_part (shifted_object n) s) align len
  unfolding section_part
  part_is s align len c at filled aligned size = record {
    filled = ap (λ (x : Section). occupies_file x.header) at ∙ filled;
    align_is = ap (λ (x : Section). alignment_of x.header) at ∙ aligned;
    len_is = size;
  }

  pub data_part : (i : ℕ) → 1 ≤ i → i ≤ n → IsPart (section_part (shifted_object n) i) 1 (i % 7 + 1)
  unfolding generated_data made_section
  data_part i from upto =
      part_is i 1 (i % 7 + 1) (generated_data n i) (data_at n i from upto) refl refl
      (ap length (data_bytes_are i from upto) ∙ length-bytes (replicate (i % 7 + 1) (i % 256)) ∙ length-replicate (i % 7 + 1) (i % 256))

  pub symtab_part : IsPart (section_part (shifted_object n) (n + 1)) 8 (24 * (n + 1))
  unfolding generated_symtab made_section
  symtab_part =
      let all = length-map (generated_symbols n) (more_sym n) in
      let numbered = length-map-range_with_len (generated_sym n) 1 n in
      let size = length_encoded C64 Least (items.Sym (shifted_symbols n)) in
      part_is (n + 1) 8 (24 * (n + 1)) (symtab_with n (shifted_symbols n)) (symtab_at n) refl refl (ap length symtab_bytes_are ∙ omega arith)

  pub strtab_part : n < 100000 → IsPart (section_part (shifted_object n) (n + 2)) 1 (1 + 2 * n + digits_up_to n)
  unfolding generated_strtab made_section
  strtab_part small =
      part_is (n + 2) 1 (1 + 2 * n + digits_up_to n) (strtab n) (strtab_at n) refl refl
      (ap length strtab_bytes_are ∙ length-bytes (table (generated_symbol_names n)) ∙ length-symbol_table n small)

  pub shstrtab_part : n < 100000 → IsPart (section_part (shifted_object n) (n + 3)) 1 (27 + 3 * n + digits_up_to n)
  unfolding generated_strtab made_section
  shstrtab_part small =
      part_is (n + 3) 1 (27 + 3 * n + digits_up_to n) (shstrtab n) (shstrtab_at n) refl refl
      (ap length shstrtab_bytes_are ∙ length-bytes (table (generated_section_names n)) ∙ length-section_table n small)
