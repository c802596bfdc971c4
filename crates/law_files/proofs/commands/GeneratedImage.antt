-- The self test's image: its length, and that nothing is refused.
use Rattle.std.proofs.Common.{◌≡◌, ℕ, zero, suc, ◌+◌, ◌-◌, ◌*◌, ◌%◌, ◌^◌, ◌≤◌, Bool, true, false, List, [], ◌∷◌, ◌++◌, length, All, Option, Some, None, refl, sym, ap, ◌∙◌, arith}
use Rattle.std.specs.Prelude.{map, ◌&&◌, nat_le, if◌then◌else◌}
use Rattle.std.specs.List.{range_with_len, enumerate_from}
use Rattle.std.specs.Option.{option_map}
use Rattle.std.proofs.lemmas.Bool.{lt-ltb}
use Rattle.std.proofs.lemmas.List.Elements.{All-head, All-tail}
use Rattle.elf_types.specs.Answers.{refused_if, first_refusal}
use Rattle.elf_types.specs.declared.errors.ElfError.{ElfError}
use Rattle.elf_types.specs.declared.errors.ElfError.TheVariants.{Unfit, OutOfFile, TooMany}
use Rattle.elf_types.specs.declared.records.Class.TheVariants.{C64}
use Rattle.elf_types.specs.declared.records.Part.TheVariants as part
use Rattle.elf_xlate.specs.declared.content.Items.{Items}
use Rattle.elf_xlate.specs.Translation.{first_unfit}
use Rattle.elf_xlate.proofs.Broad.{none_unfit}
use Rattle.elfkit_outcomes.specs.elf_ident.Front.{zero_shdr}
use Rattle.elf_layout.specs.declared.parts.PartAt.{PartAt}
use Rattle.elf_layout.specs.Layout.{rounded_up, limit_of, refusal_of, places_of as parts_places}
use Rattle.elf_layout.specs.Meeting.{has_bytes}
use Rattle.elfkit_outcomes.specs.elf_object.Object.{Section, Piece, section_at, has_file_bytes, home_is_clean, new_section, is_dirty}
use Rattle.elfkit_outcomes.specs.elf_object.Open.{created_over}
use Rattle.elfkit_outcomes.specs.elf_object.Layout.{section_part, parts_of, header_part, segments_part, table_part, places_of}
use Rattle.elfkit_outcomes.specs.elf_object.Image.{image, image_length}
use Rattle.elfkit_outcomes.specs.elf_object.Refusal.{too_many, unfit_segment, unfit_in_piece, unfit_in_section, unfit_item, missing_in_section, missing_home, content_refusal, placing_refusal, refusal}
use Rattle.elfkit_outcomes.specs.elf_object.Steps.{with_ehdr, stored_ehdr}
use Rattle.elfkit_outcomes.proofs.law_object.ImageLaws.{length-image}
use Rattle.elfkit_outcomes.specs.rebuild_model.Rebuilt.{made_section}
use Rattle.elfkit_outcomes.specs.rebuild_model.Generated.{generated_data, generated_symtab, generated_strtab, generated}
use Rattle.law_files.specs.Commands.SelftestSizes.{above, generated_data_size, digits_up_to, selftest_bytes}
use Rattle.law_files.proofs.commands.NumberLemmas.{sum_to, sum_to-next, data_is}
use Rattle.law_files.proofs.commands.RowLemmas.{three_more, rows_all}
use Rattle.law_files.proofs.commands.PlacedEnds.{IsPart, EndsWith, ends_with, all_filled, end_is, parts_with, end_through}
use Rattle.law_files.proofs.commands.GeneratedObject.{strtab, shstrtab, symtab_with, shifted_symbols, shifted_object}
use Rattle.law_files.proofs.commands.GeneratedParts.{count_is, data_part, symtab_part, strtab_part, shstrtab_part}

-- ---- Sizes

sum_to_le : (f : ℕ → ℕ) (most n : ℕ) → ((i : ℕ) → f i ≤ most) → sum_to f n ≤ most * n
sum_to_le f most zero each = omega arith
sum_to_le f most (suc n) each =
    let one : n + 1 ≡ suc n = omega arith in
    let next = ap (sum_to f) (sym one) ∙ sum_to-next f n in
    omega (arith, next, each (n + 1), sum_to_le f most n each)

data_small : (n : ℕ) → generated_data_size n ≤ 7 * n
data_small n = omega (arith, data_is n, sum_to_le (λ i. i % 7 + 1) 7 n (λ i. omega arith))

pub digits_small : (n : ℕ) → digits_up_to n ≤ 5 * n
unfolding digits_up_to above
digits_small n = omega arith

rounded_le : (n : ℕ) → rounded_up n 8 ≤ n + 8
unfolding rounded_up
rounded_le n = omega arith

bytes_small : (n : ℕ) → n ≤ 60000 → selftest_bytes n ≤ 2 ^ 40
unfolding selftest_bytes
bytes_small n small =
    let loaded = data_small n in
    let digits = digits_small n in
    let first = rounded_le (64 + generated_data_size n) in
    let symbols = rounded_up (64 + generated_data_size n) 8 + 24 * (n + 1) in
    let second = rounded_le (symbols + (1 + 2 * n + digits_up_to n) + (27 + 3 * n + digits_up_to n)) in
    omega arith

-- ---- Refusals

none_in_rows : (f : ℕ → Section → Option ElfError) (P : Section → Type 0) → ((s : ℕ) (c : Section) → P c → f s c ≡ None) → (k : ℕ) (l : List Section) → All P l
    → first_refusal (map (λ row. f row.0 row.1) (enumerate_from k l)) ≡ None
none_in_rows f P passes k [] each = refl
none_in_rows f P passes k (c ∷ l) each =
    let here = passes k c (All-head P c l each) in
    let rest = none_in_rows f P passes (k + 1) l (All-tail P c l each) in
    rw here rest

none_in_pieces : (s k : ℕ) (l : List Piece) → first_refusal (map (λ row. unfit_in_piece C64 s row.0 row.1) (enumerate_from k l)) ≡ None
unfolding unfit_in_piece
none_in_pieces s k [] = refl
none_in_pieces s k (p ∷ l) = by (p.own) (none_in_pieces s (k + 1) l)
  where
    by : (own : Option Items) → first_refusal (map (λ row. unfit_in_piece C64 s row.0 row.1) (enumerate_from (k + 1) l)) ≡ None
        → first_refusal ((elim own [ None ↦ None | Some items ↦ option_map (Unfit (part.Piece s k)) (first_unfit C64 items) ]) ∷ map (λ row. unfit_in_piece C64 s row.0 row.1) (enumerate_from (k + 1) l)) ≡ None
    by None rest = rest
    by (Some items) rest = let fits = none_unfit items in rw fits rest

fits_64 : (s : ℕ) (c : Section) → unfit_in_section C64 s c ≡ None
unfolding unfit_in_section
fits_64 s c = by (has_file_bytes s c)
  where
    by : (b : Bool) → (if b then first_refusal (map (λ row. unfit_in_piece C64 s row.0 row.1) (enumerate_from 0 c.pieces)) else None) ≡ None
    by true = none_in_pieces s 0 c.pieces
    by false = refl

in_file : (s : ℕ) (c : Section) → c.home.out ≡ false → missing_in_section s c ≡ None
unfolding missing_in_section
in_file s c inside = by (has_file_bytes s c) (home_is_clean c) c.home.out inside
  where
    by : (a b out : Bool) → out ≡ false → refused_if (a && b && out) (OutOfFile s) ≡ None
    by true true true h = cc
    by true true false h = refl
    by true false out h = refl
    by false b out h = refl

not_both : (b : Bool) (e : ElfError) → refused_if (b && false) e ≡ None
not_both true e = refl
not_both false e = refl

-- ---- The parts

module _ (n : ℕ) where
  abbrev front : List PartAt
  front = parts_with (section_part (shifted_object n)) (λ i. i % 7 + 1) n (data_part n) (header_part (shifted_object n)) (segments_part (shifted_object n)) (section_part (shifted_object n) (n + 1)) (section_part (shifted_object n) (n + 2)) (section_part (shifted_object n) (n + 3))

  parts_are : parts_of (shifted_object n) ≡ front ++ table_part (shifted_object n) ∷ []
  unfolding parts_of
  parts_are =
      let o = shifted_object n in
      let numbers : length o.sections - 1 ≡ n + 3 = omega (arith, count_is n) in
      ap (λ (k : ℕ). header_part o ∷ segments_part o ∷ map (section_part o) (range_with_len 1 k) ++ table_part o ∷ []) numbers
      ∙ ap (λ (l : List PartAt). header_part o ∷ segments_part o ∷ l ++ table_part o ∷ []) (three_more (section_part o) n)

  header_is : IsPart (header_part (shifted_object n)) 1 64
  unfolding generated with_ehdr stored_ehdr created_over
  header_is = record { filled = refl; align_is = refl; len_is = refl }

  segments_are : IsPart (segments_part (shifted_object n)) 1 0
  unfolding generated with_ehdr stored_ehdr created_over
  segments_are = record { filled = refl; align_is = refl; len_is = refl }

  table_is : IsPart (table_part (shifted_object n)) 8 (64 * (n + 4))
  unfolding generated with_ehdr stored_ehdr created_over
  table_is = record { filled = refl; align_is = refl; len_is = omega (arith, count_is n) }

  module _ (small : n ≤ 60000) where
    filled_all : All (λ p. p.filled ≡ true) (front ++ table_part (shifted_object n) ∷ [])
    filled_all =
        all_filled (section_part (shifted_object n)) (λ i. i % 7 + 1) n (data_part n)
        (header_part (shifted_object n)) (segments_part (shifted_object n)) (section_part (shifted_object n) (n + 1)) (section_part (shifted_object n) (n + 2)) (section_part (shifted_object n) (n + 3)) (table_part (shifted_object n))
        header_is.filled segments_are.filled (symtab_part n).filled (strtab_part n (omega arith)).filled (shstrtab_part n (omega arith)).filled table_is.filled

    end_of_parts : end_through 0 (front ++ table_part (shifted_object n) ∷ []) ≡ selftest_bytes n
    unfolding selftest_bytes
    end_of_parts =
        end_is (section_part (shifted_object n)) (λ i. i % 7 + 1) n (data_part n)
        (header_part (shifted_object n)) (segments_part (shifted_object n)) (section_part (shifted_object n) (n + 1)) (section_part (shifted_object n) (n + 2)) (section_part (shifted_object n) (n + 3)) (table_part (shifted_object n))
        64 0 (24 * (n + 1)) (1 + 2 * n + digits_up_to n) (27 + 3 * n + digits_up_to n) (64 * (n + 4)) (generated_data_size n) 8 8
        header_is segments_are (symtab_part n) (strtab_part n (omega arith)) (shstrtab_part n (omega arith)) table_is
        (data_is n)

    table_some : has_bytes (table_part (shifted_object n)) ≡ true
    unfolding has_bytes
    table_some =
        let some = table_is.len_is in
        rw table_is.filled (lt-ltb 0 (table_part (shifted_object n)).len (omega arith))

    placed : EndsWith (front ++ table_part (shifted_object n) ∷ []) 0 (2 ^ 40)
    placed =
        let fits = bytes_small n small in
        ends_with front (table_part (shifted_object n)) 0 (2 ^ 40) filled_all table_some (omega (arith, end_of_parts))

    placing_passes : placing_refusal (shifted_object n) ≡ None
    unfolding placing_refusal refusal_of limit_of generated with_ehdr stored_ehdr created_over
    placing_passes = ap (λ (l : List PartAt). refusal_of l false 0 C64) parts_are ∙ placed.passes

    pub length-selftest : length (image (shifted_object n)) ≡ selftest_bytes n
    unfolding image_length is_dirty places_of generated with_ehdr stored_ehdr created_over
    length-selftest =
        length-image (shifted_object n) ∙ ap (λ (l : List PartAt). (parts_places l false 0).end) parts_are ∙ placed.end ∙ end_of_parts

    -- ---- The refusals

    homes_are : All (λ c. c.home.out ≡ false) (shifted_object n).sections
    unfolding generated_data generated_symtab generated_strtab made_section
    homes_are =
        rows_all new_section (generated_data n) (λ c. c.home.out ≡ false) n (symtab_with n (shifted_symbols n)) (strtab n) (shstrtab n) refl (λ i from upto. refl) refl refl refl

    few : too_many (shifted_object n) ≡ None
    unfolding too_many section_at zero_shdr generated with_ehdr stored_ehdr created_over
    few = not_both (nat_le 0xff00 (length (shifted_object n).sections)) TooMany

    content_passes : content_refusal (shifted_object n) ≡ None
    unfolding content_refusal unfit_segment unfit_item missing_home generated with_ehdr stored_ehdr created_over
    content_passes =
        let fitting = none_in_rows (unfit_in_section C64) (λ c. Unit {0}) (λ s c h. fits_64 s c) 0 (shifted_object n).sections (λ k d h. tt) in
        let inside = none_in_rows missing_in_section (λ c. c.home.out ≡ false) in_file 0 (shifted_object n).sections homes_are in
        rw (few, fitting, inside) refl

    pub refusal_passes : refusal (shifted_object n) ≡ None
    unfolding refusal is_dirty generated with_ehdr stored_ehdr created_over
    refusal_passes = rw (content_passes, placing_passes) refl

    pub dirty : is_dirty (shifted_object n) ≡ true
    unfolding is_dirty generated with_ehdr stored_ehdr created_over
    dirty = refl
