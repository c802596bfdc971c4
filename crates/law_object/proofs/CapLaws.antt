-- The parts of an object may be told with lengths of at most 2^64 - 1.
use Rattle.std.proofs.Common.{◌≡◌, ℕ, ◌^◌, ◌<◌, true, false, not, ◌&&◌, List, [], ◌∷◌, ◌++◌, length, map, refl, ap, arith, lit<}
use Rattle.std.specs.Prelude.{◌==◌}
use Rattle.std.specs.List.{AllByRecursion}
use Rattle.std.proofs.lemmas.Bool.{and_right, cond-false}
use Rattle.std.proofs.lemmas.List.Elements.{All-from_recursion}
use Rattle.elf_types.specs.declared.records.Class.{Class}
use Rattle.elf_types.specs.declared.records.Class.TheVariants.{C32, C64}
use Rattle.elf_object.specs.elf_layout.declared.parts.PartAt.{PartAt}
use Rattle.elf_object.specs.elf_layout.Capping.{IsFirst}
use Rattle.elf_object.specs.elf_layout.Meeting.{has_bytes}
use Rattle.elf_object.proofs.elf_layout.Capped.{capping_law}
use Rattle.elf_object.specs.Object.{Object, section_at, has_file_bytes, occupies_file}
use Rattle.elf_object.specs.Joined.{file_bytes, pieces_end, piece_blocks}
use Rattle.elf_object.specs.Blocks.{spread}
use Rattle.elf_object.specs.Layout.{header_part, segments_part, section_part, table_part, section_numbers, parts_of}
use Rattle.elf_object.specs.Refusal.{placing_refusal}
use Rattle.elf_object.specs.Valid.{IsObject}
use Rattle.law_object.proofs.KeepLaws.{section_at_is}
use Rattle.law_object.specs.Laws.{PartsMayBeCapped}

header_first : (o : Object) → IsFirst (header_part o)
unfolding has_bytes
header_first o = by_class o.header.class refl
  where
    by_class : (class : Class) → o.header.class ≡ class → IsFirst (header_part o)
    by_class C32 e = rw e (record { at = refl; some = refl; len = lit< tt })
    by_class C64 e = rw e (record { at = refl; some = refl; len = lit< tt })

-- each stands where a header says
stand_below : (o : Object) (numbers : List ℕ) → IsObject o
    → AllByRecursion (λ p. p.at < 2 ^ 64) (map (section_part o) numbers ++ table_part o ∷ [])
unfolding section_part
stand_below o [] is = (is.header.shoff, tt)
stand_below o (s ∷ numbers) is =
    ((section_at_is o s is).header.offset, stand_below o numbers is)

-- a section that has no bytes in the file has none of a length
bare_len : (o : Object) (s : ℕ) → occupies_file (section_at o s).header ≡ false
    → length (file_bytes o s) < 2 ^ 64
unfolding file_bytes has_file_bytes
bare_len o s bare =
    let none : (not (s == 0) && occupies_file (section_at o s).header) ≡ false =
    and_right (not (s == 0)) (occupies_file (section_at o s).header) bare in
    let empty = cond-false (not (s == 0) && occupies_file (section_at o s).header)
    (spread (pieces_end o s) (λ _. o.fill) (piece_blocks o s)) [] none in
    omega (arith, ap length empty)

bare_below : (o : Object) (numbers : List ℕ)
    → AllByRecursion (λ p. p.filled ≡ false → p.len < 2 ^ 64)
    (map (section_part o) numbers ++ table_part o ∷ [])
unfolding section_part
bare_below o [] = ((λ e. let clash : true ≡ false = e in cc), tt)
bare_below o (s ∷ numbers) = ((λ e. bare_len o s e), bare_below o numbers)

pub parts_may_be_capped : PartsMayBeCapped
unfolding parts_of placing_refusal
parts_may_be_capped o is =
    let others : List PartAt =
    segments_part o ∷ map (section_part o) (section_numbers o) ++ table_part o ∷ [] in
    let alike = capping_law (header_part o) others o.layout (length o.base) o.header.class
    (header_first o)
    (All-from_recursion (λ (p : PartAt). p.at < 2 ^ 64) others
    (is.header.phoff, stand_below o (section_numbers o) is)) in
    record {
      refused = alike.refused;
      placed = alike.placed;
      same = λ passed.
          alike.same passed
          (All-from_recursion (λ (p : PartAt). p.filled ≡ false → p.len < 2 ^ 64) others
          ((λ e. let clash : true ≡ false = e in cc), bare_below o (section_numbers o)));
    }
