-- The refusals of what an object has, as they are found one after the other.
use Rattle.std.proofs.Common.{◌≡◌, ℕ, ◌+◌, ◌<◌, ◌≤◌, Bool, true, false, List, length, get_or, Option, Some, None, Result, Ok, Err, refl, sym, ap, ◌∙◌}
use Rattle.std.specs.Prelude.{if◌then◌else◌, map}
use Rattle.std.specs.List.{enumerate_from}
use Rattle.std.specs.Option.{option_map}
use Rattle.elf_types.specs.declared.records.Class.{Class}
use Rattle.elf_types.specs.declared.records.Part.TheVariants as part
use Rattle.elf_types.specs.declared.errors.ElfError.{ElfError}
use Rattle.elf_types.specs.declared.errors.ElfError.TheVariants.{Unfit}
use Rattle.elf_types.specs.Answers.{answered, first_refusal}
use Rattle.elf_descriptor.specs.elf_xlate.Headers.{phdr_fits}
use Rattle.elf_descriptor.specs.elf_xlate.declared.content.Items.{Items}
use Rattle.elf_descriptor.specs.elf_xlate.Translation.{first_unfit}
use Rattle.elf_descriptor.specs.elf_object.Object.{Object, Section, Piece, no_phdr, absent_section, home_piece, section_at, piece_at, has_file_bytes}
use Rattle.elf_descriptor.specs.elf_object.Answers.{piece_count}
use Rattle.elf_descriptor.specs.elf_object.Refusal.{unfit_segment, unfit_in_piece, unfit_in_section, unfit_item, missing_in_section, missing_home}
use Rattle.elf_update_plan.proofs.RowLaws.{NoneBefore, none_more, rows_none, rows_first}
use Rattle.elf_update_plan.proofs.SegmentLaws.{PassBefore, all_pass, first_fails}
use Rattle.elf_update_plan.proofs.PlacingLaws.{passed_from, refused_from}

abbrev pub Answered : Result (Unit {0}) ElfError → Option ElfError → Type 0
Answered result r = result ≡ answered r tt

-- ---- Program headers

pub segments_stop : (o : Object) (i : ℕ) → i < length o.phdrs
    → PassBefore (λ p. phdr_fits o.header.class p) no_phdr o.phdrs i
    → phdr_fits o.header.class (get_or o.phdrs i no_phdr) ≡ false
    → Answered (Err (Unfit part.Segments i)) (unfit_segment o)
unfolding unfit_segment
segments_stop o i there before fails =
    sym (ap (λ (r : Option ℕ). answered (option_map (Unfit part.Segments) r) tt)
    (first_fails (λ p. phdr_fits o.header.class p) no_phdr o.phdrs i there before fails))

pub segments_end : (o : Object) (i : ℕ) → length o.phdrs ≤ i
    → PassBefore (λ p. phdr_fits o.header.class p) no_phdr o.phdrs i
    → Answered (Ok tt) (unfit_segment o)
unfolding unfit_segment
segments_end o i all before =
    sym (ap (λ (r : Option ℕ). answered (option_map (Unfit part.Segments) r) tt)
    (all_pass (λ p. phdr_fits o.header.class p) no_phdr o.phdrs i all before))

-- ---- Rows

module _ {X : Type 0} (f : ℕ → X → Option ElfError) (d : X) (l : List X) where
  pub row_stop : (i : ℕ) (e : ElfError) → i < length l → NoneBefore f d l i → Answered (Err e) (f i (get_or l i d))
      → Answered (Err e) (first_refusal (map (λ row. f row.0 row.1) (enumerate_from 0 l)))
  row_stop i e there before is =
      sym (ap (λ (r : Option ElfError). answered r tt)
      (rows_first f d l i e there before (refused_from (f i (get_or l i d)) e is)))

  pub row_end : (i : ℕ) → length l ≤ i → NoneBefore f d l i
      → Answered (Ok tt) (first_refusal (map (λ row. f row.0 row.1) (enumerate_from 0 l)))
  row_end i all before = sym (ap (λ (r : Option ElfError). answered r tt) (rows_none f d l i all before))

  pub row_goes_on : (i : ℕ) → NoneBefore f d l i → Answered (Ok tt) (f i (get_or l i d)) → NoneBefore f d l (i + 1)
  row_goes_on i before is = none_more f d l i before (passed_from (f i (get_or l i d)) is)

-- ---- Pieces

pub no_pieces : (class : Class) (s : ℕ) (c : Section) → has_file_bytes s c ≡ false
    → Answered (Ok tt) (unfit_in_section class s c)
unfolding unfit_in_section
no_pieces class s c none =
    sym (ap (λ (b : Bool). answered (if b then first_refusal
    (map (λ row. unfit_in_piece class s row.0 row.1) (enumerate_from 0 c.pieces)) else None) tt)
    none)

pub some_pieces : (class : Class) (s : ℕ) (c : Section) (r : Result (Unit {0}) ElfError) → has_file_bytes s c ≡ true
    → Answered r (first_refusal (map (λ row. unfit_in_piece class s row.0 row.1) (enumerate_from 0 c.pieces)))
    → Answered r (unfit_in_section class s c)
unfolding unfit_in_section
some_pieces class s c r some is =
    is ∙ sym (ap (λ (b : Bool). answered (if b then first_refusal
    (map (λ row. unfit_in_piece class s row.0 row.1) (enumerate_from 0 c.pieces)) else None) tt)
    some)

-- what stands at a number, as lists have it
pub at_piece : (o : Object) (s p : ℕ) → piece_at o s p ≡ get_or (section_at o s).pieces p home_piece
unfolding piece_at
at_piece o s p = refl

pub at_section : (o : Object) (s : ℕ) → section_at o s ≡ get_or o.sections s absent_section
unfolding section_at
at_section o s = refl

pub item_answered : (o : Object) (r : Result (Unit {0}) ElfError)
    → Answered r (first_refusal (map (λ row. unfit_in_section o.header.class row.0 row.1)
    (enumerate_from 0 o.sections)))
    → Answered r (unfit_item o)
unfolding unfit_item
item_answered o r is = is

pub home_answered : (o : Object) (r : Result (Unit {0}) ElfError)
    → Answered r (first_refusal (map (λ row. missing_in_section row.0 row.1) (enumerate_from 0 o.sections)))
    → Answered r (missing_home o)
unfolding missing_home
home_answered o r is = is

pub count_is : (o : Object) (s : ℕ) → piece_count o s ≡ length (section_at o s).pieces
unfolding piece_count
count_is o s = refl

-- ---- A piece

unfit_own : (class : Class) (s p : ℕ) (piece : Piece) (items : Items) → piece.own ≡ Some items
    → unfit_in_piece class s p piece ≡ option_map (Unfit (part.Piece s p)) (first_unfit class items)
unfolding unfit_in_piece
unfit_own class s p piece items own = rw own refl

pub unfit_some : (class : Class) (s p : ℕ) (piece : Piece) (items : Items) (index : ℕ)
    → piece.own ≡ Some items → Some index ≡ first_unfit class items
    → Answered (Err (Unfit (part.Piece s p) index)) (unfit_in_piece class s p piece)
unfit_some class s p piece items index own found =
    ap (λ (r : Option ℕ). answered (option_map (Unfit (part.Piece s p)) r) tt) found
    ∙ sym (ap (λ (r : Option ElfError). answered r tt) (unfit_own class s p piece items own))

pub unfit_none : (class : Class) (s p : ℕ) (piece : Piece) (items : Items) → piece.own ≡ Some items
    → None ≡ first_unfit class items
    → Answered (Ok tt) (unfit_in_piece class s p piece)
unfit_none class s p piece items own found =
    ap (λ (r : Option ℕ). answered (option_map (Unfit (part.Piece s p)) r) tt) found
    ∙ sym (ap (λ (r : Option ElfError). answered r tt) (unfit_own class s p piece items own))
