-- The plain object that the program's parts stand for.
use Rattle.std.proofs.Common.{◌≡◌, ℕ, Bool, ◌||◌, List, [], ◌∷◌, length, map, get_or, Option, Some, None, refl, sym, ap, ◌∙◌, ◌≤◌, take, subst, arith}
use Rattle.std.specs.Prelude.{nat_le, IfSome}
use Rattle.std.specs.List.{list_any}
use Rattle.std.proofs.lemmas.List.{length-map, length-replicate, length-take-le, take_all}
use Rattle.std.proofs.Math.ListN.{get_or-map}
use Rattle.elf_types.specs.declared.records.Kind.{Kind}
use Rattle.elf_types.specs.declared.errors.ElfError.{ElfError}
use Rattle.elf_types.specs.declared.errors.ElfError.TheVariants.{NoSection, NoData}
use Rattle.elf_types.specs.Answers.{answered, refused_if, first_refusal}
use Rattle.section_table.specs.elf_xlate.Translation.{items_kind}
use Rattle.section_table.specs.elf_object.Object.{Section, Piece, header_of, section_at, piece_at, absent_section, home_piece, is_dirty, some_section_marked, some_piece_marked}
use Rattle.section_table.specs.elf_object.Open.{home_bytes}
use Rattle.section_table.specs.elf_object.Answers.{no_section, no_data, piece_count, kind_at, piece_refusal}
use Rattle.section_table.specs.elf_object.Calls.{shdr_answer, pieces_answer, home_answer, piece_kind_answer, piece_align_answer}
use Rattle.section_table.specs.section_data.Held.{piece_in, kind_in}
use Rattle.section_table.specs.section_data.Refused.{no_piece}
use Rattle.section_table.specs.Sections.{absent_scn}
use Rattle.elf_descriptor.specs.declared.body.Body.{Body}
use Rattle.elf_descriptor.specs.declared.body.Base.{Base}
use Rattle.elf_descriptor.specs.declared.body.Base.TheVariants as bases
use Rattle.elf_descriptor.specs.Sound.{source_part}
use Rattle.elf_descriptor.specs.Views.{object_of, section_of, raw_of, scn_at, no_scn, base_of, source_bytes, HasCounts}
use Rattle.elf_descriptor.specs.Bodies.{no_piece_in, is_scn_dirty}
use Rattle.elf_descriptor.proofs.Marks.{list_any-map}

pub section_count_is : (image : Option (List ℕ)) (size : ℕ) (b : Body)
    → length (object_of image size b).sections ≡ length b.sections
unfolding object_of
section_count_is image size b = length-map b.sections (section_of image)

pub header_is : (image : Option (List ℕ)) (size : ℕ) (b : Body) → HasCounts b → header_of (object_of image size b) ≡ b.header
unfolding header_of object_of
header_is image size b has =
    ap (λ (n : ℕ). record b.header { phnum = length b.phdrs; shnum = n }) (section_count_is image size b ∙ sym has.shnum)
    ∙ ap (λ (n : ℕ). record b.header { phnum = n; shnum = b.header.shnum }) (sym has.phnum)

absent_is : (image : Option (List ℕ)) → section_of image absent_scn ≡ absent_section
unfolding section_of raw_of home_bytes
absent_is None = refl
absent_is (Some image) = refl

pub section_is : (image : Option (List ℕ)) (size : ℕ) (b : Body) (s : ℕ) → section_at (object_of image size b) s ≡ section_of image (scn_at b s)
unfolding section_at object_of scn_at
section_is image size b s =
    ap (λ (d : Section). get_or (map (section_of image) b.sections) s d) (sym (absent_is image))
    ∙ get_or-map (section_of image) b.sections s absent_scn

pub no_section_is : (image : Option (List ℕ)) (size : ℕ) (b : Body) (s : ℕ) → no_section (object_of image size b) s ≡ no_scn b s
unfolding no_scn
no_section_is image size b s = ap (λ (n : ℕ). refused_if (nat_le n s) (NoSection s n)) (section_count_is image size b)

pub shdr_is : (image : Option (List ℕ)) (size : ℕ) (b : Body) (s : ℕ) → shdr_answer (object_of image size b) s ≡ answered (no_scn b s) (scn_at b s).header
unfolding shdr_answer section_of
shdr_is image size b s =
    ap (λ (r : Option ElfError). answered r (section_at (object_of image size b) s).header) (no_section_is image size b s)
    ∙ ap (λ (c : Section). answered (no_scn b s) c.header) (section_is image size b s)

pub pieces_is : (image : Option (List ℕ)) (size : ℕ) (b : Body) (s : ℕ) → pieces_answer (object_of image size b) s ≡ answered (no_scn b s) (length (scn_at b s).cell.pieces)
unfolding pieces_answer piece_count section_of
pieces_is image size b s =
    ap (λ (r : Option ElfError). answered r (piece_count (object_of image size b) s)) (no_section_is image size b s)
    ∙ ap (λ (c : Section). answered (no_scn b s) (length c.pieces)) (section_is image size b s)

pub home_is : (image : Option (List ℕ)) (size : ℕ) (b : Body) (s : ℕ) → home_answer (object_of image size b) s ≡ answered (no_scn b s) ((scn_at b s).cell.home.at, (scn_at b s).cell.home.len)
unfolding home_answer section_of
home_is image size b s =
    ap (λ (r : Option ElfError). answered r ((section_at (object_of image size b) s).home.at, (section_at (object_of image size b) s).home.len)) (no_section_is image size b s)
    ∙ ap (λ (c : Section). answered (no_scn b s) (c.home.at, c.home.len)) (section_is image size b s)

-- ---- Pieces

pub piece_is : (image : Option (List ℕ)) (size : ℕ) (b : Body) (s p : ℕ) → piece_at (object_of image size b) s p ≡ piece_in (scn_at b s).cell p
unfolding piece_at piece_in section_of
piece_is image size b s p = ap (λ (c : Section). get_or c.pieces p home_piece) (section_is image size b s)

pub kind_is : (image : Option (List ℕ)) (size : ℕ) (b : Body) (s p : ℕ) → kind_at (object_of image size b) s p ≡ kind_in (scn_at b s).cell p
unfolding kind_at kind_in section_of
kind_is image size b s p =
    ap (λ (q : Piece). elim (q.own) [ None ↦ (section_at (object_of image size b) s).home.kind | Some items ↦ items_kind items ]) (piece_is image size b s p)
    ∙ ap (λ (c : Section). elim ((piece_in (scn_at b s).cell p).own) [ None ↦ c.home.kind | Some items ↦ items_kind items ]) (section_is image size b s)

pub no_data_is : (image : Option (List ℕ)) (size : ℕ) (b : Body) (s p : ℕ) → no_data (object_of image size b) s p ≡ no_piece (scn_at b s).cell p
unfolding piece_count section_of
no_data_is image size b s p = ap (λ (c : Section). refused_if (nat_le (length c.pieces) p) (NoData p (length c.pieces))) (section_is image size b s)

pub piece_refusal_is : (image : Option (List ℕ)) (size : ℕ) (b : Body) (s p : ℕ) → piece_refusal (object_of image size b) s p ≡ no_piece_in b s p
unfolding piece_refusal no_piece_in
piece_refusal_is image size b s p =
    ap (λ (r : Option ElfError). first_refusal (r ∷ no_data (object_of image size b) s p ∷ [])) (no_section_is image size b s)
    ∙ ap (λ (r : Option ElfError). first_refusal (no_scn b s ∷ r ∷ [])) (no_data_is image size b s p)

pub piece_kind_is : (image : Option (List ℕ)) (size : ℕ) (b : Body) (s p : ℕ) → piece_kind_answer (object_of image size b) s p ≡ answered (no_piece_in b s p) (kind_in (scn_at b s).cell p)
unfolding piece_kind_answer
piece_kind_is image size b s p =
    ap (λ (r : Option ElfError). answered r (kind_at (object_of image size b) s p)) (piece_refusal_is image size b s p)
    ∙ ap (λ (k : Kind). answered (no_piece_in b s p) k) (kind_is image size b s p)

pub piece_align_is : (image : Option (List ℕ)) (size : ℕ) (b : Body) (s p : ℕ) → piece_align_answer (object_of image size b) s p ≡ answered (no_piece_in b s p) (piece_in (scn_at b s).cell p).align
unfolding piece_align_answer
piece_align_is image size b s p =
    ap (λ (r : Option ElfError). answered r (piece_at (object_of image size b) s p).align) (piece_refusal_is image size b s p)
    ∙ ap (λ (q : Piece). answered (no_piece_in b s p) q.align) (piece_is image size b s p)

-- ---- Marks

pub section_marked_is : (image : Option (List ℕ)) (size : ℕ) (b : Body) (s : ℕ) → (section_at (object_of image size b) s).marked ≡ (scn_at b s).marked
unfolding section_of
section_marked_is image size b s = ap (λ (c : Section). c.marked) (section_is image size b s)

pub dirty_is : (image : Option (List ℕ)) (size : ℕ) (b : Body)
    → is_dirty (object_of image size b)
    ≡ (b.marked || b.header_marked || b.segments_marked || list_any is_scn_dirty b.sections)
unfolding is_dirty some_section_marked some_piece_marked object_of section_of is_scn_dirty
dirty_is image size b =
    ap (λ (t : Bool). b.marked || b.header_marked || b.segments_marked || t)
    (list_any-map (section_of image) (λ c. c.marked || some_piece_marked c) b.sections)

-- ---- The base

-- the number of bytes that were handed in, or of those of the source that are the base's
abbrev pub base_count : Base → ℕ
base_count (bases.Own bytes) = length bytes
base_count (bases.Source n) = n

-- a source has as many bytes as it tells or not
pub source_length : (image : Option (List ℕ)) (size : ℕ) → IfSome image (λ bytes. length bytes ≡ size) → length (source_bytes image size) ≡ size
source_length (Some bytes) size long = long
source_length None size long = length-replicate size 0

pub base_length : (kept : Base) (image : Option (List ℕ)) (size : ℕ) → IfSome image (λ bytes. length bytes ≡ size) → source_part kept ≤ size → length (base_of kept image size) ≡ base_count kept
base_length (bases.Own bytes) image size long within = refl
base_length (bases.Source n) image size long within = length-take-le n (source_bytes image size) (subst (λ (k : ℕ). n ≤ k) (sym (source_length image size long)) within)

-- the whole of a source
pub whole_source : (image : Option (List ℕ)) (size : ℕ) → IfSome image (λ bytes. length bytes ≡ size) → take size (source_bytes image size) ≡ source_bytes image size
whole_source image size long = take_all size (source_bytes image size) (subst (λ (k : ℕ). k ≤ size) (sym (source_length image size long)) (omega arith))
