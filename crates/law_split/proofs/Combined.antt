-- What the two halves are combined to, before an update writes it.
use Rattle.std.proofs.Common.{◌≡◌, ℕ, zero, suc, ◌<◌, ◌≤◌, true, not, List, length, get_or, Ok, refl, sym, ap, ◌∙◌, subst, arith}
use Rattle.std.specs.Prelude.{◌==◌, map}
use Rattle.std.specs.List.{range_with_len}
use Rattle.std.proofs.lemmas.List.FromFn.{length-map-range_with_len, get_or-map-range_with_len}
use Rattle.elf_types.specs.declared.records.Ehdr.{Ehdr}
use Rattle.elf_types.specs.declared.records.Phdr.{Phdr}
use Rattle.elf_xlate.specs.declared.content.Items.TheVariants as items
use Rattle.elf_ident.specs.Front.{zero_shdr}
use Rattle.elf_object.specs.Object.{Object, Section, absent_section, new_section, section_at}
use Rattle.elf_object.specs.Sections.{is_program, header_at}
use Rattle.rebuild_model.specs.Arranged.{Rebuilt, placed_from, arranged}
use Rattle.rebuild_model.specs.Split.{allocated, combined_section, combined_sections, combined_tail, combined_object}
use Rattle.rebuild_model.specs.KeepingLaws.{SameHeader}
use Rattle.law_rebuild.proofs.strip.ArrangedLaws.{arranged_keeps}
use Rattle.law_split.specs.Halves.{without_index, origin_number, KeepsForDebug, KeepsAllocated}
use Rattle.law_split.proofs.CombinedSections.{combined_as}
use Rattle.law_split.proofs.Placed.{HasFrontOf, IsMadeAs, assembled_front, assembled_laid, placed_front, made_as_when_placed, placed_first}
use Rattle.law_split.proofs.Whole.{same_headers, reindexed}

-- an object that is made of the image's headers, but for places, and of its bytes
pub record IsMadeWhole (whole q : Object) : Type 0 where
  pub header : SameHeader whole.header q.header
  pub phoff : is_program whole ≡ true → q.header.phoff ≡ whole.header.phoff
  pub phdrs : q.phdrs ≡ whole.phdrs
  pub count : length q.sections ≡ length whole.sections
  pub layout : is_program whole ≡ true → q.layout ≡ true
  pub first : header_at q 0 ≡ zero_shdr
  pub sections : (s : ℕ) → 1 ≤ s → s < length whole.sections
      → IsMadeAs (is_program whole ≡ true) (section_at q s) (header_at whole s)
      (items.Bytes (section_at whole s).raw)

-- with the string index of the debug half
indexed : (a b c : Ehdr) → SameHeader (without_index a) (without_index b)
    → a.shstrndx ≡ c.shstrndx → SameHeader a (record b { shstrndx = c.shstrndx })
indexed a b c same index =
    reindexed (without_index a) (without_index b) a.shstrndx c.shstrndx same index

first_zero : (f : ℕ → Section) (n : ℕ) → f 0 ≡ new_section
    → (get_or (map f (range_with_len 0 n)) 0 absent_section).header ≡ zero_shdr
first_zero f zero is = refl
first_zero f (suc n) is = ap (λ (c : Section). c.header) is

first_new : (stripped debug : Object) → combined_section stripped debug 0 ≡ new_section
unfolding combined_section
first_new stripped debug = refl

combined_front : (stripped debug : Object)
    → HasFrontOf stripped debug.header.shstrndx (combined_sections stripped debug)
    (combined_object stripped debug)
unfolding combined_object
combined_front stripped debug =
    assembled_front stripped (combined_tail stripped) debug.header.shstrndx
    (combined_sections stripped debug)

combined_laid : (stripped debug : Object) → is_program stripped ≡ true
    → (combined_object stripped debug).layout ≡ true
unfolding combined_object
combined_laid stripped debug program =
    assembled_laid stripped stripped.sections debug.header.shstrndx
    (combined_sections stripped debug) program

combined_at : (stripped debug : Object) (s : ℕ) → s < length debug.sections
    → section_at (combined_object stripped debug) s ≡ combined_section stripped debug s
unfolding section_at
combined_at stripped debug s below =
    ap (λ (l : List Section). get_or l s absent_section)
    (combined_front stripped debug).sections_are
    ∙ get_or-map-range_with_len (combined_section stripped debug) 0 (length debug.sections) s s
    absent_section below (omega arith)

first_at : (stripped debug : Object)
    → header_at (combined_object stripped debug) 0 ≡ zero_shdr
unfolding section_at
first_at stripped debug =
    ap (λ (l : List Section). (get_or l 0 absent_section).header)
    (combined_front stripped debug).sections_are
    ∙ first_zero (combined_section stripped debug) (length debug.sections)
    (first_new stripped debug)

pub combined_whole : (removed : List ℕ) (whole stripped debug : Object)
    → KeepsAllocated removed whole stripped → KeepsForDebug whole debug
    → map (origin_number whole removed) (allocated stripped) ≡ allocated debug
    → IsMadeWhole whole (combined_object stripped debug)
combined_whole removed whole stripped debug kept half listed =
    let front = combined_front stripped debug in
    let program : is_program whole ≡ true → is_program stripped ≡ true =
    λ is. ap (λ (l : List Phdr). not (length l == 0)) kept.phdrs ∙ is in
    record {
      header = same_headers whole.header
          (record stripped.header { shstrndx = debug.header.shstrndx })
          (combined_object stripped debug).header
          (indexed whole.header stripped.header debug.header kept.header half.header.shstrndx)
          front.header;
      phoff = λ is. front.phoff ∙ kept.phoff is;
      phdrs = front.phdrs ∙ kept.phdrs;
      count = ap (λ (l : List Section). length l) front.sections_are
          ∙ length-map-range_with_len (combined_section stripped debug) 0 (length debug.sections)
          ∙ half.count;
      layout = λ is. combined_laid stripped debug (program is);
      first = first_at stripped debug;
      sections = λ s from below.
          subst (λ (c : Section). IsMadeAs (is_program whole ≡ true) c (header_at whole s)
          (items.Bytes (section_at whole s).raw))
          (sym (combined_at stripped debug s (omega (arith, below, half.count))))
          (combined_as removed whole stripped debug s kept half listed from below);
    }

pub placed_whole : (whole q : Object) (tail : ℕ) → IsMadeWhole whole q
    → IsMadeWhole whole (placed_from q tail)
placed_whole whole q tail made =
    let front = placed_front q tail in
    record {
      header = same_headers whole.header q.header (placed_from q tail).header made.header
          front.header;
      phoff = λ program. front.phoff ∙ made.phoff program;
      phdrs = front.phdrs ∙ made.phdrs;
      count = front.count ∙ made.count;
      layout = λ program. front.layout ∙ made.layout program;
      first = placed_first q tail ∙ made.first;
      sections = λ s from below.
          made_as_when_placed (is_program whole ≡ true) q tail s (header_at whole s)
          (items.Bytes (section_at whole s).raw) (omega (arith, below, made.count))
          (made.sections s from below);
    }

pub arranged_whole : (removed : List ℕ) (whole stripped debug : Object) (r : Rebuilt)
    → KeepsAllocated removed whole stripped → KeepsForDebug whole debug
    → map (origin_number whole removed) (allocated stripped) ≡ allocated debug
    → arranged
    (record { object = combined_object stripped debug; tail = combined_tail stripped }) ≡ Ok r
    → IsMadeWhole whole r.object
arranged_whole removed whole stripped debug r kept half listed e =
    let made = combined_whole removed whole stripped debug kept half listed in
    arranged_keeps (IsMadeWhole whole)
    (record { object = combined_object stripped debug; tail = combined_tail stripped }) r e made
    (λ tail stated passed. placed_whole whole (combined_object stripped debug) tail made)
