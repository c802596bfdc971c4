-- Each section of what the two halves are combined to is made of the image's header, but for its
-- place, and of its bytes.
use Rattle.std.proofs.Common.{◌≡◌, ℕ, ◌<◌, ◌≤◌, Bool, true, false, ◌&&◌, List, length, Option, Some, None, refl, sym, ap, ◌∙◌, arith}
use Rattle.std.specs.Prelude.{if◌then◌else◌, map}
use Rattle.std.proofs.lemmas.Bool.{ne_eqb}
use Rattle.elf_types.specs.declared.records.Shdr.{Shdr}
use Rattle.elf_types.specs.declared.constants.TheConstants.{SHT_NOBITS}
use Rattle.elf_xlate.specs.declared.content.Items.TheVariants as items
use Rattle.elf_object.specs.Object.{Object, new_section, section_at, occupies_file}
use Rattle.elf_object.specs.Sections.{is_allocated, is_program, header_at}
use Rattle.rebuild_model.specs.Rebuilt.{made_section}
use Rattle.rebuild_model.specs.Split.{is_loaded_from_file, allocated, counterpart, loaded_header, combined_section}
use Rattle.law_split.specs.Halves.{without_place, debug_header, origin_number, KeepsForDebug, KeepsAllocated}
use Rattle.law_split.proofs.Counterparts.{counterpart_none, counterpart_some}
use Rattle.law_split.proofs.Matching.{same_allocated, debug_loaded}
use Rattle.law_split.proofs.Placed.{IsMadeAs}

-- ---- Headers

pub not_loaded : (h : Shdr) → is_allocated h ≡ false → is_loaded_from_file h ≡ false
unfolding is_loaded_from_file
not_loaded h other = ap (λ (b : Bool). b && occupies_file h) other

-- that of the debug half, where the section is not allocated
other_header : (d h : Shdr) → without_place d ≡ without_place (debug_header h)
    → is_allocated h ≡ false → d ≡ record h { offset = d.offset }
other_header d h same other =
    ap (λ (x : Shdr). record x { offset = d.offset })
    (same ∙ ap (λ (b : Bool). without_place
    (if b then record h { stype = SHT_NOBITS } else h)) (not_loaded h other))

-- and with type and place of the stripped half
allocated_header : (d g h : Shdr) → without_place d ≡ without_place (debug_header h)
    → g.stype ≡ h.stype → loaded_header d g ≡ record h { offset = g.offset }
allocated_header d g h same type = by_test (is_loaded_from_file h) same
  where
    by_test : (b : Bool)
        → without_place d ≡ without_place (if b then record h { stype = SHT_NOBITS } else h)
        → loaded_header d g ≡ record h { offset = g.offset }
    by_test true e =
        ap (λ (x : Shdr). record x { stype = g.stype; offset = g.offset }) e
        ∙ ap (λ (n : ℕ). record h { stype = n; offset = g.offset }) type
    by_test false e =
        ap (λ (x : Shdr). record x { stype = g.stype; offset = g.offset }) e
        ∙ ap (λ (n : ℕ). record h { stype = n; offset = g.offset }) type

-- ---- Sections

combined_of : (stripped debug : Object) (s : ℕ) (found : Option ℕ) → 1 ≤ s
    → counterpart stripped debug s ≡ found
    → combined_section stripped debug s ≡ elim found [
      | None ↦ made_section (header_at debug s) (items.Bytes (section_at debug s).raw)
      | Some t ↦ made_section
          (loaded_header (header_at debug s) (header_at stripped t))
          (items.Bytes (section_at stripped t).raw)
    ]
unfolding combined_section
combined_of stripped debug s found from is =
    ap (λ (b : Bool). if b then new_section
    else (elim (counterpart stripped debug s) [
      | None ↦ made_section (header_at debug s) (items.Bytes (section_at debug s).raw)
      | Some t ↦ made_section
          (loaded_header (header_at debug s) (header_at stripped t))
          (items.Bytes (section_at stripped t).raw)
    ])) (ne_eqb s 0 (λ none. omega (arith, from, none)))
    ∙ ap (λ (x : Option ℕ). elim x [
      | None ↦ made_section (header_at debug s) (items.Bytes (section_at debug s).raw)
      | Some t ↦ made_section
          (loaded_header (header_at debug s) (header_at stripped t))
          (items.Bytes (section_at stripped t).raw)
    ]) is

pub combined_as : (removed : List ℕ) (whole stripped debug : Object) (s : ℕ)
    → KeepsAllocated removed whole stripped → KeepsForDebug whole debug
    → map (origin_number whole removed) (allocated stripped) ≡ allocated debug
    → 1 ≤ s → s < length whole.sections
    → IsMadeAs (is_program whole ≡ true) (combined_section stripped debug s) (header_at whole s)
    (items.Bytes (section_at whole s).raw)
combined_as removed whole stripped debug s kept half listed from below =
    by_flags (is_allocated (header_at whole s)) refl
  where
    flags : is_allocated (header_at debug s) ≡ is_allocated (header_at whole s)
    flags = same_allocated (header_at debug s) (header_at whole s)
        (debug_loaded (header_at debug s) (header_at whole s) (half.headers s from below)).flags

    by_flags : (b : Bool) → is_allocated (header_at whole s) ≡ b
        → IsMadeAs (is_program whole ≡ true) (combined_section stripped debug s)
        (header_at whole s) (items.Bytes (section_at whole s).raw)
    by_flags false e = record {
      place = (header_at debug s).offset;
      is = combined_of stripped debug s None from
          (counterpart_none stripped debug s (flags ∙ e))
          ∙ ap (λ (x : Shdr). made_section x (items.Bytes (section_at debug s).raw))
          (other_header (header_at debug s) (header_at whole s) (half.headers s from below) e)
          ∙ ap (λ (l : List ℕ). made_section
          (record (header_at whole s) { offset = (header_at debug s).offset }) (items.Bytes l))
          (half.raw s from below (not_loaded (header_at whole s) e));
      stays = λ program allocated. let clash : true ≡ false = sym allocated ∙ e in cc;
    }
    by_flags true e =
        let inside : s < length debug.sections = omega (arith, below, half.count) in
        let other = counterpart_some removed whole stripped debug s listed from inside
        (flags ∙ e) in
        let t = other.number in
        let loaded : is_allocated (header_at whole (origin_number whole removed t)) ≡ true =
        ap (λ (n : ℕ). is_allocated (header_at whole n)) other.origin ∙ e in
        let type : (header_at stripped t).stype ≡ (header_at whole s).stype =
        ap (λ (x : Shdr). x.stype) (kept.headers t other.from other.below loaded)
        ∙ ap (λ (n : ℕ). (header_at whole n).stype) other.origin in
        let raw : (section_at stripped t).raw ≡ (section_at whole s).raw =
        kept.raw t other.from other.below loaded
        ∙ ap (λ (n : ℕ). (section_at whole n).raw) other.origin in
        record {
          place = (header_at stripped t).offset;
          is = combined_of stripped debug s (Some t) from other.is
              ∙ ap (λ (x : Shdr). made_section x (items.Bytes (section_at stripped t).raw))
              (allocated_header (header_at debug s) (header_at stripped t) (header_at whole s)
              (half.headers s from below) type)
              ∙ ap (λ (l : List ℕ). made_section
              (record (header_at whole s) { offset = (header_at stripped t).offset })
              (items.Bytes l)) raw;
          stays = λ program allocated.
              kept.places t other.from other.below program loaded
              ∙ ap (λ (n : ℕ). (header_at whole n).offset) other.origin;
        }
