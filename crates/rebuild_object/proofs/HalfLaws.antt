-- The debug half was created and filled with bytes.
use Rattle.std.proofs.Common.{◌≡◌, ℕ, ◌+◌, ◌<◌, Bool, true, false, List, [], length, get_or, if◌then◌else◌, refl, sym, ap, ◌∙◌, arith}
use Rattle.std.proofs.lemmas.Bool.{ne_eqb}
use Rattle.std.proofs.lemmas.List.FromFn.{get_or-map-range_with_len, length-map-range_with_len}
use Rattle.elf_types.specs.declared.records.Class.{Class}
use Rattle.elf_types.specs.declared.records.Kind.{Kind}
use Rattle.elf_types.specs.declared.records.Kind.TheVariants as kinds
use Rattle.elf_types.specs.declared.records.Shdr.{Shdr}
use Rattle.elf_types.specs.declared.constants.TheConstants.{SHT_NOBITS}
use Rattle.elf_types.specs.Lists.{AreBytes}
use Rattle.elf_xlate.specs.declared.content.Items.TheVariants as items
use Rattle.elf_xlate.specs.Translation.{first_unfit}
use Rattle.elf_object.specs.Object.{Object, Section, section_at, absent_section, new_section}
use Rattle.elf_object.specs.Open.{created_over}
use Rattle.elf_object.specs.Steps.{stored_ehdr, with_ehdr, with_phdrs}
use Rattle.elf_object.specs.Valid.{IsObject}
use Rattle.elf_object.specs.Sections.{header_at}
use Rattle.rebuild_model.specs.Rebuilt.{made_section, assembled}
use Rattle.rebuild_model.specs.Split.{is_loaded_from_file, debug_section, debug_sections, debug_half}
use Rattle.rebuild_object.specs.Objects.{kind_at}
use Rattle.rebuild_object.specs.Planned.{IsMadeWith, IsCreatedWith}
use Rattle.rebuild_object.specs.Halves.{HalvesAreCreated}

made_bytes : (class : Class) (kind : Kind) (c : Section) (h : Shdr) (bytes : List ℕ)
    → c ≡ made_section h (items.Bytes bytes) → kind ≡ kinds.Bytes → AreBytes bytes
    → IsMadeWith class kind c
unfolding made_section first_unfit
made_bytes class kind c h bytes is kind_is are = record {
  own = items.Bytes bytes;
  section = is ∙ ap (λ (k : Shdr). made_section k (items.Bytes bytes))
      (sym (ap (λ (s : Section). s.header) is));
  kind_is = sym kind_is;
  are = are;
  fits = refl;
}

none_are : AreBytes []
none_are i d below = absurd (omega (arith, below))

module _ (o : Object) (ks : List Kind) (is : IsObject o)
    (each : (s : ℕ) → 0 < s → s < length o.sections → kind_at ks s ≡ kinds.Bytes) where
  sections_of : (debug_half o).sections ≡ debug_sections o
  unfolding debug_half assembled with_ehdr with_phdrs
  sections_of = refl

  there : (s : ℕ) → s < length o.sections → section_at (debug_half o) s ≡ debug_section o s
  unfolding section_at
  there s below =
      let at : 0 + s ≡ s = omega arith in
      ap (λ (l : List Section). get_or l s absent_section) sections_of
      ∙ get_or-map-range_with_len (debug_section o) 0 (length o.sections) s s absent_section below
      at

  as_many : length (debug_half o).sections ≡ length o.sections
  as_many =
      ap (λ (l : List Section). length l) sections_of
      ∙ length-map-range_with_len (debug_section o) 0 (length o.sections)

  first_is : debug_section o 0 ≡ new_section
  unfolding debug_section
  first_is = refl

  other_is : (s : ℕ) → 0 < s → (b : Bool) → is_loaded_from_file (header_at o s) ≡ b
      → debug_section o s
      ≡ (if b then made_section (record (header_at o s) { stype = SHT_NOBITS }) (items.Bytes [])
      else made_section (header_at o s) (items.Bytes (section_at o s).raw))
  unfolding debug_section
  other_is s some b at =
      let new : s ≡ 0 → ⊥ = λ none. omega (arith, some, none) in
      ap (λ (t : Bool). if t then new_section
      else (if is_loaded_from_file (header_at o s)
      then made_section (record (header_at o s) { stype = SHT_NOBITS }) (items.Bytes [])
      else made_section (header_at o s) (items.Bytes (section_at o s).raw))) (ne_eqb s 0 new)
      ∙ ap (λ (t : Bool). if t
      then made_section (record (header_at o s) { stype = SHT_NOBITS }) (items.Bytes [])
      else made_section (header_at o s) (items.Bytes (section_at o s).raw)) at

  raw_bytes : (s : ℕ) → s < length o.sections → AreBytes (section_at o s).raw
  unfolding section_at
  raw_bytes s below = (is.sections s absent_section below).home.bytes

  made_other : (s : ℕ) → 0 < s → s < length o.sections → (b : Bool)
      → is_loaded_from_file (header_at o s) ≡ b
      → IsMadeWith (debug_half o).header.class
      (kind_at ks s) (section_at (debug_half o) s)
  made_other s some below true at =
      made_bytes (debug_half o).header.class
      (kind_at ks s) (section_at (debug_half o) s)
      (record (header_at o s) { stype = SHT_NOBITS }) [] (there s below ∙ other_is s some true at)
      (each s some below) none_are
  made_other s some below false at =
      made_bytes (debug_half o).header.class
      (kind_at ks s) (section_at (debug_half o) s)
      (header_at o s) (section_at o s).raw (there s below ∙ other_is s some false at)
      (each s some below) (raw_bytes s below)

  others_are : (s : ℕ) → 0 < s → s < length (debug_half o).sections
      → IsMadeWith (debug_half o).header.class
      (kind_at ks s) (section_at (debug_half o) s)
  others_are s some below =
      made_other s some (omega (arith, below, as_many)) (is_loaded_from_file (header_at o s)) refl

  first_there : 0 < length (debug_half o).sections
      → section_at (debug_half o) 0 ≡ new_section
  first_there below = there 0 (omega (arith, below, as_many)) ∙ first_is

  pub half_created : IsCreatedWith o ks (debug_half o)
  unfolding debug_half assembled created_over with_ehdr stored_ehdr with_phdrs
  half_created = record {
    class = refl;
    order = refl;
    header = record { version = refl; ehsize = refl; phentsize = refl; shentsize = refl };
    front = refl;
    marked = refl;
    header_marked = refl;
    segments_marked = refl;
    first = first_there;
    others = others_are;
  }

pub halves_created : HalvesAreCreated
halves_created o ks is each = half_created o ks is each
