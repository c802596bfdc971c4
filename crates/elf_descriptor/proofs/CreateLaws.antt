-- What is created is an object over nothing that was read.
use Rattle.std.proofs.Common.{◌≡◌, ℕ, ◌<◌, ◌^◌, List, [], ◌∷◌, length, map, Option, Some, None, refl, sym, ap, ◌∙◌, subst, true, false, ◌≤◌, arith}
use Rattle.std.specs.Prelude.{slice_get, is_some, IfSome}
use Rattle.elf_types.specs.declared.records.Class.{Class}
use Rattle.elf_types.specs.declared.records.Order.{Order}
use Rattle.elf_types.specs.declared.records.Phdr.{Phdr}
use Rattle.elf_types.specs.declared.records.Ehdr.{Ehdr}
use Rattle.section_table.specs.elf_outside.declared.sources.Source.{Ghosts}
use Rattle.section_table.specs.elf_object.Object.{Object, Section}
use Rattle.section_table.specs.elf_object.Open.{created_over, new_ehdr}
use Rattle.elf_types.specs.Lists.{AreBytes}
use Rattle.law_object.specs.Laws.{BeginningsAre, BeginningsAreTied}
use Rattle.law_object.specs.Writing.Based.{BeginningsAreBased}
use Rattle.section_table.specs.section_data.Held.{cell_is_loaded}
use Rattle.section_table.specs.Sections.{SectionView as Scn}
use Rattle.elf_descriptor.specs.declared.body.Body.{Body}
use Rattle.elf_descriptor.specs.declared.body.Written.{Written}
use Rattle.elf_descriptor.specs.declared.body.Base.{Base}
use Rattle.elf_descriptor.specs.declared.body.Base.TheVariants as bases
use Rattle.elf_descriptor.specs.Views.{object_of, section_of, loaded_of, held_of, state_of, room_of}
use Rattle.elf_descriptor.specs.Sound.{IsElf, IsSound, IsStanding, source_part}
use Rattle.elf_descriptor.specs.Created.{IsCreatedBody, IsCreated}
use Rattle.elf_descriptor.proofs.EditLaws.{has_counts}

abbrev body_with : Ehdr → List Phdr → List Scn → List ℕ → Body
body_with header phdrs sections base = record {
  header = header;
  pad = 0 ∷ 0 ∷ 0 ∷ 0 ∷ 0 ∷ 0 ∷ 0 ∷ [];
  phdrs = phdrs;
  sections = sections;
  base = bases.Own base;
  written = None;
  spare = None;
  layout = false;
  fill = 0;
  marked = false;
  header_marked = true;
  segments_marked = false;
  ready = false;
}

abbrev object_with : Ehdr → List Phdr → List Section → List ℕ → Object
object_with header phdrs sections base = record (created_over header.class header.order base) { header = header; phdrs = phdrs; sections = sections }

pub created_body : (class : Class) (order : Order) (base : List ℕ) (header : Ehdr)
    (phdrs : List Phdr) (sections : List Scn) → header ≡ new_ehdr class order → phdrs ≡ []
    → sections ≡ []
    → IsCreatedBody class order base (body_with header phdrs sections base)
unfolding object_of created_over
created_body class order base header phdrs sections header_is no_phdrs none = record {
  object = λ image size.
      ap (λ (l : List Scn). object_with header phdrs (map (section_of image) l) base) none
      ∙ ap (λ (l : List Phdr). object_with header l [] base) no_phdrs
      ∙ ap (λ (h : Ehdr). object_with h [] [] base) header_is;
  none = none;
  base_is = refl;
  written = refl;
  marks = refl;
  ready = refl;
}

pub created_elf : BeginningsAre → BeginningsAreTied → BeginningsAreBased → (class : Class) (order : Order) (base : List ℕ) (b : Body) → AreBytes base → length base < 2 ^ 64
    → IsCreatedBody class order base b → IsElf (Some []) 0 b
created_elf are tied based class order base b bytes len is =
    let sound : IsSound (Some []) (object_of (Some []) 0 b) = subst (λ (o : Object). IsSound (Some []) o) (sym (is.object (Some []) 0)) (record {
      object = are.from_nothing class order base bytes len;
      tied = λ told. tied.from_nothing class order base;
      based = λ told. based.from_nothing class order base;
    }) in
    record {
      long = refl;
      within = subst (λ (kept : Base). source_part kept ≤ 0) (sym is.base_is) (omega arith);
      whole = λ h. let never : true ≡ false = sym is.marks ∙ h in cc;
      counts = has_counts (Some []) 0 b sound.object;
      cells = λ i s found. absurd (nothing i s (ap (λ (l : List Scn). slice_get l i) (sym is.none) ∙ found));
      written = subst (λ (w : Option Written). IfSome w (IsStanding b.header.class b.header.order)) (sym is.written) tt;
      sound = sound;
    }
  where
    nothing : (i : ℕ) (s : Scn) → slice_get [] i ≡ Some s → ⊥
    nothing i s found = cc

pub created_state : {S : Type 0} (g : Ghosts S) (source : S) (class : Class) (order : Order) (base : List ℕ) (b : Body) → is_some (g.holds source) ≡ true → IsCreatedBody class order base b
    → IsCreated class order base (state_of g source b)
unfolding loaded_of held_of room_of
created_state g source class order base b told is = record {
  object = is.object (g.holds source) (g.size source);
  told = told;
  loaded = ap (λ (l : List Scn). map (λ s. cell_is_loaded s.cell) l) is.none;
  held = ap (λ (l : List Scn). map (λ s. is_some s.cell.held) l) is.none;
  room = ap (λ (l : List Scn). map (λ s. s.cell.room) l) is.none;
  ready = is.ready;
}
