-- An update in place leaves the settled state, and the descriptor stays sound.
use Rattle.std.proofs.Common.{◌≡◌, ◌∙◌, ℕ, ◌<◌, ◌≤◌, Bool, true, false, List, [], ◌∷◌, length, get_or, map, Option, Some, None, refl, sym, ap, subst, arith}
use Rattle.std.specs.Prelude.{All, IfSome, IsSome, IsTrue, is_some, slice_get}
use Rattle.std.proofs.lemmas.List.{length-map, get_or-map}
use Rattle.std.proofs.lemmas.List.Elements.{All-weaker}
use Rattle.std.proofs.lemmas.Option.{get_or_from_slice_get, slice_get_within}
use Rattle.elf_types.specs.declared.records.Ehdr.{Ehdr}
use Rattle.elf_types.specs.declared.records.Phdr.{Phdr}
use Rattle.elf_types.specs.declared.records.Shdr.{Shdr}
use Rattle.section_table.specs.elf_xlate.Headers.{IsPhdr, IsShdr, phdr_fits, shdr_fits}
use Rattle.section_table.specs.elf_outside.declared.sources.Source.{Ghosts}
use Rattle.section_table.specs.elf_object.Object.{Object, section_at, is_dirty}
use Rattle.section_table.specs.elf_object.Open.{home_of, home_bytes}
use Rattle.section_table.specs.elf_object.Derived.{written_header}
use Rattle.section_table.specs.elf_object.Joined.{file_bytes}
use Rattle.section_table.specs.elf_object.Layout.{places_of, placed, placed_by}
use Rattle.section_table.specs.elf_object.Image.{image as image_of}
use Rattle.section_table.specs.elf_object.Refusal.{refusal}
use Rattle.section_table.specs.elf_object.Settled.{settled_over, settled}
use Rattle.section_table.specs.elf_object.Valid.{IsObject, IsTied}
use Rattle.section_table.proofs.elf_object.SettledSections.{settled-told}
use Rattle.law_object.specs.Laws.{UpdatesKeep, UpdatesTie}
use Rattle.law_object.proofs.ImageLaws.{placed-dirty}
use Rattle.law_object.proofs.StandLaws.{section_count-placed}
use Rattle.law_object.proofs.CountLaws.{headers_of}
use Rattle.law_object.proofs.FrontLaws.{ArePhdrs, AreShdrs, IsReadable}
use Rattle.law_object.proofs.SettledLaws.{placed_readable, section_raw, settle-dirty}
use Rattle.law_object.specs.Writing.Based.{IsBased, UpdatesKeepBased}
use Rattle.section_table.proofs.section_data.Loading.{opened_lies}
use Rattle.section_table.specs.section_data.Held.{cell_is_loaded}
use Rattle.section_table.specs.Sections.{SectionView as Scn, absent_scn, reopened_scn}
use Rattle.elf_descriptor.specs.declared.body.Written.{Written}
use Rattle.elf_descriptor.specs.declared.body.Base.{Base}
use Rattle.elf_descriptor.specs.declared.body.Base.TheVariants as bases
use Rattle.elf_descriptor.specs.declared.body.Body.{Body}
use Rattle.elf_descriptor.specs.State.{State}
use Rattle.elf_descriptor.specs.Views.{object_of, scn_at, loaded_of, held_of, room_of, ready_of, state_of}
use Rattle.elf_descriptor.specs.Sound.{IsElf, IsSound, IsStanding, CellIn, source_part}
use Rattle.elf_descriptor.specs.Settling.{SettlesBody, SettlingIsSound, front_as_written, cleared, settled_state}
use Rattle.elf_descriptor.proofs.Warming.{cell_at}
use Rattle.elf_descriptor.proofs.EditLaws.{has_counts}
use Rattle.elf_descriptor.proofs.ReopenedObjects.{headers_same, left_object, reopened_object}

-- ---- What is true of each descriptor

-- a front that can be read is one as it stands in an image
standing_front : (q : Object) → IsObject q → IsReadable q
    → IsStanding q.header.class q.header.order
    (record {
      header = written_header q.header;
      pad = q.pad;
      phdrs = q.phdrs;
      shdrs = headers_of q;
    })
unfolding written_header ArePhdrs AreShdrs
standing_front q is reads =
    let class = q.header.class in
    record {
      class_is = refl;
      order_is = refl;
      header = record {
        range = reads.written.is;
        fitting = reads.written.fitting;
        narrow = reads.written.narrow;
        pad_size = is.pad;
        pad_bytes = is.pad_bytes;
      };
      phdrs = record {
        counted = refl;
        range = All-weaker (λ p. IsPhdr p × IsTrue (phdr_fits class p)) IsPhdr (λ p both. both.0)
            q.phdrs reads.phdrs;
        fitting = All-weaker (λ p. IsPhdr p × IsTrue (phdr_fits class p))
            (λ p. IsTrue (phdr_fits class p)) (λ p both. both.1) q.phdrs reads.phdrs;
      };
      shdrs = record {
        counted = refl;
        range = All-weaker (λ h. IsShdr h × IsTrue (shdr_fits class h)) IsShdr (λ h both. both.0)
            (headers_of q) reads.shdrs;
        fitting = All-weaker (λ h. IsShdr h × IsTrue (shdr_fits class h))
            (λ h. IsTrue (shdr_fits class h)) (λ h both. both.1) (headers_of q) reads.shdrs;
      };
    }

no_bytes : IsSome {T = List ℕ} None → ⊥
no_bytes told = cc

pub settling_is_sound : ((o : Object) → UpdatesKeep o) → ((o : Object) → UpdatesTie o)
    → ((o : Object) → UpdatesKeepBased o) → SettlingIsSound
settling_is_sound keeps ties stands None o is ranged passed = record {
  object = (keeps o).left false is.object passed;
  tied = λ told. absurd (no_bytes told);
  based = λ told. absurd (no_bytes told);
}
settling_is_sound keeps ties stands (Some bytes) o is ranged passed = record {
  object = (keeps o).left true is.object passed;
  tied = λ told. subst (λ (p : Object). IsTied p) (sym (settled-told o))
      ((ties o).settled is.object ranged (is.tied told) passed);
  based = λ told. subst (λ (p : Object). IsBased p) (sym (settled-told o))
      ((stands o).settled is.object (is.based told) passed);
}

-- a section that is opened again, with the number of the one that it was
cell_reopened : (mid new : Body) (size i : ℕ) (s : Scn) → SettlesBody size mid new
    → (scn_at mid i).cell.section ≡ i → slice_get new.sections i ≡ Some s
    → CellIn new.header.class new.header.order (bases.Source size) i s
unfolding scn_at
cell_reopened mid new size i s settles number found =
    let within = slice_get_within new.sections i s found in
    let count = ap length settles.sections ∙ length-map mid.sections (reopened_scn size) in
    let there : i < length mid.sections = omega (arith, within, count) in
    let x : Scn = get_or mid.sections i absent_scn in
    let is : reopened_scn size x ≡ s =
    sym (get_or-map (reopened_scn size) mid.sections i absent_scn absent_scn there)
    ∙ ap (λ (l : List Scn). get_or l i absent_scn) (sym settles.sections)
    ∙ get_or_from_slice_get new.sections i s absent_scn found in
    let h = new.header in
    subst (λ (t : Scn). CellIn h.class h.order (bases.Source size) i t) is (record {
      number = number;
      lies = opened_lies x.cell.section size x.header;
      empty = λ none. cc;
      items = tt {0};
    })

-- no section is held
none_alike : {X Y : Type 0} (l : List X) (m : List Y) → length l ≡ length m
    → map (λ x. false) l ≡ map (λ y. false) m
none_alike [] [] same = refl
none_alike [] (y ∷ m) same = absurd (omega (arith, same))
none_alike (x ∷ l) [] same = absurd (omega (arith, same))
none_alike (x ∷ l) (y ∷ m) same =
    ap (λ (t : List Bool). false ∷ t) (none_alike l m (omega (arith, same)))

none_mapped : {X : Type 0} (test : X → Bool) (l : List X)
    → cleared (map test l) ≡ map (λ x. false) l
none_mapped test [] = refl
none_mapped test (x ∷ l) = ap (λ (t : List Bool). false ∷ t) (none_mapped test l)

-- ---- The descriptor

module _ {S : Type 0} (g : Ghosts S) (source : S) (old mid new : Body)
    (is : IsElf (g.holds source) (g.size source) old)
    (placed_is : IsElf (g.holds source) (g.size source) mid)
    (dirty : is_dirty (object_of (g.holds source) (g.size source) old) ≡ true)
    (passed : refusal (object_of (g.holds source) (g.size source) old) ≡ None)
    (object : object_of (g.holds source) (g.size source) mid
    ≡ placed (object_of (g.holds source) (g.size source) old))
    (phdrs : mid.phdrs ≡ old.phdrs)
    (long : g.size source ≡ length (image_of (object_of (g.holds source) (g.size source) old)))
    (held : IfSome (g.holds source)
    (λ bytes. bytes ≡ image_of (object_of (g.holds source) (g.size source) old)))
    (settles : SettlesBody (g.size source) mid new) where
  abbrev o : Object
  o = object_of (g.holds source) (g.size source) old

  abbrev q : Object
  q = object_of (g.holds source) (g.size source) mid

  stored : q ≡ placed_by (places_of o) o
  stored = object ∙ placed-dirty o dirty

  raws : (s : ℕ) → s < length q.sections
      → home_bytes (home_of (length (image_of o)) (section_at q s).header) (image_of o)
      ≡ file_bytes q s
  raws =
      let count = section_count-placed (places_of o) o in
      subst (λ (p : Object). (s : ℕ) → s < length p.sections
      → home_bytes (home_of (length (image_of o)) (section_at p s).header) (image_of o)
      ≡ file_bytes p s) (sym stored)
      (λ s there. section_raw o s is.sound.object dirty passed (omega (arith, there, count)))

  pub settled_object : object_of (g.holds source) (g.size source) new
      ≡ settled (is_some (g.holds source)) o
  unfolding settled
  settled_object =
      let told = is_some (g.holds source) in
      reopened_object (g.holds source) (g.size source) mid new (image_of o) is.long long held raws
      settles
      ∙ ap (λ (p : Object). left_object told (settled_over (image_of o) p)) object
      ∙ sym (ap (λ (p : Object). left_object told p) (settle-dirty o dirty))

  ranged : All IsPhdr o.phdrs
  unfolding object_of
  ranged = subst (λ (l : List Phdr). All IsPhdr l) phdrs settles.ranged

  standing : IsStanding mid.header.class mid.header.order (front_as_written mid)
  unfolding object_of
  standing =
      let reads : IsReadable q =
      subst IsReadable (sym stored) (placed_readable o is.sound.object ranged dirty passed) in
      subst (λ (l : List Shdr). IsStanding mid.header.class mid.header.order
      (record { header = written_header mid.header; pad = mid.pad; phdrs = mid.phdrs; shdrs = l }))
      (headers_same (g.holds source) mid.sections)
      (standing_front q placed_is.sound.object reads)

  header_now : new.header ≡ mid.header
  header_now = ap (λ (b : Body). b.header) settles.rest

  base_now : new.base ≡ bases.Source (g.size source)
  base_now = ap (λ (b : Body). b.base) settles.rest

  written_now : new.written ≡ Some (front_as_written mid)
  written_now = ap (λ (b : Body). b.written) settles.rest

  cells_now : (i : ℕ) (s : Scn) → slice_get new.sections i ≡ Some s
      → CellIn new.header.class new.header.order new.base i s
  cells_now i s found =
      let within = slice_get_within new.sections i s found in
      let count = ap length settles.sections
      ∙ length-map mid.sections (reopened_scn (g.size source)) in
      let there : i < length mid.sections = omega (arith, within, count) in
      let before = cell_at (g.holds source) (g.size source) mid i placed_is there in
      subst (λ (b : Base). CellIn new.header.class new.header.order b i s) (sym base_now)
      (cell_reopened mid new (g.size source) i s settles before.number found)

  pub settled_elf : SettlingIsSound → IsElf (g.holds source) (g.size source) new
  settled_elf settling =
      let image = g.holds source in
      let size = g.size source in
      let sound : IsSound image (object_of image size new) =
      subst (λ (p : Object). IsSound image p) (sym settled_object)
      (settling image o is.sound ranged passed) in
      record {
        long = is.long;
        within = subst (λ (b : Base). source_part b ≤ size) (sym base_now) (omega arith);
        whole = λ h. base_now;
        counts = has_counts image size new sound.object;
        cells = cells_now;
        written = subst (λ (w : Option Written).
            IfSome w (IsStanding new.header.class new.header.order)) (sym written_now)
            (subst (λ (h : Ehdr). IsStanding h.class h.order (front_as_written mid))
            (sym header_now) standing);
        sound = sound;
      }

  -- of as many sections, that nothing of any is held
  none_now : (now was : Scn → Bool) → ((x : Scn) → now (reopened_scn (g.size source) x) ≡ false)
      → length mid.sections ≡ length old.sections
      → map now new.sections ≡ cleared (map was old.sections)
  none_now now was none count =
      ap (λ (l : List Scn). map now l) settles.sections
      ∙ each mid.sections
      ∙ none_alike mid.sections old.sections count
      ∙ sym (none_mapped was old.sections)
    where
      each : (l : List Scn) → map now (map (reopened_scn (g.size source)) l) ≡ map (λ x. false) l
      each [] = refl
      each (x ∷ l) =
          ap (λ (t : Bool). t ∷ map now (map (reopened_scn (g.size source)) l)) (none x)
          ∙ ap (λ (t : List Bool). false ∷ t) (each l)

  pub settled_state_is : length mid.sections ≡ length old.sections
      → state_of g source new ≡ settled_state (state_of g source old)
  unfolding loaded_of held_of room_of
  settled_state_is count =
      let told = is_some (g.holds source) in
      let with_parts : Object → List Bool → List Bool → List Bool → Bool → State S =
      λ p loaded held room ready. record {
        o = p;
        told = told;
        loaded = loaded;
        held = held;
        room = room;
        ready = ready;
        source = source;
      } in
      let left = settled told o in
      ap (λ (p : Object). with_parts p (loaded_of new) (held_of new) (room_of new) (ready_of new))
      settled_object
      ∙ ap (λ (l : List Bool). with_parts left l (held_of new) (room_of new) (ready_of new))
      (none_now (λ s. cell_is_loaded s.cell) (λ s. cell_is_loaded s.cell) (λ x. refl) count)
      ∙ ap (λ (l : List Bool). with_parts left (cleared (loaded_of old)) l (room_of new)
      (ready_of new))
      (none_now (λ s. is_some s.cell.held) (λ s. is_some s.cell.held) (λ x. refl) count)
      ∙ ap (λ (l : List Bool). with_parts left (cleared (loaded_of old)) (cleared (held_of old)) l
      (ready_of new))
      (none_now (λ s. s.cell.room) (λ s. s.cell.room) (λ x. refl) count)
      ∙ ap (λ (r : Bool). with_parts left (cleared (loaded_of old)) (cleared (held_of old))
      (cleared (room_of old)) r) (ap ready_of settles.rest)

-- ---- The call

-- what is settled of an object whose places are stored is an object over the image that was written
pub settles_all : {S : Type 0} (g : Ghosts S) (source : S) (old new : Body) (size : ℕ)
    → IsElf (g.holds source) (g.size source) old
    → is_dirty (object_of (g.holds source) (g.size source) old) ≡ true
    → refusal (object_of (g.holds source) (g.size source) old) ≡ None
    → placed (object_of (g.holds source) (g.size source) old)
    ≡ object_of (g.holds source) (g.size source) old
    → SettlingIsSound
    → g.size source ≡ length (image_of (object_of (g.holds source) (g.size source) old))
    → IfSome (g.holds source)
    (λ bytes. bytes ≡ image_of (object_of (g.holds source) (g.size source) old))
    → size ≡ g.size source → SettlesBody size old new
    → IsElf (g.holds source) (g.size source) new
    × (state_of g source new ≡ settled_state (state_of g source old))
settles_all g source old new size is dirty passed stored settling long held counted settles =
    let sized = subst (λ (n : ℕ). SettlesBody n old new) counted settles in (
      settled_elf g source old old new is is dirty passed (sym stored) refl long held sized settling,
      settled_state_is g source old old new is is dirty passed (sym stored) refl long held sized
          refl,
    )
