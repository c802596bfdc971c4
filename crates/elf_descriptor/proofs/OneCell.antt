-- The data of one section is held otherwise, and the section itself stays: so do the object and what
-- is true of the descriptor.
use Rattle.std.proofs.Common.{◌≡◌, ◌≢◌, ◌∙◌, ℕ, ◌<◌, Bool, true, false, List, length, get_or, set, map, Option, refl, sym, ap, subst, arith}
use Rattle.std.specs.Prelude.{◌==◌, ◌&&◌, is_some}
use Rattle.std.proofs.lemmas.Bool.{eqb-true}
use Rattle.std.proofs.lemmas.List.{length-set, get_or-set_other}
use Rattle.std.proofs.lemmas.Option.{get_or_from_slice_get, slice_get_within}
use Rattle.std.proofs.Math.Seq.{map-set, map-set_same}
use Rattle.section_table.specs.elf_outside.declared.sources.Source.{Ghosts}
use Rattle.section_table.specs.elf_object.Object.{Object, Section}
use Rattle.section_table.specs.section_data.Views.{CellView}
use Rattle.section_table.specs.section_data.Held.{cell_is_loaded}
use Rattle.section_table.specs.Sections.{SectionView as Scn, absent_scn}
use Rattle.elf_descriptor.specs.declared.body.Body.{Body}
use Rattle.elf_descriptor.specs.State.{State}
use Rattle.elf_descriptor.specs.Views.{object_of, section_of, scn_at, loaded_of, held_of, room_of, ready_of, is_of_source, has_lengths, state_of, HasCounts, has_mark}
use Rattle.elf_descriptor.specs.Sound.{CellIn, IsElf, IsSound}
use Rattle.elf_descriptor.proofs.Warming.{cell_at, cell_moved, standing_moved, part_within, scn_written, other_number}

pub record HoldsOtherwise (image : Option (List ℕ)) (old new : Body) (s : ℕ) (cell : CellView) : Type 0 where
  pub there : s < length old.sections
  pub rest : new ≡ record old { sections = new.sections }
  pub sections : new.sections ≡ set old.sections s (record (scn_at old s) { cell = cell })
  pub same : section_of image (record (scn_at old s) { cell = cell }) ≡ section_of image (scn_at old s)
  pub known : CellIn old.header.class old.header.order old.base s (record (scn_at old s) { cell = cell })

module _ (image : Option (List ℕ)) (size : ℕ) (old new : Body) (s : ℕ) (cell : CellView) (h : HoldsOtherwise image old new s cell) where
  pub otherwise_here : scn_at new s ≡ record (scn_at old s) { cell = cell }
  otherwise_here = scn_written old new s (record (scn_at old s) { cell = cell }) h.there h.sections

  otherwise_other : (i : ℕ) → i ≢ s → scn_at new i ≡ scn_at old i
  unfolding scn_at
  otherwise_other i other =
      ap (λ (l : List Scn). get_or l i absent_scn) h.sections
      ∙ get_or-set_other old.sections s i (record (scn_at old s) { cell = cell }) absent_scn other

  otherwise_count : length new.sections ≡ length old.sections
  otherwise_count = ap length h.sections
      ∙ length-set old.sections s (record (scn_at old s) { cell = cell })

  -- the object stays
  pub otherwise_object : object_of image size new ≡ object_of image size old
  unfolding object_of scn_at
  otherwise_object =
      ap (λ (b : Body). object_of image size b) h.rest
      ∙ ap (λ (l : List Section). record (object_of image size old) { sections = l })
      (ap (λ (l : List Scn). map (section_of image) l) h.sections
      ∙ map-set_same (section_of image) old.sections s (record (scn_at old s) { cell = cell })
      absent_scn h.same)

  otherwise_cells : IsElf image size old → (i : ℕ) → i < length old.sections
      → CellIn old.header.class old.header.order old.base i (scn_at new i)
  otherwise_cells is i there = by_number (i == s) refl
    where
      by_number : (b : Bool) → (i == s) ≡ b → CellIn old.header.class old.header.order old.base i (scn_at new i)
      by_number true e =
          let same = eqb-true i s e in
          subst (λ (n : ℕ). CellIn old.header.class old.header.order old.base n (scn_at new n)) (sym same)
          (subst (λ (x : Scn). CellIn old.header.class old.header.order old.base s x) (sym otherwise_here) h.known)
      by_number false e =
          subst (λ (x : Scn). CellIn old.header.class old.header.order old.base i x) (sym (otherwise_other i (other_number i s e))) (cell_at image size old i is there)

  -- and so does what is true of the descriptor
  pub otherwise_elf : IsElf image size old → IsElf image size new
  unfolding scn_at
  otherwise_elf is =
      let class = ap (λ (b : Body). b.header.class) h.rest in
      let order = ap (λ (b : Body). b.header.order) h.rest in
      let base = ap (λ (b : Body). b.base) h.rest in
      record {
        long = is.long;
        within = part_within old new size base is.within;
        whole = λ unmarked. base ∙ is.whole (ap has_mark (sym h.rest) ∙ unmarked);
        counts = subst HasCounts (sym h.rest) (record { phnum = is.counts.phnum; shnum = is.counts.shnum ∙ sym otherwise_count });
        cells = λ i x found.
            let there = slice_get_within new.sections i x found in
            let at = get_or_from_slice_get new.sections i x absent_scn found in
            cell_moved old new class order base i x
            (subst (λ (y : Scn). CellIn old.header.class old.header.order old.base i y) at (otherwise_cells is i (omega (arith, there, otherwise_count))));
        written = standing_moved old new class order (ap (λ (b : Body). b.written) h.rest) is.written;
        sound = subst (IsSound image) (sym otherwise_object) is.sound;
      }

  -- ---- What is held

  pub otherwise_loaded : loaded_of new ≡ set (loaded_of old) s (cell_is_loaded cell)
  unfolding loaded_of
  otherwise_loaded =
      ap (λ (l : List Scn). map (λ y. cell_is_loaded y.cell) l) h.sections
      ∙ map-set (λ (y : Scn). cell_is_loaded y.cell) old.sections s
      (record (scn_at old s) { cell = cell })

  pub otherwise_held : held_of new ≡ set (held_of old) s (is_some cell.held)
  unfolding held_of
  otherwise_held =
      ap (λ (l : List Scn). map (λ y. is_some y.cell.held) l) h.sections
      ∙ map-set (λ (y : Scn). is_some y.cell.held) old.sections s
      (record (scn_at old s) { cell = cell })

  pub otherwise_room : room_of new ≡ set (room_of old) s cell.room
  unfolding room_of
  otherwise_room =
      ap (λ (l : List Scn). map (λ y. y.cell.room) l) h.sections
      ∙ map-set (λ (y : Scn). y.cell.room) old.sections s (record (scn_at old s) { cell = cell })

  pub otherwise_ready : ready_of new ≡ ready_of old
  otherwise_ready =
      ap ready_of h.rest ∙ ap (λ (n : ℕ). old.ready && (is_of_source old.base && has_lengths old.spare (length old.phdrs) n)) otherwise_count

-- room for a home that is kept
pub room_same : (b : Body) (s : ℕ) → set (room_of b) s (scn_at b s).cell.room ≡ room_of b
unfolding room_of scn_at
room_same b s =
    sym (map-set (λ (y : Scn). y.cell.room) b.sections s (scn_at b s))
    ∙ map-set_same (λ (y : Scn). y.cell.room) b.sections s (scn_at b s) absent_scn refl

pub loaded_same : (b : Body) (s : ℕ) → set (loaded_of b) s (cell_is_loaded (scn_at b s).cell) ≡ loaded_of b
unfolding loaded_of scn_at
loaded_same b s =
    sym (map-set (λ (y : Scn). cell_is_loaded y.cell) b.sections s (scn_at b s))
    ∙ map-set_same (λ (y : Scn). cell_is_loaded y.cell) b.sections s (scn_at b s) absent_scn refl

pub held_same : (b : Body) (s : ℕ) → set (held_of b) s (is_some (scn_at b s).cell.held) ≡ held_of b
unfolding held_of scn_at
held_same b s =
    sym (map-set (λ (y : Scn). is_some y.cell.held) b.sections s (scn_at b s))
    ∙ map-set_same (λ (y : Scn). is_some y.cell.held) b.sections s (scn_at b s) absent_scn refl

-- the state afterwards
abbrev pub otherwise : {S : Type 0} → State S → List Bool → List Bool → List Bool → State S
otherwise state loaded held room = record state { loaded = loaded; held = held; room = room }

pub otherwise_state : {S : Type 0} (g : Ghosts S) (source : S) (old new : Body) (s : ℕ) (cell : CellView) → HoldsOtherwise (g.holds source) old new s cell
    → state_of g source new
    ≡ otherwise (state_of g source old) (set (loaded_of old) s (cell_is_loaded cell)) (set (held_of old) s (is_some cell.held)) (set (room_of old) s cell.room)
otherwise_state {S} g source old new s cell h =
    let image = g.holds source in
    let size = g.size source in
    let with_parts : Object → List Bool → List Bool → List Bool → Bool → State S =
    λ o loaded held room ready. record { o = o; told = is_some image; loaded = loaded; held = held; room = room; ready = ready; source = source } in
    ap (λ (o : Object). with_parts o (loaded_of new) (held_of new) (room_of new) (ready_of new)) (otherwise_object image size old new s cell h)
    ∙ ap (λ (l : List Bool). with_parts (object_of image size old) l (held_of new) (room_of new) (ready_of new)) (otherwise_loaded image size old new s cell h)
    ∙ ap (λ (l : List Bool). with_parts (object_of image size old) (set (loaded_of old) s (cell_is_loaded cell)) l (room_of new) (ready_of new)) (otherwise_held image size old new s cell h)
    ∙ ap (λ (l : List Bool). with_parts (object_of image size old) (set (loaded_of old) s (cell_is_loaded cell)) (set (held_of old) s (is_some cell.held)) l (ready_of new)) (otherwise_room image size old new s cell h)
    ∙ ap (λ (r : Bool). with_parts (object_of image size old) (set (loaded_of old) s (cell_is_loaded cell)) (set (held_of old) s (is_some cell.held)) (set (room_of old) s cell.room) r) (otherwise_ready image size old new s cell h)
