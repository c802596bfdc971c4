-- An edit keeps what is true of each descriptor, and leaves the stepped state.
use Rattle.std.proofs.Common.{◌≡◌, ℕ, Bool, List, [], ◌∷◌, length, get_or, map, Option, Some, Result, Ok, Err, refl, sym, ap, ◌∙◌, subst, arith}
use Rattle.std.specs.Prelude.{slice_get, is_some, IfOk, OnOk, OnErr, false}
use Rattle.std.proofs.lemmas.List.{length-map}
use Rattle.std.proofs.lemmas.Option.{get_or_from_slice_get, slice_get_within}
use Rattle.std.proofs.Math.ListN.{get_or-map}
use Rattle.elf_types.specs.declared.records.Class.{Class}
use Rattle.elf_types.specs.declared.records.Order.{Order}
use Rattle.elf_types.specs.declared.errors.ElfError.{ElfError}
use Rattle.section_table.specs.elf_outside.declared.sources.Source.{Ghosts}
use Rattle.section_table.specs.elf_object.Object.{Object}
use Rattle.section_table.specs.elf_object.Calls.{Call, step, after_answer}
use Rattle.section_table.specs.elf_object.Valid.{IsObject, KeepsObject, KeepsTied}
use Rattle.law_object.specs.Writing.Based.{KeepsBased}
use Rattle.section_table.specs.section_data.Views.{CellView}
use Rattle.section_table.specs.section_data.Held.{HeldIs, cell_is_loaded}
use Rattle.section_table.specs.section_data.Leaves.{LiesIn}
use Rattle.section_table.specs.Sections.{SectionView as Scn, absent_scn}
use Rattle.elf_descriptor.specs.declared.body.Body.{Body}
use Rattle.elf_descriptor.specs.State.{State}
use Rattle.elf_descriptor.specs.Views.{object_of, loaded_of, held_of, state_of, scn_at, HasCounts, ready_of, is_of_source, room_of}
use Rattle.elf_descriptor.specs.Sound.{IsElf, IsSound, CellIn, source_part}
use Rattle.elf_descriptor.specs.Edits.{IsStepped, IsNumbered, StepsTo, homes_of, without_pieces, stepped, flagged}
use Rattle.elf_descriptor.proofs.Objects.{section_count_is}
use Rattle.elf_descriptor.proofs.Warming.{cell_at, part_within, cell_moved, standing_moved}
use Rattle.elf_descriptor.specs.declared.body.Base.{Base}

-- ---- The homes

home_kept : (old new : Body) (i : ℕ) → homes_of new ≡ homes_of old → without_pieces (scn_at new i) ≡ without_pieces (scn_at old i)
unfolding homes_of scn_at
home_kept old new i same =
    sym (get_or-map without_pieces new.sections i absent_scn)
    ∙ ap (λ (l : List CellView). get_or l i (without_pieces absent_scn)) same
    ∙ get_or-map without_pieces old.sections i absent_scn

pub count_kept : (old new : Body) → homes_of new ≡ homes_of old
    → length new.sections ≡ length old.sections
unfolding homes_of
count_kept old new same = sym (length-map new.sections without_pieces) ∙ ap length same
    ∙ length-map old.sections without_pieces

loaded_without : (l : List Scn) → map (λ s. cell_is_loaded s.cell) l ≡ map cell_is_loaded (map without_pieces l)
loaded_without [] = refl
loaded_without (s ∷ l) = ap (λ (t : List Bool). cell_is_loaded s.cell ∷ t) (loaded_without l)

held_without : (l : List Scn) → map (λ s. is_some s.cell.held) l ≡ map (λ c. is_some c.held) (map without_pieces l)
held_without [] = refl
held_without (s ∷ l) = ap (λ (t : List Bool). is_some s.cell.held ∷ t) (held_without l)

room_without : (l : List Scn) → map (λ s. s.cell.room) l ≡ map (λ c. c.room) (map without_pieces l)
room_without [] = refl
room_without (s ∷ l) = ap (λ (t : List Bool). s.cell.room ∷ t) (room_without l)

pub loaded_kept : (old new : Body) → homes_of new ≡ homes_of old → loaded_of new ≡ loaded_of old
unfolding homes_of loaded_of
loaded_kept old new same = loaded_without new.sections
    ∙ ap (λ (l : List CellView). map cell_is_loaded l) same ∙ sym (loaded_without old.sections)

pub held_kept : (old new : Body) → homes_of new ≡ homes_of old → held_of new ≡ held_of old
unfolding homes_of held_of
held_kept old new same = held_without new.sections
    ∙ ap (λ (l : List CellView). map (λ c. is_some c.held) l) same ∙ sym (held_without old.sections)

pub room_kept : (old new : Body) → homes_of new ≡ homes_of old → room_of new ≡ room_of old
unfolding homes_of room_of
room_kept old new same = room_without new.sections
    ∙ ap (λ (l : List CellView). map (λ c. c.room) l) same ∙ sym (room_without old.sections)

-- ---- What is true of each descriptor

-- what is known of a section's data does not rest on its pieces
abbrev IsDataOf : Class → Order → Base → ℕ → CellView → Type 0
IsDataOf class order base i c =
    (c.section ≡ i) × LiesIn c (source_part base) × (is_of_source base ≡ false → c.home.len ≡ 0) × HeldIs class order c

pub cell_kept : (class : Class) (order : Order) (base : Base) (i : ℕ) (x y : Scn) → without_pieces y ≡ without_pieces x → CellIn class order base i x → CellIn class order base i y
cell_kept class order base i x y same is =
    let known : IsDataOf class order base i (without_pieces y) = subst (λ (c : CellView). IsDataOf class order base i c) (sym same) (is.number, is.lies, is.empty, is.items) in
    record { number = known.0; lies = known.1; empty = known.2; items = known.3 }

pub cells_kept : (image : Option (List ℕ)) (size : ℕ) (old new : Body) → homes_of new ≡ homes_of old → IsElf image size old
    → (i : ℕ) (s : Scn) → slice_get new.sections i ≡ Some s
    → CellIn old.header.class old.header.order old.base i s
unfolding scn_at
cells_kept image size old new homes is i s found =
    let there = slice_get_within new.sections i s found in
    let count = count_kept old new homes in
    let at : get_or new.sections i absent_scn ≡ s =
    get_or_from_slice_get new.sections i s absent_scn found in
    cell_kept old.header.class old.header.order old.base i (scn_at old i) s (ap without_pieces (sym at) ∙ home_kept old new i homes)
    (cell_at image size old i is (omega (arith, there, count)))

pub has_counts : (image : Option (List ℕ)) (size : ℕ) (b : Body) → IsObject (object_of image size b) → HasCounts b
unfolding object_of
has_counts image size b is = record { phnum = is.phnum; shnum = is.shnum ∙ section_count_is image size b }

-- a step that is answered keeps an object sound
pub step_sound : {A : Type 0} (c : Call A) (image : Option (List ℕ)) (o : Object) (x : A) → KeepsObject c → KeepsTied c → KeepsBased c → c.answer o ≡ Ok x
    → IsSound image o → IsSound image (c.after o)
unfolding step
step_sound c image o x keeps ties bases answer is =
    let same : step c o ≡ c.after o = ap (λ (r : Result _ ElfError). after_answer r o (c.after o)) answer in
    subst (λ (p : Object). IsSound image p) same (record {
      object = keeps o is.object;
      tied = λ told. ties o (is.tied told);
      based = λ told. bases o (is.based told);
    })

pub stepped_elf : {A : Type 0} (c : Call A) (image : Option (List ℕ)) (size : ℕ) (x : A) (ready : Bool) (old new : Body) → KeepsObject c → KeepsTied c → KeepsBased c
    → c.answer (object_of image size old) ≡ Ok x → IsStepped c.after ready old new → IsElf image size old → IsElf image size new
stepped_elf c image size x ready old new keeps ties bases answer step is =
    let sound : IsSound image (object_of image size new) = subst (λ (p : Object). IsSound image p) (sym (step.object image size)) (step_sound c image (object_of image size old) x keeps ties bases answer is.sound) in
    record {
      long = is.long;
      within = part_within old new size step.base is.within;
      whole = λ h. step.base ∙ is.whole (step.marks h);
      counts = has_counts image size new sound.object;
      cells = λ i s found. cell_moved old new step.class step.order step.base i s (cells_kept image size old new step.homes is i s found);
      written = standing_moved old new step.class step.order step.written is.written;
      sound = sound;
    }

-- an edit that is answered steps, and one that is refused changes nothing
pub edit_elf : {A E : Type 0} (c : Call A) (image : Option (List ℕ)) (size : ℕ) (r : Result A E) (ready : Bool) (old new : Body) → KeepsObject c → KeepsTied c → KeepsBased c
    → IfOk r (λ x. c.answer (object_of image size old) ≡ Ok x) → OnOk r (IsStepped c.after ready old new) → OnErr r (new ≡ old) → IsElf image size old → IsElf image size new
edit_elf c image size (Ok x) ready old new keeps ties bases answer step unchanged is = stepped_elf c image size x ready old new keeps ties bases answer step is
edit_elf c image size (Err e) ready old new keeps ties bases answer step unchanged is = subst (λ (b : Body). IsElf image size b) (sym unchanged) is

-- one whose answer is the stated one
pub stated_elf : {A : Type 0} (c : Call A) (image : Option (List ℕ)) (size : ℕ) (r : Result A ElfError) (ready : Bool) (old new : Body) → KeepsObject c → KeepsTied c → KeepsBased c
    → r ≡ c.answer (object_of image size old) → OnOk r (IsStepped c.after ready old new) → OnErr r (new ≡ old) → IsElf image size old → IsElf image size new
stated_elf c image size (Ok x) ready old new keeps ties bases answer step unchanged is = stepped_elf c image size x ready old new keeps ties bases (sym answer) step is
stated_elf c image size (Err e) ready old new keeps ties bases answer step unchanged is = subst (λ (b : Body). IsElf image size b) (sym unchanged) is

-- an edit whose refusal leaves all that the object stands for
pub same_elf : (image : Option (List ℕ)) (size : ℕ) (ready : Bool) (old new : Body) → IsStepped (λ o. o) ready old new → IsElf image size old → IsElf image size new
same_elf image size ready old new step is =
    let sound : IsSound image (object_of image size new) = subst (λ (p : Object). IsSound image p) (sym (step.object image size)) is.sound in
    record {
      long = is.long;
      within = part_within old new size step.base is.within;
      whole = λ h. step.base ∙ is.whole (step.marks h);
      counts = has_counts image size new sound.object;
      cells = λ i s found. cell_moved old new step.class step.order step.base i s (cells_kept image size old new step.homes is i s found);
      written = standing_moved old new step.class step.order step.written is.written;
      sound = sound;
    }

pub kept_elf : {A E : Type 0} (c : Call A) (image : Option (List ℕ)) (size : ℕ) (r : Result A E) (ready : Bool) (old new : Body) → KeepsObject c → KeepsTied c → KeepsBased c
    → IfOk r (λ x. c.answer (object_of image size old) ≡ Ok x) → OnOk r (IsStepped c.after ready old new) → OnErr r (IsStepped (λ o. o) (ready_of old) old new)
    → IsElf image size old → IsElf image size new
kept_elf c image size (Ok x) ready old new keeps ties bases answer step same is = stepped_elf c image size x ready old new keeps ties bases answer step is
kept_elf c image size (Err e) ready old new keeps ties bases answer step same is = same_elf image size (ready_of old) old new same is

-- one that answers what a view gives of it
pub kept_by : {A D E : Type 0} (c : Call A) (view : D → A) (image : Option (List ℕ)) (size : ℕ) (r : Result D E) (ready : Bool) (old new : Body) → KeepsObject c → KeepsTied c → KeepsBased c
    → IfOk r (λ x. c.answer (object_of image size old) ≡ Ok (view x)) → OnOk r (IsStepped c.after ready old new) → OnErr r (IsStepped (λ o. o) (ready_of old) old new)
    → IsElf image size old → IsElf image size new
kept_by c view image size (Ok x) ready old new keeps ties bases answer step same is = stepped_elf c image size (view x) ready old new keeps ties bases answer step is
kept_by c view image size (Err e) ready old new keeps ties bases answer step same is = same_elf image size (ready_of old) old new same is

-- the data of each section has its number
pub numbered : (image : Option (List ℕ)) (size : ℕ) (b : Body) (s : ℕ) → IsElf image size b → IsNumbered b s
numbered image size b s is = λ there. (cell_at image size b s is there).number

-- ---- The state

module _ {S : Type 0} (g : Ghosts S) (source : S) where
  abbrev state_with : Object → List Bool → List Bool → List Bool → Bool → State S
  state_with o loaded held room ready =
      record { o = o; told = is_some (g.holds source); loaded = loaded; held = held; room = room; ready = ready; source = source }

  pub state_stepped : (after : Object → Object) (ready : Bool) (old new : Body) → IsStepped after ready old new
      → state_of g source new ≡ record (state_of g source old) { o = after (object_of (g.holds source) (g.size source) old); ready = ready }
  state_stepped after ready old new step =
      let o = after (object_of (g.holds source) (g.size source) old) in
      ap (λ (p : Object). state_with p (loaded_of new) (held_of new) (room_of new) (ready_of new)) (step.object (g.holds source) (g.size source))
      ∙ ap (λ (l : List Bool). state_with o l (held_of new) (room_of new) (ready_of new)) (loaded_kept old new step.homes)
      ∙ ap (λ (l : List Bool). state_with o (loaded_of old) l (room_of new) (ready_of new)) (held_kept old new step.homes)
      ∙ ap (λ (l : List Bool). state_with o (loaded_of old) (held_of old) l (ready_of new)) (room_kept old new step.homes)
      ∙ ap (λ (b : Bool). state_with o (loaded_of old) (held_of old) (room_of old) b) step.ready

  pub steps_to : {A E : Type 0} (c : Call A) (r : Result A E) (old new : Body) → OnOk r (IsStepped c.after false old new) → OnErr r (new ≡ old)
      → StepsTo r (state_of g source old) (state_of g source new) (stepped c (state_of g source old))
  steps_to c (Ok x) old new step unchanged = state_stepped c.after false old new step
  steps_to c (Err e) old new step unchanged = ap (λ (b : Body). state_of g source b) unchanged

  pub flags_to : {A E : Type 0} (c : Call A) (r : Result A E) (old new : Body) → OnOk r (IsStepped c.after (ready_of old) old new) → OnErr r (new ≡ old)
      → StepsTo r (state_of g source old) (state_of g source new) (flagged c (state_of g source old))
  flags_to c (Ok x) old new step unchanged = state_stepped c.after (ready_of old) old new step
  flags_to c (Err e) old new step unchanged = ap (λ (b : Body). state_of g source b) unchanged

  pub kept_to : {A E : Type 0} (c : Call A) (r : Result A E) (old new : Body) → OnOk r (IsStepped c.after false old new) → OnErr r (IsStepped (λ o. o) (ready_of old) old new)
      → StepsTo r (state_of g source old) (state_of g source new) (stepped c (state_of g source old))
  kept_to c (Ok x) old new step same = state_stepped c.after false old new step
  kept_to c (Err e) old new step same = state_stepped (λ o. o) (ready_of old) old new same
