-- Memory is kept aside for a section's home, and the home is read into it.
use Rattle.std.proofs.Common.{◌≡◌, ◌≢◌, ◌∙◌, ℕ, ◌+◌, ◌<◌, ◌≤◌, Bool, true, false, List, [], ◌∷◌, length, get_or, set, Option, Some, None, Result, Ok, Err, refl, sym, ap, subst, arith}
use Rattle.std.specs.Prelude.{◌||◌, ◌&&◌, ◌==◌, is_some, nat_lt, IsTrue, IfErr, IfSome, OnOk, OnErr, if◌then◌else◌}
use Rattle.std.proofs.lemmas.Bool.{eqb-true, ltb-true, ltb-false}
use Rattle.std.proofs.lemmas.List.{set-get_or, set-set, length-set, get_or-set_other}
use Rattle.elf_types.specs.declared.errors.ElfError.{ElfError}
use Rattle.elf_types.specs.declared.errors.ElfError.TheVariants.{Read, Memory}
use Rattle.elf_types.specs.Answers.{answered, first_refusal, IsRefusal}
use Rattle.section_table.specs.elf_outside.declared.sources.Source.{Ghosts}
use Rattle.section_table.specs.elf_outside.Asks.{Asks, Leaves}
use Rattle.section_table.specs.elf_object.Words.{Answers, Edits}
use Rattle.section_table.specs.elf_object.Object.{Object}
use Rattle.section_table.specs.elf_object.Answers.{raw_refusal}
use Rattle.section_table.specs.elf_object.Calls as calls
use Rattle.section_table.specs.elf_object.Due.{is_loaded, holds_items, homes_due}
use Rattle.section_table.specs.elf_xlate.declared.content.Items.{Items}
use Rattle.section_table.specs.section_data.Views.{CellView}
use Rattle.section_table.specs.section_data.Held.{cell_is_loaded}
use Rattle.section_table.specs.section_data.Leaves.{FillsRoom, with_room}
use Rattle.section_table.specs.section_data.Refused.{home_out, load_due, loading, reading}
use Rattle.section_table.specs.Sections.{SectionView as Scn, absent_scn}
use Rattle.elf_descriptor.specs.declared.body.Body.{Body}
use Rattle.elf_descriptor.specs.State.{State}
use Rattle.elf_descriptor.specs.Views.{object_of, section_of, raw_of, scn_at, loaded_of, held_of, room_of, ready_of, state_of}
use Rattle.elf_descriptor.specs.Bodies.{no_raw_in}
use Rattle.elf_descriptor.specs.Sound.{IsElf, CellIn}
use Rattle.elf_descriptor.specs.Edits.{IsStepped}
use Rattle.elf_descriptor.specs.Warmed.{Warmed}
use Rattle.elf_descriptor.specs.Reads.{Queries, wanted}
use Rattle.elf_descriptor.specs.Rooms.{has_room_for, with_room_for, reads_home, HoldsSo, Fills}
use Rattle.elf_descriptor.proofs.Refusals.{answers_wants}
use Rattle.elf_descriptor.proofs.EditLaws.{same_elf, state_stepped}
use Rattle.elf_descriptor.proofs.EditGrows.{edits_left, refused_alone}
use Rattle.elf_descriptor.proofs.EditPieces.{section_same}
use Rattle.elf_descriptor.proofs.Loaded.{loaded_is, room_is, absent_at}
use Rattle.elf_descriptor.proofs.RawCalls.{raw_refusal_is, raw_answers, raw_queries, scn_there}
use Rattle.elf_descriptor.proofs.Reading.{object_over}
use Rattle.elf_descriptor.proofs.OwnedCalls.{left_same}
use Rattle.elf_descriptor.proofs.Warming.{cell_at, other_number, scn_written, warmed_left, warmed_elf, warm_held}
use Rattle.section_table.proofs.section_data.Loading.{warms_same}
use Rattle.elf_descriptor.proofs.OneCell.{HoldsOtherwise, otherwise_object, otherwise_elf, otherwise_loaded, otherwise_held, otherwise_ready, otherwise_state, loaded_same, held_same, room_same}

-- ---- In what the program keeps

-- one section is written
pub so_by : (old new : Body) (s : ℕ) (x : Scn) (cell : CellView) → x ≡ scn_at old s → new ≡ record old { sections = new.sections }
    → new.sections ≡ set old.sections s (record x { cell = cell }) → HoldsSo old new s cell
so_by old new s x cell read rest is = record {
  rest = rest;
  sections = is ∙ ap (λ (y : Scn). set old.sections s (record y { cell = cell })) read;
}

-- its data is another's
pub so_is : (old new : Body) (s : ℕ) (cell c : CellView) → cell ≡ c → HoldsSo old new s cell → HoldsSo old new s c
so_is old new s cell c is so = subst (λ (d : CellView). HoldsSo old new s d) is so

-- nothing is written
pub so_same : (b : Body) (s : ℕ) → HoldsSo b b s (scn_at b s).cell
unfolding scn_at
so_same b s = record { rest = refl; sections = sym (set-get_or b.sections s absent_scn) }

pub same_steps : (old new : Body) (s : ℕ) → HoldsSo old new s (scn_at old s).cell
    → IsStepped (λ o. o) (ready_of old) old new
same_steps old new s so = section_same old new s (scn_at old s) refl so.rest so.sections

-- ---- Memory is kept aside

kept_section : (image : Option (List ℕ)) (x : Scn) → section_of image (record x { cell = with_room x.cell }) ≡ section_of image x
unfolding section_of raw_of
kept_section image x = by_loaded (cell_is_loaded x.cell) image
  where
    by_loaded : (b : Bool) (i : Option (List ℕ)) → section_of i (record x { cell = if b then x.cell else (record x.cell { room = true }) }) ≡ section_of i x
    by_loaded true i = refl
    by_loaded false None = refl
    by_loaded false (Some bytes) = refl

module _ (image : Option (List ℕ)) (size : ℕ) (old new : Body) (s : ℕ) (is : IsElf image size old)
    (there : s < length old.sections) (so : HoldsSo old new s (with_room (scn_at old s).cell)) where
  pub kept_otherwise : HoldsOtherwise image old new s (with_room (scn_at old s).cell)
  kept_otherwise =
      let before = cell_at image size old s is there in
      record {
        there = there;
        rest = so.rest;
        sections = so.sections;
        same = kept_section image (scn_at old s);
        known = by_loaded (cell_is_loaded (scn_at old s).cell);
      }
    where
      by_loaded : (b : Bool) → CellIn old.header.class old.header.order old.base s (record (scn_at old s) { cell = if b then (scn_at old s).cell else (record (scn_at old s).cell { room = true }) })
      by_loaded true = cell_at image size old s is there
      by_loaded false =
          let before = cell_at image size old s is there in
          record { number = before.number; lies = before.lies; empty = before.empty; items = before.items }

module _ {S : Type 0} (g : Ghosts S) (source : S) (old new : Body) (s : ℕ) (is : IsElf (g.holds source) (g.size source) old) where
  -- the state with memory kept aside
  kept_state : s < length old.sections → HoldsSo old new s (with_room (scn_at old s).cell)
      → state_of g source new ≡ with_room_for s (state_of g source old)
  kept_state there so =
      otherwise_state g source old new s (with_room c) (kept_otherwise (g.holds source) (g.size source) old new s is there so)
      ∙ by_loaded (cell_is_loaded c) refl
      ∙ ap (λ (t : Bool). if t then state_of g source old else (record (state_of g source old) { room = set (room_of old) s true })) (sym (loaded_is old s))
    where
      c : CellView
      c = (scn_at old s).cell

      held_so : CellView → State S
      held_so d = record (state_of g source old) {
        loaded = set (loaded_of old) s (cell_is_loaded d);
        held = set (held_of old) s (is_some d.held);
        room = set (room_of old) s d.room;
      }

      lists : (room : List Bool) → record (state_of g source old) { loaded = set (loaded_of old) s (cell_is_loaded c); held = set (held_of old) s (is_some c.held); room = room }
          ≡ record (state_of g source old) { room = room }
      lists room =
          ap (λ (l : List Bool). record (state_of g source old) { loaded = l; held = set (held_of old) s (is_some c.held); room = room }) (loaded_same old s)
          ∙ ap (λ (l : List Bool). record (state_of g source old) { held = l; room = room }) (held_same old s)

      by_loaded : (b : Bool) → cell_is_loaded c ≡ b
          → held_so (with_room c) ≡ (if b then state_of g source old else (record (state_of g source old) { room = set (room_of old) s true }))
      by_loaded true e =
          ap (λ (t : Bool). held_so (if t then c else (record c { room = true }))) e
          ∙ lists (set (room_of old) s c.room)
          ∙ ap (λ (l : List Bool). record (state_of g source old) { room = l }) (room_same old s)
      by_loaded false e = ap (λ (t : Bool). held_so (if t then c else (record c { room = true }))) e ∙ lists (set (room_of old) s true)

  pub reserve_elf : (r : Result (Unit {0}) ElfError)
      → OnOk r (HoldsSo old new s (with_room (scn_at old s).cell))
      → OnOk r (s < length old.sections)
      → OnErr r (HoldsSo old new s (scn_at old s).cell) → IsElf (g.holds source) (g.size source) new
  reserve_elf (Ok x) ok there same = otherwise_elf (g.holds source) (g.size source) old new s (with_room (scn_at old s).cell) (kept_otherwise (g.holds source) (g.size source) old new s is there ok) is
  reserve_elf (Err e) ok there same = same_elf (g.holds source) (g.size source) (ready_of old) old new (same_steps old new s same) is

  pub reserve_edits : (r : Result (Unit {0}) ElfError) → Edits r (tt {0}) (tt {0}) (answered (no_raw_in old s) (tt {0})) (tt {0})
      → OnOk r (HoldsSo old new s (with_room (scn_at old s).cell))
      → OnOk r (s < length old.sections) → OnErr r (HoldsSo old new s (scn_at old s).cell)
      → Edits r (state_of g source old) (state_of g source new) (answered (raw_refusal (object_of (g.holds source) (g.size source) old) s) (tt {0})) (with_room_for s (state_of g source old))
  reserve_edits (Ok x) came ok there same =
      (ap (λ (q : Option ElfError). answered q (tt {0})) (raw_refusal_is (g.holds source) (g.size source) old s is) ∙ came.0, kept_state there ok)
  reserve_edits (Err e) came ok there same =
      edits_left e (state_of g source old) (state_of g source new) (with_room_for s (state_of g source old)) (answered (raw_refusal (object_of (g.holds source) (g.size source) old) s) (tt {0}))
      (subst (λ (q : Option ElfError). Edits (Err e) (tt {0}) (tt {0}) (answered q (tt {0})) (tt {0})) (sym (raw_refusal_is (g.holds source) (g.size source) old s is)) came)
      (state_stepped g source (λ o. o) (ready_of old) old new (same_steps old new s same))

  -- and then it can be loaded without memory
  pub reserve_room : (r : Result (Unit {0}) ElfError) → OnOk r (HoldsSo old new s (with_room (scn_at old s).cell))
      → OnOk r (s < length old.sections) → OnOk r (IsTrue (has_room_for (state_of g source new) s))
  reserve_room (Err e) ok there = tt
  reserve_room (Ok x) so there =
      let cell : (scn_at new s).cell ≡ with_room (scn_at old s).cell =
      ap (λ (y : Scn). y.cell) (scn_written old new s (record (scn_at old s) { cell = with_room (scn_at old s).cell }) there so.sections) in
      subst (λ (t : Bool). IsTrue (t || is_loaded (room_of new) s)) (sym (loaded_is new s))
      (subst (λ (t : Bool). IsTrue (cell_is_loaded (scn_at new s).cell || t)) (sym (room_is new s))
      (subst (λ (c : CellView). IsTrue (cell_is_loaded c || c.room)) (sym cell)
      (by_loaded (cell_is_loaded (scn_at old s).cell) refl)))
    where
      c : CellView
      c = (scn_at old s).cell

      by_loaded : (b : Bool) → cell_is_loaded (scn_at old s).cell ≡ b
          → IsTrue (cell_is_loaded (with_room (scn_at old s).cell) || (with_room (scn_at old s).cell).room)
      by_loaded true e =
          subst (λ (t : Bool). IsTrue (cell_is_loaded (if t then c else (record c { room = true })) || (if t then c else (record c { room = true })).room)) (sym e)
          (subst (λ (t : Bool). IsTrue (t || c.room)) (sym e) refl)
      by_loaded false e =
          subst (λ (t : Bool). IsTrue (cell_is_loaded (if t then c else (record c { room = true })) || (if t then c else (record c { room = true })).room)) (sym e)
          (subst (λ (t : Bool). IsTrue (t || true)) (sym e) refl)

-- ---- The home is read into it

-- there is such a section
pub room_there : (b : Body) (s : ℕ) → IsTrue (is_loaded (loaded_of b) s || is_loaded (room_of b) s)
    → (s < length b.sections) × IsTrue (cell_is_loaded (scn_at b s).cell || (scn_at b s).cell.room)
room_there b s room = (by_range (nat_lt s (length b.sections)) refl, kept)
  where
    kept : IsTrue (cell_is_loaded (scn_at b s).cell || (scn_at b s).cell.room)
    kept =
        subst (λ (t : Bool). IsTrue (t || (scn_at b s).cell.room)) (loaded_is b s)
        (subst (λ (t : Bool). IsTrue (is_loaded (loaded_of b) s || t)) (room_is b s) room)

    by_range : (t : Bool) → nat_lt s (length b.sections) ≡ t → s < length b.sections
    by_range true e = ltb-true s (length b.sections) e
    by_range false e =
        let none =
        ap (λ (x : Scn). cell_is_loaded x.cell || x.cell.room)
        (absent_at b s (ltb-false s (length b.sections) e)) in
        let never = sym kept ∙ none in cc

module _ (image : Option (List ℕ)) (old new : Body) (s : ℕ) (f : Fills image old new s) where
  -- the same with the memory as it was
  unfoldable pub filled : Body
  filled =
      record old {
        sections =
            set old.sections s
            (record (scn_at old s) {
              cell = record (scn_at old s).cell { raw = Some f.fills.raw };
            });
      }

  pub filled_warmed : Warmed image old filled s
  unfolding filled
  filled_warmed = record {
    cell = record (scn_at old s).cell { raw = Some f.fills.raw };
    rest = refl;
    sections = refl;
    warms = record { raw = Some f.fills.raw; held = (scn_at old s).cell.held; cell = refl; bytes = f.fills.bytes; items = held_as_before (scn_at old s).cell.held };
    items = λ held. warm_held image old.header.class old.header.order (scn_at old s).cell (record (scn_at old s).cell { raw = Some f.fills.raw })
        (record { raw = Some f.fills.raw; held = (scn_at old s).cell.held; cell = refl; bytes = f.fills.bytes; items = held_as_before (scn_at old s).cell.held }) refl held;
  }
    where
      held_as_before : (held : Option Items) → IfSome held (λ items. held ≡ Some items)
      held_as_before None = tt
      held_as_before (Some items) = refl

  -- only the memory that was kept aside is used up
  pub filled_cell : CellView
  filled_cell = record (scn_at old s).cell { raw = Some f.fills.raw; room = cell_is_loaded (scn_at old s).cell && (scn_at old s).cell.room }

  module _ (there : s < length old.sections) where
    filled_here : scn_at filled s ≡ record (scn_at old s) { cell = record (scn_at old s).cell { raw = Some f.fills.raw } }
    unfolding filled
    filled_here = scn_written old filled s (record (scn_at old s) { cell = record (scn_at old s).cell { raw = Some f.fills.raw } }) there refl

    filled_sections : new.sections
        ≡ set filled.sections s (record (scn_at filled s) { cell = filled_cell })
    unfolding filled_cell filled
    filled_sections =
        f.so.sections
        ∙ ap (λ (c : CellView). set old.sections s (record (scn_at old s) { cell = c }))
        f.fills.cell
        ∙ sym (ap (λ (x : Scn). set filled.sections s (record x { cell = filled_cell })) filled_here
        ∙ twice)
      where
        twice : set filled.sections s (record (scn_at old s) { cell = filled_cell })
            ≡ set old.sections s (record (scn_at old s) { cell = filled_cell })
        twice =
            set-set old.sections s
            (record (scn_at old s) { cell = record (scn_at old s).cell { raw = Some f.fills.raw } })
            (record (scn_at old s) { cell = filled_cell })

    filled_count : s < length filled.sections
    unfolding filled
    filled_count =
        let same =
        length-set old.sections s
        (record (scn_at old s) { cell = record (scn_at old s).cell { raw = Some f.fills.raw } }) in
        omega (arith, there, same)

    filled_rest : new ≡ record filled { sections = new.sections }
    unfolding filled
    filled_rest = f.so.rest

    pub filled_otherwise : (size : ℕ) → IsElf image size filled → HoldsOtherwise image filled new s filled_cell
    unfolding section_of raw_of filled_cell
    filled_otherwise size is =
        let count : s < length filled.sections = filled_count in
        let before = cell_at image size filled s is count in
        let known : CellIn filled.header.class filled.header.order filled.base s (record (scn_at old s) { cell = record (scn_at old s).cell { raw = Some f.fills.raw } }) =
        subst (λ (x : Scn). CellIn filled.header.class filled.header.order filled.base s x) filled_here before in
        record {
          there = count;
          rest = filled_rest;
          sections = filled_sections;
          same = subst (λ (x : Scn). section_of image (record x { cell = filled_cell }) ≡ section_of image x) (sym filled_here) (by_image image);
          known = subst (λ (x : Scn). CellIn filled.header.class filled.header.order filled.base s (record x { cell = filled_cell })) (sym filled_here)
              (record { number = known.number; lies = known.lies; empty = known.empty; items = known.items });
        }
      where
        by_image : (i : Option (List ℕ)) → section_of i (record (scn_at old s) { cell = filled_cell }) ≡ section_of i (record (scn_at old s) { cell = record (scn_at old s).cell { raw = Some f.fills.raw } })
        by_image None = refl
        by_image (Some bytes) = refl

-- a call that was not done
same_warmed : (image : Option (List ℕ)) (old new : Body) (s : ℕ) → HoldsSo old new s (scn_at old s).cell → Warmed image old new s
same_warmed image old new s so = record {
  cell = (scn_at old s).cell;
  rest = so.rest;
  sections = so.sections;
  warms = warms_same image (scn_at old s).cell;
  items = λ held. held;
}

same_cell : (old new : Body) (s : ℕ) → HoldsSo old new s (scn_at old s).cell → (scn_at new s).cell ≡ (scn_at old s).cell
unfolding scn_at
same_cell old new s so =
    ap (λ (l : List Scn). (get_or l s absent_scn).cell)
    (so.sections ∙ set-get_or old.sections s absent_scn)

-- want of memory is never answered
pub never_memory : {S : Type 0} (s : ℕ) (state : State S) (r stated : Result (Unit {0}) ElfError) → IfErr r (λ e. e ≡ Read) → Answers true (wanted (calls.raw s) state) r stated → Answers true (reads_home s state) r stated
never_memory s state (Ok x) stated err came = came
never_memory s state (Err e) stated err came =
    subst (λ (d : ElfError). Answers true (reads_home s state) (Err d) stated) (sym err)
    (read_alone (subst (λ (d : ElfError). Answers true (wanted (calls.raw s) state) (Err d) stated) err came))
  where
    read_alone : Answers true (wanted (calls.raw s) state) (Err Read) stated → Answers true (reads_home s state) (Err Read) stated
    read_alone came = came

module _ {S : Type 0} (g : Ghosts S) (source left : S) (old new : Body) (s : ℕ)
    (is : IsElf (g.holds source) (g.size source) old) (there : s < length old.sections) where
  -- as the call that gives the bytes is answered
  load_came : (r : Result (Unit {0}) ElfError) → Answers true (reading (load_due (scn_at old s).cell)) r (answered (home_out (scn_at old s).cell) (tt {0})) → Answers true (loading (load_due (scn_at old s).cell)) r (answered (no_raw_in old s) (tt {0}))
  unfolding no_raw_in
  load_came r came =
      subst (λ (q : Option ElfError). Answers true (loading (load_due (scn_at old s).cell)) r (answered q (tt {0})))
      (sym (ap (λ (q : Option ElfError). first_refusal (q ∷ home_out (scn_at old s).cell ∷ [])) (scn_there old s there) ∙ first_alone (home_out (scn_at old s).cell)))
      (answers_wants true (reading (load_due (scn_at old s).cell)) (loading (load_due (scn_at old s).cell)) r (answered (home_out (scn_at old s).cell) (tt {0})) (λ never. cc) (λ some. some) came)
    where
      first_alone : (q : Option ElfError) → first_refusal (q ∷ []) ≡ q
      first_alone None = refl
      first_alone (Some e) = refl

  pub load_home_answers : (r : Result (Unit {0}) ElfError) → Answers true (reading (load_due (scn_at old s).cell)) r (answered (home_out (scn_at old s).cell) (tt {0})) → IfErr r (λ e. e ≡ Read)
      → Answers true (reads_home s (state_of g source old)) r (answered (raw_refusal (object_of (g.holds source) (g.size source) old) s) (tt {0}))
  load_home_answers r came err =
      never_memory s (state_of g source old) r (answered (raw_refusal (object_of (g.holds source) (g.size source) old) s) (tt {0})) err
      (raw_answers (g.holds source) (g.size source) old s r is (load_came r came))

  pub load_home_loaded : (r : Result (Unit {0}) ElfError) → OnOk r (Fills (g.holds source) old new s) → OnOk r (IsTrue (is_loaded (loaded_of new) s))
  load_home_loaded (Err e) fills = tt
  load_home_loaded (Ok x) f =
      loaded_is new s
      ∙ ap (λ (y : Scn). cell_is_loaded y.cell) (scn_written old new s (record (scn_at old s) { cell = f.cell }) there f.so.sections)
      ∙ ap (λ (c : CellView). cell_is_loaded c) f.fills.cell

  mid_elf : (f : Fills (g.holds source) old new s) → IsElf (g.holds source) (g.size source) (filled (g.holds source) old new s f)
  mid_elf f = warmed_elf (g.holds source) (g.size source) old (filled (g.holds source) old new s f) s (filled_warmed (g.holds source) old new s f) is

  pub load_home_elf : (r : Result (Unit {0}) ElfError) → Leaves g source left → OnOk r (Fills (g.holds source) old new s) → OnErr r (HoldsSo old new s (scn_at old s).cell) → IsElf (g.holds left) (g.size left) new
  load_home_elf (Err e) leaves fills same = warmed_left g source left old new s leaves (same_warmed (g.holds source) old new s same) is
  load_home_elf (Ok x) leaves f same =
      subst (λ (image : Option (List ℕ)). IsElf image (g.size left) new) (sym leaves.same_bytes)
      (subst (λ (size : ℕ). IsElf (g.holds source) size new) (sym leaves.same_len)
      (otherwise_elf (g.holds source) (g.size source) (filled (g.holds source) old new s f) new s (filled_cell (g.holds source) old new s f)
      (filled_otherwise (g.holds source) old new s f there (g.size source) (mid_elf f)) (mid_elf f)))

  scn_other : Fills (g.holds source) old new s → (i : ℕ) → i ≢ s → scn_at new i ≡ scn_at old i
  unfolding scn_at
  scn_other f i other = ap (λ (l : List Scn). get_or l i absent_scn) f.so.sections
      ∙ get_or-set_other old.sections s i (record (scn_at old s) { cell = f.cell }) absent_scn other

  pub load_home_queries : (r : Result (Unit {0}) ElfError) → Answers true (reading (load_due (scn_at old s).cell)) r (answered (home_out (scn_at old s).cell) (tt {0}))
      → OnOk r (Fills (g.holds source) old new s) → OnErr r (HoldsSo old new s (scn_at old s).cell) → Asks g r source left (load_due (scn_at old s).cell)
      → Queries g (calls.raw s) [] r (state_of g source old) (state_of g left new)
  unfolding filled_cell filled loaded_of scn_at
  load_home_queries (Err e) came fills same asks =
      raw_queries g (Err e) source left old new s is (same_warmed (g.holds source) old new s same) (load_came (Err e) came) tt (same_cell old new s same) (ap (λ (c : CellView). c.held) (same_cell old new s same)) asks
  load_home_queries (Ok x) came f same asks =
      let mid = filled (g.holds source) old new s f in
      let cell = filled_cell (g.holds source) old new s f in
      let here = filled_here (g.holds source) old new s f there in
      let h = filled_otherwise (g.holds source) old new s f there (g.size source) (mid_elf f) in
      let q = raw_queries g (Ok x) source left old mid s is (filled_warmed (g.holds source) old new s f) (load_came (Ok x) came)
      (ap (λ (y : Scn). cell_is_loaded y.cell) here) tt (ap (λ (y : Scn). y.cell.held) here) asks in
      let loaded : loaded_of new ≡ loaded_of mid = otherwise_loaded (g.holds source) (g.size source) mid new s cell h ∙ ap (λ (t : Bool). set (loaded_of mid) s t) (sym (ap (λ (y : Scn). cell_is_loaded y.cell) here)) ∙ loaded_same mid s in
      let held : held_of new ≡ held_of mid = otherwise_held (g.holds source) (g.size source) mid new s cell h ∙ ap (λ (t : Bool). set (held_of mid) s t) (sym (ap (λ (y : Scn). is_some y.cell.held) here)) ∙ held_same mid s in
      let object : object_over g left new ≡ object_over g left mid =
      left_same g source left new asks.leaves ∙ otherwise_object (g.holds source) (g.size source) mid new s cell h ∙ sym (left_same g source left mid asks.leaves) in
      record {
        object = object ∙ q.object;
        reads = record {
          source = q.reads.source;
          told = q.reads.told;
          ready = otherwise_ready (g.holds source) (g.size source) mid new s cell h ∙ q.reads.ready;
          loads = λ i out. ap (λ (l : List Bool). is_loaded l i) loaded ∙ q.reads.loads i out;
          stays = λ i before. ap (λ (l : List Bool). is_loaded l i) loaded ∙ q.reads.stays i before;
          holds = λ i out. ap (λ (l : List Bool). is_loaded l i) held ∙ q.reads.holds i out;
          holds_on = λ t p before.
              subst (λ (o : Object). IsTrue (holds_items o (held_of new) t p)) (sym object)
              (subst (λ (l : List Bool). IsTrue (holds_items (object_over g left mid) l t p)) (sym held) (q.reads.holds_on t p before));
          room = λ i unread. rooms i unread;
          first_use = λ settled.
              subst (λ (l : List Bool). g.taken left + homes_due (object_over g source old) l ((calls.raw s).reads (object_over g source old)) ≤ g.taken source + homes_due (object_over g source old) (loaded_of old) ((calls.raw s).reads (object_over g source old)))
              (sym loaded) (q.reads.first_use settled);
        };
      }
    where
      rooms : (i : ℕ) → is_loaded (loaded_of new) i ≡ false → is_loaded (room_of new) i ≡ is_loaded (room_of old) i
      rooms i unread = room_is new i ∙ by_number (i == s) refl ∙ sym (room_is old i)
        where
          by_number : (b : Bool) → (i == s) ≡ b → (scn_at new i).cell.room ≡ (scn_at old i).cell.room
          by_number true e =
              let never : false ≡ true = sym unread ∙ ap (λ (n : ℕ). is_loaded (loaded_of new) n) (eqb-true i s e) ∙ load_home_loaded (Ok x) f in cc
          by_number false e = ap (λ (y : Scn). y.cell.room) (scn_other f i (other_number i s e))

-- ---- By the answer of the cell

pub edits_alone : {S T : Type 0} (r : Result T ElfError) (old new stepped : S) (stated : Result T ElfError) → Edits r old new stated stepped → Edits r (tt {0}) (tt {0}) stated (tt {0})
edits_alone (Ok x) old new stepped stated came = (came.0, refl)
edits_alone (Err Memory) old new stepped stated came = (came.0, refl)
edits_alone (Err e) old new stepped stated came = (came.0, refl)

edits_same : {S T : Type 0} (e : ElfError) (old new stepped : S) (stated : Result T ElfError) → Edits (Err e) old new stated stepped → new ≡ old
edits_same Memory old new stepped stated came = came.1
edits_same e old new stepped stated came = came.1

module _ (r : Result (Unit {0}) ElfError) (old new : Body) (s : ℕ) (x : Scn) (cell : CellView) (stated : Result (Unit {0}) ElfError) (read : x ≡ scn_at old s) (rest : new ≡ record old { sections = new.sections })
    (is : new.sections ≡ set old.sections s (record x { cell = cell })) where
  pub reserved_ok : Edits r x.cell cell stated (with_room x.cell) → OnOk r (HoldsSo old new s (with_room (scn_at old s).cell))
  reserved_ok = by_answer r
    where
      by_answer : (q : Result (Unit {0}) ElfError) → Edits q x.cell cell stated (with_room x.cell) → OnOk q (HoldsSo old new s (with_room (scn_at old s).cell))
      by_answer (Ok v) came = so_is old new s cell (with_room (scn_at old s).cell) (came.1 ∙ ap (λ (y : Scn). with_room y.cell) read) (so_by old new s x cell read rest is)
      by_answer (Err e) came = tt

pub reserved_same : (r : Result (Unit {0}) ElfError) (old new : Body) (s : ℕ) (x : Scn) (cell stepped : CellView) (stated : Result (Unit {0}) ElfError) → x ≡ scn_at old s → new ≡ record old { sections = new.sections }
    → new.sections ≡ set old.sections s (record x { cell = cell })
    → Edits r x.cell cell stated stepped → OnErr r (HoldsSo old new s (scn_at old s).cell)
reserved_same (Ok v) old new s x cell stepped stated read rest is came = tt
reserved_same (Err e) old new s x cell stepped stated read rest is came =
    so_is old new s cell (scn_at old s).cell (edits_same e x.cell cell stepped stated came ∙ ap (λ (y : Scn). y.cell) read) (so_by old new s x cell read rest is)

pub filled_by : (r : Result (Unit {0}) ElfError) (image : Option (List ℕ)) (old new : Body) (s : ℕ) (x : Scn) (cell : CellView) → x ≡ scn_at old s → new ≡ record old { sections = new.sections }
    → new.sections ≡ set old.sections s (record x { cell = cell })
    → OnOk r (FillsRoom image x.cell cell) → OnOk r (Fills image old new s)
filled_by (Ok v) image old new s x cell read rest is fills = record {
  cell = cell;
  so = so_by old new s x cell read rest is;
  fills = subst (λ (y : Scn). FillsRoom image y.cell cell) read fills;
}
filled_by (Err e) image old new s x cell read rest is fills = tt

pub unfilled_by : (r : Result (Unit {0}) ElfError) (old new : Body) (s : ℕ) (x : Scn) (cell : CellView) → x ≡ scn_at old s → new ≡ record old { sections = new.sections }
    → new.sections ≡ set old.sections s (record x { cell = cell }) → OnErr r (cell ≡ x.cell)
    → OnErr r (HoldsSo old new s (scn_at old s).cell)
unfilled_by (Ok v) old new s x cell read rest is same = tt
unfilled_by (Err e) old new s x cell read rest is same = so_is old new s cell (scn_at old s).cell (same ∙ ap (λ (y : Scn). y.cell) read) (so_by old new s x cell read rest is)

pub only_read : (r : Result (Unit {0}) ElfError) (due : ℕ) → IfErr r (λ e. (e ≡ Read) × (0 < due)) → IfErr r (λ e. e ≡ Read)
only_read (Ok x) due err = tt
only_read (Err e) due err = err.0

-- ---- Behind the section's own refusal

pub first_then : (first later : Option ElfError) (r : Result (Unit {0}) ElfError) (x : Unit {0}) → Ok x ≡ answered first (tt {0}) → Edits r (tt {0}) (tt {0}) (answered later (tt {0})) (tt {0})
    → Edits r (tt {0}) (tt {0}) (answered (first_refusal (first ∷ later ∷ [])) (tt {0})) (tt {0})
first_then None None r x passed came = came
first_then None (Some e) r x passed came = came
first_then (Some e) later r x passed came = cc

pub refused_first : (first later : Option ElfError) (e : ElfError) → IsRefusal e → Err e ≡ answered first (tt {0})
    → Edits (Err e) (tt {0}) (tt {0}) (answered (first_refusal (first ∷ later ∷ [])) (tt {0})) (tt {0})
refused_first None later e is met = cc
refused_first (Some d) later e is met = refused_alone {A = Unit {0}} (Some d) (tt {0}) (tt {0}) e is met
