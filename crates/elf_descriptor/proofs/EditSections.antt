-- Sections that are added: the object, what is held, and what is true of each descriptor.
use Rattle.std.proofs.Common.{◌≡◌, ◌≢◌, ℕ, ◌+◌, ◌-◌, Bool, true, false, List, [], ◌∷◌, ◌++◌, length, get_or, map, Option, Some, None, Result, Ok, Err, refl, sym, ap, ◌∙◌, subst, arith}
use Rattle.std.specs.Prelude.{slice_get, nat_lt, nat_le, ◌==◌, is_some, OnOk, OnErr, IfOk, IfErr, if◌then◌else◌}
use Rattle.std.specs.List.{range_with_len}
use Rattle.std.proofs.Math.ListN.{replicate, get_or-eq_default}
use Rattle.std.proofs.Math.Seq.{get_or-append_right}
use Rattle.std.proofs.lemmas.Bool.{ltb-true, ltb-false, ne_eqb, eqb-true, eqb-false}
use Rattle.std.proofs.lemmas.List.{length-map, length-append, length-replicate, map-append, get_or_append_left, get_or-append-add, get_or-replicate}
use Rattle.std.proofs.lemmas.List.FromFn.{length-range_with_len, get_or-map-range_with_len, length-map-range_with_len, map-range_with_len_more}
use Rattle.std.proofs.lemmas.Option.{get_or_from_slice_get, slice_get_within, unwrap_or-slice_get}
use Rattle.elf_types.specs.declared.records.Class.{Class}
use Rattle.elf_types.specs.declared.records.Order.{Order}
use Rattle.elf_types.specs.declared.constants.TheConstants.{MAX_SECTIONS}
use Rattle.elf_types.specs.declared.errors.ElfError.{ElfError}
use Rattle.elf_types.specs.declared.errors.ElfError.TheVariants.{Memory, TooMany}
use Rattle.elf_types.specs.Answers.{answered, refused_if, IsRefusal}
use Rattle.section_table.specs.elf_outside.declared.sources.Source.{Ghosts}
use Rattle.section_table.specs.elf_object.Object.{Object, Section, new_section}
use Rattle.section_table.specs.elf_object.Open.{home_bytes}
use Rattle.section_table.specs.elf_object.Due.{is_loaded}
use Rattle.section_table.specs.elf_object.Steps.{with_sections, with_new_section, new_number, with_null_section}
use Rattle.section_table.specs.elf_object.Calls.{Call, newscn_refusal}
use Rattle.section_table.specs.elf_object.Calls as calls
use Rattle.section_table.specs.elf_object.Words.{Edits, result_map}
use Rattle.section_table.specs.elf_object.Valid.{KeepsObject, KeepsTied}
use Rattle.law_object.specs.Writing.Based.{KeepsBased}
use Rattle.section_table.specs.section_data.Held.{cell_is_loaded}
use Rattle.section_table.specs.Sections.{SectionView as Scn, absent_scn, new_scn}
use Rattle.elf_descriptor.specs.declared.body.Body.{Body}
use Rattle.elf_descriptor.specs.State.{State}
use Rattle.elf_descriptor.specs.Views.{object_of, section_of, raw_of, loaded_of, held_of, state_of, scn_at, HasCounts, ready_of, room_of, has_mark}
use Rattle.elf_descriptor.specs.Sound.{IsElf, IsSound, CellIn}
use Rattle.elf_descriptor.specs.Edits.{IsStepped, IsGrown, new_scns, with_added, with_none, grown, nulled}
use Rattle.elf_descriptor.proofs.Objects.{section_count_is}
use Rattle.elf_descriptor.proofs.Warming.{cell_at, part_within, cell_moved, standing_moved}
use Rattle.elf_descriptor.proofs.EditLaws.{has_counts, step_sound, same_elf, state_stepped}
use Rattle.elf_descriptor.proofs.EditGrows.{edits_left, refused_alone, done_alone}
use Rattle.elf_descriptor.specs.declared.body.Base.{Base}

-- ---- New sections

new_section_is : (image : Option (List ℕ)) (n : ℕ) → section_of image (new_scn n) ≡ new_section
unfolding section_of raw_of home_bytes
new_section_is None n = refl
new_section_is (Some image) n = refl

new_sections_are : (image : Option (List ℕ)) (l : List ℕ) → map (section_of image) (map new_scn l) ≡ replicate (length l) new_section
new_sections_are image [] = refl
new_sections_are image (n ∷ l) =
    ap (λ (c : Section). c ∷ map (section_of image) (map new_scn l)) (new_section_is image n) ∙ ap (λ (t : List Section). new_section ∷ t) (new_sections_are image l)

sections_are : (image : Option (List ℕ)) (first count : ℕ) → map (section_of image) (new_scns first count) ≡ replicate count new_section
unfolding new_scns
sections_are image first count = new_sections_are image (range_with_len first count) ∙ ap (λ (k : ℕ). replicate k new_section) (length-range_with_len first count)

pub new_count : (first count : ℕ) → length (new_scns first count) ≡ count
unfolding new_scns
new_count first count = length-map-range_with_len new_scn first count

pub none_new : (scns : List Scn) → scns ≡ [] → scns ≡ new_scns 0 0
unfolding new_scns
none_new scns none = none

pub one_new : (i : ℕ) (old new : List Scn) (x : Scn) → old ≡ new_scns 0 i → x ≡ new_scn i → new ≡ old ++ x ∷ [] → new ≡ new_scns 0 (i + 1)
unfolding new_scns
one_new i old new x before is more =
    more ∙ ap (λ (l : List Scn). l ++ x ∷ []) before ∙ ap (λ (y : Scn). map new_scn (range_with_len 0 i) ++ y ∷ []) is ∙ sym (map-range_with_len_more new_scn 0 i i (omega arith))

-- ---- The object

pub scns_added : (old new : Body) (count n : ℕ) → n ≡ length new.sections
    → new
    ≡ record old
    { header = record old.header { shnum = n }; sections = new.sections; ready = false }
    → new.sections ≡ old.sections ++ new_scns (length old.sections) count
    → IsGrown (with_added count) old new
unfolding object_of
scns_added old new count n count_is rest is = record {
  count = count;
  object = λ image size.
      let before : List Section = map (section_of image) old.sections in
      let with_parts : ℕ → List Section → Object = λ k l. record (object_of image size old) { header = record old.header { shnum = k }; sections = l } in
      let sections : map (section_of image) new.sections ≡ before ++ replicate count new_section =
      ap (λ (l : List Scn). map (section_of image) l) is
      ∙ map-append (section_of image) old.sections (new_scns (length old.sections) count)
      ∙ ap (λ (l : List Section). before ++ l) (sections_are image (length old.sections) count) in
      ap (λ (b : Body). object_of image size b) rest
      ∙ ap (λ (l : List Section). with_parts n l) sections
      ∙ ap (λ (k : ℕ). with_parts k (before ++ replicate count new_section))
      (count_is ∙ sym (length-map new.sections (section_of image)) ∙ ap length sections);
  sections = is;
  class = ap (λ (b : Body). b.header.class) rest;
  order = ap (λ (b : Body). b.header.order) rest;
  base = ap (λ (b : Body). b.base) rest;
  written = ap (λ (b : Body). b.written) rest;
  marks = λ h. ap has_mark (sym rest) ∙ h;
  ready = ap ready_of rest;
}

nothing_there : (l : List Scn) → length l ≡ 0 → l ≡ []
nothing_there [] none = refl
nothing_there (x ∷ l) none = cc

pub sections_begun : (old : Body) (sections : List Scn) (count : ℕ) → length old.sections ≡ 0
    → sections ≡ new_scns 0 count
    → IsGrown (with_added count) old (record old { header = record old.header { shnum = count }; sections = sections; ready = false })
sections_begun old sections count none made =
    scns_added old (record old { header = record old.header { shnum = count }; sections = sections; ready = false }) count count (sym (ap length made ∙ new_count 0 count)) refl
    (made
    ∙ ap (λ (l : List Scn). l ++ new_scns (length l) count) (sym (nothing_there old.sections none)))

pub section_pushed : (old : Body) (sections : List Scn) (scn : Scn) → HasCounts old
    → scn ≡ new_scn (length old.sections) → sections ≡ old.sections ++ scn ∷ []
    → IsGrown (with_added 1) old (record old { header = record old.header { shnum = old.header.shnum + 1 }; sections = sections; ready = false })
unfolding new_scns
section_pushed old sections scn has made items =
    let long = ap length items ∙ length-append old.sections (scn ∷ []) in
    let count = has.shnum in
    scns_added old (record old { header = record old.header { shnum = old.header.shnum + 1 }; sections = sections; ready = false }) 1 (old.header.shnum + 1) (omega (arith, long, count)) refl
    (items ∙ ap (λ (x : Scn). old.sections ++ x ∷ []) made)

-- ---- The first sections, and one more

module _ (image : Option (List ℕ)) (size : ℕ) (b : Body) where
  abbrev is_empty : Bool
  is_empty = length (object_of image size b).sections == 0

  counted : is_empty ≡ (length b.sections == 0)
  counted = ap (λ (n : ℕ). n == 0) (section_count_is image size b)

  pub first_value : (n : ℕ) → length b.sections ≡ 0 → n ≡ 1
      → n ≡ new_number (object_of image size b)
  first_value n none is = rw (section_count_is image size b, none) is

  pub next_value : (n : ℕ) → length b.sections ≢ 0 → n ≡ length b.sections
      → n ≡ new_number (object_of image size b)
  next_value n some is = rw (section_count_is image size b, ne_eqb (length b.sections) 0 some) is

pub first_grown : (old new : Body) → length old.sections ≡ 0 → IsGrown (with_added 2) old new
    → IsGrown with_new_section old new
unfolding with_new_section
first_grown old new none step = record {
  count = step.count;
  object = λ image size. step.object image size ∙ ap (λ (t : Bool). grown_by image size t) (sym (counted image size old ∙ ap (λ (n : ℕ). n == 0) none));
  sections = step.sections;
  class = step.class;
  order = step.order;
  base = step.base;
  written = step.written;
  marks = step.marks;
  ready = step.ready;
}
  where
    grown_by : Option (List ℕ) → ℕ → Bool → Object
    grown_by image size t = let o = object_of image size old in with_sections o (o.sections ++ (if t then new_section ∷ new_section ∷ [] else new_section ∷ []))

pub next_grown : (old new : Body) → length old.sections ≢ 0 → IsGrown (with_added 1) old new
    → IsGrown with_new_section old new
unfolding with_new_section
next_grown old new some step = record {
  count = step.count;
  object = λ image size. step.object image size
      ∙ ap (λ (t : Bool). grown_by image size t)
      (sym (counted image size old ∙ ne_eqb (length old.sections) 0 some));
  sections = step.sections;
  class = step.class;
  order = step.order;
  base = step.base;
  written = step.written;
  marks = step.marks;
  ready = step.ready;
}
  where
    grown_by : Option (List ℕ) → ℕ → Bool → Object
    grown_by image size t = let o = object_of image size old in with_sections o (o.sections ++ (if t then new_section ∷ new_section ∷ [] else new_section ∷ []))

pub ruleset first_or_next = (first_value, first_grown, next_value, next_grown)

module _ (image : Option (List ℕ)) (size : ℕ) (b : Body) where
  refused_is : newscn_refusal (object_of image size b)
      ≡ refused_if (nat_le MAX_SECTIONS (length b.sections)) TooMany
  refused_is = ap (λ (n : ℕ). refused_if (nat_le MAX_SECTIONS n) TooMany) (section_count_is image size b)

  pub newscn_refused : (e : ElfError) → IsRefusal e
      → Err e ≡ answered (refused_if (nat_le MAX_SECTIONS (length b.sections)) TooMany) (tt {0})
      → Edits (Err e) (tt {0}) (tt {0}) (answered (newscn_refusal (object_of image size b)) (new_number (object_of image size b))) (tt {0})
  newscn_refused e is met =
      refused_alone {A = ℕ} (newscn_refusal (object_of image size b)) (tt {0}) (new_number (object_of image size b)) e is
      (met ∙ ap (λ (r : Option ElfError). answered r (tt {0})) (sym refused_is))

  pub newscn_made : (r : Result ℕ ElfError) (x : Unit {0})
      → Ok x ≡ answered (refused_if (nat_le MAX_SECTIONS (length b.sections)) TooMany) (tt {0})
      → IfOk r (λ s. s ≡ new_number (object_of image size b)) → IfErr r (λ e. e ≡ Memory)
      → Edits r (tt {0}) (tt {0}) (answered (newscn_refusal (object_of image size b)) (new_number (object_of image size b))) (tt {0})
  newscn_made r x passed value memory =
      done_alone (newscn_refusal (object_of image size b)) (tt {0}) x (new_number (object_of image size b)) r
      (passed ∙ ap (λ (t : Option ElfError). answered t (tt {0})) (sym refused_is)) value memory

-- ---- What is true of each descriptor

new_cell_in : (class : Class) (order : Order) (base : Base) (i : ℕ) → CellIn class order base i (new_scn i)
new_cell_in class order base i = record { number = refl; lies = λ unread inside some. absurd (omega (arith, some)); empty = λ none. refl; items = tt }

cells_grown : (after : Object → Object) (image : Option (List ℕ)) (size : ℕ) (old new : Body) → IsGrown after old new → IsElf image size old
    → (i : ℕ) (s : Scn) → slice_get new.sections i ≡ Some s
    → CellIn old.header.class old.header.order old.base i s
unfolding scn_at new_scns
cells_grown after image size old new step is i s found =
    by_range (nat_lt i (length old.sections)) refl
  where
    first : ℕ
    first = length old.sections

    at : get_or (old.sections ++ new_scns first step.count) i absent_scn ≡ s
    at = ap (λ (l : List Scn). get_or l i absent_scn) (sym step.sections)
        ∙ get_or_from_slice_get new.sections i s absent_scn found

    by_range : (t : Bool) → nat_lt i first ≡ t → CellIn old.header.class old.header.order old.base i s
    by_range true e =
        let there = ltb-true i first e in
        subst (λ (x : Scn). CellIn old.header.class old.header.order old.base i x)
        (sym (get_or_append_left old.sections (new_scns first step.count) absent_scn i there) ∙ at)
        (cell_at image size old i is there)
    by_range false e =
        let past = ltb-false i first e in
        let within = slice_get_within new.sections i s found in
        let total = ap length step.sections
        ∙ length-append old.sections (new_scns first step.count) in
        let more = new_count first step.count in
        let split : first + (i - first) ≡ i = omega (arith, past) in
        let value : get_or (new_scns first step.count) (i - first) absent_scn ≡ new_scn i =
        get_or-map-range_with_len new_scn first step.count (i - first) i absent_scn (omega (arith, past, within, total, more)) split in
        subst (λ (x : Scn). CellIn old.header.class old.header.order old.base i x)
        (sym value
        ∙ sym (get_or-append-add old.sections (new_scns first step.count) (i - first) absent_scn)
        ∙ ap (λ (k : ℕ). get_or (old.sections ++ new_scns first step.count) k absent_scn) split
        ∙ at)
        (new_cell_in old.header.class old.header.order old.base i)

grown_elf : {A : Type 0} (c : Call A) (image : Option (List ℕ)) (size : ℕ) (x : A) (old new : Body) → KeepsObject c → KeepsTied c → KeepsBased c
    → c.answer (object_of image size old) ≡ Ok x → IsGrown c.after old new → IsElf image size old → IsElf image size new
grown_elf c image size x old new keeps ties bases answer step is =
    let sound : IsSound image (object_of image size new) = subst (λ (p : Object). IsSound image p) (sym (step.object image size)) (step_sound c image (object_of image size old) x keeps ties bases answer is.sound) in
    record {
      long = is.long;
      within = part_within old new size step.base is.within;
      whole = λ h. step.base ∙ is.whole (step.marks h);
      counts = has_counts image size new sound.object;
      cells = λ i s found. cell_moved old new step.class step.order step.base i s (cells_grown c.after image size old new step is i s found);
      written = standing_moved old new step.class step.order step.written is.written;
      sound = sound;
    }

-- sections that are added keep what is true of each descriptor
pub grown_by : {A D E : Type 0} (c : Call A) (view : D → A) (image : Option (List ℕ)) (size : ℕ) (r : Result D E) (old new : Body) → KeepsObject c → KeepsTied c → KeepsBased c
    → IfOk r (λ x. c.answer (object_of image size old) ≡ Ok (view x)) → OnOk r (IsGrown c.after old new) → OnErr r (IsStepped (λ o. o) (ready_of old) old new) → IsElf image size old → IsElf image size new
grown_by c view image size (Ok x) old new keeps ties bases answer step same is = grown_elf c image size (view x) old new keeps ties bases answer step is
grown_by c view image size (Err e) old new keeps ties bases answer step same is = same_elf image size (ready_of old) old new same is

-- ---- Section 0 alone

no_sections : (l : List Section) → length l ≡ 0 → l ≡ []
no_sections [] none = refl
no_sections (x ∷ l) none = cc

-- where there are no sections, one more is section 0
null_grown : (old new : Body) → length old.sections ≡ 0 → IsGrown (with_added 1) old new
    → IsGrown calls.newnull.after old new
unfolding with_null_section
null_grown old new none step = record {
  count = step.count;
  object = λ image size.
      step.object image size
      ∙ ap (λ (l : List Section). with_sections (object_of image size old) (l ++ new_section ∷ [])) (no_sections (object_of image size old).sections (section_count_is image size old ∙ none))
      ∙ ap (λ (t : Bool). if t then with_sections (object_of image size old) (new_section ∷ []) else object_of image size old) (sym (counted image size old ∙ ap (λ (n : ℕ). n == 0) none));
  sections = step.sections;
  class = step.class;
  order = step.order;
  base = step.base;
  written = step.written;
  marks = step.marks;
  ready = step.ready;
}

-- what a step that adds section 0 where there is none leaves
abbrev IsNulled : Result (Unit {0}) ElfError → Body → Body → Type 0
IsNulled r old new = (length old.sections ≡ 0 → OnOk r (IsGrown (with_added 1) old new))
    × (length old.sections ≢ 0 → new ≡ old) × OnErr r (new ≡ old)

null_elf_in : (image : Option (List ℕ)) (size : ℕ) (r : Result (Unit {0}) ElfError) (old new : Body)
    (t : Bool) → (length old.sections == 0) ≡ t → KeepsObject calls.newnull
    → KeepsTied calls.newnull → KeepsBased calls.newnull
    → IsNulled r old new → IsElf image size old → IsElf image size new
null_elf_in image size (Ok x) old new true none keeps ties bases step is =
    let empty = eqb-true (length old.sections) 0 none in
    grown_elf calls.newnull image size (tt {0}) old new keeps ties bases refl (null_grown old new empty (step.0 empty)) is
null_elf_in image size (Ok x) old new false some keeps ties bases step is =
    subst (λ (b : Body). IsElf image size b) (sym (step.1 (eqb-false (length old.sections) 0 some)))
    is
null_elf_in image size (Err e) old new t empty keeps ties bases step is = subst (λ (b : Body). IsElf image size b) (sym step.2) is

pub null_elf : (image : Option (List ℕ)) (size : ℕ) (r : Result (Unit {0}) ElfError) (old new : Body) → KeepsObject calls.newnull → KeepsTied calls.newnull → KeepsBased calls.newnull
    → IsNulled r old new → IsElf image size old → IsElf image size new
null_elf image size r old new keeps ties bases step is =
    null_elf_in image size r old new (length old.sections == 0) refl keeps ties bases step is

-- ---- The state

none_of : (f : Scn → Bool) → ((n : ℕ) → f (new_scn n) ≡ false) → (l : List ℕ) → map f (map new_scn l) ≡ replicate (length l) false
none_of f none [] = refl
none_of f none (n ∷ l) = ap (λ (b : Bool). b ∷ map f (map new_scn l)) (none n) ∙ ap (λ (t : List Bool). false ∷ t) (none_of f none l)

marks_grown : (f : Scn → Bool) → ((n : ℕ) → f (new_scn n) ≡ false)
    → (old new : Body) (count total : ℕ)
    → new.sections ≡ old.sections ++ new_scns (length old.sections) count
    → total ≡ length new.sections → map f new.sections ≡ with_none total (map f old.sections)
unfolding new_scns
marks_grown f none old new count total is total_is =
    let first : ℕ = length old.sections in
    let more = length-map-range_with_len new_scn first count in
    let long = ap length is
    ∙ length-append old.sections (map new_scn (range_with_len first count)) in
    let kept = length-map old.sections f in
    let counted : length (range_with_len first count) ≡ total - length (map f old.sections) =
    omega (arith, length-range_with_len first count, more, long, kept, total_is) in
    ap (λ (l : List Scn). map f l) is
    ∙ map-append f old.sections (map new_scn (range_with_len first count))
    ∙ ap (λ (l : List Bool). map f old.sections ++ l)
    (none_of f none (range_with_len first count) ∙ ap (λ (k : ℕ). replicate k false) counted)

module _ {S : Type 0} (g : Ghosts S) (source : S) where
  abbrev state_with : Object → List Bool → List Bool → List Bool → Bool → State S
  state_with o loaded held room ready =
      record { o = o; told = is_some (g.holds source); loaded = loaded; held = held; room = room; ready = ready; source = source }

  state_grown : {A : Type 0} (c : Call A) (old new : Body) → IsGrown c.after old new → state_of g source new ≡ grown c (state_of g source old)
  unfolding loaded_of held_of room_of
  state_grown c old new step =
      let o = c.after (object_of (g.holds source) (g.size source) old) in
      let total : length o.sections ≡ length new.sections =
      ap (λ (p : Object). length p.sections) (sym (step.object (g.holds source) (g.size source))) ∙ section_count_is (g.holds source) (g.size source) new in
      let loaded = marks_grown (λ s. cell_is_loaded s.cell) (λ n. refl) old new step.count (length o.sections) step.sections total in
      let held = marks_grown (λ s. is_some s.cell.held) (λ n. refl) old new step.count (length o.sections) step.sections total in
      let room = marks_grown (λ s. s.cell.room) (λ n. refl) old new step.count (length o.sections) step.sections total in
      ap (λ (p : Object). state_with p (loaded_of new) (held_of new) (room_of new) (ready_of new)) (step.object (g.holds source) (g.size source))
      ∙ ap (λ (l : List Bool). state_with o l (held_of new) (room_of new) (ready_of new)) loaded
      ∙ ap (λ (l : List Bool). state_with o (with_none (length o.sections) (loaded_of old)) l (room_of new) (ready_of new)) held
      ∙ ap (λ (l : List Bool). state_with o (with_none (length o.sections) (loaded_of old)) (with_none (length o.sections) (held_of old)) l (ready_of new)) room
      ∙ ap (λ (b : Bool). state_with o (with_none (length o.sections) (loaded_of old)) (with_none (length o.sections) (held_of old)) (with_none (length o.sections) (room_of old)) b) step.ready

  pub grows_to : {A D : Type 0} (c : Call A) (view : D → A) (r : Result D ElfError) (old new : Body) → Edits (result_map view r) (tt {0}) (tt {0}) (c.answer (object_of (g.holds source) (g.size source) old)) (tt {0})
      → OnOk r (IsGrown c.after old new) → OnErr r (IsStepped (λ o. o) (ready_of old) old new)
      → Edits (result_map view r) (state_of g source old) (state_of g source new) (c.answer (state_of g source old).o) (grown c (state_of g source old))
  grows_to c view (Ok x) old new is step same = (is.0, state_grown c old new step)
  grows_to c view (Err e) old new is step same =
      edits_left e (state_of g source old) (state_of g source new) (grown c (state_of g source old)) (c.answer (state_of g source old).o) is (state_stepped g source (λ o. o) (ready_of old) old new same)

  abbrev null_of : Bool → Body → State S
  null_of t old = if t then grown calls.newnull (state_of g source old) else state_of g source old

  null_is : (old : Body) → null_of (length old.sections == 0) old ≡ nulled (state_of g source old)
  null_is old = ap (λ (t : Bool). if t then grown calls.newnull (state_of g source old) else state_of g source old) (sym (counted (g.holds source) (g.size source) old))

  state_nulled : (old new : Body) (t : Bool) → (length old.sections == 0) ≡ t
      → IsNulled (Ok (tt {0})) old new → state_of g source new ≡ null_of t old
  state_nulled old new true none step =
      let empty = eqb-true (length old.sections) 0 none in
      state_grown calls.newnull old new (null_grown old new empty (step.0 empty))
  state_nulled old new false some step =
      ap (λ (b : Body). state_of g source b) (step.1 (eqb-false (length old.sections) 0 some))

  pub nulls_to : (r : Result (Unit {0}) ElfError) (old new : Body) → IfErr r (λ e. e ≡ Memory) → IsNulled r old new
      → Edits r (state_of g source old) (state_of g source new) (calls.newnull.answer (state_of g source old).o) (nulled (state_of g source old))
  nulls_to (Ok x) old new memory step =
      (refl, state_nulled old new (length old.sections == 0) refl step ∙ null_is old)
  nulls_to (Err e) old new memory step =
      subst (λ (d : ElfError). Edits (Err d) (state_of g source old) (state_of g source new) (calls.newnull.answer (state_of g source old).o) (nulled (state_of g source old))) (sym memory)
      (refl, ap (λ (b : Body). state_of g source b) step.2)

  pub nulls_where : (r : Result (Unit {0}) ElfError) (old : Body)
      → OnErr r (length old.sections ≡ 0) → OnErr r (length (state_of g source old).o.sections ≡ 0)
  nulls_where (Ok x) old none = tt
  nulls_where (Err e) old none = section_count_is (g.holds source) (g.size source) old ∙ none

-- an Ok is stated, as a view of it
pub viewed_stated : {A D : Type 0} (view : D → A) (r : Result D ElfError) (stated : Result A ElfError) → Edits (result_map view r) (tt {0}) (tt {0}) stated (tt {0}) → IfOk r (λ x. stated ≡ Ok (view x))
viewed_stated view (Ok x) stated is = is.0
viewed_stated view (Err e) stated is = tt

-- a section that is added is not loaded, and of its home no items are held
falses : (n i : ℕ) → get_or (replicate n false) i false ≡ false
falses n i = by_range (nat_lt i n) refl
  where
    by_range : (t : Bool) → nat_lt i n ≡ t → get_or (replicate n false) i false ≡ false
    by_range true e = get_or-replicate n i false false (ltb-true i n e)
    by_range false e =
        let past = ltb-false i n e in
        get_or-eq_default (replicate n false) false (omega (arith, past, length-replicate n false))

none_after : (l : List Bool) (k i : ℕ) (t : Bool) → nat_lt i (length l) ≡ t → get_or (l ++ replicate k false) i false ≡ get_or l i false
none_after l k i true e = get_or_append_left l (replicate k false) false i (ltb-true i (length l) e)
none_after l k i false e =
    let past = ltb-false i (length l) e in
    get_or-append_right l (replicate k false) i false past ∙ falses k (i - length l) ∙ sym (get_or-eq_default l false past)

pub none_more : (l : List Bool) (n i : ℕ) → is_loaded (with_none n l) i ≡ is_loaded l i
unfolding is_loaded
none_more l n i =
    unwrap_or-slice_get (with_none n l) i false ∙ none_after l (n - length l) i (nat_lt i (length l)) refl ∙ sym (unwrap_or-slice_get l i false)
