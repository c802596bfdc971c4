-- A section's data is read and translated: the object stays, and the descriptor stays sound.
use Rattle.std.proofs.Common.{◌≡◌, ◌≢◌, ℕ, ◌<◌, ◌≤◌, Bool, true, false, List, length, get_or, set, map, Option, Some, None, refl, sym, ap, ◌∙◌, subst, arith}
use Rattle.std.specs.Prelude.{IfSome, is_some, nat_lt, ◌==◌, ◌&&◌}
use Rattle.std.specs.Option.{option_and_then}
use Rattle.std.proofs.lemmas.Bool.{ltb-true, ltb-false, eqb-true, eq-eqb}
use Rattle.std.proofs.lemmas.List.{length-set, get_or-set_same, get_or-set_other, set-get_or, set_past, get_or_past}
use Rattle.std.proofs.lemmas.Option.{get_or_from_slice_get, slice_get-get_or, slice_get_within}
use Rattle.std.proofs.Math.Seq.{map-set_same}
use Rattle.elf_types.specs.declared.records.Class.{Class}
use Rattle.elf_types.specs.declared.records.Order.{Order}
use Rattle.section_table.specs.elf_xlate.declared.content.Items.{Items}
use Rattle.section_table.specs.elf_xlate.Translation.{decoded}
use Rattle.section_table.specs.elf_outside.declared.sources.Source.{Ghosts}
use Rattle.section_table.specs.elf_outside.Asks.{Leaves}
use Rattle.section_table.specs.elf_object.Object.{Section, Home}
use Rattle.section_table.specs.elf_object.Open.{home_bytes}
use Rattle.section_table.specs.section_data.Views.{CellView}
use Rattle.section_table.specs.section_data.Held.{HeldIs}
use Rattle.section_table.specs.section_data.Leaves.{Warms, RawBecomes, LiesIn}
use Rattle.section_table.proofs.section_data.Loading.{warms_same}
use Rattle.section_table.specs.Sections.{SectionView as Scn, section_in, AreNumbered, absent_scn}
use Rattle.elf_descriptor.specs.declared.body.Body.{Body}
use Rattle.elf_descriptor.specs.Views.{object_of, section_of, raw_of, bytes_or, scn_at, HasCounts, ready_of, is_of_source, has_lengths, has_mark}
use Rattle.elf_descriptor.specs.Warmed.{Warmed}
use Rattle.elf_descriptor.specs.Sound.{IsElf, IsSound, CellIn, source_part, IsStanding}
use Rattle.elf_descriptor.specs.declared.body.Base.{Base}
use Rattle.elf_descriptor.specs.declared.body.Written.{Written}

-- ---- The data of one section

raw_same : (image : List ℕ) (home : Home) (before after : Option (List ℕ)) → RawBecomes (Some image) home before after
    → bytes_or after (home_bytes home image) ≡ bytes_or before (home_bytes home image)
raw_same image home (Some bytes) after becomes = ap (λ (r : Option (List ℕ)). bytes_or r (home_bytes home image)) becomes
raw_same image home None None becomes = refl
raw_same image home None (Some bytes) becomes = becomes.1

warm_raw : (image : Option (List ℕ)) (c : CellView) (raw : Option (List ℕ)) (held : Option Items) → RawBecomes image c.home c.raw raw
    → raw_of image (record c { raw = raw; held = held }) ≡ raw_of image c
unfolding raw_of
warm_raw None c raw held becomes = refl
warm_raw (Some image) c raw held becomes = raw_same image c.home c.raw raw becomes

-- the section stays
pub warms_section : (image : Option (List ℕ)) (x : Scn) (cell : CellView) → Warms image x.cell cell → section_of image (record x { cell = cell }) ≡ section_of image x
unfolding section_of
warms_section image x cell warms =
    ap (λ (c : CellView). section_of image (record x { cell = c })) warms.cell
    ∙ ap (λ (l : List ℕ). record (section_of image x) { raw = l }) (warm_raw image x.cell warms.raw warms.held warms.bytes)

pub unread_before : (image : Option (List ℕ)) (home : Home) (before after : Option (List ℕ)) → RawBecomes image home before after → is_some after ≡ false → is_some before ≡ false
unread_before image home None after becomes unread = refl
unread_before image home (Some bytes) after becomes unread = let there = ap (λ (r : Option (List ℕ)). is_some r) becomes in cc

warm_lies : (image : Option (List ℕ)) (size : ℕ) (c cell : CellView) → Warms image c cell → LiesIn c size → LiesIn cell size
warm_lies image size c cell warms lies =
    subst (λ (n : CellView). LiesIn n size) (sym warms.cell) (λ unread inside some. lies (unread_before image c.home c.raw warms.raw warms.bytes unread) inside some)

warm_cell : (image : Option (List ℕ)) (class : Class) (order : Order) (base : Base) (i : ℕ) (x : Scn) (cell : CellView) → Warms image x.cell cell → HeldIs class order cell
    → CellIn class order base i x → CellIn class order base i (record x { cell = cell })
warm_cell image class order base i x cell warms held is = record {
  number = ap (λ (c : CellView). c.section) warms.cell ∙ is.number;
  lies = warm_lies image (source_part base) x.cell cell warms is.lies;
  empty = λ none. ap (λ (c : CellView). c.home.len) warms.cell ∙ is.empty none;
  items = held;
}

-- ---- What is known of a section's data rests on class, order and base alone

pub cell_moved : (old new : Body) → new.header.class ≡ old.header.class → new.header.order ≡ old.header.order → new.base ≡ old.base → (i : ℕ) (s : Scn)
    → CellIn old.header.class old.header.order old.base i s → CellIn new.header.class new.header.order new.base i s
cell_moved old new class order base i s is =
    subst (λ (c : Class). CellIn c new.header.order new.base i s) (sym class)
    (subst (λ (o : Order). CellIn old.header.class o new.base i s) (sym order)
    (subst (λ (b : Base). CellIn old.header.class old.header.order b i s) (sym base) is))

-- and that of the front that was written on itself besides
pub standing_moved : (old new : Body) → new.header.class ≡ old.header.class → new.header.order ≡ old.header.order → new.written ≡ old.written
    → IfSome old.written (IsStanding old.header.class old.header.order) → IfSome new.written (IsStanding new.header.class new.header.order)
standing_moved old new class order written is =
    subst (λ (c : Class). IfSome new.written (IsStanding c new.header.order)) (sym class)
    (subst (λ (o : Order). IfSome new.written (IsStanding old.header.class o)) (sym order)
    (subst (λ (w : Option Written). IfSome w (IsStanding old.header.class old.header.order)) (sym written) is))

pub part_within : (old new : Body) (size : ℕ) → new.base ≡ old.base → source_part old.base ≤ size → source_part new.base ≤ size
part_within old new size base within = subst (λ (b : Base). source_part b ≤ size) (sym base) within

-- what is held stays that of the bytes
pub warm_held : (image : Option (List ℕ)) (class : Class) (order : Order) (c cell : CellView) → Warms image c cell → cell.held ≡ c.held → HeldIs class order c → HeldIs class order cell
warm_held image class order c cell warms same is =
    subst (λ (n : CellView). HeldIs class order n) (sym warms.cell)
    (by_held c.held warms.held (sym (ap (λ (n : CellView). n.held) warms.cell) ∙ same) c.raw warms.raw warms.bytes is)
  where
    Holds : Option (List ℕ) → Items → Type 0
    Holds raw items = option_and_then (decoded c.home.kind class order) raw ≡ Some items

    kept : (before after : Option (List ℕ)) (items : Items) → RawBecomes image c.home before after → option_and_then (decoded c.home.kind class order) before ≡ Some items
        → option_and_then (decoded c.home.kind class order) after ≡ Some items
    kept None after items becomes is = cc
    kept (Some bytes) after items becomes is = ap (λ (r : Option (List ℕ)). option_and_then (decoded c.home.kind class order) r) becomes ∙ is

    by_held : (before now : Option Items) → now ≡ before → (raw after : Option (List ℕ)) → RawBecomes image c.home raw after
        → IfSome before (λ items. option_and_then (decoded c.home.kind class order) raw ≡ Some items)
        → IfSome now (λ items. option_and_then (decoded c.home.kind class order) after ≡ Some items)
    by_held None now e raw after becomes is = subst (λ (o : Option Items). IfSome o (λ items. option_and_then (decoded c.home.kind class order) after ≡ Some items)) (sym e) tt
    by_held (Some items) now e raw after becomes is =
        subst (λ (o : Option Items). IfSome o (λ items. option_and_then (decoded c.home.kind class order) after ≡ Some items)) (sym e) (kept raw after items becomes is)

-- ---- The section in its object

pub other_number : (a b : ℕ) → (a == b) ≡ false → a ≢ b
other_number a b e = λ same. let is = eq-eqb a b same in cc

pub warmed_here : (image : Option (List ℕ)) (old new : Body) (s : ℕ) (w : Warmed image old new s)
    → s < length old.sections
    → scn_at new s ≡ record (scn_at old s) { cell = w.cell }
unfolding scn_at
warmed_here image old new s w there =
    ap (λ (l : List Scn). get_or l s absent_scn) w.sections
    ∙ get_or-set_same old.sections s (record (scn_at old s) { cell = w.cell }) absent_scn there

warmed_past : (image : Option (List ℕ)) (old new : Body) (s i : ℕ) (w : Warmed image old new s)
    → length old.sections ≤ s → scn_at new i ≡ scn_at old i
unfolding scn_at
warmed_past image old new s i w past =
    ap (λ (l : List Scn). get_or l i absent_scn)
    (w.sections ∙ set_past old.sections s (record (scn_at old s) { cell = w.cell }) past)

pub warmed_other : (image : Option (List ℕ)) (old new : Body) (s i : ℕ) (w : Warmed image old new s) → i ≢ s → scn_at new i ≡ scn_at old i
unfolding scn_at
warmed_other image old new s i w other =
    ap (λ (l : List Scn). get_or l i absent_scn) w.sections
    ∙ get_or-set_other old.sections s i (record (scn_at old s) { cell = w.cell }) absent_scn other

-- the data of any section, read or not
pub warmed_cell : (image : Option (List ℕ)) (old new : Body) (s i : ℕ) → Warmed image old new s → Warms image (scn_at old i).cell (scn_at new i).cell
warmed_cell image old new s i w = by_number (i == s) refl
  where
    by_range : (b : Bool) → nat_lt s (length old.sections) ≡ b
        → Warms image (scn_at old s).cell (scn_at new s).cell
    by_range true e =
        subst (λ (x : Scn). Warms image (scn_at old s).cell x.cell)
        (sym (warmed_here image old new s w (ltb-true s (length old.sections) e))) w.warms
    by_range false e =
        subst (λ (x : Scn). Warms image (scn_at old s).cell x.cell)
        (sym (warmed_past image old new s s w (ltb-false s (length old.sections) e)))
        (warms_same image (scn_at old s).cell)

    by_number : (b : Bool) → (i == s) ≡ b → Warms image (scn_at old i).cell (scn_at new i).cell
    by_number true e =
        subst (λ (n : ℕ). Warms image (scn_at old n).cell (scn_at new n).cell)
        (sym (eqb-true i s e)) (by_range (nat_lt s (length old.sections)) refl)
    by_number false e =
        subst (λ (x : Scn). Warms image (scn_at old i).cell x.cell) (sym (warmed_other image old new s i w (other_number i s e))) (warms_same image (scn_at old i).cell)

sections_same : (image : Option (List ℕ)) (old new : Body) (s : ℕ) → Warmed image old new s
    → map (section_of image) new.sections ≡ map (section_of image) old.sections
unfolding scn_at
sections_same image old new s w =
    ap (λ (l : List Scn). map (section_of image) l) w.sections
    ∙ map-set_same (section_of image) old.sections s (record (scn_at old s) { cell = w.cell })
    absent_scn (warms_section image (scn_at old s) w.cell w.warms)

-- the object stays
pub warmed_object : (image : Option (List ℕ)) (size : ℕ) (old new : Body) (s : ℕ) → Warmed image old new s → object_of image size new ≡ object_of image size old
unfolding object_of
warmed_object image size old new s w =
    ap (λ (b : Body). object_of image size b) w.rest
    ∙ ap (λ (l : List Section). record (object_of image size old) { sections = l }) (sections_same image old new s w)

warmed_counts : (image : Option (List ℕ)) (old new : Body) (s : ℕ) → Warmed image old new s → HasCounts old → HasCounts new
warmed_counts image old new s w has = subst HasCounts (sym w.rest) (record {
  phnum = has.phnum;
  shnum = has.shnum
      ∙ sym (ap length w.sections
      ∙ length-set old.sections s (record (scn_at old s) { cell = w.cell }));
})

-- and so does whether an update wants memory
pub warmed_ready : (image : Option (List ℕ)) (old new : Body) (s : ℕ) → Warmed image old new s → ready_of new ≡ ready_of old
warmed_ready image old new s w =
    ap ready_of w.rest
    ∙ ap (λ (n : ℕ).
    old.ready && (is_of_source old.base && has_lengths old.spare (length old.phdrs) n))
    (ap length w.sections ∙ length-set old.sections s (record (scn_at old s) { cell = w.cell }))

-- what is known of a section's data
pub cell_at : (image : Option (List ℕ)) (size : ℕ) (b : Body) (s : ℕ) → IsElf image size b
    → s < length b.sections
    → CellIn b.header.class b.header.order b.base s (scn_at b s)
unfolding scn_at
cell_at image size b s is there =
    is.cells s (scn_at b s) (slice_get-get_or b.sections s absent_scn there)

-- the data of each section has its number
pub are_numbered : (image : Option (List ℕ)) (size : ℕ) (b : Body) → IsElf image size b
    → AreNumbered b.sections
unfolding scn_at
are_numbered image size b is = λ s there. (cell_at image size b s is there).number

-- its home lies in the part of the source that is the base's
pub lies_in_part : (image : Option (List ℕ)) (size : ℕ) (b : Body) (s : ℕ) → IsElf image size b → LiesIn (scn_at b s).cell (source_part b.base)
unfolding scn_at
lies_in_part image size b s is = by_range (nat_lt s (length b.sections)) refl
  where
    by_range : (t : Bool) → nat_lt s (length b.sections) ≡ t
        → LiesIn (scn_at b s).cell (source_part b.base)
    by_range true e = (cell_at image size b s is (ltb-true s (length b.sections) e)).lies
    by_range false e =
        subst (λ (x : Scn). LiesIn x.cell (source_part b.base))
        (sym (get_or_past b.sections s absent_scn (ltb-false s (length b.sections) e)))
        (λ unread inside some. absurd (omega (arith, some)))

-- so it can be read
pub lies_at : (image : Option (List ℕ)) (size : ℕ) (b : Body) (s : ℕ) → IsElf image size b → LiesIn (scn_at b s).cell size
lies_at image size b s is = λ unread inside some. let part = lies_in_part image size b s is unread inside some in let within = is.within in omega (arith, part, within)

-- without such a part it is empty
pub empty_at : (image : Option (List ℕ)) (size : ℕ) (b : Body) (s : ℕ) → IsElf image size b → is_of_source b.base ≡ false → (scn_at b s).cell.home.len ≡ 0
unfolding scn_at
empty_at image size b s is none = by_range (nat_lt s (length b.sections)) refl
  where
    by_range : (t : Bool) → nat_lt s (length b.sections) ≡ t → (scn_at b s).cell.home.len ≡ 0
    by_range true e = (cell_at image size b s is (ltb-true s (length b.sections) e)).empty none
    by_range false e =
        ap (λ (x : Scn). x.cell.home.len)
        (get_or_past b.sections s absent_scn (ltb-false s (length b.sections) e))

-- its items that are held are those of its bytes
pub items_held_at : (image : Option (List ℕ)) (size : ℕ) (b : Body) (s : ℕ) → IsElf image size b → HeldIs b.header.class b.header.order (scn_at b s).cell
unfolding scn_at
items_held_at image size b s is = by_range (nat_lt s (length b.sections)) refl
  where
    by_range : (t : Bool) → nat_lt s (length b.sections) ≡ t
        → HeldIs b.header.class b.header.order (scn_at b s).cell
    by_range true e = (cell_at image size b s is (ltb-true s (length b.sections) e)).items
    by_range false e =
        subst (λ (x : Scn). HeldIs b.header.class b.header.order x.cell)
        (sym (get_or_past b.sections s absent_scn (ltb-false s (length b.sections) e))) tt

warmed_cells : (image : Option (List ℕ)) (size : ℕ) (old new : Body) (s : ℕ)
    → Warmed image old new s → IsElf image size old → (i : ℕ) → i < length old.sections
    → CellIn old.header.class old.header.order old.base i (scn_at new i)
warmed_cells image size old new s w is i there = by_number (i == s) refl
  where
    by_number : (b : Bool) → (i == s) ≡ b → CellIn old.header.class old.header.order old.base i (scn_at new i)
    by_number true e =
        let same = eqb-true i s e in
        let before = cell_at image size old s is (omega (arith, there, same)) in
        subst (λ (n : ℕ). CellIn old.header.class old.header.order old.base n (scn_at new n)) (sym same)
        (subst (λ (x : Scn). CellIn old.header.class old.header.order old.base s x) (sym (warmed_here image old new s w (omega (arith, there, same))))
        (warm_cell image old.header.class old.header.order old.base s (scn_at old s) w.cell w.warms (w.items before.items) before))
    by_number false e =
        subst (λ (x : Scn). CellIn old.header.class old.header.order old.base i x) (sym (warmed_other image old new s i w (other_number i s e))) (cell_at image size old i is there)

pub warmed_elf : (image : Option (List ℕ)) (size : ℕ) (old new : Body) (s : ℕ) → Warmed image old new s → IsElf image size old → IsElf image size new
unfolding scn_at
warmed_elf image size old new s w is = record {
  long = is.long;
  within = part_within old new size (ap (λ (b : Body). b.base) w.rest) is.within;
  whole = λ h. ap (λ (b : Body). b.base) w.rest ∙ is.whole (ap has_mark (sym w.rest) ∙ h);
  counts = warmed_counts image old new s w is.counts;
  cells = λ i x found.
      let count = ap length w.sections
      ∙ length-set old.sections s (record (scn_at old s) { cell = w.cell }) in
      let there = slice_get_within new.sections i x found in
      let at = get_or_from_slice_get new.sections i x absent_scn found in
      cell_moved old new (ap (λ (b : Body). b.header.class) w.rest) (ap (λ (b : Body). b.header.order) w.rest) (ap (λ (b : Body). b.base) w.rest) i x
      (subst (λ (y : Scn). CellIn old.header.class old.header.order old.base i y) at (warmed_cells image size old new s w is i (omega (arith, there, count))));
  written = standing_moved old new (ap (λ (b : Body). b.header.class) w.rest) (ap (λ (b : Body). b.header.order) w.rest) (ap (λ (b : Body). b.written) w.rest) is.written;
  sound = subst (IsSound image) (sym (warmed_object image size old new s w)) is.sound;
}

-- the same over the source as the call leaves it
pub warmed_left : {S : Type 0} (g : Ghosts S) (source left : S) (old new : Body) (s : ℕ) → Leaves g source left → Warmed (g.holds source) old new s
    → IsElf (g.holds source) (g.size source) old → IsElf (g.holds left) (g.size left) new
warmed_left g source left old new s leaves w is =
    subst (λ (image : Option (List ℕ)). IsElf image (g.size left) new) (sym leaves.same_bytes)
    (subst (λ (size : ℕ). IsElf (g.holds source) size new) (sym leaves.same_len) (warmed_elf (g.holds source) (g.size source) old new s w is))

-- ---- One section is written

-- a section with its cell as it is lent
abbrev pub lent_scn : Body → ℕ → CellView → Scn
lent_scn b s cell = record (section_in b.sections s) { cell = cell }

pub lent_read : (b : Body) (s : ℕ) (cell : CellView) → cell ≡ (section_in b.sections s).cell
    → lent_scn b s cell ≡ scn_at b s
unfolding scn_at
lent_read b s cell lent = ap (λ (c : CellView). lent_scn b s c) lent

pub scn_written : (b new : Body) (s : ℕ) (x : Scn) → s < length b.sections
    → new.sections ≡ set b.sections s x → scn_at new s ≡ x
unfolding scn_at
scn_written b new s x there is = ap (λ (l : List Scn). get_or l s absent_scn) is
    ∙ get_or-set_same b.sections s x absent_scn there

pub warmed_by : (image : Option (List ℕ)) (old new : Body) (s : ℕ) (x : Scn) (cell : CellView) → x ≡ scn_at old s → new ≡ record old { sections = new.sections }
    → new.sections ≡ set old.sections s (record x { cell = cell }) → Warms image x.cell cell
    → (HeldIs old.header.class old.header.order x.cell → HeldIs old.header.class old.header.order cell) → Warmed image old new s
warmed_by image old new s x cell read rest is warms held = record {
  cell = cell;
  rest = rest;
  sections = is ∙ ap (λ (y : Scn). set old.sections s (record y { cell = cell })) read;
  warms = subst (λ (y : Scn). Warms image y.cell cell) read warms;
  items = subst (λ (y : Scn). HeldIs old.header.class old.header.order y.cell → HeldIs old.header.class old.header.order cell) read held;
}

pub cell_written : (P : CellView → Type 0) (b new : Body) (s : ℕ) (x : Scn) (cell : CellView)
    → s < length b.sections → new.sections ≡ set b.sections s (record x { cell = cell })
    → P cell → P (scn_at new s).cell
cell_written P b new s x cell there is h = subst (λ (y : Scn). P y.cell) (sym (scn_written b new s (record x { cell = cell }) there is)) h

-- nothing is written
pub warmed_same : (image : Option (List ℕ)) (b : Body) (s : ℕ) → Warmed image b b s
unfolding scn_at
warmed_same image b s = record {
  cell = (scn_at b s).cell;
  rest = refl;
  sections = sym (set-get_or b.sections s absent_scn);
  warms = warms_same image (scn_at b s).cell;
  items = λ held. held;
}
