-- What is held of a home is let go, where it can be read again.
use Rattle.std.proofs.Common.{◌≡◌, ◌∙◌, ℕ, ◌+◌, ◌<◌, ◌≤◌, Bool, true, false, not, List, [], ◌∷◌, length, take, drop, set, Option, Some, None, Ok, Err, refl, sym, ap, subst, arith}
use Rattle.std.specs.Prelude.{◌&&◌, is_some, is_none, slice_get, nat_lt, ◌==◌, if◌then◌else◌}
use Rattle.std.specs.List.{list_any}
use Rattle.std.proofs.lemmas.Bool.{ltb-true, ltb-false, eqb-true, cond-true}
use Rattle.std.proofs.lemmas.List.Elements.{All-get_or}
use Rattle.section_table.specs.elf_outside.declared.sources.Source.{Ghosts}
use Rattle.section_table.specs.elf_object.Object.{Section, Piece, section_at, absent_section}
use Rattle.section_table.specs.elf_object.Open.{home_bytes}
use Rattle.law_object.specs.Writing.Based.{IsBased, HomeStands, some_unmarked}
use Rattle.section_table.specs.section_data.Views.{CellView, passes_end}
use Rattle.section_table.specs.section_data.Held.{is_untouched}
use Rattle.section_table.specs.section_data.Leaves.{unloaded as unloaded_cell}
use Rattle.section_table.specs.Sections.{SectionView as Scn}
use Rattle.elf_descriptor.specs.declared.body.Body.{Body}
use Rattle.elf_descriptor.specs.declared.body.Base.{Base}
use Rattle.elf_descriptor.specs.declared.body.Base.TheVariants as bases
use Rattle.elf_descriptor.specs.State.{State}
use Rattle.elf_descriptor.specs.Views.{object_of, section_of, raw_of, base_of, scn_at, no_scn, loaded_of, held_of, state_of, is_of_source}
use Rattle.elf_descriptor.specs.Sound.{IsElf, source_part}
use Rattle.elf_descriptor.specs.Rooms.{is_kept_home, can_be_read_again, can_forget, can_let_go, unloaded, let_go, HoldsSo}
use Rattle.elf_descriptor.proofs.Objects.{section_is, section_count_is, base_length, base_count}
use Rattle.elf_descriptor.proofs.BaseCalls.{base_is, home_stands}
use Rattle.elf_descriptor.proofs.Warming.{cell_at}
use Rattle.elf_descriptor.proofs.Loaded.{absent_at}
use Rattle.elf_descriptor.proofs.RawCalls.{scn_there}
use Rattle.elf_types.specs.declared.errors.ElfError.{ElfError}
use Rattle.elf_types.specs.Answers.{answered}
use Rattle.elf_descriptor.proofs.OneCell.{HoldsOtherwise, otherwise_elf, otherwise_state, room_same}

right_of : (a b : Bool) → (a && b) ≡ true → b ≡ true
right_of true b both = both
right_of false b both = cc

left_of : (a b : Bool) → (a && b) ≡ true → a ≡ true
left_of true b both = refl
left_of false b both = both

not_true : (b : Bool) → not b ≡ true → b ≡ false
not_true true e = cc
not_true false e = refl

-- ---- What the test says

-- some piece of the section is not marked
unmarked : (l : List Piece) → (elim (slice_get l 0) [ None ↦ false | Some piece ↦ is_none piece.own && not piece.marked ]) ≡ true → list_any (λ p. not p.marked) l ≡ true
unmarked [] kept = cc
unmarked (p ∷ l) kept = rw (right_of (is_none p.own) (not p.marked) kept) refl

kept_unmarked : (c : Section) → is_kept_home c ≡ true → some_unmarked c ≡ true
unfolding some_unmarked
kept_unmarked c kept = unmarked c.pieces kept

-- the home lies in the base
lies_before : (base at len : ℕ) → passes_end base at len ≡ false → 0 < len → at + len ≤ base
lies_before base at len passes some = by_len (len == 0) refl
  where
    by_len : (b : Bool) → (len == 0) ≡ b → at + len ≤ base
    by_len true e = let none = eqb-true len 0 e in absurd (omega (arith, none, some))
    by_len false e = ltb-false base (at + len) (sym (ap (λ (z : Bool). not z && nat_lt base (at + len)) e) ∙ passes)

-- it is that of the program's parts
pub again_is : (image : Option (List ℕ)) (size : ℕ) (b : Body) (s : ℕ) → can_be_read_again (object_of image size b) s ≡ can_let_go b (length (object_of image size b).base) s
unfolding can_be_read_again can_let_go is_untouched section_of
again_is image size b s =
    ap (λ (c : Section). is_kept_home c && not c.home.out && not (passes_end (length (object_of image size b).base) c.home.at c.home.len)) (section_is image size b s)

module _ (image : Option (List ℕ)) (size : ℕ) (b : Body) (s : ℕ) (is : IsElf image size b)
    (there : s < length b.sections)
    (again : can_let_go b (length (object_of image size b).base) s ≡ true) where
  c : CellView
  c = (scn_at b s).cell

  base : List ℕ
  base = (object_of image size b).base

  known : (is_untouched c ≡ true) × (c.home.out ≡ false) × (passes_end (length base) c.home.at c.home.len ≡ false)
  unfolding can_let_go c base
  known =
      let both = left_of (is_untouched c && not c.home.out) (not (passes_end (length base) c.home.at c.home.len)) again in (
        left_of (is_untouched c) (not c.home.out) both,
        not_true c.home.out (right_of (is_untouched c) (not c.home.out) both),
        not_true (passes_end (length base) c.home.at c.home.len) (right_of (is_untouched c && not c.home.out) (not (passes_end (length base) c.home.at c.home.len)) again),
      )

  -- the home lies in the part of the source
  lies : 0 < c.home.len → c.home.at + c.home.len ≤ source_part b.base
  unfolding c base
  lies some =
      let long = ap length (base_is image size b) ∙ base_length b.base image size is.long is.within in
      let before = lies_before (length base) c.home.at c.home.len known.2 some in
      by_base b.base refl (omega (arith, before, long))
    where
      by_base : (kept : Base) → b.base ≡ kept → c.home.at + c.home.len ≤ base_count kept → c.home.at + c.home.len ≤ source_part kept
      by_base (bases.Own own) e before = let none = (cell_at image size b s is there).empty (ap is_of_source e) in absurd (omega (arith, none, some))
      by_base (bases.Source n) e before = before

  -- it has its bytes there
  stands : (bytes : List ℕ) → image ≡ Some bytes → raw_of image c ≡ home_bytes c.home bytes
  unfolding section_of c base is_untouched section_at object_of
  stands bytes told =
      let count = section_count_is image size b in
      let based : IsBased (object_of image size b) = is.sound.based (ap (λ (i : Option (List ℕ)). is_some i) told) in
      let home : HomeStands base (section_of image (scn_at b s)) =
      subst (λ (d : Section). HomeStands base d) (section_is image size b s)
      (All-get_or (HomeStands base) (object_of image size b).sections s absent_section (omega (arith, there, count)) based.homes) in
      sym (home (kept_unmarked (section_of image (scn_at b s)) (untouched_is known.0)) known.1)
      ∙ ap (λ (l : List ℕ). take c.home.len (drop c.home.at l)) (base_is image size b ∙ ap (λ (i : Option (List ℕ)). base_of b.base i size) told)
      ∙ home_stands b.base bytes size c known.1 lies (cell_at image size b s is there).empty
    where
      untouched_is : is_untouched c ≡ true → is_kept_home (section_of image (scn_at b s)) ≡ true
      untouched_is h = h

  -- the section stays once it is let go
  same : section_of image (record (scn_at b s) { cell = let_go c }) ≡ section_of image (scn_at b s)
  unfolding section_of raw_of c
  same = by_image image refl
    where
      by_image : (i : Option (List ℕ)) → image ≡ i → section_of i (record (scn_at b s) { cell = let_go c }) ≡ section_of i (scn_at b s)
      by_image None told = refl
      by_image (Some bytes) told =
          ap (λ (l : List ℕ). record (section_of (Some bytes) (scn_at b s)) { raw = l })
          (sym (subst (λ (i : Option (List ℕ)). raw_of i c ≡ home_bytes c.home bytes) told (stands bytes told)))

  pub gone_otherwise : (new : Body) → HoldsSo b new s (let_go (scn_at b s).cell) → HoldsOtherwise image b new s (let_go (scn_at b s).cell)
  unfolding c
  gone_otherwise new gone = record {
    there = there;
    rest = gone.rest;
    sections = gone.sections;
    same = same;
    known =
        let before = cell_at image size b s is there in
        record { number = before.number; lies = λ unread inside some. lies some; empty = before.empty; items = tt };
  }

-- ---- The call

untouched_there : (b : Body) (base s : ℕ) → can_let_go b base s ≡ true → s < length b.sections
unfolding can_let_go is_untouched scn_at
untouched_there b base s again = by_range (nat_lt s (length b.sections)) refl
  where
    by_range : (t : Bool) → nat_lt s (length b.sections) ≡ t → s < length b.sections
    by_range true e = ltb-true s (length b.sections) e
    by_range false e =
        let absent = absent_at b s (ltb-false s (length b.sections) e) in
        let none : can_let_go b base s ≡ false = ap (λ (x : Scn). can_forget base x.cell) absent in
        cc

module _ {S : Type 0} (g : Ghosts S) (source : S) (old new : Body) (s : ℕ) (is : IsElf (g.holds source) (g.size source) old) where
  abbrev base_now : ℕ
  base_now = length (object_of (g.holds source) (g.size source) old).base

  pub unload_elf : (base : ℕ) → base ≡ base_now → (can_let_go old base s ≡ true → HoldsSo old new s (let_go (scn_at old s).cell)) → (can_let_go old base s ≡ false → new ≡ old) → IsElf (g.holds source) (g.size source) new
  unload_elf base same gone kept = by_test (can_let_go old base s) refl
    where
      by_test : (b : Bool) → can_let_go old base s ≡ b → IsElf (g.holds source) (g.size source) new
      by_test true e =
          let again : can_let_go old base_now s ≡ true = subst (λ (n : ℕ). can_let_go old n s ≡ true) same e in
          otherwise_elf (g.holds source) (g.size source) old new s (let_go (scn_at old s).cell)
          (gone_otherwise (g.holds source) (g.size source) old s is (untouched_there old base s e) again new (gone e)) is
      by_test false e = subst (λ (b : Body). IsElf (g.holds source) (g.size source) b) (sym (kept e)) is

  pub unload_state : (base : ℕ) → base ≡ base_now → (can_let_go old base s ≡ true → HoldsSo old new s (let_go (scn_at old s).cell)) → (can_let_go old base s ≡ false → new ≡ old)
      → state_of g source new ≡ unloaded s (state_of g source old)
  unload_state base same gone kept =
      by_test (can_let_go old base s) refl
      ∙ ap (λ (t : Bool). if t then gone_state else state_of g source old)
      (ap (λ (n : ℕ). can_let_go old n s) same ∙ sym (again_is (g.holds source) (g.size source) old s))
    where
      gone_state : State S
      gone_state = record (state_of g source old) { loaded = set (loaded_of old) s false; held = set (held_of old) s false }

      by_test : (b : Bool) → can_let_go old base s ≡ b → state_of g source new ≡ (if b then gone_state else state_of g source old)
      by_test true e =
          let again : can_let_go old base_now s ≡ true = subst (λ (n : ℕ). can_let_go old n s ≡ true) same e in
          let cell = let_go (scn_at old s).cell in
          let h = gone_otherwise (g.holds source) (g.size source) old s is (untouched_there old base s e) again new (gone e) in
          otherwise_state g source old new s cell h
          ∙ ap (λ (l : List Bool). record gone_state { room = l }) (room_same old s)
      by_test false e = ap (λ (b : Body). state_of g source b) (kept e)

-- ---- In what the program keeps

let_gone : (c : CellView) → is_untouched c ≡ true → unloaded_cell c ≡ let_go c
let_gone c again = cond-true (is_untouched c) (let_go c) c again

pub gone_by : (old new : Body) (s base : ℕ) (x : Scn) (cell : CellView) → x ≡ scn_at old s → can_let_go old base s ≡ true → new ≡ record old { sections = new.sections }
    → new.sections ≡ set old.sections s (record x { cell = cell }) → cell ≡ unloaded_cell x.cell
    → HoldsSo old new s (let_go (scn_at old s).cell)
unfolding can_let_go
gone_by old new s base x cell read again rest is gone =
    let untouched : is_untouched (scn_at old s).cell ≡ true =
    left_of (is_untouched (scn_at old s).cell) (not (scn_at old s).cell.home.out)
    (left_of (is_untouched (scn_at old s).cell && not (scn_at old s).cell.home.out) (not (passes_end base (scn_at old s).cell.home.at (scn_at old s).cell.home.len)) again) in
    record {
      rest = rest;
      sections =
          is
          ∙ ap (λ (c : CellView). set old.sections s (record x { cell = c })) gone
          ∙ ap (λ (y : Scn). set old.sections s (record y { cell = unloaded_cell y.cell })) read
          ∙ ap (λ (c : CellView). set old.sections s (record (scn_at old s) { cell = c }))
          (let_gone (scn_at old s).cell untouched);
    }

-- a call that is refused lets nothing go
pub refused_untouched : {P : Type 0} (b : Body) (base s : ℕ) (e : ElfError) → Err e ≡ answered (no_scn b s) (tt {0}) → can_let_go b base s ≡ true → P
refused_untouched b base s e refused again =
    let is : Err e ≡ Ok (tt {0}) = refused ∙ ap (λ (r : Option ElfError). answered r (tt {0})) (scn_there b s (untouched_there b base s again)) in cc
