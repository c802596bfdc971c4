-- After an update in place, or one that failed: what is not marked stands in the base, and both settle alike.
use Rattle.std.proofs.Common.{◌≡◌, ℕ, zero, suc, ◌+◌, ◌<◌, ◌≤◌, Bool, true, false, not, ◌&&◌, ◌||◌, List, [], ◌∷◌, length, take, drop, get_or, None, refl, sym, ap, ◌∙◌, subst, arith, ⊎_elim}
use Rattle.std.specs.Prelude.{nat_lt, if◌then◌else◌, map}
use Rattle.std.specs.List.{range_with_len, enumerate_from, list_any, filter}
use Rattle.std.proofs.lemmas.Bool.{cases_lt, lt-ltb, ltb-false}
use Rattle.std.proofs.lemmas.List.{length-take, length-take-le, length-drop, get_or-take, get_or-drop, ext_get_or}
use Rattle.std.proofs.lemmas.List.Elements.{All-map}
use Rattle.elf_types.specs.declared.records.Shdr.{Shdr}
use Rattle.elf_object.specs.Blocks.{Block, block_covers, is_covered, extents_meet}
use Rattle.elf_object.specs.Object.{Object, Section, Piece, Home, absent_section, section_at, is_dirty}
use Rattle.elf_object.specs.Open.{home_of, home_bytes}
use Rattle.elf_object.specs.Joined.{file_bytes}
use Rattle.elf_object.specs.Layout.{places_of, placed_by, placed, placed_section}
use Rattle.elf_object.specs.Image.{image_length, image, is_fill_place}
use Rattle.elf_object.specs.Refusal.{refusal}
use Rattle.elf_object.specs.Settled.{settled_section, settled_over, settle}
use Rattle.elf_object.proofs.ChangedLaws.{is_moved-dirty, torn-dirty}
use Rattle.elf_object.specs.Changed.{torn_over, changed_blocks, fill_places, is_disturbed, section_changed, is_moved, marked_piece, torn_section, torn}
use Rattle.elf_object.specs.Valid.{IsObject}
use Rattle.law_object.specs.Laws.{IsTornImage}
use Rattle.law_object.proofs.ImageLaws.{length-image, placed-dirty, section_at-placed}
use Rattle.law_object.proofs.KeepLaws.{section_at_is}
use Rattle.law_object.proofs.PlacedLaws.{each_row, placed_is}
use Rattle.law_object.proofs.SettledLaws.{settle-dirty, settle-clean, section_raw}
use Rattle.law_object.proofs.StandLaws.{covered_from, section_count-placed}
use Rattle.law_object.proofs.writing.Bools.{neither, second_false}
use Rattle.law_object.specs.Writing.Lines.{HoldsBlock}
use Rattle.law_object.specs.Writing.Based.{some_unmarked, HomeStands, IsBased, UpdatesKeepBased}
use Rattle.law_object.specs.Writing.Ready.{IsReady}
use Rattle.law_object.specs.Writing.Writing.{UndisturbedStays}
use Rattle.law_object.proofs.writing.BasedSteps.{placed_kept}
use Rattle.law_object.proofs.writing.PlanLaws.{parts_hold}
use Rattle.law_object.proofs.writing.LeftPlaces.{left_stands}
use Rattle.law_object.proofs.writing.WriteLaws.{each_part}

-- ---- A home that is not disturbed

meet_at : (a m b n k : ℕ) → a ≤ k → k < a + m → b ≤ k → k < b + n → extents_meet a m b n ≡ true
unfolding extents_meet
meet_at a m b n k x y z w =
    rw (lt-ltb 0 m (omega arith), lt-ltb 0 n (omega arith), lt-ltb a (b + n) (omega arith), lt-ltb b (a + m) (omega arith)) refl

-- a place of an extent that meets no block is covered by none
unmet_block : (at len : ℕ) (bs : List Block) (k : ℕ) → list_any (λ b. extents_meet at len b.at (length b.bytes)) bs ≡ false → at ≤ k → k < at + len → is_covered bs k ≡ false
unfolding is_covered
unmet_block at len [] k none from below = refl
unmet_block at len (b ∷ bs) k none from below =
    let tests = neither (extents_meet at len b.at (length b.bytes)) (list_any (λ x. extents_meet at len x.at (length x.bytes)) bs) none in
    by_test (block_covers b k) refl tests.0 (unmet_block at len bs k tests.1 from below)
  where
    by_test : (c : Bool) → block_covers b k ≡ c → extents_meet at len b.at (length b.bytes) ≡ false → is_covered bs k ≡ false → (c || is_covered bs k) ≡ false
    by_test true e apart rest =
        let is = covered_from b k e in
        let met = meet_at at len b.at (length b.bytes) k from below is.from is.below in
        let clash : false ≡ true = sym apart ∙ met in cc
    by_test false e apart rest = rest

-- and no place of it passes a test where it meets none that does
unmet_place : (at len : ℕ) (test : ℕ → Bool) (a n k : ℕ) → list_any (λ j. extents_meet at len j 1) (filter test (range_with_len a n)) ≡ false → at ≤ k → k < at + len → a ≤ k → k < a + n → test k ≡ false
unmet_place at len test a zero k none from below start end = absurd (omega arith)
unmet_place at len test a (suc n) k none from below start end =
    by_test (test a) refl none (λ later rest. unmet_place at len test (a + 1) n k rest from below (omega arith) (omega arith))
  where
    by_test : (c : Bool) → test a ≡ c → list_any (λ j. extents_meet at len j 1) (if c then a ∷ filter test (range_with_len (a + 1) n) else filter test (range_with_len (a + 1) n)) ≡ false → (a < k → list_any (λ j. extents_meet at len j 1) (filter test (range_with_len (a + 1) n)) ≡ false → test k ≡ false) → test k ≡ false
    by_test true e h more =
        let tests = neither (extents_meet at len a 1) (list_any (λ j. extents_meet at len j 1) (filter test (range_with_len (a + 1) n))) h in
        ⊎_elim
        (λ later. more later tests.1)
        (λ here.
        let met = meet_at at len a 1 k from below start (omega arith) in
        let clash : false ≡ true = sym tests.0 ∙ met in cc)
        (cases_lt a k)
    by_test false e h more = ⊎_elim
        (λ later. more later h)
        (λ here. let same : k ≡ a = omega arith in ap test same ∙ e)
        (cases_lt a k)

-- what is known of it
record IsLeftAlone (o : Object) (home : Home) : Type 0 where
  ends : 0 < home.len → home.at + home.len ≤ image_length o
  unchanged : (k : ℕ) → home.at ≤ k → k < home.at + home.len → is_covered (changed_blocks o) k ≡ false
  unfilled : (k : ℕ) → home.at ≤ k → k < home.at + home.len → is_fill_place o k ≡ false

left_alone : (o : Object) (home : Home) → is_dirty o ≡ true → is_disturbed o home ≡ false → IsLeftAlone o home
unfolding is_disturbed fill_places
left_alone o home dirty undisturbed =
    let first = neither (list_any (λ b. extents_meet home.at home.len b.at (length b.bytes)) (changed_blocks o) || list_any (λ k. extents_meet home.at home.len k 1) (fill_places o)) (nat_lt 0 home.len && nat_lt (image_length o) (home.at + home.len)) undisturbed in
    let second = neither (list_any (λ b. extents_meet home.at home.len b.at (length b.bytes)) (changed_blocks o)) (list_any (λ k. extents_meet home.at home.len k 1) (fill_places o)) first.0 in
    let fills : list_any (λ k. extents_meet home.at home.len k 1) (filter (is_fill_place o) (range_with_len 0 (image_length o))) ≡ false =
    ap (λ (b : Bool). list_any (λ k. extents_meet home.at home.len k 1) (if b then filter (is_fill_place o) (range_with_len 0 (image_length o)) else [])) (sym dirty) ∙ second.1 in
    let within : 0 < home.len → home.at + home.len ≤ image_length o = λ some. ltb-false (image_length o) (home.at + home.len) (second_false (nat_lt 0 home.len) (nat_lt (image_length o) (home.at + home.len)) first.1 (lt-ltb 0 home.len some)) in
    record {
      ends = within;
      unchanged = λ k from below. unmet_block home.at home.len (changed_blocks o) k second.0 from below;
      unfilled = λ k from below. let end = within (omega arith) in unmet_place home.at home.len (is_fill_place o) 0 (image_length o) k fills from below (omega arith) (omega arith);
    }

pub undisturbed_stays : (o : Object) → UndisturbedStays o
undisturbed_stays o bytes home ready is between undisturbed inside =
    let alone = left_alone o home ready.dirty undisturbed in
    let whole = length-image o in
    ⊎_elim
    (λ some.
    let end = inside some in
    let last = alone.ends some in
    let left_rest = length-drop home.at bytes in
    let right_rest = length-drop home.at o.base in
    let long : home.at + home.len ≤ length bytes = ⊎_elim (λ e. omega arith) (λ e. omega arith) between.len in
    let left : length (take home.len (drop home.at bytes)) ≡ home.len = length-take-le home.len (drop home.at bytes) (omega arith) in
    let right : length (take home.len (drop home.at o.base)) ≡ home.len = length-take-le home.len (drop home.at o.base) (omega arith) in
    ext_get_or 0 (take home.len (drop home.at bytes)) (take home.len (drop home.at o.base)) (left ∙ sym right) (λ j h.
    let below : j < home.len = omega arith in
    get_or-take home.len (drop home.at bytes) j 0 below
    ∙ get_or-drop home.at bytes j 0
    ∙ same (home.at + j) alone (omega arith) (omega arith) (omega arith)
    ∙ sym (get_or-drop home.at o.base j 0)
    ∙ sym (get_or-take home.len (drop home.at o.base) j 0 below)))
    (λ none.
    let empty : home.len ≡ 0 = omega arith in
    ap (λ (n : ℕ). take n (drop home.at bytes)) empty ∙ sym (ap (λ (n : ℕ). take n (drop home.at o.base)) empty))
    (cases_lt 0 home.len)
  where
    same : (k : ℕ) → IsLeftAlone o home → home.at ≤ k → k < home.at + home.len → k < length bytes → get_or bytes k 0 ≡ get_or o.base k 0
    same k alone from below within =
        let end = alone.ends (omega (arith, from, below)) in
        let left = left_stands o k ready is (omega (arith, below, end)) (alone.unchanged k from below) (alone.unfilled k from below) in
        ⊎_elim (λ old. old) (λ new. new ∙ left.1) (between.each k within)

-- ---- An update that failed

unmarked_none : (c : Section) → some_unmarked (record c { pieces = map marked_piece c.pieces }) ≡ false
unfolding some_unmarked
unmarked_none c = none c.pieces
  where
    none : (l : List Piece) → list_any (λ p. not p.marked) (map marked_piece l) ≡ false
    none [] = refl
    none (p ∷ l) = none l

placed_home : (o : Object) (s : ℕ) → s < length o.sections → is_dirty o ≡ true → (section_at (placed o) s).home ≡ (section_at o s).home
unfolding placed_section
placed_home o s inside dirty =
    ap (λ (q : Object). (section_at q s).home) (placed-dirty o dirty) ∙ ap (λ (c : Section). c.home) (section_at-placed (places_of o) o s inside)

placed_base : (o : Object) → is_dirty o ≡ true → (placed o).base ≡ o.base
unfolding placed_by
placed_base o dirty = ap (λ (q : Object). q.base) (placed-dirty o dirty)

home_of_placed : (o : Object) (s : ℕ) → IsReady o → IsBased o → s < length (placed o).sections → HomeStands o.base (section_at (placed o) s)
unfolding section_at
home_of_placed o s ready is inside =
    let kept = placed_kept o is in
    let base = placed_base o ready.dirty in
    subst (λ (l : List ℕ). HomeStands l (get_or (placed o).sections s absent_section)) base (kept.homes s absent_section inside)

-- of a section that does not move
still_home : (o : Object) (bytes : List ℕ) (s : ℕ) → IsReady o → IsBased o → IsTornImage o bytes → s < length (placed o).sections → is_moved o s ≡ false → HomeStands bytes (section_at (placed o) s)
still_home o bytes s ready is between inside still some out =
    let count : length (placed o).sections ≡ length o.sections = ap (λ (q : Object). length q.sections) (placed-dirty o ready.dirty) ∙ section_count-placed (places_of o) o in
    let tests = neither (section_changed o s) (is_disturbed o (section_at o s).home) (sym (is_moved-dirty o s ready.dirty) ∙ still) in
    let same = placed_home o s (omega arith) ready.dirty in
    let home = (section_at (placed o) s).home in
    let undisturbed : is_disturbed o (section_at (placed o) s).home ≡ false = ap (is_disturbed o) same ∙ tests.1 in
    let stands = home_of_placed o s ready is inside some out in
    let q = section_at_is (placed o) s (placed_is o ready.object ready.passed) in
    let raw = q.home.inside out in
    let size = ap length stands in
    let count_of = length-take (section_at (placed o) s).home.len (drop (section_at (placed o) s).home.at o.base) in
    let rest = length-drop (section_at (placed o) s).home.at o.base in
    undisturbed_stays o bytes (section_at (placed o) s).home ready is between undisturbed (λ filled. omega arith) ∙ stands

torn_home : (o : Object) (bytes : List ℕ) (s : ℕ) → IsReady o → IsBased o → IsTornImage o bytes → s < length (placed o).sections → HomeStands bytes (torn_section (is_moved o s) (section_at (placed o) s))
unfolding torn_section
torn_home o bytes s ready is between inside = by_test (is_moved o s) refl
  where
    by_test : (b : Bool) → is_moved o s ≡ b → HomeStands bytes (if b then (record (section_at (placed o) s) { pieces = map marked_piece (section_at (placed o) s).pieces }) else section_at (placed o) s)
    by_test true e = λ some out. let none = unmarked_none (section_at (placed o) s) in let clash : false ≡ true = sym none ∙ some in cc
    by_test false e = still_home o bytes s ready is between inside e

torn_over_based : (o : Object) (bytes : List ℕ) → IsReady o → IsBased o → IsTornImage o bytes → IsBased (torn_over (is_moved o) bytes (placed o))
unfolding torn_over section_at
torn_over_based o bytes ready is between = record {
  header = λ clean. let clash : true ≡ false = clean in cc;
  segments = λ clean. let clash : true ≡ false = clean in cc;
  table = λ clean. let clash : true ≡ false = clean in cc;
  homes = All-map (HomeStands bytes) (λ row. torn_section (is_moved o row.0) row.1) (enumerate_from 0 (placed o).sections)
      (each_row (λ row. HomeStands bytes (torn_section (is_moved o row.0) row.1)) (placed o).sections absent_section (λ s inside. torn_home o bytes s ready is between inside));
}

torn_based : (o : Object) (bytes : List ℕ) → IsReady o → IsBased o → IsTornImage o bytes → IsBased (torn o bytes)
torn_based o bytes ready is between = subst IsBased (sym (torn-dirty o bytes ready.dirty)) (torn_over_based o bytes ready is between)

-- ---- An update in place

settled_home : (bytes raw : List ℕ) (h : Shdr) → home_bytes (home_of (length bytes) h) bytes ≡ raw → HomeStands bytes (settled_section (length bytes) raw h)
unfolding settled_section home_bytes
settled_home bytes raw h same some out =
    by_test (home_of (length bytes) h).out out same
  where
    by_test : (b : Bool) → b ≡ false → (if b then [] else take (home_of (length bytes) h).len (drop (home_of (length bytes) h).at bytes)) ≡ raw → take (home_of (length bytes) h).len (drop (home_of (length bytes) h).at bytes) ≡ raw
    by_test true e f = cc
    by_test false e f = f

raw_of : (o : Object) (s : ℕ) → IsReady o → s < length o.sections → home_bytes (home_of (length (image o)) (section_at (placed o) s).header) (image o) ≡ file_bytes (placed o) s
raw_of o s ready inside =
    subst (λ (q : Object). home_bytes (home_of (length (image o)) (section_at q s).header) (image o) ≡ file_bytes q s) (sym (placed-dirty o ready.dirty))
    (section_raw o s ready.object ready.dirty ready.passed inside)

over_based : (o : Object) → IsReady o → IsBased (settled_over (image o) (placed o))
unfolding settled_over section_at
over_based o ready =
    let parts = each_part (HoldsBlock (image o)) o ready (parts_hold o ready) in
    let count : length (placed o).sections ≡ length o.sections = ap (λ (q : Object). length q.sections) (placed-dirty o ready.dirty) ∙ section_count-placed (places_of o) o in
    record {
      header = λ clean. parts.header;
      segments = λ clean. parts.segments;
      table = λ clean. parts.table;
      homes = All-map (HomeStands (image o)) (λ row. settled_section (length (image o)) (file_bytes (placed o) row.0) row.1.header) (enumerate_from 0 (placed o).sections)
          (each_row (λ row. HomeStands (image o) (settled_section (length (image o)) (file_bytes (placed o) row.0) row.1.header)) (placed o).sections absent_section (λ s inside.
          settled_home (image o) (file_bytes (placed o) s) (get_or (placed o).sections s absent_section).header (raw_of o s ready (omega arith))));
    }

settle_based : (o : Object) → IsObject o → IsBased o → refusal o ≡ None → IsBased (settle o)
settle_based o ok is passed = by_test (is_dirty o) refl
  where
    by_test : (b : Bool) → is_dirty o ≡ b → IsBased (settle o)
    by_test true dirty = subst IsBased (sym (settle-dirty o dirty)) (over_based o (record { object = ok; dirty = dirty; passed = passed }))
    by_test false clean = subst IsBased (sym (settle-clean o clean)) is

pub updates_keep_based : (o : Object) → UpdatesKeepBased o
updates_keep_based o = record {
  settled = settle_based o;
  torn = λ bytes ready is between. torn_based o bytes ready is between;
}
