-- What is known where an update in place begins to write: the line of what is written is that of the
-- object as it was, and rests on nothing that is not held.
use Rattle.std.proofs.Common.{◌≡◌, inl, ℕ, ◌+◌, ◌-◌, ◌<◌, ◌≤◌, ◌^◌, max, Bool, true, false, ◌&&◌, ◌||◌, List, [], ◌∷◌, ◌++◌, length, map, refl, sym, ap, ◌∙◌, subst, arith, ⊎_elim}
use Rattle.std.specs.Prelude.{All, nat_lt}
use Rattle.std.specs.List.{AllByRecursion, list_any}
use Rattle.std.proofs.lemmas.Bool.{cases_lt, lt-ltb}
use Rattle.std.proofs.lemmas.List.{length-map, length-replicate}
use Rattle.std.proofs.lemmas.List.Elements.{All-from_recursion, recursion_from_All}
use Rattle.elf_types.specs.declared.records.Part.{Part}
use Rattle.elf_types.specs.declared.records.Part.TheVariants as part
use Rattle.elf_layout.specs.declared.parts.PartAt.{PartAt}
use Rattle.elf_outside.specs.declared.sources.Source.{Ghosts as SourceGhosts}
use Rattle.elf_update_to.specs.elf_object.Blocks.{Block, block_end, extents_meet}
use Rattle.elf_update_to.specs.elf_object.Object.{Object, Section, Home, section_at, is_dirty}
use Rattle.elf_update_to.specs.elf_object.Valid.{IsObject}
use Rattle.elf_update_to.specs.elf_object.Layout.{placed}
use Rattle.elf_update_to.specs.elf_object.Image.{image_length, kept_base}
use Rattle.elf_update_to.specs.elf_object.Changed.{when, is_moved, is_disturbed, section_changed}
use Rattle.elf_update_to.specs.law_object.Laws.{IsTornImage}
use Rattle.elf_update_to.proofs.law_object.StandLaws.{section_at-past}
use Rattle.elf_update_to.specs.law_object.Writing.Lines.{AreInLine}
use Rattle.elf_update_to.specs.law_object.Writing.Plan.{plan, fill_block, meets_some, written_blocks}
use Rattle.elf_update_to.specs.law_object.Writing.Ready.{IsReady}
use Rattle.elf_update_to.proofs.law_object.writing.LineLaws.{end_is, line_within}
use Rattle.elf_update_to.proofs.law_object.writing.PieceLaws.{kept_at_most}
use Rattle.elf_update_to.proofs.law_object.writing.PlanLaws.{plan_line}
use Rattle.elf_update_to.specs.law_object.Writing.Based.{some_unmarked}
use Rattle.elf_update_to.proofs.law_object.writing.DisturbedLaws.{disturbed_by_writes, meeting_from}
use Rattle.elf_update_to.specs.elf_descriptor.State.{State}
use Rattle.elf_update_to.specs.elf_descriptor.Cuts.{MayWrite, MaySize, IsKeptApart}
use Rattle.elf_update_to.specs.declared.updates.PlannedParts.{PlannedParts}
use Rattle.elf_update_to.specs.Descriptors.{HasStoredPlaces, stored_pieces, planned}
use Rattle.elf_update_to.specs.Pieces.{pieces_length, stacked_text, block_at, blocks_at, HasLength}
use Rattle.elf_update_to.proofs.PlanLaws.{planned_blocks, planned_long}
use Rattle.elf_update_to.proofs.UpdateLaws.{planned_end}
use Rattle.elf_update_to.proofs.StoredLaws.{home_in_file}
use Rattle.elf_update_to.proofs.DataLaws.{HasPiece, clean_is}
use Rattle.elf_update_in_place.specs.Moves.Written.{part_changed, planned_rows, written_between, written_line}
use Rattle.elf_update_in_place.proofs.moves.LineLaws.{rows_plan, line_meets}
use Rattle.elf_update_in_place.proofs.moves.FlagLaws.{rows_changed}
use Rattle.elf_update_in_place.specs.Writes.Overwrites.{NeedsNoRead}
use Rattle.elf_update_in_place.specs.Writes.Walks.{rows_of, put_blocks, MayPut, MayPutAll, NeedNoRead}
use Rattle.elf_update_in_place.specs.Writes.Writes.{IsMarkedAndLoaded}
use Rattle.elf_update_in_place.proofs.moves.TornLaws.{torn_stored}
use Rattle.elf_update_in_place.proofs.writes.TornObjects.{torn_pieces, torn_kept, torn_fill, torn_marked, torn_base, torn_count, home_torn, moved_marked, placed_fill}

-- ---- Rows

rows_zip : (fill : ℕ) (pieces : Part → List (ℕ × List ℕ)) (ps : List PartAt)
    (rows : List (Bool × Block)) → blocks_at fill pieces ps ≡ map (λ row. row.1) rows
    → rows_of fill pieces ps (map (λ row. row.0) rows) ≡ rows
unfolding blocks_at rows_of
rows_zip fill pieces [] [] same = refl
rows_zip fill pieces [] (r ∷ rs) same = cc
rows_zip fill pieces (p ∷ ps) [] same = cc
rows_zip fill pieces (p ∷ ps) (r ∷ rs) same =
    let head : block_at fill pieces p ≡ r.1 = cc in
    let tail : map (block_at fill pieces) ps ≡ map (λ row. row.1) rs = cc in
    let rest = rows_zip fill pieces ps rs tail in
    ap (λ (b : Block).
    (r.0, b) ∷ rows_of fill pieces ps (map (λ (row : Bool × Block). row.0) rs)) head
    ∙ ap (λ (l : List (Bool × Block)). r ∷ l) rest

abbrev block_of : ℕ → List ℕ → Block
block_of at bytes = record { at = at; bytes = bytes }

blocks_same : (fill : ℕ) (a b : Part → List (ℕ × List ℕ)) (ps : List PartAt)
    → ((p : Part) → a p ≡ b p) → blocks_at fill a ps ≡ blocks_at fill b ps
unfolding blocks_at
blocks_same fill a b [] same = refl
blocks_same fill a b (p ∷ ps) same =
    ap (λ (l : List (ℕ × List ℕ)).
    block_of p.at (stacked_text fill l) ∷ map (block_at fill a) ps)
    (same p.part)
    ∙ ap (λ (l : List Block). block_at fill b p ∷ l) (blocks_same fill a b ps same)

rows_same : (fill : ℕ) (a b : Part → List (ℕ × List ℕ)) (ps : List PartAt) (flags : List Bool)
    → ((p : Part) → a p ≡ b p) → rows_of fill a ps flags ≡ rows_of fill b ps flags
unfolding rows_of
rows_same fill a b [] flags same = refl
rows_same fill a b (p ∷ ps) [] same = refl
rows_same fill a b (p ∷ ps) (c ∷ cs) same =
    ap (λ (l : List (ℕ × List ℕ)).
    (c, block_of p.at (stacked_text fill l)) ∷ rows_of fill a ps cs)
    (same p.part)
    ∙ ap (λ (l : List (Bool × Block)). (c, block_at fill b p) ∷ l) (rows_same fill a b ps cs same)

long_same : (a b : Part → List (ℕ × List ℕ)) (ps : List PartAt) → ((p : Part) → a p ≡ b p)
    → AllByRecursion (HasLength b) ps → AllByRecursion (HasLength a) ps
long_same a b [] same each = tt
long_same a b (p ∷ ps) same each = (
  subst (λ (l : List (ℕ × List ℕ)). p.len ≡ pieces_length l) (sym (same p.part)) each.0,
  long_same a b ps same each.1,
)

-- ---- Blocks of the line

-- each lies before the end, or before the end of the base that counts
Lies : ℕ → ℕ → Block → Type 0
Lies kept end b = block_end b ≤ max kept end

lies_when : (kept end : ℕ) (c : Bool) (b : Block) (bs : List Block) → block_end b ≤ end
    → AllByRecursion (Lies kept end) bs → AllByRecursion (Lies kept end) (when c b ++ bs)
unfolding Lies
lies_when kept end true b bs within rest = (omega (arith, within), rest)
lies_when kept end false b bs within rest = rest

fill_lies : (kept fill from to end : ℕ) → from ≤ end → to ≤ end
    → block_end (fill_block kept fill from to) ≤ max kept end
unfolding block_end
fill_lies kept fill from to end start stop =
    let filled = length-replicate (to - max from kept) fill in
    omega (arith, filled, start, stop)

line_lies : (kept fill end from : ℕ) (rows : List (Bool × Block))
    → AreInLine end from (map (λ row. row.1) rows)
    → AllByRecursion (Lies kept end) (written_between kept fill end from rows)
unfolding Lies
line_lies kept fill end from [] line = (fill_lies kept fill from end end line (omega arith), tt)
line_lies kept fill end from (row ∷ rows) line =
    let inside = line_within end (block_end row.1) (map (λ r. r.1) rows) line.1 in
    let start = line.0 in
    let last = end_is row.1 in (
      fill_lies kept fill from row.1.at end (omega (arith, start, last, inside))
          (omega (arith, last, inside)),
      lies_when kept end row.0 row.1 (written_between kept fill end (block_end row.1) rows) inside
          (line_lies kept fill end (block_end row.1) rows line.1),
    )

-- a home that meets one of them meets the line
MeetsToo : List Block → Block → Type 0
MeetsToo line b = (home : Home) → extents_meet home.at home.len b.at (length b.bytes) ≡ true
    → meets_some home line ≡ true

meets_each : (line suffix : List Block)
    → ((home : Home) → meets_some home suffix ≡ true → meets_some home line ≡ true)
    → AllByRecursion (MeetsToo line) suffix
unfolding MeetsToo meets_some
meets_each line [] more = tt
meets_each line (b ∷ bs) more = (
  (λ home meet. more home (first_true (extents_meet home.at home.len b.at (length b.bytes))
      (list_any (λ c. extents_meet home.at home.len c.at (length c.bytes)) bs) meet)),
  meets_each line bs (λ home meet.
      more home (later_true (extents_meet home.at home.len b.at (length b.bytes))
      (list_any (λ c. extents_meet home.at home.len c.at (length c.bytes)) bs) meet)),
)
  where
    first_true : (x y : Bool) → x ≡ true → (x || y) ≡ true
    first_true true y h = refl
    first_true false y h = cc

    later_true : (x y : Bool) → y ≡ true → (x || y) ≡ true
    later_true true y h = refl
    later_true false y h = h

both_each : (P Q R : Block → Type 0) (bs : List Block) → ((b : Block) → P b → Q b → R b)
    → AllByRecursion P bs → AllByRecursion Q bs → AllByRecursion R bs
both_each P Q R [] f p q = tt
both_each P Q R (b ∷ bs) f p q = (f b p.0 q.0, both_each P Q R bs f p.1 q.1)

-- ---- What moves

moves_disturbed : (o : Object) (s : ℕ) → IsReady o
    → meets_some (section_at o s).home (written_line o) ≡ true → is_moved o s ≡ true
unfolding is_moved
moves_disturbed o s ready meet =
    by_tests (is_dirty o) (section_changed o s) (is_disturbed o (section_at o s).home) ready.dirty
    (disturbed_by_writes o (section_at o s).home ready
    ∙ or_true (meets_some (section_at o s).home (written_blocks o)) _
    (sym (line_meets o (section_at o s).home ready) ∙ meet))
  where
    or_true : (x y : Bool) → x ≡ true → (x || y) ≡ true
    or_true true y h = refl
    or_true false y h = cc

    by_tests : (a b c : Bool) → a ≡ true → c ≡ true → (a && (b || c)) ≡ true
    by_tests true true c x y = refl
    by_tests true false c x y = y
    by_tests false b c x y = cc

pub moves_changed : (o : Object) (s : ℕ) → IsReady o → section_changed o s ≡ true → is_moved o s ≡ true
unfolding is_moved
moves_changed o s ready changes =
    by_tests (is_dirty o) (section_changed o s) (is_disturbed o (section_at o s).home) ready.dirty
    changes
  where
    by_tests : (a b c : Bool) → a ≡ true → b ≡ true → (a && (b || c)) ≡ true
    by_tests true true c x y = refl
    by_tests true false c x y = cc
    by_tests false b c x y = cc

pub moves_past : (o : Object) (s : ℕ) → IsReady o → 0 < (section_at o s).home.len
    → image_length o < (section_at o s).home.at + (section_at o s).home.len → is_moved o s ≡ true
unfolding is_moved
moves_past o s ready some past =
    by_tests (is_dirty o) (section_changed o s) (is_disturbed o (section_at o s).home) ready.dirty
    (disturbed_by_writes o (section_at o s).home ready
    ∙ or_last (meets_some (section_at o s).home (written_blocks o)) _
    (both_true (nat_lt 0 (section_at o s).home.len)
    (nat_lt (image_length o) ((section_at o s).home.at + (section_at o s).home.len))
    (lt-ltb 0 (section_at o s).home.len some)
    (lt-ltb (image_length o) ((section_at o s).home.at + (section_at o s).home.len) past)))
  where
    or_last : (x y : Bool) → y ≡ true → (x || y) ≡ true
    or_last true y h = refl
    or_last false y h = h

    both_true : (x y : Bool) → x ≡ true → y ≡ true → (x && y) ≡ true
    both_true true y a b = b
    both_true false y a b = cc

    by_tests : (a b c : Bool) → a ≡ true → c ≡ true → (a && (b || c)) ≡ true
    by_tests true true c x y = refl
    by_tests true false c x y = y
    by_tests false b c x y = cc

-- ---- The beginning

own_torn : (o : Object) → IsTornImage o o.base
own_torn o = record { len = inl refl; each = λ k below. inl refl }

module _ {D : Type 0} (s : SourceGhosts D) (p : PlannedParts) (changed : List Bool) (e : State D)
    (b : IsMarkedAndLoaded s p changed e) (object : IsObject e.o) (small_end : image_length b.was < 2 ^ 64) where
  was : Object
  was = b.was

  ready : IsReady b.was
  ready = b.planned.ready

  dirty : is_dirty b.was ≡ true
  dirty = b.planned.ready.dirty

  pub begun_stored : HasStoredPlaces e.o
  begun_stored =
      subst HasStoredPlaces (sym b.object)
      (torn_stored b.was b.was.base b.planned.ready (own_torn b.was) (subst IsObject b.object object))

  pub begun_pieces : (q : Part) → stored_pieces e.o q ≡ stored_pieces (placed b.was) q
  begun_pieces q =
      ap (λ (o : Object). stored_pieces o q) b.object ∙ torn_pieces b.was b.was.base q b.planned.ready.dirty

  pub begun_long : All (HasLength (stored_pieces e.o)) p.parts
  begun_long =
      All-from_recursion (HasLength (stored_pieces e.o)) p.parts
      (long_same (stored_pieces e.o) (stored_pieces (placed b.was)) p.parts begun_pieces
      (recursion_from_All (HasLength (stored_pieces (placed b.was))) p.parts
      (subst (λ (l : List PartAt). All (HasLength (stored_pieces (placed b.was))) l)
      (sym b.planned.parts) (planned_long b.was b.planned.ready))))

  pub begun_end : p.places.end ≡ image_length b.was
  begun_end = planned_end b.was p b.planned

  pub begun_kept : (kept : ℕ) → kept ≡ kept_base e.o → kept ≡ kept_base b.was
  begun_kept kept is = is ∙ ap kept_base b.object ∙ torn_kept b.was b.planned.ready.dirty

  pub begun_fill : (fill : ℕ) → fill ≡ e.o.fill → fill ≡ b.was.fill
  begun_fill fill is =
      is ∙ ap (λ (o : Object). o.fill) b.object ∙ torn_fill b.was b.was.base b.planned.ready.dirty

  module _ (kept fill : ℕ) (kept_is : kept ≡ kept_base e.o) (fill_is : fill ≡ e.o.fill) where
    blocks_plan : blocks_at fill (stored_pieces e.o) p.parts ≡ plan b.was
    blocks_plan =
        blocks_same fill (stored_pieces e.o) (stored_pieces (placed b.was)) p.parts begun_pieces
        ∙ ap (λ (l : List PartAt). blocks_at fill (stored_pieces (placed b.was)) l) b.planned.parts
        ∙ ap (λ (n : ℕ). blocks_at n (stored_pieces (placed b.was)) (planned b.was))
        (begun_fill fill fill_is ∙ sym (placed_fill b.was b.planned.ready.dirty))
        ∙ planned_blocks b.was b.planned.ready

    pub begun_line : AreInLine p.places.end 0 (blocks_at fill (stored_pieces e.o) p.parts)
    begun_line =
        subst (λ (n : ℕ). AreInLine n 0 (blocks_at fill (stored_pieces e.o) p.parts)) (sym begun_end)
        (subst (λ (l : List Block). AreInLine (image_length b.was) 0 l) (sym blocks_plan)
        (plan_line b.was b.planned.ready))

    flags_are : changed ≡ map (λ row. row.0) (planned_rows b.was)
    flags_are =
        b.changes
        ∙ ap (λ (l : List PartAt). map (λ q. part_changed b.was q.part) l) b.planned.parts
        ∙ sym (rows_changed b.was)

    rows_are : rows_of fill (stored_pieces e.o) p.parts changed ≡ planned_rows b.was
    rows_are =
        ap (λ (l : List Bool). rows_of fill (stored_pieces e.o) p.parts l) flags_are
        ∙ rows_zip fill (stored_pieces e.o) p.parts (planned_rows b.was)
        (blocks_plan ∙ sym (rows_plan b.was b.planned.ready))

    -- what is written is what the object as it was has written
    pub line_is : put_blocks kept fill p.places.end (stored_pieces e.o) p.parts changed
        ≡ written_line b.was
    unfolding written_line
    line_is =
        ap (λ (l : List (Bool × Block)). written_between kept fill p.places.end 0 l) rows_are
        ∙ ap (λ (n : ℕ). written_between n fill p.places.end 0 (planned_rows b.was))
        (begun_kept kept kept_is)
        ∙ ap (λ (n : ℕ).
        written_between (kept_base b.was) n p.places.end 0 (planned_rows b.was))
        (begun_fill fill fill_is)
        ∙ ap (λ (n : ℕ). written_between (kept_base b.was) b.was.fill n 0 (planned_rows b.was))
        begun_end

    pub begun_count : length changed ≡ length p.parts
    begun_count =
        ap (λ (l : List Bool). length l) b.changes
        ∙ length-map p.parts (λ (q : PartAt). part_changed b.was q.part)

  -- ---- What it rests on

  pub home_is : (i : ℕ) → (section_at e.o i).home ≡ (section_at b.was i).home
  home_is i =
      ap (λ (o : Object). (section_at o i).home) b.object
      ∙ home_torn b.was b.was.base i b.planned.ready.dirty

  count_is : length e.o.sections ≡ length b.was.sections
  count_is =
      ap (λ (o : Object). length o.sections) b.object
      ∙ torn_count b.was b.was.base b.planned.ready.dirty

  pub begun_marked : e.o.marked ≡ true
  begun_marked =
      ap (λ (o : Object). o.marked) b.object ∙ torn_marked b.was b.was.base b.planned.ready.dirty

  -- what a section holds that moves, whose home is in the file and is not empty, does not rest on
  -- the base
  pub kept_apart : (i : ℕ) → is_moved b.was i ≡ true → (section_at e.o i).home.out ≡ false
      → 0 < (section_at e.o i).home.len → IsKeptApart e i
  kept_apart i moves inside some =
      let out : (section_at b.was i).home.out ≡ false =
      sym (ap (λ (h : Home). h.out) (home_is i)) ∙ inside in (
        b.loaded i moves out (there i some),
        ap (λ (o : Object). some_unmarked (section_at o i)) b.object
            ∙ moved_marked b.was b.was.base i b.planned.ready.dirty moves,
      )
    where
      there : (i : ℕ) → 0 < (section_at e.o i).home.len → i < length b.was.sections
      there i some = ⊎_elim
          (λ h. h)
          (λ past.
          let none : (section_at b.was i).home.len ≡ 0 =
          ap (λ (c : Section). c.home.len) (section_at-past b.was i past) in
          let same = ap (λ (h : Home). h.len) (home_is i) in
          absurd (omega (arith, none, same, some)))
          (cases_lt i (length b.was.sections))

  meeting_some : (a m x n : ℕ) → extents_meet a m x n ≡ true → 0 < m
  meeting_some a m x n meet = let is = meeting_from a m x n meet in is.some

  block_writes : (block : Block) → MeetsToo (written_line b.was) block
      → MayWrite e block.at (length block.bytes)
  unfolding MeetsToo
  block_writes block meets = record {
    marked = begun_marked;
    homes = λ i lies meet.
        kept_apart i
        (moves_disturbed b.was i b.planned.ready (subst (λ (h : Home). meets_some h (written_line b.was) ≡ true)
        (home_is i) (meets (section_at e.o i).home meet)))
        lies.0
        (meeting_some (section_at e.o i).home.at (section_at e.o i).home.len block.at
        (length block.bytes) meet);
  }

  pub begun_may : image_length b.was ≤ s.size e.source → MayPutAll s e (written_line b.was)
  unfolding Lies written_line
  begun_may fits = record {
    ready = b.ready;
    base = b.base;
    blocks = both_each (Lies (kept_base b.was) (image_length b.was)) (MeetsToo (written_line b.was))
        (MayPut s e) (written_line b.was) block_may
        (line_lies (kept_base b.was) b.was.fill (image_length b.was) 0 (planned_rows b.was)
        (subst (λ (l : List Block). AreInLine (image_length b.was) 0 l)
        (sym (rows_plan b.was b.planned.ready)) (plan_line b.was b.planned.ready)))
        (meets_each (written_line b.was) (written_line b.was) (λ home meet. meet));
  }
    where
      block_may : (block : Block) → block_end block ≤ max (kept_base b.was) (image_length b.was)
          → MeetsToo (written_line b.was) block → MayPut s e block
      block_may block lies meets =
          let most = kept_at_most b.was in
          let long = b.base.long in
          let base : length e.o.base ≡ length b.was.base =
          ap (λ (o : Object). length o.base) b.object
          ∙ ap (λ (l : List ℕ). length l) (torn_base b.was b.was.base b.planned.ready.dirty) in
          let small = b.planned.ready.object.base_length in
          record {
            within = omega (arith, lies, most, long, base, fits);
            small = omega (arith, lies, most, small, small_end);
            may = block_writes block meets;
          }

  -- ---- What is at hand

  changes_moves : (i : ℕ) → section_changed b.was i ≡ true → is_moved b.was i ≡ true
  changes_moves i changes = moves_changed b.was i b.planned.ready changes

  part_hand : (q : Part) → part_changed b.was q ≡ true → NeedsNoRead e q
  unfolding part_changed
  part_hand part.Header changes = tt
  part_hand part.Segments changes = tt
  part_hand part.Table changes = tt
  part_hand (part.Section i) changes = λ n filled inside there own.
      let is : HasPiece e.o i n = record { filled = filled; section = inside; piece = there } in
      let clean = clean_is e.o i n object is own in
      let out = home_in_file e.o i begun_stored.ready inside filled clean.clean in
      let count = count_is in
      b.loaded i (changes_moves i changes) (sym (ap (λ (h : Home). h.out) (home_is i)) ∙ out)
      (omega (arith, count, inside))
  part_hand part.Object changes = cc
  part_hand (part.Piece i n) changes = cc

  hand_each : (ps : List PartAt) → NeedNoRead e ps (map (λ q. part_changed b.was q.part) ps)
  hand_each [] = tt
  hand_each (q ∷ ps) = (part_hand q.part, hand_each ps)

  pub begun_hand : NeedNoRead e p.parts changed
  begun_hand =
      subst (λ (l : List Bool). NeedNoRead e p.parts l) (sym b.changes) (hand_each p.parts)

  -- ---- The end of the device

  pub begun_size : MaySize e (image_length b.was)
  begun_size = record {
    marked = begun_marked;
    homes = λ i lies some past.
        let same = home_is i in
        kept_apart i
        (moves_past b.was i b.planned.ready (subst (λ (h : Home). 0 < h.len) same some)
        (subst (λ (h : Home). image_length b.was < h.at + h.len) same past))
        lies.0 some;
  }
