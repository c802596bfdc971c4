-- The extents of what is written, by their places.
use Rattle.std.proofs.Common.{◌≡◌, ℕ, zero, suc, ◌+◌, ◌-◌, ◌<◌, ◌≤◌, max, Bool, true, false, ◌&&◌, ◌||◌, List, [], ◌∷◌, ◌++◌, length, drop, get_or, Result, Ok, Err, refl, sym, ap, ◌∙◌, subst, append_assoc, arith, ⊎_elim}
use Rattle.std.specs.Prelude.{map, nat_lt, if◌then◌else◌, OnOk}
use Rattle.elf_types.specs.declared.errors.ElfError.{ElfError}
use Rattle.std.specs.List.{list_any}
use Rattle.std.proofs.lemmas.Bool.{cases_lt, lt-ltb, le-ltb}
use Rattle.std.proofs.lemmas.List.{length-replicate, length-map, get_or-map, append-nil, drop_more, drop_all}
use Rattle.elf_layout.specs.declared.parts.PartAt.{PartAt}
use Rattle.elf_update_to.specs.elf_object.Blocks.{Block, block_end, extents_meet}
use Rattle.elf_update_to.specs.elf_object.Object.{Object, Home}
use Rattle.elf_update_to.specs.elf_object.Open.{no_block}
use Rattle.elf_update_to.specs.elf_object.Image.{kept_base, image_length}
use Rattle.elf_update_to.specs.elf_object.Changed.{when, is_disturbed}
use Rattle.elf_update_to.specs.law_object.Writing.Lines.{AreInLine}
use Rattle.elf_update_to.specs.law_object.Writing.Plan.{fill_block, written_blocks, meets_some}
use Rattle.elf_update_to.specs.law_object.Writing.Ready.{IsReady}
use Rattle.elf_update_to.proofs.law_object.writing.LineLaws.{end_is, line_within}
use Rattle.elf_update_to.proofs.law_object.writing.PlanLaws.{plan_line}
use Rattle.elf_update_to.proofs.law_object.writing.DisturbedLaws.{meeting_from, same_test, disturbed_by_writes}
use Rattle.elf_update_to.specs.Descriptors.{planned}
use Rattle.elf_update_in_place.specs.declared.moves.extents.Extent.{Extent}
use Rattle.elf_update_in_place.specs.Moves.Written.{part_changed, planned_rows, written_between, written_line}
use Rattle.elf_update_in_place.specs.Moves.Extents.{some_extent, row_extents, block_extents, StandInOrder, meets_extents}
use Rattle.elf_update_in_place.proofs.moves.LineLaws.{rows_plan, line_meets}
use Rattle.elf_update_in_place.proofs.moves.FlagLaws.{length-rows, flagged_row_at}

-- ---- One behind the other

pub none_extent : (a b : ℕ) → b ≤ a → some_extent a b ≡ []
none_extent a b past =
    ap (λ (t : Bool). when t (record { at = a; end = b })) (le-ltb a b past)

pub one_extent : (a b : ℕ) → a < b → some_extent a b ≡ record { at = a; end = b } ∷ []
one_extent a b below =
    ap (λ (t : Bool). when t (record { at = a; end = b })) (lt-ltb a b below)

fill_extent : (kept fill from end : ℕ)
    → some_extent (fill_block kept fill from end).at (block_end (fill_block kept fill from end))
    ≡ some_extent (max from kept) end
fill_extent kept fill from end =
    let last = end_is (fill_block kept fill from end) in
    let count = length-replicate (end - max from kept) fill in
    ⊎_elim
    (λ below.
    let same : block_end (fill_block kept fill from end) ≡ end = omega (arith, last, count, below) in
    ap (λ (n : ℕ). some_extent (max from kept) n) same)
    (λ past.
    none_extent (max from kept) (block_end (fill_block kept fill from end))
    (omega (arith, last, count, past))
    ∙ sym (none_extent (max from kept) end past))
    (cases_lt (max from kept) end)

changed_extents : (t : Bool) (b : Block) (bs : List Block)
    → block_extents (when t b ++ bs)
    ≡ (if t then some_extent b.at (block_end b) else []) ++ block_extents bs
unfolding block_extents
changed_extents true b bs = refl
changed_extents false b bs = refl

row_step : (kept fill end from : ℕ) (row : Bool × Block) (rows : List (Bool × Block))
    → block_extents (written_between kept fill end from (row ∷ rows))
    ≡ row_extents (max from kept) row.0 row.1.at (block_end row.1)
    ++ block_extents (written_between kept fill end (block_end row.1) rows)
unfolding block_extents
row_step kept fill end from row rows =
    let own : List Extent = if row.0 then some_extent row.1.at (block_end row.1) else [] in
    let more : List Block = written_between kept fill end (block_end row.1) rows in
    ap (λ (l : List Extent). l
    ++ block_extents (when row.0 row.1 ++ written_between kept fill end (block_end row.1) rows))
    (fill_extent kept fill from row.1.at)
    ∙ ap (λ (l : List Extent). some_extent (max from kept) row.1.at ++ l)
    (changed_extents row.0 row.1 (written_between kept fill end (block_end row.1) rows))
    ∙ sym (append_assoc (some_extent (max from kept) row.1.at)
    (if row.0 then some_extent row.1.at (block_end row.1) else [])
    (block_extents (written_between kept fill end (block_end row.1) rows)))

-- what a row adds
pub row_still : (start at end : ℕ) (c : Bool) (old new : List Extent)
    → new ≡ old ++ some_extent start at → c ≡ false → new ≡ old ++ row_extents start c at end
row_still start at end true old new more none = cc
row_still start at end false old new more none =
    more ∙ ap (λ (l : List Extent). old ++ l) (sym (append-nil (some_extent start at)))

pub row_written : (start at end : ℕ) (c : Bool) (old mid new : List Extent)
    → mid ≡ old ++ some_extent start at → c ≡ true → new ≡ mid ++ some_extent at end
    → new ≡ old ++ row_extents start c at end
row_written start at end false old mid new first some more = cc
row_written start at end true old mid new first some more =
    more ∙ ap (λ (l : List Extent). l ++ some_extent at end) first
    ∙ append_assoc old (some_extent start at) (some_extent at end)

pub row_ends : (start at end : ℕ) (c : Bool) (old mid new : List Extent)
    (r : Result (Unit {0}) ElfError) → mid ≡ old ++ some_extent start at → c ≡ true
    → OnOk r (new ≡ mid ++ some_extent at end) → OnOk r (new ≡ old ++ row_extents start c at end)
row_ends start at end c old mid new (Ok x) first some more =
    row_written start at end c old mid new first some more
row_ends start at end c old mid new (Err e) first some more = tt

-- what is written from a place on, behind so many parts
abbrev pub left_from : Object → ℕ → ℕ → List Extent
left_from o from i = block_extents
    (written_between (kept_base o) o.fill (image_length o) from (drop i (planned_rows o)))

no_row : Bool × Block
no_row = (false, no_block)

pub extents_start : (o : Object) (old : List Extent) → old ≡ []
    → old ++ left_from o 0 0 ≡ block_extents (written_line o)
unfolding written_line
extents_start o old none = ap (λ (l : List Extent). l ++ left_from o 0 0) none

pub extents_more : (o : Object) (d : PartAt) (i from kept end : ℕ) (c : Bool)
    (old new all : List Extent) → IsReady o → i < length (planned o) → kept ≡ kept_base o
    → c ≡ part_changed o (get_or (planned o) i d).part
    → end ≡ (get_or (planned o) i d).at + (get_or (planned o) i d).len
    → new ≡ old ++ row_extents (max from kept) c (get_or (planned o) i d).at end
    → old ++ left_from o from i ≡ all → new ++ left_from o end (i + 1) ≡ all
extents_more o d i from kept end c old new all ready there same flag last more inv =
    let count = length-rows o in
    let p : PartAt = get_or (planned o) i d in
    let row : Bool × Block = get_or (planned_rows o) i no_row in
    let is = flagged_row_at o d no_row i ready there in
    let behind = end_is (get_or (planned_rows o) i no_row).1 in
    let place : end ≡ block_end (get_or (planned_rows o) i no_row).1 =
    omega (arith, last, is.at, is.len, behind) in
    let rows = drop_more (planned_rows o) i no_row (omega (arith, count, there)) in
    let own : row_extents (max from kept) c (get_or (planned o) i d).at end
    ≡ row_extents (max from (kept_base o)) (get_or (planned_rows o) i no_row).0
    (get_or (planned_rows o) i no_row).1.at (block_end (get_or (planned_rows o) i no_row).1) =
    ap (λ (k : ℕ). row_extents (max from k) c (get_or (planned o) i d).at end) same
    ∙ ap (λ (t : Bool). row_extents (max from (kept_base o)) t (get_or (planned o) i d).at end)
    (flag ∙ is.changed)
    ∙ ap (λ (k : ℕ). row_extents (max from (kept_base o)) (get_or (planned_rows o) i no_row).0 k end)
    is.at
    ∙ ap (λ (k : ℕ). row_extents (max from (kept_base o)) (get_or (planned_rows o) i no_row).0
    (get_or (planned_rows o) i no_row).1.at k) place in
    let step = row_step (kept_base o) o.fill (image_length o) from
    (get_or (planned_rows o) i no_row) (drop (i + 1) (planned_rows o)) in
    ap (λ (l : List Extent). l ++ left_from o end (i + 1)) more
    ∙ append_assoc old (row_extents (max from kept) c (get_or (planned o) i d).at end)
    (left_from o end (i + 1))
    ∙ ap (λ (l : List Extent). old ++ (l ++ left_from o end (i + 1))) own
    ∙ ap (λ (k : ℕ). old ++ (row_extents (max from (kept_base o))
    (get_or (planned_rows o) i no_row).0 (get_or (planned_rows o) i no_row).1.at
    (block_end (get_or (planned_rows o) i no_row).1) ++ left_from o k (i + 1))) place
    ∙ ap (λ (l : List Extent). old ++ l) (sym step)
    ∙ ap (λ (l : List (Bool × Block)). old ++ block_extents
    (written_between (kept_base o) o.fill (image_length o) from l)) (sym rows)
    ∙ inv

line_ends : (end from : ℕ) (bs : List Block) (i : ℕ) → AreInLine end from bs → i < length bs
    → block_end (get_or bs i no_block) ≤ end
line_ends end from [] i line there = absurd (omega (arith, there))
line_ends end from (b ∷ bs) zero line there = line_within end (block_end b) bs line.1
line_ends end from (b ∷ bs) (suc i) line there =
    line_ends end (block_end b) bs i line.1 (omega (arith, there))

-- a part of the plan ends within the image
pub part_within : (o : Object) (d : PartAt) (i : ℕ) → IsReady o → i < length (planned o)
    → (get_or (planned o) i d).at + (get_or (planned o) i d).len ≤ image_length o
part_within o d i ready there =
    let count = length-rows o in
    let is = flagged_row_at o d no_row i ready there in
    let behind = end_is (get_or (planned_rows o) i no_row).1 in
    let all = length-map (planned_rows o) (λ (r : Bool × Block). r.1) in
    let same = get_or-map (λ (r : Bool × Block). r.1) (planned_rows o) i no_row no_block
    (omega (arith, count, there)) in
    let within = line_ends (image_length o) 0 (map (λ r. r.1) (planned_rows o)) i
    (subst (λ (bs : List Block). AreInLine (image_length o) 0 bs) (sym (rows_plan o ready))
    (plan_line o ready)) (omega (arith, all, count, there)) in
    let end : block_end (get_or (map (λ r. r.1) (planned_rows o)) i no_block)
    ≡ block_end (get_or (planned_rows o) i no_row).1 = ap block_end same in
    omega (arith, is.at, is.len, behind, within, end)

pub extents_end : (o : Object) (i from kept end : ℕ) (old new all : List Extent)
    → length (planned o) ≤ i → kept ≡ kept_base o → end ≡ image_length o
    → new ≡ old ++ some_extent (max from kept) end
    → old ++ left_from o from i ≡ all → new ≡ all
unfolding block_extents
extents_end o i from kept end old new all past same last more inv =
    let count = length-rows o in
    let rows = drop_all i (planned_rows o) (omega (arith, count, past)) in
    more
    ∙ ap (λ (k : ℕ). old ++ some_extent (max from k) end) same
    ∙ ap (λ (k : ℕ). old ++ some_extent (max from (kept_base o)) k) last
    ∙ ap (λ (l : List Extent). old ++ l)
    (sym (fill_extent (kept_base o) o.fill from (image_length o)))
    ∙ ap (λ (l : List Extent). old ++ l)
    (sym (append-nil (some_extent (fill_block (kept_base o) o.fill from (image_length o)).at
    (block_end (fill_block (kept_base o) o.fill from (image_length o))))))
    ∙ ap (λ (l : List (Bool × Block)). old ++ block_extents
    (written_between (kept_base o) o.fill (image_length o) from l)) (sym rows)
    ∙ inv

-- ---- They stand apart

apart_later : (m n : ℕ) (es : List Extent) → n ≤ m → StandInOrder m es → StandInOrder n es
apart_later m n [] less apart = tt
apart_later m n (e ∷ es) less apart = (omega (arith, less, apart.0), apart.1, apart.2)

apart_some : (from a b : ℕ) (es : List Extent) → from ≤ a → from ≤ b → StandInOrder b es
    → (a < b → StandInOrder b es) → StandInOrder from (some_extent a b ++ es)
apart_some from a b es first second apart rest = ⊎_elim
    (λ below.
    subst (λ (l : List Extent). StandInOrder from (l ++ es)) (sym (one_extent a b below))
    (first, below, apart))
    (λ past.
    subst (λ (l : List Extent). StandInOrder from (l ++ es)) (sym (none_extent a b past))
    (apart_later b from es second apart))
    (cases_lt a b)

between_apart : (kept fill end from : ℕ) (rows : List (Bool × Block))
    → AreInLine end from (map (λ row. row.1) rows)
    → StandInOrder from (block_extents (written_between kept fill end from rows))
unfolding block_extents
between_apart kept fill end from [] line =
    subst (λ (l : List Extent). StandInOrder from (l ++ [])) (sym (fill_extent kept fill from end))
    (apart_some from (max from kept) end [] (omega arith) line tt (λ below. tt))
between_apart kept fill end from (row ∷ rows) line =
    let last = end_is row.1 in
    let rest = between_apart kept fill end (block_end row.1) rows line.1 in
    subst (λ (l : List Extent). StandInOrder from l)
    (sym (row_step kept fill end from row rows
    ∙ append_assoc (some_extent (max from kept) row.1.at)
    (if row.0 then some_extent row.1.at (block_end row.1) else [])
    (block_extents (written_between kept fill end (block_end row.1) rows))))
    (apart_some from (max from kept) row.1.at
    ((if row.0 then some_extent row.1.at (block_end row.1) else [])
    ++ block_extents (written_between kept fill end (block_end row.1) rows))
    (omega arith) line.0
    (by_change row.0 (omega (arith, last)) rest)
    (λ below. by_change row.0 (omega (arith, last)) rest))
  where
    by_change : (t : Bool) → row.1.at ≤ block_end row.1
        → StandInOrder (block_end row.1)
        (block_extents (written_between kept fill end (block_end row.1) rows))
        → StandInOrder row.1.at ((if t then some_extent row.1.at (block_end row.1) else [])
        ++ block_extents (written_between kept fill end (block_end row.1) rows))
    by_change true within rest =
        apart_some row.1.at row.1.at (block_end row.1)
        (block_extents (written_between kept fill end (block_end row.1) rows))
        (omega arith) within rest (λ below. rest)
    by_change false within rest =
        apart_later (block_end row.1) row.1.at
        (block_extents (written_between kept fill end (block_end row.1) rows)) within rest

pub written_apart : (o : Object) (es : List Extent) → IsReady o
    → es ≡ block_extents (written_line o) → StandInOrder 0 es
unfolding written_line
written_apart o es ready is =
    subst (λ (l : List Extent). StandInOrder 0 l) (sym is)
    (between_apart (kept_base o) o.fill (image_length o) 0 (planned_rows o)
    (subst (λ (bs : List Block). AreInLine (image_length o) 0 bs) (sym (rows_plan o ready))
    (plan_line o ready)))

-- ---- What meets them

empty_meets : (a m b n : ℕ) → n ≡ 0 → extents_meet a m b n ≡ false
empty_meets a m b n none =
    same_test (extents_meet a m b n) false
    (λ h.
    let is = meeting_from a m b n h in
    let other = is.other in
    absurd (omega (arith, none, other)))
    (λ h. cc)

or_false : (b : Bool) → (b || false) ≡ b
or_false true = refl
or_false false = refl

one_meets : (a m : ℕ) (b : Block) (es : List Extent)
    → list_any (λ e. extents_meet a m e.at (e.end - e.at)) (some_extent b.at (block_end b) ++ es)
    ≡ (extents_meet a m b.at (length b.bytes)
    || list_any (λ e. extents_meet a m e.at (e.end - e.at)) es)
one_meets a m b es =
    let last = end_is b in
    ⊎_elim
    (λ some.
    let size : block_end b - b.at ≡ length b.bytes = omega (arith, last) in
    ap (λ (l : List Extent). list_any (λ e. extents_meet a m e.at (e.end - e.at)) (l ++ es))
    (one_extent b.at (block_end b) (omega (arith, last, some)))
    ∙ ap (λ (n : ℕ). extents_meet a m b.at n
    || list_any (λ e. extents_meet a m e.at (e.end - e.at)) es) size)
    (λ none.
    ap (λ (l : List Extent). list_any (λ e. extents_meet a m e.at (e.end - e.at)) (l ++ es))
    (none_extent b.at (block_end b) (omega (arith, last, none)))
    ∙ ap (λ (t : Bool). t || list_any (λ e. extents_meet a m e.at (e.end - e.at)) es)
    (sym (empty_meets a m b.at (length b.bytes) (omega (arith, none)))))
    (cases_lt 0 (length b.bytes))

pub extents_meeting : (home : Home) (bs : List Block)
    → meets_extents home.at home.len (block_extents bs) ≡ meets_some home bs
unfolding meets_extents meets_some block_extents
extents_meeting home [] = refl
extents_meeting home (b ∷ bs) =
    one_meets home.at home.len b (block_extents bs)
    ∙ ap (λ (t : Bool). extents_meet home.at home.len b.at (length b.bytes) || t)
    (extents_meeting home bs)

-- ---- As they are listed

module _ (o : Object) (ps : List PartAt) (flags : List Bool) (ready : IsReady o)
    (listed : ps ≡ planned o) (told : flags ≡ map (λ p. part_changed o p.part) ps) where
  there_as : (i : ℕ) → i < length ps → i < length (planned o)
  there_as i there =
      let count = ap (λ (l : List PartAt). length l) listed in omega (arith, there, count)

  pub listed_more : (d : PartAt) (e : Bool) (i from kept end start : ℕ)
      (old new all : List Extent) → i < length ps → kept ≡ kept_base o
      → end ≡ (get_or ps i d).at + (get_or ps i d).len → start ≡ max from kept
      → new ≡ old ++ row_extents start (get_or flags i e) (get_or ps i d).at end
      → old ++ left_from o from i ≡ all → new ++ left_from o end (i + 1) ≡ all
  listed_more d e i from kept end start old new all there same last begin more inv =
      let flag : get_or flags i e ≡ part_changed o (get_or (planned o) i d).part =
      ap (λ (l : List Bool). get_or l i e) told
      ∙ get_or-map (λ (p : PartAt). part_changed o p.part) ps i d e there
      ∙ ap (λ (l : List PartAt). part_changed o (get_or l i d).part) listed in
      let at : (get_or ps i d).at ≡ (get_or (planned o) i d).at =
      ap (λ (l : List PartAt). (get_or l i d).at) listed in
      let sum : (get_or ps i d).at + (get_or ps i d).len
      ≡ (get_or (planned o) i d).at + (get_or (planned o) i d).len =
      ap (λ (l : List PartAt). (get_or l i d).at + (get_or l i d).len) listed in
      extents_more o d i from kept end (get_or flags i e) old new all ready (there_as i there) same
      flag (last ∙ sum)
      (more
      ∙ ap (λ (k : ℕ). old ++ row_extents k (get_or flags i e) (get_or ps i d).at end) begin
      ∙ ap (λ (k : ℕ). old ++ row_extents (max from kept) (get_or flags i e) k end) at)
      inv

  pub listed_within : (d : PartAt) (i : ℕ) → i < length ps
      → (get_or ps i d).at + (get_or ps i d).len ≤ image_length o
  listed_within d i there =
      subst (λ (l : List PartAt). (get_or l i d).at + (get_or l i d).len ≤ image_length o)
      (sym listed) (part_within o d i ready (there_as i there))

  pub listed_end : (i from kept end start : ℕ) (old new all : List Extent) → length ps ≤ i
      → kept ≡ kept_base o → end ≡ image_length o → start ≡ max from kept
      → new ≡ old ++ some_extent start end → old ++ left_from o from i ≡ all → new ≡ all
  listed_end i from kept end start old new all past same last begin more inv =
      let count = ap (λ (l : List PartAt). length l) listed in
      extents_end o i from kept end old new all (omega (arith, past, count)) same last
      (more ∙ ap (λ (k : ℕ). old ++ some_extent k end) begin) inv

-- ---- Homes

pub home_meets : (o : Object) (home : Home) (es : List Extent) (at len : ℕ) (m : Bool)
    → IsReady o → es ≡ block_extents (written_line o) → at ≡ home.at → len ≡ home.len
    → m ≡ meets_extents at len es
    → is_disturbed o home ≡ (m || (nat_lt 0 len && nat_lt (image_length o) (at + len)))
home_meets o home es at len m ready is place size told =
    let meets : meets_some home (written_blocks o) ≡ m =
    sym (line_meets o home ready)
    ∙ sym (extents_meeting home (written_line o))
    ∙ ap (λ (l : List Extent). meets_extents home.at home.len l) (sym is)
    ∙ ap (λ (k : ℕ). meets_extents k home.len es) (sym place)
    ∙ ap (λ (k : ℕ). meets_extents at k es) (sym size)
    ∙ sym told in
    disturbed_by_writes o home ready
    ∙ ap (λ (t : Bool). t
    || (nat_lt 0 home.len && nat_lt (image_length o) (home.at + home.len))) meets
    ∙ ap (λ (k : ℕ). m || (nat_lt 0 k && nat_lt (image_length o) (home.at + k))) (sym size)
    ∙ ap (λ (k : ℕ). m || (nat_lt 0 len && nat_lt (image_length o) (k + len))) (sym place)

pub home_met : (o : Object) (home : Home) (es : List Extent) (at len : ℕ) (m : Bool)
    → IsReady o → es ≡ block_extents (written_line o) → at ≡ home.at → len ≡ home.len
    → m ≡ meets_extents at len es → m ≡ true → true ≡ is_disturbed o home
home_met o home es at len m ready is place size told met =
    sym (home_meets o home es at len m ready is place size told
    ∙ ap (λ (t : Bool). t || (nat_lt 0 len && nat_lt (image_length o) (at + len))) met)

pub home_cut : (o : Object) (home : Home) (es : List Extent) (at len end : ℕ) (m r : Bool)
    → IsReady o → es ≡ block_extents (written_line o) → at ≡ home.at → len ≡ home.len
    → m ≡ meets_extents at len es → m ≡ false → 0 < len → end ≡ image_length o
    → r ≡ nat_lt end (at + len) → r ≡ is_disturbed o home
home_cut o home es at len end m r ready is place size told clear some last below =
    below ∙ ap (λ (k : ℕ). nat_lt k (at + len)) last
    ∙ sym (home_meets o home es at len m ready is place size told
    ∙ ap (λ (t : Bool). t || (nat_lt 0 len && nat_lt (image_length o) (at + len))) clear
    ∙ ap (λ (t : Bool). t && nat_lt (image_length o) (at + len)) (lt-ltb 0 len some))

pub home_empty : (o : Object) (home : Home) (es : List Extent) (at len : ℕ) (m : Bool)
    → IsReady o → es ≡ block_extents (written_line o) → at ≡ home.at → len ≡ home.len
    → m ≡ meets_extents at len es → m ≡ false → len ≤ 0 → nat_lt 0 len ≡ is_disturbed o home
home_empty o home es at len m ready is place size told clear none =
    le-ltb 0 len none
    ∙ sym (home_meets o home es at len m ready is place size told
    ∙ ap (λ (t : Bool). t || (nat_lt 0 len && nat_lt (image_length o) (at + len))) clear
    ∙ ap (λ (t : Bool). t && nat_lt (image_length o) (at + len)) (le-ltb 0 len none))
