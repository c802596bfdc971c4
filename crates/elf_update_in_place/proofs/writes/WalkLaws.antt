-- The walk over a plan: the fill of a gap and the part behind it, one after another.
use Rattle.std.proofs.Common.{◌≡◌, ℕ, zero, suc, ◌+◌, ◌-◌, ◌<◌, ◌≤◌, max, Bool, true, false, List, [], ◌∷◌, ◌++◌, Result, Ok, Err, length, drop, get_or, replicate, refl, sym, ap, ◌∙◌, subst, append_assoc, arith}
use Rattle.std.specs.Prelude.{IsTrue, map}
use Rattle.std.specs.List.{AllByRecursion}
use Rattle.std.proofs.lemmas.List.{drop_more, drop_all, length-replicate}
use Rattle.elf_types.specs.declared.errors.ElfError.{ElfError}
use Rattle.elf_types.specs.declared.records.Part.{Part}
use Rattle.elf_layout.specs.declared.parts.PartAt.{PartAt}
use Rattle.elf_outside.specs.declared.sources.Source.{Ghosts as SourceGhosts}
use Rattle.elf_outside.specs.declared.devices.Device.{Ghosts as DeviceGhosts}
use Rattle.elf_update_to.specs.elf_object.Blocks.{Block, block_end}
use Rattle.elf_update_to.specs.elf_object.Changed.{when}
use Rattle.elf_update_to.specs.law_object.Writing.Lines.{AreInLine}
use Rattle.elf_update_to.specs.law_object.Writing.Plan.{fill_block}
use Rattle.elf_update_to.proofs.law_object.writing.LineLaws.{line_within, end_is}
use Rattle.elf_update_to.specs.elf_descriptor.State.{State}
use Rattle.elf_update_to.specs.elf_descriptor.Cuts.{MayWrite}
use Rattle.elf_update_to.specs.elf_update_plan.Plans.{no_part}
use Rattle.elf_update_to.specs.Pieces.{pieces_length, stacked_text, block_at, blocks_at, HasLength}
use Rattle.elf_update_to.proofs.PieceLaws.{length-joined_pieces}
use Rattle.elf_update_in_place.specs.Moves.Written.{written_between}
use Rattle.elf_update_in_place.specs.Writes.Overwrites.{NeedsNoRead, MayOverwrite, Overwrites}
use Rattle.elf_update_in_place.specs.Writes.Walks.{put_end, rows_of, put_blocks, MayPut, MayPutAll, NeedNoRead, PutsAll}
use Rattle.elf_update_in_place.proofs.writes.OverLaws.{may_rebased, may_within}
use Rattle.elf_update_in_place.proofs.writes.SkipLaws.{put_end_most, put_front, front_stands, front_fewer, front_past}
use Rattle.elf_update_to.specs.Descriptors.{stored_pieces}
use Rattle.elf_update_in_place.proofs.writes.RebaseLaws.{at_hand_after, pieces_after}
use Rattle.elf_update_in_place.proofs.writes.PutLaws.{all_none, all_one, all_front, all_then, all_stop, all_as}

each_middle : (P : Block → Type 0) (bs : List Block) (b : Block) (cs : List Block)
    → AllByRecursion P (bs ++ (b ∷ cs)) → P b
each_middle P [] b cs each = each.0
each_middle P (x ∷ bs) b cs each = each_middle P bs b cs each.1

-- ---- What a block rests on, after others were put

module _ {D : Type 0} (s : SourceGhosts D) (d : DeviceGhosts D) (old_end : ℕ) where
  pub block_may : (e : State D) (line : List Block) (b : Block) → MayPutAll s e line → MayPut s e b
      → MayOverwrite s e b.at (length b.bytes)
  block_may e line b all may =
      let last = end_is b in
      let within = may.within in
      let small = may.small in
      record {
        ready = all.ready;
        within = omega (arith, last, within);
        small = omega (arith, last, small);
        base = all.base;
        may = may.may;
      }

  -- what was put leaves it
  pub may_on : {T : Type 0} (r : Result T ElfError) (e f : State D) (at n : ℕ) (line : List Block)
      → PutsAll s d old_end r e f line → MayOverwrite s e at n → MayOverwrite s f at n
  may_on r e f at n line puts may =
      let size = puts.size in
      let within = may.within in
      record {
        ready = subst IsTrue (sym (ap (λ (q : State D). q.ready) puts.change.state)) may.ready;
        within = omega (arith, size, within);
        small = may.small;
        base = puts.change.base;
        may = subst (λ (q : State D). MayWrite q at n) (sym puts.change.state)
            (may_rebased s d e f.o.base f.source at n puts.change.long may.may);
      }

-- ---- Blocks that lie in a device

pub part_fits : (fill : ℕ) (pieces : Part → List (ℕ × List ℕ)) (p : PartAt) (size : ℕ)
    → HasLength pieces p → p.at + p.len ≤ size → block_end (block_at fill pieces p) ≤ size
unfolding block_end
part_fits fill pieces p size long within =
    let all = length-joined_pieces fill (pieces p.part) in
    omega (arith, all, long, within)

pub fill_fits : (kept fill from end size : ℕ) → max from kept + (end - max from kept) ≤ size
    → block_end (fill_block kept fill from end) ≤ size
unfolding block_end
fill_fits kept fill from end size within =
    let filled = length-replicate (end - max from kept) fill in
    omega (arith, filled, within)

-- ---- The fill of a gap, of which zeros behind the old end are not put

module _ {D : Type 0} (s : SourceGhosts D) (d : DeviceGhosts D) (old_end : ℕ) (e : State D)
    (kept fill from end : ℕ)
    (may : MayOverwrite s e (max from kept) (end - max from kept)) where
  pub front_may : MayOverwrite s e (max from kept) (put_end fill old_end end - max from kept)
  front_may =
      let most = put_end_most fill old_end end in
      may_within s d e (max from kept) (end - max from kept) (max from kept)
      (put_end fill old_end end - max from kept) (omega arith) (omega (arith, most)) may

  pub front_put : (r : Result (Unit {0}) ElfError) (f : State D)
      → Overwrites s d r e f (max from kept)
      (replicate (put_end fill old_end end - max from kept) fill)
      → PutsAll s d old_end r e f (fill_block kept fill from end ∷ [])
  front_put r f over =
      all_front s d old_end r e f (put_front kept fill old_end from end)
      (fill_block kept fill from end) (front_fewer kept fill old_end from end)
      (front_stands kept fill old_end from end) (front_past kept fill old_end from end)
      (all_one s d old_end e f (put_front kept fill old_end from end)
      (fill_fits kept fill from (put_end fill old_end end) (s.size e.source) front_may.within) r
      over)

-- ---- Rows

module _ (kept fill end : ℕ) (pieces : Part → List (ℕ × List ℕ)) where
  -- what is put from a place on, of these parts
  abbrev pub left_line : ℕ → List PartAt → List Bool → List Block
  left_line from plan flags = written_between kept fill end from (rows_of fill pieces plan flags)

  block_ends : (p : PartAt) → HasLength pieces p → block_end (block_at fill pieces p) ≡ p.at + p.len
  unfolding block_end
  block_ends p long = let all = length-joined_pieces fill (pieces p.part) in omega (arith, all, long)

  pub line_next : (from : ℕ) (q : PartAt) (rest : List PartAt) → HasLength pieces q
      → AreInLine end from (blocks_at fill pieces (q ∷ rest))
      → AreInLine end (q.at + q.len) (blocks_at fill pieces rest)
  unfolding blocks_at
  line_next from q rest long line =
      subst (λ (n : ℕ). AreInLine end n (map (block_at fill pieces) rest)) (block_ends q long) line.1

  -- the fill of the gap, the next part where it changes, and the rest
  pub line_step : (from : ℕ) (p : PartAt) (plan : List PartAt) (c : Bool) (flags : List Bool)
      → HasLength pieces p
      → left_line from (p ∷ plan) (c ∷ flags)
      ≡ fill_block kept fill from p.at
      ∷ (when c (block_at fill pieces p) ++ left_line (p.at + p.len) plan flags)
  unfolding rows_of
  line_step from p plan c flags long =
      ap (λ (n : ℕ). fill_block kept fill from p.at
      ∷ (when c (block_at fill pieces p) ++ written_between kept fill end n (rows_of fill pieces plan flags)))
      (block_ends p long)

  pub line_last : (from : ℕ) (flags : List Bool)
      → left_line from [] flags ≡ fill_block kept fill from end ∷ []
  unfolding rows_of
  line_last from flags = refl

-- the blocks before the part with an index stand, which ends at a place
pub record AreSoFar {D : Type 0} (s : SourceGhosts D) (d : DeviceGhosts D) (old_end : ℕ)
    (e f : State D) (kept fill end : ℕ) (pieces : Part → List (ℕ × List ℕ)) (plan : List PartAt)
    (flags : List Bool) (i from : ℕ) : Type 0 where
  pub done : List Block
  pub puts : PutsAll s d old_end (Ok (tt {0})) e f done
  pub all : done ++ left_line kept fill end pieces from (drop i plan) (drop i flags)
      ≡ put_blocks kept fill end pieces plan flags
  pub line : AreInLine end from (blocks_at fill pieces (drop i plan))

module _ {D : Type 0} (s : SourceGhosts D) (d : DeviceGhosts D) (old_end : ℕ) (e : State D)
    (kept fill end : ℕ) (pieces : Part → List (ℕ × List ℕ)) (plan : List PartAt) (flags : List Bool)
    (may : MayPutAll s e (put_blocks kept fill end pieces plan flags)) where
  abbrev IsSoFar : State D → ℕ → ℕ → Type 0
  IsSoFar f i from = AreSoFar s d old_end e f kept fill end pieces plan flags i from

  pub walk_starts : AreInLine end 0 (blocks_at fill pieces plan) → IsSoFar e 0 0
  walk_starts line = record {
    done = [];
    puts = all_none s d old_end e may.base;
    all = refl;
    line = line;
  }

  -- what is left of the line, where another part comes
  next_is : (f : State D) (i from : ℕ) → i < length plan → length flags ≡ length plan
      → HasLength pieces (get_or plan i no_part) → (put : IsSoFar f i from)
      → put.done ++ (fill_block kept fill from (get_or plan i no_part).at
      ∷ (when (get_or flags i false) (block_at fill pieces (get_or plan i no_part))
      ++ left_line kept fill end pieces ((get_or plan i no_part).at + (get_or plan i no_part).len)
      (drop (i + 1) plan) (drop (i + 1) flags)))
      ≡ put_blocks kept fill end pieces plan flags
  next_is f i from there count long put =
      ap (λ (l : List Block). put.done ++ l)
      (sym (line_step kept fill end pieces from (get_or plan i no_part) (drop (i + 1) plan)
      (get_or flags i false) (drop (i + 1) flags) long)
      ∙ ap (λ (l : List PartAt). left_line kept fill end pieces from l
      (get_or flags i false ∷ drop (i + 1) flags)) (sym (drop_more plan i no_part there))
      ∙ ap (λ (l : List Bool). left_line kept fill end pieces from (drop i plan) l)
      (sym (drop_more flags i false (omega (arith, there, count)))))
      ∙ put.all

  -- the gap before it
  abbrev gap_at : ℕ → ℕ → Block
  gap_at i from = fill_block kept fill from (get_or plan i no_part).at

  -- the part, where it changes
  abbrev part_at : ℕ → List Block
  part_at i = when (get_or flags i false) (block_at fill pieces (get_or plan i no_part))

  abbrev rest_at : ℕ → List Block
  rest_at i =
      left_line kept fill end pieces ((get_or plan i no_part).at + (get_or plan i no_part).len)
      (drop (i + 1) plan) (drop (i + 1) flags)

  each_next : (f : State D) (i from : ℕ) → i < length plan → length flags ≡ length plan
      → HasLength pieces (get_or plan i no_part) → (put : IsSoFar f i from)
      → AllByRecursion (MayPut s e) (put.done ++ (gap_at i from ∷ (part_at i ++ rest_at i)))
  each_next f i from there count long put =
      subst (λ (l : List Block). AllByRecursion (MayPut s e) l)
      (sym (next_is f i from there count long put)) may.blocks

  -- it rests on no more than the line
  pub gap_may : (f : State D) (i from : ℕ) → i < length plan → length flags ≡ length plan
      → HasLength pieces (get_or plan i no_part) → IsSoFar f i from
      → MayOverwrite s f (max from kept) ((get_or plan i no_part).at - max from kept)
  gap_may f i from there count long put =
      let one = each_middle (MayPut s e) put.done (gap_at i from) (part_at i ++ rest_at i)
      (each_next f i from there count long put) in
      let filled = length-replicate ((get_or plan i no_part).at - max from kept) fill in
      subst (λ (n : ℕ). MayOverwrite s f (max from kept) n) filled
      (may_on s d old_end (Ok (tt {0})) e f (max from kept)
      (length (replicate ((get_or plan i no_part).at - max from kept) fill)) put.done put.puts
      (block_may s d old_end e (put_blocks kept fill end pieces plan flags) (gap_at i from) may
      one))

  -- the part behind it, too
  pub part_may : (f g : State D) (i from : ℕ) → i < length plan → length flags ≡ length plan
      → HasLength pieces (get_or plan i no_part) → IsSoFar f i from
      → PutsAll s d old_end (Ok (tt {0})) f g (gap_at i from ∷ []) → get_or flags i false ≡ true
      → MayOverwrite s g (get_or plan i no_part).at (get_or plan i no_part).len
  part_may f g i from there count long put gap changes =
      let b : Block = block_at fill pieces (get_or plan i no_part) in
      let one = each_middle (MayPut s e) (put.done ++ (gap_at i from ∷ []))
      (block_at fill pieces (get_or plan i no_part)) (rest_at i)
      (subst (λ (l : List Block). AllByRecursion (MayPut s e) l)
      (ap (λ (c : Bool). put.done ++ (gap_at i from
      ∷ (when c (block_at fill pieces (get_or plan i no_part)) ++ rest_at i))) changes
      ∙ sym (append_assoc put.done (gap_at i from ∷ [])
      (block_at fill pieces (get_or plan i no_part) ∷ rest_at i)))
      (each_next f i from there count long put)) in
      let all = length-joined_pieces fill (pieces (get_or plan i no_part).part) in
      let size : length (stacked_text fill (pieces (get_or plan i no_part).part)) ≡ (get_or plan i no_part).len =
      omega (arith, all, long) in
      subst (λ (n : ℕ). MayOverwrite s g (get_or plan i no_part).at n) size
      (may_on s d old_end (Ok (tt {0})) e g (get_or plan i no_part).at
      (length (stacked_text fill (pieces (get_or plan i no_part).part))) (put.done ++ (gap_at i from ∷ []))
      (all_then s d old_end tt (Ok tt) e f g put.done (gap_at i from ∷ []) put.puts gap)
      (block_may s d old_end e (put_blocks kept fill end pieces plan flags)
      (block_at fill pieces (get_or plan i no_part)) may one))

  -- the part ends within the image
  pub part_ends : (f : State D) (i from : ℕ) → i < length plan
      → HasLength pieces (get_or plan i no_part) → IsSoFar f i from
      → (get_or plan i no_part).at + (get_or plan i no_part).len ≤ end
  part_ends f i from there long put =
      let line = subst (λ (l : List PartAt). AreInLine end from (blocks_at fill pieces l))
      (drop_more plan i no_part there) put.line in
      line_within end ((get_or plan i no_part).at + (get_or plan i no_part).len)
      (blocks_at fill pieces (drop (i + 1) plan))
      (line_next kept fill end pieces from (get_or plan i no_part) (drop (i + 1) plan) long line)

  -- the gap was refused
  pub gap_stops : (x : ElfError) (f g : State D) (i from : ℕ) → i < length plan
      → length flags ≡ length plan → HasLength pieces (get_or plan i no_part)
      → IsSoFar f i from → PutsAll {T = Unit {0}} s d old_end (Err x) f g (gap_at i from ∷ [])
      → PutsAll {T = Unit {0}} s d old_end (Err x) e g (put_blocks kept fill end pieces plan flags)
  gap_stops x f g i from there count long put gap =
      all_as s d old_end (Err x) e g
      ((put.done ++ (gap_at i from ∷ [])) ++ (part_at i ++ rest_at i))
      (put_blocks kept fill end pieces plan flags)
      (append_assoc put.done (gap_at i from ∷ []) (part_at i ++ rest_at i)
      ∙ next_is f i from there count long put)
      (all_stop s d old_end x e g (put.done ++ (gap_at i from ∷ [])) (part_at i ++ rest_at i)
      (all_then s d old_end tt (Err x) e f g put.done (gap_at i from ∷ []) put.puts gap))

  both_put : (q : Result (Unit {0}) ElfError) (f g h : State D) (i from : ℕ) → (put : IsSoFar f i from)
      → PutsAll s d old_end (Ok (tt {0})) f g (gap_at i from ∷ [])
      → PutsAll s d old_end q g h (part_at i)
      → PutsAll s d old_end q e h ((put.done ++ (gap_at i from ∷ [])) ++ part_at i)
  both_put q f g h i from put gap one =
      all_then s d old_end tt q e g h (put.done ++ (gap_at i from ∷ [])) (part_at i)
      (all_then s d old_end tt (Ok tt) e f g put.done (gap_at i from ∷ []) put.puts gap) one

  both_is : (f : State D) (i from : ℕ) → i < length plan → length flags ≡ length plan
      → HasLength pieces (get_or plan i no_part) → (put : IsSoFar f i from)
      → ((put.done ++ (gap_at i from ∷ [])) ++ part_at i) ++ rest_at i
      ≡ put_blocks kept fill end pieces plan flags
  both_is f i from there count long put =
      append_assoc (put.done ++ (gap_at i from ∷ [])) (part_at i) (rest_at i)
      ∙ append_assoc put.done (gap_at i from ∷ []) (part_at i ++ rest_at i)
      ∙ next_is f i from there count long put

  -- the part was refused
  pub part_stops : (x : ElfError) (f g h : State D) (i from : ℕ) → i < length plan
      → length flags ≡ length plan → HasLength pieces (get_or plan i no_part)
      → IsSoFar f i from → PutsAll s d old_end (Ok (tt {0})) f g (gap_at i from ∷ [])
      → PutsAll {T = Unit {0}} s d old_end (Err x) g h (part_at i)
      → PutsAll {T = Unit {0}} s d old_end (Err x) e h (put_blocks kept fill end pieces plan flags)
  part_stops x f g h i from there count long put gap one =
      all_as s d old_end (Err x) e h
      (((put.done ++ (gap_at i from ∷ [])) ++ part_at i) ++ rest_at i)
      (put_blocks kept fill end pieces plan flags) (both_is f i from there count long put)
      (all_stop s d old_end x e h ((put.done ++ (gap_at i from ∷ [])) ++ part_at i) (rest_at i)
      (both_put (Err x) f g h i from put gap one))

  -- both stand
  pub walk_goes_on : (f g h : State D) (i from : ℕ) → i < length plan
      → length flags ≡ length plan → HasLength pieces (get_or plan i no_part)
      → IsSoFar f i from → PutsAll s d old_end (Ok (tt {0})) f g (gap_at i from ∷ [])
      → PutsAll s d old_end (Ok (tt {0})) g h (part_at i)
      → IsSoFar h (i + 1) ((get_or plan i no_part).at + (get_or plan i no_part).len)
  walk_goes_on f g h i from there count long put gap one = record {
    done = (put.done ++ (gap_at i from ∷ [])) ++ part_at i;
    puts = both_put (Ok tt) f g h i from put gap one;
    all = both_is f i from there count long put;
    line = line_next kept fill end pieces from (get_or plan i no_part) (drop (i + 1) plan) long
        (subst (λ (l : List PartAt). AreInLine end from (blocks_at fill pieces l))
        (drop_more plan i no_part there) put.line);
  }

  -- the last gap
  last_is : (f : State D) (i from : ℕ) → length plan ≤ i → length flags ≡ length plan
      → (put : IsSoFar f i from)
      → put.done ++ (fill_block kept fill from end ∷ []) ≡ put_blocks kept fill end pieces plan flags
  last_is f i from past count put =
      ap (λ (l : List Block). put.done ++ l)
      (sym (line_last kept fill end pieces from (drop i flags))
      ∙ ap (λ (l : List PartAt). left_line kept fill end pieces from l (drop i flags))
      (sym (drop_all i plan past)))
      ∙ put.all

  pub last_may : (f : State D) (i from : ℕ) → length plan ≤ i → length flags ≡ length plan
      → IsSoFar f i from → MayOverwrite s f (max from kept) (end - max from kept)
  last_may f i from past count put =
      let one = each_middle (MayPut s e) put.done (fill_block kept fill from end) []
      (subst (λ (l : List Block). AllByRecursion (MayPut s e) l)
      (sym (last_is f i from past count put)) may.blocks) in
      let filled = length-replicate (end - max from kept) fill in
      subst (λ (n : ℕ). MayOverwrite s f (max from kept) n) filled
      (may_on s d old_end (Ok (tt {0})) e f (max from kept)
      (length (replicate (end - max from kept) fill))
      put.done put.puts
      (block_may s d old_end e (put_blocks kept fill end pieces plan flags)
      (fill_block kept fill from end) may one))

  pub walk_ends : (r : Result (Unit {0}) ElfError) (f g : State D) (i from : ℕ)
      → length plan ≤ i → length flags ≡ length plan → IsSoFar f i from
      → PutsAll s d old_end r f g (fill_block kept fill from end ∷ [])
      → PutsAll s d old_end r e g (put_blocks kept fill end pieces plan flags)
  walk_ends r f g i from past count put gap =
      all_as s d old_end r e g (put.done ++ (fill_block kept fill from end ∷ []))
      (put_blocks kept fill end pieces plan flags) (last_is f i from past count put)
      (all_then s d old_end tt r e f g put.done (fill_block kept fill from end ∷ []) put.puts gap)

-- ---- What is at hand

hand_at : {S : Type 0} (e : State S) (plan : List PartAt) (flags : List Bool) (i : ℕ)
    → i < length plan → length flags ≡ length plan → NeedNoRead e plan flags
    → get_or flags i false ≡ true → NeedsNoRead e (get_or plan i no_part).part
hand_at e [] flags i there count are changes = absurd (omega arith)
hand_at e (p ∷ ps) [] i there count are changes = absurd (omega arith)
hand_at e (p ∷ ps) (c ∷ cs) zero there count are changes = are.0 changes
hand_at e (p ∷ ps) (c ∷ cs) (suc i) there count are changes =
    hand_at e ps cs i (omega arith) (omega arith) are.1 changes

-- after blocks were put
pub hand_on : {D : Type 0} (e f : State D) (plan : List PartAt) (flags : List Bool) (i : ℕ)
    → f ≡ record e { o = record e.o { base = f.o.base }; source = f.source }
    → i < length plan → length flags ≡ length plan → NeedNoRead e plan flags
    → get_or flags i false ≡ true → NeedsNoRead f (get_or plan i no_part).part
hand_on e f plan flags i state there count are changes =
    at_hand_after e f state (get_or plan i no_part).part (hand_at e plan flags i there count are changes)

-- the length of a part, and its block
pub long_on : {D : Type 0} (e f : State D)
    → f ≡ record e { o = record e.o { base = f.o.base }; source = f.source } → (p : PartAt)
    → HasLength (stored_pieces e.o) p → HasLength (stored_pieces f.o) p
long_on e f state p long =
    subst (λ (ps : List (ℕ × List ℕ)). p.len ≡ pieces_length ps) (sym (pieces_after e f state p.part)) long

pub puts_on : {D : Type 0} (s : SourceGhosts D) (d : DeviceGhosts D) (old_end : ℕ) (e f : State D)
    → f ≡ record e { o = record e.o { base = f.o.base }; source = f.source }
    → (r : Result (Unit {0}) ElfError) (g : State D) (c : Bool) (fill : ℕ) (p : PartAt)
    → PutsAll s d old_end r f g (when c (block_at fill (stored_pieces f.o) p))
    → PutsAll s d old_end r f g (when c (block_at fill (stored_pieces e.o) p))
puts_on s d old_end e f state r g c fill p puts =
    subst (λ (ps : List (ℕ × List ℕ)).
    PutsAll s d old_end r f g (when c (record { at = p.at; bytes = stacked_text fill ps })))
    (pieces_after e f state p.part) puts
