-- The parts of an image by their places, one after the other.
use Rattle.std.proofs.Common.{◌≡◌, ℕ, ◌+◌, ◌<◌, ◌≤◌, List, [], ◌∷◌, ◌++◌, Result, Ok, Err, length, drop, get_or, refl, sym, ap, ◌∙◌, subst, append_assoc, arith}
use Rattle.std.specs.Prelude.{map, sum_by}
use Rattle.std.proofs.lemmas.List.{drop_more, drop_all}
use Rattle.std.proofs.lemmas.List.Sums.{sum_by-cons}
use Rattle.elf_types.specs.declared.errors.ElfError.{ElfError}
use Rattle.elf_types.specs.declared.records.Part.{Part}
use Rattle.elf_update_plan.specs.elf_layout.declared.parts.PartAt.{PartAt}
use Rattle.elf_update_plan.specs.elf_outside.declared.sinks.Sink.{Ghosts as SinkGhosts}
use Rattle.elf_update_plan.specs.elf_object.Blocks.{block_end}
use Rattle.elf_update_plan.specs.law_object.Writing.Lines.{AreInLine, in_line}
use Rattle.elf_update_plan.specs.law_object.Writing.Plan.{places_below, base_gaps}
use Rattle.elf_update_plan.proofs.law_object.writing.LineLaws.{line_within}
use Rattle.elf_update_to.specs.declared.parts.ImageParts.{Ghosts}
use Rattle.elf_update_to.specs.Pieces.{stacked_text, block_at, blocks_at, HasLength}
use Rattle.elf_update_to.specs.Emits.{Emits, ground_byte, gap_text}
use Rattle.elf_update_to.proofs.EmitLaws.{emits_none, emits_both, emits_stop, emits_as}
use Rattle.elf_update_to.proofs.GapLaws.{ground_gap}
use Rattle.elf_update_to.proofs.PieceLaws.{length-joined_pieces}

module _ (base : List ℕ) (kept fill end : ℕ) (pieces : Part → List (ℕ × List ℕ)) (due : Part → ℕ) where
  -- what is left of an image from a place on, of these parts
  abbrev pub rest_text : ℕ → List PartAt → List ℕ
  rest_text from plan = in_line end (ground_byte base kept fill) from (blocks_at fill pieces plan)

  -- what it is due
  abbrev pub rest_due : ℕ → List PartAt → ℕ
  rest_due from plan = sum_by (λ q. due q.part) plan + base_gaps kept end from (blocks_at fill pieces plan)

  end_is : (q : PartAt) → HasLength pieces q → block_end (block_at fill pieces q) ≡ q.at + q.len
  unfolding block_end
  end_is q long = let all = length-joined_pieces fill (pieces q.part) in omega (arith, all, long)

  rest_step : (from : ℕ) (q : PartAt) (plan : List PartAt) → kept ≤ length base → HasLength pieces q
      → rest_text from (q ∷ plan)
      ≡ gap_text base kept fill from q.at ++ (stacked_text fill (pieces q.part) ++ rest_text (q.at + q.len) plan)
  unfolding blocks_at
  rest_step from q plan most long =
      ap (λ (l : List ℕ). l ++ (stacked_text fill (pieces q.part) ++ in_line end
      (ground_byte base kept fill) (block_end (block_at fill pieces q))
      (map (block_at fill pieces) plan)))
      (ground_gap base kept fill from q.at most)
      ∙ ap (λ (n : ℕ). gap_text base kept fill from q.at
      ++ (stacked_text fill (pieces q.part) ++ in_line end (ground_byte base kept fill) n
      (map (block_at fill pieces) plan)))
      (end_is q long)

  due_step : (from : ℕ) (q : PartAt) (plan : List PartAt) → HasLength pieces q
      → rest_due from (q ∷ plan) ≡ places_below kept from q.at + (due q.part + rest_due (q.at + q.len) plan)
  unfolding blocks_at
  due_step from q plan long =
      let first = sum_by-cons (λ (x : PartAt). due x.part) q plan in
      let place : base_gaps kept end (block_end (block_at fill pieces q))
      (map (block_at fill pieces) plan) ≡ base_gaps kept end (q.at + q.len)
      (map (block_at fill pieces) plan) =
      ap (λ (n : ℕ). base_gaps kept end n (map (block_at fill pieces) plan)) (end_is q long) in
      omega (arith, first, place)

  line_step : (from : ℕ) (q : PartAt) (plan : List PartAt) → HasLength pieces q
      → AreInLine end from (blocks_at fill pieces (q ∷ plan))
      → AreInLine end (q.at + q.len) (blocks_at fill pieces plan)
  unfolding blocks_at
  line_step from q plan long line =
      subst (λ (n : ℕ). AreInLine end n (map (block_at fill pieces) plan)) (end_is q long) line.1

  rest_none : (from : ℕ) → kept ≤ length base → rest_text from [] ≡ gap_text base kept fill from end
  unfolding blocks_at
  rest_none from most = ground_gap base kept fill from end most

  due_none : (from : ℕ) → rest_due from [] ≡ places_below kept from end
  unfolding blocks_at
  due_none from = omega arith

-- of an image the parts of its plan before the one with an index are put, which end at a place
pub record IsImagePut {P K : Type 0} (p : Ghosts P) (k : SinkGhosts K) (base : List ℕ) (kept fill end : ℕ)
    (pieces : Part → List (ℕ × List ℕ)) (due : Part → ℕ) (plan : List PartAt)
    (o o' : P) (s t : K) (w v : List ℕ) (i from : ℕ) : Type 0 where
  pub done : List ℕ
  pub spent : ℕ
  pub emits : Emits p k (Ok (tt {0})) o o' s t w v done spent
  pub all : done ++ rest_text base kept fill end pieces due from (drop i plan)
      ≡ rest_text base kept fill end pieces due 0 plan
  pub line : AreInLine end from (blocks_at fill pieces (drop i plan))
  pub left : spent + rest_due base kept fill end pieces due from (drop i plan)
      ≤ rest_due base kept fill end pieces due 0 plan

module _ {P K : Type 0} (p : Ghosts P) (k : SinkGhosts K) (base : List ℕ) (kept fill end : ℕ)
    (pieces : Part → List (ℕ × List ℕ)) (due : Part → ℕ) (plan : List PartAt) (d : PartAt)
    (most : kept ≤ length base) where
  abbrev IsSoFar : P → P → K → K → List ℕ → List ℕ → ℕ → ℕ → Type 0
  IsSoFar o o' s t w v i from = IsImagePut p k base kept fill end pieces due plan o o' s t w v i from

  pub image_starts : (o : P) (s : K) (w : List ℕ) → AreInLine end 0 (blocks_at fill pieces plan)
      → IsSoFar o o s s w w 0 0
  image_starts o s w line = record {
    done = [];
    spent = 0;
    emits = emits_none p k o s w;
    all = refl;
    line = line;
    left = omega arith;
  }

  -- the next part begins where the gap ends, and ends within the image
  pub next_ends : (o o' : P) (s t : K) (w v : List ℕ) (i from : ℕ) → i < length plan
      → HasLength pieces (get_or plan i d)
      → IsSoFar o o' s t w v i from → (get_or plan i d).at + (get_or plan i d).len ≤ end
  next_ends o o' s t w v i from there long put =
      let line = subst (λ (l : List PartAt). AreInLine end from (blocks_at fill pieces l))
      (drop_more plan i d there) put.line in
      line_within end ((get_or plan i d).at + (get_or plan i d).len) (blocks_at fill pieces (drop (i + 1) plan))
      (line_step base kept fill end pieces due from (get_or plan i d) (drop (i + 1) plan) long line)

  -- the gap before the next part was refused
  pub gap_stops_image : (e : ElfError) (o o' o'' : P) (s t u : K) (w v v' : List ℕ) (i from : ℕ) → i < length plan
      → HasLength pieces (get_or plan i d) → IsSoFar o o' s t w v i from
      → Emits {T = Unit {0}} p k (Err e) o' o'' t u v v'
      (gap_text base kept fill from (get_or plan i d).at)
      (places_below kept from (get_or plan i d).at)
      → Emits {T = Unit {0}} p k (Err e) o o'' s u w v'
      (rest_text base kept fill end pieces due 0 plan)
      (rest_due base kept fill end pieces due 0 plan)
  gap_stops_image e o o' o'' s t u w v v' i from there long put step =
      let q : PartAt = get_or plan i d in
      let gap : List ℕ = gap_text base kept fill from (get_or plan i d).at in
      let rest : List ℕ = stacked_text fill (pieces (get_or plan i d).part) ++ rest_text base kept fill
      end pieces due ((get_or plan i d).at + (get_or plan i d).len) (drop (i + 1) plan) in
      let cost = due_step base kept fill end pieces due from (get_or plan i d) (drop (i + 1) plan) long in
      let left : rest_due base kept fill end pieces due from (drop i plan)
      ≡ rest_due base kept fill end pieces due from (get_or plan i d ∷ drop (i + 1) plan) =
      ap (rest_due base kept fill end pieces due from) (drop_more plan i d there) in
      emits_as {T = Unit {0}} p k (Err e) o o'' s u w v'
      ((put.done ++ gap_text base kept fill from (get_or plan i d).at)
      ++ (stacked_text fill (pieces (get_or plan i d).part) ++ rest_text base kept fill end pieces due
      ((get_or plan i d).at + (get_or plan i d).len) (drop (i + 1) plan)))
      (rest_text base kept fill end pieces due 0 plan)
      (rest_due base kept fill end pieces due 0 plan) (rest_due base kept fill end pieces due 0 plan)
      (append_assoc put.done (gap_text base kept fill from (get_or plan i d).at)
      (stacked_text fill (pieces (get_or plan i d).part) ++ rest_text base kept fill end pieces due
      ((get_or plan i d).at + (get_or plan i d).len) (drop (i + 1) plan))
      ∙ ap (λ (l : List ℕ). put.done ++ l) (sym (rest_step base kept fill end pieces due from
      (get_or plan i d) (drop (i + 1) plan) most long))
      ∙ ap (λ (l : List PartAt). put.done ++ rest_text base kept fill end pieces due from l)
      (sym (drop_more plan i d there))
      ∙ put.all) (omega arith)
      (emits_stop {T = Unit {0}} {U = Unit {0}} p k e o o'' s u w v' v'
      (put.done ++ gap_text base kept fill from (get_or plan i d).at)
      (stacked_text fill (pieces (get_or plan i d).part) ++ rest_text base kept fill end pieces due
      ((get_or plan i d).at + (get_or plan i d).len) (drop (i + 1) plan))
      (put.spent + places_below kept from (get_or plan i d).at) (rest_due base kept fill end pieces due 0 plan)
      (omega (arith, put.left, cost, left))
      (emits_both p k tt (Err e) o o' o'' s t u w v v' put.done
      (gap_text base kept fill from (get_or plan i d).at) put.spent
      (places_below kept from (get_or plan i d).at) put.emits step))

  -- the next part is put, or it was refused
  pub image_goes_on : (o o' o'' o''' : P) (s t u x : K) (w v v' v'' : List ℕ) (i from : ℕ) → i < length plan
      → HasLength pieces (get_or plan i d) → IsSoFar o o' s t w v i from
      → Emits p k (Ok (tt {0})) o' o'' t u v v' (gap_text base kept fill from (get_or plan i d).at)
      (places_below kept from (get_or plan i d).at)
      → Emits p k (Ok (tt {0})) o'' o''' u x v' v'' (stacked_text fill (pieces (get_or plan i d).part))
      (due (get_or plan i d).part)
      → IsSoFar o o''' s x w v'' (i + 1) ((get_or plan i d).at + (get_or plan i d).len)
  image_goes_on o o' o'' o''' s t u x w v v' v'' i from there long put gap part =
      let cost = due_step base kept fill end pieces due from (get_or plan i d) (drop (i + 1) plan) long in
      let left : rest_due base kept fill end pieces due from (drop i plan)
      ≡ rest_due base kept fill end pieces due from (get_or plan i d ∷ drop (i + 1) plan) =
      ap (rest_due base kept fill end pieces due from) (drop_more plan i d there) in
      record {
        done = (put.done ++ gap_text base kept fill from (get_or plan i d).at) ++ stacked_text fill
            (pieces (get_or plan i d).part);
        spent = put.spent + places_below kept from (get_or plan i d).at + due (get_or plan i d).part;
        emits =
            emits_both p k tt (Ok tt) o o'' o''' s u x w v' v''
            (put.done ++ gap_text base kept fill from (get_or plan i d).at)
            (stacked_text fill (pieces (get_or plan i d).part))
            (put.spent + places_below kept from (get_or plan i d).at) (due (get_or plan i d).part)
            (emits_both p k tt (Ok tt) o o' o'' s t u w v v' put.done
            (gap_text base kept fill from (get_or plan i d).at) put.spent
            (places_below kept from (get_or plan i d).at) put.emits gap)
            part;
        all =
            append_assoc (put.done ++ gap_text base kept fill from (get_or plan i d).at)
            (stacked_text fill (pieces (get_or plan i d).part))
            (rest_text base kept fill end pieces due ((get_or plan i d).at + (get_or plan i d).len) (drop (i + 1) plan))
            ∙ append_assoc put.done (gap_text base kept fill from (get_or plan i d).at)
            (stacked_text fill (pieces (get_or plan i d).part) ++ rest_text base kept fill end pieces due
            ((get_or plan i d).at + (get_or plan i d).len) (drop (i + 1) plan))
            ∙ ap (λ (l : List ℕ). put.done ++ l)
            (sym (rest_step base kept fill end pieces due from (get_or plan i d) (drop (i + 1) plan)
            most long))
            ∙ ap (λ (l : List PartAt). put.done ++ rest_text base kept fill end pieces due from l)
            (sym (drop_more plan i d there))
            ∙ put.all;
        line = line_step base kept fill end pieces due from (get_or plan i d) (drop (i + 1) plan) long
            (subst (λ (l : List PartAt). AreInLine end from (blocks_at fill pieces l))
            (drop_more plan i d there) put.line);
        left = omega (arith, put.left, cost, left);
      }

  pub part_stops_image : (e : ElfError) (o o' o'' o''' : P) (s t u x : K) (w v v' v'' : List ℕ)
      (i from : ℕ) → i < length plan
      → HasLength pieces (get_or plan i d) → IsSoFar o o' s t w v i from
      → Emits p k (Ok (tt {0})) o' o'' t u v v' (gap_text base kept fill from (get_or plan i d).at)
      (places_below kept from (get_or plan i d).at)
      → Emits {T = Unit {0}} p k (Err e) o'' o''' u x v' v''
      (stacked_text fill (pieces (get_or plan i d).part)) (due (get_or plan i d).part)
      → Emits {T = Unit {0}} p k (Err e) o o''' s x w v''
      (rest_text base kept fill end pieces due 0 plan)
      (rest_due base kept fill end pieces due 0 plan)
  part_stops_image e o o' o'' o''' s t u x w v v' v'' i from there long put gap part =
      let cost = due_step base kept fill end pieces due from (get_or plan i d) (drop (i + 1) plan) long in
      let left : rest_due base kept fill end pieces due from (drop i plan)
      ≡ rest_due base kept fill end pieces due from (get_or plan i d ∷ drop (i + 1) plan) =
      ap (rest_due base kept fill end pieces due from) (drop_more plan i d there) in
      emits_as {T = Unit {0}} p k (Err e) o o''' s x w v''
      (((put.done ++ gap_text base kept fill from (get_or plan i d).at) ++ stacked_text fill
      (pieces (get_or plan i d).part))
      ++ rest_text base kept fill end pieces due ((get_or plan i d).at + (get_or plan i d).len) (drop (i + 1) plan))
      (rest_text base kept fill end pieces due 0 plan)
      (rest_due base kept fill end pieces due 0 plan) (rest_due base kept fill end pieces due 0 plan)
      (append_assoc (put.done ++ gap_text base kept fill from (get_or plan i d).at)
      (stacked_text fill (pieces (get_or plan i d).part))
      (rest_text base kept fill end pieces due ((get_or plan i d).at + (get_or plan i d).len) (drop (i + 1) plan))
      ∙ append_assoc put.done (gap_text base kept fill from (get_or plan i d).at)
      (stacked_text fill (pieces (get_or plan i d).part) ++ rest_text base kept fill end pieces due
      ((get_or plan i d).at + (get_or plan i d).len) (drop (i + 1) plan))
      ∙ ap (λ (l : List ℕ). put.done ++ l) (sym (rest_step base kept fill end pieces due from
      (get_or plan i d) (drop (i + 1) plan) most long))
      ∙ ap (λ (l : List PartAt). put.done ++ rest_text base kept fill end pieces due from l)
      (sym (drop_more plan i d there))
      ∙ put.all) (omega arith)
      (emits_stop {T = Unit {0}} {U = Unit {0}} p k e o o''' s x w v'' v''
      ((put.done ++ gap_text base kept fill from (get_or plan i d).at) ++ stacked_text fill
      (pieces (get_or plan i d).part))
      (rest_text base kept fill end pieces due ((get_or plan i d).at + (get_or plan i d).len) (drop (i + 1) plan))
      (put.spent + places_below kept from (get_or plan i d).at + due (get_or plan i d).part)
      (rest_due base kept fill end pieces due 0 plan)
      (omega (arith, put.left, cost, left))
      (emits_both p k tt (Err e) o o'' o''' s u x w v' v''
      (put.done ++ gap_text base kept fill from (get_or plan i d).at)
      (stacked_text fill (pieces (get_or plan i d).part))
      (put.spent + places_below kept from (get_or plan i d).at) (due (get_or plan i d).part)
      (emits_both p k tt (Ok tt) o o' o'' s t u w v v' put.done
      (gap_text base kept fill from (get_or plan i d).at) put.spent
      (places_below kept from (get_or plan i d).at) put.emits gap)
      part))

  -- the last gap
  pub last_gap : (r : Result (Unit {0}) ElfError) (o o' o'' : P) (s t u : K) (w v v' : List ℕ)
      (i from : ℕ) → length plan ≤ i
      → IsSoFar o o' s t w v i from
      → Emits p k r o' o'' t u v v' (gap_text base kept fill from end) (places_below kept from end)
      → Emits p k r o o'' s u w v' (rest_text base kept fill end pieces due 0 plan)
      (rest_due base kept fill end pieces due 0 plan)
  last_gap r o o' o'' s t u w v v' i from past put step =
      let none = drop_all i plan past in
      let left : rest_due base kept fill end pieces due from (drop i plan) ≡ places_below kept from end =
      ap (rest_due base kept fill end pieces due from) none ∙ due_none base kept fill end pieces due from in
      emits_as p k r o o'' s u w v' (put.done ++ gap_text base kept fill from end)
      (rest_text base kept fill end pieces due 0 plan)
      (put.spent + places_below kept from end) (rest_due base kept fill end pieces due 0 plan)
      (ap (λ (l : List ℕ). put.done ++ l) (sym (rest_none base kept fill end pieces due from most))
      ∙ ap (λ (l : List PartAt). put.done ++ rest_text base kept fill end pieces due from l) (sym none)
      ∙ put.all) (omega (arith, put.left, left))
      (emits_both p k tt r o o' o'' s t u w v v' put.done (gap_text base kept fill from end)
      put.spent (places_below kept from end) put.emits step)

-- ---- Parts that are kept

module _ {P : Type 0} (p : Ghosts P) (o o' : P) (same : p.kept o' ≡ p.kept o) where
  pub kept_ready : p.ready (p.kept o) → p.ready (p.kept o')
  kept_ready is = subst (λ (x : p.Kept). p.ready x) (sym same) is

  pub kept_base : (n : ℕ) → n ≤ length (p.base (p.kept o)) → n ≤ length (p.base (p.kept o'))
  kept_base n is = subst (λ (x : p.Kept). n ≤ length (p.base x)) (sym same) is

  pub kept_long : (q : PartAt) → HasLength (p.pieces (p.kept o)) q → HasLength (p.pieces (p.kept o')) q
  kept_long q is = subst (λ (x : p.Kept). HasLength (p.pieces x) q) (sym same) is

  pub kept_gap : {K T : Type 0} (k : SinkGhosts K) (r : Result T ElfError) (o'' : P) (t u : K) (v v' : List ℕ)
      (kept fill from end n : ℕ)
      → Emits p k r o' o'' t u v v' (gap_text (p.base (p.kept o')) kept fill from end) n
      → Emits p k r o' o'' t u v v' (gap_text (p.base (p.kept o)) kept fill from end) n
  kept_gap k r o'' t u v v' kept fill from end n step =
      subst (λ (x : p.Kept). Emits p k r o' o'' t u v v' (gap_text (p.base x) kept fill from end) n) same step

  pub kept_part : {K T : Type 0} (k : SinkGhosts K) (r : Result T ElfError) (o'' : P) (t u : K) (v v' : List ℕ)
      (fill : ℕ) (part : Part)
      → Emits p k r o' o'' t u v v' (stacked_text fill (p.pieces (p.kept o') part)) (p.due (p.kept o') part)
      → Emits p k r o' o'' t u v v' (stacked_text fill (p.pieces (p.kept o) part)) (p.due (p.kept o) part)
  kept_part k r o'' t u v v' fill part step =
      subst (λ (x : p.Kept). Emits p k r o' o'' t u v v' (stacked_text fill (p.pieces x part)) (p.due x part)) same step
