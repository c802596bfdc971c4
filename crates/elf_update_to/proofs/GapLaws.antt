-- What stands between the parts of an image: base bytes, and then the fill byte.
use Rattle.std.proofs.Common.{◌≡◌, ℕ, ◌+◌, ◌-◌, ◌<◌, ◌≤◌, min, max, List, ◌++◌, Result, Ok, Err, length, take, drop, replicate, get_or, refl, sym, ap, ◌∙◌, arith, ⊎_elim}
use Rattle.std.specs.Prelude.{map, IfErr}
use Rattle.std.specs.List.{range_with_len}
use Rattle.std.proofs.lemmas.Bool.{cases_lt, lt-ltb, le-ltb}
use Rattle.std.proofs.lemmas.List.{length-append, length-take, length-drop, length-replicate, get_or_append_left, get_or-append_right, get_or-take, get_or-drop, get_or-replicate, ext_get_or}
use Rattle.std.proofs.lemmas.List.FromFn.{length-map-range_with_len, get_or-map-range_with_len}
use Rattle.elf_types.specs.declared.errors.ElfError.{ElfError}
use Rattle.elf_types.specs.declared.errors.ElfError.TheVariants.{Write}
use Rattle.elf_update_plan.specs.elf_outside.declared.sinks.Sink.{Ghosts as SinkGhosts}
use Rattle.elf_update_plan.specs.law_object.Writing.Plan.{places_below}
use Rattle.elf_update_to.specs.declared.parts.ImageParts.{Ghosts}
use Rattle.elf_update_to.specs.Texts.{Flows}
use Rattle.elf_update_to.specs.Emits.{Emits, ground_byte, gap_text}
use Rattle.elf_update_to.proofs.EmitLaws.{emits_both, emits_stop, emits_as, emits_still}

-- ---- The bytes of a gap

module _ (base : List ℕ) (kept fill : ℕ) where
  kept_byte : (k : ℕ) → k < kept → ground_byte base kept fill k ≡ get_or base k 0
  kept_byte k below = let test = lt-ltb k kept below in rw test refl

  filled_byte : (k : ℕ) → kept ≤ k → ground_byte base kept fill k ≡ fill
  filled_byte k past = let test = le-ltb k kept past in rw test refl

  pub ground_gap : (from end : ℕ) → kept ≤ length base
      → map (ground_byte base kept fill) (range_with_len from (end - from)) ≡ gap_text base kept fill from end
  ground_gap from end most =
      let front : List ℕ = take (min end kept - from) (drop from base) in
      let rest = length-drop from base in
      let taken = length-take (min end kept - from) (drop from base) in
      let filled = length-replicate (end - max from kept) fill in
      let whole = length-append (take (min end kept - from) (drop from base)) (replicate (end - max from kept) fill) in
      let left = length-map-range_with_len (ground_byte base kept fill) from (end - from) in
      let long : length (take (min end kept - from) (drop from base))
      ≡ min end kept - from = omega (arith, rest, taken, most) in
      ext_get_or 0 (map (ground_byte base kept fill) (range_with_len from (end - from)))
      (take (min end kept - from) (drop from base) ++ replicate (end - max from kept) fill)
      (omega (arith, left, whole, filled, long)) (λ j h.
      get_or-map-range_with_len (ground_byte base kept fill) from (end - from) j (from + j) 0
      (omega (arith, h, left)) refl
      ∙ ⊎_elim
      (λ below.
      kept_byte (from + j) (omega (arith, below))
      ∙ sym (get_or_append_left (take (min end kept - from) (drop from base))
      (replicate (end - max from kept) fill) 0 j (omega (arith, below, long))
      ∙ get_or-take (min end kept - from) (drop from base) j 0 below
      ∙ get_or-drop from base j 0))
      (λ past.
      filled_byte (from + j) (omega (arith, past, h, left))
      ∙ sym (get_or-append_right (take (min end kept - from) (drop from base))
      (replicate (end - max from kept) fill) (min end kept - from) j 0 long past
      ∙ get_or-replicate (end - max from kept) (j - (min end kept - from)) fill 0 (omega (arith, past, h, left))))
      (cases_lt j (min end kept - from)))

-- ---- The steps

module _ {P K : Type 0} (p : Ghosts P) (k : SinkGhosts K) (base : List ℕ)
    (kept fill from end stop : ℕ) (is : stop ≡ min end kept) where
  -- the base bytes could not be put
  pub gap_stops : (e : ElfError) (o o' : P) (s t : K) (w v : List ℕ)
      → Emits {T = Unit {0}} p k (Err e) o o' s t w v (take (stop - from) (drop from base)) (stop - from)
      → Emits {T = Unit {0}} p k (Err e) o o' s t w v (gap_text base kept fill from end) (places_below kept from end)
  gap_stops e o o' s t w v step =
      let count : stop - from ≡ min end kept - from = omega (arith, is) in
      emits_as p k (Err e) o o' s t w v (take (stop - from) (drop from base) ++ replicate (end - max from kept) fill)
      (gap_text base kept fill from end) (stop - from) (places_below kept from end)
      (ap (λ (n : ℕ). take n (drop from base) ++ replicate (end - max from kept) fill) count) (omega (arith, is))
      (emits_stop p k e o o' s t w v v (take (stop - from) (drop from base))
      (replicate (end - max from kept) fill) (stop - from) (stop - from)
      (omega arith) step)

  -- the fill behind them
  pub gap_ends : (r : Result (Unit {0}) ElfError) (o o' : P) (s t u : K) (w v v' : List ℕ)
      (count : ℕ) → count ≡ end - max from kept
      → IfErr r (λ e. e ≡ Write)
      → Emits p k (Ok (tt {0})) o o' s t w v (take (stop - from) (drop from base)) (stop - from)
      → Flows k r t u v v' (replicate count fill)
      → Emits p k r o o' s u w v' (gap_text base kept fill from end) (places_below kept from end)
  gap_ends r o o' s t u w v v' count same err step flows =
      let taken : stop - from ≡ min end kept - from = omega (arith, is) in
      emits_as p k r o o' s u w v' (take (stop - from) (drop from base) ++ replicate count fill)
      (gap_text base kept fill from end) (stop - from + 0) (places_below kept from end)
      (ap (λ (n : ℕ). take n (drop from base) ++ replicate count fill) taken
      ∙ ap (λ (n : ℕ). take (min end kept - from) (drop from base) ++ replicate n fill) same) (omega (arith, is))
      (emits_both p k tt r o o' o' s t u w v v' (take (stop - from) (drop from base))
      (replicate count fill) (stop - from) 0 step
      (emits_still p k r o' t u v v' (replicate count fill) 0 err flows))
