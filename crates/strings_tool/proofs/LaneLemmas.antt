-- What the bits of a mask tell of the runs of its bytes.
use Rattle.std.proofs.Common.{drop-drop, ◌*◌, ◌≡◌, ℕ, zero, suc, ◌+◌, ◌-◌, ◌/◌, ◌%◌, ◌^◌, ◌<◌, ◌≤◌, Bool, true, false, cond, eqb, List, [], ◌∷◌, ◌++◌, map, length, get_or, take, drop, Fits, w8, w64, refl, sym, ap, ap₂, ◌∙◌, subst, arith, inl, inr, bit_and, take-append-drop, length-take-le, length-drop, get_or-take, get_or-drop, shr-shr}
use Rattle.std.specs.Int.{bit_at, bit_not}
use Rattle.std.specs.Simd.Lanes.{mask_l, top, Each1}
use Rattle.std.proofs.lemmas.Bool.{agree_below, agree_below_at, cases_lt, cases_Bool, both_ways, eq-eqb, ne_eqb}
use Rattle.std.proofs.lemmas.List.{length-map, get_or-map, drop-map, drop-take}
use Rattle.std.proofs.lemmas.List.Folds.{prefix_len-append}
use Rattle.std.proofs.lemmas.List.Sums.{prefix_len_passes, prefix_len_stops, prefix_len_is}
use Rattle.std.proofs.Math.Nat.{div-one, zero-div, pow-le-pow_right}
use Rattle.std.proofs.Math.Pow.{shr_le}
use Rattle.std.proofs.lemmas.Nat.Bits.{bit_at_and, bit_at-lt, bit_at-zero, bit_at_above, bit_at_not}
use Rattle.std.proofs.lemmas.Simd.{map-map, mask_l-mod, mask_l-lt, bit_mask_l}
use Rattle.strings_tool.specs.Runs.{is_printable, runs_after, long_runs}
use Rattle.strings_tool.specs.Skips.{Skips}
use Rattle.strings_tool.specs.Masks.{printable_mask, AreSet, BeginRuns, ShowsBytes, IsFirstRun}
use Rattle.strings_tool.proofs.RunLemmas.{front_len, rest_is, long_after, short_cons, skips_none, skips_more}

-- ---- The mask of a load

each_byte : (f : ℕ → ℕ) (p : ℕ → Bool) → agree_below (λ x. top 7 (f x)) p 256 ≡ true → (v : List ℕ) → Each1 (Fits w8) v → map (λ x. top 7 (f x)) v ≡ map p v
each_byte f p all [] fits = refl
each_byte f p all (x ∷ xs) fits = ap₂ (λ a b. a ∷ b) (agree_below_at (λ x. top 7 (f x)) p 256 x all fits.0.fits) (each_byte f p all xs fits.1)

-- lanes that were computed from bytes, one by one, and have their top bit where the byte passes p
pub mask_is : (f : ℕ → ℕ) (p : ℕ → Bool) (v z : List ℕ) → length v ≤ 64 → Each1 (Fits w8) v → z ≡ map f v
    → agree_below (λ x. top 7 (f x)) p 256 ≡ true → mask_l (map (top 7) z) % 2 ^ 64 ≡ mask_l (map p v)
mask_is f p v z short fits lanes all =
    ap (λ l. mask_l l % 2 ^ 64) (ap (map (top 7)) lanes ∙ map-map (top 7) f v ∙ each_byte f p all v fits)
    ∙ mask_l-mod (map p v) 64 (omega (arith, length-map v p, short))

-- a mask is shifted: its first lanes are gone
half : (b : Bool) (n : ℕ) → (cond b 1 0 + 2 * n) / 2 ≡ n
half true n = omega arith
half false n = omega arith

mask_shifted : (ms : List Bool) (k : ℕ) → mask_l ms / 2 ^ k ≡ mask_l (drop k ms)
mask_shifted [] zero = zero-div (2 ^ 0)
mask_shifted [] (suc k) = zero-div (2 ^ suc k)
mask_shifted (m ∷ ms) zero = div-one (mask_l (m ∷ ms))
mask_shifted (m ∷ ms) (suc k) =
    ap (λ (j : ℕ). mask_l (m ∷ ms) / 2 ^ j) (let e : suc k ≡ 1 + k = omega arith in e)
    ∙ sym (shr-shr (mask_l (m ∷ ms)) 1 k) ∙ ap (λ n. n / 2 ^ k) (half m (mask_l ms)) ∙ mask_shifted ms k

pub shown_rest : (mask count k : ℕ) (bytes : List ℕ) → ShowsBytes mask count bytes → k ≤ count → ShowsBytes (mask / 2 ^ k) (count - k) (drop k bytes)
shown_rest mask count k bytes shown within = record {
  few = omega (arith, shown.few);
  there = omega (arith, shown.there, within, length-drop k bytes);
  is = ap (λ m. m / 2 ^ k) shown.is ∙ mask_shifted (map is_printable (take count bytes)) k
      ∙ ap mask_l (drop-map is_printable k (take count bytes)
      ∙ ap (λ (n : ℕ). map is_printable (drop k (take n bytes))) (let e : count ≡ k + (count - k) = omega (arith, within) in e)
      ∙ ap (map is_printable) (drop-take k (count - k) bytes));
}

-- ---- Bits in a row

pub begin_one : (m : ℕ) → BeginRuns m 1 m
begin_one m i = (
  λ set j early. subst (λ x. bit_at m x ≡ 1) (let e : i ≡ i + j = omega (arith, early) in e) set,
  λ all. subst (λ x. bit_at m x ≡ 1) (let e : i + 0 ≡ i = omega arith in e) (all 0 (omega arith)),
)

pub begin_more : (m n k s : ℕ) → BeginRuns m n s → k ≤ n → BeginRuns m (n + k) (bit_and s (s / 2 ^ k))
begin_more m n k s runs le i =
    let both = bit_at_and s (s / 2 ^ k) i in
    let moved : bit_at (s / 2 ^ k) i ≡ bit_at s (k + i) = ap (λ x. x % 2) (shr-shr s k i) in
    let low = bit_at-lt s i in
    let high = bit_at-lt s (k + i) in (
      λ set j early.
          let here : bit_at s i ≡ 1 = omega (arith, both, moved, low, high, set) in
          let there : bit_at s (k + i) ≡ 1 = omega (arith, both, moved, low, high, set) in
          elim (cases_lt j n) [
            | inl near ↦ (runs i).0 here j near
            | inr far ↦ subst (λ x. bit_at m x ≡ 1) (let e : k + i + (j - k) ≡ i + j = omega (arith, far, le) in e) ((runs (k + i)).0 there (j - k) (omega (arith, far, le, early)))
          ],
      λ all.
          let here : bit_at s i ≡ 1 = (runs i).1 (λ j near. all j (omega (arith, near))) in
          let there : bit_at s (k + i) ≡ 1 = (runs (k + i)).1 (λ j near. subst (λ x. bit_at m x ≡ 1) (let e : i + (k + j) ≡ k + i + j = omega arith in e) (all (k + j) (omega (arith, near)))) in
          omega (arith, both, moved, here, there),
    )

-- ---- Set bits from a place on

module _ (mask from : ℕ) (fits : mask < 2 ^ 64) (near : from < 64) where
  abbrev pub clear_from : ℕ
  clear_from = bit_not w64 (mask / 2 ^ from)

  moved_fits : mask / 2 ^ from < 2 ^ 64
  moved_fits = omega (arith, fits, shr_le mask from)

  clear_bit : (j : ℕ) → j < 64 → bit_at clear_from j ≡ 1 - bit_at mask (from + j)
  clear_bit j early = bit_at_not w64 (mask / 2 ^ from) j moved_fits early ∙ ap (λ b. 1 - b) (ap (λ x. x % 2) (shr-shr mask from j))

  no_bit_above : (j : ℕ) → 64 ≤ j → bit_at mask j ≡ 0
  no_bit_above j late = bit_at_above mask 64 j fits late

  -- no bit is clear: all are set up to the last one
  pub all_set : clear_from ≡ 0 → AreSet mask from (64 - from)
  all_set none j early =
      let here = clear_bit j (omega (arith, early)) in
      let clear : bit_at clear_from j ≡ 0 = ap (λ s. bit_at s j) none ∙ bit_at-zero j in
      omega (arith, here, clear, bit_at-lt mask (from + j))

  module _ (n : ℕ) (early : n < 64) (first : bit_at clear_from n ≡ 1) (before : (i : ℕ) → i < n → bit_at clear_from i ≡ 0) where
    pub set_before : AreSet mask from n
    set_before j less =
        let here = clear_bit j (omega (arith, early, less)) in
        let clear = before j less in
        omega (arith, here, clear, bit_at-lt mask (from + j))

    pub set_within : from + n ≤ 64
    set_within = elim (cases_lt 64 (from + n)) [
      | inl past ↦
          let set = set_before (64 - from) (omega (arith, past, near)) in
          let none = no_bit_above (from + (64 - from)) (omega (arith, near)) in
          absurd (omega (arith, set, none))
      | inr within ↦ within
    ]

    pub clear_there : bit_at mask (from + n) ≡ 0
    clear_there =
        let here = clear_bit n early in
        omega (arith, here, first, bit_at-lt mask (from + n))

-- ---- Runs

-- the front of bytes whose first n are printable
pub front_on : (n : ℕ) (bytes : List ℕ) → n ≤ length bytes → front_len (take n bytes) ≡ n → front_len bytes ≡ n + front_len (drop n bytes)
front_on n bytes room all =
    ap front_len (sym (take-append-drop n bytes)) ∙ prefix_len-append is_printable (take n bytes) (drop n bytes)
    ∙ ap (λ (k : ℕ). cond (eqb (front_len (take n bytes)) k) (k + front_len (drop n bytes)) (front_len (take n bytes))) (length-take-le n bytes room)
    ∙ ap (λ b. cond b (n + front_len (drop n bytes)) (front_len (take n bytes))) (eq-eqb _ _ all)

-- the length of a run that goes on behind the bytes that were looked at
pub joined_len : (at i len n : ℕ) (bytes : List ℕ)
    → front_len (drop i (take (length bytes - at) (drop at bytes))) ≡ len + front_len (drop 64 (take (length bytes - at) (drop at bytes)))
    → n ≡ front_len (take (length bytes - (at + 64)) (drop (at + 64) bytes))
    → len + n ≡ front_len (drop (at + i) bytes)
joined_len at i len n bytes goes rest =
    let on = subst (λ l. front_len (drop i l) ≡ len + front_len (drop 64 l)) (rest_is bytes at) goes in
    omega (arith, on, rest, ap front_len (rest_is bytes (at + 64)), ap front_len (drop-drop i at bytes), ap front_len (drop-drop 64 at bytes))

front_stays : (bytes later : List ℕ) → front_len bytes < length bytes → front_len (bytes ++ later) ≡ front_len bytes
front_stays bytes later short =
    prefix_len-append is_printable bytes later
    ∙ ap (λ b. cond b (length bytes + front_len later) (front_len bytes)) (ne_eqb _ _ (λ e. omega (arith, e, short)))

module _ (least : ℕ) where
  -- what stood before makes no difference to bytes that begin no long run
  any_before : (q : Bool) (at : ℕ) (bytes : List ℕ) → front_len bytes < least → long_after least q at bytes ≡ long_after least false at bytes
  unfolding runs_after
  any_before q at [] short = refl
  any_before q at (b ∷ bs) short = short_cons least q at b bs short ∙ sym (short_cons least false at b bs short)

  skips_byte : (q : Bool) (at b : ℕ) (bs later : List ℕ) → is_printable b ≡ q → front_len (b ∷ bs) < least → front_len (b ∷ bs) < length (b ∷ bs)
      → long_after least false at (b ∷ (bs ++ later)) ≡ long_after least false (at + 1) (bs ++ later)
  skips_byte false at b bs later plain short inside =
      short_cons least false at b (bs ++ later) (omega (arith, front_stays (b ∷ bs) later inside, short))
      ∙ ap (λ (q : Bool). long_after least q (at + 1) (bs ++ later)) plain
  skips_byte true at b bs later shown short inside =
      let one : front_len (b ∷ bs) ≡ 1 + front_len bs = rw shown refl in
      let rest = front_stays bs later (omega (arith, one, inside)) in
      short_cons least false at b (bs ++ later) (omega (arith, front_stays (b ∷ bs) later inside, short))
      ∙ any_before (is_printable b) (at + 1) (bs ++ later) (omega (arith, one, rest, short))

  skips_one : (bytes : List ℕ) → front_len bytes < least → least ≤ length bytes → Skips least bytes 1
  unfolding long_runs
  skips_one [] short room at later = absurd (omega (arith, short, room))
  skips_one (b ∷ bs) short room at later = skips_byte (is_printable b) at b bs later refl short (omega (arith, short, room))

  -- places none of which begins a long run
  pub skips_all : (n : ℕ) (bytes : List ℕ) → ((i : ℕ) → i < n → front_len (drop i bytes) < least) → n + least ≤ length bytes + 1 → Skips least bytes n
  skips_all zero bytes short room = skips_none least bytes
  skips_all (suc n) bytes short room =
      let before = skips_all n bytes (λ i early. short i (omega (arith, early))) (omega (arith, room)) in
      let one = skips_one (drop n bytes) (short n (omega arith)) (omega (arith, room, length-drop n bytes)) in
      subst (Skips least bytes) (let e : n + 1 ≡ suc n = omega arith in e) (skips_more least bytes n 1 before one)

-- ---- Bits and bytes

set_tells : (b : Bool) → cond {A = ℕ} b 1 0 ≡ 1 → b ≡ true
set_tells true e = refl
set_tells false e = absurd (omega (arith, e))

module _ (count : ℕ) (bytes : List ℕ) (few : count ≤ 64) (room : count ≤ length bytes) where
  abbrev mask : ℕ
  mask = printable_mask (take count bytes)

  front : length (take count bytes) ≡ count
  front = length-take-le count bytes room

  bit_is : (i : ℕ) → i < count → bit_at mask i ≡ cond (is_printable (get_or bytes i 0)) 1 0
  bit_is i early =
      bit_mask_l (map is_printable (take count bytes)) i
      ∙ ap (λ b. cond b 1 0) (get_or-map is_printable (take count bytes) i 0 false (omega (arith, front, early)) ∙ ap is_printable (get_or-take count bytes i 0 early))

  mask_below : mask < 2 ^ count
  mask_below = subst (λ n. mask < 2 ^ n) (length-map (take count bytes) is_printable ∙ front) (mask_l-lt (map is_printable (take count bytes)))

  pub mask_small : mask < 2 ^ 64
  mask_small = omega (arith, mask_below, pow-le-pow_right {n = 2} (omega arith) few)

  bit_early : (i : ℕ) → bit_at mask i ≡ 1 → i < count
  bit_early i set = elim (cases_lt i count) [
    | inl early ↦ early
    | inr late ↦ absurd (omega (arith, set, bit_at_above mask count i mask_below late))
  ]

  set_printable : (i : ℕ) → bit_at mask i ≡ 1 → is_printable (get_or bytes i 0) ≡ true
  set_printable i set = set_tells _ (sym (bit_is i (bit_early i set)) ∙ set)

  printable_set : (i : ℕ) → i < count → is_printable (get_or bytes i 0) ≡ true → bit_at mask i ≡ 1
  printable_set i early shown = bit_is i early ∙ ap (λ b. cond b 1 0) shown

  module _ (least starts : ℕ) (some : 0 < least) (runs : BeginRuns mask least starts) where
    pub ends_early : (i : ℕ) → bit_at starts i ≡ 1 → i + least ≤ count
    ends_early i set = omega (arith, some, bit_early (i + (least - 1)) ((runs i).0 set (least - 1) (omega (arith, some))))

    pub long_here : (i : ℕ) → bit_at starts i ≡ 1 → least ≤ front_len (drop i bytes)
    long_here i set = elim (cases_lt (front_len (drop i bytes)) least) [
      | inl short ↦
          let n = front_len (drop i bytes) in
          let ends = ends_early i set in
          let stops : is_printable (get_or (drop i bytes) n 0) ≡ false =
          prefix_len_stops is_printable (drop i bytes) 0 (omega (arith, short, ends, room, length-drop i bytes)) in
          let shown : is_printable (get_or bytes (i + n) 0) ≡ true = set_printable (i + n) ((runs i).0 set n short) in
          absurd (both_ways _ stops (ap is_printable (get_or-drop i bytes n 0) ∙ shown))
      | inr long ↦ long
    ]

    pub short_here : (i : ℕ) → bit_at starts i ≡ 0 → i + least ≤ count → front_len (drop i bytes) < least
    short_here i clear ends = elim (cases_lt (front_len (drop i bytes)) least) [
      | inl short ↦ short
      | inr long ↦
          let set : bit_at starts i ≡ 1 =
          (runs i).1 (λ j near. printable_set (i + j) (omega (arith, near, ends))
          (ap is_printable (sym (get_or-drop i bytes j 0)) ∙ prefix_len_passes is_printable (drop i bytes) j 0 (omega (arith, near, long)))) in
          absurd (omega (arith, set, clear))
    ]

    -- what is set from such a place on has at least so many bits
    pub long_stretch : (i n : ℕ) → bit_at starts i ≡ 1 → (i + n < count → bit_at mask (i + n) ≡ 0) → least ≤ n
    long_stretch i n set ends = elim (cases_lt n least) [
      | inl short ↦
          let inside = ends_early i set in
          absurd (omega (arith, (runs i).0 set n short, ends (omega (arith, inside, short))))
      | inr long ↦ long
    ]

    pub none_early : starts ≡ 0 → Skips least bytes (count + 1 - least)
    none_early none = elim (cases_lt count least) [
      | inl much ↦ subst (Skips least bytes) (let e : 0 ≡ count + 1 - least = omega (arith, much) in e) (skips_none least bytes)
      | inr fits ↦
          skips_all least (count + 1 - least) bytes
          (λ i early. short_here i (ap (λ s. bit_at s i) none ∙ bit_at-zero i) (omega (arith, early, fits))) (omega (arith, room, fits))
    ]

    pub first_early : (n : ℕ) → bit_at starts n ≡ 1 → ((i : ℕ) → i < n → bit_at starts i ≡ 0) → Skips least bytes n
    first_early n set clear =
        let ends = ends_early n set in
        skips_all least n bytes (λ i early. short_here i (clear i early) (omega (arith, ends, early))) (omega (arith, ends, room))

  -- what is set lies within the bytes
  pub stretch_within : (i n : ℕ) → AreSet mask i n → i ≤ count → i + n ≤ count
  stretch_within i n set inside = elim (cases_lt count (i + n)) [
    | inl past ↦
        let last = bit_early (i + (count - i)) (set (count - i) (omega (arith, past, inside))) in
        absurd (omega (arith, last, inside))
    | inr within ↦ within
  ]

  -- a stretch of printable bytes that the mask shows
  module _ (i n : ℕ) (set : AreSet mask i n) (within : i + n ≤ count) where
    shown_here : (j : ℕ) → j < n → is_printable (get_or (drop i bytes) j 0) ≡ true
    shown_here j less = ap is_printable (get_or-drop i bytes j 0) ∙ set_printable (i + j) (set j less)

    pub stretch_ends : i + n < count → bit_at mask (i + n) ≡ 0 → front_len (drop i bytes) ≡ n
    stretch_ends inside clear =
        prefix_len_is is_printable (drop i bytes) n 0 (omega (arith, length-drop i bytes, within, room)) shown_here
        (λ _. elim (cases_Bool (is_printable (get_or bytes (i + n) 0))) [
          | inl shown ↦ absurd (omega (arith, clear, printable_set (i + n) inside shown))
          | inr plain ↦ ap is_printable (get_or-drop i bytes n 0) ∙ plain
        ])

    pub stretch_goes_on : i + n ≡ count → front_len (drop i bytes) ≡ n + front_len (drop count bytes)
    stretch_goes_on whole =
        let long : n ≤ length (drop i bytes) = omega (arith, length-drop i bytes, within, room) in
        let taken = length-take-le n (drop i bytes) long in
        let all = prefix_len_is is_printable (take n (drop i bytes)) n 0 (omega (arith, taken))
        (λ j less. ap is_printable (get_or-take n (drop i bytes) j 0 less) ∙ shown_here j less)
        (λ short. absurd (omega (arith, taken, short))) in
        front_on n (drop i bytes) long all
        ∙ ap (λ l. n + front_len l) (drop-drop n i bytes ∙ ap (λ k. drop k bytes) whole)

  module _ (stops : ℕ) (other : stops ≡ bit_not w64 mask) where
    other_bit : (i : ℕ) → i < count → bit_at stops i ≡ 1 - bit_at mask i
    other_bit i early = ap (λ m. bit_at m i) other ∙ bit_at_not w64 mask i mask_small (omega (arith, early, few))

    pub ends_here : (n : ℕ) → n < count → bit_at stops n ≡ 1 → ((i : ℕ) → i < n → bit_at stops i ≡ 0) → front_len bytes ≡ n
    ends_here n early set clear =
        prefix_len_is is_printable bytes n 0 (omega (arith, early, room))
        (λ i before. set_printable i (omega (arith, clear i before, bit_at-lt mask i, other_bit i (omega (arith, before, early)))))
        (λ _. elim (cases_Bool (is_printable (get_or bytes n 0))) [
          | inl shown ↦ absurd (omega (arith, set, printable_set n early shown, other_bit n early))
          | inr plain ↦ plain
        ])

    pub all_early : stops ≡ 0 → front_len bytes ≡ count + front_len (drop count bytes)
    all_early none =
        front_on count bytes room
        (prefix_len_is is_printable (take count bytes) count 0 (omega (arith, front))
        (λ i early.
        let shown = set_printable i (omega (arith, bit_at-lt mask i, other_bit i early, ap (λ m. bit_at m i) none ∙ bit_at-zero i)) in
        ap is_printable (get_or-take count bytes i 0 early) ∙ shown)
        (λ short. absurd (omega (arith, front, short))))

-- ---- The first run that a mask shows

module _ (m least starts count : ℕ) (bytes : List ℕ) (some : 0 < least) (runs : BeginRuns m least starts) (shown : ShowsBytes m count bytes) where
  begins : BeginRuns (printable_mask (take count bytes)) least starts
  begins = subst (λ k. BeginRuns k least starts) shown.is runs

  pub none_shown : starts ≡ 0 → Skips least bytes (count + 1 - least)
  none_shown none = none_early count bytes shown.few shown.there least starts some begins none

  pub first_shown : (i n : ℕ) → bit_at starts i ≡ 1 → ((j : ℕ) → j < i → bit_at starts j ≡ 0) → AreSet m i n → (i + n < 64 → bit_at m (i + n) ≡ 0)
      → IsFirstRun least count bytes (i, n)
  first_shown i n set clear all ends =
      let few = shown.few in
      let room = shown.there in
      let here = subst (λ k. AreSet k i n) shown.is all in
      let early = ends_early count bytes few room least starts some begins i set in
      let inside = stretch_within count bytes few room i n here (omega (arith, early)) in
      let stops : i + n < count → bit_at (printable_mask (take count bytes)) (i + n) ≡ 0 =
      λ lt. ap (λ k. bit_at k (i + n)) (sym shown.is) ∙ ends (omega (arith, lt, few)) in record {
        within = inside;
        long = long_stretch count bytes few room least starts some begins i n set stops;
        skips = first_early count bytes few room least starts some begins i set clear;
        ended = λ lt. stretch_ends count bytes few room i n here inside lt (stops lt);
        goes_on = stretch_goes_on count bytes few room i n here inside;
      }
