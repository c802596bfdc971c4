-- Symbols in the order of their keys, put in that of their names key by key.
use Rattle.std.proofs.Common.{◌≡◌, ◌≢◌, ◌⊎◌, inl, inr, ℕ, ◌+◌, ◌-◌, ◌<◌, ◌≤◌, List, ◌++◌, map, take, drop, get_or, length, false, nat_cmp, Ordering, refl, sym, ap, ◌∙◌, subst, arith, append_assoc}
use borrow.Rule.Slice.PartMut.{put_mid}
use Rattle.std.specs.Prelude.{All}
use Rattle.std.specs.Ordering.{is_lt, ordering_then, ordering_reverse}
use Rattle.std.specs.declared.cmp.Ordering.TheVariants.{Greater}
use Rattle.std.specs.Cmp.Lexicographic.{slice_cmp}
use Rattle.std.specs.List.{AllByRecursion}
use Rattle.std.specs.List.Sorted.{IsNonDecreasingBy}
use Rattle.std.proofs.Math.Seq.{take-add}
use Rattle.std.proofs.lemmas.Bool.{cases_lt}
use Rattle.std.proofs.lemmas.Cmp.{nat_list_cmp_total}
use Rattle.std.proofs.lemmas.List.{get_or_default, get_or-take, get_or-drop, length-take, length-take-le, length-drop, length-append, take_all, take_at, drop_at, drop-drop, map-append}
use Rattle.std.proofs.lemmas.List.Elements.{recursion_from_All, All-map, All-take}
use Rattle.nm_tool.specs.declared.kept.Kept.{Kept}
use Rattle.nm_tool.specs.Order.{SymbolEntry, entry_cmp, entries_in_order}
use Rattle.nm_tool.specs.Kept.{ranked_entry}
use Rattle.nm_tool.specs.Ranked.{number_from, HasKey, AreKeyed}
use Rattle.nm_tool.proofs.Sorting.{AreBefore, in_order_append}
use Rattle.nm_tool.proofs.Ranking.{Small, less_from, all_taken}

-- ---- Keys before a place and from it on

-- each key before a place is less than each from it on
abbrev pub Parted : List Kept → ℕ → Type 0
Parted rows at = (i j : ℕ) → (d e : Kept) → i < at → at ≤ j → j < length rows
    → (get_or rows i d).key < (get_or rows j e).key

same_at : (old new : List Kept) (at i : ℕ) (d : Kept) → drop at new ≡ drop at old → at ≤ i
    → get_or new i d ≡ get_or old i d
same_at old new at i d rest le =
    let up : at + (i - at) ≡ i = omega (arith, le) in
    ap (λ (n : ℕ). get_or new n d) (sym up) ∙ sym (get_or-drop at new (i - at) d)
    ∙ ap (λ (l : List Kept). get_or l (i - at) d) rest ∙ get_or-drop at old (i - at) d
    ∙ ap (λ (n : ℕ). get_or old n d) up

module _ (old new : List Kept) (at end key : ℕ) (some : at < end)
    (rises : IsNonDecreasingBy (λ (k : Kept). k.key) old) (long : length new ≡ length old)
    (rest : drop at new ≡ drop at old)
    (first : (d : Kept) → (get_or new at d).key ≡ key)
    (others : (i : ℕ) → at + 1 ≤ i → i < end → (d : Kept) → (get_or new i d).key ≡ key)
    (next : end < length new → (d : Kept) → (get_or new end d).key ≢ key) where
  run_key : (i : ℕ) (d : Kept) → at ≤ i → i < end → (get_or old i d).key ≡ key
  run_key i d le lt =
      ap (λ (k : Kept). k.key) (sym (same_at old new at i d rest le)) ∙ by_place (cases_lt at i)
    where
      by_place : (at < i) ⊎ (i ≤ at) → (get_or new i d).key ≡ key
      by_place (inl above) = others i (omega (arith, above)) lt d
      by_place (inr low) =
          let here : i ≡ at = omega (arith, low, le) in
          ap (λ (n : ℕ). (get_or new n d).key) here ∙ first d

  pub parted_next : Parted old at → Parted old end
  parted_next before i j d e lt le inside = by_place (cases_lt i at)
    where
      later : at ≤ i → (get_or old i d).key < (get_or old j e).key
      later above =
          let last : end < length new = omega (arith, long, le, inside) in
          let up = rises end j d le inside in
          let low = rises i end d (omega (arith, lt)) (omega (arith, le, inside)) in
          let here = run_key i d above lt in
          let other : (get_or old end d).key ≢ key =
          subst (λ (k : Kept). k.key ≢ key) (same_at old new at end d rest (omega (arith, some)))
          (next last d) in
          let less : (get_or old i d).key < (get_or old j d).key =
          omega (arith, up, low, here, other) in
          subst (λ (k : Kept). (get_or old i d).key < k.key) (get_or_default old j d e inside) less

      by_place : (i < at) ⊎ (at ≤ i) → (get_or old i d).key < (get_or old j e).key
      by_place (inl below) = before i j d e below (omega (arith, le, some)) inside
      by_place (inr above) = later above

-- ---- Names in the order of keys

module _ (name_of : ℕ → List ℕ) (small : (at : ℕ) → Small (name_of at)) (place : ℕ)
    (first : List ℕ) where
  key_before : (x y : Kept) → HasKey name_of place first x → HasKey name_of place first y
      → x.key < y.key
      → is_lt (entry_cmp (ranked_entry false name_of y) (ranked_entry false name_of x)) ≡ false
  unfolding entry_cmp
  key_before x y kx ky lt =
      let less : number_from place 8 (name_of x.name) < number_from place 8 (name_of y.name) =
      subst (λ (n : ℕ). n < number_from place 8 (name_of y.name)) kx.key
      (subst (λ (n : ℕ). x.key < n) ky.key lt) in
      let before = less_from (name_of x.name) (name_of y.name) (small x.name) (small y.name)
      place (λ i lt. sym (kx.shares i lt) ∙ ky.shares i lt) 8 less in
      let back : slice_cmp nat_cmp (name_of y.name) (name_of x.name) ≡ Greater =
      nat_list_cmp_total.antisymm (name_of y.name) (name_of x.name)
      ∙ ap ordering_reverse before in
      ap (λ (r : Ordering). is_lt (ordering_then r (nat_cmp y.index x.index))) back

  keys_before : (xs ys : List Kept) → All (HasKey name_of place first) xs
      → All (HasKey name_of place first) ys
      → ((i j : ℕ) (d e : Kept) → i < length xs → j < length ys
      → (get_or xs i d).key < (get_or ys j e).key)
      → AreBefore (map (ranked_entry false name_of) xs) (map (ranked_entry false name_of) ys)
  keys_before xs ys hx hy less =
      let entry = ranked_entry false name_of in
      recursion_from_All
      (λ (e : SymbolEntry). AllByRecursion (λ (f : SymbolEntry). is_lt (entry_cmp f e) ≡ false) (map entry ys))
      (map entry xs)
      (All-map
      (λ (e : SymbolEntry). AllByRecursion (λ (f : SymbolEntry). is_lt (entry_cmp f e) ≡ false) (map entry ys))
      entry xs
      (λ i d lt. recursion_from_All
      (λ (f : SymbolEntry). is_lt (entry_cmp f (entry (get_or xs i d))) ≡ false) (map entry ys)
      (All-map (λ (f : SymbolEntry). is_lt (entry_cmp f (entry (get_or xs i d))) ≡ false) entry ys
      (λ j e inside. key_before (get_or xs i d) (get_or ys j e) (hx i d lt) (hy j e inside)
      (less i j d e lt inside)))))

-- ---- The keys one after another

-- Those of the symbols before a place stand in the order of their rows, the others as they were.
pub record RunsDone (name_of : ℕ → List ℕ) (old new : List Kept) (at : ℕ) : Type 0 where
  pub within : at ≤ length old
  pub long : length new ≡ length old
  pub rest : drop at new ≡ drop at old
  pub done : map (ranked_entry false name_of) (take at new)
      ≡ entries_in_order (map (ranked_entry false name_of) (take at old))
  pub parted : Parted old at

pub runs_begin : (name_of : ℕ → List ℕ) (rows : List Kept) → RunsDone name_of rows rows 0
unfolding entries_in_order
runs_begin name_of rows = record {
  within = omega arith;
  long = refl;
  rest = refl;
  done = refl;
  parted = λ i j d e lt le inside. absurd (omega (arith, lt));
}

pub runs_all : (name_of : ℕ → List ℕ) (old new : List Kept) (at : ℕ)
    → RunsDone name_of old new at → length new ≤ at
    → map (ranked_entry false name_of) new ≡ entries_in_order (map (ranked_entry false name_of) old)
runs_all name_of old new at runs past =
    let entry = ranked_entry false name_of in
    ap (map entry) (sym (take_all at new past)) ∙ runs.done
    ∙ ap (λ (l : List Kept). entries_in_order (map entry l))
    (take_all at old (omega (arith, past, runs.long)))

-- the symbols of the next key
module _ (name_of : ℕ → List ℕ) (small : (at : ℕ) → Small (name_of at)) (old new run : List Kept)
    (at end : ℕ) (keyed : AreKeyed name_of old) (runs : RunsDone name_of old new at)
    (some : at < end) (inside : end ≤ length old) where
  abbrev entry : Kept → SymbolEntry
  entry k = ranked_entry false name_of k

  abbrev taken : List Kept
  taken = take (end - at) (drop at old)

  front_before : Parted old at → AreBefore (map entry (take at old)) (map entry taken)
  front_before parted =
      keys_before name_of small keyed.place keyed.first (take at old) taken
      (All-take (HasKey name_of keyed.place keyed.first) at old keyed.keys)
      (all_taken name_of keyed.place keyed.first old at (end - at) keyed.keys)
      (λ i j d e lt lt'.
      let few : i < at = omega (arith, lt, length-take at old) in
      let short : j < end - at = omega (arith, lt', length-take (end - at) (drop at old)) in
      let x : get_or (take at old) i d ≡ get_or old i d = get_or-take at old i d few in
      let y : get_or taken j e ≡ get_or old (at + j) e =
      get_or-take (end - at) (drop at old) j e short ∙ get_or-drop at old j e in
      let less : (get_or old i d).key < (get_or old (at + j) e).key =
      parted i (at + j) d e few (omega arith) (omega (arith, short, inside)) in
      subst (λ (k : Kept). k.key < (get_or taken j e).key) (sym x)
      (subst (λ (k : Kept). (get_or old i d).key < k.key) (sym y) less))

  whole_front : take end old ≡ take at old ++ taken
  whole_front =
      let up : end ≡ at + (end - at) = omega (arith, some) in
      ap (λ (n : ℕ). take n old) up ∙ take-add at (end - at) old

  module _ (sized : length run ≡ end - at)
      (sorted : map entry run ≡ entries_in_order (map entry (take (end - at) (drop at new)))) where
    front_long : length (take at new ++ run) ≡ end
    front_long =
        let front : length (take at new) ≡ at =
        length-take-le at new (omega (arith, runs.long, runs.within)) in
        omega (arith, length-append (take at new) run, front, sized, some)

    put_is : put_mid at (end - at) new run ≡ (take at new ++ run) ++ drop (end - at) (drop at new)
    put_is = sym (append_assoc (take at new) run (drop (end - at) (drop at new)))

    front_is : take end (put_mid at (end - at) new run) ≡ take at new ++ run
    front_is =
        ap (take end) put_is
        ∙ take_at (take at new ++ run) (drop (end - at) (drop at new)) end front_long

    rest_is : drop end (put_mid at (end - at) new run) ≡ drop end old
    rest_is =
        let up : at + (end - at) ≡ end = omega (arith, some) in
        ap (drop end) put_is
        ∙ drop_at (take at new ++ run) (drop (end - at) (drop at new)) end front_long
        ∙ ap (drop (end - at)) runs.rest ∙ drop-drop (end - at) at old
        ∙ ap (λ (n : ℕ). drop n old) up

    done_is : map entry (take end (put_mid at (end - at) new run))
        ≡ entries_in_order (map entry (take end old))
    done_is =
        ap (map entry) front_is ∙ map-append entry (take at new) run
        ∙ ap (λ (es : List SymbolEntry). es ++ map entry run) runs.done
        ∙ ap (λ (es : List SymbolEntry). entries_in_order (map entry (take at old)) ++ es)
        (sorted ∙ ap (λ (l : List Kept). entries_in_order (map entry (take (end - at) l))) runs.rest)
        ∙ sym (in_order_append (map entry (take at old)) (map entry taken)
        (front_before runs.parted))
        ∙ ap entries_in_order (sym (map-append entry (take at old) taken)
        ∙ ap (map entry) (sym whole_front))

    put_long : length (put_mid at (end - at) new run) ≡ length old
    put_long =
        omega (
          arith,
          ap (λ (l : List Kept). length l) put_is,
          length-append (take at new ++ run) (drop (end - at) (drop at new)),
          front_long,
          length-drop (end - at) (drop at new),
          length-drop at new,
          runs.long,
          some,
          inside,
        )

    pub runs_next : Parted old end → RunsDone name_of old (put_mid at (end - at) new run) end
    runs_next parted = record {
      within = inside;
      long = put_long;
      rest = rest_is;
      done = done_is;
      parted = parted;
    }
