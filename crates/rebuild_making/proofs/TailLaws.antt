-- Where sections stand behind a tail, as a walk over them finds it.
use Rattle.std.proofs.Common.{◌≡◌, ◌+◌, ◌-◌, ◌<◌, ◌≤◌, ℕ, Bool, true, false, ◌==◌, ◌||◌, cond, List, [], ◌∷◌, ◌++◌, length, map, append_assoc, Option, Some, None, refl, sym, ap, ◌∙◌, subst, inl, inr, arith}
use Rattle.std.specs.Prelude.{filter, nat_lt, slice_index, if◌then◌else◌}
use Rattle.std.specs.List.{range_with_len}
use Rattle.std.specs.Option.{option_map, SomeIff}
use Rattle.std.proofs.lemmas.Bool.{ne_eqb, lt-ltb, le-ltb, or_left, or_right, or_from, cases_lt}
use Rattle.std.proofs.lemmas.List.{length-map, map-append, get_or_at}
use Rattle.std.proofs.lemmas.List.Folds.{list_any-append}
use Rattle.rebuild_model.specs.elf_layout.declared.parts.PartAt.{PartAt}
use Rattle.rebuild_model.specs.elf_layout.Layout.{rounded_up, place_of, end_after, in_order_from, positions, some_above}
use Rattle.rebuild_model.specs.elf_object.Object.{Object}
use Rattle.rebuild_model.specs.elf_object.Layout.{section_part, table_part, section_numbers}
use Rattle.elf_update_plan.proofs.law_object.PlaceLaws.{rounded_up-ge}
use Rattle.elf_update_plan.proofs.law_object.StandLaws.{length-in_order}
use Rattle.rebuild_model.specs.Arranged.{movable, parts_from, place_from, table_place_from}
use Rattle.rebuild_making.specs.Placing.{is_movable, movable_below, end_of_parts, end_below, end_with, FitsBehind, MayStand, StandsBelow}
use Rattle.rebuild_making.proofs.NumberLaws.{passing_more, passing_split, passing_position, failing_position, zero_position}

-- ---- Parts one after the other

place_ge : (end : ℕ) (p : PartAt) → end ≤ place_of end p
unfolding place_of
place_ge end p = rounded_up-ge end p.align

end_of_append : (end : ℕ) (ps qs : List PartAt)
    → end_of_parts end (ps ++ qs) ≡ end_of_parts (end_of_parts end ps) qs
unfolding end_of_parts
end_of_append end [] qs = refl
end_of_append end (p ∷ ps) qs = end_of_append (end_after end p) ps qs

in_order_append : (end : ℕ) (ps qs : List PartAt)
    → in_order_from end (ps ++ qs)
    ≡ in_order_from end ps ++ in_order_from (end_of_parts end ps) qs
unfolding in_order_from end_of_parts
in_order_append end [] qs = refl
in_order_append end (p ∷ ps) qs =
    ap (λ (l : List PartAt). record p { at = place_of end p } ∷ l)
    (in_order_append (end_after end p) ps qs)

-- a part stands next after those before it
stands_next : (end : ℕ) (before : List PartAt) (p : PartAt) (after : List PartAt)
    → slice_index (positions (in_order_from end (before ++ p ∷ after))) (length before)
    ≡ place_of (end_of_parts end before) p
unfolding in_order_from positions
stands_next end before p after =
    let at = λ (q : PartAt). q.at in
    let next = end_of_parts end before in
    ap (λ (l : List PartAt). slice_index (map at l) (length before))
    (in_order_append end before (p ∷ after))
    ∙ ap (λ (l : List ℕ). slice_index l (length before))
    (map-append at (in_order_from end before) (in_order_from next (p ∷ after)))
    ∙ get_or_at (map at (in_order_from end before)) (place_of next p)
    (map at (in_order_from (end_after next p) after)) 0 (length before)
    (length-map (in_order_from end before) at ∙ length-in_order end before)

above_append : (limit : ℕ) (xs ys : List PartAt)
    → some_above limit (xs ++ ys) ≡ (some_above limit xs || some_above limit ys)
unfolding some_above
above_append limit xs ys = list_any-append (λ p. nat_lt limit p.at) xs ys

-- a part whose place is above a limit
above_here : (limit end : ℕ) (before : List PartAt) (p : PartAt) (after : List PartAt)
    → limit < place_of (end_of_parts end before) p
    → some_above limit (in_order_from end (before ++ p ∷ after)) ≡ true
unfolding in_order_from some_above
above_here limit end before p after above =
    let next = end_of_parts end before in
    ap (some_above limit) (in_order_append end before (p ∷ after))
    ∙ above_append limit (in_order_from end before) (in_order_from next (p ∷ after))
    ∙ or_right (some_above limit (in_order_from end before))
    (some_above limit (in_order_from next (p ∷ after)))
    (or_left (nat_lt limit (place_of next p))
    (some_above limit (in_order_from (end_after next p) after))
    (lt-ltb limit (place_of next p) above))

-- an end above a limit, behind which a part stands
above_next : (limit end : ℕ) (ps : List PartAt) (t : PartAt) → limit < end
    → some_above limit (in_order_from end (ps ++ t ∷ [])) ≡ true
unfolding in_order_from some_above
above_next limit end [] t above =
    or_left (nat_lt limit (place_of end t)) false
    (lt-ltb limit (place_of end t) (omega (arith, above, place_ge end t)))
above_next limit end (p ∷ ps) t above =
    or_left (nat_lt limit (place_of end p))
    (some_above limit (in_order_from (end_after end p) (ps ++ t ∷ [])))
    (lt-ltb limit (place_of end p) (omega (arith, above, place_ge end p)))

above_later : (limit end : ℕ) (before : List PartAt) (p : PartAt) (ps : List PartAt) (t : PartAt)
    → limit < end_after (end_of_parts end before) p
    → some_above limit (in_order_from end (before ++ p ∷ (ps ++ t ∷ []))) ≡ true
unfolding in_order_from some_above
above_later limit end before p ps t above =
    let next = end_of_parts end before in
    ap (some_above limit) (in_order_append end before (p ∷ (ps ++ t ∷ [])))
    ∙ above_append limit (in_order_from end before) (in_order_from next (p ∷ (ps ++ t ∷ [])))
    ∙ or_right (some_above limit (in_order_from end before))
    (some_above limit (in_order_from next (p ∷ (ps ++ t ∷ []))))
    (or_right (nat_lt limit (place_of next p))
    (some_above limit (in_order_from (end_after next p) (ps ++ t ∷ [])))
    (above_next limit (end_after next p) ps t above))

-- ---- The parts behind a tail

module _ (o : Object) (tail : ℕ) where
  abbrev part : ℕ → PartAt
  part s = section_part o s

  below_more : (s : ℕ) → 1 ≤ s
      → movable_below o (s + 1) ≡ movable_below o s ++ cond (is_movable o s) (s ∷ []) []
  unfolding movable_below
  below_more s first =
      ap (λ (n : ℕ). filter (is_movable o) (range_with_len 1 n))
      (let next : s + 1 - 1 ≡ s - 1 + 1 = omega (arith, first) in next)
      ∙ passing_more (is_movable o) 1 (s - 1) s (omega (arith, first))

  below_all : movable_below o (length o.sections) ≡ movable o
  unfolding movable_below movable
  below_all = refl

  below_first : movable_below o 1 ≡ []
  unfolding movable_below
  below_first = refl

  pub end_first : end_below o tail 1 ≡ tail
  unfolding end_below end_of_parts
  end_first = ap (λ (l : List ℕ). end_of_parts tail (map part l)) below_first

  pub end_more : (s : ℕ) → 1 ≤ s → end_below o tail (s + 1) ≡ end_with o (end_below o tail s) s
  unfolding end_below end_with end_of_parts
  end_more s first =
      ap (λ (l : List ℕ). end_of_parts tail (map part l)) (below_more s first)
      ∙ ap (end_of_parts tail)
      (map-append part (movable_below o s) (cond (is_movable o s) (s ∷ []) []))
      ∙ end_of_append tail (map part (movable_below o s))
      (map part (cond (is_movable o s) (s ∷ []) []))
      ∙ by_test (is_movable o s)
    where
      by_test : (b : Bool)
          → end_of_parts (end_of_parts tail (map part (movable_below o s)))
          (map part (cond b (s ∷ []) []))
          ≡ (if b then end_after (end_of_parts tail (map part (movable_below o s))) (part s)
          else end_of_parts tail (map part (movable_below o s)))
      by_test true = refl
      by_test false = refl

  module _ (some : 0 < length o.sections) where
    not_empty : (length o.sections == 0) ≡ false
    not_empty = ne_eqb (length o.sections) 0 (λ none. omega (arith, none, some))

    parts_whole : parts_from o tail
        ≡ in_order_from tail (map part (movable o) ++ table_part o ∷ [])
    unfolding parts_from
    parts_whole =
        ap (λ (b : Bool). in_order_from tail
        (map part (movable o) ++ (if b then [] else table_part o ∷ []))) not_empty

    pub table_stands : table_place_from o tail
        ≡ place_of (end_below o tail (length o.sections)) (table_part o)
    unfolding end_below
    table_stands =
        ap (λ (l : List PartAt). slice_index (positions l) (length (movable o))) parts_whole
        ∙ ap (λ (n : ℕ). slice_index (positions (in_order_from tail
        (map part (movable o) ++ table_part o ∷ []))) n) (sym (length-map (movable o) part))
        ∙ stands_next tail (map part (movable o)) (table_part o) []
        ∙ ap (λ (l : List ℕ). place_of (end_of_parts tail (map part l)) (table_part o))
        (sym below_all)

    table_at : table_place_from o tail
        ≡ place_of (end_of_parts tail (map part (movable o))) (table_part o)
    unfolding end_below
    table_at =
        table_stands
        ∙ ap (λ (l : List ℕ). place_of (end_of_parts tail (map part l)) (table_part o)) below_all

    pub table_within : (limit : ℕ) → some_above limit (parts_from o tail) ≡ false
        → table_place_from o tail ≤ limit
    table_within limit none =
        elim (cases_lt limit (table_place_from o tail)) [
          | inl above ↦
              let past = ap (some_above limit) parts_whole
              ∙ above_here limit tail (map part (movable o)) (table_part o) []
              (subst (λ (n : ℕ). limit < n) table_at above) in
              let clash : false ≡ true = sym none ∙ past in
              cc
          | inr fits ↦ fits
        ]

    -- a section that is placed, with those before it and after it
    module _ (s : ℕ) (first : 1 ≤ s) (there : s < length o.sections)
        (is : is_movable o s ≡ true) where
      movable_split : movable o
          ≡ movable_below o s
          ++ s ∷ filter (is_movable o) (range_with_len (s + 1) (length o.sections - (s + 1)))
      unfolding movable movable_below
      movable_split = passing_split (is_movable o) (length o.sections) s first there is

      parts_split : parts_from o tail
          ≡ in_order_from tail (map part (movable_below o s) ++ part s
          ∷ (map part (filter (is_movable o)
          (range_with_len (s + 1) (length o.sections - (s + 1)))) ++ table_part o ∷ []))
      parts_split =
          let behind =
          filter (is_movable o) (range_with_len (s + 1) (length o.sections - (s + 1))) in
          parts_whole
          ∙ ap (λ (l : List ℕ). in_order_from tail (map part l ++ table_part o ∷ []))
          movable_split
          ∙ ap (λ (l : List PartAt). in_order_from tail (l ++ table_part o ∷ []))
          (map-append part (movable_below o s) (s ∷ behind))
          ∙ ap (in_order_from tail)
          (append_assoc (map part (movable_below o s)) (part s ∷ map part behind)
          (table_part o ∷ []))

      pub section_stands : place_from o tail s
          ≡ Some (place_of (end_below o tail s) (section_part o s))
      unfolding place_from end_below movable movable_below
      section_stands =
          let behind =
          filter (is_movable o) (range_with_len (s + 1) (length o.sections - (s + 1))) in
          let before = filter (is_movable o) (range_with_len 1 (s - 1)) in
          ap (λ (n : Option ℕ). option_map (slice_index (positions (parts_from o tail))) n)
          (passing_position (is_movable o) (length o.sections) s first there is)
          ∙ ap (λ (l : List PartAt). Some (slice_index (positions l) (length before)))
          parts_split
          ∙ ap (λ (n : ℕ). Some (slice_index (positions (in_order_from tail (map part before
          ++ part s ∷ (map part behind ++ table_part o ∷ [])))) n)) (sym (length-map before part))
          ∙ ap (λ (n : ℕ). Some n)
          (stands_next tail (map part before) (part s) (map part behind ++ table_part o ∷ []))

      section_above : (limit : ℕ)
          → (FitsBehind limit (end_below o tail s) (section_part o s) → ⊥)
          → some_above limit (parts_from o tail) ≡ true
      unfolding end_below
      section_above limit never =
          let behind =
          filter (is_movable o) (range_with_len (s + 1) (length o.sections - (s + 1))) in
          let end = end_of_parts tail (map part (movable_below o s)) in
          ap (some_above limit) parts_split
          ∙ elim (cases_lt limit (place_of end (part s))) [
            | inl above ↦ above_here limit tail (map part (movable_below o s)) (part s)
                (map part behind ++ table_part o ∷ []) above
            | inr fits ↦ above_later limit tail (map part (movable_below o s)) (part s)
                (map part behind) (table_part o)
                (elim (cases_lt limit (end_after end (part s))) [
                  | inl above ↦ above
                  | inr ends ↦ absurd (never (fits, ends))
                ])
          ]

      pub section_fits : (limit : ℕ) → some_above limit (parts_from o tail) ≡ false
          → FitsBehind limit (end_below o tail s) (section_part o s)
      section_fits limit none =
          elim (cases_lt limit (place_of (end_below o tail s) (section_part o s))) [
            | inl above ↦ absurd (clash (section_above limit
                (λ fits. omega (arith, above, fits.0))))
            | inr fits ↦ elim (cases_lt limit
                (end_after (end_below o tail s) (section_part o s))) [
                  | inl above ↦ absurd (clash (section_above limit
                      (λ fits. omega (arith, above, fits.1))))
                  | inr ends ↦ (fits, ends)
                ]
          ]
        where
          clash : some_above limit (parts_from o tail) ≡ true → ⊥
          clash some = let no : false ≡ true = sym none ∙ some in cc

  -- the others keep their places
  pub section_keeps : (s : ℕ) → is_movable o s ≡ false → place_from o tail s ≡ None
  unfolding place_from movable
  section_keeps s out =
      ap (λ (n : Option ℕ). option_map (slice_index (positions (parts_from o tail))) n)
      (failing_position (is_movable o) (section_numbers o) s out)

  pub first_keeps : place_from o tail 0 ≡ None
  unfolding place_from movable
  first_keeps =
      ap (λ (n : Option ℕ). option_map (slice_index (positions (parts_from o tail))) n)
      (zero_position (is_movable o) (length o.sections - 1))

-- ---- A walk that looks for a place above a limit

module _ (o : Object) (tail limit : ℕ) where
  none_above : some_above limit (in_order_from tail []) ≡ false
  unfolding in_order_from some_above
  none_above = refl

  pub walk_begins : StandsBelow o tail limit tail 1
  walk_begins = record {
    end_is = sym (end_first o tail);
    fits = ap (λ (l : List ℕ). some_above limit (in_order_from tail (map (section_part o) l)))
        (below_first o tail) ∙ none_above;
  }

  module _ (end s : ℕ) (first : 1 ≤ s) (so_far : StandsBelow o tail limit end s) where
    here_fits : (b : Bool) → is_movable o s ≡ b → MayStand o limit (end_below o tail s) s
        → some_above limit (in_order_from (end_below o tail s)
        (map (section_part o) (cond b (s ∷ []) []))) ≡ false
    unfolding in_order_from some_above
    here_fits true is may =
        or_from (nat_lt limit (place_of (end_below o tail s) (section_part o s))) false
        (le-ltb limit (place_of (end_below o tail s) (section_part o s)) (may is).0) refl
    here_fits false is may = refl

    end_stands : some_above limit (in_order_from (end_below o tail s)
        (map (section_part o) (cond (is_movable o s) (s ∷ []) []))) ≡ false
        → some_above limit (in_order_from
        (end_of_parts tail (map (section_part o) (movable_below o s)))
        (map (section_part o) (cond (is_movable o s) (s ∷ []) []))) ≡ false
    unfolding end_below
    end_stands h = h

    pub walk_goes_on : (next : ℕ) → MayStand o limit end s → next ≡ end_with o end s
        → StandsBelow o tail limit next (s + 1)
    walk_goes_on next may is = record {
      end_is = is ∙ ap (λ (n : ℕ). end_with o n s) so_far.end_is ∙ sym (end_more o tail s first);
      fits =
          let before = map (section_part o) (movable_below o s) in
          let here = map (section_part o) (cond (is_movable o s) (s ∷ []) []) in
          ap (λ (l : List ℕ). some_above limit (in_order_from tail (map (section_part o) l)))
          (below_more o tail s first)
          ∙ ap (λ (l : List PartAt). some_above limit (in_order_from tail l))
          (map-append (section_part o) (movable_below o s) (cond (is_movable o s) (s ∷ []) []))
          ∙ ap (some_above limit) (in_order_append tail before here)
          ∙ above_append limit (in_order_from tail before)
          (in_order_from (end_of_parts tail before) here)
          ∙ or_from (some_above limit (in_order_from tail before))
          (some_above limit (in_order_from (end_of_parts tail before) here)) so_far.fits
          (end_stands (here_fits (is_movable o s) refl
          (subst (λ (n : ℕ). MayStand o limit n s) so_far.end_is may)));
    }

    pub walk_stops : s < length o.sections → (MayStand o limit end s → ⊥)
        → some_above limit (parts_from o tail) ≡ true
    walk_stops there never = by_test (is_movable o s) refl
      where
        by_test : (b : Bool) → is_movable o s ≡ b → some_above limit (parts_from o tail) ≡ true
        by_test true is =
            section_above o tail (omega (arith, there)) s first there is limit
            (λ fits. never (λ t. subst (λ (n : ℕ). FitsBehind limit n (section_part o s))
            (sym so_far.end_is) fits))
        by_test false is =
            absurd (never (λ t. let clash : false ≡ true = sym is ∙ t in cc))

  -- the table stands behind all of them
  module _ (end : ℕ) (some : 0 < length o.sections)
      (so_far : StandsBelow o tail limit end (length o.sections)) where
    table_above : some_above limit (parts_from o tail)
        ≡ (nat_lt limit (place_of end (table_part o)) || false)
    unfolding in_order_from some_above end_below
    table_above =
        let before = map (section_part o) (movable o) in
        let same = ap (λ (l : List ℕ). map (section_part o) l) (below_all o tail) in
        ap (some_above limit) (parts_whole o tail some)
        ∙ ap (some_above limit) (in_order_append tail before (table_part o ∷ []))
        ∙ above_append limit (in_order_from tail before)
        (in_order_from (end_of_parts tail before) (table_part o ∷ []))
        ∙ ap (λ (b : Bool). b || (nat_lt limit (place_of (end_of_parts tail before)
        (table_part o)) || false))
        (ap (λ (l : List PartAt). some_above limit (in_order_from tail l)) (sym same)
        ∙ so_far.fits)
        ∙ ap (λ (n : ℕ). nat_lt limit (place_of n (table_part o)) || false)
        (ap (λ (l : List PartAt). end_of_parts tail l) (sym same) ∙ sym so_far.end_is)

    pub table_fits : place_of end (table_part o) ≤ limit
        → some_above limit (parts_from o tail) ≡ false
    table_fits fits =
        table_above
        ∙ or_from (nat_lt limit (place_of end (table_part o))) false
        (le-ltb limit (place_of end (table_part o)) fits) refl

    pub table_past : (place_of end (table_part o) ≤ limit → ⊥)
        → some_above limit (parts_from o tail) ≡ true
    table_past never =
        table_above
        ∙ or_left (nat_lt limit (place_of end (table_part o))) false
        (lt-ltb limit (place_of end (table_part o)) (elim (cases_lt limit
        (place_of end (table_part o))) [
          | inl above ↦ above
          | inr fits ↦ absurd (never fits)
        ]))

    pub table_is : table_place_from o tail ≡ place_of end (table_part o)
    table_is =
        table_stands o tail some
        ∙ ap (λ (n : ℕ). place_of n (table_part o)) (sym so_far.end_is)

-- what is found for it is its place, where none is above the limit
pub table_found : (o : Object) (tail limit end s align : ℕ) (r : Option ℕ)
    → 0 < length o.sections → s ≡ length o.sections → StandsBelow o tail limit end s
    → align ≡ (table_part o).align
    → SomeIff r (rounded_up end align ≤ limit) (rounded_up end align)
    → SomeIff r (some_above limit (parts_from o tail) ≡ false) (table_place_from o tail)
unfolding place_of
table_found o tail limit end s align (Some place) some last so_far aligned found =
    let below = subst (λ (n : ℕ). StandsBelow o tail limit end n) last so_far in
    let stands = ap (λ (n : ℕ). rounded_up end n) aligned in (
      table_fits o tail limit end some below (subst (λ (n : ℕ). n ≤ limit) stands found.0),
      found.1 ∙ stands ∙ sym (table_is o tail limit end some below),
    )
table_found o tail limit end s align None some last so_far aligned found = λ none.
    let below = subst (λ (n : ℕ). StandsBelow o tail limit end n) last so_far in
    let stands = ap (λ (n : ℕ). rounded_up end n) aligned in
    let past = table_past o tail limit end some below
    (λ fits. found (subst (λ (n : ℕ). n ≤ limit) (sym stands) fits)) in
    let clash : false ≡ true = sym none ∙ past in cc
