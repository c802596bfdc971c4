-- Parts one after the other, as a loop over them places them.
use Rattle.std.proofs.Common.{◌≡◌, ℕ, ◌+◌, ◌<◌, ◌≤◌, max, List, [], ◌∷◌, ◌++◌, length, get_or, drop, Bool, true, false, cond, ◌||◌, nat_lt, ◌&&◌, Some, None, Ok, Err, sym, ◌∙◌, ap, refl, subst, ⊎_elim, arith}
use Rattle.std.proofs.lemmas.List.{append_assoc, append-nil, drop_more, drop_all}
use Rattle.std.proofs.lemmas.Bool.{le-ltb, lt-ltb, or_left, or_right, or_from, cases_lt}
use Rattle.elf_types.specs.declared.errors.ElfError.TheVariants.{TooLarge}
use Rattle.elf_layout.specs.declared.parts.PartAt.{PartAt}
use Rattle.elf_layout.specs.declared.parts.Places.{Places}
use Rattle.elf_types.specs.Answers.{answered}
use Rattle.elf_layout.specs.Layout.{place_of, end_after, in_order_from, length_from, length_with, some_above, positions, standing, length_of, places_of, is_too_large, overlap_refusal, refusal_within, placing_within, rounded_up}
use Rattle.elf_layout.specs.Meeting.{has_bytes, end_of}
use Rattle.elf_layout.proofs.Lengths.{length_from_ge}

-- parts of which the front stands at some places, and of which the rest is still to be placed
pub record IsPlacedSoFar (limit : ℕ) (parts rest : List PartAt) (at : List ℕ) (end length : ℕ) : Type 0 where
  pub length_below : length ≤ end
  pub end_fits : end ≤ limit
  pub same_places : at ++ positions (in_order_from end rest) ≡ positions (in_order_from 0 parts)
  pub same_length : length_from length (in_order_from end rest) ≡ length_from 0 (in_order_from 0 parts)
  pub same_above : some_above limit (in_order_from end rest) ≡ some_above limit (in_order_from 0 parts)

pub placed_none : (limit : ℕ) (parts : List PartAt) → IsPlacedSoFar limit parts parts [] 0 0
placed_none limit parts = record {
  length_below = omega arith;
  end_fits = omega arith;
  same_places = refl;
  same_length = refl;
  same_above = refl;
}

pub place_of-ge : (end : ℕ) (p : PartAt) → end ≤ place_of end p
unfolding place_of rounded_up
place_of-ge end p = omega arith

-- what a part does to the length: its end is the greatest so far
length_with_same : (place len end length : ℕ) (filled : Bool) → length ≤ place → cond (filled && nat_lt 0 len) (max length (place + len)) length ≡ cond (filled && nat_lt 0 len) (cond filled (place + len) end) length
length_with_same place len end length true below =
    ap (λ m. cond (nat_lt 0 len) m length) (let e : max length (place + len) ≡ place + len = omega arith in e)
length_with_same place len end length false below = refl

length_with_next : (end length : ℕ) (p : PartAt) → length ≤ end → length_with length (record p { at = place_of end p }) ≡ cond (has_bytes p) (end_after end p) length
unfolding length_with has_bytes end_of end_after
length_with_next end length p below =
    length_with_same (place_of end p) p.len end length p.filled (omega (arith, place_of-ge end p))

pub end_after-ge : (end : ℕ) (p : PartAt) → end ≤ end_after end p
unfolding end_after
end_after-ge end p =
    elim (p.filled) as (λ b. end ≤ cond b (place_of end p + p.len) end) [ true ↦ omega (arith, place_of-ge end p) | false ↦ omega arith ]

-- the next part
pub placed_more : (limit : ℕ) (parts : List PartAt) (p : PartAt) (rest : List PartAt) (at at' : List ℕ) (end length length' : ℕ)
    → IsPlacedSoFar limit parts (p ∷ rest) at end length
    → (place_of end p ≤ limit) × (end_after end p ≤ limit)
    → at' ≡ at ++ place_of end p ∷ []
    → length' ≡ cond (has_bytes p) (end_after end p) length
    → IsPlacedSoFar limit parts rest at' (end_after end p) length'
unfolding in_order_from length_from some_above positions
placed_more limit parts p rest at at' end length length' so_far fits at_is length_is = record {
  length_below =
      rw length_is (elim (has_bytes p) as (λ b. cond b (end_after end p) length ≤ end_after end p) [ true ↦ omega arith | false ↦ omega (arith, so_far.length_below, end_after-ge end p) ]);
  end_fits = fits.1;
  same_places =
      ap (λ l. l ++ positions (in_order_from (end_after end p) rest)) at_is ∙ (append_assoc at (place_of end p ∷ []) (positions (in_order_from (end_after end p) rest)) ∙ so_far.same_places);
  same_length =
      ap (λ n. length_from n (in_order_from (end_after end p) rest)) (length_is ∙ sym (length_with_next end length p so_far.length_below)) ∙ so_far.same_length;
  same_above =
      ap (λ b. b || some_above limit (in_order_from (end_after end p) rest)) (sym (le-ltb limit (place_of end p) fits.0)) ∙ so_far.same_above;
}

-- a length that the end of a part puts above the limit
length_above : (place len end length limit : ℕ) (filled : Bool) → end ≤ limit → place ≤ limit → limit < cond filled (place + len) end → limit < cond (filled && nat_lt 0 len) (max length (place + len)) length
length_above place len end length limit true end_fits place_fits above =
    let more : 0 < len = omega arith in
    let some : nat_lt 0 len ≡ true = lt-ltb 0 len more in
    rw some (omega arith)
length_above place len end length limit false end_fits place_fits above = absurd (omega arith)

refuses : (too_large : Bool) (places : Places) → too_large ≡ true → answered (cond too_large (Some TooLarge) None) places ≡ Err TooLarge
refuses true places e = refl
refuses false places e = cc

above_from : (m n limit : ℕ) → m ≤ limit → ((m ≤ limit) × (n ≤ limit) → ⊥) → limit < n
above_from m n limit fits above =
    ⊎_elim (λ (h : limit < n). h) (λ (h : n ≤ limit). absurd (above (fits, h))) (cases_lt limit n)

length_with_above : (limit end length : ℕ) (p : PartAt) → end ≤ limit → place_of end p ≤ limit → limit < end_after end p → limit < length_with length (record p { at = place_of end p })
unfolding length_with has_bytes end_of end_after
length_with_above limit end length p end_fits place_fits above =
    length_above (place_of end p) p.len end length limit p.filled end_fits place_fits above

-- a part that stands or ends above the limit
pub placed_above : (limit : ℕ) (parts : List PartAt) (p : PartAt) (rest : List PartAt) (at : List ℕ) (end length : ℕ)
    → IsPlacedSoFar limit parts (p ∷ rest) at end length
    → ((place_of end p ≤ limit) × (end_after end p ≤ limit) → ⊥)
    → placing_within parts false 0 limit ≡ Err TooLarge
unfolding placing_within refusal_within overlap_refusal is_too_large places_of length_of standing in_order_from length_from some_above
placed_above limit parts p rest at end length so_far above =
    refuses _ _ (⊎_elim
    (λ (here : limit < place_of end p). or_right _ _ (sym so_far.same_above ∙ or_left _ _ (lt-ltb _ _ here)))
    (λ (fits : place_of end p ≤ limit). or_left _ _ (lt-ltb _ _ (subst (λ (n : ℕ). limit < n) so_far.same_length (longer fits))))
    (cases_lt limit (place_of end p)))
  where
    longer : place_of end p ≤ limit → limit < length_from (length_with length (record p { at = place_of end p })) (in_order_from (end_after end p) rest)
    longer fits =
        let long = length_with_above limit end length p so_far.end_fits fits (above_from _ _ _ fits above) in
        omega (arith, long, length_from_ge (length_with length (record p { at = place_of end p })) (in_order_from (end_after end p) rest))

placed_at : (too_large : Bool) (at at' : List ℕ) (end end' : ℕ) → too_large ≡ false → at ≡ at' → end ≡ end' → answered {A = Places} (cond too_large (Some TooLarge) None) (record { at = at; end = end }) ≡ Ok (record { at = at'; end = end' })
placed_at true at at' end end' e same_at same_end = cc
placed_at false at at' end end' e same_at same_end = cc

-- all parts
pub placed_all : (limit : ℕ) (parts : List PartAt) (at : List ℕ) (end length : ℕ)
    → IsPlacedSoFar limit parts [] at end length
    → placing_within parts false 0 limit ≡ Ok (record { at = at; end = length })
unfolding placing_within refusal_within overlap_refusal is_too_large places_of length_of standing in_order_from length_from some_above positions
placed_all limit parts at end length so_far =
    placed_at _ _ _ _ _
    (or_from _ _ (le-ltb _ _ (omega (arith, so_far.same_length, so_far.length_below, so_far.end_fits))) (sym so_far.same_above))
    (sym so_far.same_places ∙ append-nil at)
    (sym so_far.same_length)

-- the same where a loop is at the part i
pub placed_next : (limit : ℕ) (parts : List PartAt) (i : ℕ) (d : PartAt) (at at' : List ℕ) (end length' length'' place after : ℕ)
    → i < length parts
    → IsPlacedSoFar limit parts (drop i parts) at end length'
    → ((place_of end (get_or parts i d) ≤ limit) × (end_after end (get_or parts i d) ≤ limit)) × ◌≡◌ {A = ℕ × ℕ} (place, after) (place_of end (get_or parts i d), end_after end (get_or parts i d))
    → at' ≡ at ++ place ∷ []
    → length'' ≡ cond (has_bytes (get_or parts i d)) after length'
    → IsPlacedSoFar limit parts (drop (i + 1) parts) at' after length''
placed_next limit parts i d at at' end length' length'' place after inside so_far next at_is length_is =
    let p = get_or parts i d in
    let place_is : place ≡ place_of end p = ap (λ (pair : ℕ × ℕ). pair.0) next.1 in
    let after_is : after ≡ end_after end p = ap (λ (pair : ℕ × ℕ). pair.1) next.1 in
    subst (λ (n : ℕ). IsPlacedSoFar limit parts (drop (i + 1) parts) at' n length'') (sym after_is)
    (placed_more limit parts p (drop (i + 1) parts) at at' end length' length''
    (subst (λ (rest : List PartAt). IsPlacedSoFar limit parts rest at end length') (drop_more parts i d inside) so_far)
    next.0
    (at_is ∙ ap (λ (n : ℕ). at ++ n ∷ []) place_is)
    (length_is ∙ ap (λ (n : ℕ). cond (has_bytes p) n length') after_is))

pub placed_past : (limit : ℕ) (parts : List PartAt) (i : ℕ) (d : PartAt) (at : List ℕ) (end length' : ℕ)
    → i < length parts
    → IsPlacedSoFar limit parts (drop i parts) at end length'
    → ((place_of end (get_or parts i d) ≤ limit) × (end_after end (get_or parts i d) ≤ limit) → ⊥)
    → placing_within parts false 0 limit ≡ Err TooLarge
placed_past limit parts i d at end length' inside so_far above =
    placed_above limit parts (get_or parts i d) (drop (i + 1) parts) at end length'
    (subst (λ (rest : List PartAt). IsPlacedSoFar limit parts rest at end length') (drop_more parts i d inside) so_far)
    above

pub placed_end : (limit : ℕ) (parts : List PartAt) (i : ℕ) (at : List ℕ) (end length' : ℕ)
    → length parts ≤ i
    → IsPlacedSoFar limit parts (drop i parts) at end length'
    → placing_within parts false 0 limit ≡ Ok (record { at = at; end = length' })
placed_end limit parts i at end length' outside so_far =
    placed_all limit parts at end length'
    (subst (λ (rest : List PartAt). IsPlacedSoFar limit parts rest at end length') (drop_all i parts outside) so_far)

-- where the parts stand one after the other, the bytes that are there already do not count
pub placing_anew : (parts : List PartAt) (base limit : ℕ) → placing_within parts false base limit ≡ placing_within parts false 0 limit
unfolding placing_within refusal_within is_too_large places_of length_of
placing_anew parts base limit = refl
