-- The first bytes of a name, told without its end.
use Rattle.std.proofs.Common.{◌≡◌, ◌+◌, ◌<◌, ◌≤◌, ◌++◌, ℕ, List, Bool, true, false, not, length, take, drop, get_or, Option, Some, None, codes, refl, sym, ap, ◌∙◌, subst, arith, inl, inr, length-take, length-take-le, length-append, get_or-take}
use Rattle.std.specs.Prelude.{◌==◌, take_while}
use Rattle.std.specs.List.{prefix_len}
use Rattle.std.proofs.lemmas.Bool.{cases_lt, both_ways}
use Rattle.std.proofs.lemmas.List.{get_or_append_left}
use Rattle.std.proofs.lemmas.List.Sums.{prefix_len_passes, prefix_len_stops}
use Rattle.elf_object.specs.Strings.{has_nul}
use Rattle.tool_objects.specs.gelf_view.Records.{string_front}
use Rattle.nm_tool.specs.Listed.{name_or_none}
use Rattle.nm_tool.specs.Ranked.{SharesFront, HasNoNul}

abbrev is_shown : ℕ → Bool
is_shown b = not (b == 0)

front_plain : (bytes : List ℕ) → HasNoNul (take (prefix_len is_shown bytes) bytes)
front_plain bytes i lt =
    let n = prefix_len is_shown bytes in
    let inside : i < n = omega (arith, lt, length-take n bytes) in
    ap is_shown (get_or-take n bytes i 0 inside) ∙ prefix_len_passes is_shown bytes i 0 inside

plain_by : (nul : Bool) (bytes : List ℕ) → has_nul bytes ≡ nul → HasNoNul (name_or_none (string_front bytes))
unfolding string_front
plain_by true bytes is = rw is (front_plain bytes)
plain_by false bytes is = rw is (λ i lt. prefix_len_passes is_shown (codes "<none>") i 0 lt)

-- a name as it is shown has no NUL
pub name_plain : (bytes : List ℕ) → HasNoNul (name_or_none (string_front bytes))
name_plain bytes = plain_by (has_nul bytes) bytes refl

module _ (first bytes : List ℕ) (count : ℕ) (le : count ≤ length first) (plain : HasNoNul first) (ended : has_nul bytes ≡ true)
    (rest : List ℕ) (begins : bytes ≡ take count first ++ rest) where
  same : (i : ℕ) → i < count → get_or first i 0 ≡ get_or bytes i 0
  same i lt =
      let inside : i < length (take count first) = omega (arith, lt, length-take-le count first le) in
      sym (get_or-take count first i 0 lt) ∙ sym (get_or_append_left (take count first) rest 0 i inside)
      ∙ ap (λ (l : List ℕ). get_or l i 0) (sym begins)

  long : count ≤ length bytes
  long = omega (arith, ap length begins, length-append (take count first) rest, length-take-le count first le)

  -- the first NUL is behind them
  reaches : count ≤ prefix_len is_shown bytes
  reaches = elim (cases_lt (prefix_len is_shown bytes) count) [
    | inl short ↦
        let n = prefix_len is_shown bytes in
        let stops : is_shown (get_or bytes n 0) ≡ false = prefix_len_stops is_shown bytes 0 (omega (arith, short, long)) in
        let shown : is_shown (get_or bytes n 0) ≡ true = ap is_shown (sym (same n short)) ∙ plain n (omega (arith, short, le)) in
        absurd (both_ways _ stops shown)
    | inr far ↦ far
  ]

  shown_is : name_or_none (string_front bytes) ≡ take (prefix_len is_shown bytes) bytes
  unfolding string_front
  shown_is = rw ended refl

  -- a name whose first bytes are those of a list without a NUL
  pub front_shared : SharesFront count first (name_or_none (string_front bytes))
  front_shared i lt =
      let inside : i < prefix_len is_shown bytes = omega (arith, lt, reaches) in
      same i lt ∙ sym (get_or-take (prefix_len is_shown bytes) bytes i 0 inside)
      ∙ ap (λ (l : List ℕ). get_or l i 0) (sym shown_is)
