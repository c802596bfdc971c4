-- Strings at the front of bytes, and those that begin in bytes up to their last NUL.
use Rattle.std.proofs.Common.{◌≡◌, ◌⊎◌, inl, inr, ℕ, zero, suc, ◌+◌, ◌-◌, ◌<◌, ◌≤◌, ◌==◌, ◌||◌, not, Bool, true, false, cond, List, [], ◌∷◌, ◌++◌, length, take, drop, get_or, slice_get, Option, Some, None, refl, sym, ap, ◌∙◌, arith}
use Rattle.std.specs.Prelude.{nat_lt, nat_eq, take_while, is_some, unwrap_or, if◌then◌else◌}
use Rattle.std.specs.Cmp.Lexicographic.{unequal}
use Rattle.std.specs.Option.{option_map, option_map_or}
use Rattle.std.proofs.lemmas.Bool.{cond-true, cond-false, ne_eqb, cases_lt, lt-ltb, le-ltb}
use Rattle.std.proofs.lemmas.List.{length-take-le, length-drop, get_or-drop, get_or-take, take-append-drop, drop-append-le, drop_all}
use Rattle.std.proofs.lemmas.List.Elements.{All-from_get_or}
use Rattle.std.proofs.lemmas.List.Folds.{list_any_at, list_any_none}
use Rattle.std.proofs.lemmas.List.Sums.{take_while-cons}
use Rattle.std.proofs.lemmas.Option.{slice_get_within, unwrap_or-slice_get}
use Rattle.elf_descriptor.specs.elf_object.Strings.{has_nul, is_name}
use Rattle.elf_descriptor.specs.section_data.Nuls.{IsLastEnd, IsEndedFront}
use Rattle.gelf_view.specs.Records.{string_front, shorter_than, first_bytes_of, AreEnded}

-- ---- The string at the front

abbrev goes_on : ℕ → Bool
goes_on b = not (b == 0)

abbrev front_by : Bool → List ℕ → Option (List ℕ)
front_by has name = if has then Some name else None

abbrev behind : ℕ → Option (List ℕ) → Option (List ℕ)
behind x name = option_map (λ (l : List ℕ). x ∷ l) name

front_behind : (x : ℕ) (name : List ℕ) (has : Bool)
    → front_by has (x ∷ name) ≡ behind x (front_by has name)
front_behind x name true = refl
front_behind x name false = refl

front_first : (x : ℕ) (name : List ℕ) (nul has : Bool)
    → front_by (nul || has) (cond (not nul) (x ∷ name) [])
    ≡ (if nul then Some [] else behind x (front_by has name))
front_first x name true has = refl
front_first x name false has = front_behind x name has

front_more : (x : ℕ) (l : List ℕ)
    → string_front (x ∷ l) ≡ (if x == 0 then Some [] else behind x (string_front l))
unfolding string_front
front_more x l =
    ap (front_by ((x == 0) || has_nul l)) (take_while-cons goes_on x l)
    ∙ front_first x (take_while goes_on l) (x == 0) (has_nul l)

front_none : string_front [] ≡ None
unfolding string_front
front_none = refl

-- what follows a string with its NUL is none of it
front_append : (l rest : List ℕ) → has_nul l ≡ true → string_front (l ++ rest) ≡ string_front l
front_append [] rest has = cc
front_append (x ∷ l) rest has =
    front_more x (l ++ rest)
    ∙ by_first x l rest (front_append l rest) (x == 0) has
    ∙ sym (front_more x l)
  where
    by_first : (x : ℕ) (l rest : List ℕ)
        → (has_nul l ≡ true → string_front (l ++ rest) ≡ string_front l)
        → (nul : Bool) → (nul || has_nul l) ≡ true
        → (if nul then Some [] else behind x (string_front (l ++ rest)))
        ≡ (if nul then Some [] else behind x (string_front l))
    by_first x l rest later true has = refl
    by_first x l rest later false has = ap (behind x) (later has)

no_front : (l : List ℕ) → has_nul l ≡ false → string_front l ≡ None
unfolding string_front
no_front l none = cond-false _ _ _ none

some_front : (l : List ℕ) → has_nul l ≡ true → is_some (string_front l) ≡ true
unfolding string_front
some_front l has = ap (λ (r : Option (List ℕ)). is_some r) (cond-true _ _ _ has)

-- no string begins past the end
pub no_string_past_end : (bytes : List ℕ) (place : ℕ) → length bytes < place
    → None ≡ string_front (drop place bytes)
no_string_past_end bytes place past =
    sym (ap string_front (drop_all place bytes (omega (arith, past))) ∙ front_none)

-- ---- A string that is not longer than it may be

short_behind : (x n : ℕ) (name : Option (List ℕ))
    → behind x (shorter_than n name) ≡ shorter_than (suc n) (behind x name)
short_behind x n None = refl
short_behind x n (Some name) = by_length (cases_lt (length name) n)
  where
    by_length : (length name < n) ⊎ (n ≤ length name)
        → behind x (shorter_than n (Some name)) ≡ shorter_than (suc n) (Some (x ∷ name))
    by_length (inl lt) =
        ap (λ (b : Bool). behind x (if b then Some name else None)) (lt-ltb (length name) n lt)
        ∙ sym (ap (λ (b : Bool). if b then Some (x ∷ name) else None)
        (lt-ltb (suc (length name)) (suc n) (omega (arith, lt))))
    by_length (inr le) =
        ap (λ (b : Bool). behind x (if b then Some name else None)) (le-ltb (length name) n le)
        ∙ sym (ap (λ (b : Bool). if b then Some (x ∷ name) else None)
        (le-ltb (suc (length name)) (suc n) (omega (arith, le))))

short_none : (name : Option (List ℕ)) → shorter_than zero name ≡ None
short_none None = refl
short_none (Some name) =
    ap (λ (b : Bool). if b then Some name else None) (le-ltb (length name) zero (omega arith))

front_empty : (n : ℕ) → string_front [] ≡ shorter_than n (string_front [])
front_empty n = front_none ∙ sym (ap (λ (name : Option (List ℕ)). shorter_than n name) front_none)

pub front_short : (n : ℕ) (l : List ℕ)
    → string_front (take n l) ≡ shorter_than n (string_front l)
front_short zero [] = front_empty zero
front_short zero (x ∷ l) = front_none ∙ sym (short_none (string_front (x ∷ l)))
front_short (suc n) [] = front_empty (suc n)
front_short (suc n) (x ∷ l) =
    front_more x (take n l)
    ∙ by_first (front_short n l) (x == 0)
    ∙ sym (ap (λ (name : Option (List ℕ)). shorter_than (suc n) name) (front_more x l))
  where
    by_first : string_front (take n l) ≡ shorter_than n (string_front l) → (nul : Bool)
        → (if nul then Some [] else behind x (string_front (take n l)))
        ≡ shorter_than (suc n) (if nul then Some [] else behind x (string_front l))
    by_first later true =
        sym (ap (λ (b : Bool). if b then Some [] else None) (lt-ltb zero (suc n) (omega arith)))
    by_first later false = ap (behind x) later ∙ short_behind x n (string_front l)

-- a name that is shorter is found all the same
pub short_name : (n : ℕ) (name : List ℕ) (found : Option (List ℕ)) → length name < n
    → is_name name (shorter_than n found) ≡ is_name name found
short_name n name None below = refl
short_name n name (Some found) below = by_length (cases_lt (length found) n)
  where
    by_length : (length found < n) ⊎ (n ≤ length found)
        → is_name name (shorter_than n (Some found)) ≡ is_name name (Some found)
    by_length (inl lt) =
        ap (λ (b : Bool). is_name name (if b then Some found else None))
        (lt-ltb (length found) n lt)
    by_length (inr le) =
        ap (λ (b : Bool). is_name name (if b then Some found else None))
        (le-ltb (length found) n le)
        ∙ sym (unequal nat_eq found name (λ same. omega (arith, same, le, below)))

-- ---- The first bytes of a string

-- a NUL that is the last of bytes is one of them
pub last_nul : (bytes : List ℕ)
    → option_map_or (λ b. b == 0) (slice_get bytes (length bytes - 1)) false ≡ true
    → has_nul bytes ≡ true
last_nul bytes is = by_last (slice_get bytes (length bytes - 1)) refl is
  where
    by_last : (last : Option ℕ) → slice_get bytes (length bytes - 1) ≡ last
        → option_map_or (λ b. b == 0) last false ≡ true → has_nul bytes ≡ true
    by_last None stands nul = cc
    by_last (Some b) stands nul =
        list_any_at (λ b. b == 0) bytes (length bytes - 1) 0
        (slice_get_within bytes (length bytes - 1) b stands)
        (ap (λ (b : ℕ). b == 0)
        (sym (unwrap_or-slice_get bytes (length bytes - 1) 0)
        ∙ ap (λ (last : Option ℕ). unwrap_or last 0) stands)
        ∙ nul)

-- the string that was found in the front of bytes, or all of the front
abbrev found_or : List ℕ → Option (List ℕ) → Option (List ℕ)
found_or front None = Some front
found_or front (Some string) = Some string

found_behind : (x : ℕ) (front : List ℕ) (found : Option (List ℕ))
    → found_or (x ∷ front) (behind x found) ≡ behind x (found_or front found)
found_behind x front None = refl
found_behind x front (Some string) = refl

front_of_behind : (x n : ℕ) (found : Option (List ℕ))
    → behind x (first_bytes_of n found) ≡ first_bytes_of (suc n) (behind x found)
front_of_behind x n None = refl
front_of_behind x n (Some string) = refl

front_of_none : (l : List ℕ) → has_nul l ≡ true → Some [] ≡ first_bytes_of zero (string_front l)
unfolding string_front
front_of_none l has =
    sym (ap (λ (found : Option (List ℕ)). first_bytes_of zero found) (cond-true _ _ _ has))

front_within : (n : ℕ) (l : List ℕ) → has_nul l ≡ true
    → found_or (take n l) (string_front (take n l)) ≡ first_bytes_of n (string_front l)
front_within zero l has =
    ap (λ (found : Option (List ℕ)). found_or [] found) front_none ∙ front_of_none l has
front_within (suc n) [] has = cc
front_within (suc n) (x ∷ l) has =
    ap (λ (found : Option (List ℕ)). found_or (x ∷ take n l) found) (front_more x (take n l))
    ∙ by_first (front_within n l) (x == 0) has
    ∙ sym (ap (λ (found : Option (List ℕ)). first_bytes_of (suc n) found) (front_more x l))
  where
    by_first : (has_nul l ≡ true
        → found_or (take n l) (string_front (take n l)) ≡ first_bytes_of n (string_front l))
        → (nul : Bool) → (nul || has_nul l) ≡ true
        → found_or (x ∷ take n l)
        (if nul then Some [] else behind x (string_front (take n l)))
        ≡ first_bytes_of (suc n) (if nul then Some [] else behind x (string_front l))
    by_first later true has = refl
    by_first later false has =
        found_behind x (take n l) (string_front (take n l))
        ∙ ap (λ (found : Option (List ℕ)). behind x found) (later has)
        ∙ front_of_behind x n (string_front l)

-- what the front of bytes, in which a NUL follows, tells of the string with which they begin
module _ (n : ℕ) (bytes front : List ℕ) (has : has_nul bytes ≡ true) (is : front ≡ take n bytes)
  where
    told_by : (found : Option (List ℕ)) → found ≡ string_front front
        → found_or (take n bytes) found ≡ first_bytes_of n (string_front bytes)
    told_by found came =
        ap (λ (r : Option (List ℕ)). found_or (take n bytes) r) (came ∙ ap string_front is)
        ∙ front_within n bytes has

    -- it ends in the front
    pub front_string : (string : List ℕ) → Some string ≡ string_front front
        → Some string ≡ first_bytes_of n (string_front bytes)
    front_string string came = told_by (Some string) came

    -- it does not
    pub front_all : None ≡ string_front front → Some front ≡ first_bytes_of n (string_front bytes)
    front_all came = ap (λ (l : List ℕ). Some l) is ∙ told_by None came

-- ---- Bytes up to their last NUL

module _ (bytes : List ℕ) (n : ℕ) (is : IsLastEnd bytes n) where
  abbrev cut : List ℕ
  cut = take n bytes

  cut_len : length cut ≡ n
  cut_len = length-take-le n bytes is.within

  -- from the end on there is no NUL
  past : (at : ℕ) → n ≤ at → has_nul (drop at bytes) ≡ false
  past at from =
      list_any_none (λ b. b == 0) (drop at bytes)
      (All-from_get_or (λ b. (b == 0) ≡ false) (drop at bytes) 0
      (λ k below.
      ap (λ (b : ℕ). b == 0) (get_or-drop at bytes k 0)
      ∙ ne_eqb (get_or bytes (at + k) 0) 0
      (is.free (at + k) (omega (arith, from)) (omega (arith, below, length-drop at bytes)))))

  -- and from each place before it one follows
  before : (at : ℕ) → at < n → has_nul (drop at cut) ≡ true
  before at lt =
      let place : at + (n - 1 - at) ≡ n - 1 = omega (arith, lt) in
      list_any_at (λ b. b == 0) (drop at cut) (n - 1 - at) 0
      (omega (arith, length-drop at cut, cut_len, lt))
      (ap (λ (b : ℕ). b == 0)
      (get_or-drop at cut (n - 1 - at) 0
      ∙ ap (λ (k : ℕ). get_or cut k 0) place
      ∙ get_or-take n bytes (n - 1) 0 (omega (arith, lt))
      ∙ is.nul (omega (arith, lt))))

  whole : (at : ℕ) → at ≤ n → drop at bytes ≡ drop at cut ++ drop n bytes
  whole at le =
      ap (λ (l : List ℕ). drop at l) (sym (take-append-drop n bytes))
      ∙ drop-append-le at cut (drop n bytes) (omega (arith, cut_len, le))

  none_left : (at : ℕ) → n ≤ at → string_front (drop at cut) ≡ None
  none_left at from =
      ap string_front (drop_all at cut (omega (arith, cut_len, from))) ∙ front_none

  -- the same strings begin in them
  pub same_strings : (at : ℕ) → string_front (drop at cut) ≡ string_front (drop at bytes)
  same_strings at = by_place (cases_lt at n)
    where
      by_place : (at < n) ⊎ (n ≤ at) → string_front (drop at cut) ≡ string_front (drop at bytes)
      by_place (inl lt) =
          sym (ap string_front (whole at (omega (arith, lt)))
          ∙ front_append (drop at cut) (drop n bytes) (before at lt))
      by_place (inr from) =
          none_left at from ∙ sym (no_front (drop at bytes) (past at from))

  -- and one at each place
  pub each_ended : AreEnded cut
  each_ended at = by_place (cases_lt at n)
    where
      by_place : (at < n) ⊎ (n ≤ at)
          → is_some (string_front (drop at cut)) ≡ nat_lt at (length cut)
      by_place (inl lt) =
          some_front (drop at cut) (before at lt)
          ∙ sym (lt-ltb at (length cut) (omega (arith, cut_len, lt)))
      by_place (inr from) =
          ap (λ (r : Option (List ℕ)). is_some r) (none_left at from)
          ∙ sym (le-ltb at (length cut) (omega (arith, cut_len, from)))

-- the same strings begin in bytes and in those up to their last NUL
pub front_strings : (bytes front : List ℕ) → IsEndedFront bytes front → (at : ℕ)
    → string_front (drop at front) ≡ string_front (drop at bytes)
front_strings bytes front (inl whole) at = ap (λ (l : List ℕ). string_front (drop at l)) whole
front_strings bytes front (inr ended) at =
    ap (λ (l : List ℕ). string_front (drop at l)) ended.is
    ∙ same_strings bytes ended.count ended.last at
