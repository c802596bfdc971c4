-- A name that is cut behind the longest that counts is found as the whole one is.
use Rattle.std.proofs.Common.{◌≡◌, ◌⊎◌, inl, inr, ◌+◌, ◌<◌, ◌≤◌, ◌||◌, ◌&&◌, ℕ, Bool, false, List, [], ◌∷◌, length, take, codes, Option, Some, None, Ok, refl, sym, ap, ◌∙◌, arith}
use Rattle.std.specs.Prelude.{nat_eq}
use Rattle.std.specs.List.{list_any, starts_with, AllByRecursion}
use Rattle.std.specs.Str.{bytes_eq}
use Rattle.std.specs.Cmp.Lexicographic.{pointwise, unequal}
use Rattle.std.proofs.lemmas.Bool.{cases_lt, false_from_ne_true}
use Rattle.std.proofs.lemmas.List.{take_all, take-take, length-take-le}
use Rattle.rebuild_model.specs.elf_object.Words.{Wants, Answers}
use Rattle.rebuild_model.specs.Removed.{is_debug_name}
use Rattle.gelf_view.specs.Records.{first_bytes_of}
use Rattle.rebuild_select.specs.Sought.Names.{is_sought, AreUpTo}
use Rattle.rebuild_select.specs.Calls.{found_by}
use Rattle.rebuild_select.proofs.NameLaws.{ok_injective}

-- tests that agree on words up to a length agree on a list of such words
any_up_to : (f g : List ℕ → Bool) (n : ℕ) (words : List (List ℕ))
    → ((word : List ℕ) → length word ≤ n → f word ≡ g word)
    → AllByRecursion (λ word. length word ≤ n) words → list_any f words ≡ list_any g words
any_up_to f g n [] same all = refl
any_up_to f g n (word ∷ words) same all =
    ap (λ (b : Bool). b || list_any f words) (same word all.0)
    ∙ ap (λ (b : Bool). g word || b) (any_up_to f g n words same all.1)

-- a name that is longer than `n`, and its first bytes, one more than `n`
module _ (n : ℕ) (name : List ℕ) (longer : n + 1 ≤ length name) where
  abbrev front : List ℕ
  front = take (n + 1) name

  front_long : length front ≡ n + 1
  front_long = length-take-le (n + 1) name longer

  -- both begin with the same words
  same_start : (word : List ℕ) → length word ≤ n
      → starts_with nat_eq front word ≡ starts_with nat_eq name word
  same_start word fits =
      ap (λ (l : List ℕ). pointwise nat_eq word l)
      (take-take (length word) (n + 1) name (omega (arith, fits)))

  -- and neither is one of them
  both_other : (word : List ℕ) → length word ≤ n → bytes_eq front word ≡ bytes_eq name word
  both_other word fits =
      unequal nat_eq front word (λ same. omega (arith, front_long, same, fits))
      ∙ sym (unequal nat_eq name word (λ same. omega (arith, longer, same, fits)))

  same_debug : 10 ≤ n → is_debug_name front ≡ is_debug_name name
  unfolding is_debug_name
  same_debug most = λ i.
      any_up_to (starts_with nat_eq front) (starts_with nat_eq name) n
      (codes ".debug" ∷ codes ".zdebug" ∷ codes ".stab" ∷ []) same_start
      (omega (arith, most), (omega (arith, most), (omega (arith, most), tt))) i
      || any_up_to (bytes_eq front) (bytes_eq name) n (codes ".line" ∷ codes ".gdb_index" ∷ [])
      both_other (omega (arith, most), (omega (arith, most), tt)) i

  none_sought : (names : List (List ℕ)) (l : List ℕ) → n + 1 ≤ length l → AreUpTo n names
      → is_sought names l ≡ false
  none_sought names l long up_to = false_from_ne_true (is_sought names l)
      (λ is. let fits = up_to l is in omega (arith, fits, long))

  same_sought : (names : List (List ℕ)) → AreUpTo n names
      → is_sought names front ≡ is_sought names name
  same_sought names up_to =
      none_sought names front (omega (arith, front_long)) up_to
      ∙ sym (none_sought names name longer up_to)

  longer_found : (names : List (List ℕ)) (debug : Bool) → AreUpTo n names → 10 ≤ n
      → found_by names debug (Some front) ≡ found_by names debug (Some name)
  longer_found names debug up_to most = λ i.
      same_sought names up_to i || (debug && same_debug most i)

pub front_found : (names : List (List ℕ)) (debug : Bool) (n : ℕ) (name : Option (List ℕ))
    → AreUpTo n names → 10 ≤ n
    → found_by names debug (first_bytes_of (n + 1) name) ≡ found_by names debug name
front_found names debug n None up_to most = refl
front_found names debug n (Some name) up_to most = by_length (cases_lt n (length name))
  where
    by_length : (n < length name) ⊎ (length name ≤ n)
        → found_by names debug (first_bytes_of (n + 1) (Some name)) ≡ found_by names debug (Some name)
    by_length (inl longer) = longer_found n name (omega (arith, longer)) names debug up_to most
    by_length (inr fits) =
        ap (λ (l : List ℕ). found_by names debug (Some l))
        (take_all (n + 1) name (omega (arith, fits)))

-- what a look at the front of a section's name tells of the whole
pub front_told : (told : Bool) (wants : Wants) (names : List (List ℕ)) (debug : Bool) (n : ℕ)
    (name front : Option (List ℕ)) (found : Bool) → AreUpTo n names → 10 ≤ n
    → found ≡ found_by names debug front
    → Answers told wants (Ok front) (Ok (first_bytes_of (n + 1) name))
    → Answers told wants (Ok found) (Ok (found_by names debug name))
front_told told wants names debug n name front found up_to most is came = (
  refl,
  λ tells. ap Ok (sym (front_found names debug n name up_to most)
      ∙ ap (λ (seen : Option (List ℕ)). found_by names debug seen)
      (ok_injective (first_bytes_of (n + 1) name) front (came.1 tells))
      ∙ sym is),
)
