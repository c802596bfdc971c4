-- Dues fall as more is loaded.
use Rattle.std.proofs.Common.{◌≡◌, ℕ, ◌+◌, ◌≤◌, Bool, true, false, not, ◌||◌, List, [], ◌∷◌, length, refl, sym, ◌∙◌, arith}
use Rattle.std.specs.Prelude.{count_by, filter, if◌then◌else◌}
use Rattle.std.specs.List.{range_with_len}
use Rattle.std.proofs.lemmas.List.Sums.{sum_by-cons}
use Rattle.elf_object.specs.Blocks.{is_covered}
use Rattle.elf_object.specs.Object.{Object, section_at, is_dirty}
use Rattle.elf_object.specs.Layout.{placed}
use Rattle.elf_object.specs.Image.{part_blocks, kept_base}
use Rattle.elf_object.specs.Refusal.{refusal}
use Rattle.elf_object.specs.Changed.{is_moved}
use Rattle.elf_object.specs.Due.{is_loaded, home_due, homes_due, is_refused_unread, unless_unread, all_sections, clean_homes, update_to_due, update_in_place_due}

-- what one list tells as loaded, another does too
abbrev pub IsMoreLoaded : List Bool → List Bool → Type 0
IsMoreLoaded less more = (s : ℕ) → is_loaded less s ≡ true → is_loaded more s ≡ true

pub none_loaded : (s : ℕ) → is_loaded [] s ≡ false
unfolding is_loaded
none_loaded s = refl

-- any list tells more than the empty one
pub more_than_none : (loaded : List Bool) → IsMoreLoaded [] loaded
more_than_none loaded s e = let clash : false ≡ true = sym (none_loaded s) ∙ e in cc

pub home_falls : (o : Object) (less more : List Bool) (s : ℕ) → IsMoreLoaded less more
    → home_due o more s ≤ home_due o less s
unfolding home_due
home_falls o less more s is =
    by_test (is_loaded less s) (is_loaded more s) (section_at o s).home.out (is s)
  where
    by_test : (a b out : Bool) → (a ≡ true → b ≡ true)
        → (if b || out then 0 else (section_at o s).home.len)
        ≤ (if a || out then 0 else (section_at o s).home.len)
    by_test true true out keeps = omega arith
    by_test true false out keeps = let clash : false ≡ true = keeps refl in cc
    by_test false true out keeps = omega arith
    by_test false false out keeps = omega arith

pub homes_fall : (o : Object) (less more : List Bool) (sections : List ℕ) → IsMoreLoaded less more
    → homes_due o more sections ≤ homes_due o less sections
unfolding homes_due
homes_fall o less more [] is = omega arith
homes_fall o less more (s ∷ sections) is =
    omega (
      arith,
      home_falls o less more s is,
      homes_fall o less more sections is,
      sum_by-cons (home_due o less) s sections,
      sum_by-cons (home_due o more) s sections,
    )

unless_falls : (o : Object) (m n : ℕ) → m ≤ n → unless_unread o m ≤ unless_unread o n
unless_falls o m n h = by_test (is_refused_unread (refusal o))
  where
    by_test : (b : Bool) → (if b then 0 else m) ≤ (if b then 0 else n)
    by_test true = omega arith
    by_test false = h

-- of an update to a sink
pub update_to_falls : (o : Object) (less more : List Bool) → IsMoreLoaded less more
    → update_to_due o more ≤ update_to_due o less
unfolding update_to_due
update_to_falls o less more is = by_test (is_dirty o)
  where
    kept : ℕ
    kept =
        count_by (λ k. not (is_covered (part_blocks (placed o)) k)) (range_with_len 0 (kept_base o))

    by_test : (b : Bool)
        → (if b then unless_unread o (homes_due o more (clean_homes o) + kept) else length o.base)
        ≤ (if b then unless_unread o (homes_due o less (clean_homes o) + kept) else length o.base)
    by_test true =
        unless_falls o (homes_due o more (clean_homes o) + kept)
        (homes_due o less (clean_homes o) + kept)
        (omega (arith, homes_fall o less more (clean_homes o) is))
    by_test false = omega arith

-- of an update in place
pub update_in_place_falls : (o : Object) (less more : List Bool) → IsMoreLoaded less more
    → update_in_place_due o more ≤ update_in_place_due o less
unfolding update_in_place_due
update_in_place_falls o less more is = by_test (is_dirty o)
  where
    moved : List ℕ
    moved = filter (is_moved o) (all_sections o)

    by_test : (b : Bool)
        → (if b then unless_unread o (homes_due o more moved) else 0)
        ≤ (if b then unless_unread o (homes_due o less moved) else 0)
    by_test true =
        unless_falls o (homes_due o more moved) (homes_due o less moved)
        (homes_fall o less more moved is)
    by_test false = omega arith

-- An update is due the most where nothing is loaded.
pub update_to_most : (o : Object) (loaded : List Bool)
    → update_to_due o loaded ≤ update_to_due o []
update_to_most o loaded = update_to_falls o [] loaded (more_than_none loaded)

pub update_in_place_most : (o : Object) (loaded : List Bool)
    → update_in_place_due o loaded ≤ update_in_place_due o []
update_in_place_most o loaded = update_in_place_falls o [] loaded (more_than_none loaded)
