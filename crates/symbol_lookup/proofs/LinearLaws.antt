-- The first symbol with a name, found one after another.
use Rattle.std.proofs.Common.{◌≡◌, ℕ, ◌<◌, ◌≤◌, Bool, true, false, not, List, [], ◌∷◌, ◌++◌, length, get_or, Option, Some, None, Result, Ok, refl, sym, ap, ◌∙◌, subst, cond, arith}
use Rattle.std.specs.Prelude.{IsTrue, Contains, is_none, nat_lt, ◌==◌, ◌||◌, if◌then◌else◌}
use Rattle.std.specs.List.{position}
use Rattle.std.proofs.lemmas.Bool.{le-ltb, lt-ltb, ltb-true, ltb-false, eqb-true}
use Rattle.std.proofs.lemmas.List.Sums.{position_or_len_is}
use Rattle.elf_types.specs.declared.records.Kind.TheVariants as kinds
use Rattle.hash_model.specs.elf_object.Object.{Object, section_at, piece_at, home_is_clean}
use Rattle.hash_model.specs.elf_object.Due.{when_clean, when_piece_clean, with_others}
use Rattle.elf_types.specs.declared.errors.ElfError.{ElfError}
use Rattle.gelf_view.specs.elf_descriptor.State.{State}
use Rattle.hash_model.specs.elf_object.Answers.{count_at, items_at, lend_refusal}
use Rattle.hash_model.specs.elf_object.Strings.{is_name}
use Rattle.hash_model.proofs.elf_object.AnswerLaws.{lend_passed, items_kind_at}
use Rattle.hash_model.proofs.elf_object.ItemCounts.{syms_counted}
use Rattle.hash_model.specs.Listed.{listed_names}
use Rattle.symbol_lookup.specs.Lookups.{is_match, link_of, linear_needs, table_homes}
use Rattle.symbol_lookup.specs.Searches.{HasTable, ObjectStays}
use Rattle.symbol_lookup.proofs.StepLaws.{table_stays, ok_is}
use Rattle.symbol_lookup.proofs.CallLaws.{listed_length}

-- ---- The first one that passes

module _ {X : Type 0} (p : X → Bool) (xs : List X) (d : X) where
  abbrev at_first : ℕ → Option ℕ
  at_first n = cond (nat_lt n (length xs)) (Some n) None

  pub none_passes : ((k : ℕ) → k < length xs → p (get_or xs k d) ≡ false) → position p xs ≡ None
  none_passes none =
      ap at_first (position_or_len_is p xs (length xs) d (omega arith) none (λ below. absurd (omega arith)))
      ∙ ap (λ (b : Bool). cond b (Some (length xs)) None) (le-ltb (length xs) (length xs) (omega arith))

  pub first_passes : (i : ℕ) → i < length xs → ((k : ℕ) → k < i → p (get_or xs k d) ≡ false) → p (get_or xs i d) ≡ true → position p xs ≡ Some i
  first_passes i below before here =
      ap at_first (position_or_len_is p xs i d (omega arith) before (λ _. here))
      ∙ ap (λ (b : Bool). cond b (Some i) None) (lt-ltb i (length xs) below)

-- ---- The symbols of a section

module _ (o : Object) (s count : ℕ) (name : List ℕ) (passed : lend_refusal o kinds.Sym s 0 ≡ None) (is : count ≡ count_at o s 0) where
  pub count_is : count ≡ length (listed_names o s)
  unfolding count_at
  count_is =
      let lent = lend_passed o kinds.Sym s 0 passed in
      is ∙ sym (syms_counted (items_at o s 0) (items_kind_at o s 0 lent.3 ∙ lent.2)) ∙ sym (listed_length o s)

  pub none_found : ((j : ℕ) → j < count → is_match o s name j ≡ false) → position (is_name name) (listed_names o s) ≡ None
  unfolding is_match
  none_found none = let long = count_is in none_passes (is_name name) (listed_names o s) None (λ k below. none k (omega (arith, below, long)))

  pub first_found : (i : ℕ) → i < count → ((j : ℕ) → j < i → is_match o s name j ≡ false) → is_match o s name i ≡ true → position (is_name name) (listed_names o s) ≡ Some i
  unfolding is_match
  first_found i below before here = let long = count_is in first_passes (is_name name) (listed_names o s) None i (omega (arith, below, long)) before here

-- ---- What it needs covers each symbol

module _ (s l : ℕ) where
  abbrev one_of : Bool → ℕ → List ℕ
  one_of t k = if t then k ∷ [] else []

  abbrev both : Bool → List ℕ
  both same = (s ∷ []) ++ cond (not (same || false)) (l ∷ []) []

  has_first : (t : Bool) (others : List ℕ) → IsTrue t → Contains (with_others (one_of t s) others) s
  unfolding with_others
  has_first true others is = (0, omega arith, refl)
  has_first false others is = cc

  has_other : (t u : Bool) → IsTrue u → Contains (with_others (one_of t s) (one_of u l)) l
  unfolding with_others
  has_other t false is = cc
  has_other false true is = (0, omega arith, refl)
  has_other true true is = by_same (s == l) refl
    where
      by_same : (same : Bool) → (s == l) ≡ same → Contains (both (s == l)) l
      by_same true known = subst (λ (b : Bool). Contains (both b) l) (sym known) (0, omega arith, eqb-true s l known)
      by_same false known = subst (λ (b : Bool). Contains (both b) l) (sym known) (1, omega arith, refl)

pub linear_has : (o : Object) (s : ℕ) → HasTable (linear_needs o s) o s
unfolding linear_needs table_homes when_piece_clean when_clean
linear_has o s = record {
  table = (0, omega arith, refl);
  home = λ clean. has_first s (link_of o s) (is_none (piece_at o s 0).own) _ clean;
  strings = λ clean. has_other s (link_of o s) (is_none (piece_at o s 0).own) (home_is_clean (section_at o (link_of o s))) clean;
}

-- ---- Symbol by symbol

module _ {S : Type 0} (old mid : State S) (s : ℕ) (stays : ObjectStays old mid) where
  pub still_has : HasTable (linear_needs old.o s) mid.o s
  still_has = table_stays (linear_needs old.o s) old.o mid.o s stays.object (linear_has old.o s)

  -- what is told of a symbol on the way
  pub told_match : (name : List ℕ) (i : ℕ) (found : Bool) → (IsTrue mid.told → ◌≡◌ {A = Result Bool ElfError} (Ok (is_match mid.o s name i)) (Ok found)) → IsTrue old.told → is_match old.o s name i ≡ found
  told_match name i found came told =
      let same : found ≡ is_match mid.o s name i = ok_is (came (stays.told ∙ told)) in
      sym (same ∙ ap (λ (o : Object). is_match o s name i) stays.object)

  -- those that are passed over on the way
  pub passed_more : (name : List ℕ) (next at : ℕ) → (IsTrue old.told → (j : ℕ) → j < next → is_match old.o s name j ≡ false)
      → (IsTrue mid.told → (j : ℕ) → next ≤ j → j < at → is_match mid.o s name j ≡ false) → IsTrue old.told → (j : ℕ) → j < at → is_match old.o s name j ≡ false
  passed_more name next at before over told j below = by_side (nat_lt j next) refl
    where
      by_side : (t : Bool) → nat_lt j next ≡ t → is_match old.o s name j ≡ false
      by_side true is = before told j (ltb-true j next is)
      by_side false is = ap (λ (o : Object). is_match o s name j) (sym stays.object) ∙ over (stays.told ∙ told) j (ltb-false j next is) below
