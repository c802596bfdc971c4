-- What some rows become is that part of what all of them become.
use Rattle.std.proofs.Common.{◌≡◌, ◌+◌, ◌-◌, ◌≤◌, ℕ, zero, suc, Bool, true, false, List, [], ◌∷◌, ◌++◌, length, take, drop, map, Option, refl, sym, ap, ◌∙◌, arith}
use Rattle.std.specs.Prelude.{slice_get, if◌then◌else◌}
use Rattle.std.specs.List.{enumerate_from}
use Rattle.std.proofs.lemmas.List.{drop-drop, length-map}
use Rattle.std.proofs.lemmas.List.FromFn.{length-enumerate_from}
use Rattle.elf_types.specs.declared.records.Class.{Class}
use Rattle.elf_types.specs.declared.records.Order.{Order}
use Rattle.elf_types.specs.declared.records.Kind.TheVariants as kinds
use Rattle.elf_types.specs.declared.records.Sym.{Sym}
use Rattle.elf_xlate.specs.declared.content.Items.TheVariants as items
use Rattle.elf_xlate.specs.Items.{item_size, word_of, sym_of}
use Rattle.elf_xlate.specs.Translation.{encoded, between, items_between, items_count}
use Rattle.elf_xlate.proofs.Pieces.{length_items_of}
use Rattle.elf_xlate.proofs.Ranges.{encoded_ranges, whole_range}
use Rattle.rebuild_image.specs.rebuild_model.Followed.{Renumbering, followed_by_word, followed_syms, word_of_sym, followed_words}
use Rattle.rebuild_tables.specs.declared.rows.FollowedRows.{FollowedRows}
use Rattle.rebuild_tables.specs.Rows.{syms_in_base, words_in_base, made_of_rows, rows_made, rows_made_between, row_count}

-- ---- Items, each with the one of another list that has the same number

module _ {A X Y : Type 0} (one : Option A → X → Y) where
  abbrev by_number : List A → ℕ → List X → List Y
  by_number others n l =
      map (λ (row : ℕ × X). one (slice_get others row.0) row.1) (enumerate_from n l)

  abbrev by_front : List A → List X → List Y
  by_front others [] = []
  by_front others (x ∷ l) = one (slice_get others 0) x ∷ by_front (drop 1 others) l

  at_number : (others : List A) (n : ℕ) → slice_get others n ≡ slice_get (drop n others) 0
  at_number [] zero = refl
  at_number [] (suc n) = refl
  at_number (a ∷ others) zero = refl
  at_number (a ∷ others) (suc n) = at_number others n

  numbers_fronts : (others : List A) (n : ℕ) (l : List X)
      → by_number others n l ≡ by_front (drop n others) l
  numbers_fronts others n [] = refl
  numbers_fronts others n (x ∷ l) =
      ap (λ (a : Option A). one a x ∷ by_number others (n + 1) l) (at_number others n)
      ∙ ap (λ (m : List Y). one (slice_get (drop n others) 0) x ∷ m)
      (numbers_fronts others (n + 1) l
      ∙ ap (λ (rest : List A). by_front rest l) (sym (drop-drop 1 n others)))

  front_of : (others : List A) (n : ℕ)
      → slice_get (take (suc n) others) 0 ≡ slice_get others 0
  front_of [] n = refl
  front_of (a ∷ others) n = refl

  behind_front : (others : List A) (n : ℕ)
      → drop 1 (take (suc n) others) ≡ take n (drop 1 others)
  behind_front [] zero = refl
  behind_front [] (suc n) = refl
  behind_front (a ∷ others) n = refl

  taken : (n : ℕ) (others : List A) (l : List X)
      → take n (by_front others l) ≡ by_front (take n others) (take n l)
  taken zero others l = refl
  taken (suc n) others [] = refl
  taken (suc n) others (x ∷ l) =
      ap (λ (a : Option A). one a x ∷ take n (by_front (drop 1 others) l))
      (sym (front_of others n))
      ∙ ap (λ (m : List Y). one (slice_get (take (suc n) others) 0) x ∷ m)
      (taken n (drop 1 others) l
      ∙ ap (λ (rest : List A). by_front rest (take n l)) (sym (behind_front others n)))

  dropped : (n : ℕ) (others : List A) (l : List X)
      → drop n (by_front others l) ≡ by_front (drop n others) (drop n l)
  dropped zero others l = refl
  dropped (suc n) others [] = refl
  dropped (suc n) others (x ∷ l) =
      dropped n (drop 1 others) l
      ∙ ap (λ (rest : List A). by_front rest (drop n l))
      (drop-drop n 1 others
      ∙ ap (λ (k : ℕ). drop k others) (let at : 1 + n ≡ suc n = omega arith in at))

  -- those from one on and before another one
  numbered_between : (others : List A) (l : List X) (from to : ℕ)
      → by_number (between from to others) 0 (between from to l)
      ≡ between from to (by_number others 0 l)
  numbered_between others l from to =
      numbers_fronts (between from to others) 0 (between from to l)
      ∙ sym (taken (to - from) (drop from others) (drop from l))
      ∙ ap (take (to - from)) (sym (dropped from others l))
      ∙ ap (λ (m : List Y). take (to - from) (drop from m)) (sym (numbers_fronts others 0 l))

  numbered_long : (others : List A) (l : List X) → length (by_number others 0 l) ≡ length l
  numbered_long others l =
      length-map (enumerate_from 0 l) (λ (row : ℕ × X). one (slice_get others row.0) row.1)
      ∙ length-enumerate_from 0 l

-- ---- Symbols and words

module _ (m : Renumbering) (words : List ℕ) (syms : List Sym) where
  syms_between : (from to : ℕ)
      → followed_syms m (between from to words) (between from to syms)
      ≡ between from to (followed_syms m words syms)
  unfolding followed_syms
  syms_between from to =
      numbered_between (λ (word : Option ℕ) (x : Sym). followed_by_word m word x) words syms from to

  words_between : (from to : ℕ)
      → followed_words m (between from to syms) (between from to words)
      ≡ between from to (followed_words m syms words)
  unfolding followed_words
  words_between from to =
      numbered_between (λ (x : Option Sym) (word : ℕ). word_of_sym m word x) syms words from to

  syms_long : length (followed_syms m words syms) ≡ length syms
  unfolding followed_syms
  syms_long =
      numbered_long (λ (word : Option ℕ) (x : Sym). followed_by_word m word x) words syms

  words_long : length (followed_words m syms words) ≡ length words
  unfolding followed_words
  words_long =
      numbered_long (λ (x : Option Sym) (word : ℕ). word_of_sym m word x) syms words

  made_between : (indexes : Bool) (from to : ℕ)
      → made_of_rows m indexes (between from to words) (between from to syms)
      ≡ items_between from to (made_of_rows m indexes words syms)
  made_between true from to = ap (λ (l : List ℕ). items.Word l) (words_between from to)
  made_between false from to = ap (λ (l : List Sym). items.Sym l) (syms_between from to)

  made_count : (indexes : Bool) → items_count (made_of_rows m indexes words syms)
      ≡ (if indexes then length words else length syms)
  made_count true = words_long
  made_count false = syms_long

  none_made : (indexes : Bool) (class : Class) (order : Order)
      → encoded class order (items_between 0 0 (made_of_rows m indexes words syms)) ≡ []
  unfolding encoded
  none_made true class order = refl
  none_made false class order = refl

-- ---- Rows

module _ (m : Renumbering) (base : List ℕ) (x : FollowedRows) where
  abbrev pub form_to : ℕ → List ℕ
  form_to n = encoded x.class x.order (items_between 0 n (rows_made m base x))

  pub form_none : [] ≡ form_to 0
  form_none =
      sym (none_made m (words_in_base base x) (syms_in_base base x) x.indexes x.class x.order)

  pub form_more : (a b : ℕ) (front behind : List ℕ) → a ≤ b → front ≡ form_to a
      → behind ≡ encoded x.class x.order (rows_made_between m base x a b)
      → front ++ behind ≡ form_to b
  form_more a b front behind order first second =
      ap (λ (l : List ℕ). l ++ behind) first
      ∙ ap (λ (l : List ℕ). form_to a ++ l)
      (second ∙ ap (encoded x.class x.order)
      (made_between m (words_in_base base x) (syms_in_base base x) x.indexes a b))
      ∙ encoded_ranges x.class x.order 0 a b (rows_made m base x) (omega arith) order

  syms_count : length (syms_in_base base x) ≡ x.syms.count
  unfolding syms_in_base
  syms_count =
      length_items_of (sym_of x.class x.order) (item_size kinds.Sym x.class) x.syms.count
      (drop x.syms.at base)

  words_count : length (words_in_base base x) ≡ x.words.count
  unfolding words_in_base
  words_count =
      length_items_of (word_of x.class x.order) (item_size kinds.Word x.class) x.words.count
      (drop x.words.at base)

  all_count : items_count (rows_made m base x) ≡ row_count x
  all_count =
      made_count m (words_in_base base x) (syms_in_base base x) x.indexes
      ∙ ap (λ (n : ℕ). if x.indexes then n else length (syms_in_base base x)) words_count
      ∙ ap (λ (n : ℕ). if x.indexes then x.words.count else n) syms_count

  pub form_all : form_to (row_count x) ≡ encoded x.class x.order (rows_made m base x)
  form_all =
      ap form_to (sym all_count)
      ∙ ap (encoded x.class x.order) (whole_range (rows_made m base x))
