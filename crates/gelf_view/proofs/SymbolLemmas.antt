-- The section of a symbol: a call that gives the symbol, and one that may look at the table of extended indexes.
use Rattle.std.proofs.Common.{◌≡◌, ◌≢◌, ℕ, ◌<◌, ◌≤◌, Bool, true, false, not, List, [], ◌∷◌, ◌++◌, length, Option, Some, None, Result, Ok, Err, refl, sym, ap, ◌∙◌, subst, inl, inr, arith}
use Rattle.std.specs.Prelude.{IsTrue, ◌==◌, ◌||◌, ◌⊎◌, is_none, nat_lt, nat_le, filter, if◌then◌else◌}
use Rattle.std.specs.List.{list_any}
use Rattle.std.proofs.Math.Bool.{or-true}
use Rattle.std.proofs.lemmas.Bool.{le-leb, lt-leb, le-ltb, lt-ltb, eqb-true, eq-eqb, ne_eqb}
use Rattle.std.proofs.lemmas.Option.{slice_get_cases, slice_get_within}
use Rattle.elf_types.specs.declared.constants.TheConstants.{SHN_LORESERVE, SHN_XINDEX}
use Rattle.elf_types.specs.declared.records.Kind.{Kind}
use Rattle.elf_types.specs.declared.records.Kind.TheVariants as kinds
use Rattle.elf_types.specs.declared.records.Sym.{Sym}
use Rattle.elf_types.specs.declared.errors.ElfError.{ElfError}
use Rattle.elf_types.specs.declared.errors.ElfError.TheVariants.{NoEntry, NoData, WrongKind}
use Rattle.elf_types.specs.Answers.{refused_if, first_refusal, err_of}
use Rattle.elf_descriptor.specs.elf_xlate.declared.content.Items.{Items}
use Rattle.elf_descriptor.specs.elf_xlate.Translation.{items_kind}
use Rattle.elf_descriptor.specs.elf_object.Object.{Object, section_at, piece_at}
use Rattle.elf_descriptor.specs.elf_object.Answers.{no_data, no_entry, wrong_kind, no_content, same_kind, piece_count, kind_at, count_at, items_at, syms_of, words_of, entry_answer, lend_refusal, item_refusal}
use Rattle.elf_descriptor.specs.elf_object.Due.{is_refused_unread, unless_refused, when_piece_clean, with_others}
use Rattle.elf_descriptor.specs.elf_object.Words.{result_map}
use Rattle.elf_descriptor.specs.elf_object.Calls.{sym_answer, word_answer}
use Rattle.elf_descriptor.specs.elf_object.SymbolSections.{shndx_table, extended_index, is_extended, table_read, place_of_symbol, word_reads}
use Rattle.elf_descriptor.proofs.elf_object.AnswerLaws.{sym_value, lend_passed, lend_kind}
use Rattle.elf_descriptor.proofs.elf_object.ItemCounts.{syms_counted}
use Rattle.elf_descriptor.proofs.Refusals.{unless_entry}

-- ---- The symbol

symbols_counted : (o : Object) (s p : ℕ) → lend_refusal o kinds.Sym s p ≡ None → length (syms_of (items_at o s p)) ≡ count_at o s p
unfolding count_at
symbols_counted o s p passed = syms_counted (items_at o s p) (lend_kind o kinds.Sym s p passed)

-- a symbol that is there is not refused
pub sym_passed : (o : Object) (s p i : ℕ) (x : Sym) → sym_answer o s p i ≡ Ok x → (lend_refusal o kinds.Sym s p ≡ None) × (item_refusal o kinds.Sym s p i ≡ None)
unfolding item_refusal
sym_passed o s p i x is =
    let value = sym_value o s p i x is in
    let inside = slice_get_within (syms_of (items_at o s p)) i x value.1 in
    let count = symbols_counted o s p value.0 in (
      value.0,
      ap (λ (r : Option ElfError). first_refusal (r ∷ no_entry i (count_at o s p) ∷ [])) value.0
          ∙ ap (λ (t : Bool). first_refusal (refused_if t (NoEntry i (count_at o s p)) ∷ [])) (lt-leb (count_at o s p) i (omega (arith, inside, count))),
    )

entry_refused : {A : Type 0} (refusal : Option ElfError) (l : List A) (i n : ℕ) (e : ElfError) → (refusal ≡ None → length l ≡ n) → entry_answer refusal l i ≡ Err e
    → first_refusal (refusal ∷ no_entry i n ∷ []) ≡ Some e
entry_refused (Some d) l i n e long is = let same : d ≡ e = cc in ap Some same
entry_refused {A} None l i n e long is = elim ((slice_get_cases l i).1) [
  | inl here ↦ let there : ◌≡◌ {A = Result A ElfError} (Ok here.0) (Err e) = sym (ap (λ (x : Option A). elim x [ None ↦ Err (NoEntry i (length l)) | Some y ↦ Ok y ]) here.2) ∙ is in cc
  | inr past ↦
      let none : ◌≡◌ {A = Result A ElfError} (Err (NoEntry i (length l))) (Err e) = sym (ap (λ (x : Option A). elim x [ None ↦ Err (NoEntry i (length l)) | Some y ↦ Ok y ]) past.1) ∙ is in
      let same : NoEntry i (length l) ≡ e = cc in
      let count = long refl in
      ap (λ (t : Bool). first_refusal (refused_if t (NoEntry i n) ∷ [])) (le-leb n i (omega (arith, past.0, count)))
      ∙ ap (λ (m : ℕ). Some (NoEntry i m)) (sym count)
      ∙ ap Some same
]

-- one that is not there is refused early
pub sym_refused : (o : Object) (s p i : ℕ) (e : ElfError) → sym_answer o s p i ≡ Err e → item_refusal o kinds.Sym s p i ≡ Some e
unfolding sym_answer item_refusal
sym_refused o s p i e is = entry_refused (lend_refusal o kinds.Sym s p) (syms_of (items_at o s p)) i (count_at o s p) e (symbols_counted o s p) is

-- ---- The table of extended indexes

-- the symbol that came and the stated one are looked up in the same table
pub same_table : (told : Bool) (o : Object) (s : ℕ) (x y : Sym) → (IsTrue told → y ≡ x) → table_read told o s y ≡ table_read told o s x
same_table true o s x y same = ap (λ (z : Sym). table_read true o s z) (same refl)
same_table false o s x y same = ap (λ (t : Bool). if t then shndx_table o s else None) (or-true (is_extended y) ∙ sym (or-true (is_extended x)))

-- the place of a symbol by its index
module _ {A : Type 0} (special numbered : ℕ → A) (o : Object) (s i : ℕ) (x : Sym) where
  abbrev place_by_tests : Bool → Bool → Result A ElfError
  place_by_tests low extended =
      if low then Ok (numbered x.shndx) else (if extended then result_map numbered (extended_index o s i) else Ok (special x.shndx))

  pub place_low : (index : ℕ) → index ≡ x.shndx → index < SHN_LORESERVE → place_of_symbol special numbered o s i x ≡ Ok (numbered index)
  unfolding place_of_symbol
  place_low index is low = ap (λ (t : Bool). place_by_tests t (is_extended x)) (lt-ltb x.shndx SHN_LORESERVE (omega (arith, is, low))) ∙ ap (λ (n : ℕ). Ok (numbered n)) (sym is)

  pub place_special : (index : ℕ) → index ≡ x.shndx → SHN_LORESERVE ≤ index → index ≢ SHN_XINDEX → place_of_symbol special numbered o s i x ≡ Ok (special x.shndx)
  unfolding place_of_symbol
  place_special index is high other =
      ap (λ (t : Bool). place_by_tests t (is_extended x)) (le-ltb x.shndx SHN_LORESERVE (omega (arith, is, high)))
      ∙ ap (λ (t : Bool). place_by_tests false t) (ne_eqb x.shndx SHN_XINDEX (λ same. other (is ∙ same)))

  pub place_extended : x.shndx ≡ SHN_XINDEX → place_of_symbol special numbered o s i x ≡ result_map numbered (extended_index o s i)
  unfolding place_of_symbol
  place_extended is =
      ap (λ (t : Bool). place_by_tests t (is_extended x)) (le-ltb x.shndx SHN_LORESERVE (omega (arith, is)))
      ∙ ap (λ (t : Bool). place_by_tests false t) (eq-eqb x.shndx SHN_XINDEX is)

pub table_extended : (told : Bool) (o : Object) (s : ℕ) (x : Sym) → x.shndx ≡ SHN_XINDEX → table_read told o s x ≡ shndx_table o s
table_extended told o s x is = ap (λ (t : Bool). if t || not told then shndx_table o s else None) (eq-eqb x.shndx SHN_XINDEX is)

-- what refuses a symbol's place is what refuses its extended index
pub place_refused : {A : Type 0} (special numbered : ℕ → A) (o : Object) (s i : ℕ) (x : Sym) (e : ElfError) → place_of_symbol special numbered o s i x ≡ Err e → err_of (extended_index o s i) ≡ Some e
unfolding place_of_symbol
place_refused {A} special numbered o s i x e is = by_tests (nat_lt x.shndx SHN_LORESERVE) (is_extended x) (extended_index o s i) is
  where
    by_tests : (low extended : Bool) (index : Result ℕ ElfError)
        → ◌≡◌ {A = Result A ElfError} (if low then Ok (numbered x.shndx) else (if extended then result_map numbered index else Ok (special x.shndx))) (Err e) → err_of index ≡ Some e
    by_tests true extended index is = cc
    by_tests false false index is = cc
    by_tests false true (Ok n) is = cc
    by_tests false true (Err d) is = let same : d ≡ e = cc in ap Some same

-- ---- What both calls read

nothing_read : (refusal : Option ElfError) → unless_refused refusal [] ≡ []
nothing_read refusal = by_test (is_refused_unread refusal)
  where
    by_test : (t : Bool) → ◌≡◌ {A = List ℕ} (if t then [] else []) []
    by_test true = refl
    by_test false = refl

one_read : (refusal : Option ElfError) (s : ℕ) → (unless_refused refusal (s ∷ []) ≡ []) ⊎ (unless_refused refusal (s ∷ []) ≡ s ∷ [])
one_read refusal s = by_test (is_refused_unread refusal)
  where
    by_test : (t : Bool) → ((if t then [] else s ∷ []) ≡ []) ⊎ ((if t then [] else s ∷ []) ≡ s ∷ [])
    by_test true = inl refl
    by_test false = inr refl

-- what a piece of a section reads is nothing, or the section
piece_read : (refusal : Option ElfError) (o : Object) (s p : ℕ)
    → (unless_refused refusal (when_piece_clean o s p) ≡ []) ⊎ (unless_refused refusal (when_piece_clean o s p) ≡ s ∷ [])
unfolding when_piece_clean
piece_read refusal o s p = by_clean (is_none (piece_at o s p).own)
  where
    by_clean : (t : Bool) → (unless_refused refusal (if t then s ∷ [] else []) ≡ []) ⊎ (unless_refused refusal (if t then s ∷ [] else []) ≡ s ∷ [])
    by_clean true = one_read refusal s
    by_clean false = inl (nothing_read refusal)

clean_kind : (o : Object) (s p : ℕ) → (piece_at o s p).own ≡ None → kind_at o s p ≡ (section_at o s).home.kind
unfolding kind_at
clean_kind o s p clean = ap (λ (own : Option Items). elim own [ None ↦ (section_at o s).home.kind | Some items ↦ items_kind items ]) clean

-- where the symbols are read from a section's home, no word is
module _ (o : Object) (s p i : ℕ) (passed : lend_refusal o kinds.Sym s p ≡ None) (clean : (piece_at o s p).own ≡ None) where
  not_words : (piece_at o s 0).own ≡ None → unless_refused (lend_refusal o kinds.Word s 0) (when_piece_clean o s 0) ≡ []
  unfolding lend_refusal
  not_words first =
      let past = lend_passed o kinds.Sym s p passed in
      let kind : kind_at o s 0 ≡ kinds.Sym = clean_kind o s 0 first ∙ sym (clean_kind o s p clean) ∙ past.2 in
      ap (λ (r : Option ElfError). unless_refused (first_refusal (r ∷ no_data o s 0 ∷ wrong_kind o kinds.Word s 0 ∷ no_content o s 0 ∷ [])) (when_piece_clean o s 0)) past.0
      ∙ ap (λ (k : Kind). unless_refused (first_refusal (no_data o s 0 ∷ refused_if (not (same_kind k kinds.Word)) (WrongKind k) ∷ no_content o s 0 ∷ [])) (when_piece_clean o s 0)) kind
      ∙ by_data (nat_le (piece_count o s) 0)
    where
      by_data : (t : Bool) → unless_refused (first_refusal (refused_if t (NoData 0 (piece_count o s)) ∷ Some (WrongKind kinds.Sym) ∷ no_content o s 0 ∷ [])) (when_piece_clean o s 0) ≡ []
      by_data true = refl
      by_data false = refl

  pub word_apart : unless_refused (err_of (word_answer o s 0 i)) (when_piece_clean o s 0) ≡ []
  unfolding word_answer when_piece_clean
  word_apart =
      unless_entry (lend_refusal o kinds.Word s 0) (words_of (items_at o s 0)) i (when_piece_clean o s 0)
      ∙ by_own (piece_at o s 0).own refl
    where
      by_own : (own : Option Items) → (piece_at o s 0).own ≡ own → unless_refused (lend_refusal o kinds.Word s 0) (when_piece_clean o s 0) ≡ []
      by_own None is = not_words is
      by_own (Some items) is = ap (λ (x : Option Items). unless_refused (lend_refusal o kinds.Word s 0) (if is_none x then s ∷ [] else [])) is ∙ nothing_read (lend_refusal o kinds.Word s 0)

-- the sections of both calls, each once
module _ (o : Object) (s p i : ℕ) (passed : lend_refusal o kinds.Sym s p ≡ None) where
  abbrev without : List ℕ → List ℕ → List ℕ
  without sections others = filter (λ x. not (list_any (λ y. y == x) sections)) others

  -- the words of a table that is not the section's own
  by_table : (table : ℕ) → without (when_piece_clean o s p) (unless_refused (err_of (word_answer o table 0 i)) (when_piece_clean o table 0)) ≡ unless_refused (err_of (word_answer o table 0 i)) (when_piece_clean o table 0)
  unfolding when_piece_clean
  by_table table = elim (piece_read (err_of (word_answer o table 0 i)) o table 0) [
    | inl none ↦ ap (without (when_piece_clean o s p)) none ∙ sym none
    | inr one ↦ by_own one (piece_at o s p).own refl
  ]
    where
      by_same : (t : Bool) → (s == table) ≡ t → (piece_at o s p).own ≡ None → unless_refused (err_of (word_answer o table 0 i)) (when_piece_clean o table 0) ≡ table ∷ []
          → without (s ∷ []) (table ∷ []) ≡ table ∷ []
      by_same false differ clean one = ap (λ (t : Bool). if not (t || false) then table ∷ [] else []) differ
      by_same true same clean one =
          let is : s ≡ table = eqb-true s table same in
          let none : unless_refused (err_of (word_answer o table 0 i)) (when_piece_clean o table 0) ≡ [] = subst (λ (x : ℕ). unless_refused (err_of (word_answer o x 0 i)) (when_piece_clean o x 0) ≡ []) is (word_apart o s p i passed clean) in
          let absent = sym none ∙ one in cc

      by_own : unless_refused (err_of (word_answer o table 0 i)) (when_piece_clean o table 0) ≡ table ∷ [] → (own : Option Items) → (piece_at o s p).own ≡ own
          → without (when_piece_clean o s p) (unless_refused (err_of (word_answer o table 0 i)) (when_piece_clean o table 0)) ≡ unless_refused (err_of (word_answer o table 0 i)) (when_piece_clean o table 0)
      by_own one None clean =
          ap (without (when_piece_clean o s p)) one
          ∙ ap (λ (own : Option Items). without (if is_none own then s ∷ [] else []) (table ∷ [])) clean
          ∙ by_same (s == table) refl clean one
          ∙ sym one
      by_own one (Some items) own =
          ap (without (when_piece_clean o s p)) one
          ∙ ap (λ (own : Option Items). without (if is_none own then s ∷ [] else []) (table ∷ [])) own
          ∙ sym one

  pub both_read : (table : Option ℕ) → with_others (when_piece_clean o s p) (word_reads o i table) ≡ when_piece_clean o s p ++ word_reads o i table
  unfolding with_others
  both_read None = refl
  both_read (Some table) = ap (λ (l : List ℕ). when_piece_clean o s p ++ l) (by_table table)
