-- Where no section is removed every number stays, and so does all that follows it.
use Rattle.std.proofs.Common.{◌≡◌, ℕ, zero, suc, ◌+◌, ◌<◌, ◌≤◌, Bool, true, false, not, cond, ◌&&◌, List, [], ◌∷◌, ◌++◌, length, take, drop, Option, Some, None, refl, sym, ap, ◌∙◌, inl, inr, arith, ⊎_elim}
use Rattle.std.specs.Prelude.{filter, nat_eq, nat_lt, slice_get, if◌then◌else◌, ◌==◌, map}
use Rattle.std.specs.List.{range_with_len, list_all, position, position_from, enumerate_from, flat_map}
use Rattle.std.proofs.lemmas.Bool.{and_left, and_right, and_parts, cases_eq, cases_lt, eq-eqb, ne_eqb, ltb-true}
use Rattle.std.proofs.lemmas.Iterator.Adapters.{position_from-zero}
use Rattle.std.proofs.lemmas.List.{take-append-drop}
use Rattle.elf_types.specs.declared.records.Shdr.{Shdr}
use Rattle.elf_types.specs.declared.records.Sym.{Sym}
use Rattle.elf_types.specs.declared.constants.TheConstants.{SHT_STRTAB, SHN_LORESERVE}
use Rattle.law_object.specs.elf_object.Object.{Object}
use Rattle.law_object.specs.elf_object.Layout.{section_numbers}
use Rattle.law_object.specs.elf_object.SymbolSections.{is_extended}
use Rattle.law_object.specs.elf_object.Sections.{is_among, is_allocated, is_relocations, header_at, number_or_0, info_is_section}
use Rattle.rebuild_model.specs.Removed.{removable, with_found, with_followers, removed_by_name, relocates_removed, indexes_removed, has_removed_users, linking_to, is_named}
use Rattle.rebuild_model.specs.Followed.{Renumbering, kept_sections, kept_from_1, renumbering, renumbered, is_section_number, followed, followed_header, followed_member, followed_group, without_section, followed_sym, followed_extended, followed_word, word_counts, followed_by_word, followed_syms, word_of_sym, followed_words}

-- ---- Lists

filter_none : (f : ℕ → Bool) → ((x : ℕ) → f x ≡ false) → (l : List ℕ) → filter f l ≡ []
filter_none f none [] = refl
filter_none f none (x ∷ l) =
    ap (λ (b : Bool). cond b (x ∷ filter f l) (filter f l)) (none x) ∙ filter_none f none l

filter_all : (f : ℕ → Bool) → ((x : ℕ) → f x ≡ true) → (l : List ℕ) → filter f l ≡ l
filter_all f all [] = refl
filter_all f all (x ∷ l) =
    ap (λ (b : Bool). cond b (x ∷ filter f l) (filter f l)) (all x)
    ∙ ap (λ (m : List ℕ). x ∷ m) (filter_all f all l)

greater : (v a : ℕ) → a ≤ v → (v ≡ a → ⊥) → a + 1 ≤ v
greater v a from other =
    ⊎_elim (λ less. omega (arith, less)) (λ past. absurd (other (omega (arith, from, past))))
    (cases_lt a v)

position_in_range : (v a n : ℕ) → a ≤ v → v < a + n
    → position_from (nat_eq v) a (range_with_len a n) ≡ Some v
position_in_range v a zero from below = absurd (omega (arith, from, below))
position_in_range v a (suc n) from below = elim (cases_eq v a) [
  | inl same ↦
      ap (λ (b : Bool).
      cond b (Some a) (position_from (nat_eq v) (a + 1) (range_with_len (a + 1) n)))
      (eq-eqb v a same)
      ∙ ap (λ (k : ℕ). Some k) (sym same)
  | inr other ↦
      ap (λ (b : Bool).
      cond b (Some a) (position_from (nat_eq v) (a + 1) (range_with_len (a + 1) n)))
      (ne_eqb v a other)
      ∙ position_in_range v (a + 1) n (greater v a from other) (omega (arith, below))
]

position_of : (v n : ℕ) → v < n → position (nat_eq v) (range_with_len 0 n) ≡ Some v
position_of v n below =
    position_from-zero (nat_eq v) (range_with_len 0 n)
    ∙ position_in_range v 0 n (omega arith) (omega (arith, below))

rows_same : {X : Type 0} (f : ℕ × X → X) → ((i : ℕ) (x : X) → f (i, x) ≡ x)
    → (n : ℕ) (l : List X) → map f (enumerate_from n l) ≡ l
rows_same f same n [] = refl
rows_same {X} f same n (x ∷ l) =
    ap (λ (y : X). y ∷ map f (enumerate_from (n + 1) l)) (same n x)
    ∙ ap (λ (m : List X). x ∷ m) (rows_same f same (n + 1) l)

each_alone : (f : ℕ → List ℕ) → ((n : ℕ) → f n ≡ n ∷ []) → (l : List ℕ) → flat_map f l ≡ l
each_alone f alone [] = refl
each_alone f alone (n ∷ l) =
    ap (λ (m : List ℕ). m ++ flat_map f l) (alone n)
    ∙ ap (λ (m : List ℕ). n ∷ m) (each_alone f alone l)

-- ---- Nothing is removed by no name

no_users : (a b : Bool) (l : List ℕ)
    → (a && b && not (length l == 0) && list_all (is_among []) l) ≡ false
unfolding is_among
no_users a b [] =
    and_left (a && b && not (length {A = ℕ} [] == 0)) true
    (and_right (a && b) (not (length {A = ℕ} [] == 0)) refl)
no_users a b (n ∷ l) = and_right (a && b && not (length (n ∷ l) == 0)) false refl

finds_none : (o : Object) (finds : List ℕ → ℕ → Bool) → ((s : ℕ) → finds [] s ≡ false)
    → with_found o finds [] ≡ []
unfolding with_found is_among
finds_none o finds none = filter_none (λ s. finds [] s) none (removable o)

named_none : (o : Object) → with_found o (λ before s. is_named [] o s) [] ≡ []
unfolding is_named
named_none o = finds_none o (λ before s. is_named [] o s) (λ s. refl)

relocations_none : (o : Object) → with_found o (relocates_removed o) [] ≡ []
unfolding relocates_removed is_among
relocations_none o = finds_none o (relocates_removed o) (λ s.
    and_right (is_relocations (header_at o s) && not (is_allocated (header_at o s))) false refl)

indexes_none : (o : Object) → with_found o (indexes_removed o) [] ≡ []
unfolding indexes_removed is_among
indexes_none o = finds_none o (indexes_removed o) (λ s. and_right _ false refl)

users_none : (o : Object) → with_found o (has_removed_users o) [] ≡ []
unfolding has_removed_users
users_none o = finds_none o (has_removed_users o) (λ s.
    no_users ((header_at o s).stype == SHT_STRTAB) (not (is_allocated (header_at o s)))
    (linking_to o s))

pub none_removed : (o : Object) → removed_by_name [] o ≡ []
unfolding removed_by_name with_followers
none_removed o =
    ap (λ (l : List ℕ).
    with_found o (has_removed_users o) (with_found o (indexes_removed o)
    (with_found o (relocates_removed o) l))) (named_none o)
    ∙ ap (λ (l : List ℕ).
    with_found o (has_removed_users o) (with_found o (indexes_removed o) l)) (relocations_none o)
    ∙ ap (λ (l : List ℕ). with_found o (has_removed_users o) l) (indexes_none o)
    ∙ users_none o

-- ---- All sections are kept

pub all_kept : (o : Object) → kept_sections o [] ≡ range_with_len 0 (length o.sections)
unfolding kept_sections is_among
all_kept o =
    filter_all (λ (s : ℕ). true) (λ s. refl) (range_with_len 0 (length o.sections))

pub all_from_1 : (o : Object) → kept_from_1 o [] ≡ section_numbers o
unfolding kept_from_1 is_among
all_from_1 o = filter_all (λ (s : ℕ). true) (λ s. refl) (section_numbers o)

-- each section keeps its number
abbrev pub IsSame : Renumbering → Type 0
IsSame m = (n : ℕ) → is_section_number m n ≡ true → renumbered m n ≡ Some n

pub all_same : (o : Object) → IsSame (renumbering o [])
unfolding is_section_number renumbered
all_same o n is =
    let both = and_parts (not (n == 0)) (nat_lt n (length o.sections)) is in
    ap (λ (l : List ℕ). position (nat_eq n) l) (all_kept o)
    ∙ position_of n (length o.sections) (ltb-true n (length o.sections) both.1)

-- ---- What follows stays

pub followed_same : (m : Renumbering) (n : ℕ) → IsSame m → followed m n ≡ n
unfolding followed
followed_same m n same = by_test (is_section_number m n) refl
  where
    by_test : (b : Bool) → is_section_number m n ≡ b
        → (if b then number_or_0 (renumbered m n) else n) ≡ n
    by_test true e = ap number_or_0 (same n e)
    by_test false e = refl

-- a header
pub header_same : (m : Renumbering) (h : Shdr) → IsSame m → followed_header m h ≡ h
unfolding followed_header
header_same m h same = by_test (info_is_section h)
  where
    by_test : (b : Bool) → ◌≡◌ {A = Shdr} (record h {
      link = followed m h.link;
      info = if b then followed m h.info else h.info;
    }) h
    by_test true =
        ap (λ (n : ℕ). let made : Shdr = record h { link = n; info = followed m h.info } in made)
        (followed_same m h.link same)
        ∙ ap (λ (n : ℕ). let made : Shdr = record h { link = h.link; info = n } in made)
        (followed_same m h.info same)
    by_test false =
        ap (λ (n : ℕ). let made : Shdr = record h { link = n; info = h.info } in made)
        (followed_same m h.link same)

-- the words of a group
member_same : (m : Renumbering) (n : ℕ) → IsSame m → followed_member m n ≡ n ∷ []
member_same m n same = by_test (is_section_number m n) refl
  where
    by_test : (b : Bool) → is_section_number m n ≡ b
        → (if b then (elim (renumbered m n) [ None ↦ [] | Some new ↦ new ∷ [] ]) else n ∷ [])
        ≡ n ∷ []
    by_test true e =
        ap (λ (p : Option ℕ).
        let made : List ℕ = elim p [ None ↦ [] | Some new ↦ new ∷ [] ] in made) (same n e)
    by_test false e = refl

pub group_same : (m : Renumbering) (words : List ℕ) → IsSame m → followed_group m words ≡ words
unfolding followed_group
group_same m words same =
    ap (λ (l : List ℕ). take 1 words ++ l)
    (each_alone (followed_member m) (λ n. member_same m n same) (drop 1 words))
    ∙ take-append-drop 1 words

-- symbols, and the words of their extended indexes
sym_same : (m : Renumbering) (x : Sym) → IsSame m → followed_sym m x ≡ x
unfolding followed_sym
sym_same m x same =
    by_test (nat_lt x.shndx SHN_LORESERVE && is_section_number m x.shndx) refl
  where
    by_test : (b : Bool) → (nat_lt x.shndx SHN_LORESERVE && is_section_number m x.shndx) ≡ b
        → ◌≡◌ {A = Sym} (if b
        then (elim (renumbered m x.shndx) [
          | None ↦ without_section x
          | Some new ↦ record x { shndx = new }
        ])
        else x) x
    by_test true e =
        let both = and_parts (nat_lt x.shndx SHN_LORESERVE) (is_section_number m x.shndx) e in
        ap (λ (p : Option ℕ).
        let made : Sym = elim p [
          | None ↦ without_section x
          | Some new ↦ record x { shndx = new }
        ] in made) (same x.shndx both.1)
    by_test false e = refl

extended_same : (m : Renumbering) (word : ℕ) (x : Sym) → renumbered m word ≡ Some word
    → followed_extended m word x ≡ x
unfolding followed_extended
extended_same m word x same =
    ap (λ (p : Option ℕ).
    let made : Sym = elim p [
      | None ↦ without_section x
      | Some new ↦
          if not (new == word) && nat_lt new SHN_LORESERVE then record x { shndx = new } else x
    ] in made) same
    ∙ ap (λ (b : Bool).
    let made : Sym =
    if not b && nat_lt word SHN_LORESERVE then record x { shndx = word } else x in made)
    (eq-eqb word word refl)

by_word_same : (m : Renumbering) (word : Option ℕ) (x : Sym) → IsSame m
    → followed_by_word m word x ≡ x
by_word_same m None x same = sym_same m x same
by_word_same m (Some word) x same = by_test (word_counts m x word) refl
  where
    by_test : (b : Bool) → word_counts m x word ≡ b
        → ◌≡◌ {A = Sym} (if b then followed_extended m word x else followed_sym m x) x
    by_test true e =
        let both = and_parts (is_extended x) (is_section_number m word) e in
        extended_same m word x (same word both.1)
    by_test false e = sym_same m x same

pub syms_same : (m : Renumbering) (words : List ℕ) (syms : List Sym) → IsSame m
    → followed_syms m words syms ≡ syms
unfolding followed_syms
syms_same m words syms same =
    rows_same (λ row. followed_by_word m (slice_get words row.0) row.1)
    (λ i x. by_word_same m (slice_get words i) x same) 0 syms

word_same : (m : Renumbering) (word : ℕ) → renumbered m word ≡ Some word
    → followed_word m word ≡ word
unfolding followed_word
word_same m word same =
    ap (λ (p : Option ℕ).
    let made : ℕ = elim p [
      | None ↦ 0
      | Some new ↦ if not (new == word) && nat_lt new SHN_LORESERVE then 0 else new
    ] in made) same
    ∙ ap (λ (b : Bool).
    let made : ℕ = if not b && nat_lt word SHN_LORESERVE then 0 else word in made)
    (eq-eqb word word refl)

of_sym_same : (m : Renumbering) (word : ℕ) (x : Option Sym) → IsSame m
    → word_of_sym m word x ≡ word
of_sym_same m word None same = refl
of_sym_same m word (Some x) same = by_test (word_counts m x word) refl
  where
    by_test : (b : Bool) → word_counts m x word ≡ b
        → (if b then followed_word m word else word) ≡ word
    by_test true e =
        let both = and_parts (is_extended x) (is_section_number m word) e in
        word_same m word (same word both.1)
    by_test false e = refl

pub words_same : (m : Renumbering) (syms : List Sym) (words : List ℕ) → IsSame m
    → followed_words m syms words ≡ words
unfolding followed_words
words_same m syms words same =
    rows_same (λ row. word_of_sym m row.1 (slice_get syms row.0))
    (λ i word. of_sym_same m word (slice_get syms i) same) 0 words
