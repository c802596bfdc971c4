-- Sections by those of their names that changes look for.
use Rattle.std.proofs.Common.{◌≡◌, ◌≢◌, ◌⊎◌, ◌&&◌, ◌||◌, ◌==◌, ◌+◌, ◌-◌, ◌<◌, ◌≤◌, not, ℕ, zero, suc, Bool, true, false, cond, List, [], ◌∷◌, length, map, take, drop, get_or, position, Option, Some, None, Result, Ok, Err, refl, sym, ap, ◌∙◌, subst, inl, inr, arith}
use Rattle.std.specs.Prelude.{All, IfSome, OnOk, nat_lt, slice_set}
use Rattle.std.specs.List.{position_from, range_with_len}
use Rattle.std.specs.Str.{bytes_eq}
use Rattle.std.proofs.lemmas.Bool.{cases_eq, cases_lt, eq-eqb, ne_eqb, le-ltb, lt-ltb, and_right}
use Rattle.std.proofs.lemmas.Iterator.Adapters.{position_from-zero}
use Rattle.std.proofs.lemmas.List.{get_or_past, get_or-set_same, get_or-set_other}
use Rattle.std.proofs.lemmas.List.FromFn.{length-map-range_with_len, get_or-map-range_with_len}
use Rattle.std.proofs.lemmas.Slice.Eq.{bytes_eq-Decides}
use Rattle.elf_object.specs.Object.{Object}
use Rattle.elf_object.specs.Strings.{section_name, is_name}
use Rattle.rebuild_model.specs.Copied.{names_in, section_named}
use Rattle.rebuild_edits.specs.gelf_view.Records.{string_front, shorter_than}
use Rattle.rebuild_edits.proofs.gelf_view.EndedStrings.{front_short, short_name}
use Rattle.rebuild_select.specs.declared.sought.sections.NameIndex.{NameIndex}
use Rattle.rebuild_select.specs.Sought.Names.{is_sought, AreUpTo}
use Rattle.rebuild_select.specs.Sought.Rows.{stands_under, IsFirstUnderName}
use Rattle.rebuild_plan.specs.declared.arranged.Arranged.{Arranged}
use Rattle.rebuild_changes.specs.declared.changes.NameBytes.{NameBytes}
use Rattle.rebuild_changes.specs.declared.changes.NameBits.{NameBits}
use Rattle.rebuild_changes.specs.declared.faults.CopyFault.{CopyFault}
use Rattle.rebuild_edits.specs.Edits.Names.{name_now, names_now}
use Rattle.rebuild_edits.specs.Edits.Steps.{IsPresentSection, IsNumber}
use Rattle.rebuild_edits.proofs.edits.FaultLaws.{number_given, number_unread, number_there}
use Rattle.rebuild_copy.specs.Rows.{Origin, IsContents, gathered_header, HasNamesIn}
use Rattle.rebuild_copy.specs.Indexes.{IsIndexOf, FindsNamed, section_name_at}
use Rattle.rebuild_copy.proofs.NameLaws.{count_is}

-- ---- The first one of a name

module _ (test : Option (List ℕ) → Bool) (none : test None ≡ false) where
  found_from : (names : List (Option (List ℕ))) (a s : ℕ) → test (section_name_at names s) ≡ true
      → ((t : ℕ) → t < s → test (section_name_at names t) ≡ false)
      → position_from test a names ≡ Some (a + s)
  found_from [] a s here before =
      absurd (let h : false ≡ true = sym none ∙ sym (past s) ∙ here in cc)
    where
      past : (t : ℕ) → test (section_name_at [] t) ≡ test None
      past t = ap test (get_or_past {X = Option (List ℕ)} [] t None (omega arith))
  found_from (n ∷ names) a zero here before =
      ap (λ (b : Bool). cond b (Some a) (position_from test (a + 1) names)) here
      ∙ ap (λ (k : ℕ). Some k) (let at : a ≡ a + zero = omega arith in at)
  found_from (n ∷ names) a (suc s) here before =
      ap (λ (b : Bool). cond b (Some a) (position_from test (a + 1) names))
      (before 0 (omega arith))
      ∙ found_from names (a + 1) s here (λ t less. before (suc t) (omega (arith, less)))
      ∙ ap (λ (k : ℕ). Some k) (let at : a + 1 + s ≡ a + suc s = omega arith in at)

  none_from : (names : List (Option (List ℕ))) (a : ℕ)
      → ((t : ℕ) → test (section_name_at names t) ≡ false) → position_from test a names ≡ None
  none_from [] a before = refl
  none_from (n ∷ names) a before =
      ap (λ (b : Bool). cond b (Some a) (position_from test (a + 1) names)) (before 0)
      ∙ none_from names (a + 1) (λ t. before (suc t))

module _ (index : NameIndex) (names : List (Option (List ℕ))) (name : List ℕ)
    (is : IsIndexOf index names) (sought : is_sought index.sought name ≡ true) where
  first_named : (number : Option ℕ) → IsFirstUnderName index name number
      → number ≡ position (is_name name) names
  first_named (Some s) first =
      sym (position_from-zero (is_name name) names
      ∙ found_from (is_name name) refl names 0 s (sym (is.under name s sought) ∙ first.0)
      (λ t less. sym (is.under name t sought) ∙ first.1 t less)
      ∙ ap (λ (k : ℕ). Some k) (let at : 0 + s ≡ s = omega arith in at))
  first_named None first =
      sym (position_from-zero (is_name name) names
      ∙ none_from (is_name name) refl names 0 (λ t. sym (is.under name t sought) ∙ first t))

  first_here : (number : Option ℕ) → IsFirstUnderName index name number
      → IfSome number (λ s. is_name name (section_name_at names s) ≡ true)
  first_here (Some s) first = sym (is.under name s sought) ∙ first.0
  first_here None first = tt

  pub named_found : (number : Option ℕ) (r : Result ℕ CopyFault) → IsFirstUnderName index name number
      → IsNumber number name r → FindsNamed names name r
  unfolding section_named
  named_found number r first number_is = record {
    finds = λ p. record {
      object = refl;
      told = refl;
      unread = number_unread number name r number_is;
      found = λ t.
          number_given number name r number_is (position (is_name name) names)
          (first_named number first);
    };
    here = number_there (λ s. is_name name (section_name_at names s) ≡ true) number name r number_is
        (first_here number first);
  }

-- ---- A section that has a name is there

name_none : (name : List ℕ) (found : Option (List ℕ)) → found ≡ None → is_name name found ≡ true
    → ⊥
name_none name found none has =
    let h : false ≡ true =
    sym (ap (λ (n : Option (List ℕ)). is_name name n) none) ∙ has in cc

pub named_there : (p : Object) (marks : List ℕ) (renames : List NameBytes) (name : List ℕ)
    (s : ℕ) → is_name name (section_name_at (names_now p marks renames) s) ≡ true → IsPresentSection p s
unfolding names_now
named_there p marks renames name zero has = absurd (name_none name None refl has)
named_there p marks renames name (suc k) has = by_place (cases_lt k (length p.sections - 1))
  where
    by_place : (k < length p.sections - 1) ⊎ (length p.sections - 1 ≤ k) → IsPresentSection p (suc k)
    by_place (inl less) = (omega arith, omega (arith, less))
    by_place (inr past) =
        absurd (name_none name
        (get_or (map (name_now p marks renames) (range_with_len 1 (length p.sections - 1))) k None)
        (get_or_past (map (name_now p marks renames)
        (range_with_len 1 (length p.sections - 1))) k None
        (let long = length-map-range_with_len (name_now p marks renames) 1
        (length p.sections - 1) in omega (arith, long, past))) has)

-- ---- A section that gets another name

pub names_long : (p : Object) (marks : List ℕ) (renames : List NameBytes) (s : ℕ)
    → IsPresentSection p s → s < length (names_now p marks renames)
unfolding names_now
names_long p marks renames s there =
    let below = there.1 in
    let long = length-map-range_with_len (name_now p marks renames) 1 (length p.sections - 1) in
    omega (arith, below, long)

same_name : (name q : List ℕ) (found : Option (List ℕ)) → is_name name found ≡ true
    → (not (bytes_eq name q) && is_name q found) ≡ false
same_name name q None has = absurd (let h : false ≡ true = has in cc)
same_name name q (Some found) has =
    ap (λ (l : List ℕ). not (bytes_eq name q) && bytes_eq l q)
    ((bytes_eq-Decides found name).0 has)
    ∙ never (bytes_eq name q)
  where
    never : (b : Bool) → (not b && b) ≡ false
    never true = refl
    never false = refl

pub moved_index : (old new : NameIndex) (names : List (Option (List ℕ))) (name bytes : List ℕ)
    (s : ℕ) → new.sought ≡ old.sought → IsIndexOf old names
    → is_name name (section_name_at names s) ≡ true → s < length names
    → ((q : List ℕ) (t : ℕ) → is_sought old.sought q ≡ true
    → stands_under new q t ≡ ((bytes_eq bytes q && s == t)
    || (not (bytes_eq name q && s == t) && stands_under old q t)))
    → IsIndexOf new (slice_set names s (Some bytes))
moved_index old new names name bytes s same is has below moved = record {
  under = λ q t sought.
      let had = subst (λ (l : List (List ℕ)). is_sought l q ≡ true) same sought in
      moved q t had
      ∙ ap (λ (b : Bool).
      (bytes_eq bytes q && s == t) || (not (bytes_eq name q && s == t) && b))
      (is.under q t had)
      ∙ by_place q t (cases_eq s t);
}
  where
    here : (a b c : Bool) → (not a && c) ≡ false → ((b && true) || (not (a && true) && c)) ≡ b
    here true true c never = refl
    here true false c never = refl
    here false true c never = refl
    here false false c never = never

    there : (a b c : Bool) → ((b && false) || (not (a && false) && c)) ≡ c
    there true true c = refl
    there true false c = refl
    there false true c = refl
    there false false c = refl

    by_place : (q : List ℕ) (t : ℕ) → (s ≡ t) ⊎ (s ≢ t)
        → ((bytes_eq bytes q && s == t)
        || (not (bytes_eq name q && s == t) && is_name q (section_name_at names t)))
        ≡ is_name q (section_name_at (slice_set names s (Some bytes)) t)
    by_place q t (inl one) =
        subst (λ (n : ℕ).
        ((bytes_eq bytes q && s == n)
        || (not (bytes_eq name q && s == n) && is_name q (section_name_at names n)))
        ≡ is_name q (section_name_at (slice_set names s (Some bytes)) n)) one
        (ap (λ (b : Bool). (bytes_eq bytes q && b)
        || (not (bytes_eq name q && b) && is_name q (section_name_at names s))) (eq-eqb s s refl)
        ∙ here (bytes_eq name q) (bytes_eq bytes q) (is_name q (section_name_at names s))
        (same_name name q (section_name_at names s) has)
        ∙ sym (ap (λ (n : Option (List ℕ)). is_name q n)
        (get_or-set_same names s (Some bytes) None below)))
    by_place q t (inr other) =
        ap (λ (b : Bool). (bytes_eq bytes q && b)
        || (not (bytes_eq name q && b) && is_name q (section_name_at names t))) (ne_eqb s t other)
        ∙ there (bytes_eq name q) (bytes_eq bytes q) (is_name q (section_name_at names t))
        ∙ sym (ap (λ (n : Option (List ℕ)). is_name q n)
        (get_or-set_other names s t (Some bytes) None (λ same. other (sym same))))

-- ---- The sections by the names in a table

pub short_found : (longest : ℕ) (q : List ℕ) (found name : Option (List ℕ))
    → found ≡ shorter_than (longest + 1) name → length q ≤ longest
    → is_name q found ≡ is_name q name
short_found longest q found name is within =
    ap (λ (n : Option (List ℕ)). is_name q n) is
    ∙ short_name (longest + 1) q name (omega (arith, within))

-- whether a section from 1 on has a name, by a table
abbrev pub named_in : Arranged → List ℕ → List ℕ → ℕ → Bool
named_in x table q t =
    nat_lt t x.listed.header.shnum
    && is_name q (string_front (drop (gathered_header x t).name table))

-- the sections below a number stand under their names
pub record IndexedTo (x : Arranged) (table : List ℕ) (sought : List (List ℕ)) (index : NameIndex)
    (s : ℕ) : Type 0 where
  pub same : index.sought ≡ sought
  pub under : (q : List ℕ) (t : ℕ) → is_sought sought q ≡ true
      → stands_under index q t ≡ (not (t == 0) && (nat_lt t s && named_in x table q t))

pub indexed_none : (x : Arranged) (table : List ℕ) (index : NameIndex)
    → ((q : List ℕ) (t : ℕ) → stands_under index q t ≡ false)
    → IndexedTo x table index.sought index 1
indexed_none x table index none = record {
  same = refl;
  under = λ q t sought. none q t ∙ sym (before t (named_in x table q t));
}
  where
    before : (t : ℕ) (b : Bool) → (not (t == 0) && (nat_lt t 1 && b)) ≡ false
    before zero b = refl
    before (suc t) b =
        ap (λ (less : Bool). not (suc t == 0) && (less && b)) (le-ltb (suc t) 1 (omega arith))
        ∙ and_right (not (suc t == 0)) false refl

one_more : (n : ℕ → Bool) (s t : ℕ) → 0 < s
    → ((n s && s == t) || (not (t == 0) && (nat_lt t s && n t)))
    ≡ (not (t == 0) && (nat_lt t (s + 1) && n t))
one_more n s t from = by_place (cases_eq s t)
  where
    at_last : (b : Bool) → ((b && true) || (true && (false && b))) ≡ (true && (true && b))
    at_last true = refl
    at_last false = refl

    elsewhere : (b c : Bool) → ((b && false) || c) ≡ c
    elsewhere true c = refl
    elsewhere false c = refl

    by_place : (s ≡ t) ⊎ (s ≢ t)
        → ((n s && s == t) || (not (t == 0) && (nat_lt t s && n t)))
        ≡ (not (t == 0) && (nat_lt t (s + 1) && n t))
    by_place (inl one) =
        subst (λ (k : ℕ). ((n s && s == k) || (not (k == 0) && (nat_lt k s && n k)))
        ≡ (not (k == 0) && (nat_lt k (s + 1) && n k))) one
        (ap (λ (b : Bool). (n s && b) || (not (s == 0) && (nat_lt s s && n s)))
        (eq-eqb s s refl)
        ∙ ap (λ (b : Bool). (n s && true) || (not b && (nat_lt s s && n s)))
        (ne_eqb s 0 (λ none. omega (arith, none, from)))
        ∙ ap (λ (b : Bool). (n s && true) || (true && (b && n s)))
        (le-ltb s s (omega arith))
        ∙ at_last (n s)
        ∙ sym (ap (λ (b : Bool). not b && (nat_lt s (s + 1) && n s))
        (ne_eqb s 0 (λ none. omega (arith, none, from)))
        ∙ ap (λ (b : Bool). true && (b && n s)) (lt-ltb s (s + 1) (omega arith))))
    by_place (inr other) =
        ap (λ (b : Bool). (n s && b) || (not (t == 0) && (nat_lt t s && n t)))
        (ne_eqb s t other)
        ∙ elsewhere (n s) (not (t == 0) && (nat_lt t s && n t))
        ∙ ap (λ (b : Bool). not (t == 0) && (b && n t)) (by_less (cases_lt t s))
      where
        by_less : (t < s) ⊎ (s ≤ t) → nat_lt t s ≡ nat_lt t (s + 1)
        by_less (inl less) = lt-ltb t s less ∙ sym (lt-ltb t (s + 1) (omega (arith, less)))
        by_less (inr past) =
            let above : s + 1 ≤ t = omega (arith, past, other) in
            le-ltb t s past ∙ sym (le-ltb t (s + 1) above)

module _ (x : Arranged) (table : List ℕ) (sought : List (List ℕ)) (index : NameIndex) (s : ℕ)
    (so_far : IndexedTo x table sought index s) where
  pub indexed_more : (next : NameIndex) → 0 < s → s < x.listed.header.shnum
      → next.sought ≡ index.sought
      → ((q : List ℕ) (t : ℕ) → is_sought index.sought q ≡ true
      → stands_under next q t
      ≡ ((is_name q (string_front (drop (gathered_header x s).name table)) && s == t)
      || stands_under index q t))
      → IndexedTo x table sought next (s + 1)
  indexed_more next from below same put = record {
    same = same ∙ so_far.same;
    under = λ q t is.
        put q t (subst (λ (l : List (List ℕ)). is_sought l q ≡ true) (sym so_far.same) is)
        ∙ ap (λ (b : Bool).
        ((b && is_name q (string_front (drop (gathered_header x s).name table))) && s == t)
        || stands_under index q t) (sym (lt-ltb s x.listed.header.shnum below))
        ∙ ap (λ (b : Bool). (named_in x table q s && s == t) || b) (so_far.under q t is)
        ∙ one_more (named_in x table q) s t from;
  }

  -- they are all there is
  pub indexed_all : x.listed.header.shnum ≤ s → HasNamesIn x table → (o : Origin) (p : Object)
      → IsContents o p x → IsIndexOf index (names_in p)
  unfolding names_in
  indexed_all all has o p is = record {
    under = λ q t sought_is.
        so_far.under q t (subst (λ (l : List (List ℕ)). is_sought l q ≡ true) so_far.same sought_is)
        ∙ by_number q t;
  }
    where
      count : x.listed.header.shnum ≡ length p.sections
      count = count_is o p x is

      none_past : (b c : Bool) → (b && (c && false)) ≡ false
      none_past true true = refl
      none_past true false = refl
      none_past false true = refl
      none_past false false = refl

      by_number : (q : List ℕ) (t : ℕ)
          → (not (t == 0) && (nat_lt t s && named_in x table q t))
          ≡ is_name q (section_name_at (names_in p) t)
      by_number q zero = refl
      by_number q (suc k) = by_place (cases_lt (suc k) (length p.sections))
        where
          by_place : (suc k < length p.sections) ⊎ (length p.sections ≤ suc k)
              → (not (suc k == 0) && (nat_lt (suc k) s && named_in x table q (suc k)))
              ≡ is_name q (get_or (map (section_name p)
              (range_with_len 1 (length p.sections - 1))) k None)
          by_place (inl less) =
              ap (λ (b : Bool). not b && (nat_lt (suc k) s && named_in x table q (suc k)))
              (ne_eqb (suc k) 0 (λ none. omega (arith, none)))
              ∙ ap (λ (b : Bool). true && (b && named_in x table q (suc k)))
              (lt-ltb (suc k) s (omega (arith, less, count, all)))
              ∙ ap (λ (b : Bool). true && (true
              && (b && is_name q (string_front (drop (gathered_header x (suc k)).name table)))))
              (lt-ltb (suc k) x.listed.header.shnum (omega (arith, less, count)))
              ∙ ap (λ (n : Option (List ℕ)). is_name q n)
              (sym (has o p is (suc k) less)
              ∙ sym (get_or-map-range_with_len (section_name p) 1 (length p.sections - 1) k
              (suc k) None (omega (arith, less)) (let at : 1 + k ≡ suc k = omega arith in at)))
          by_place (inr past) =
              ap (λ (b : Bool). not (suc k == 0) && (nat_lt (suc k) s
              && (b && is_name q (string_front (drop (gathered_header x (suc k)).name table)))))
              (le-ltb (suc k) x.listed.header.shnum (omega (arith, past, count)))
              ∙ none_past (not (suc k == 0)) (nat_lt (suc k) s)
              ∙ sym (ap (λ (n : Option (List ℕ)). is_name q n)
              (get_or_past (map (section_name p) (range_with_len 1 (length p.sections - 1))) k None
              (let long = length-map-range_with_len (section_name p) 1 (length p.sections - 1) in
              omega (arith, long, past))))

-- ---- Names that are looked for

pub sought_kept : {T E : Type 0} (xs : List NameBytes) (old new : List (List ℕ))
    (r : Result T E) → All (λ n. is_sought old n.name ≡ true) xs
    → OnOk r ((q : List ℕ) → is_sought old q ≡ true → is_sought new q ≡ true)
    → OnOk r (All (λ n. is_sought new n.name ≡ true) xs)
sought_kept xs old new (Ok x) had kept =
    λ k d below. kept (get_or xs k d).name (had k d below)
sought_kept xs old new (Err e) had kept = tt

pub sought_flags : {T E : Type 0} (xs ys : List NameBits) (new : List (List ℕ)) (r : Result T E)
    → ys ≡ xs → OnOk r (All (λ n. is_sought new n.name ≡ true) ys)
    → OnOk r (All (λ n. is_sought new n.name ≡ true) xs)
sought_flags xs ys new r same all =
    subst (λ (l : List NameBits). OnOk r (All (λ n. is_sought new n.name ≡ true) l)) same all

-- ---- One section under its name

pub string_put : {T E : Type 0} (old new : NameIndex) (name : List ℕ) (front : Option (List ℕ))
    (s : ℕ) (r : Result T E) → Some name ≡ front
    → OnOk r ((q : List ℕ) (t : ℕ) → is_sought old.sought q ≡ true
    → stands_under new q t ≡ ((bytes_eq name q && s == t) || stands_under old q t))
    → OnOk r ((q : List ℕ) (t : ℕ) → is_sought old.sought q ≡ true
    → stands_under new q t ≡ ((is_name q front && s == t) || stands_under old q t))
string_put old new name front s (Ok x) is put =
    λ q t sought. put q t sought
    ∙ ap (λ (n : Option (List ℕ)). (is_name q n && s == t) || stands_under old q t) is
string_put old new name front s (Err e) is put = tt

pub string_passed : (index : NameIndex) (front : Option (List ℕ)) (s : ℕ) → None ≡ front
    → (q : List ℕ) (t : ℕ) → is_sought index.sought q ≡ true
    → stands_under index q t ≡ ((is_name q front && s == t) || stands_under index q t)
string_passed index front s is q t sought =
    ap (λ (n : Option (List ℕ)). (is_name q n && s == t) || stands_under index q t) is

-- by the first bytes from the place of its name on
pub section_put : {T E : Type 0} (longest : ℕ) (old new : NameIndex) (bytes l : List ℕ) (s : ℕ)
    (r : Result T E) → AreUpTo longest old.sought → bytes ≡ take (longest + 1) l
    → OnOk r ((q : List ℕ) (t : ℕ) → is_sought old.sought q ≡ true
    → stands_under new q t
    ≡ ((is_name q (string_front bytes) && s == t) || stands_under old q t))
    → OnOk r ((q : List ℕ) (t : ℕ) → is_sought old.sought q ≡ true
    → stands_under new q t ≡ ((is_name q (string_front l) && s == t) || stands_under old q t))
section_put longest old new bytes l s (Ok x) up_to is put =
    λ q t sought. put q t sought
    ∙ ap (λ (b : Bool). (b && s == t) || stands_under old q t)
    (short_found longest q (string_front bytes) (string_front l)
    (ap string_front is ∙ front_short (longest + 1) l) (up_to q sought))
section_put longest old new bytes l s (Err e) up_to is put = tt
