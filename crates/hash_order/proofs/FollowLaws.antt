-- The sections that go by the symbols of a table whose new order nothing refuses.
use Rattle.std.proofs.Common.{◌≡◌, ◌+◌, ◌<◌, ◌≤◌, ◌⊎◌, ℕ, zero, suc, Bool, true, false, not, cond, List, [], ◌∷◌, length, get_or, map, Option, Some, None, Result, Ok, refl, sym, ap, ◌∙◌, subst, inl, inr, arith}
use Rattle.std.specs.Prelude.{IsTrue, Contains, is_none, filter, nat_lt, ◌==◌, ◌&&◌, ◌||◌, if◌then◌else◌}
use Rattle.std.specs.List.{range_with_len}
use Rattle.std.proofs.lemmas.Bool.{cases_eq, eq-eqb, ne_eqb, eqb-true, ltb-false, lt-leb, or_left, or_right}
use Rattle.std.proofs.lemmas.List.FromFn.{length-range_with_len, get_or-range_with_len}
use Rattle.elf_types.specs.declared.records.Kind.{Kind}
use Rattle.elf_types.specs.declared.records.Kind.TheVariants as kinds
use Rattle.elf_types.specs.declared.records.Shdr.{Shdr}
use Rattle.elf_types.specs.declared.errors.ElfError.{ElfError}
use Rattle.elf_types.specs.declared.errors.ElfError.TheVariants.{NoSection, Reserved, Unfit}
use Rattle.elf_types.specs.declared.records.Part.TheVariants as part
use Rattle.elf_types.specs.declared.constants.TheConstants.{SHT_GROUP}
use Rattle.elf_types.specs.Answers.{refused_if, first_refusal, answered}
use Rattle.elf_xlate.specs.Headers.{shdr_fits}
use Rattle.symbol_lookup.specs.elf_object.Object.{Object, piece_at}
use Rattle.symbol_lookup.specs.elf_object.Answers.{count_at, items_at, lend_refusal, reserved}
use Rattle.symbol_lookup.specs.elf_object.Due.{all_sections}
use Rattle.symbol_lookup.specs.elf_object.Calls.{update_shdr_refusal}
use Rattle.symbol_lookup.specs.elf_object.Valid.{IsObject}
use Rattle.symbol_lookup.proofs.elf_object.AnswerLaws.{lend_passed}
use Rattle.symbol_lookup.proofs.elf_object.PassedLaws.{none_first, none_rest}
use Rattle.symbol_lookup.proofs.law_object.KeepLaws.{section_at_is}
use Rattle.symbol_lookup.specs.elf_object.Sections.{header_at}
use Rattle.symbol_lookup.specs.hash_model.Reordered.{kind_by_symbols, items_by_symbols, new_index, too_few_items, reorder_refusal, reorder_refusal_of}
use Rattle.hash_order.specs.declared.nexts.Next.{Next}
use Rattle.hash_order.specs.declared.nexts.Next.TheVariants as nexts
use Rattle.hash_order.specs.Kinds.{IsByIndex, CanFollow}
use Rattle.hash_order.specs.Plans.{signed, planned_next, planned_signature, IsNoItems}
use Rattle.hash_order.specs.Calls.{is_read, is_follower, all_homes}

-- ---- Refusals that did not come

each_passed : (f : ℕ → Option ElfError) (a count : ℕ)
    → first_refusal (map f (range_with_len a count)) ≡ None → (i : ℕ) → a ≤ i → i < a + count
    → f i ≡ None
each_passed f a zero passed i from below = absurd (omega (arith, from, below))
each_passed f a (suc count) passed i from below =
    by (cases_eq i a)
    (λ past. each_passed f (a + 1) count
    (none_rest (f a) (map f (range_with_len (a + 1) count)) passed) i past
    (omega (arith, below)))
  where
    by : (i ≡ a) ⊎ (i ≡ a → ⊥) → (a + 1 ≤ i → f i ≡ None) → f i ≡ None
    by (inl same) later =
        ap f same ∙ none_first (f a) (map f (range_with_len (a + 1) count)) passed
    by (inr other) later = later (omega (arith, from, other))

alone_passed : (r : Option ElfError) → first_refusal (r ∷ []) ≡ None → r ≡ None
alone_passed r passed = none_first r [] passed

-- the symbols of the table can be lent
pub symbols_passed : (o : Object) (s : ℕ) → reorder_refusal o s ≡ None
    → lend_refusal o kinds.Sym s 0 ≡ None
unfolding reorder_refusal
symbols_passed o s passed = none_first (lend_refusal o kinds.Sym s 0) _ passed

-- each section passed
pub section_passed : (o : Object) (s n : ℕ) → reorder_refusal o s ≡ None → n < length o.sections
    → reorder_refusal_of o s n ≡ None
unfolding reorder_refusal
section_passed o s n passed below =
    each_passed (reorder_refusal_of o s) 0 (length o.sections)
    (none_rest (lend_refusal o kinds.Sym s 0) _ passed) n (omega arith) (omega (arith, below))

-- ---- One section, by its header

module _ (o : Object) (s n : ℕ) where
  abbrev pub refusal_by : Bool → Option Kind → Option ElfError
  refusal_by linked kind =
      if not linked then None
      else (elim kind as (λ (k : Option Kind). Option ElfError) [
        | None ↦ None
        | Some k ↦
            first_refusal (lend_refusal o k n 0 ∷ too_few_items o (count_at o s 0) n ∷ [])
      ])

  pub refusal_is : (linked : Bool) (kind : Option Kind) → ((header_at o n).link == s) ≡ linked
      → kind_by_symbols (header_at o n).stype ≡ kind
      → reorder_refusal_of o s n ≡ refusal_by linked kind
  unfolding reorder_refusal_of
  refusal_is linked kind link by =
      ap (λ (b : Bool). refusal_by b (kind_by_symbols (header_at o n).stype)) link
      ∙ ap (λ (k : Option Kind). refusal_by linked k) by

  module _ (order : List ℕ) where
    abbrev pub planned_by : Bool → Bool → Option Kind → Next
    planned_by linked group kind =
        if not linked then nexts.Stay
        else (if group then planned_signature order (header_at o n).info
        else (elim kind as (λ (k : Option Kind). Next) [
          | None ↦ nexts.Stay
          | Some k ↦ nexts.Items (items_by_symbols order (items_at o n 0))
        ]))

    pub planned_is : (linked group : Bool) (kind : Option Kind)
        → ((header_at o n).link == s) ≡ linked
        → ((header_at o n).stype == SHT_GROUP && not (n == 0)) ≡ group
        → kind_by_symbols (header_at o n).stype ≡ kind
        → planned_next o s order n ≡ planned_by linked group kind
    unfolding planned_next
    planned_is linked group kind link is by =
        ap (λ (b : Bool). planned_by b ((header_at o n).stype == SHT_GROUP && not (n == 0))
        (kind_by_symbols (header_at o n).stype)) link
        ∙ ap (λ (b : Bool). planned_by linked b (kind_by_symbols (header_at o n).stype)) is
        ∙ ap (λ (k : Option Kind). planned_by linked group k) by

-- its header, as it was looked at
pub linked_is : (o : Object) (s n : ℕ) (h : Shdr) → h ≡ header_at o n → h.link ≡ s
    → (header_at o n).link ≡ s
linked_is o s n h is linked = ap (λ (x : Shdr). x.link) (sym is) ∙ linked

pub kind_is : (o : Object) (n : ℕ) (h : Shdr) → h ≡ header_at o n → (kind : Kind)
    → Some kind ≡ kind_by_symbols h.stype → kind_by_symbols (header_at o n).stype ≡ Some kind
kind_is o n h is kind some = ap (λ (x : Shdr). kind_by_symbols x.stype) (sym is) ∙ sym some

-- as it is checked
module _ (o : Object) (s n : ℕ) (h : Shdr) (is : h ≡ header_at o n) where
  linked_as : (b : Bool) → (h.link == s) ≡ b → ((header_at o n).link == s) ≡ b
  linked_as b known = ap (λ (x : Shdr). x.link == s) (sym is) ∙ known

  kind_as : (kind : Option Kind) → kind ≡ kind_by_symbols h.stype
      → kind_by_symbols (header_at o n).stype ≡ kind
  kind_as kind known = ap (λ (x : Shdr). kind_by_symbols x.stype) (sym is) ∙ sym known

  pub check_other : (h.link ≡ s → ⊥) → Ok (tt {0}) ≡ answered (reorder_refusal_of o s n) (tt {0})
  check_other other =
      sym (ap (λ (r : Option ElfError). answered r (tt {0}))
      (refusal_is o s n false (kind_by_symbols (header_at o n).stype)
      (linked_as false (ne_eqb h.link s other)) refl))

  pub check_none : h.link ≡ s → None ≡ kind_by_symbols h.stype
      → Ok (tt {0}) ≡ answered (reorder_refusal_of o s n) (tt {0})
  check_none linked none =
      sym (ap (λ (r : Option ElfError). answered r (tt {0}))
      (refusal_is o s n true None (linked_as true (eq-eqb h.link s linked)) (kind_as None none)))

  pub check_both : (kind : Kind) (count : ℕ) (r : Result (Unit {0}) ElfError) → h.link ≡ s
      → Some kind ≡ kind_by_symbols h.stype → count ≡ count_at o s 0
      → r ≡ answered (first_refusal (lend_refusal o kind n 0 ∷ too_few_items o count n ∷ []))
      (tt {0})
      → r ≡ answered (reorder_refusal_of o s n) (tt {0})
  check_both kind count r linked some same came =
      came
      ∙ ap (λ (m : ℕ). answered
      (first_refusal (lend_refusal o kind n 0 ∷ too_few_items o m n ∷ [])) (tt {0})) same
      ∙ sym (ap (λ (x : Option ElfError). answered x (tt {0}))
      (refusal_is o s n true (Some kind) (linked_as true (eq-eqb h.link s linked))
      (kind_as (Some kind) some)))

-- ---- What goes by the symbols

-- a kind by a chain of tests
abbrev kind_of_tests : Bool → Bool → Bool → Bool → Option Kind
kind_of_tests a b c d =
    if a then Some kinds.Word
    else (if b then Some kinds.Half
    else (if c then Some kinds.Rel
    else (if d then Some kinds.Rela else None)))

by_tests : (a b c d : Bool) (kind : Kind) → kind_of_tests a b c d ≡ Some kind → IsByIndex kind
by_tests true b c d kind is =
    let same : kinds.Word ≡ kind = cc in subst (λ (k : Kind). IsByIndex k) same tt
by_tests false true c d kind is =
    let same : kinds.Half ≡ kind = cc in subst (λ (k : Kind). IsByIndex k) same tt
by_tests false false true d kind is =
    let same : kinds.Rel ≡ kind = cc in subst (λ (k : Kind). IsByIndex k) same tt
by_tests false false false true kind is =
    let same : kinds.Rela ≡ kind = cc in subst (λ (k : Kind). IsByIndex k) same tt
by_tests false false false false kind is = cc

pub by_index : (stype : ℕ) (kind : Kind) → kind_by_symbols stype ≡ Some kind → IsByIndex kind
by_index stype kind is = by_tests _ _ _ _ kind is

enough : (count held : ℕ) (e : ElfError) → refused_if (nat_lt held count) e ≡ None → count ≤ held
enough count held e passed = by (nat_lt held count) refl passed
  where
    by : (b : Bool) → nat_lt held count ≡ b → refused_if b e ≡ None → count ≤ held
    by true is passed = cc
    by false is passed = ltb-false held count is

follows_tests : (a b c d : Bool) (kind : Kind) (count held : ℕ) (e : ElfError)
    → kind_of_tests a b c d ≡ Some kind → refused_if ((a || b) && nat_lt held count) e ≡ None
    → CanFollow count kind held
follows_tests true b c d kind count held e is passed =
    let same : kinds.Word ≡ kind = cc in
    subst (λ (k : Kind). CanFollow count k held) same (enough count held e passed)
follows_tests false true c d kind count held e is passed =
    let same : kinds.Half ≡ kind = cc in
    subst (λ (k : Kind). CanFollow count k held) same (enough count held e passed)
follows_tests false false true d kind count held e is passed =
    let same : kinds.Rel ≡ kind = cc in subst (λ (k : Kind). CanFollow count k held) same tt
follows_tests false false false true kind count held e is passed =
    let same : kinds.Rela ≡ kind = cc in subst (λ (k : Kind). CanFollow count k held) same tt
follows_tests false false false false kind count held e is passed = cc

module _ (o : Object) (s n : ℕ) (kind : Kind) (linked : (header_at o n).link ≡ s)
    (by : kind_by_symbols (header_at o n).stype ≡ Some kind)
    (passed : reorder_refusal_of o s n ≡ None) where
  both_passed : first_refusal (lend_refusal o kind n 0 ∷ too_few_items o (count_at o s 0) n ∷ [])
      ≡ None
  both_passed =
      sym (refusal_is o s n true (Some kind) (eq-eqb (header_at o n).link s linked) by) ∙ passed

  pub follower_passed : lend_refusal o kind n 0 ≡ None
  follower_passed = none_first (lend_refusal o kind n 0) _ both_passed

  pub follower_moves : CanFollow (count_at o s 0) kind (count_at o n 0)
  follower_moves =
      follows_tests _ _ _ _ kind (count_at o s 0) (count_at o n 0) _ by
      (alone_passed (too_few_items o (count_at o s 0) n)
      (none_rest (lend_refusal o kind n 0) _ both_passed))

-- ---- The homes that are read

in_filter : (test : ℕ → Bool) (l : List ℕ) (j k : ℕ) → test k ≡ true → j < length l
    → get_or l j k ≡ k → Contains (filter test l) k
in_filter test [] j k passes below at = absurd (omega (arith, below))
in_filter test (x ∷ l) zero k passes below at =
    subst (λ (b : Bool). Contains (cond b (x ∷ filter test l) (filter test l)) k)
    (sym (ap test at ∙ passes)) (0, omega arith, at)
in_filter test (x ∷ l) (suc j) k passes below at =
    later (test x) (in_filter test l j k passes (omega (arith, below)) at)
  where
    later : (b : Bool) → Contains (filter test l) k
        → Contains (cond b (x ∷ filter test l) (filter test l)) k
    later true there = (suc there.0, omega (arith, there.1), there.2)
    later false there = there

module _ (o : Object) (s n : ℕ) (below : n < length o.sections)
    (clean : IsTrue (is_none (piece_at o n 0).own)) where
  read_home : (n == s || is_follower o s n) ≡ true → Contains (all_homes o s) n
  unfolding all_homes
  read_home is =
      in_filter (is_read o s) (all_sections o) n n
      (ap (λ (b : Bool). b && (n == s || is_follower o s n)) clean ∙ is)
      (omega (arith, below, length-range_with_len 0 (length o.sections)))
      (get_or-range_with_len 0 (length o.sections) n n below
      ∙ (let same : 0 + n ≡ n = omega arith in same))

  -- the table's own
  pub table_home : n ≡ s → Contains (all_homes o s) n
  table_home same = read_home (or_left (n == s) (is_follower o s n) (eq-eqb n s same))

  -- that of a section which goes by its symbols
  pub follower_home : (kind : Kind) → (header_at o n).link ≡ s
      → kind_by_symbols (header_at o n).stype ≡ Some kind → Contains (all_homes o s) n
  follower_home kind linked by = read_home (or_right (n == s) (is_follower o s n)
      (ap (λ (b : Bool). b && not (is_none (kind_by_symbols (header_at o n).stype)))
      (eq-eqb (header_at o n).link s linked)
      ∙ ap (λ (k : Option Kind). not (is_none k)) by))

-- ---- The table itself

no_kind : (kind : Kind) → kind ≡ kinds.Sym → IsByIndex kind → ⊥
no_kind kind same is = subst (λ (k : Kind). IsByIndex k) same is

-- it goes by no symbols of its own
pub table_apart : (o : Object) (s : ℕ) (order : List ℕ) → reorder_refusal o s ≡ None
    → s < length o.sections → IsNoItems (planned_next o s order s)
table_apart o s order passed below =
    by ((header_at o s).link == s) ((header_at o s).stype == SHT_GROUP && not (s == 0))
    (kind_by_symbols (header_at o s).stype) refl refl refl
  where
    never : (kind : Kind) → (header_at o s).link ≡ s
        → kind_by_symbols (header_at o s).stype ≡ Some kind → ⊥
    never kind linked is =
        let lent = follower_passed o s s kind linked is (section_passed o s s passed below) in
        let symbols = symbols_passed o s passed in
        no_kind kind (sym (lend_passed o kind s 0 lent).2 ∙ (lend_passed o kinds.Sym s 0 symbols).2)
        (by_index (header_at o s).stype kind is)

    by : (linked group : Bool) (kind : Option Kind) → ((header_at o s).link == s) ≡ linked
        → ((header_at o s).stype == SHT_GROUP && not (s == 0)) ≡ group
        → kind_by_symbols (header_at o s).stype ≡ kind → IsNoItems (planned_next o s order s)
    by false group kind link is k =
        subst (λ (x : Next). IsNoItems x) (sym (planned_is o s s order false group kind link is k))
        tt
    by true true kind link is k =
        subst (λ (x : Next). IsNoItems x) (sym (planned_is o s s order true true kind link is k))
        (signature (new_index order (header_at o s).info)
        (nat_lt (header_at o s).info (length order)))
      where
        signature : (x : ℕ) (b : Bool) → IsNoItems (if b then nexts.Signature x else nexts.Stay)
        signature x true = tt
        signature x false = tt
    by true false None link is k =
        subst (λ (x : Next). IsNoItems x)
        (sym (planned_is o s s order true false None link is k)) tt
    by true false (Some kind) link is k =
        absurd (never kind (eqb-true (header_at o s).link s link) k)

-- ---- What a section gets, as it is planned

module _ (o : Object) (s n : ℕ) (order : List ℕ) (h : Shdr) (is : h ≡ header_at o n) where
  pub plan_other : (h.link ≡ s → ⊥) → planned_next o s order n ≡ nexts.Stay
  plan_other other =
      planned_is o s n order false _ _ (linked_as o s n h is false (ne_eqb h.link s other)) refl
      refl

  group_as : (b : Bool) → (h.stype == SHT_GROUP && not (n == 0)) ≡ b
      → ((header_at o n).stype == SHT_GROUP && not (n == 0)) ≡ b
  group_as b known = ap (λ (x : Shdr). x.stype == SHT_GROUP && not (n == 0)) (sym is) ∙ known

  pub plan_group : h.link ≡ s → (h.stype == SHT_GROUP && not (n == 0)) ≡ true
      → planned_next o s order n ≡ planned_signature order h.info
  plan_group linked group =
      planned_is o s n order true true _ (linked_as o s n h is true (eq-eqb h.link s linked))
      (group_as true group) refl
      ∙ ap (λ (x : Shdr). planned_signature order x.info) (sym is)

  pub plan_kind : (kind : Option Kind) → h.link ≡ s
      → (h.stype == SHT_GROUP && not (n == 0)) ≡ false → kind ≡ kind_by_symbols h.stype
      → planned_next o s order n ≡ planned_by o s n order true false kind
  plan_kind kind linked group known =
      planned_is o s n order true false kind
      (linked_as o s n h is true (eq-eqb h.link s linked)) (group_as false group)
      (kind_as o s n h is kind known)

-- ---- The signature of a group

pub signed_passes : (o : Object) (n info : ℕ) → IsObject o → n < length o.sections
    → (n ≡ 0 → ⊥) → update_shdr_refusal o n (signed o n info) ≡ None
unfolding update_shdr_refusal shdr_fits
signed_passes o n info is below other =
    let unfit = refused_if (not (shdr_fits o.header.class (signed o n info)))
    (Unfit (part.Section n) 0) in
    ap (λ (b : Bool). first_refusal (refused_if b (NoSection n (length o.sections))
    ∷ reserved n ∷ unfit ∷ [])) (lt-leb (length o.sections) n below)
    ∙ ap (λ (b : Bool). first_refusal (refused_if b Reserved ∷ unfit ∷ [])) (ne_eqb n 0 other)
    ∙ ap (λ (b : Bool). first_refusal (refused_if (not b) (Unfit (part.Section n) 0) ∷ []))
    (section_at_is o n is).fitting
