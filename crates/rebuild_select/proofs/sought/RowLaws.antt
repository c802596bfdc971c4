-- Sections under their names, by the order in which they are kept.
use Rattle.std.proofs.Common.{◌≡◌, ◌&&◌, ◌||◌, ◌==◌, ◌<◌, not, ℕ, zero, suc, Bool, true, false, cond, List, [], ◌∷◌, nat_cmp, Ordering, refl, sym, ap, ◌∙◌, arith}
use Rattle.std.specs.Prelude.{OnOk, Result, Ok, Err}
use Rattle.std.specs.Ordering.{is_eq, is_gt, ordering_then, ordering_reverse}
use Rattle.std.specs.declared.cmp.Ordering.TheVariants.{Less, Equal, Greater}
use Rattle.std.specs.declared.ops.Bound.TheVariants.{Included, Unbounded}
use Rattle.std.specs.Cmp.{unsigned_ties}
use Rattle.std.specs.Cmp.Lexicographic.{slice_cmp}
use Rattle.std.specs.List.{list_any}
use Rattle.std.specs.Str.{bytes_eq}
use Rattle.std.specs.Borrow.{Bor}
use Rattle.std.specs.BTreeSet.{BTreeSet, Updates, IsKeyRangeOf}
use Rattle.std.proofs.lemmas.Bool.{lt-ltb}
use Rattle.std.proofs.lemmas.Cmp.{nat_list_cmp_total, tied_itself}
use Rattle.std.proofs.lemmas.Map.Keys.{le_from_not_gt}
use Rattle.std.proofs.lemmas.Map.Text.{is_eq-slice_cmp}
use Rattle.std.proofs.lemmas.Slice.Eq.{bytes_eq-Decides}
use Rattle.rebuild_select.specs.declared.sought.sections.NamedSection.{NamedSection}
use Rattle.rebuild_select.specs.Sought.Names.{is_sought}
use Rattle.rebuild_select.specs.Sought.Rows.{stands_in}
use Rattle.rebuild_select.proofs.sought.NameLaws.{either, unsought_apart}

-- ---- By their order

-- the derived order
abbrev pub named_section_cmp : NamedSection → NamedSection → Ordering
named_section_cmp a b =
    ordering_then (slice_cmp nat_cmp a.name.now b.name.now) (nat_cmp a.section b.section)

abbrev key : List ℕ → ℕ → NamedSection
key name s = record { name = record { ref_ptr = (0, 0); now = name }; section = s }

then_both : (a b : Ordering) → is_eq (ordering_then a b) ≡ (is_eq a && is_eq b)
then_both Less b = refl
then_both Equal b = refl
then_both Greater b = refl

same_row : (name other : List ℕ) (s t : ℕ)
    → is_eq (ordering_then (slice_cmp nat_cmp name other) (nat_cmp s t))
    ≡ (bytes_eq name other && s == t)
same_row name other s t =
    then_both (slice_cmp nat_cmp name other) (nat_cmp s t)
    ∙ ap (λ (b : Bool). b && is_eq (nat_cmp s t)) (is_eq-slice_cmp name other)
    ∙ ap (λ (b : Bool). bytes_eq name other && b) (sym (unsigned_ties s t))

rows_by_order : (rows : List NamedSection) (name : List ℕ) (s : ℕ)
    → list_any (λ r. is_eq (named_section_cmp (key name s) r)) rows ≡ stands_in rows name s
rows_by_order [] name s = refl
rows_by_order (r ∷ rs) name s =
    ap (λ (b : Bool). b || list_any (λ (r : NamedSection). is_eq (named_section_cmp (key name s) r)) rs)
    (same_row name r.name.now s r.section)
    ∙ ap (λ (b : Bool). (bytes_eq name r.name.now && s == r.section) || b)
    (rows_by_order rs name s)

-- ---- A row that is put or taken

pub no_rows : (rows : List NamedSection) (name : List ℕ) (s : ℕ) → rows ≡ []
    → stands_in rows name s ≡ false
no_rows rows name s none = ap (λ (l : List NamedSection). stands_in l name s) none

neither : (b c : Bool) → cond b false c ≡ (not b && c)
neither true c = refl
neither false c = refl

module _ (x y : BTreeSet NamedSection) (row : NamedSection) (name : List ℕ) (s : ℕ) where
  updated : (b : Bool) → Updates named_section_cmp x y row b
      → stands_in y.keys name s
      ≡ cond (bytes_eq row.name.now name && row.section == s) b (stands_in x.keys name s)
  updated b updates =
      sym (rows_by_order y.keys name s)
      ∙ updates.0 (key name s)
      ∙ ap (λ (t : Bool).
      cond t b (list_any (λ (r : NamedSection). is_eq (named_section_cmp (key name s) r)) x.keys))
      (same_row row.name.now name row.section s)
      ∙ ap (λ (t : Bool). cond (bytes_eq row.name.now name && row.section == s) b t)
      (rows_by_order x.keys name s)

  pub row_put : Updates named_section_cmp x y row true
      → stands_in y.keys name s
      ≡ ((bytes_eq row.name.now name && row.section == s) || stands_in x.keys name s)
  row_put updates =
      updated true updates
      ∙ either (bytes_eq row.name.now name && row.section == s) (stands_in x.keys name s)

  pub row_taken : Updates named_section_cmp x y row false
      → stands_in y.keys name s
      ≡ (not (bytes_eq row.name.now name && row.section == s) && stands_in x.keys name s)
  row_taken updates =
      updated false updates
      ∙ neither (bytes_eq row.name.now name && row.section == s) (stands_in x.keys name s)

-- one that is not kept
pub row_passed : (names : List (List ℕ)) (rows : List NamedSection) (name q : List ℕ) (s t : ℕ)
    → is_sought names name ≡ false → is_sought names q ≡ true
    → stands_in rows q t ≡ ((bytes_eq name q && s == t) || stands_in rows q t)
row_passed names rows name q s t unsought sought =
    sym (ap (λ (b : Bool). (b && s == t) || stands_in rows q t)
    (unsought_apart names name q unsought sought))

-- one that was put under the name that was found
pub put_found : {T E : Type 0} (r : Result T E) (names : List (List ℕ)) (old new : List NamedSection)
    (one name : List ℕ) (s : ℕ) → one ≡ name
    → OnOk r ((q : List ℕ) (t : ℕ) → stands_in new q t
    ≡ ((bytes_eq one q && s == t) || stands_in old q t))
    → OnOk r ((q : List ℕ) (t : ℕ) → is_sought names q ≡ true → stands_in new q t
    ≡ ((bytes_eq name q && s == t) || stands_in old q t))
put_found (Ok x) names old new one name s same put =
    λ q t sought. put q t
    ∙ ap (λ (n : List ℕ). (bytes_eq n q && s == t) || stands_in old q t) same
put_found (Err e) names old new one name s same put = tt

-- ---- The first one

zero_first : (t : ℕ) → is_gt (nat_cmp 0 t) ≡ false
zero_first zero = refl
zero_first (suc t) =
    ap (λ (b : Bool). is_gt (cond b Less (cond (0 == suc t) Equal Greater)))
    (lt-ltb 0 (suc t) (omega arith))

abbrev pub from : Bor (List ℕ) → NamedSection
from name = record { name = name; section = 0 }

in_range : (name : Bor (List ℕ)) (t : ℕ) → is_gt (named_section_cmp (from name) (key name.now t)) ≡ false
in_range name t =
    ap (λ (o : Ordering). is_gt (ordering_then o (nat_cmp 0 t)))
    (tied_itself nat_list_cmp_total name.now)
    ∙ zero_first t

pub none_in_key_range : (x : BTreeSet NamedSection) (name : Bor (List ℕ)) (r : List NamedSection)
    → IsKeyRangeOf named_section_cmp (Included (from name)) Unbounded x r → r ≡ []
    → (t : ℕ) → stands_in x.keys name.now t ≡ false
none_in_key_range x name r range none t =
    sym (rows_by_order x.keys name.now t)
    ∙ range.5 none (key name.now t) (in_range name t, tt)

module _ (x : BTreeSet NamedSection) (name : Bor (List ℕ)) (k : NamedSection) (rest : List NamedSection)
    (range : IsKeyRangeOf named_section_cmp (Included (from name)) Unbounded x (k ∷ rest)) where
  later : (t : ℕ) → stands_in x.keys name.now t ≡ true
      → is_gt (named_section_cmp k (key name.now t)) ≡ false
  later t is =
      range.2 (key name.now t) (in_range name t, tt)
      (rows_by_order x.keys name.now t ∙ is)

  not_before : bytes_eq k.name.now name.now ≡ true → (t : ℕ) → t < k.section
      → stands_in x.keys name.now t ≡ false
  not_before same t below = by_stand (stands_in x.keys name.now t) refl
    where
      by_stand : (b : Bool) → stands_in x.keys name.now t ≡ b → stands_in x.keys name.now t ≡ false
      by_stand false is = is
      by_stand true is =
          let one = (bytes_eq-Decides k.name.now name.now).0 same in
          let tied : slice_cmp nat_cmp k.name.now name.now ≡ Equal =
          ap (λ (l : List ℕ). slice_cmp nat_cmp l name.now) one
          ∙ tied_itself nat_list_cmp_total name.now in
          let past = le_from_not_gt k.section t
          (sym (ap (λ (o : Ordering). is_gt (ordering_then o (nat_cmp k.section t))) tied)
          ∙ later t is) in
          absurd (omega (arith, past, below))

  pub first_is : bytes_eq k.name.now name.now ≡ true
      → (stands_in x.keys name.now k.section ≡ true)
      × ((t : ℕ) → t < k.section → stands_in x.keys name.now t ≡ false)
  first_is same = (
    sym (rows_by_order x.keys name.now k.section)
        ∙ ap (λ (l : List ℕ).
        list_any (λ (r : NamedSection). is_eq (named_section_cmp (key l k.section) r)) x.keys)
        (sym ((bytes_eq-Decides k.name.now name.now).0 same))
        ∙ range.1.1,
    not_before same,
  )

  pub none_is : bytes_eq k.name.now name.now ≡ false → (t : ℕ)
      → stands_in x.keys name.now t ≡ false
  none_is differs t = by_stand (stands_in x.keys name.now t) refl
    where
      by_order : (o : Ordering) → slice_cmp nat_cmp name.now k.name.now ≡ o
          → is_gt (ordering_then o (nat_cmp 0 k.section)) ≡ false
          → is_gt (ordering_then (ordering_reverse o) (nat_cmp k.section t)) ≡ false → ⊥
      by_order Less is low high = let h : true ≡ false = high in cc
      by_order Greater is low high = let h : true ≡ false = low in cc
      by_order Equal is low high =
          let same = sym (is_eq-slice_cmp name.now k.name.now) ∙ ap is_eq is in
          let back = (bytes_eq-Decides k.name.now name.now).1
          (sym ((bytes_eq-Decides name.now k.name.now).0 same)) in
          let h : false ≡ true = sym differs ∙ back in cc

      by_stand : (b : Bool) → stands_in x.keys name.now t ≡ b → stands_in x.keys name.now t ≡ false
      by_stand false is = is
      by_stand true is =
          absurd (by_order (slice_cmp nat_cmp name.now k.name.now) refl range.1.0.0
          (sym (ap (λ (o : Ordering). is_gt (ordering_then o (nat_cmp k.section t)))
          (nat_list_cmp_total.antisymm k.name.now name.now)) ∙ later t is))
