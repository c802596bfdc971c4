-- What is known of the places of the parts where the update is not refused: none is too large for the class, and no two
-- parts share a byte.
use Rattle.std.proofs.Common.{◌≡◌, ℕ, ◌+◌, ◌^◌, ◌<◌, ◌≤◌, max, Bool, true, false, not, ◌&&◌, ◌||◌, List, [], ◌∷◌, Option, Some, None, refl, sym, ◌∙◌, arith, lit≤, ⊎_elim}
use Rattle.std.specs.Prelude.{nat_lt, nat_le, if◌then◌else◌, cond, slice_get}
use Rattle.std.specs.List.{AllByRecursion, list_any, filter}
use Rattle.std.specs.Option.{option_or, option_map}
use Rattle.std.proofs.lemmas.Bool.{ltb-false, cases_lt, lt-ltb, le-ltb}
use Rattle.elf_types.specs.declared.records.Class.{Class}
use Rattle.elf_types.specs.declared.records.Class.TheVariants.{C32, C64}
use Rattle.elf_types.specs.declared.records.Part.{Part}
use Rattle.elf_types.specs.declared.errors.ElfError.{ElfError}
use Rattle.elf_types.specs.declared.errors.ElfError.TheVariants.{Overlap, TooLarge}
use Rattle.elf_object.specs.elf_xlate.Fields.{fits}
use Rattle.elf_object.specs.elf_layout.declared.parts.PartAt.{PartAt}
use Rattle.elf_object.specs.elf_layout.Layout.{rounded_up, place_of, end_after, in_order_from, standing, length_with, length_from, length_of, limit_of, some_above, is_too_large, overlap_refusal, refusal_within, refusal_of}
use Rattle.elf_object.specs.elf_layout.Meeting.{has_bytes, end_of, meets, inserted_by, sorted_by, parts_by_position, first_met, overlap_of}

-- ---- One after the other

pub rounded_up-ge : (n align : ℕ) → n ≤ rounded_up n align
unfolding rounded_up
rounded_up-ge n align = omega arith

end_after-ge : (end : ℕ) (p : PartAt) → end ≤ end_after end p
unfolding end_after place_of
end_after-ge end p = by_test p.filled
  where
    by_test : (b : Bool) → end ≤ (if b then rounded_up end p.align + p.len else end)
    by_test true = let up = rounded_up-ge end p.align in omega arith
    by_test false = omega arith

-- each part stands at the end so far or after it
in_order-ge : (end : ℕ) (ps : List PartAt) → AllByRecursion (λ p. end ≤ p.at) (in_order_from end ps)
unfolding in_order_from place_of
in_order-ge end [] = tt
in_order-ge end (p ∷ ps) = (rounded_up-ge end p.align, raise end (end_after end p) (end_after-ge end p) (in_order_from (end_after end p) ps) (in_order-ge (end_after end p) ps))
  where
    raise : (m n : ℕ) → m ≤ n → (l : List PartAt) → AllByRecursion (λ q. n ≤ q.at) l → AllByRecursion (λ q. m ≤ q.at) l
    raise m n h [] each = tt
    raise m n h (q ∷ l) each = (omega (arith, h, each.0), raise m n h l each.1)

-- a part that begins where another ends, or after it, does not meet it
abbrev pub IsBehind : PartAt → PartAt → Type 0
IsBehind p q = p.filled ≡ true → end_of p ≤ q.at

abbrev pub AreInOrder : List PartAt → Type 0
AreInOrder [] = Unit {0}
AreInOrder (p ∷ ps) = AllByRecursion (IsBehind p) ps × AreInOrder ps

pub in_order : (end : ℕ) (ps : List PartAt) → AreInOrder (in_order_from end ps)
unfolding in_order_from end_of end_after
in_order end [] = tt
in_order end (p ∷ ps) = (behind p.filled refl, in_order (end_after end p) ps)
  where
    lower : (m n : ℕ) → m ≤ n → (l : List PartAt) → AllByRecursion (λ q. n ≤ q.at) l → AllByRecursion (λ q. p.filled ≡ true → m ≤ q.at) l
    lower m n h [] each = tt
    lower m n h (q ∷ l) each = ((λ filled. omega (arith, h, each.0)), lower m n h l each.1)

    never : (m : ℕ) → p.filled ≡ false → (l : List PartAt) → AllByRecursion (λ q. p.filled ≡ true → m ≤ q.at) l
    never m empty [] = tt
    never m empty (q ∷ l) = ((λ filled. let clash : false ≡ true = sym empty ∙ filled in cc), never m empty l)

    behind : (b : Bool) → p.filled ≡ b → AllByRecursion (λ q. p.filled ≡ true → place_of end p + p.len ≤ q.at) (in_order_from (end_after end p) ps)
    behind true e =
        let same : end_after end p ≡ place_of end p + p.len = rw e refl in
        lower (place_of end p + p.len) (end_after end p) (omega arith) (in_order_from (end_after end p) ps) (in_order-ge (end_after end p) ps)
    behind false e = never (place_of end p + p.len) e (in_order_from (end_after end p) ps)

and_false : (b : Bool) → (b && false) ≡ false
and_false true = refl
and_false false = refl

-- two of which one is behind the other do not meet
pub behind_apart : (p q : PartAt) → IsBehind p q → meets p q ≡ false
unfolding meets has_bytes end_of
behind_apart p q behind = by_test p.filled refl
  where
    by_test : (b : Bool) → p.filled ≡ b → (p.filled && nat_lt 0 p.len && (q.filled && nat_lt 0 q.len) && nat_lt p.at (q.at + q.len) && nat_lt q.at (p.at + p.len)) ≡ false
    by_test true e =
        let past = le-ltb q.at (p.at + p.len) (behind e) in
        rw past (and_false (p.filled && nat_lt 0 p.len && (q.filled && nat_lt 0 q.len) && nat_lt p.at (q.at + q.len)))
    by_test false e = rw e refl

-- ---- The length of the image

length_with-ge : (n : ℕ) (p : PartAt) → n ≤ length_with n p
unfolding length_with
length_with-ge n p = by_test (has_bytes p)
  where
    by_test : (b : Bool) → n ≤ (if b then max n (end_of p) else n)
    by_test true = omega arith
    by_test false = omega arith

pub length_from-ge : (n : ℕ) (ps : List PartAt) → n ≤ length_from n ps
unfolding length_from
length_from-ge n [] = omega arith
length_from-ge n (p ∷ ps) =
    let here = length_with-ge n p in let rest = length_from-ge (length_with n p) ps in omega arith

-- a part that is not empty ends within the image
pub ends_within : (n : ℕ) (ps : List PartAt) → AllByRecursion (λ p. has_bytes p ≡ true → end_of p ≤ length_from n ps) ps
unfolding length_from length_with
ends_within n [] = tt
ends_within n (p ∷ ps) = (here (has_bytes p) refl, ends_within (length_with n p) ps)
  where
    here : (b : Bool) → has_bytes p ≡ b → has_bytes p ≡ true → end_of p ≤ length_from (length_with n p) ps
    here true e h =
        let with_it : end_of p ≤ length_with n p = rw e (omega arith) in
        let rest = length_from-ge (length_with n p) ps in omega arith
    here false e h = let clash : false ≡ true = sym e ∙ h in cc

-- ---- An update that is not refused

or_none : (a b : Option ElfError) → option_or a b ≡ None → (a ≡ None) × (b ≡ None)
or_none None b h = (refl, h)
or_none (Some e) b h = cc

or_false : (a b : Bool) → (a || b) ≡ false → (a ≡ false) × (b ≡ false)
or_false false b h = (refl, h)
or_false true b h = cc

and_not : (a b : Bool) → (not a && b) ≡ false → a ≡ false → b ≡ false
and_not true b h e = cc
and_not false b h e = h

not_then : (b : Bool) (e : ElfError) → (if b then Some e else None) ≡ None → b ≡ false
not_then true e h = cc
not_then false e h = refl

none_above : (limit : ℕ) (ps : List PartAt) → list_any (λ p. nat_lt limit p.at) ps ≡ false → AllByRecursion (λ p. p.at ≤ limit) ps
none_above limit [] h = tt
none_above limit (p ∷ ps) h =
    let both = or_false (nat_lt limit p.at) (list_any (λ q. nat_lt limit q.at) ps) h in
    (ltb-false limit p.at both.0, none_above limit ps both.1)

-- the image is not too large, and no position is that is not the caller's
pub record AreNotTooLarge (parts : List PartAt) (layout : Bool) (base : ℕ) (class : Class) : Type 0 where
  pub length : length_of parts layout base ≤ limit_of class
  pub places : layout ≡ false → AllByRecursion (λ p. p.at ≤ limit_of class) (standing parts layout)

pub not_too_large : (parts : List PartAt) (layout : Bool) (base : ℕ) (class : Class) → refusal_of parts layout base class ≡ None → AreNotTooLarge parts layout base class
unfolding refusal_of refusal_within is_too_large some_above
not_too_large parts layout base class h =
    let both = or_none (overlap_refusal parts layout) (if is_too_large parts layout base (limit_of class) then Some TooLarge else None) h in
    let small = not_then (is_too_large parts layout base (limit_of class)) TooLarge both.1 in
    let tests = or_false (nat_lt (limit_of class) (length_of parts layout base)) (not layout && some_above (limit_of class) (standing parts layout)) small in
    record {
      length = ltb-false (limit_of class) (length_of parts layout base) tests.0;
      places = λ e. none_above (limit_of class) (standing parts layout) (and_not layout (some_above (limit_of class) (standing parts layout)) tests.1 e);
    }

-- a place or a size that fits the class
pub record IsFitting (class : Class) (n : ℕ) : Type 0 where
  pub range : n < 2 ^ 64
  pub fits : fits class n ≡ true

pub within_limit : (class : Class) (n : ℕ) → n ≤ limit_of class → IsFitting class n
unfolding limit_of
within_limit C32 n h = record { range = omega arith; fits = lt-ltb n (2 ^ 32) (omega arith) }
within_limit C64 n h = record { range = omega arith; fits = refl }

pub zero_fits : (class : Class) → IsFitting class 0
unfolding limit_of
zero_fits C32 = within_limit C32 0 (lit≤ tt)
zero_fits C64 = within_limit C64 0 (lit≤ tt)

-- a length of a part of which the image holds bytes: it is 0, or its end is within the image
len_within : (n : ℕ) (p : PartAt) → (has_bytes p ≡ true → end_of p ≤ n) → p.filled ≡ true → p.len ≤ n
unfolding has_bytes end_of
len_within n p ends filled = ⊎_elim
    (λ h. let some : (p.filled && nat_lt 0 p.len) ≡ true = rw (filled, lt-ltb 0 p.len h) refl in let end = ends some in omega arith)
    (λ h. omega arith) (cases_lt 0 p.len)

lens_within : (n : ℕ) (ps : List PartAt) → AllByRecursion (λ p. has_bytes p ≡ true → end_of p ≤ n) ps → AllByRecursion (λ p. p.filled ≡ true → p.len ≤ n) ps
lens_within n [] each = tt
lens_within n (p ∷ ps) each = (len_within n p each.0, lens_within n ps each.1)

-- a fact of lengths holds before the parts are placed where it holds after
lens_before : (n end : ℕ) (ps : List PartAt) → AllByRecursion (λ p. p.filled ≡ true → p.len ≤ n) (in_order_from end ps) → AllByRecursion (λ p. p.filled ≡ true → p.len ≤ n) ps
unfolding in_order_from
lens_before n end [] each = tt
lens_before n end (p ∷ ps) each = (each.0, lens_before n (end_after end p) ps each.1)

-- each part of which the image holds bytes is as long as the class allows at most
pub lens_limited : (parts : List PartAt) (layout : Bool) (base : ℕ) (class : Class) → AreNotTooLarge parts layout base class → AllByRecursion (λ p. p.filled ≡ true → p.len ≤ limit_of class) parts
unfolding standing length_of
lens_limited parts true base class small = raise parts (lens_within (length_from base parts) parts (ends_within base parts))
  where
    raise : (l : List PartAt) → AllByRecursion (λ p. p.filled ≡ true → p.len ≤ length_from base parts) l → AllByRecursion (λ p. p.filled ≡ true → p.len ≤ limit_of class) l
    raise [] each = tt
    raise (p ∷ l) each = ((λ e. let here = each.0 e in let whole = small.length in omega arith), raise l each.1)
lens_limited parts false base class small = lens_before (limit_of class) 0 parts (raise (in_order_from 0 parts) (lens_within (length_from 0 (in_order_from 0 parts)) (in_order_from 0 parts) (ends_within 0 (in_order_from 0 parts))))
  where
    raise : (l : List PartAt) → AllByRecursion (λ p. p.filled ≡ true → p.len ≤ length_from 0 (in_order_from 0 parts)) l → AllByRecursion (λ p. p.filled ≡ true → p.len ≤ limit_of class) l
    raise [] each = tt
    raise (p ∷ l) each = ((λ e. let here = each.0 e in let whole = small.length in omega arith), raise l each.1)

-- ---- Parts at the caller's places

-- a relation of each item and each later one
abbrev pub Pairs : {X : Type 0} → (X → X → Type 0) → List X → Type 0
Pairs R [] = Unit {0}
Pairs R (x ∷ xs) = AllByRecursion (R x) xs × Pairs R xs

inserted_each : {X : Type 0} (key : X → ℕ) (P : X → Type 0) (x : X) (ys : List X) → AllByRecursion P (inserted_by key x ys) → P x × AllByRecursion P ys
inserted_each key P x [] each = (each.0, tt)
inserted_each key P x (y ∷ ys) each = by_test (nat_le (key x) (key y)) (inserted_each key P x ys) each
  where
    by_test : (b : Bool) → (AllByRecursion P (inserted_by key x ys) → P x × AllByRecursion P ys) → AllByRecursion P (if b then x ∷ y ∷ ys else y ∷ inserted_by key x ys) → P x × (P y × AllByRecursion P ys)
    by_test true rest all = (all.0, (all.1.0, all.1.1))
    by_test false rest all = let both = rest all.1 in (both.0, (all.0, both.1))

inserted_pairs : {X : Type 0} (key : X → ℕ) (R : X → X → Type 0) → ((a b : X) → R a b → R b a) → (x : X) (ys : List X) → Pairs R (inserted_by key x ys) → AllByRecursion (R x) ys × Pairs R ys
inserted_pairs key R turn x [] pairs = (tt, tt)
inserted_pairs key R turn x (y ∷ ys) pairs = by_test (nat_le (key x) (key y)) (inserted_pairs key R turn x ys) pairs
  where
    by_test : (b : Bool) → (Pairs R (inserted_by key x ys) → AllByRecursion (R x) ys × Pairs R ys) → Pairs R (if b then x ∷ y ∷ ys else y ∷ inserted_by key x ys) → (R x y × AllByRecursion (R x) ys) × (AllByRecursion (R y) ys × Pairs R ys)
    by_test true rest all = (all.0, all.1)
    by_test false rest all =
        let first = inserted_each key (R y) x ys all.0 in
        let later = rest all.1 in
        ((turn y x first.0, later.0), (first.1, later.1))

sorted_each : {X : Type 0} (key : X → ℕ) (P : X → Type 0) (xs : List X) → AllByRecursion P (sorted_by key xs) → AllByRecursion P xs
sorted_each key P [] each = tt
sorted_each key P (x ∷ xs) each =
    let both = inserted_each key P x (sorted_by key xs) each in (both.0, sorted_each key P xs both.1)

sorted_pairs : {X : Type 0} (key : X → ℕ) (R : X → X → Type 0) → ((a b : X) → R a b → R b a) → (xs : List X) → Pairs R (sorted_by key xs) → Pairs R xs
sorted_pairs key R turn [] pairs = tt
sorted_pairs key R turn (x ∷ xs) pairs =
    let both = inserted_pairs key R turn x (sorted_by key xs) pairs in
    (sorted_each key (R x) xs both.0, sorted_pairs key R turn xs both.1)

-- what is left out by a filter is related to all
filter_each : {X : Type 0} (test : X → Bool) (P : X → Type 0) → ((x : X) → test x ≡ false → P x) → (xs : List X) → AllByRecursion P (filter test xs) → AllByRecursion P xs
filter_each test P out [] each = tt
filter_each test P out (x ∷ xs) each = by_test (test x) refl (filter_each test P out xs) each
  where
    by_test : (b : Bool) → test x ≡ b → (AllByRecursion P (filter test xs) → AllByRecursion P xs) → AllByRecursion P (cond b (x ∷ filter test xs) (filter test xs)) → P x × AllByRecursion P xs
    by_test true e rest all = (all.0, rest all.1)
    by_test false e rest all = (out x e, rest all)

filter_pairs : {X : Type 0} (test : X → Bool) (R : X → X → Type 0) → ((x y : X) → test x ≡ false → R x y) → ((x y : X) → test y ≡ false → R x y) → (xs : List X) → Pairs R (filter test xs) → Pairs R xs
filter_pairs test R left right [] pairs = tt
filter_pairs {X = X} test R left right (x ∷ xs) pairs = by_test (test x) refl (filter_pairs test R left right xs) pairs
  where
    all_out : test x ≡ false → (ys : List X) → AllByRecursion (R x) ys
    all_out e [] = tt
    all_out e (y ∷ ys) = (left x y e, all_out e ys)

    by_test : (b : Bool) → test x ≡ b → (Pairs R (filter test xs) → Pairs R xs) → Pairs R (cond b (x ∷ filter test xs) (filter test xs)) → AllByRecursion (R x) xs × Pairs R xs
    by_test true e rest all = (filter_each test (R x) (λ y out. right x y out) xs all.0, rest all.1)
    by_test false e rest all = (all_out e xs, rest all)

meets_turned : (a b : PartAt) → meets a b ≡ false → meets b a ≡ false
unfolding meets
meets_turned a b h = turned (has_bytes a) (has_bytes b) (nat_lt a.at (end_of b)) (nat_lt b.at (end_of a)) h
  where
    turned : (p q r s : Bool) → (p && q && r && s) ≡ false → (q && p && s && r) ≡ false
    turned true true true true h = h
    turned true true true false h = refl
    turned true true false true h = refl
    turned true true false false h = refl
    turned true false r s h = refl
    turned false true r s h = refl
    turned false false r s h = refl

empty_first : (a b : PartAt) → has_bytes a ≡ false → meets a b ≡ false
unfolding meets
empty_first a b h = rw h refl

empty_second : (a b : PartAt) → has_bytes b ≡ false → meets a b ≡ false
empty_second a b h = meets_turned b a (empty_first b a h)

none_met : (a : PartAt) (ps : List PartAt) → list_any (meets a) ps ≡ false → AllByRecursion (λ b. meets a b ≡ false) ps
none_met a [] h = tt
none_met a (b ∷ ps) h = let both = or_false (meets a b) (list_any (meets a) ps) h in (both.0, none_met a ps both.1)

first_none : (a : PartAt) (ps : List PartAt) → (if list_any (meets a) ps then option_map (λ b. (a.part, b.part)) (slice_get ps 0) else first_met ps) ≡ None → (list_any (meets a) ps ≡ false) × (first_met ps ≡ None)
first_none a [] h = (refl, h)
first_none a (b ∷ ps) h = by_test (list_any (meets a) (b ∷ ps)) refl h
  where
    by_test : (t : Bool) → list_any (meets a) (b ∷ ps) ≡ t → (if t then Some (a.part, b.part) else first_met (b ∷ ps)) ≡ None → (list_any (meets a) (b ∷ ps) ≡ false) × (first_met (b ∷ ps) ≡ None)
    by_test true e g = cc
    by_test false e g = (e, g)

first_met_none : (ps : List PartAt) → first_met ps ≡ None → Pairs (λ a b. meets a b ≡ false) ps
unfolding first_met
first_met_none [] h = tt
first_met_none (a ∷ ps) h =
    let both = first_none a ps h in (none_met a ps both.0, first_met_none ps both.1)

no_overlap : (o : Option (Part × Part)) → option_map (λ pair. Overlap pair.0 pair.1) o ≡ None → o ≡ None
no_overlap None h = refl
no_overlap (Some pair) h = cc

in_order_pairs : (ps : List PartAt) → AreInOrder ps → Pairs (λ a b. meets a b ≡ false) ps
in_order_pairs [] order = tt
in_order_pairs (p ∷ ps) order = (each p ps order.0, in_order_pairs ps order.1)
  where
    each : (a : PartAt) (l : List PartAt) → AllByRecursion (IsBehind a) l → AllByRecursion (λ b. meets a b ≡ false) l
    each a [] all = tt
    each a (b ∷ l) all = (behind_apart a b all.0, each a l all.1)

-- no two parts share a byte where nothing is refused
pub standing_apart : (parts : List PartAt) (layout : Bool) (base : ℕ) (class : Class) → refusal_of parts layout base class ≡ None → Pairs (λ a b. meets a b ≡ false) (standing parts layout)
unfolding refusal_of refusal_within overlap_refusal standing overlap_of parts_by_position
standing_apart parts true base class h =
    let both = or_none (option_map (λ pair. Overlap pair.0 pair.1) (overlap_of parts)) (if is_too_large parts true base (limit_of class) then Some TooLarge else None) h in
    let none = no_overlap (overlap_of parts) both.0 in
    filter_pairs has_bytes (λ a b. meets a b ≡ false) empty_first empty_second parts
    (sorted_pairs (λ p. p.at) (λ a b. meets a b ≡ false) meets_turned (filter has_bytes parts) (first_met_none (sorted_by (λ p. p.at) (filter has_bytes parts)) none))
standing_apart parts false base class h = in_order_pairs (in_order_from 0 parts) (in_order 0 parts)
