-- The order of the rows: what a sort by the rows' keys leaves is the list that is stated.
use Rattle.std.proofs.Common.{◌≡◌, ℕ, ◌+◌, ◌<◌, zero, suc, List, [], ◌∷◌, ◌++◌, map, Bool, true, false, cond, nat_cmp, Ordering, ap, sym, ◌∙◌, refl, subst, arith}
use Rattle.std.specs.Prelude.{◌^◌, All, slice_index_or, nat_lt}
use Rattle.std.specs.Ordering.{is_lt, ordering_then, ordering_reverse}
use Rattle.std.specs.declared.cmp.Ordering.TheVariants.{Less, Equal, Greater}
use Rattle.std.specs.Cmp.{IsTotalOrder}
use Rattle.std.specs.Cmp.Lexicographic.{slice_cmp}
use Rattle.std.specs.List.{AllByRecursion, sum_by}
use Rattle.std.specs.List.Sorted.{IsSorted, IsPermutation}
use Rattle.std.proofs.lemmas.Cmp.{nat_cmp_total, nat_list_cmp_total, then_total, on_total}
use Rattle.std.proofs.lemmas.Map.Lookups.{exact_unsigned, exact_bytes}
use Rattle.std.proofs.lemmas.List.Sums.{sum_by-cons, sum_by-append}
use Rattle.std.proofs.lemmas.List.Elements.{recursion_from_All}
use Rattle.std.proofs.lemmas.List.Sorted.{sum_by-IsPermutation, IsPermutation-map, All-permutation, IsPermutation-refl, IsPermutation-sym, IsPermutation-trans, IsPermutation-cons, IsPermutation-middle}
use Rattle.std.proofs.lemmas.Bool.{ltb-true, ltb-false}
use Rattle.std.proofs.lemmas.Bool.Decides.{nat_tests}
use Rattle.elf_types.specs.Lists.{AreBytes}
use Rattle.nm_tool.specs.declared.order.SymbolSortRow.{SymbolSortRow}
use Rattle.nm_tool.specs.Order.{SymbolEntry, entry_cmp, inserted, entries_in_order, IsOrderOf, OrderLaw}
use Rattle.nm_tool.specs.Keys.{prefix, as_entry, KeyIs}
use Rattle.elf_layout.proofs.Unique.{Rises, Rises-from_sorted, IsSorted-from_rises, unique}

-- ---- The order of entries

entry_cmp_total : IsTotalOrder entry_cmp
unfolding entry_cmp
entry_cmp_total =
    then_total (on_total (λ (e : SymbolEntry). e.value) nat_cmp_total)
    (then_total (on_total (λ (e : SymbolEntry). e.name) nat_list_cmp_total) (on_total (λ (e : SymbolEntry). e.index) nat_cmp_total))

then_equal : (r s : Ordering) → ordering_then r s ≡ Equal → (r ≡ Equal) × (s ≡ Equal)
then_equal Less s e = absurd (let h : Less ≡ Equal = e in cc)
then_equal Equal s e = (refl, e)
then_equal Greater s e = absurd (let h : Greater ≡ Equal = e in cc)

same_entry : (value value' : ℕ) (name name' : List ℕ) (index index' : ℕ) → value ≡ value' → name ≡ name' → index ≡ index'
    → ◌≡◌ {A = SymbolEntry} (record { value = value; name = name; index = index }) (record { value = value'; name = name'; index = index' })
same_entry value value' name name' index index' a b c = cc

entry_cmp_exact : (x y : SymbolEntry) → entry_cmp x y ≡ Equal → x ≡ y
unfolding entry_cmp
entry_cmp_exact x y e =
    let at = then_equal _ _ e in
    let rest = then_equal _ _ at.1 in
    same_entry _ _ _ _ _ _ (exact_unsigned x.value y.value at.0) (exact_bytes x.name y.name rest.0) (exact_unsigned x.index y.index rest.1)

-- ---- What the stated list keeps and gives

either_sum : (f : SymbolEntry → ℕ) (e g : SymbolEntry) (gs rest : List SymbolEntry) (b : Bool) → sum_by f rest ≡ f e + sum_by f gs → sum_by f (cond b (g ∷ rest) (e ∷ g ∷ gs)) ≡ f e + sum_by f (g ∷ gs)
either_sum f e g gs rest true is = omega (arith, sum_by-cons f g rest, sum_by-cons f g gs, is)
either_sum f e g gs rest false is = sum_by-cons f e (g ∷ gs)

sum_by-inserted : (f : SymbolEntry → ℕ) (e : SymbolEntry) (es : List SymbolEntry) → sum_by f (inserted e es) ≡ f e + sum_by f es
unfolding inserted
sum_by-inserted f e [] = sum_by-cons f e []
sum_by-inserted f e (g ∷ gs) = either_sum f e g gs (inserted e gs) (is_lt (entry_cmp g e)) (sum_by-inserted f e gs)

sum_by-in_order : (f : SymbolEntry → ℕ) (es : List SymbolEntry) → sum_by f (entries_in_order es) ≡ sum_by f es
unfolding entries_in_order
sum_by-in_order f [] = refl
sum_by-in_order f (e ∷ es) = omega (arith, sum_by-inserted f e (entries_in_order es), sum_by-cons f e es, sum_by-in_order f es)

-- no entry comes before another
abbrev NotBefore : SymbolEntry → SymbolEntry → Type 0
NotBefore x y = is_lt (entry_cmp y x) ≡ false

all_either : (P : SymbolEntry → Type 0) (e g : SymbolEntry) (gs rest : List SymbolEntry) (b : Bool) → P e → P g → AllByRecursion P gs → AllByRecursion P rest → AllByRecursion P (cond b (g ∷ rest) (e ∷ g ∷ gs))
all_either P e g gs rest true pe pg pgs prest = (pg, prest)
all_either P e g gs rest false pe pg pgs prest = (pe, (pg, pgs))

all_inserted : (P : SymbolEntry → Type 0) (e : SymbolEntry) (es : List SymbolEntry) → P e → AllByRecursion P es → AllByRecursion P (inserted e es)
unfolding inserted
all_inserted P e [] pe all = (pe, tt)
all_inserted P e (g ∷ gs) pe all = all_either P e g gs (inserted e gs) (is_lt (entry_cmp g e)) pe all.0 all.1 (all_inserted P e gs pe all.1)

pub all_in_order : (P : SymbolEntry → Type 0) (es : List SymbolEntry) → AllByRecursion P es
    → AllByRecursion P (entries_in_order es)
unfolding entries_in_order
all_in_order P [] all = tt
all_in_order P (e ∷ es) all = all_inserted P e (entries_in_order es) all.0 (all_in_order P es all.1)

lt_is : (r : Ordering) → is_lt r ≡ true → r ≡ Less
lt_is Less e = refl
lt_is Equal e = cc
lt_is Greater e = cc

reversed_not : (r s : Ordering) → r ≡ ordering_reverse s → r ≡ Less → is_lt s ≡ false
reversed_not Less Less e is = let h : Less ≡ Greater = e in cc
reversed_not Less Equal e is = refl
reversed_not Less Greater e is = refl
reversed_not Equal s e is = cc
reversed_not Greater s e is = cc

-- what does not come before one that does not come before a third does not come before that
not_before_trans : (x y z : SymbolEntry) → NotBefore x y → NotBefore y z → NotBefore x z
not_before_trans x y z h k = by_lt (is_lt (entry_cmp z x)) refl
  where
    o : IsTotalOrder entry_cmp
    o = entry_cmp_total

    by_cmp : (r : Ordering) → entry_cmp z y ≡ r → is_lt r ≡ false → entry_cmp z x ≡ Less → ⊥
    by_cmp Less is below less = cc
    by_cmp Equal is below less =
        let same = o.congr z y x is in
        let yx : entry_cmp y x ≡ Less = sym same ∙ less in
        let bad : is_lt (entry_cmp y x) ≡ true = ap is_lt yx in cc
    by_cmp Greater is below less =
        let yz : entry_cmp y z ≡ Less = o.antisymm y z ∙ ap ordering_reverse is in
        let yx : entry_cmp y x ≡ Less = o.trans y z x yz less in
        let bad : is_lt (entry_cmp y x) ≡ true = ap is_lt yx in cc

    by_lt : (b : Bool) → is_lt (entry_cmp z x) ≡ b → is_lt (entry_cmp z x) ≡ false
    by_lt false is = is
    by_lt true is = absurd (by_cmp (entry_cmp z y) refl k (lt_is _ is))

later_all : (e g : SymbolEntry) (gs : List SymbolEntry) → NotBefore e g → AllByRecursion (λ y. is_lt (entry_cmp y g) ≡ false) gs → AllByRecursion (λ y. is_lt (entry_cmp y e) ≡ false) gs
later_all e g [] h all = tt
later_all e g (x ∷ xs) h all = (not_before_trans e g x h all.0, later_all e g xs h all.1)

rises_either : (e g : SymbolEntry) (gs rest : List SymbolEntry) (b : Bool) → is_lt (entry_cmp g e) ≡ b → Rises entry_cmp (g ∷ gs) → Rises entry_cmp rest → (NotBefore g e → AllByRecursion (λ y. is_lt (entry_cmp y g) ≡ false) rest)
    → Rises entry_cmp (cond b (g ∷ rest) (e ∷ g ∷ gs))
rises_either e g gs rest true is rises more all = (all (reversed_not (entry_cmp g e) (entry_cmp e g) (entry_cmp_total.antisymm g e) (lt_is _ is)), more)
rises_either e g gs rest false is rises more all = ((is, later_all e g gs is rises.0), rises)

rises_inserted : (e : SymbolEntry) (es : List SymbolEntry) → Rises entry_cmp es → Rises entry_cmp (inserted e es)
unfolding inserted
rises_inserted e [] rises = (tt, tt)
rises_inserted e (g ∷ gs) rises =
    rises_either e g gs (inserted e gs) (is_lt (entry_cmp g e)) refl rises (rises_inserted e gs rises.1) (λ h. all_inserted (λ y. is_lt (entry_cmp y g) ≡ false) e gs h rises.0)

rises_in_order : (es : List SymbolEntry) → Rises entry_cmp (entries_in_order es)
unfolding entries_in_order
rises_in_order [] = tt
rises_in_order (e ∷ es) = rises_inserted e (entries_in_order es) (rises_in_order es)

-- ---- What a sort leaves

-- by an order that the entries of items follow
module _ {R : Type 0} (cmp : R → R → Ordering) (entry : R → SymbolEntry) (Good : R → Type 0)
    (follow : (x y : R) → Good x → Good y → is_lt (cmp y x) ≡ false
    → is_lt (entry_cmp (entry y) (entry x)) ≡ false) where
  later_entries : (x : R) (rs : List R) → Good x → AllByRecursion Good rs
      → AllByRecursion (λ y. is_lt (cmp y x) ≡ false) rs
      → AllByRecursion (λ e. is_lt (entry_cmp e (entry x)) ≡ false) (map entry rs)
  later_entries x [] kx keys all = tt
  later_entries x (y ∷ ys) kx keys all =
      (follow x y kx keys.0 all.0, later_entries x ys kx keys.1 all.1)

  rises_entries : (rs : List R) → AllByRecursion Good rs → Rises cmp rs
      → Rises entry_cmp (map entry rs)
  rises_entries [] keys rises = tt
  rises_entries (x ∷ xs) keys rises =
      (later_entries x xs keys.0 keys.1 rises.0, rises_entries xs keys.1 rises.1)

  pub sorted_by : IsTotalOrder cmp → (old new : List R) → All Good old → IsPermutation old new
      → IsSorted cmp new → map entry new ≡ entries_in_order (map entry old)
  sorted_by total old new keys moved sorted =
      unique entry_cmp entry_cmp_total entry_cmp_exact (map entry new) (entries_in_order (map entry old))
      (rises_entries new (recursion_from_All Good new (All-permutation Good old new moved keys))
      (Rises-from_sorted cmp total new sorted))
      (rises_in_order (map entry old))
      (λ f. sum_by-IsPermutation f (map entry old) (map entry new)
      (IsPermutation-map entry old new moved) ∙ sym (sum_by-in_order f (map entry old)))

-- both of two lists
pub both_all : (P : SymbolEntry → Type 0) (es fs : List SymbolEntry) → AllByRecursion P es
    → AllByRecursion P fs → AllByRecursion P (es ++ fs)
both_all P [] fs all more = more
both_all P (e ∷ es) fs all more = (all.0, both_all P es fs all.1 more)

-- no entry of one list comes after one of another
abbrev pub AreBefore : List SymbolEntry → List SymbolEntry → Type 0
AreBefore es fs =
    AllByRecursion (λ (e : SymbolEntry). AllByRecursion (λ (f : SymbolEntry). is_lt (entry_cmp f e) ≡ false) fs)
    es

each_before : (es fs : List SymbolEntry) → AreBefore es fs → AreBefore es (entries_in_order fs)
each_before [] fs all = tt
each_before (e ∷ es) fs all =
    (all_in_order (λ f. is_lt (entry_cmp f e) ≡ false) fs all.0, each_before es fs all.1)

rises_append : (es fs : List SymbolEntry) → Rises entry_cmp es → Rises entry_cmp fs → AreBefore es fs
    → Rises entry_cmp (es ++ fs)
rises_append [] fs rises more all = more
rises_append (e ∷ es) fs rises more all = (
  both_all (λ f. is_lt (entry_cmp f e) ≡ false) es fs rises.0 all.0,
  rises_append es fs rises.1 more all.1,
)

-- the order of two lists of which one stands before the other
pub in_order_append : (es fs : List SymbolEntry) → AreBefore es fs
    → entries_in_order (es ++ fs) ≡ entries_in_order es ++ entries_in_order fs
in_order_append es fs before =
    unique entry_cmp entry_cmp_total entry_cmp_exact (entries_in_order (es ++ fs))
    (entries_in_order es ++ entries_in_order fs) (rises_in_order (es ++ fs))
    (rises_append (entries_in_order es) (entries_in_order fs) (rises_in_order es) (rises_in_order fs)
    (all_in_order (λ (e : SymbolEntry). AllByRecursion (λ (f : SymbolEntry). is_lt (entry_cmp f e) ≡ false)
    (entries_in_order fs)) es (each_before es fs before)))
    (λ f. omega (
      arith,
      sum_by-in_order f (es ++ fs),
      sum_by-append f es fs,
      sum_by-append f (entries_in_order es) (entries_in_order fs),
      sum_by-in_order f es,
      sum_by-in_order f fs,
    ))

-- entries that are moved have one order
pub in_order_moved : (es fs : List SymbolEntry) → IsPermutation es fs → entries_in_order fs ≡ entries_in_order es
in_order_moved es fs moved =
    unique entry_cmp entry_cmp_total entry_cmp_exact (entries_in_order fs) (entries_in_order es)
    (rises_in_order fs) (rises_in_order es)
    (λ f. sum_by-in_order f fs ∙ sum_by-IsPermutation f es fs moved ∙ sym (sum_by-in_order f es))

-- ---- The keys of names

-- the first of two lists comes first, where they differ first at a place at which its byte is less
pub first_less : (n : ℕ) (a b : List ℕ) → ((i : ℕ) → i < n → slice_index_or a i 0 ≡ slice_index_or b i 0) → slice_index_or a n 0 < slice_index_or b n 0 → slice_cmp nat_cmp a b ≡ Less
first_less n [] [] same less = absurd (omega (arith, less))
first_less n [] (y ∷ ys) same less = refl
first_less zero (x ∷ xs) [] same less = absurd (omega (arith, less))
first_less (suc n) (x ∷ xs) [] same less = absurd (omega (arith, less))
first_less zero (x ∷ xs) (y ∷ ys) same less = let h : nat_cmp x y ≡ Less = grind (arith, nat_tests) in ap (λ (r : Ordering). ordering_then r (slice_cmp nat_cmp xs ys)) h
first_less (suc n) (x ∷ xs) (y ∷ ys) same less =
    let head : x ≡ y = same 0 (omega arith) in
    let h : nat_cmp x y ≡ Equal = grind (arith, nat_tests) in
    ap (λ (r : Ordering). ordering_then r (slice_cmp nat_cmp xs ys)) h
    ∙ first_less n xs ys (λ i lt. same (suc i) (omega arith)) less

pub byte_small : (a : List ℕ) (n : ℕ) → AllByRecursion (λ x. x < 2 ^ 8) a → slice_index_or a n 0 < 256
byte_small [] n all = omega arith
byte_small (x ∷ xs) zero all = all.0
byte_small (x ∷ xs) (suc n) all = byte_small xs n all.1

bytes_listed : (a : List ℕ) → AreBytes a → AllByRecursion (λ x. x < 2 ^ 8) a
bytes_listed a bytes = recursion_from_All (λ x. x < 2 ^ 8) a bytes

module _ (a b : List ℕ) (bytes_a : AllByRecursion (λ x. x < 2 ^ 8) a) (bytes_b : AllByRecursion (λ x. x < 2 ^ 8) b) where
  same_first : (n : ℕ) → prefix n a ≡ prefix n b → (i : ℕ) → i < n → slice_index_or a i 0 ≡ slice_index_or b i 0
  unfolding prefix
  same_first zero same i lt = absurd (omega (arith, lt))
  same_first (suc n) same i lt =
      let sa = byte_small a n bytes_a in
      let sb = byte_small b n bytes_b in
      let front : prefix n a ≡ prefix n b = omega (arith, same, sa, sb) in
      let last : slice_index_or a n 0 ≡ slice_index_or b n 0 = omega (arith, same, sa, sb) in
      by_place (nat_lt i n) refl front last (λ below. same_first n front i below)
    where
      by_place : (t : Bool) → nat_lt i n ≡ t → prefix n a ≡ prefix n b → slice_index_or a n 0 ≡ slice_index_or b n 0 → (i < n → slice_index_or a i 0 ≡ slice_index_or b i 0) → slice_index_or a i 0 ≡ slice_index_or b i 0
      by_place true is front last earlier = earlier (ltb-true i n is)
      by_place false is front last earlier = let past = ltb-false i n is in let at : i ≡ n = omega (arith, past, lt) in subst (λ (k : ℕ). slice_index_or a k 0 ≡ slice_index_or b k 0) (sym at) last

  less_first : (n : ℕ) → prefix n a < prefix n b → slice_cmp nat_cmp a b ≡ Less
  unfolding prefix
  less_first zero less = absurd (omega (arith, less))
  less_first (suc n) less = by_front (nat_lt (prefix n a) (prefix n b)) refl (λ below. less_first n below)
    where
      by_front : (t : Bool) → nat_lt (prefix n a) (prefix n b) ≡ t → (prefix n a < prefix n b → slice_cmp nat_cmp a b ≡ Less) → slice_cmp nat_cmp a b ≡ Less
      by_front true is earlier = earlier (ltb-true (prefix n a) (prefix n b) is)
      by_front false is earlier =
          let past = ltb-false (prefix n a) (prefix n b) is in
          let sa = byte_small a n bytes_a in
          let sb = byte_small b n bytes_b in
          let front : prefix n a ≡ prefix n b = omega (arith, past, less, sa, sb) in
          let last : slice_index_or a n 0 < slice_index_or b n 0 = omega (arith, front, less, sa, sb) in
          first_less n a b (same_first n front) last

-- ---- The order of rows

-- the derived order
abbrev pub row_cmp : SymbolSortRow → SymbolSortRow → Ordering
row_cmp r s = ordering_then (nat_cmp r.key s.key) (ordering_then (slice_cmp nat_cmp r.name.now s.name.now) (nat_cmp r.index s.index))

row_cmp_total : IsTotalOrder row_cmp
row_cmp_total =
    then_total (on_total (λ (r : SymbolSortRow). r.key) nat_cmp_total)
    (then_total (on_total (λ (r : SymbolSortRow). r.name.now) nat_list_cmp_total) (on_total (λ (r : SymbolSortRow). r.index) nat_cmp_total))

pub above_is : (x y : ℕ) → nat_cmp x y ≡ Greater → y < x
above_is x y e = grind (arith, nat_tests)

-- the order of the entries is that of the rows
weaker : (by_value : Bool) (x y : SymbolSortRow) → KeyIs by_value x → KeyIs by_value y → is_lt (row_cmp y x) ≡ false → is_lt (entry_cmp (as_entry by_value y) (as_entry by_value x)) ≡ false
unfolding entry_cmp as_entry
weaker true x y kx ky later = later
weaker false x y kx ky later = by_key (nat_cmp y.key x.key) refl later
  where
    rest : Ordering
    rest = ordering_then (slice_cmp nat_cmp y.name.now x.name.now) (nat_cmp y.index x.index)

    by_key : (r : Ordering) → nat_cmp y.key x.key ≡ r → is_lt (ordering_then r rest) ≡ false → is_lt rest ≡ false
    by_key Less is bad = cc
    by_key Equal is same = same
    by_key Greater is above =
        let less : prefix 16 x.name.now < prefix 16 y.name.now = subst (λ (n : ℕ). n < prefix 16 y.name.now) (kx.key refl) (subst (λ (n : ℕ). x.key < n) (ky.key refl) (above_is y.key x.key is)) in
        let first = less_first x.name.now y.name.now (bytes_listed x.name.now kx.bytes) (bytes_listed y.name.now ky.bytes) 16 less in
        let back : slice_cmp nat_cmp y.name.now x.name.now ≡ Greater = nat_list_cmp_total.antisymm y.name.now x.name.now ∙ ap ordering_reverse first in
        ap (λ (r : Ordering). is_lt (ordering_then r (nat_cmp y.index x.index))) back

-- what the sort leaves
pub sorted_rows : (by_value : Bool) (old new : List SymbolSortRow) → All (KeyIs by_value) old → IsPermutation old new → IsSorted row_cmp new → map (as_entry by_value) new ≡ entries_in_order (map (as_entry by_value) old)
sorted_rows by_value old new keys moved sorted =
    sorted_by row_cmp (as_entry by_value) (KeyIs by_value) (weaker by_value) row_cmp_total old new keys moved sorted

-- ---- The law of the order

either_moved : (e g : SymbolEntry) (gs rest : List SymbolEntry) (b : Bool) → IsPermutation (e ∷ gs) rest → IsPermutation (e ∷ g ∷ gs) (cond b (g ∷ rest) (e ∷ g ∷ gs))
either_moved e g gs rest true moved =
    IsPermutation-trans (e ∷ g ∷ gs) (g ∷ e ∷ gs) (g ∷ rest)
    (IsPermutation-sym (g ∷ e ∷ gs) (e ∷ g ∷ gs) (IsPermutation-middle (g ∷ []) e gs))
    (IsPermutation-cons g (e ∷ gs) rest moved)
either_moved e g gs rest false moved = IsPermutation-refl (e ∷ g ∷ gs)

moved_inserted : (e : SymbolEntry) (es : List SymbolEntry) → IsPermutation (e ∷ es) (inserted e es)
unfolding inserted
moved_inserted e [] = IsPermutation-refl (e ∷ [])
moved_inserted e (g ∷ gs) = either_moved e g gs (inserted e gs) (is_lt (entry_cmp g e)) (moved_inserted e gs)

moved_in_order : (es : List SymbolEntry) → IsPermutation es (entries_in_order es)
unfolding entries_in_order
moved_in_order [] = IsPermutation-refl []
moved_in_order (e ∷ es) =
    IsPermutation-trans (e ∷ es) (e ∷ entries_in_order es) (inserted e (entries_in_order es))
    (IsPermutation-cons e es (entries_in_order es) (moved_in_order es))
    (moved_inserted e (entries_in_order es))

sorted_in_order : (es : List SymbolEntry) → IsSorted entry_cmp (entries_in_order es)
sorted_in_order es = IsSorted-from_rises entry_cmp (entries_in_order es) (rises_in_order es)

only_in_order : (es fs : List SymbolEntry) → IsOrderOf es fs → fs ≡ entries_in_order es
only_in_order es fs is =
    unique entry_cmp entry_cmp_total entry_cmp_exact fs (entries_in_order es)
    (Rises-from_sorted entry_cmp entry_cmp_total fs is.sorted)
    (rises_in_order es)
    (λ f. sum_by-IsPermutation f es fs is.moved ∙ sym (sum_by-in_order f es))

pub order_law : OrderLaw
order_law = record { is = λ es. record { moved = moved_in_order es; sorted = sorted_in_order es }; only = only_in_order }
