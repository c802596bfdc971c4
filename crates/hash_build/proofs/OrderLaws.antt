-- The order of symbols by bucket: what a sort of rows leaves is the list that is stated.
use Rattle.std.proofs.Common.{◌≡◌, ◌+◌, ◌%◌, ◌<◌, ◌≤◌, ◌⊎◌, ℕ, zero, suc, zero-add, Bool, true, false, cond, nat_eq, nat_le, nat_cmp, Ordering, List, [], ◌∷◌, ◌++◌, length, get_or, map, Option, None, Result, Ok, Err, refl, sym, ap, ◌∙◌, subst, inl, inr, arith}
use Rattle.std.specs.Prelude.{IfOk}
use Rattle.std.specs.Bool.{⊤}
use Rattle.std.specs.Option.{option_map}
use Rattle.std.specs.Ordering.{is_lt, ordering_then}
use Rattle.std.specs.declared.cmp.Ordering.TheVariants.{Less, Equal, Greater}
use Rattle.std.specs.Cmp.{IsTotalOrder}
use Rattle.std.specs.List.{AllByRecursion, range_with_len, sum_by}
use Rattle.std.specs.List.Sorted.{IsSorted, IsPermutation}
use Rattle.std.proofs.lemmas.Cmp.{nat_cmp_total, then_total, on_total}
use Rattle.std.proofs.lemmas.Map.Lookups.{exact_unsigned}
use Rattle.std.proofs.lemmas.List.{length-map, map-id}
use Rattle.std.proofs.lemmas.List.FromFn.{length-range_with_len, map-range_with_len_more}
use Rattle.std.proofs.lemmas.List.Sorted.{sum_by-IsPermutation}
use Rattle.std.proofs.lemmas.List.Sums.{sum_by-cons}
use Rattle.std.proofs.lemmas.Simd.{map-map}
use Rattle.std.proofs.lemmas.Bool.{cases_eq, eq-eqb, ne_eqb, le-leb, leb-true, leb-false}
use Rattle.std.proofs.lemmas.Bool.Decides.{nat_tests}
use Rattle.elf_layout.specs.Meeting.{inserted_by, sorted_by}
use Rattle.elf_layout.proofs.Unique.{Rises, Rises-from_sorted, unique}
use Rattle.elf_types.specs.Answers.{answered}
use Rattle.elf_types.specs.declared.errors.ElfError.{ElfError}
use Rattle.symbol_lookup.specs.elf_object.Object.{Object}
use Rattle.symbol_lookup.specs.hash_model.BuiltHashes.{buckets_of, order_key, gnu_order_of, gnu_order_answer, hash_refusal}
use Rattle.symbol_lookup.specs.hash_model.Listed.{listed_names}
use Rattle.hash_build.specs.declared.hashing.Hashing.TheVariants.{Gnu}
use Rattle.hash_build.specs.declared.order.Row.{Row}
use Rattle.hash_build.specs.Hashed.{hash_with, listed_hashes, buckets_by}
use Rattle.hash_build.specs.Rows.{row_at, bucket_rows, sorted_rows, order_by, IsOrder}
use Rattle.hash_build.proofs.RangeLaws.{bucket_at, buckets_long}
use Rattle.hash_build.proofs.SysvLaws.{buckets_same}

-- ---- The rows

pub rows_more : (nbuckets i : ℕ) (hashes : List (Option ℕ)) (rows rows' : List Row)
    (hash bucket : Option ℕ) (key : ℕ) → hash ≡ get_or hashes i None
    → bucket ≡ option_map (λ h. h % nbuckets) hash → key ≡ order_key bucket
    → rows ≡ map (row_at (buckets_by nbuckets hashes)) (range_with_len 0 i)
    → rows' ≡ rows ++ record { key = key; index = i } ∷ []
    → rows' ≡ map (row_at (buckets_by nbuckets hashes)) (range_with_len 0 (i + 1))
rows_more nbuckets i hashes rows rows' hash bucket key hash_is bucket_is key_is so_far is =
    let all = buckets_by nbuckets hashes in
    let stands : bucket ≡ get_or (buckets_by nbuckets hashes) i None =
    bucket_is ∙ ap (option_map (λ (h : ℕ). h % nbuckets)) hash_is
    ∙ sym (bucket_at nbuckets hashes i) in
    is ∙ ap (λ (l : List Row). l ++ record { key = key; index = i } ∷ []) so_far
    ∙ ap (λ (k : ℕ). map (row_at all) (range_with_len 0 i) ++ record { key = k; index = i } ∷ [])
    (key_is ∙ ap order_key stands)
    ∙ sym (map-range_with_len_more (row_at all) 0 i i (let same : 0 + i ≡ i = omega arith in same))

pub rows_all : (nbuckets count : ℕ) (hashes : List (Option ℕ)) (rows : List Row) (i : ℕ)
    → count ≡ length hashes → count ≤ i → i ≤ count
    → rows ≡ map (row_at (buckets_by nbuckets hashes)) (range_with_len 0 i)
    → rows ≡ bucket_rows (buckets_by nbuckets hashes)
unfolding bucket_rows
rows_all nbuckets count hashes rows i all past within is =
    is ∙ ap (λ (k : ℕ). map (row_at (buckets_by nbuckets hashes)) (range_with_len 0 k))
    (let long : i ≡ length (buckets_by nbuckets hashes) =
    omega (arith, all, past, within, buckets_long nbuckets hashes) in long)

-- ---- A stable sort by a key

module _ {X : Type 0} (key : X → ℕ) where
  sum_by-inserted_by : (f : X → ℕ) (x : X) (xs : List X)
      → sum_by f (inserted_by key x xs) ≡ f x + sum_by f xs
  sum_by-inserted_by f x [] = sum_by-cons f x []
  sum_by-inserted_by f x (y ∷ ys) =
      elim (nat_le (key x) (key y)) as (λ b.
      sum_by f (cond b (x ∷ y ∷ ys) (y ∷ inserted_by key x ys)) ≡ f x + sum_by f (y ∷ ys)) [
        | true ↦ sum_by-cons f x (y ∷ ys)
        | false ↦ omega (
          arith,
          sum_by-cons f y (inserted_by key x ys),
          sum_by-cons f y ys,
          sum_by-inserted_by f x ys,
        )
      ]

  sum_by-sorted_by : (f : X → ℕ) (xs : List X) → sum_by f (sorted_by key xs) ≡ sum_by f xs
  sum_by-sorted_by f [] = refl
  sum_by-sorted_by f (x ∷ xs) =
      omega (
        arith,
        sum_by-inserted_by f x (sorted_by key xs),
        sum_by-cons f x xs,
        sum_by-sorted_by f xs,
      )

  all-inserted_by : (P : X → Type 0) (x : X) (xs : List X) → P x → AllByRecursion P xs
      → AllByRecursion P (inserted_by key x xs)
  all-inserted_by P x [] here all = (here, tt)
  all-inserted_by P x (y ∷ ys) here all =
      elim (nat_le (key x) (key y)) as (λ b.
      AllByRecursion P (cond b (x ∷ y ∷ ys) (y ∷ inserted_by key x ys))) [
        | true ↦ (here, all)
        | false ↦ (all.0, all-inserted_by P x ys here all.1)
      ]

  all-sorted_by : (P : X → Type 0) (xs : List X) → AllByRecursion P xs
      → AllByRecursion P (sorted_by key xs)
  all-sorted_by P [] all = tt
  all-sorted_by P (x ∷ xs) all =
      all-inserted_by P x (sorted_by key xs) all.0 (all-sorted_by P xs all.1)

  length-inserted_by : (x : X) (xs : List X) → length (inserted_by key x xs) ≡ suc (length xs)
  length-inserted_by x [] = refl
  length-inserted_by x (y ∷ ys) =
      elim (nat_le (key x) (key y)) as (λ b.
      length (cond b (x ∷ y ∷ ys) (y ∷ inserted_by key x ys)) ≡ suc (suc (length ys))) [
        | true ↦ refl
        | false ↦ ap suc (length-inserted_by x ys)
      ]

  length-sorted_by : (xs : List X) → length (sorted_by key xs) ≡ length xs
  length-sorted_by [] = refl
  length-sorted_by (x ∷ xs) =
      length-inserted_by x (sorted_by key xs) ∙ ap suc (length-sorted_by xs)

all_both : {X : Type 0} (P Q R : X → Type 0) → ((x : X) → P x → Q x → R x) → (xs : List X)
    → AllByRecursion P xs → AllByRecursion Q xs → AllByRecursion R xs
all_both P Q R both [] all all' = tt
all_both P Q R both (x ∷ xs) all all' =
    (both x all.0 all'.0, all_both P Q R both xs all.1 all'.1)

map-inserted_by : {X Y : Type 0} (g : X → Y) (key : Y → ℕ) (x : X) (xs : List X)
    → map g (inserted_by (λ z. key (g z)) x xs) ≡ inserted_by key (g x) (map g xs)
map-inserted_by g key x [] = refl
map-inserted_by g key x (y ∷ ys) =
    elim (nat_le (key (g x)) (key (g y))) as (λ b.
    map g (cond b (x ∷ y ∷ ys) (y ∷ inserted_by (λ z. key (g z)) x ys))
    ≡ cond b (g x ∷ g y ∷ map g ys) (g y ∷ inserted_by key (g x) (map g ys))) [
      | true ↦ refl
      | false ↦ ap (λ zs. g y ∷ zs) (map-inserted_by g key x ys)
    ]

-- the key alone decides the order
map-sorted_by : {X Y : Type 0} (g : X → Y) (key : Y → ℕ) (xs : List X)
    → map g (sorted_by (λ z. key (g z)) xs) ≡ sorted_by key (map g xs)
map-sorted_by g key [] = refl
map-sorted_by g key (x ∷ xs) =
    map-inserted_by g key x (sorted_by (λ z. key (g z)) xs)
    ∙ ap (λ zs. inserted_by key (g x) zs) (map-sorted_by g key xs)

-- ---- The order of rows

-- the derived order
abbrev pub row_cmp : Row → Row → Ordering
row_cmp x y = ordering_then (nat_cmp x.key y.key) (nat_cmp x.index y.index)

row_cmp_total : IsTotalOrder row_cmp
row_cmp_total =
    then_total (on_total (λ (r : Row). r.key) nat_cmp_total)
    (on_total (λ (r : Row). r.index) nat_cmp_total)

then_equal : (r s : Ordering) → ordering_then r s ≡ Equal → (r ≡ Equal) × (s ≡ Equal)
then_equal Less s e = absurd (let h : Less ≡ Equal = e in cc)
then_equal Equal s e = (refl, e)
then_equal Greater s e = absurd (let h : Greater ≡ Equal = e in cc)

same_row : (key key' index index' : ℕ) → key ≡ key' → index ≡ index'
    → ◌≡◌ {A = Row} (record { key = key; index = index }) (record { key = key'; index = index' })
same_row key key' index index' same_key same_index = cc

row_cmp_exact : (x y : Row) → row_cmp x y ≡ Equal → x ≡ y
row_cmp_exact x y e =
    let parts = then_equal _ _ e in
    same_row _ _ _ _ (exact_unsigned x.key y.key parts.0) (exact_unsigned x.index y.index parts.1)

-- what the order tells of keys and indexes
key_above : (x y : Row) → y.key < x.key → is_lt (row_cmp x y) ≡ false
key_above x y above = grind (arith, nat_tests)

index_above : (x y : Row) → y.key ≤ x.key → y.index < x.index → is_lt (row_cmp x y) ≡ false
index_above x y above indexes = grind (arith, nat_tests)

key_from : (x y : Row) → is_lt (row_cmp x y) ≡ false → y.key ≤ x.key
key_from x y e = grind (arith, nat_tests)

rises_either : (e f : Row) (es : List Row) → AllByRecursion (λ g. e.index < g.index) (f ∷ es)
    → Rises row_cmp (f ∷ es) → Rises row_cmp (inserted_by (λ g. g.key) e es) → (b : Bool)
    → (b ≡ true → e.key ≤ f.key) → (b ≡ false → f.key < e.key)
    → Rises row_cmp (cond b (e ∷ f ∷ es) (f ∷ inserted_by (λ g. g.key) e es))
rises_either e f es indexes rises rest true below above =
    let first : e.key ≤ f.key = below refl in (
      (
        index_above f e first indexes.0,
        all_both (λ g. is_lt (row_cmp g f) ≡ false) (λ g. e.index < g.index)
            (λ g. is_lt (row_cmp g e) ≡ false)
            (λ g later index. let second : f.key ≤ g.key = key_from g f later in
            index_above g e (omega arith) index) es rises.0 indexes.1,
      ),
      rises,
    )
rises_either e f es indexes rises rest false below above = (
  all-inserted_by (λ (g : Row). g.key) (λ g. is_lt (row_cmp g f) ≡ false) e es
      (key_above e f (above refl)) rises.0,
  rest,
)

rises-inserted_by : (e : Row) (es : List Row) → AllByRecursion (λ g. e.index < g.index) es
    → Rises row_cmp es → Rises row_cmp (inserted_by (λ g. g.key) e es)
rises-inserted_by e [] indexes rises = (tt, tt)
rises-inserted_by e (f ∷ es) indexes rises =
    rises_either e f es indexes rises (rises-inserted_by e es indexes.1 rises.1)
    (nat_le e.key f.key) (leb-true e.key f.key) (leb-false e.key f.key)

-- rows in the order of their indexes
abbrev Ascends : List Row → Type 0
Ascends [] = ⊤
Ascends (e ∷ es) = AllByRecursion (λ f. e.index < f.index) es × Ascends es

rises-sorted_by : (es : List Row) → Ascends es → Rises row_cmp (sorted_by (λ e. e.key) es)
rises-sorted_by [] ascends = tt
rises-sorted_by (e ∷ es) ascends =
    rises-inserted_by e (sorted_by (λ f. f.key) es)
    (all-sorted_by (λ (f : Row). f.key) (λ f. e.index < f.index) es ascends.0)
    (rises-sorted_by es ascends.1)

indexes_from : (buckets : List (Option ℕ)) (least a n : ℕ) → least < a
    → AllByRecursion (λ r. least < r.index) (map (row_at buckets) (range_with_len a n))
indexes_from buckets least a zero above = tt
indexes_from buckets least a (suc n) above =
    (above, indexes_from buckets least (a + 1) n (omega arith))

ascends_from : (buckets : List (Option ℕ)) (a n : ℕ)
    → Ascends (map (row_at buckets) (range_with_len a n))
ascends_from buckets a zero = tt
ascends_from buckets a (suc n) =
    (indexes_from buckets a (a + 1) n (omega arith), ascends_from buckets (a + 1) n)

-- what the sort leaves
pub sorted_given : (buckets : List (Option ℕ)) (given rows : List Row) → given ≡ bucket_rows buckets
    → IsPermutation given rows → IsSorted row_cmp rows → rows ≡ sorted_rows buckets
unfolding bucket_rows sorted_rows
sorted_given buckets given rows is moved sorted =
    let all = map (row_at buckets) (range_with_len 0 (length buckets)) in
    unique row_cmp row_cmp_total row_cmp_exact rows (sorted_by (λ r. r.key) all)
    (Rises-from_sorted row_cmp row_cmp_total rows sorted)
    (rises-sorted_by all (ascends_from buckets 0 (length buckets)))
    (λ f. sum_by-IsPermutation f given rows moved ∙ ap (sum_by f) is
    ∙ sym (sum_by-sorted_by (λ (r : Row). r.key) f all))

-- their indexes are the order
pub order_is : (buckets : List (Option ℕ))
    → map (λ (r : Row). r.index) (sorted_rows buckets) ≡ order_by buckets
unfolding sorted_rows bucket_rows order_by
order_is buckets =
    let numbers = range_with_len 0 (length buckets) in
    let sorted : List ℕ = sorted_by (λ i. order_key (get_or buckets i None)) numbers in
    ap (map (λ (r : Row). r.index))
    (sym (map-sorted_by (row_at buckets) (λ (r : Row). r.key) numbers))
    ∙ map-map (λ (r : Row). r.index) (row_at buckets) sorted
    ∙ map-id sorted

pub order_given : (buckets : List (Option ℕ)) (rows seen : List Row) (r : Result (List ℕ) ElfError)
    → rows ≡ sorted_rows buckets → seen ≡ rows
    → IfOk r (λ order. order ≡ map (λ (x : Row). x.index) seen)
    → IfOk r (λ order. order ≡ order_by buckets)
order_given buckets rows seen (Err e) are same is = tt
order_given buckets rows seen (Ok order) are same is =
    is ∙ ap (map (λ (x : Row). x.index)) (same ∙ are) ∙ order_is buckets

-- ---- By the names

abbrev buckets_named : ℕ → List (Option (List ℕ)) → List (Option ℕ)
buckets_named nbuckets names = buckets_of (hash_with Gnu) nbuckets names

named_long : (nbuckets : ℕ) (names : List (Option (List ℕ)))
    → length (buckets_named nbuckets names) ≡ length names
unfolding buckets_of
named_long nbuckets names =
    length-map names (option_map (λ name. hash_with Gnu name % nbuckets))

pub order_same : (o : Object) (s nbuckets : ℕ)
    → order_by (buckets_by nbuckets (listed_hashes Gnu o s))
    ≡ gnu_order_of nbuckets (listed_names o s)
unfolding order_by gnu_order_of listed_hashes
order_same o s nbuckets =
    let names = listed_names o s in
    ap (λ (b : List (Option ℕ)).
    sorted_by (λ i. order_key (get_or b i None)) (range_with_len 0 (length b)))
    (buckets_same (hash_with Gnu) nbuckets names)
    ∙ ap (λ (n : ℕ). sorted_by (λ i. order_key (get_or (buckets_named nbuckets names) i None))
    (range_with_len 0 n)) (named_long nbuckets names)

pub order_told : (o : Object) (s nbuckets : ℕ) (hashes : List (Option ℕ))
    (r : Result (List ℕ) ElfError) → hashes ≡ listed_hashes Gnu o s
    → IfOk r (λ order. order ≡ order_by (buckets_by nbuckets hashes))
    → IfOk r (λ order. order ≡ gnu_order_of nbuckets (listed_names o s))
order_told o s nbuckets hashes (Err e) are is = tt
order_told o s nbuckets hashes (Ok order) are is =
    is ∙ ap (λ (l : List (Option ℕ)). order_by (buckets_by nbuckets l)) are
    ∙ order_same o s nbuckets

-- ---- Each index once

-- 1 for a number, and 0 for the others
abbrev one : ℕ → ℕ → ℕ
one i x = cond (nat_eq i x) 1 0

none_above : (i a n : ℕ) → i < a → sum_by (one i) (range_with_len a n) ≡ 0
none_above i a zero above = refl
none_above i a (suc n) above =
    sum_by-cons (one i) a (range_with_len (a + 1) n)
    ∙ ap (λ (b : Bool). cond b 1 0 + sum_by (one i) (range_with_len (a + 1) n))
    (ne_eqb i a (λ same. absurd (omega (arith, same, above))))
    ∙ zero-add (sum_by (one i) (range_with_len (a + 1) n)) ∙ none_above i (a + 1) n (omega arith)

once_within : (i a n : ℕ) → a ≤ i → i < a + n → sum_by (one i) (range_with_len a n) ≡ 1
once_within i a zero from below = absurd (omega (arith, from, below))
once_within i a (suc n) from below =
    sum_by-cons (one i) a (range_with_len (a + 1) n)
    ∙ by (λ other. once_within i (a + 1) n (omega (arith, from, other)) (omega (arith, below)))
    (cases_eq i a)
  where
    by : ((i ≡ a → ⊥) → sum_by (one i) (range_with_len (a + 1) n) ≡ 1)
        → (i ≡ a) ⊎ (i ≡ a → ⊥) → one i a + sum_by (one i) (range_with_len (a + 1) n) ≡ 1
    by later (inl same) =
        ap (λ (b : Bool). cond b 1 0 + sum_by (one i) (range_with_len (a + 1) n))
        (eq-eqb i a same)
        ∙ ap (λ (k : ℕ). 1 + k) (none_above i (a + 1) n (omega (arith, same)))
    by later (inr other) =
        ap (λ (b : Bool). cond b 1 0 + sum_by (one i) (range_with_len (a + 1) n))
        (ne_eqb i a other)
        ∙ zero-add (sum_by (one i) (range_with_len (a + 1) n)) ∙ later other

all_at : (P : ℕ → Type 0) (xs : List ℕ) (k d : ℕ) → k < length xs → AllByRecursion P xs
    → P (get_or xs k d)
all_at P [] k d within all = absurd (omega (arith, within))
all_at P (x ∷ xs) zero d within all = all.0
all_at P (x ∷ xs) (suc k) d within all = all_at P xs k d (omega (arith, within)) all.1

all_within : (a n m : ℕ) → a + n ≤ m → AllByRecursion (λ x. x < m) (range_with_len a n)
all_within a zero m within = tt
all_within a (suc n) m within =
    (omega (arith, within), all_within (a + 1) n m (omega (arith, within)))

first_kept : (key : ℕ → ℕ) (x : ℕ) (xs : List ℕ) → key x ≡ 0
    → get_or (inserted_by key x xs) 0 0 ≡ x
first_kept key x [] least = refl
first_kept key x (y ∷ ys) least =
    ap (λ (b : Bool). get_or (cond b (x ∷ y ∷ ys) (y ∷ inserted_by key x ys)) 0 0)
    (le-leb (key x) (key y) (omega (arith, least)))

begins_with : (key : ℕ → ℕ) (n : ℕ) → key 0 ≡ 0
    → get_or (sorted_by key (range_with_len 0 n)) 0 0 ≡ 0
begins_with key zero least = refl
begins_with key (suc n) least = first_kept key 0 (sorted_by key (range_with_len 1 n)) least

pub whole_order : (key : ℕ → ℕ) (n : ℕ) → key 0 ≡ 0 → IsOrder (sorted_by key (range_with_len 0 n)) n
whole_order key n least =
    let long : length (sorted_by key (range_with_len 0 n)) ≡ n =
    length-sorted_by key (range_with_len 0 n) ∙ length-range_with_len 0 n in
    record {
      long = long;
      once = λ i below.
          sum_by-sorted_by key (one i) (range_with_len 0 n)
          ∙ once_within i 0 n (omega arith) (omega (arith, below));
      below = λ k within.
          all_at (λ x. x < n) (sorted_by key (range_with_len 0 n)) k 0
          (omega (arith, within, long))
          (all-sorted_by key (λ x. x < n) (range_with_len 0 n)
          (all_within 0 n n (omega arith)));
      begins = begins_with key n least;
    }

pub order_whole : (nbuckets count all : ℕ) (hashes : List (Option ℕ))
    (r : Result (List ℕ) ElfError) → length hashes ≡ count → count ≡ all
    → get_or hashes 0 None ≡ None
    → IfOk r (λ order. order ≡ order_by (buckets_by nbuckets hashes))
    → IfOk r (λ order. IsOrder order all)
unfolding order_by
order_whole nbuckets count all hashes (Err e) long is_all first is = tt
order_whole nbuckets count all hashes (Ok order) long is_all first is =
    subst (λ (l : List ℕ). IsOrder l all) (sym is)
    (subst (λ (n : ℕ). IsOrder (sorted_by
    (λ i. order_key (get_or (buckets_by nbuckets hashes) i None))
    (range_with_len 0 (length (buckets_by nbuckets hashes)))) n)
    (buckets_long nbuckets hashes ∙ long ∙ is_all)
    (whole_order (λ i. order_key (get_or (buckets_by nbuckets hashes) i None))
    (length (buckets_by nbuckets hashes))
    (ap order_key (bucket_at nbuckets hashes 0
    ∙ ap (option_map (λ (h : ℕ). h % nbuckets)) first))))

pub order_stated : (o : Object) (s nbuckets : ℕ) → gnu_order_answer o s nbuckets
    ≡ answered (hash_refusal o s) (gnu_order_of nbuckets (listed_names o s))
unfolding gnu_order_answer
order_stated o s nbuckets = refl
