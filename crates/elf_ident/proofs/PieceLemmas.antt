-- A table of section headers that is read in pieces, one behind the other.
use Rattle.std.proofs.Common.{◌≡◌, ◌+◌, ◌-◌, ◌*◌, ◌≤◌, ℕ, zero, suc, List, [], ◌∷◌, ◌++◌, length, take, drop, map, Option, Some, None, IfSome, Result, Ok, Err, refl, sym, ap, subst, ◌∙◌, arith}
use Rattle.std.specs.Prelude.{◌/◌, IsTrue, OnOk, IfErr}
use Rattle.std.specs.List.{All, range_with_len}
use Rattle.std.proofs.Math.Nat.{add-mul}
use Rattle.std.proofs.lemmas.Nat.{row_fits, mul-le}
use Rattle.std.proofs.lemmas.List.{append-nil, append_assoc, length-append, length-drop, length-take, drop-drop, drop-take, take-take}
use Rattle.std.proofs.lemmas.List.FromFn.{length-map-range_with_len, get_or-map-range_with_len, fill_by_all}
use Rattle.std.proofs.lemmas.List.Elements.{All-nil, All-cons, All-append}
use Rattle.elf_types.specs.declared.records.Class.{Class}
use Rattle.elf_types.specs.declared.records.Ehdr.{Ehdr}
use Rattle.elf_types.specs.declared.records.Shdr.{Shdr}
use Rattle.elf_types.specs.declared.errors.ElfError.{ElfError}
use Rattle.elf_types.specs.declared.errors.ElfError.TheVariants.{Memory}
use Rattle.elf_outside.specs.Asks.{Asks, ReadRose}
use Rattle.elf_outside.specs.declared.sources.Source.{Ghosts}
use Rattle.elf_outside.proofs.AskLemmas.{asks_both, asks_fewer, asks_then}
use Rattle.elf_xlate.specs.Headers.{shdr_size, shdr_of, shdr_fits, IsShdr}
use Rattle.elf_xlate.specs.Translation.{items_of}
use Rattle.elf_xlate.proofs.Pieces.{items_of_none, items_of_more}
use Rattle.elf_ident.specs.Front.{shdrs_at}
use Rattle.elf_ident.specs.Reading.{IsShdrTable}
use Rattle.elf_ident.proofs.TableLemmas.{shdr_size_some, entries_count, told_same}

-- ---- Items of one size

module _ {X : Type 0} (item : List ℕ → X) (size : ℕ) where
  -- an item of a front that has its bytes
  front_item : (k m : ℕ) (bytes : List ℕ) → k * size + size ≤ m
      → take size (drop (k * size) (take m bytes)) ≡ take size (drop (k * size) bytes)
  front_item k m bytes fits =
      let split : m ≡ k * size + (m - k * size) = omega (arith, fits) in
      ap (λ (n : ℕ). take size (drop (k * size) (take n bytes))) split
      ∙ ap (take size) (drop-take (k * size) (m - k * size) bytes)
      ∙ take-take size (m - k * size) (drop (k * size) bytes) (omega (arith, fits))

  -- those of a front that has their bytes
  items_front : (n m : ℕ) (bytes : List ℕ) → n * size ≤ m
      → items_of item size n (take m bytes) ≡ items_of item size n bytes
  unfolding items_of
  items_front n m bytes within =
      let cut : ℕ → X = λ i. item (take size (drop (i * size) (take m bytes))) in
      let whole : ℕ → X = λ i. item (take size (drop (i * size) bytes)) in
      fill_by_all whole (map cut (range_with_len 0 n)) n (item [])
      (length-map-range_with_len cut 0 n)
      (λ k low. get_or-map-range_with_len cut 0 n k k (item []) low (omega arith)
      ∙ ap item (front_item k m bytes
      (let fits = row_fits k size n size low (omega arith) in omega (arith, fits, within))))

  -- the first ones, and those behind them
  items_joined : (a n : ℕ) (bytes : List ℕ)
      → items_of item size (a + n) bytes
      ≡ items_of item size a bytes ++ items_of item size n (drop (a * size) bytes)
  items_joined a zero bytes =
      let all : a + zero ≡ a = omega arith in
      ap (λ (k : ℕ). items_of item size k bytes) all
      ∙ sym (append-nil (items_of item size a bytes))
      ∙ ap (λ (l : List X). items_of item size a bytes ++ l)
      (sym (items_of_none item size (drop (a * size) bytes)))
  items_joined a (suc n) bytes =
      let all : a + suc n ≡ a + n + 1 = omega arith in
      let one : n + 1 ≡ suc n = omega arith in
      let behind = drop (a * size) bytes in
      let place : drop ((a + n) * size) bytes ≡ drop (n * size) behind =
      ap (λ (m : ℕ). drop m bytes) (add-mul a n size) ∙ sym (drop-drop (n * size) (a * size) bytes)
      in
      ap (λ (k : ℕ). items_of item size k bytes) all
      ∙ items_of_more item size (a + n) bytes
      ∙ ap (λ (l : List X). l ++ item (take size (drop ((a + n) * size) bytes)) ∷ [])
      (items_joined a n bytes)
      ∙ append_assoc (items_of item size a bytes) (items_of item size n behind)
      (item (take size (drop ((a + n) * size) bytes)) ∷ [])
      ∙ ap (λ (l : List X). items_of item size a bytes ++ l)
      (ap (λ (b : List ℕ). items_of item size n behind ++ item (take size b) ∷ []) place
      ∙ sym (items_of_more item size n behind)
      ∙ ap (λ (k : ℕ). items_of item size k behind) one)

-- ---- The section headers of a piece

-- they stand behind the others
table_longer : (class : Class) (n k : ℕ) (old piece : List Shdr) → length piece ≡ k
    → All IsShdr piece → All (λ h. IsTrue (shdr_fits class h)) piece
    → IsShdrTable class n old → IsShdrTable class (n + k) (old ++ piece)
table_longer class n k old piece count range fits table = record {
  counted = let all = length-append old piece in omega (arith, all, count, table.counted);
  range = All-append IsShdr old piece table.range range;
  fitting = All-append (λ h. IsTrue (shdr_fits class h)) old piece table.fitting fits;
}

-- so many of those in some bytes were appended
pub record AreAdded (h : Ehdr) (i : ℕ) (bytes : List ℕ) (old new : List Shdr) : Type 0 where
  pub value : new ≡ old ++ items_of (shdr_of h.class h.order) (shdr_size h.class) i bytes
  pub table : (n : ℕ) → IsShdrTable h.class n old → IsShdrTable h.class (n + i) new

pub none_added : (h : Ehdr) (bytes : List ℕ) (l : List Shdr) → AreAdded h 0 bytes l l
none_added h bytes l = record {
  value =
      sym (append-nil l)
      ∙ ap (λ (m : List Shdr). l ++ m)
      (sym (items_of_none (shdr_of h.class h.order) (shdr_size h.class) bytes));
  table = λ n table. subst (λ (k : ℕ). IsShdrTable h.class k l) (omega arith) table;
}

-- and one more
pub one_added : (h : Ehdr) (i s w : ℕ) (bytes : List ℕ) (old new next : List Shdr) (x : Shdr)
    → AreAdded h i bytes old new → next ≡ new ++ x ∷ [] → s ≡ shdr_size h.class → w ≡ s
    → x ≡ shdr_of h.class h.order (take w (drop (i * s) bytes)) → IsShdr x
    → IsTrue (shdr_fits h.class x) → AreAdded h (i + 1) bytes old next
one_added h i s w bytes old new next x so_far is size width value range fits =
    let item = shdr_of h.class h.order in
    let those = items_of item (shdr_size h.class) i bytes in
    record {
      value =
          is
          ∙ ap (λ (l : List Shdr). l ++ x ∷ []) so_far.value
          ∙ append_assoc old those (x ∷ [])
          ∙ ap (λ (y : Shdr). old ++ (those ++ y ∷ []))
          (value
          ∙ ap (λ (n : ℕ). item (take n (drop (i * s) bytes))) width
          ∙ ap (λ (n : ℕ). item (take n (drop (i * n) bytes))) size)
          ∙ ap (λ (l : List Shdr). old ++ l) (sym (items_of_more item (shdr_size h.class) i bytes));
      table = λ n table.
          subst (λ (l : List Shdr). IsShdrTable h.class (n + (i + 1)) l) (sym is)
          (subst (λ (k : ℕ). IsShdrTable h.class k (new ++ x ∷ [])) (omega arith)
          (table_longer h.class (n + i) 1 new (x ∷ []) refl
          (All-cons IsShdr x [] range (All-nil IsShdr))
          (All-cons (λ y. IsTrue (shdr_fits h.class y)) x [] fits
          (All-nil (λ y. IsTrue (shdr_fits h.class y))))
          (so_far.table n table)));
    }

-- they are all of them
pub all_value : (h : Ehdr) (i n s : ℕ) (bytes : List ℕ) (old new : List Shdr) → i ≡ n / s
    → s ≡ shdr_size h.class → AreAdded h i bytes old new
    → new ≡ old ++ items_of (shdr_of h.class h.order) (shdr_size h.class)
    (n / shdr_size h.class) bytes
all_value h i n s bytes old new all size added =
    added.value
    ∙ ap (λ (k : ℕ). old ++ items_of (shdr_of h.class h.order) (shdr_size h.class) k bytes)
    (all ∙ ap (λ (k : ℕ). n / k) size)

pub all_table : (h : Ehdr) (i n s : ℕ) (bytes : List ℕ) (old new : List Shdr) → i ≡ n / s
    → s ≡ shdr_size h.class → AreAdded h i bytes old new
    → (k : ℕ) → IsShdrTable h.class k old
    → IsShdrTable h.class (k + n / shdr_size h.class) new
all_table h i n s bytes old new all size added = λ k table.
    subst (λ (j : ℕ). IsShdrTable h.class (k + j) new) (all ∙ ap (λ (j : ℕ). n / j) size)
    (added.table k table)

-- those of the bytes that were read
pub piece_read : {T : Type 0} (r : Result T ElfError) (holds : Option (List ℕ)) (h : Ehdr)
    (n at : ℕ) (bytes : List ℕ) (old new : List Shdr) → length bytes ≡ n
    → IfSome holds (λ image. bytes ≡ take n (drop at image))
    → OnOk r (new ≡ old ++ items_of (shdr_of h.class h.order) (shdr_size h.class)
    (length bytes / shdr_size h.class) bytes)
    → OnOk r (IfSome holds (λ image. new ≡ old ++ items_of (shdr_of h.class h.order)
    (shdr_size h.class) (n / shdr_size h.class) (take n (drop at image))))
piece_read (Err e) holds h n at bytes old new long from is = tt
piece_read (Ok x) None h n at bytes old new long from is = tt
piece_read (Ok x) (Some image) h n at bytes old new long from is =
    is
    ∙ ap (λ (m : ℕ). old ++ items_of (shdr_of h.class h.order) (shdr_size h.class)
    (m / shdr_size h.class) bytes) long
    ∙ ap (λ (b : List ℕ). old ++ items_of (shdr_of h.class h.order) (shdr_size h.class)
    (n / shdr_size h.class) b) from

pub table_read_on : {T : Type 0} (r : Result T ElfError) (class : Class) (n m : ℕ)
    (old new : List Shdr) → m ≡ n
    → OnOk r ((k : ℕ) → IsShdrTable class k old
    → IsShdrTable class (k + m / shdr_size class) new)
    → OnOk r ((k : ℕ) → IsShdrTable class k old
    → IsShdrTable class (k + n / shdr_size class) new)
table_read_on (Err e) class n m old new same is = tt
table_read_on (Ok x) class n m old new same is = λ k table.
    subst (λ (j : ℕ). IsShdrTable class (k + j / shdr_size class) new) same (is k table)

-- want of memory shows no failed read
rose_by_memory : {T : Type 0} (r : Result T ElfError) (a b : ℕ) → IfErr r (λ e. e ≡ Memory)
    → ReadRose r a b
rose_by_memory (Ok x) a b h = tt
rose_by_memory (Err e) a b h = rw h tt

pub asks_as_read : {S T : Type 0} (g : Ghosts S) (r : Result T ElfError) (s t : S) (n m : ℕ)
    → n ≡ m → Asks {T = Unit {0}} g (Ok tt) s t n → IfErr r (λ e. e ≡ Memory) → Asks g r s t m
asks_as_read g r s t n m same a err =
    asks_fewer g r s t n m (omega (arith, same))
    (asks_then {T = Unit {0}} g (Ok tt) r s t n a
    (rose_by_memory r (g.faults s) (g.faults t) err))

-- ---- The first section headers of a table

-- those behind others
shdrs_joined : (h : Ehdr) (from n : ℕ) (image : List ℕ) (old new : List Shdr)
    → old ≡ shdrs_at h from image
    → new ≡ old ++ items_of (shdr_of h.class h.order) (shdr_size h.class) n
    (take (n * shdr_size h.class) (drop (h.shoff + from * shdr_size h.class) image))
    → new ≡ shdrs_at h (from + n) image
unfolding shdrs_at
shdrs_joined h from n image old new first is =
    let item = shdr_of h.class h.order in
    let size = shdr_size h.class in
    let rest = drop h.shoff image in
    let behind = drop (h.shoff + from * size) image in
    is
    ∙ ap (λ (l : List Shdr). l ++ items_of item size n (take (n * size) behind))
    (first ∙ items_front item size from (from * size) rest (omega arith))
    ∙ ap (λ (l : List Shdr). items_of item size from rest ++ l)
    (items_front item size n (n * size) behind (omega arith)
    ∙ ap (items_of item size n) (sym (drop-drop (from * size) h.shoff image)))
    ∙ sym (items_joined item size from n rest)
    ∙ sym (items_front item size (from + n) ((from + n) * size) rest (omega arith))

joined_told : (holds : Option (List ℕ)) (h : Ehdr) (from n m at : ℕ) (old new : List Shdr)
    → m ≡ n * shdr_size h.class → at ≡ h.shoff + from * shdr_size h.class
    → IfSome holds (λ image. old ≡ shdrs_at h from image)
    → IfSome holds (λ image. new ≡ old ++ items_of (shdr_of h.class h.order)
    (shdr_size h.class) (m / shdr_size h.class) (take m (drop at image)))
    → IfSome holds (λ image. new ≡ shdrs_at h (from + n) image)
joined_told None h from n m at old new whole place first is = tt
joined_told (Some image) h from n m at old new whole place first is =
    let item = shdr_of h.class h.order in
    let size = shdr_size h.class in
    shdrs_joined h from n image old new first
    (is
    ∙ ap (λ (k : ℕ). old ++ items_of item size k (take m (drop at image)))
    (entries_count m n size (shdr_size_some h.class) whole)
    ∙ ap (λ (k : ℕ). old ++ items_of item size n (take k (drop at image))) whole
    ∙ ap (λ (k : ℕ). old ++ items_of item size n (take (n * size) (drop k image))) place)

-- so many were read into a list
pub record AreFirst {S : Type 0} (g : Ghosts S) (h : Ehdr) (n : ℕ) (old new : S) (l : List Shdr)
    : Type 0 where
  pub asks : Asks {T = Unit {0}} g (Ok tt) old new (n * shdr_size h.class)
  pub value : IfSome (g.holds old) (λ image. l ≡ shdrs_at h n image)
  pub table : IsShdrTable h.class n l

module _ {S : Type 0} (g : Ghosts S) (h : Ehdr) where
  asks_none : (s : S) → Asks {T = Unit {0}} g (Ok tt) s s (0 * shdr_size h.class)
  asks_none s = record {
    leaves = record { same_len = refl; same_bytes = refl; same_rest = refl };
    later = omega arith;
    read = tt;
    taken = record { later = omega arith; no_more = omega arith };
  }

  none_told : (holds : Option (List ℕ)) → IfSome holds (λ image. [] ≡ shdrs_at h 0 image)
  unfolding shdrs_at
  none_told None = tt
  none_told (Some image) =
      sym (items_of_none (shdr_of h.class h.order) (shdr_size h.class)
      (take (0 * shdr_size h.class) (drop h.shoff image)))

  pub none_first : (s : S) (l : List Shdr) → l ≡ [] → AreFirst g h 0 s s l
  none_first s [] empty = record {
    asks = asks_none s;
    value = none_told (g.holds s);
    table = record {
      counted = refl;
      range = All-nil IsShdr;
      fitting = All-nil (λ x. IsTrue (shdr_fits h.class x));
    };
  }
  none_first s (x ∷ l) empty = cc

  -- and those of one piece more
  pub more_first : (n k m at : ℕ) (s t u : S) (l new : List Shdr) → AreFirst g h n s t l
      → m ≡ k * shdr_size h.class → at ≡ h.shoff + n * shdr_size h.class
      → Asks {T = Unit {0}} g (Ok tt) t u m
      → IfSome (g.holds t) (λ image. new ≡ l ++ items_of (shdr_of h.class h.order)
      (shdr_size h.class) (m / shdr_size h.class) (take m (drop at image)))
      → ((j : ℕ) → IsShdrTable h.class j l → IsShdrTable h.class (j + m / shdr_size h.class) new)
      → AreFirst g h (n + k) s u new
  more_first n k m at s t u l new first whole place asks value table =
      let size = shdr_size h.class in
      let sum = add-mul n k size in
      record {
        asks =
            asks_fewer g (Ok tt) s u (n * size + m) ((n + k) * size) (omega (arith, sum, whole))
            (asks_both {T = Unit {0}} g (Ok tt) (Ok tt) s t u (n * size) m first.asks asks);
        value =
            joined_told (g.holds s) h n k m at l new whole place first.value
            (told_same
            (λ image. new ≡ l ++ items_of (shdr_of h.class h.order) size (m / size)
            (take m (drop at image)))
            (g.holds t) (g.holds s) first.asks.leaves.same_bytes value);
        table =
            subst (λ (j : ℕ). IsShdrTable h.class (n + j) new)
            (entries_count m k size (shdr_size_some h.class) whole) (table n first.table);
      }

  -- a piece that was refused has asked for its bytes at most
  pub asks_stopped : (e : ElfError) (count n k m : ℕ) (s t u : S) → n + k ≤ count
      → m ≡ k * shdr_size h.class
      → Asks {T = Unit {0}} g (Ok tt) s t (n * shdr_size h.class)
      → Asks {T = Unit {0}} g (Err e) t u m
      → Asks {T = Unit {0}} g (Err e) s u (count * shdr_size h.class)
  asks_stopped e count n k m s t u within whole first asks =
      let size = shdr_size h.class in
      let sum = add-mul n k size in
      let less = mul-le (n + k) size count size within (omega arith) in
      asks_fewer g (Err e) s u (n * size + m) (count * size) (omega (arith, sum, less, whole))
      (asks_both {T = Unit {0}} g (Ok tt) (Err e) s t u (n * size) m first asks)

  -- all of them
  pub all_first : (n count : ℕ) (s t : S) (l : List Shdr) → n ≡ count
      → AreFirst g h n s t l → AreFirst g h count s t l
  all_first n count s t l same first =
      subst (λ (k : ℕ). AreFirst g h k s t l) same first

-- ---- Places of a piece

-- it lies in the table
pub piece_within : (count done some size at end : ℕ) → done + some ≤ count
    → at + count * size ≤ end → at + done * size + some * size ≤ end
piece_within count done some size at end within inside =
    let sum = add-mul done some size in
    let less = mul-le (done + some) size count size within (omega arith) in
    omega (arith, sum, less, inside)

-- the front of a buffer
pub front_length : (n : ℕ) (bytes : List ℕ) → n ≤ length bytes → length (take n bytes) ≡ n
front_length n bytes most = let front = length-take n bytes in omega (arith, front, most)

-- another front of it leaves it as long
pub front_kept : (front bytes : List ℕ) (n m : ℕ) → length front ≡ n → n ≤ length bytes
    → length bytes ≡ m → length (front ++ drop n bytes) ≡ m
front_kept front bytes n m is most same =
    let all = length-append front (drop n bytes) in
    let rest = length-drop n bytes in
    omega (arith, all, rest, is, most, same)
