-- The sums over a table of section headers that is read in pieces, one behind the other.
use Rattle.std.proofs.Common.{◌≡◌, ◌+◌, ◌-◌, ◌*◌, ◌≤◌, ℕ, zero, suc, List, [], ◌∷◌, ◌++◌, length, take, drop, Option, Some, None, IfSome, Ok, Err, refl, sym, ap, subst, ◌∙◌, arith}
use Rattle.std.specs.Prelude.{◌/◌}
use Rattle.std.proofs.Math.Nat.{add-mul}
use Rattle.std.proofs.lemmas.Nat.{row_fits}
use Rattle.std.proofs.lemmas.List.{append-nil, append_assoc, drop-drop, drop-take, take-take}
use Rattle.elf_types.specs.declared.records.Ehdr.{Ehdr}
use Rattle.elf_types.specs.declared.records.Shdr.{Shdr}
use Rattle.elf_types.specs.declared.errors.ElfError.{ElfError}
use Rattle.elf_outside.specs.Asks.{Asks}
use Rattle.elf_outside.specs.declared.sources.Source.{Ghosts}
use Rattle.elf_outside.proofs.AskLemmas.{asks_both, asks_fewer, asks_then, read_rose_on}
use Rattle.elf_xlate.specs.Headers.{shdr_size, shdr_of}
use Rattle.elf_xlate.specs.Translation.{items_of}
use Rattle.elf_xlate.proofs.Pieces.{items_of_none, items_of_more, length_items_of}
use Rattle.elf_ident.specs.Front.{shdrs_at}
use Rattle.elf_ident.proofs.TableLemmas.{shdr_size_some, entries_count, told_same}
use Rattle.elf_ident.proofs.PieceLemmas.{none_first, asks_stopped}
use Rattle.size_tool.specs.declared.sums.Sums.{Sums}
use Rattle.size_tool.specs.Sums.{header_sums, sums_with_section, AreWithin, Adds}
use Rattle.size_tool.proofs.SumLemmas.{within_more, adds_none, adds_more}

-- ---- The section headers of a piece

-- the first ones of bytes, those of a header's class and order
abbrev pub headers_in : Ehdr → ℕ → List ℕ → List Shdr
headers_in h n bytes = items_of (shdr_of h.class h.order) (shdr_size h.class) n bytes

pub no_header_added : (h : Ehdr) (bytes : List ℕ) (sums : Sums)
    → Adds (headers_in h 0 bytes) sums sums
no_header_added h bytes sums =
    subst (λ (l : List Shdr). Adds l sums sums)
    (sym (items_of_none (shdr_of h.class h.order) (shdr_size h.class) bytes)) (adds_none sums)

-- and one more
pub header_added : (h : Ehdr) (i s w : ℕ) (bytes : List ℕ) (old mid new : Sums) (x : Shdr)
    → Adds (headers_in h i bytes) old mid → s ≡ shdr_size h.class → w ≡ s
    → x ≡ shdr_of h.class h.order (take w (drop (i * s) bytes)) → new ≡ sums_with_section mid x
    → ((n : ℕ) → AreWithin n mid → AreWithin (n + 1) new)
    → Adds (headers_in h (i + 1) bytes) old new
header_added h i s w bytes old mid new x adds size width value is within =
    let item = shdr_of h.class h.order in
    let those = headers_in h i bytes in
    let here : x ≡ item (take (shdr_size h.class) (drop (i * shdr_size h.class) bytes)) =
    value
    ∙ ap (λ (n : ℕ). item (take n (drop (i * s) bytes))) (width ∙ size)
    ∙ ap (λ (n : ℕ). item (take (shdr_size h.class) (drop (i * n) bytes))) size in
    subst (λ (l : List Shdr). Adds l old new)
    (ap (λ (y : Shdr). those ++ y ∷ []) here
    ∙ sym (items_of_more item (shdr_size h.class) i bytes))
    (adds_more those x old mid new adds is within)

-- they are all of them
pub headers_added : (h : Ehdr) (i n s : ℕ) (bytes : List ℕ) (old new : Sums) → i ≡ n / s
    → s ≡ shdr_size h.class → Adds (headers_in h i bytes) old new
    → Adds (headers_in h (n / shdr_size h.class) bytes) old new
headers_added h i n s bytes old new all size adds =
    subst (λ (k : ℕ). Adds (headers_in h k bytes) old new) (all ∙ ap (λ (k : ℕ). n / k) size) adds

-- of those of a buffer that was read, as many as before
pub buffer_added : (h : Ehdr) (n m : ℕ) (bytes : List ℕ) (old new : Sums) → n ≡ m
    → Adds (headers_in h (n / shdr_size h.class) bytes) old new
    → Adds (headers_in h (m / shdr_size h.class) bytes) old new
buffer_added h n m bytes old new same adds =
    subst (λ (k : ℕ). Adds (headers_in h (k / shdr_size h.class) bytes) old new) same adds

-- how many they are
pub count_in : (h : Ehdr) (n : ℕ) (bytes : List ℕ) → length (headers_in h n bytes) ≡ n
count_in h n bytes = length_items_of (shdr_of h.class h.order) (shdr_size h.class) n bytes

-- ---- Items of one size, behind others

module _ {X : Type 0} (item : List ℕ → X) (size : ℕ) where
  -- an item of a front that has its bytes
  front_cut : (k m : ℕ) (bytes : List ℕ) → k * size + size ≤ m
      → take size (drop (k * size) (take m bytes)) ≡ take size (drop (k * size) bytes)
  front_cut k m bytes fits =
      let split : m ≡ k * size + (m - k * size) = omega (arith, fits) in
      ap (λ (n : ℕ). take size (drop (k * size) (take n bytes))) split
      ∙ ap (take size) (drop-take (k * size) (m - k * size) bytes)
      ∙ take-take size (m - k * size) (drop (k * size) bytes) (omega (arith, fits))

  -- one of those behind the first n of a table
  next_cut : (count n k m : ℕ) (rest : List ℕ) → k + 1 ≤ m → n + m ≤ count
      → take size (drop (k * size) (take (m * size) (drop (n * size) rest)))
      ≡ take size (drop ((n + k) * size) (take (count * size) rest))
  next_cut count n k m rest low within =
      front_cut k (m * size) (drop (n * size) rest)
      (row_fits k size m size (omega (arith, low)) (omega arith))
      ∙ ap (take size) (drop-drop (k * size) (n * size) rest
      ∙ ap (λ (j : ℕ). drop j rest) (sym (add-mul n k size)))
      ∙ sym (front_cut (n + k) (count * size) rest
      (row_fits (n + k) size count size (omega (arith, low, within)) (omega arith)))

  -- the first n of a table, and k of those behind them
  items_behind : (count n k m : ℕ) (rest : List ℕ) → k ≤ m → n + m ≤ count
      → items_of item size n (take (count * size) rest)
      ++ items_of item size k (take (m * size) (drop (n * size) rest))
      ≡ items_of item size (n + k) (take (count * size) rest)
  items_behind count n zero m rest few within =
      let first = items_of item size n (take (count * size) rest) in
      ap (λ (l : List X). first ++ l)
      (items_of_none item size (take (m * size) (drop (n * size) rest)))
      ∙ append-nil first
      ∙ ap (λ (j : ℕ). items_of item size j (take (count * size) rest))
      (let all : n ≡ n + zero = omega arith in all)
  items_behind count n (suc k) m rest few within =
      let table = take (count * size) rest in
      let piece = take (m * size) (drop (n * size) rest) in
      let first = items_of item size n table in
      let last = item (take size (drop (k * size) piece)) in
      let one : suc k ≡ k + 1 = omega arith in
      let all : n + k + 1 ≡ n + suc k = omega arith in
      ap (λ (j : ℕ). first ++ items_of item size j piece) one
      ∙ ap (λ (l : List X). first ++ l) (items_of_more item size k piece)
      ∙ sym (append_assoc first (items_of item size k piece) (last ∷ []))
      ∙ ap (λ (l : List X). l ++ last ∷ [])
      (items_behind count n k m rest (omega (arith, few)) within)
      ∙ ap (λ (b : List ℕ). items_of item size (n + k) table ++ item b ∷ [])
      (next_cut count n k m rest (omega (arith, few)) within)
      ∙ sym (items_of_more item size (n + k) table)
      ∙ ap (λ (j : ℕ). items_of item size j table) all

-- ---- The first section headers of a table

-- of a table of so many
abbrev pub first_headers : Ehdr → ℕ → ℕ → List ℕ → List Shdr
first_headers h count n image =
    headers_in h n (take (count * shdr_size h.class) (drop h.shoff image))

-- those of the bytes that were read stand behind them
headers_behind : (h : Ehdr) (count n k m at : ℕ) (image bytes : List ℕ) → n + k ≤ count
    → m ≡ k * shdr_size h.class → at ≡ h.shoff + n * shdr_size h.class
    → bytes ≡ take m (drop at image)
    → first_headers h count n image ++ headers_in h (m / shdr_size h.class) bytes
    ≡ first_headers h count (n + k) image
headers_behind h count n k m at image bytes within whole place from =
    let size = shdr_size h.class in
    let first = first_headers h count n image in
    ap (λ (j : ℕ). first ++ headers_in h j bytes)
    (entries_count m k size (shdr_size_some h.class) whole)
    ∙ ap (λ (b : List ℕ). first ++ headers_in h k b)
    (from
    ∙ ap (λ (j : ℕ). take j (drop at image)) whole
    ∙ ap (λ (j : ℕ). take (k * size) (drop j image)) place
    ∙ ap (take (k * size)) (sym (drop-drop (n * size) h.shoff image)))
    ∙ items_behind (shdr_of h.class h.order) size count n k k (drop h.shoff image) (omega arith)
    within

-- an error is passed on, of which another value would be the answer
pub asks_as : {S : Type 0} (g : Ghosts S) (T U : Type 0) (e : ElfError) (s t : S) (n : ℕ)
    → Asks {T = T} g (Err e) s t n → Asks {T = U} g (Err e) s t n
asks_as g T U e s t n a =
    asks_then {T = T} {U = U} g (Err e) (Err e) s t n a
    (read_rose_on T U e (g.faults s) (g.faults t) a.read)

-- so many of them were read and added up
pub record AreSummed {S : Type 0} (g : Ghosts S) (h : Ehdr) (count n : ℕ) (old new : S)
    (sums : Sums) : Type 0 where
  pub asks : Asks {T = Unit {0}} g (Ok tt) old new (n * shdr_size h.class)
  pub value : IfSome (g.holds old) (λ image. sums ≡ header_sums (first_headers h count n image))
  pub within : AreWithin n sums

module _ {S : Type 0} (g : Ghosts S) (h : Ehdr) (count : ℕ) where
  pub none_summed : (s : S) (sums : Sums) → sums ≡ header_sums [] → AreWithin 0 sums
      → AreSummed g h count 0 s s sums
  none_summed s sums is within = record {
    asks = (none_first g h s [] refl).asks;
    value = none_told (g.holds s);
    within = within;
  }
    where
      none_told : (holds : Option (List ℕ))
          → IfSome holds (λ image. sums ≡ header_sums (first_headers h count 0 image))
      none_told None = tt
      none_told (Some image) =
          is
          ∙ ap header_sums (sym (items_of_none (shdr_of h.class h.order) (shdr_size h.class)
          (take (count * shdr_size h.class) (drop h.shoff image))))

  -- and those of one piece more
  pub more_summed : (n k m at : ℕ) (s t u : S) (bytes : List ℕ) (sums more : Sums)
      → AreSummed g h count n s t sums → n + k ≤ count → m ≡ k * shdr_size h.class
      → at ≡ h.shoff + n * shdr_size h.class → Asks {T = Sums} g (Ok more) t u m
      → IfSome (g.holds t) (λ image. bytes ≡ take m (drop at image))
      → Adds (headers_in h (m / shdr_size h.class) bytes) sums more
      → AreSummed g h count (n + k) s u more
  more_summed n k m at s t u bytes sums more so_far inside whole place asks from adds =
      let size = shdr_size h.class in
      let sum = add-mul n k size in
      let entries = entries_count m k size (shdr_size_some h.class) whole in
      let long = count_in h (m / size) bytes in
      record {
        asks =
            asks_fewer g (Ok tt) s u (n * size + m) ((n + k) * size) (omega (arith, sum, whole))
            (asks_both {T = Unit {0}} g (Ok tt) (Ok tt) s t u (n * size) m so_far.asks
            (asks_then {U = Unit {0}} g (Ok more) (Ok tt) t u m asks tt));
        value =
            told_more (g.holds s) so_far.value
            (told_same (λ image. bytes ≡ take m (drop at image)) (g.holds t) (g.holds s)
            so_far.asks.leaves.same_bytes from);
        within =
            within_more (n + length (headers_in h (m / size) bytes)) (n + k) more
            (omega (arith, entries, long)) (adds.within n so_far.within);
      }
    where
      told_more : (holds : Option (List ℕ))
          → IfSome holds (λ image. sums ≡ header_sums (first_headers h count n image))
          → IfSome holds (λ image. bytes ≡ take m (drop at image))
          → IfSome holds (λ image. more ≡ header_sums (first_headers h count (n + k) image))
      told_more None first piece = tt
      told_more (Some image) first piece =
          adds.sums (first_headers h count n image) first
          ∙ ap header_sums
          (headers_behind h count n k m at image bytes inside whole place piece)

  -- a piece that was refused has asked for its bytes at most
  pub stopped_summed : (e : ElfError) (n k m : ℕ) (s t u : S) (sums : Sums) → n + k ≤ count
      → m ≡ k * shdr_size h.class → AreSummed g h count n s t sums
      → Asks {T = Sums} g (Err e) t u m
      → Asks {T = Sums} g (Err e) s u (count * shdr_size h.class)
  stopped_summed e n k m s t u sums inside whole so_far asks =
      asks_as g (Unit {0}) Sums e s u (count * shdr_size h.class)
      (asks_stopped g h e count n k m s t u inside whole so_far.asks
      (asks_as g Sums (Unit {0}) e t u m asks))

  -- all of them
  pub all_asked : (n : ℕ) (s t : S) (sums : Sums) → n ≡ count → AreSummed g h count n s t sums
      → Asks {T = Sums} g (Ok sums) s t (count * shdr_size h.class)
  all_asked n s t sums same all =
      subst (λ (k : ℕ). Asks {T = Sums} g (Ok sums) s t (k * shdr_size h.class)) same
      (asks_then {T = Unit {0}} {U = Sums} g (Ok tt) (Ok sums) s t (n * shdr_size h.class)
      all.asks tt)

  pub all_told : (n : ℕ) (s t : S) (sums : Sums) → n ≡ count → AreSummed g h count n s t sums
      → IfSome (g.holds s) (λ image. sums ≡ header_sums (shdrs_at h count image))
  unfolding shdrs_at
  all_told n s t sums same all = told_all (g.holds s) all.value
    where
      told_all : (holds : Option (List ℕ))
          → IfSome holds (λ image. sums ≡ header_sums (first_headers h count n image))
          → IfSome holds (λ image. sums ≡ header_sums (shdrs_at h count image))
      told_all None is = tt
      told_all (Some image) is =
          is ∙ ap (λ (k : ℕ). header_sums (first_headers h count k image)) same
