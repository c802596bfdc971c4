-- What is kept of sections, one after another.
use Rattle.std.proofs.Common.{◌≡◌, ◌+◌, ◌-◌, ◌<◌, ◌≤◌, ◌^◌, ℕ, Bool, true, false, List, [], ◌∷◌, ◌++◌, length, map, take, get_or, take_all, append_assoc, length-append, None, Result, Ok, Err, refl, sym, ap, ◌∙◌, subst, arith, lit<}
use Rattle.std.specs.Prelude.{All, IsTrue, IfErr, OnOk}
use Rattle.std.proofs.lemmas.List.{length-map, map-append, take_more}
use Rattle.std.proofs.lemmas.List.Elements.{All-append, All-cons, All-nil}
use Rattle.std.proofs.lemmas.List.Sums.{sum_by_push, sum_by_more, sum_by_more_le}
use Rattle.elf_types.specs.declared.records.Kind.{Kind}
use Rattle.elf_types.specs.declared.records.Kind.TheVariants as kinds
use Rattle.elf_types.specs.declared.records.Shdr.{Shdr}
use Rattle.elf_types.specs.declared.records.TheConstants.{NULL_SECTION}
use Rattle.elf_types.specs.declared.errors.ElfError.{ElfError}
use Rattle.elf_types.specs.declared.errors.ElfError.TheVariants.{Memory}
use Rattle.elf_types.specs.Answers.{first_refusal}
use Rattle.elf_outside.specs.declared.sources.Source.{Ghosts}
use Rattle.law_rebuild.specs.elf_ident.Front.{zero_shdr}
use Rattle.law_rebuild.specs.elf_object.Object.{Object, is_dirty}
use Rattle.law_rebuild.specs.elf_object.Valid.{IsObject, IsTied}
use Rattle.rebuild_tables.specs.elf_descriptor.State.{State}
use Rattle.law_rebuild.specs.rebuild_model.Followed.{kept_from_1}
use Rattle.rebuild_tables.proofs.rebuild_making.RefusedLaws.{unread_as, unread_stop, passed_more, passed_all}
use Rattle.rebuild_tables.specs.rebuild_image.declared.ranges.ranges.ByteRange.{ByteRange}
use Rattle.rebuild_tables.specs.rebuild_image.Ranges.Ranges.{range_bytes, range_due}
use Rattle.rebuild_tables.specs.rebuild_keep.declared.keepers.Keeper.{Keeper}
use Rattle.rebuild_tables.specs.rebuild_keep.Keepers.{header_by, kind_by, refusal_by}
use Rattle.rebuild_tables.specs.rebuild_keep.Makes.{AsksFor}
use Rattle.rebuild_tables.proofs.rebuild_keep.AskLaws.{asks_as, asks_stop, asks_more, asks_nothing, asks_twice}
use Rattle.rebuild_tables.proofs.rebuild_keep.FillLaws.{none_passed}
use Rattle.rebuild_tables.proofs.rebuild_keep.NumberLaws.{kept_sections_few}
use Rattle.rebuild_plan.specs.declared.contents.Contents.{Contents}
use Rattle.rebuild_plan.specs.Ranges.{bytes_by, making_due, base_due_by, FindsRange}
use Rattle.rebuild_plan.specs.Reading.{ranges_due, IsReadAs}
use Rattle.rebuild_plan.specs.Contents.{kept_size, IsPushed, HasOneMore, IsPutBehind, KeepsSection, AreKeptSections, HasFirst, AreKeptBy, AreReadBy, sections_due, KeepsSections, HasKept, KeepsContents}
use Rattle.rebuild_plan.proofs.ReadingLaws.{read_more}

-- ---- One section

module _ {S : Type 0} (g : Ghosts S) (k : Keeper) (s : ℕ) (old new : State S)
    (contents mid next : Contents) where
  pub section_added : (h : Shdr) (size : ℕ) (range : ByteRange) (kind : Kind)
      (q : Result (Unit {0}) ElfError) → h ≡ header_by k old.o s → kind ≡ kind_by k old.o s
      → size ≡ kept_size h range.len
      → FindsRange g k s (Ok range) old new contents.held mid.held
      → mid.headers ≡ contents.headers → mid.sizes ≡ contents.sizes
      → mid.ranges ≡ contents.ranges → mid.kinds ≡ contents.kinds
      → OnOk q (IsPushed h size range kind mid next)
      → IfErr q (λ e. e ≡ Memory) → KeepsSection g k s q old new contents next
  section_added h size range kind (Ok x) header kind_is size_is found headers sizes ranges ks
      pushed only =
      record {
        ok = record {
          size = size;
          range = range;
          added = found.ok.added;
          headers = pushed.headers
              ∙ ap (λ (l : List Shdr). l ++ h ∷ []) headers
              ∙ ap (λ (x : Shdr). contents.headers ++ x ∷ []) header;
          sizes = pushed.sizes ∙ ap (λ (l : List ℕ). l ++ size ∷ []) sizes;
          ranges = pushed.ranges ∙ ap (λ (l : List ByteRange). l ++ range ∷ []) ranges;
          held = pushed.held ∙ found.ok.all;
          small = pushed.small;
          size_is = λ t.
              size_is
              ∙ ap (kept_size h) (found.ok.long t)
              ∙ ap (λ (x : Shdr). kept_size x (length (bytes_by k old.o s))) header;
          is = λ t later.
              ap (λ (l : List ℕ). range_bytes (l ++ later) old.o.base range) pushed.held
              ∙ found.ok.is t later;
        };
        read = record {
          kinds_are = pushed.kinds_are
              ∙ ap (λ (l : List Kind). l ++ kind ∷ []) ks
              ∙ ap (λ (x : Kind). contents.kinds ++ x ∷ []) kind_is;
          within =
              let all = ap ranges_due
              (pushed.ranges ∙ ap (λ (l : List ByteRange). l ++ range ∷ []) ranges) in
              let one = sum_by_push range_due contents.ranges range in
              let less = found.within in
              omega (arith, all, one, less);
        };
        passed = found.passed;
        err = tt;
        asks = asks_as g (Ok range) (Ok x) old new (making_due k old.o s) tt found.asks;
      }
  section_added h size range kind (Err e) header kind_is size_is found headers sizes ranges ks
      pushed only =
      subst (λ (d : ElfError). KeepsSection g k s (Err d) old new contents next) (sym only)
      (record {
        ok = tt;
        read = tt;
        passed = tt;
        err = tt;
        asks = asks_as g (Ok range) (Err Memory) old new (making_due k old.o s) tt found.asks;
      })

  pub section_refused : (e : ElfError)
      → FindsRange g k s (Err e) old new contents.held mid.held
      → KeepsSection g k s (Err e) old new contents next
  section_refused e found = record {
    ok = tt;
    read = tt;
    passed = tt;
    err = found.err;
    asks = asks_stop g {T = ByteRange} {U = Unit {0}} e old new (making_due k old.o s) found.asks;
  }

-- ---- What is kept then

module _ (told : Bool) (base : List ℕ) (header : ℕ → Shdr) (bytes : ℕ → List ℕ) (ms : List ℕ)
    (s : ℕ) (x y : Contents) (kept : AreKeptSections told base header bytes ms x)
    (more : HasOneMore told base (header s) (bytes s) x y) where
  abbrev size_by : ℕ → ℕ
  size_by n = kept_size (header n) (length (bytes n))

  ranges_more : IsTrue told → (later : List ℕ)
      → map (range_bytes (y.held ++ later) base) y.ranges ≡ [] ∷ map bytes (ms ++ s ∷ [])
  ranges_more t later =
      let put = range_bytes (y.held ++ later) base in
      let behind : y.held ++ later ≡ x.held ++ (more.added ++ later) =
      ap (λ (l : List ℕ). l ++ later) more.held ∙ append_assoc x.held more.added later in
      ap (map put) more.ranges
      ∙ map-append put x.ranges (more.range ∷ [])
      ∙ ap (λ (l : List (List ℕ)). l ++ put more.range ∷ [])
      (ap (λ (l : List ℕ). map (range_bytes l base) x.ranges) behind
      ∙ kept.ranges t (more.added ++ later))
      ∙ ap (λ (l : List ℕ). ([] ∷ map bytes ms) ++ l ∷ []) (more.is t later)
      ∙ ap (λ (l : List (List ℕ)). [] ∷ l) (sym (map-append bytes ms (s ∷ [])))

  pub kept_more : AreKeptSections told base header bytes (ms ++ s ∷ []) y
  kept_more = record {
    headers = more.headers
        ∙ ap (λ (l : List Shdr). l ++ header s ∷ []) kept.headers
        ∙ ap (λ (l : List Shdr). zero_shdr ∷ l) (sym (map-append header ms (s ∷ [])));
    sized =
        let all = ap (λ (l : List ℕ). length l) more.sizes in
        let one = length-append x.sizes (more.size ∷ []) in
        let count = length-append ms (s ∷ []) in
        let sized = kept.sized in
        omega (arith, all, one, count, sized);
    small = subst (All (λ n. n < 2 ^ 64)) (sym more.sizes)
        (All-append (λ n. n < 2 ^ 64) x.sizes (more.size ∷ []) kept.small
        (All-cons (λ n. n < 2 ^ 64) more.size [] more.small (All-nil (λ n. n < 2 ^ 64))));
    sizes = λ t.
        more.sizes
        ∙ ap (λ (l : List ℕ). l ++ more.size ∷ []) (kept.sizes t)
        ∙ ap (λ (n : ℕ). (0 ∷ map size_by ms) ++ n ∷ []) (more.size_is t)
        ∙ ap (λ (l : List ℕ). 0 ∷ l) (sym (map-append size_by ms (s ∷ [])));
    ranges = ranges_more;
  }

-- section 0 alone
pub first_kept : (start now : Contents) → start.headers ≡ [] → start.sizes ≡ []
    → start.ranges ≡ []
    → IsPushed NULL_SECTION 0 (record { held = true; at = 0; len = 0 }) kinds.Empty start now
    → HasFirst now
unfolding zero_shdr
first_kept start now headers sizes ranges pushed told base header bytes =
    let one : now.sizes ≡ 0 ∷ [] =
    pushed.sizes ∙ ap (λ (l : List ℕ). l ++ 0 ∷ []) sizes in
    record {
      headers = pushed.headers ∙ ap (λ (l : List Shdr). l ++ zero_shdr ∷ []) headers;
      sized = ap (λ (l : List ℕ). length l) one;
      small = subst (All (λ n. n < 2 ^ 64)) (sym one)
          (All-cons (λ n. n < 2 ^ 64) 0 [] (lit< tt) (All-nil (λ n. n < 2 ^ 64)));
      sizes = λ t. one;
      ranges = λ t later.
          ap (map (range_bytes (now.held ++ later) base))
          (pushed.ranges
          ∙ ap (λ (l : List ByteRange). l ++ record { held = true; at = 0; len = 0 } ∷ [])
          ranges);
    }

pub first_pushed : (start now : Contents) (q : Result (Unit {0}) ElfError) → start.headers ≡ []
    → start.sizes ≡ [] → start.ranges ≡ []
    → OnOk q (IsPushed NULL_SECTION 0 (record { held = true; at = 0; len = 0 }) kinds.Empty
    start now)
    → OnOk q (HasFirst now)
first_pushed start now (Ok x) headers sizes ranges pushed =
    first_kept start now headers sizes ranges pushed
first_pushed start now (Err e) headers sizes ranges pushed = tt

-- one more, whose bytes are in a range
pub put_behind : (h : Shdr) (size : ℕ) (range : ByteRange) (kind : Kind) (old new : Contents)
    (q : Result (Unit {0}) ElfError) → size ≡ kept_size h range.len
    → OnOk q (IsPushed h size range kind old new) → OnOk q (IsPutBehind h range old new)
put_behind h size range kind old new (Ok x) size_is pushed = λ told base bytes is. record {
  size = size;
  range = range;
  added = is.added;
  headers = pushed.headers;
  sizes = pushed.sizes;
  ranges = pushed.ranges;
  held = pushed.held ∙ is.all;
  small = pushed.small;
  size_is = λ t. size_is ∙ ap (kept_size h) (is.long t);
  is = λ t later.
      ap (λ (l : List ℕ). range_bytes (l ++ later) base range) pushed.held ∙ is.is t later;
}
put_behind h size range kind old new (Err e) size_is pushed = tt

-- ---- One after another

-- so many are made, and the others are not looked at yet
pub record Keeping {S : Type 0} (g : Ghosts S) (k : Keeper) (numbers : List ℕ)
    (first now : State S) (x : Contents) (i : ℕ) : Type 0 where
  pub asks : AsksFor {T = Unit {0}} g (Ok tt) first now (sections_due k first.o (take i numbers))
  pub passed : first_refusal (map (refusal_by k first.o) (take i numbers)) ≡ None
  pub kept : AreKeptBy k first (take i numbers) x
  pub read : AreReadBy k first.o (take i numbers) x

module _ {S : Type 0} (g : Ghosts S) (k : Keeper) (numbers : List ℕ) (first : State S) where
  pub keeping_none : (x : Contents) → AreKeptBy k first [] x → AreReadBy k first.o [] x
      → Keeping g k numbers first first x 0
  keeping_none x kept read = record {
    asks = asks_nothing g (Ok tt) first (sections_due k first.o []) tt;
    passed = refl;
    kept = kept;
    read = read;
  }

  module _ (now : State S) (x : Contents) (i : ℕ) (so_far : Keeping g k numbers first now x i)
      (there : i < length numbers) where
    -- ---- What the next one asks for
    pub number_there : All (λ s. s < length first.o.sections) numbers
        → get_or numbers i 0 < length now.o.sections
    number_there all =
        subst (λ (o : Object). get_or numbers i 0 < length o.sections) (sym so_far.asks.object)
        (all i 0 there)

    pub object_now : IsObject first.o → IsObject now.o
    object_now is = subst IsObject (sym so_far.asks.object) is

    pub clean_now : is_dirty first.o ≡ false → is_dirty now.o ≡ false
    clean_now is = ap is_dirty so_far.asks.object ∙ is

    pub tied_now : (IsTrue first.told → IsTied first.o) → IsTrue now.told → IsTied now.o
    tied_now tied t =
        subst IsTied (sym so_far.asks.object)
        (tied (subst (λ (b : Bool). IsTrue b) so_far.asks.told t))

    -- ---- What it gives, of the object as it was
    due_now : making_due k now.o (get_or numbers i 0) ≡ making_due k first.o (get_or numbers i 0)
    due_now = ap (λ (o : Object). making_due k o (get_or numbers i 0)) so_far.asks.object

    asks_next : (r : Result (Unit {0}) ElfError) (next : State S)
        → AsksFor g r now next (making_due k now.o (get_or numbers i 0))
        → AsksFor g r first next (sections_due k first.o (take i numbers)
        + making_due k first.o (get_or numbers i 0))
    asks_next r next asks =
        asks_twice g (Ok (tt {0})) r first now next (sections_due k first.o (take i numbers))
        (making_due k first.o (get_or numbers i 0)) so_far.asks
        (subst (λ (n : ℕ). AsksFor g r now next n) due_now asks)

    added_next : (y : Contents)
        → HasOneMore now.told now.o.base (header_by k now.o (get_or numbers i 0))
        (bytes_by k now.o (get_or numbers i 0)) x y
        → AreKeptBy k first (take (i + 1) numbers) y
    added_next y more =
        let at_first = subst (λ (o : Object). HasOneMore now.told o.base
        (header_by k o (get_or numbers i 0)) (bytes_by k o (get_or numbers i 0)) x y)
        so_far.asks.object more in
        let told_first = subst (λ (t : Bool). HasOneMore t first.o.base
        (header_by k first.o (get_or numbers i 0)) (bytes_by k first.o (get_or numbers i 0)) x y)
        so_far.asks.told at_first in
        subst (λ (l : List ℕ). AreKeptBy k first l y) (sym (take_more numbers i 0 there))
        (kept_more first.told first.o.base (header_by k first.o) (bytes_by k first.o)
        (take i numbers) (get_or numbers i 0) x y so_far.kept told_first)

    read_next : (y : Contents)
        → IsReadAs (kind_by k now.o (get_or numbers i 0)) (base_due_by k now.o (get_or numbers i 0))
        x y
        → AreReadBy k first.o (take (i + 1) numbers) y
    read_next y more =
        let at_first = subst (λ (o : Object). IsReadAs (kind_by k o (get_or numbers i 0))
        (base_due_by k o (get_or numbers i 0)) x y) so_far.asks.object more in
        subst (λ (l : List ℕ). AreReadBy k first.o l y) (sym (take_more numbers i 0 there))
        (read_more (kind_by k first.o) (base_due_by k first.o) (take i numbers) (get_or numbers i 0)
        x y so_far.read at_first)

    pub keeping_more : (next : State S) (y : Contents)
        → KeepsSection g k (get_or numbers i 0) (Ok tt) now next x y
        → Keeping g k numbers first next y (i + 1)
    keeping_more next y adds = record {
      asks = subst (λ (n : ℕ). AsksFor {T = Unit {0}} g (Ok tt) first next n)
          (sym (sum_by_more (making_due k first.o) numbers i 0 there))
          (asks_next (Ok tt) next adds.asks);
      passed = passed_more (refusal_by k first.o) numbers i there so_far.passed
          (ap (λ (o : Object). refusal_by k o (get_or numbers i 0)) (sym so_far.asks.object)
          ∙ adds.passed);
      kept = added_next y adds.ok;
      read = read_next y adds.read;
    }

    -- ---- Where it is refused
    pub keeping_stops : (e : ElfError) (next : State S) (y z : Contents)
        → KeepsSection g k (get_or numbers i 0) (Err e) now next x y
        → KeepsSections g k numbers (Err e) first next z
    keeping_stops e next y z adds = record {
      ok = tt;
      read = tt;
      passed = tt;
      err = unread_stop (refusal_by k first.o) numbers i e there so_far.passed
          (unread_as (refusal_by k now.o (get_or numbers i 0))
          (refusal_by k first.o (get_or numbers i 0)) e
          (ap (λ (o : Object). refusal_by k o (get_or numbers i 0)) so_far.asks.object) adds.err);
      asks = asks_more g (Err e) first next
          (sections_due k first.o (take i numbers) + making_due k first.o (get_or numbers i 0))
          (sections_due k first.o numbers)
          (sum_by_more_le (making_due k first.o) numbers i 0 there)
          (asks_next (Err e) next adds.asks);
    }

  -- ---- After the last one
  pub keeping_all : (now : State S) (x : Contents) (i : ℕ) → Keeping g k numbers first now x i
      → length numbers ≤ i → KeepsSections g k numbers (Ok tt) first now x
  keeping_all now x i so_far all = record {
    ok = subst (λ (l : List ℕ). AreKeptBy k first l x) (take_all i numbers all) so_far.kept;
    read = subst (λ (l : List ℕ). AreReadBy k first.o l x) (take_all i numbers all) so_far.read;
    passed = passed_all (refusal_by k first.o) numbers i all so_far.passed;
    err = tt;
    asks = subst (λ (l : List ℕ). AsksFor {T = Unit {0}} g (Ok tt) first now
        (sections_due k first.o l)) (take_all i numbers all) so_far.asks;
  }

  -- memory is wanted before the first one
  pub not_begun : (e : ElfError) (x : Contents) → e ≡ Memory
      → KeepsSections g k numbers (Err e) first first x
  not_begun e x only =
      subst (λ (d : ElfError). KeepsSections g k numbers (Err d) first first x) (sym only)
      (record {
        ok = tt;
        read = tt;
        passed = tt;
        err = tt;
        asks = asks_nothing g (Err Memory) first (sections_due k first.o numbers) tt;
      })

-- ---- All that is kept

module _ (told : Bool) (base : List ℕ) (header : ℕ → Shdr) (bytes : ℕ → List ℕ)
    (numbers : List ℕ) (count : ℕ) (x : Contents) where
  pub none_has : count ≡ 0 → x.headers ≡ [] → x.sizes ≡ []
      → HasKept told base header bytes numbers count x
  none_has none headers sizes = record {
    few = let long = ap (λ (l : List Shdr). length l) headers in omega (arith, long);
    same = ap (λ (l : List ℕ). length l) sizes
        ∙ sym (ap (λ (l : List Shdr). length l) headers);
    none = λ n. (headers, sizes);
    some = λ some. absurd (some none);
  }

  pub some_has : (count ≡ 0 → ⊥) → count ≤ 2 ^ 20 → length numbers ≤ count - 1
      → AreKeptSections told base header bytes numbers x → HasKept told base header bytes numbers count x
  some_has some all few kept =
      let long = ap (λ (l : List Shdr). length l) kept.headers in
      let each = length-map numbers header in
      let sized = kept.sized in
      record {
        few = omega (arith, long, each, few, all, some);
        same = omega (arith, long, each, sized);
        none = λ none. absurd (some none);
        some = λ there. kept;
      }

module _ {S : Type 0} (g : Ghosts S) (k : Keeper) (numbers : List ℕ) (old new : State S)
    (at : numbers ≡ kept_from_1 old.o k.removed.now) where
  few_numbers : length numbers ≤ length old.o.sections - 1
  few_numbers =
      subst (λ (l : List ℕ). length l ≤ length old.o.sections - 1) (sym at)
      (kept_sections_few old.o k.removed.now)

  pub none_kept : (x : Contents) → length old.o.sections ≡ 0 → x.headers ≡ [] → x.sizes ≡ []
      → x.ranges ≡ [] → x.kinds ≡ [] → KeepsContents g k numbers (Ok x) old old
  none_kept x none headers sizes ranges ks = record {
    ok = none_has old.told old.o.base (header_by k old.o) (bytes_by k old.o)
        (kept_from_1 old.o k.removed.now) (length old.o.sections) x none headers sizes;
    read = record { none = λ n. (ks, ranges); some = λ some. absurd (some none) };
    passed = none_passed old.o (refusal_by k old.o) numbers none few_numbers;
    err = tt;
    asks = asks_nothing g (Ok x) old (sections_due k old.o numbers) tt;
  }

  pub all_kept : (x : Contents) → IsObject old.o → (length old.o.sections ≡ 0 → ⊥)
      → KeepsSections g k numbers (Ok tt) old new x → KeepsContents g k numbers (Ok x) old new
  all_kept x is some adds = record {
    ok = some_has old.told old.o.base (header_by k old.o) (bytes_by k old.o)
        (kept_from_1 old.o k.removed.now) (length old.o.sections) x some is.section_count
        (kept_sections_few old.o k.removed.now)
        (subst (λ (l : List ℕ). AreKeptBy k old l x) at adds.ok);
    read = record {
      none = λ none. absurd (some none);
      some = λ there. subst (λ (l : List ℕ). AreReadBy k old.o l x) at adds.read;
    };
    passed = adds.passed;
    err = tt;
    asks = asks_as g (Ok (tt {0})) (Ok x) old new (sections_due k old.o numbers) tt adds.asks;
  }

  pub none_kept_refused : (e : ElfError) (x : Contents)
      → KeepsSections g k numbers (Err e) old new x → KeepsContents g k numbers (Err e) old new
  none_kept_refused e x adds = record {
    ok = tt;
    read = tt;
    passed = tt;
    err = adds.err;
    asks = asks_stop g {T = Unit {0}} {U = Contents} e old new (sections_due k old.o numbers)
        adds.asks;
  }
