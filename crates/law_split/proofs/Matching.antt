-- The two halves of an image match (`HalvesMatch`): their allocated sections are those of the
-- image, in their order.
use Rattle.std.proofs.Common.{◌≡◌, ℕ, zero, suc, ◌+◌, ◌-◌, ◌/◌, ◌%◌, ◌<◌, ◌≤◌, Bool, true, false, not, cond, ◌||◌, List, [], ◌∷◌, length, get_or, None, refl, sym, ap, ◌∙◌, subst, arith}
use Rattle.std.specs.Prelude.{filter, nat_eq, slice_get, if◌then◌else◌, ◌==◌, map}
use Rattle.std.specs.Cmp.Lexicographic.{pointwise}
use Rattle.std.specs.List.{range_with_len, list_any}
use Rattle.std.proofs.lemmas.Bool.{eq-eqb, eqb-true, and_from}
use Rattle.std.proofs.lemmas.List.{ext_get_or}
use Rattle.std.proofs.lemmas.List.FromFn.{length-map-range_with_len, get_or-map-range_with_len}
use Rattle.elf_types.specs.declared.records.Class.{Class}
use Rattle.elf_types.specs.declared.records.Class.TheVariants.{C32, C64}
use Rattle.elf_types.specs.declared.records.Order.{Order}
use Rattle.elf_types.specs.declared.records.Order.TheVariants.{Least, Greatest}
use Rattle.elf_types.specs.declared.records.Ehdr.{Ehdr}
use Rattle.elf_types.specs.declared.records.Phdr.{Phdr}
use Rattle.elf_types.specs.declared.records.Shdr.{Shdr}
use Rattle.elf_types.specs.declared.constants.TheConstants.{SHT_NOBITS, SHF_ALLOC}
use Rattle.elf_object.specs.Object.{Object}
use Rattle.elf_object.specs.Layout.{section_numbers}
use Rattle.elf_object.specs.Sections.{is_allocated, header_at, is_among}
use Rattle.rebuild_model.specs.Followed.{kept_sections, kept_from_1}
use Rattle.rebuild_model.specs.Split.{is_loaded_from_file, removed_allocated, same_class, same_order, same_header, same_phdr, same_loaded, allocated, allocated_headers, matches}
use Rattle.rebuild_model.specs.KeepingLaws.{SameHeader, IsSplit}
use Rattle.law_rebuild.proofs.strip.KeptLaws.{kept_first}
use Rattle.law_rebuild.proofs.strip.RebuiltLaws.{rebuilt_known}
use Rattle.law_split.specs.Halves.{without_place, without_index, without_links, debug_header, origin_number, IsDebugHalf, KeepsForDebug, DebugHalfKeeps, IsStrippedHalf, KeepsAllocated, StrippedHalfKeeps, HalvesMatch}
use Rattle.law_split.proofs.StrippedHalf.{kept_number}

-- ---- Lists

filter_same : (f g : ℕ → Bool) (a n : ℕ) → ((s : ℕ) → a ≤ s → s < a + n → f s ≡ g s)
    → filter f (range_with_len a n) ≡ filter g (range_with_len a n)
filter_same f g a zero each = refl
filter_same f g a (suc n) each =
    ap (λ (b : Bool). cond b (a ∷ filter f (range_with_len (a + 1) n))
    (filter f (range_with_len (a + 1) n))) (each a (omega arith) (omega arith))
    ∙ ap (λ (l : List ℕ). cond (g a) (a ∷ l) l)
    (filter_same f g (a + 1) n
    (λ s from below. each s (omega (arith, from)) (omega (arith, below))))

filter_mapped : (f : ℕ → ℕ) (g : ℕ → Bool) (l : List ℕ)
    → map f (filter (λ t. g (f t)) l) ≡ filter g (map f l)
filter_mapped f g [] = refl
filter_mapped f g (x ∷ l) = by_test (g (f x)) (filter_mapped f g l)
  where
    by_test : (b : Bool) → map f (filter (λ t. g (f t)) l) ≡ filter g (map f l)
        → map f (cond b (x ∷ filter (λ t. g (f t)) l) (filter (λ t. g (f t)) l))
        ≡ cond b (f x ∷ filter g (map f l)) (filter g (map f l))
    by_test true rest = ap (λ (m : List ℕ). f x ∷ m) rest
    by_test false rest = rest

filter_within : (g k : ℕ → Bool) (l : List ℕ) → ((x : ℕ) → k x ≡ false → g x ≡ false)
    → filter g (filter k l) ≡ filter g l
filter_within g k [] out = refl
filter_within g k (x ∷ l) out = by_test (k x) refl (filter_within g k l out)
  where
    by_test : (b : Bool) → k x ≡ b → filter g (filter k l) ≡ filter g l
        → filter g (cond b (x ∷ filter k l) (filter k l))
        ≡ cond (g x) (x ∷ filter g l) (filter g l)
    by_test true e rest = ap (λ (m : List ℕ). cond (g x) (x ∷ m) m) rest
    by_test false e rest =
        rest
        ∙ sym (ap (λ (b : Bool). cond b (x ∷ filter g l) (filter g l)) (out x e))

-- no number of a list passes
none_passes : (test : ℕ → Bool) (l : List ℕ) (x : ℕ) → slice_get (filter test l) 0 ≡ None
    → list_any (nat_eq x) l ≡ true → test x ≡ false
none_passes test [] x none among = cc
none_passes test (y ∷ l) x none among =
    by_test (test y) refl none (λ later there. none_passes test l x later there)
  where
    Later : Type 0
    Later = slice_get (filter test l) 0 ≡ None → list_any (nat_eq x) l ≡ true → test x ≡ false

    by_same : (b : Bool) → nat_eq x y ≡ b → (b || list_any (nat_eq x) l) ≡ true
        → test y ≡ false → slice_get (filter test l) 0 ≡ None → Later → test x ≡ false
    by_same true e h fails none rest = ap test (eqb-true x y e) ∙ fails
    by_same false e h fails none rest = rest none h

    by_test : (b : Bool) → test y ≡ b
        → slice_get (cond b (y ∷ filter test l) (filter test l)) 0 ≡ None → Later
        → test x ≡ false
    by_test true e h rest = cc
    by_test false e h rest = by_same (nat_eq x y) refl among e h rest

-- a list by its indexes from 1 on, behind another first one
listed_behind : (first : ℕ) (l : List ℕ)
    → map (λ t. get_or (first ∷ l) t 0) (range_with_len 1 (length l)) ≡ l
listed_behind first l =
    let long = length-map-range_with_len (λ t. get_or (first ∷ l) t 0) 1 (length l) in
    ext_get_or 0 (map (λ t. get_or (first ∷ l) t 0) (range_with_len 1 (length l))) l long (λ i h.
    get_or-map-range_with_len (λ t. get_or (first ∷ l) t 0) 1 (length l) i (suc i) 0
    (omega (arith, h, long)) (omega arith))

pointwise_itself : {X : Type 0} (E : X → X → Bool) → ((x : X) → E x x ≡ true) → (l : List X)
    → pointwise E l l ≡ true
pointwise_itself E same [] = refl
pointwise_itself E same (x ∷ l) =
    and_from (E x x) (pointwise E l l) (same x) (pointwise_itself E same l)

pointwise_filtered : (E : Shdr → Shdr → Bool) (f g : ℕ → Shdr) (k : ℕ → ℕ) (test : ℕ → Bool)
    (a n : ℕ)
    → ((t : ℕ) → a ≤ t → t < a + n → test t ≡ true → E (f t) (g (k t)) ≡ true)
    → pointwise E (map f (filter test (range_with_len a n)))
    (map g (map k (filter test (range_with_len a n)))) ≡ true
pointwise_filtered E f g k test a zero each = refl
pointwise_filtered E f g k test a (suc n) each =
    by_test (test a) refl
    (pointwise_filtered E f g k test (a + 1) n
    (λ t from below. each t (omega (arith, from)) (omega (arith, below))))
  where
    by_test : (b : Bool) → test a ≡ b
        → pointwise E (map f (filter test (range_with_len (a + 1) n)))
        (map g (map k (filter test (range_with_len (a + 1) n)))) ≡ true
        → pointwise E
        (map f (cond b (a ∷ filter test (range_with_len (a + 1) n))
        (filter test (range_with_len (a + 1) n))))
        (map g (map k (cond b (a ∷ filter test (range_with_len (a + 1) n))
        (filter test (range_with_len (a + 1) n))))) ≡ true
    by_test true e rest =
        and_from (E (f a) (g (k a)))
        (pointwise E (map f (filter test (range_with_len (a + 1) n)))
        (map g (map k (filter test (range_with_len (a + 1) n)))))
        (each a (omega arith) (omega arith) e) rest
    by_test false e rest = rest

-- ---- Which sections are allocated

pub same_allocated : (a b : Shdr) → a.flags ≡ b.flags → is_allocated a ≡ is_allocated b
unfolding is_allocated
same_allocated a b same = ap (λ (n : ℕ). n / SHF_ALLOC % 2 == 1) same

-- a header but for its type and place
pub record SameLoaded (a b : Shdr) : Type 0 where
  pub flags : a.flags ≡ b.flags
  pub addr : a.addr ≡ b.addr
  pub size : a.size ≡ b.size
  pub addralign : a.addralign ≡ b.addralign
  pub entsize : a.entsize ≡ b.entsize

pub debug_loaded : (a h : Shdr) → without_place a ≡ without_place (debug_header h) → SameLoaded a h
debug_loaded a h same = by_test (is_loaded_from_file h) same
  where
    by_test : (b : Bool)
        → without_place a ≡ without_place (if b then record h { stype = SHT_NOBITS } else h)
        → SameLoaded a h
    by_test true e = record {
      flags = ap (λ (x : Shdr). x.flags) e;
      addr = ap (λ (x : Shdr). x.addr) e;
      size = ap (λ (x : Shdr). x.size) e;
      addralign = ap (λ (x : Shdr). x.addralign) e;
      entsize = ap (λ (x : Shdr). x.entsize) e;
    }
    by_test false e = record {
      flags = ap (λ (x : Shdr). x.flags) e;
      addr = ap (λ (x : Shdr). x.addr) e;
      size = ap (λ (x : Shdr). x.size) e;
      addralign = ap (λ (x : Shdr). x.addralign) e;
      entsize = ap (λ (x : Shdr). x.entsize) e;
    }

linked_loaded : (a h : Shdr) → without_links a ≡ without_links h → SameLoaded a h
linked_loaded a h e = record {
  flags = ap (λ (x : Shdr). x.flags) e;
  addr = ap (λ (x : Shdr). x.addr) e;
  size = ap (λ (x : Shdr). x.size) e;
  addralign = ap (λ (x : Shdr). x.addralign) e;
  entsize = ap (λ (x : Shdr). x.entsize) e;
}

-- those of the debug half are those of the image
pub debug_allocated : (whole debug : Object) → KeepsForDebug whole debug
    → allocated debug ≡ allocated whole
unfolding allocated
debug_allocated whole debug half =
    ap (λ (n : ℕ). filter (λ s. is_allocated (header_at debug s)) (range_with_len 1 (n - 1)))
    half.count
    ∙ filter_same (λ s. is_allocated (header_at debug s)) (λ s. is_allocated (header_at whole s)) 1
    (length whole.sections - 1) (λ s from below.
    same_allocated (header_at debug s) (header_at whole s)
    (debug_loaded (header_at debug s) (header_at whole s)
    (half.headers s from (omega (arith, from, below)))).flags)

-- of the numbers that are kept, the allocated ones are all
kept_allocated : (whole : Object) (removed : List ℕ) → removed_allocated whole removed ≡ None
    → filter (λ s. is_allocated (header_at whole s)) (kept_from_1 whole removed)
    ≡ allocated whole
unfolding allocated kept_from_1 removed_allocated is_among
kept_allocated whole removed none =
    filter_within (λ s. is_allocated (header_at whole s))
    (λ s. not (list_any (nat_eq s) removed)) (section_numbers whole) (λ s gone.
    none_passes (λ t. is_allocated (header_at whole t)) removed s none
    (was_true (list_any (nat_eq s) removed) gone))
  where
    was_true : (b : Bool) → not b ≡ false → b ≡ true
    was_true true e = refl
    was_true false e = cc

none_kept : (whole : Object) (removed : List ℕ) → length whole.sections ≡ 0
    → map (origin_number whole removed)
    (range_with_len 1 (length (kept_sections whole removed) - 1)) ≡ kept_from_1 whole removed
unfolding kept_sections kept_from_1
none_kept whole removed none =
    ap (λ (c : ℕ). map (λ t. get_or
    (filter (λ s. not (is_among removed s)) (range_with_len 0 c)) t 0)
    (range_with_len 1
    (length (filter (λ s. not (is_among removed s)) (range_with_len 0 c)) - 1))) none
    ∙ sym (ap (λ (c : ℕ).
    filter (λ s. not (is_among removed s)) (range_with_len 1 (c - 1))) none)

-- the numbers of the stripped half, in order
origins : (whole : Object) (removed : List ℕ) → is_among removed 0 ≡ false
    → map (origin_number whole removed)
    (range_with_len 1 (length (kept_sections whole removed) - 1)) ≡ kept_from_1 whole removed
origins whole removed stays = by_count (length whole.sections) refl
  where
    by_count : (n : ℕ) → length whole.sections ≡ n
        → map (origin_number whole removed)
        (range_with_len 1 (length (kept_sections whole removed) - 1)) ≡ kept_from_1 whole removed
    by_count zero e = none_kept whole removed e
    by_count (suc n) e =
        let first = kept_first whole removed stays (omega (arith, e)) in
        let less : length (0 ∷ kept_from_1 whole removed) - 1 ≡ length (kept_from_1 whole removed) =
        omega arith in
        ap (λ (l : List ℕ). map (λ t. get_or l t 0) (range_with_len 1 (length l - 1))) first
        ∙ ap (λ (k : ℕ). map (λ t. get_or (0 ∷ kept_from_1 whole removed) t 0)
        (range_with_len 1 k)) less
        ∙ listed_behind 0 (kept_from_1 whole removed)

-- the allocated sections of the stripped half were made of those of the image
pub stripped_allocated : (removed : List ℕ) (whole stripped : Object)
    → KeepsAllocated removed whole stripped → is_among removed 0 ≡ false
    → removed_allocated whole removed ≡ None
    → map (origin_number whole removed) (allocated stripped) ≡ allocated whole
unfolding allocated
stripped_allocated removed whole stripped half stays none =
    let count = half.count in
    ap (map (origin_number whole removed))
    (filter_same (λ t. is_allocated (header_at stripped t))
    (λ t. is_allocated (header_at whole (origin_number whole removed t))) 1
    (length stripped.sections - 1) (λ t from below.
    same_allocated (header_at stripped t) (header_at whole (origin_number whole removed t))
    (half.flags t from (omega (arith, from, below)))))
    ∙ filter_mapped (origin_number whole removed) (λ s. is_allocated (header_at whole s))
    (range_with_len 1 (length stripped.sections - 1))
    ∙ ap (λ (n : ℕ). filter (λ s. is_allocated (header_at whole s))
    (map (origin_number whole removed) (range_with_len 1 (n - 1)))) count
    ∙ ap (filter (λ s. is_allocated (header_at whole s))) (origins whole removed stays)
    ∙ kept_allocated whole removed none

-- ---- The headers

loaded_alike : (a b h : Shdr) → SameLoaded a h → SameLoaded b h → same_loaded a b ≡ true
unfolding same_loaded
loaded_alike a b h x y =
    and_from _ _ (and_from _ _ (and_from _ _ (and_from _ _
    (eq-eqb a.flags b.flags (x.flags ∙ sym y.flags))
    (eq-eqb a.addr b.addr (x.addr ∙ sym y.addr)))
    (eq-eqb a.size b.size (x.size ∙ sym y.size)))
    (eq-eqb a.addralign b.addralign (x.addralign ∙ sym y.addralign)))
    (eq-eqb a.entsize b.entsize (x.entsize ∙ sym y.entsize))

class_itself : (a b : Class) → a ≡ b → same_class a b ≡ true
class_itself a b e = subst (λ (c : Class). same_class a c ≡ true) e (itself a)
  where
    itself : (c : Class) → same_class c c ≡ true
    itself C32 = refl
    itself C64 = refl

order_itself : (a b : Order) → a ≡ b → same_order a b ≡ true
order_itself a b e = subst (λ (c : Order). same_order a c ≡ true) e (itself a)
  where
    itself : (c : Order) → same_order c c ≡ true
    itself Least = refl
    itself Greatest = refl

headers_alike : (a b h : Ehdr) → SameHeader (without_index h) (without_index a) → SameHeader h b
    → same_header a b ≡ true
unfolding same_header
headers_alike a b h x y =
    and_from _ _ (and_from _ _ (and_from _ _ (and_from _ _ (and_from _ _ (and_from _ _
    (and_from _ _
    (class_itself a.class b.class (sym x.class ∙ y.class))
    (order_itself a.order b.order (sym x.order ∙ y.order)))
    (eq-eqb a.osabi b.osabi (sym x.osabi ∙ y.osabi)))
    (eq-eqb a.abiversion b.abiversion (sym x.abiversion ∙ y.abiversion)))
    (eq-eqb a.etype b.etype (sym x.etype ∙ y.etype)))
    (eq-eqb a.machine b.machine (sym x.machine ∙ y.machine)))
    (eq-eqb a.entry b.entry (sym x.entry ∙ y.entry)))
    (eq-eqb a.flags b.flags (sym x.flags ∙ y.flags))

phdr_itself : (p : Phdr) → same_phdr p p ≡ true
unfolding same_phdr
phdr_itself p =
    and_from _ _ (and_from _ _ (and_from _ _ (and_from _ _ (and_from _ _ (and_from _ _
    (and_from _ _
    (eq-eqb p.ptype p.ptype refl)
    (eq-eqb p.flags p.flags refl))
    (eq-eqb p.offset p.offset refl))
    (eq-eqb p.vaddr p.vaddr refl))
    (eq-eqb p.paddr p.paddr refl))
    (eq-eqb p.filesz p.filesz refl))
    (eq-eqb p.memsz p.memsz refl))
    (eq-eqb p.align p.align refl)

-- ---- The halves match

pub matched : (removed : List ℕ) (whole stripped debug : Object)
    → KeepsAllocated removed whole stripped → KeepsForDebug whole debug
    → is_among removed 0 ≡ false → removed_allocated whole removed ≡ None
    → ((t : ℕ) → 1 ≤ t → t < length stripped.sections
    → (1 ≤ origin_number whole removed t) × (origin_number whole removed t < length whole.sections))
    → matches stripped debug ≡ true
unfolding matches allocated
matched removed whole stripped debug kept half stays none within =
    let origin = origin_number whole removed in
    let listed : allocated debug ≡ map origin (allocated stripped) =
    debug_allocated whole debug half
    ∙ sym (stripped_allocated removed whole stripped kept stays none) in
    let segments : pointwise same_phdr stripped.phdrs debug.phdrs ≡ true =
    ap (λ (l : List Phdr). pointwise same_phdr l debug.phdrs) kept.phdrs
    ∙ ap (λ (l : List Phdr). pointwise same_phdr whole.phdrs l) half.phdrs
    ∙ pointwise_itself same_phdr phdr_itself whole.phdrs in
    let sections : pointwise same_loaded (allocated_headers stripped) (allocated_headers debug)
    ≡ true =
    ap (λ (l : List ℕ). pointwise same_loaded (map (header_at stripped) (allocated stripped))
    (map (header_at debug) l)) listed
    ∙ pointwise_filtered same_loaded (header_at stripped) (header_at debug) origin
    (λ t. is_allocated (header_at stripped t)) 1 (length stripped.sections - 1)
    (λ t from below loaded.
    let inside : t < length stripped.sections = omega (arith, from, below) in
    let number = within t from inside in
    let same = same_allocated (header_at stripped t) (header_at whole (origin t))
    (kept.flags t from inside) in
    loaded_alike (header_at stripped t) (header_at debug (origin t)) (header_at whole (origin t))
    (linked_loaded (header_at stripped t) (header_at whole (origin t))
    (kept.headers t from inside (sym same ∙ loaded)))
    (debug_loaded (header_at debug (origin t)) (header_at whole (origin t))
    (half.headers (origin t) number.0 number.1))) in
    and_from _ _
    (and_from _ _ (headers_alike stripped.header debug.header whole.header kept.header half.header)
    segments)
    sections

-- ---- The law

abbrev pub debug_of_split : (removed : List ℕ) (whole stripped debug : Object)
    → IsSplit removed whole stripped debug → IsDebugHalf whole debug
debug_of_split removed whole stripped debug is = record {
  image = is.image;
  bytes = is.bytes;
  is_whole = is.is_whole;
  half = is.half;
  is_half = is.is_half;
  out = is.debug_out;
  is_out = is.is_debug_out;
  is_debug = is.is_debug;
}

abbrev pub stripped_of_split : (removed : List ℕ) (whole stripped debug : Object)
    → IsSplit removed whole stripped debug → is_among removed 0 ≡ false
    → IsStrippedHalf removed whole stripped
stripped_of_split removed whole stripped debug is stays = record {
  image = is.image;
  bytes = is.bytes;
  is_whole = is.is_whole;
  first_stays = stays;
  made = is.made;
  is_made = is.is_made;
  out = is.out;
  is_out = is.is_out;
  is_stripped = is.is_stripped;
}

pub halves_match : DebugHalfKeeps → StrippedHalfKeeps → HalvesMatch
halves_match debug_keeps stripped_keeps removed whole stripped debug is stays =
    let one = stripped_of_split removed whole stripped debug is stays in
    let kept = stripped_keeps removed whole stripped one in
    let half = debug_keeps whole debug (debug_of_split removed whole stripped debug is) in
    let known = rebuilt_known whole removed is.made is.is_made in
    matched removed whole stripped debug kept half stays is.allocated_stay (λ t from below.
    let count = kept.count in
    let number = kept_number whole removed t stays known.kept from (omega (arith, below, count)) in
    (number.from, number.below))
