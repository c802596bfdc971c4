-- Parts that differ only in places that do not count have the same places, lengths and refusals.
use Rattle.std.proofs.Common.{◌≡◌, ℕ, zero, suc, ◌+◌, ◌-◌, ◌<◌, max, Bool, true, false, not, ◌&&◌, ◌||◌, cond, List, [], ◌∷◌, ◌++◌, length, get_or, Option, Some, None, refl, sym, ap, ◌∙◌, subst, arith, ⊎_elim}
use Rattle.std.specs.Prelude.{nat_lt, if◌then◌else◌, ◌==◌, map}
use Rattle.std.specs.List.{range_with_len, filter}
use Rattle.std.specs.Option.{option_or, option_map}
use Rattle.std.proofs.lemmas.Bool.{cases_lt, ltb-true}
use Rattle.std.proofs.lemmas.List.{get_or-map}
use Rattle.elf_types.specs.declared.records.Class.{Class}
use Rattle.elf_types.specs.declared.errors.ElfError.{ElfError}
use Rattle.elf_types.specs.declared.errors.ElfError.TheVariants.{Overlap, TooLarge}
use Rattle.elf_object.specs.elf_xlate.Headers.{ehdr_size, phdr_size, shdr_size}
use Rattle.elf_object.specs.elf_layout.declared.parts.PartAt.{PartAt}
use Rattle.elf_object.specs.elf_layout.Layout.{some_above, place_of, end_after, in_order_from, standing, length_with, length_from, length_of, positions, limit_of, is_too_large, overlap_refusal, refusal_within, refusal_of}
use Rattle.elf_object.specs.elf_layout.Meeting.{has_bytes, end_of, sorted_by, first_met, parts_by_position, overlap_of}
use Rattle.elf_object.specs.Object.{Object, section_at, has_file_bytes}
use Rattle.elf_object.specs.Joined.{file_bytes}
use Rattle.elf_object.specs.Layout.{header_part, segments_part, section_part, table_part, table_alignment, parts_of}
use Rattle.law_object.proofs.StandLaws.{some_of, row_left, row_last, length-row, file_bytes_when}

-- ---- Parts that differ in places that do not count

-- the same part; and, where the caller's places count and the image holds bytes of it, at the same place
pub record SamePart (layout : Bool) (p q : PartAt) : Type 0 where
  pub part : p.part ≡ q.part
  pub len : p.len ≡ q.len
  pub align : p.align ≡ q.align
  pub filled : p.filled ≡ q.filled
  pub at : layout ≡ true → has_bytes p ≡ true → p.at ≡ q.at

pub SameParts : Bool → List PartAt → List PartAt → Type 0
SameParts layout [] [] = Unit {0}
SameParts layout [] (q ∷ qs) = ⊥
SameParts layout (p ∷ ps) [] = ⊥
SameParts layout (p ∷ ps) (q ∷ qs) = SamePart layout p q × SameParts layout ps qs

moved_same : (layout : Bool) (p q : PartAt) (m n : ℕ) → SamePart layout p q → m ≡ n → record p { at = m } ≡ record q { at = n }
moved_same layout p q m n same e =
    let part = same.part in let len = same.len in let align = same.align in let filled = same.filled in cc

has_bytes-same : (layout : Bool) (p q : PartAt) → SamePart layout p q → has_bytes p ≡ has_bytes q
unfolding has_bytes
has_bytes-same layout p q same = let len = same.len in let filled = same.filled in cc

-- where a part counts with the caller's places, it is the same
whole_same : (p q : PartAt) → SamePart true p q → has_bytes p ≡ true → p ≡ q
whole_same p q same some = moved_same true p q p.at q.at same (same.at refl some)

place_of-same : (layout : Bool) (end : ℕ) (p q : PartAt) → SamePart layout p q → place_of end p ≡ place_of end q
unfolding place_of
place_of-same layout end p q same = let align = same.align in cc

end_after-same : (layout : Bool) (end : ℕ) (p q : PartAt) → SamePart layout p q → end_after end p ≡ end_after end q
unfolding end_after
end_after-same layout end p q same =
    let filled = same.filled in let len = same.len in let place = place_of-same layout end p q same in cc

pub in_order_from-same : (layout : Bool) (end : ℕ) (ps qs : List PartAt) → SameParts layout ps qs → in_order_from end ps ≡ in_order_from end qs
unfolding SameParts in_order_from
in_order_from-same layout end [] [] same = refl
in_order_from-same layout end [] (q ∷ qs) same = absurd same
in_order_from-same layout end (p ∷ ps) [] same = absurd same
in_order_from-same layout end (p ∷ ps) (q ∷ qs) same =
    let here = moved_same layout p q (place_of end p) (place_of end q) same.0 (place_of-same layout end p q same.0) in
    let further = end_after-same layout end p q same.0 in
    let rest = in_order_from-same layout (end_after end p) ps qs same.1 in
    let there = ap (λ (e : ℕ). in_order_from e qs) further in
    cc

length_from-same : (n : ℕ) (ps qs : List PartAt) → SameParts true ps qs → length_from n ps ≡ length_from n qs
unfolding SameParts length_from length_with
length_from-same n [] [] same = refl
length_from-same n [] (q ∷ qs) same = absurd same
length_from-same n (p ∷ ps) [] same = absurd same
length_from-same n (p ∷ ps) (q ∷ qs) same =
    let bytes = has_bytes-same true p q same.0 in
    let here = by_test (has_bytes p) (has_bytes q) refl bytes in
    length_from-same (if has_bytes p then max n (end_of p) else n) ps qs same.1 ∙ ap (λ (m : ℕ). length_from m qs) here
  where
    by_test : (a b : Bool) → has_bytes p ≡ a → a ≡ b → (if a then max n (end_of p) else n) ≡ (if b then max n (end_of q) else n)
    by_test true b e f = rw (← f) (ap (λ (x : PartAt). max n (end_of x)) (whole_same p q same.0 e))
    by_test false b e f = rw (← f) refl

filter-same : (ps qs : List PartAt) → SameParts true ps qs → filter has_bytes ps ≡ filter has_bytes qs
unfolding SameParts
filter-same [] [] same = refl
filter-same [] (q ∷ qs) same = absurd same
filter-same (p ∷ ps) [] same = absurd same
filter-same (p ∷ ps) (q ∷ qs) same =
    let bytes = has_bytes-same true p q same.0 in
    by_test (has_bytes p) (has_bytes q) refl bytes (filter-same ps qs same.1)
  where
    by_test : (a b : Bool) → has_bytes p ≡ a → a ≡ b → filter has_bytes ps ≡ filter has_bytes qs → cond a (p ∷ filter has_bytes ps) (filter has_bytes ps) ≡ cond b (q ∷ filter has_bytes qs) (filter has_bytes qs)
    by_test true b e f rest = rw (← f) (let whole = whole_same p q same.0 e in cc)
    by_test false b e f rest = rw (← f) rest

-- an image of the same parts is as long, and is refused alike
pub length_of-same : (layout : Bool) (ps qs : List PartAt) (base : ℕ) → SameParts layout ps qs → length_of ps layout base ≡ length_of qs layout base
unfolding length_of standing
length_of-same true ps qs base same = length_from-same base ps qs same
length_of-same false ps qs base same = ap (length_from 0) (in_order_from-same false 0 ps qs same)

overlap-same : (layout : Bool) (ps qs : List PartAt) → SameParts layout ps qs → overlap_refusal ps layout ≡ overlap_refusal qs layout
unfolding overlap_refusal overlap_of parts_by_position
overlap-same true ps qs same = ap (λ (l : List PartAt). option_map (λ pair. Overlap pair.0 pair.1) (first_met (sorted_by (λ p. p.at) l))) (filter-same ps qs same)
overlap-same false ps qs same = refl

large-same : (layout : Bool) (ps qs : List PartAt) (base limit : ℕ) → SameParts layout ps qs → is_too_large ps layout base limit ≡ is_too_large qs layout base limit
unfolding is_too_large standing
large-same true ps qs base limit same = ap (λ (n : ℕ). nat_lt limit n || false) (length_of-same true ps qs base same)
large-same false ps qs base limit same =
    let len = length_of-same false ps qs base same in
    let order = in_order_from-same false 0 ps qs same in
    let above = ap (some_above limit) order in
    cc

pub refusal_of-same : (layout : Bool) (ps qs : List PartAt) (base : ℕ) (class : Class) → SameParts layout ps qs → refusal_of ps layout base class ≡ refusal_of qs layout base class
unfolding refusal_of refusal_within
refusal_of-same layout ps qs base class same =
    let overlap = overlap-same layout ps qs same in
    let large = large-same layout ps qs base (limit_of class) same in
    ap (λ (o : Option ElfError). option_or o (if is_too_large ps layout base (limit_of class) then Some TooLarge else None)) overlap
    ∙ ap (λ (b : Bool). option_or (overlap_refusal qs layout) (if b then Some TooLarge else None)) large

-- the base counts with the caller's places alone
pub refusal_of-base : (layout : Bool) (ps : List PartAt) (base other : ℕ) (class : Class) → (layout ≡ true → base ≡ other) → refusal_of ps layout base class ≡ refusal_of ps layout other class
unfolding refusal_of refusal_within is_too_large length_of
refusal_of-base true ps base other class e = ap (λ (n : ℕ). refusal_of ps true n class) (e refl)
refusal_of-base false ps base other class e = refl

pub length_of-base : (layout : Bool) (ps : List PartAt) (base other : ℕ) → (layout ≡ true → base ≡ other) → length_of ps layout base ≡ length_of ps layout other
unfolding length_of
length_of-base true ps base other e = ap (λ (n : ℕ). length_of ps true n) (e refl)
length_of-base false ps base other e = refl

-- a part of which the image holds bytes has the same place
get_same : (layout : Bool) (ps qs : List PartAt) (i : ℕ) (d : PartAt) → SameParts layout ps qs → i < length ps → SamePart layout (get_or ps i d) (get_or qs i d)
unfolding SameParts
get_same layout [] [] i d same h = absurd (omega arith)
get_same layout [] (q ∷ qs) i d same h = absurd same
get_same layout (p ∷ ps) [] i d same h = absurd same
get_same layout (p ∷ ps) (q ∷ qs) zero d same h = same.0
get_same layout (p ∷ ps) (q ∷ qs) (suc i) d same h = get_same layout ps qs i d same.1 (omega arith)

length_same : (layout : Bool) (ps qs : List PartAt) → SameParts layout ps qs → length ps ≡ length qs
unfolding SameParts
length_same layout [] [] same = refl
length_same layout [] (q ∷ qs) same = absurd same
length_same layout (p ∷ ps) [] same = absurd same
length_same layout (p ∷ ps) (q ∷ qs) same = ap suc (length_same layout ps qs same.1)

pub place-same : (layout : Bool) (ps qs : List PartAt) (i : ℕ) (d : PartAt) → SameParts layout ps qs → i < length ps → has_bytes (get_or ps i d) ≡ true → get_or (positions (standing ps layout)) i 0 ≡ get_or (positions (standing qs layout)) i 0
unfolding positions standing
place-same true ps qs i d same h some =
    let count = length_same true ps qs same in
    get_or-map (λ (p : PartAt). p.at) ps i d 0 h ∙ (get_same true ps qs i d same h).at refl some ∙ sym (get_or-map (λ (p : PartAt). p.at) qs i d 0 (omega arith))
place-same false ps qs i d same h some = ap (λ (l : List PartAt). get_or (map (λ p. p.at) l) i 0) (in_order_from-same false 0 ps qs same)

-- ---- Objects with the same parts

-- two objects whose parts are the same
pub record SamePlan (layout : Bool) (q o : Object) : Type 0 where
  pub class : q.header.class ≡ o.header.class
  pub phdrs : length q.phdrs ≡ length o.phdrs
  pub count : length q.sections ≡ length o.sections
  pub bytes : (s : ℕ) → length (file_bytes q s) ≡ length (file_bytes o s)
  pub stype : (s : ℕ) → (section_at q s).header.stype ≡ (section_at o s).header.stype
  pub addralign : (s : ℕ) → (section_at q s).header.addralign ≡ (section_at o s).header.addralign
  pub segments : layout ≡ true → 0 < length o.phdrs → q.header.phoff ≡ o.header.phoff
  pub table : layout ≡ true → 0 < length o.sections → q.header.shoff ≡ o.header.shoff
  pub offset : layout ≡ true → (s : ℕ) → 0 < s → s < length o.sections → has_file_bytes s (section_at o s) ≡ true → (section_at q s).header.offset ≡ (section_at o s).header.offset

-- parts of one kind and length
same_part : (layout : Bool) (p q : PartAt) → p.part ≡ q.part → p.len ≡ q.len → p.align ≡ q.align → p.filled ≡ q.filled → (layout ≡ true → q.filled ≡ true → 0 < q.len → p.at ≡ q.at) → SamePart layout p q
unfolding has_bytes
same_part layout p q part len align filled at = record {
  part = part;
  len = len;
  align = align;
  filled = filled;
  at = λ e some. by_test p.filled refl some e;
}
  where
    by_test : (b : Bool) → p.filled ≡ b → (p.filled && nat_lt 0 p.len) ≡ true → layout ≡ true → p.at ≡ q.at
    by_test true e some lay =
        let full : nat_lt 0 p.len ≡ true = rw e at some in
        let positive = ltb-true 0 p.len full in
        at lay (sym filled ∙ e) (omega arith)
    by_test false e some lay = let none : false ≡ true = rw e at some in cc

segments_same : (layout : Bool) (q o : Object) → SamePlan layout q o → SamePart layout (segments_part q) (segments_part o)
segments_same layout q o plan =
    let class = plan.class in
    let phdrs = plan.phdrs in
    same_part layout (segments_part q) (segments_part o) refl (cc) refl refl
    (λ lay filled some. plan.segments lay (some_of (length o.phdrs) (phdr_size o.header.class) some))

table_same : (layout : Bool) (q o : Object) → SamePlan layout q o → SamePart layout (table_part q) (table_part o)
table_same layout q o plan =
    let class = plan.class in
    let count = plan.count in
    same_part layout (table_part q) (table_part o) refl (cc) (ap table_alignment class) refl
    (λ lay filled some. plan.table lay (some_of (length o.sections) (shdr_size o.header.class) some))

header_same : (layout : Bool) (q o : Object) → SamePlan layout q o → SamePart layout (header_part q) (header_part o)
header_same layout q o plan = same_part layout (header_part q) (header_part o) refl (ap ehdr_size plan.class) refl refl (λ lay filled some. refl)

section_same : (layout : Bool) (q o : Object) (s : ℕ) → SamePlan layout q o → 0 < s → s < length o.sections → SamePart layout (section_part q s) (section_part o s)
unfolding section_part
section_same layout q o s plan positive inside =
    let stype = plan.stype s in
    let align = plan.addralign s in
    same_part layout (section_part q s) (section_part o s) refl (plan.bytes s) (cc) (ap (λ (t : ℕ). not (t == 0 || t == 8)) stype)
    (λ lay filled some. plan.offset lay s positive inside (file_bytes_when s (section_at o s) positive ∙ filled))

-- the parts at each index
same_parts : (layout : Bool) (ps qs : List PartAt) (d : PartAt) → length ps ≡ length qs → ((i : ℕ) → i < length ps → SamePart layout (get_or ps i d) (get_or qs i d)) → SameParts layout ps qs
unfolding SameParts
same_parts layout [] [] d len each = tt
same_parts layout [] (q ∷ qs) d len each = absurd (omega arith)
same_parts layout (p ∷ ps) [] d len each = absurd (omega arith)
same_parts layout (p ∷ ps) (q ∷ qs) d len each =
    (each 0 (omega arith), same_parts layout ps qs d (omega arith) (λ i h. each (suc i) (omega arith)))

same_part_at : (layout : Bool) (q o : Object) (i : ℕ) (d : PartAt) → SamePlan layout q o → i < length (parts_of o) → SamePart layout (get_or (parts_of q) i d) (get_or (parts_of o) i d)
unfolding parts_of
same_part_at layout q o zero d plan h = header_same layout q o plan
same_part_at layout q o (suc zero) d plan h = segments_same layout q o plan
same_part_at layout q o (suc (suc j)) d plan h =
    let count = length-row (section_part o) (length o.sections - 1) (table_part o) in
    let numbers : length q.sections - 1 ≡ length o.sections - 1 = ap (λ (n : ℕ). n - 1) plan.count in
    let R : ℕ → Type 0 = λ n. SamePart layout (get_or (map (section_part q) (range_with_len 1 n) ++ table_part q ∷ []) j d) (get_or (map (section_part o) (range_with_len 1 (length o.sections - 1)) ++ table_part o ∷ []) j d) in
    subst R (sym numbers) (⊎_elim
    (λ below.
    let left = row_left (section_part q) (length o.sections - 1) (table_part q) j d below in
    let right = row_left (section_part o) (length o.sections - 1) (table_part o) j d below in
    let same = section_same layout q o (1 + j) plan (omega arith) (omega arith) in
    subst (λ (x : PartAt). SamePart layout x (get_or (map (section_part o) (range_with_len 1 (length o.sections - 1)) ++ table_part o ∷ []) j d)) (sym left)
    (subst (λ (x : PartAt). SamePart layout (section_part q (1 + j)) x) (sym right) same))
    (λ past.
    let last : j ≡ length o.sections - 1 = omega arith in
    let left = row_last (section_part q) (length o.sections - 1) (table_part q) j d last in
    let right = row_last (section_part o) (length o.sections - 1) (table_part o) j d last in
    subst (λ (x : PartAt). SamePart layout x (get_or (map (section_part o) (range_with_len 1 (length o.sections - 1)) ++ table_part o ∷ []) j d)) (sym left)
    (subst (λ (x : PartAt). SamePart layout (table_part q) x) (sym right) (table_same layout q o plan)))
    (cases_lt j (length o.sections - 1)))

pub length-parts_of : (o : Object) → length (parts_of o) ≡ length o.sections - 1 + 3
unfolding parts_of
length-parts_of o = let count = length-row (section_part o) (length o.sections - 1) (table_part o) in omega arith

pub parts_of-same : (layout : Bool) (q o : Object) → SamePlan layout q o → SameParts layout (parts_of q) (parts_of o)
parts_of-same layout q o plan =
    let left = length-parts_of q in
    let right = length-parts_of o in
    let count = plan.count in
    same_parts layout (parts_of q) (parts_of o) (header_part o) (omega arith) (λ i h. same_part_at layout q o i (header_part o) plan (omega arith))
