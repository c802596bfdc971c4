-- The parts of an object, as they are listed.
use Rattle.std.proofs.Common.{◌≡◌, ◌++◌, ◌+◌, ◌*◌, ◌-◌, ◌≤◌, ℕ, zero, suc, true, false, List, [], ◌∷◌, length, take, drop, get_or, set, map, min, ◌<◌, ◌^◌, Option, Some, None, Ok, refl, sym, ap, ◌∙◌, append_assoc, arith, lit<}
use Rattle.std.specs.List.{range_with_len}
use Rattle.std.proofs.lemmas.List.{append-nil, take_all, drop_all}
use Rattle.std.proofs.lemmas.List.FromFn.{map-range_with_len_more}
use Rattle.elf_types.specs.Answers.{answered}
use Rattle.elf_types.specs.declared.constants.TheConstants.{MAX_SEGMENTS, MAX_SECTIONS}
use Rattle.elf_types.specs.declared.errors.ElfError.{ElfError}
use Rattle.elf_types.specs.declared.records.Class.{Class}
use Rattle.elf_types.specs.declared.records.Class.TheVariants.{C32, C64}
use Rattle.elf_types.specs.declared.records.Ehdr.{Ehdr}
use Rattle.elf_types.specs.declared.records.Part.TheVariants as part
use Rattle.elf_descriptor.specs.elf_layout.declared.parts.PartAt.{PartAt}
use Rattle.elf_descriptor.specs.elf_layout.Capping.{capped}
use Rattle.elf_descriptor.specs.elf_xlate.Headers.{ehdr_size, phdr_size, shdr_size}
use Rattle.elf_descriptor.specs.elf_object.Answers.{no_section}
use Rattle.elf_descriptor.specs.elf_object.Object.{Object, header_of, section_at, has_file_bytes}
use Rattle.elf_descriptor.specs.elf_object.Joined.{file_bytes, pieces_end}
use Rattle.elf_descriptor.specs.elf_object.Layout.{header_part, segments_part, section_part, table_alignment, table_part, section_numbers, parts_of}
use Rattle.elf_descriptor.proofs.law_object.ImageLaws.{joined-none, length-joined}
use Rattle.elf_update_plan.specs.Plans.{no_part, stand_at}
use Rattle.elf_update_plan.specs.Sections.{capped_section}

all_passed : (s n : ℕ) → 1 ≤ s → s ≤ n + 1 → n ≤ s → (1 ≤ n → s ≤ n) → s - 1 ≡ n - 1
all_passed s zero first most le within = omega (arith, first, most)
all_passed s (suc n) first most le within = let last = within (omega arith) in omega (arith, le, last)

module _ (o : Object) (before parts : List PartAt) (s : ℕ) (first : 1 ≤ s)
    (is : parts ≡ before ++ map (capped_section o) (range_with_len 1 (s - 1))) where
  -- one more
  pub sections_more : (next : List PartAt) → next ≡ parts ++ capped_section o s ∷ []
      → next ≡ before ++ map (capped_section o) (range_with_len 1 (s + 1 - 1))
  sections_more next more =
      let at : 1 + (s - 1) ≡ s = omega (arith, first) in
      let count : s - 1 + 1 ≡ s + 1 - 1 = omega (arith, first) in
      more ∙ ap (λ (l : List PartAt). l ++ capped_section o s ∷ []) is
      ∙ append_assoc before (map (capped_section o) (range_with_len 1 (s - 1))) (capped_section o s ∷ [])
      ∙ ap (λ (l : List PartAt). before ++ l) (sym (map-range_with_len_more (capped_section o) 1 (s - 1) s at))
      ∙ ap (λ (n : ℕ). before ++ map (capped_section o) (range_with_len 1 n)) count

  -- all of them
  pub sections_all : s ≤ length o.sections + 1 → length o.sections ≤ s
      → (1 ≤ length o.sections → s ≤ length o.sections) → parts ≡ before ++ map (capped_section o)
      (section_numbers o)
  sections_all most le within =
      let count = all_passed s (length o.sections) first most le within in
      is ∙ ap (λ (n : ℕ). before ++ map (capped_section o) (range_with_len 1 n)) count

-- ---- All parts

map_joined : {X Y : Type 0} (f : X → Y) (a b : List X) → map f (a ++ b) ≡ map f a ++ map f b
map_joined f [] b = refl
map_joined {X} {Y} f (x ∷ a) b = ap (λ (l : List Y). f x ∷ l) (map_joined f a b)

map_twice : {X Y Z : Type 0} (g : Y → Z) (f : X → Y) (l : List X) → map g (map f l) ≡ map (λ x. g (f x)) l
map_twice g f [] = refl
map_twice {X} {Y} {Z} g f (x ∷ l) = ap (λ (m : List Z). g (f x) ∷ m) (map_twice g f l)

-- what is pushed one after the other is the parts, each with a length of at most 2^64 - 1
pub listed_all : (o : Object) → map capped (parts_of o)
    ≡ capped (header_part o) ∷ capped (segments_part o) ∷ map (capped_section o) (section_numbers o)
    ++ capped (table_part o) ∷ []
unfolding parts_of
listed_all o =
    ap (λ (l : List PartAt). capped (header_part o) ∷ capped (segments_part o) ∷ l)
    (map_joined capped (map (section_part o) (section_numbers o)) (table_part o ∷ [])
    ∙ ap (λ (l : List PartAt). l ++ capped (table_part o) ∷ []) (map_twice capped (section_part o) (section_numbers o)))

pub listed_steps : (o : Object) (a b c d : List PartAt) (h s t : PartAt)
    → h ≡ capped (header_part o) → s ≡ capped (segments_part o) → t ≡ capped (table_part o)
    → a ≡ [] ++ h ∷ [] → b ≡ a ++ s ∷ [] → c ≡ b ++ map (capped_section o) (section_numbers o) → d ≡ c ++ t ∷ []
    → d ≡ map capped (parts_of o)
listed_steps o a b c d h s t hh ss tt' first second third last =
    last
    ∙ ap (λ (l : List PartAt). l ++ t ∷ []) (third
    ∙ ap (λ (l : List PartAt). l ++ map (capped_section o) (section_numbers o))
    (second ∙ ap (λ (l : List PartAt). l ++ s ∷ []) first))
    ∙ ap (λ (x : PartAt). h ∷ s ∷ map (capped_section o) (section_numbers o) ++ x ∷ []) tt'
    ∙ ap (λ (x : PartAt). h ∷ x ∷ map (capped_section o) (section_numbers o) ++ capped (table_part o) ∷ []) ss
    ∙ ap (λ (x : PartAt). x ∷ capped (segments_part o) ∷ map (capped_section o) (section_numbers o)
    ++ capped (table_part o) ∷ []) hh
    ∙ sym (listed_all o)

-- ---- Lengths that are told

pub capped_is : (p : PartAt) (n : ℕ) → n ≡ p.len → p.len < 2 ^ 64 → ◌≡◌ {A = PartAt} (record p { len = n }) (capped p)
unfolding capped
capped_is p n is small =
    let least : n ≡ min p.len (2 ^ 64 - 1) = omega (arith, is, small) in
    ap (λ (k : ℕ). record p { len = k }) least

ehdr_small : (class : Class) → ehdr_size class < 2 ^ 64
ehdr_small C32 = lit< tt
ehdr_small C64 = lit< tt

segments_small : (n : ℕ) (class : Class) → n ≤ MAX_SEGMENTS → n * phdr_size class < 2 ^ 64
segments_small n C32 most = let limit : MAX_SEGMENTS < 2 ^ 32 = lit< tt in omega (arith, most, limit)
segments_small n C64 most = let limit : MAX_SEGMENTS < 2 ^ 32 = lit< tt in omega (arith, most, limit)

table_small : (n : ℕ) (class : Class) → n ≤ MAX_SECTIONS → n * shdr_size class < 2 ^ 64
table_small n C32 most = let limit : MAX_SECTIONS < 2 ^ 32 = lit< tt in omega (arith, most, limit)
table_small n C64 most = let limit : MAX_SECTIONS < 2 ^ 32 = lit< tt in omega (arith, most, limit)

pub header_part_is : (o : Object) (h : Ehdr) (size : ℕ) → h ≡ header_of o → size ≡ ehdr_size h.class
    → ◌≡◌ {A = PartAt} (record { part = part.Header; at = 0; len = size; align = 1; filled = true })
    (capped (header_part o))
unfolding header_of
header_part_is o h size is long =
    capped_is (header_part o) size (long ∙ ap (λ (x : Ehdr). ehdr_size x.class) is) (ehdr_small o.header.class)

pub segments_is : (o : Object) (h : Ehdr) (count size : ℕ) → h ≡ header_of o
    → count ≡ length o.phdrs → size ≡ phdr_size h.class → length o.phdrs ≤ MAX_SEGMENTS
    → ◌≡◌ {A = PartAt} (record {
      part = part.Segments;
      at = h.phoff;
      len = count * size;
      align = 1;
      filled = true;
    }) (capped (segments_part o))
unfolding header_of
segments_is o h count size is all long most =
    let first : ◌≡◌ {A = PartAt} (record {
      part = part.Segments;
      at = h.phoff;
      len = count
          * size;
      align = 1;
      filled = true;
    })
    (record { part = part.Segments; at = o.header.phoff; len = count * size; align = 1; filled = true }) =
    ap (λ (x : Ehdr). record { part = part.Segments; at = x.phoff; len = count * size; align = 1; filled = true }) is in
    let len : count * size ≡ length o.phdrs * phdr_size o.header.class =
    ap (λ (n : ℕ). n * size) all ∙ ap (λ (n : ℕ). length o.phdrs * n)
    (long ∙ ap (λ (x : Ehdr). phdr_size x.class) is) in
    first ∙ capped_is (segments_part o) (count * size) len (segments_small (length o.phdrs) o.header.class most)

pub table_part_is : (o : Object) (h : Ehdr) (count size align : ℕ) → h ≡ header_of o
    → count ≡ length o.sections → size ≡ shdr_size h.class
    → align ≡ table_alignment h.class → length o.sections ≤ MAX_SECTIONS
    → ◌≡◌ {A = PartAt} (record {
      part = part.Table;
      at = h.shoff;
      len = count * size;
      align = align;
      filled = true;
    }) (capped (table_part o))
unfolding header_of
table_part_is o h count size align is all long aligned most =
    let first : ◌≡◌ {A = PartAt} (record {
      part = part.Table;
      at = h.shoff;
      len = count
          * size;
      align = align;
      filled = true;
    })
    (record { part = part.Table; at = o.header.shoff; len = count * size; align = align; filled = true }) =
    ap (λ (x : Ehdr). record {
      part = part.Table;
      at = x.shoff;
      len = count * size;
      align = align;
      filled = true;
    }) is in
    let second : ◌≡◌ {A = PartAt} (record {
      part = part.Table;
      at = o.header.shoff;
      len = count
          * size;
      align = align;
      filled = true;
    })
    (record {
      part = part.Table;
      at = o.header.shoff;
      len = count * size;
      align = table_alignment
          o.header.class;
      filled = true;
    }) =
    ap (λ (n : ℕ). record {
      part = part.Table;
      at = o.header.shoff;
      len = count * size;
      align = n;
      filled = true;
    }) (aligned ∙ ap (λ (x : Ehdr). table_alignment x.class) is) in
    let len : count * size ≡ length o.sections * shdr_size o.header.class =
    ap (λ (n : ℕ). n * size) all ∙ ap (λ (n : ℕ). length o.sections * n)
    (long ∙ ap (λ (x : Ehdr). shdr_size x.class) is) in
    first ∙ second ∙ capped_is (table_part o) (count * size) len (table_small (length o.sections) o.header.class most)

pub file_none : (o : Object) (s : ℕ) → has_file_bytes s (section_at o s) ≡ false
    → 0 ≡ min (length (file_bytes o s)) (2 ^ 64 - 1)
file_none o s e =
    let none : length (file_bytes o s) ≡ 0 = ap (λ (l : List ℕ). length l)
    (joined-none o s e) in omega (arith, none)

value_is : (r : Option ElfError) (x y : ℕ) → Ok y ≡ answered r x → y ≡ x
value_is None x y h = cc
value_is (Some e) x y h = cc

pub file_some : (o : Object) (s size : ℕ) → has_file_bytes s (section_at o s) ≡ true
    → Ok size ≡ answered (no_section o s) (min (pieces_end o s) (2 ^ 64 - 1))
    → size ≡ min (length (file_bytes o s)) (2 ^ 64 - 1)
file_some o s size e h =
    value_is (no_section o s) (min (pieces_end o s) (2 ^ 64 - 1)) size h
    ∙ ap (λ (n : ℕ). min n (2 ^ 64 - 1)) (sym (length-joined o s e))

-- ---- Parts at other places

-- the first of them stand there
abbrev pub stood : List PartAt → List ℕ → ℕ → List PartAt
stood ps at i = stand_at (take i ps) at ++ drop i ps

pub length-stood : (ps : List PartAt) (at : List ℕ) (i : ℕ) → length at ≡ length ps
    → length (stood ps at i) ≡ length ps
length-stood [] at zero same = refl
length-stood [] at (suc i) same = refl
length-stood (p ∷ ps) at zero same = refl
length-stood (p ∷ ps) [] (suc i) same = absurd (omega (arith, same))
length-stood (p ∷ ps) (n ∷ at) (suc i) same =
    ap suc (length-stood ps at i (omega (arith, same)))

stood_more : (ps : List PartAt) (at : List ℕ) (i : ℕ) → i < length ps → length at ≡ length ps
    → set (stood ps at i) i (record (get_or (stood ps at i) i no_part) { at = get_or at i 0 })
    ≡ stood ps at (suc i)
stood_more [] at i there same = absurd (omega arith)
stood_more (p ∷ ps) [] i there same = absurd (omega (arith, same))
stood_more (p ∷ ps) (n ∷ at) zero there same = refl
stood_more (p ∷ ps) (n ∷ at) (suc i) there same =
    ap (λ (l : List PartAt). record p { at = n } ∷ l)
    (stood_more ps at i (omega arith) (omega (arith, same)))

pub stands_more : (ps now next : List PartAt) (at : List ℕ) (i : ℕ) → i < length ps
    → length at ≡ length ps → now ≡ stood ps at i
    → next ≡ set now i (record (get_or now i no_part) { at = get_or at i 0 })
    → next ≡ stood ps at (i + 1)
stands_more ps now next at i there same is more =
    let count : suc i ≡ i + 1 = omega arith in
    more
    ∙ ap (λ (l : List PartAt). set l i (record (get_or l i no_part) { at = get_or at i 0 })) is
    ∙ stood_more ps at i there same ∙ ap (λ (n : ℕ). stood ps at n) count

pub stands_all : (ps now : List PartAt) (at : List ℕ) (i : ℕ) → length ps ≤ i
    → now ≡ stood ps at i → now ≡ stand_at ps at
stands_all ps now at i all is =
    is ∙ ap (λ (l : List PartAt). stand_at l at ++ drop i ps) (take_all i ps all)
    ∙ ap (λ (l : List PartAt). stand_at ps at ++ l) (drop_all i ps all)
    ∙ append-nil (stand_at ps at)
