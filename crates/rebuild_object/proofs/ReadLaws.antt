-- What was read, as that of a base: over a source that does not tell its bytes it may be any of the
-- right length.
use Rattle.std.proofs.Common.{◌≡◌, ℕ, ◌+◌, ◌-◌, ◌==◌, ◌^◌, ◌<◌, ◌≤◌, Bool, true, false, List, [], ◌∷◌, ◌++◌, length, take, drop, Result, Ok, Err, if◌then◌else◌, refl, sym, ap, ◌∙◌, subst, arith, lit<}
use Rattle.std.specs.Prelude.{IfOk}
use Rattle.std.specs.List.{range_with_len}
use Rattle.std.proofs.Math.ListN.{replicate}
use Rattle.std.proofs.lemmas.Bool.{eq-eqb, ne_eqb}
use Rattle.std.proofs.lemmas.List.{drop_at, length-append, length-replicate, take_at}
use Rattle.std.proofs.lemmas.List.Elements.{All-append, All-replicate}
use Rattle.elf_types.specs.Lists.{AreBytes}
use Rattle.elf_types.specs.declared.records.Kind.{Kind}
use Rattle.elf_types.specs.declared.records.Shdr.{Shdr}
use Rattle.elf_types.specs.declared.errors.ElfError.{ElfError}
use Rattle.elf_xlate.specs.declared.content.Items.{Items}
use Rattle.elf_xlate.specs.declared.content.Items.TheVariants as items
use Rattle.elf_object.specs.Object.{Object, Section, occupies_file}
use Rattle.rebuild_model.specs.Rebuilt.{made_section}
use Rattle.rebuild_plan.specs.rebuild_image.declared.ranges.ranges.ByteRange.{ByteRange}
use Rattle.rebuild_plan.specs.rebuild_image.Ranges.Ranges.{IsInside}
use Rattle.rebuild_plan.specs.rebuild_making.Making.{sections_by}
use Rattle.rebuild_plan.specs.declared.arranged.Arranged.{Arranged}
use Rattle.rebuild_object.specs.Objects.{Bases, AreBasesOf, arranged_header, arranged_kind, items_over, range_in, range_items}
use Rattle.rebuild_object.specs.Filled.{IsReadRange, IsReadSection, AreReadSections}
use Rattle.rebuild_object.proofs.ItemLaws.{nothing_over}
use Rattle.rebuild_object.proofs.StatedLaws.{stated_one, stated_none, stated_next, stated_alike}

-- ---- Bytes over zeros

pub zeros_are : (n : ℕ) → AreBytes (replicate n 0)
zeros_are n = All-replicate (λ b. b < 2 ^ 8) n 0 (lit< tt)

pub zeros_long : (n : ℕ) → length (replicate {A = ℕ} n 0) ≡ n
zeros_long n = length-replicate {A = ℕ} n 0

module _ (n at len : ℕ) (bytes : List ℕ) (long : length bytes ≡ len) where
  -- so many bytes, which are zeros but for these from a place on
  abbrev laid_over : List ℕ
  laid_over = replicate at 0 ++ (bytes ++ replicate (n - (at + len)) 0)

  over_are : AreBytes bytes → AreBytes laid_over
  over_are are =
      All-append (λ b. b < 2 ^ 8) (replicate at 0) (bytes ++ replicate (n - (at + len)) 0)
      (zeros_are at)
      (All-append (λ b. b < 2 ^ 8) bytes (replicate (n - (at + len)) 0) are
      (zeros_are (n - (at + len))))

  over_long : at + len ≤ n → length laid_over ≡ n
  over_long inside =
      let whole = length-append {A = ℕ} (replicate at 0) (bytes ++ replicate (n - (at + len)) 0) in
      let rest = length-append {A = ℕ} bytes (replicate (n - (at + len)) 0) in
      let before = zeros_long at in
      let after = zeros_long (n - (at + len)) in
      omega (arith, whole, rest, before, after, long, inside)

  over_is : take len (drop at laid_over) ≡ bytes
  over_is =
      ap (λ (l : List ℕ). take len l)
      (drop_at {A = ℕ} (replicate at 0) (bytes ++ replicate (n - (at + len)) 0) at (zeros_long at))
      ∙ take_at {A = ℕ} bytes (replicate (n - (at + len)) 0) len long

-- ---- A range

module _ (held base : List ℕ) (range : ByteRange) where
  held_read : (bytes : List ℕ) → range.held ≡ true → bytes ≡ take range.len (drop range.at held)
      → IsReadRange held base range bytes
  held_read bytes is same = record {
    over = replicate (length base) 0;
    are = zeros_are (length base);
    long = zeros_long (length base);
    is = same
        ∙ sym (ap (λ (b : Bool). take range.len
        (drop range.at (if b then held else replicate (length base) 0))) is);
  }

  base_read : (bytes : List ℕ) → range.held ≡ false → IsInside held base range → AreBytes bytes
      → length bytes ≡ range.len → IsReadRange held base range bytes
  base_read bytes is inside are long =
      let within : range.at + range.len ≤ length base =
      subst (λ (b : Bool). range.at + range.len ≤ length (if b then held else base)) is inside in
      record {
        over = laid_over (length base) range.at range.len bytes long;
        are = over_are (length base) range.at range.len bytes long are;
        long = over_long (length base) range.at range.len bytes long within;
        is = sym (ap (λ (b : Bool). take range.len (drop range.at
            (if b then held else laid_over (length base) range.at range.len bytes long))) is
            ∙ over_is (length base) range.at range.len bytes long);
      }

  pub held_reads : (r : Result (List ℕ) ElfError) → range.held ≡ true
      → IfOk r (λ bytes. bytes ≡ take range.len (drop range.at held))
      → IfOk r (IsReadRange held base range)
  held_reads (Ok bytes) is same = held_read bytes is same
  held_reads (Err e) is same = tt

  pub base_reads : (r : Result (List ℕ) ElfError) → range.held ≡ false → IsInside held base range
      → IfOk r AreBytes → IfOk r (λ bytes. length bytes ≡ range.len)
      → IfOk r (IsReadRange held base range)
  base_reads (Ok bytes) is inside are long = base_read bytes is inside are long
  base_reads (Err e) is inside are long = tt

-- ---- A section

pub nothing_read : (o : Object) (held : List ℕ) (h : Shdr) (range : ByteRange) (kind : Kind)
    → occupies_file h ≡ false → IsReadSection o held h range kind items.Empty
nothing_read o held h range kind is = record {
  over = replicate (length o.base) 0;
  are = zeros_are (length o.base);
  long = zeros_long (length o.base);
  is = sym (nothing_over o.header.class o.header.order held (replicate (length o.base) 0) h range
      kind is);
}

pub items_read : (o : Object) (held : List ℕ) (h : Shdr) (range : ByteRange) (kind : Kind)
    (bytes : List ℕ) (read : IsReadRange held o.base range bytes) (r : Result Items ElfError)
    → IfOk r (λ x. x
    ≡ range_items o.header.class o.header.order held read.over h range kind)
    → IfOk r (IsReadSection o held h range kind)
items_read o held h range kind bytes read (Ok x) is =
    record { over = read.over; are = read.are; long = read.long; is = is }
items_read o held h range kind bytes read (Err e) is = tt

-- ---- Bases

pub zero_bases : Object → Bases
zero_bases o = record {
  front = replicate (length o.base) 0;
  each = λ s. replicate (length o.base) 0;
}

pub zero_bases_suit : (o : Object) → AreBasesOf o (zero_bases o)
unfolding zero_bases
zero_bases_suit o = record {
  front_bytes = zeros_are (length o.base);
  front_long = zeros_long (length o.base);
  bytes = λ s. zeros_are (length o.base);
  long = λ s. zeros_long (length o.base);
}

-- another base for one section
abbrev with_base : Bases → ℕ → List ℕ → Bases
with_base b s base = record b { each = λ n. if n == s then base else b.each n }

pub chosen : (t : Bool) (P : List ℕ → Type 0) (u v : List ℕ) → P u → P v
    → P (if t then u else v)
chosen t P u v one other = by t
  where
    by : (b : Bool) → P (if b then u else v)
    by true = one
    by false = other

with_base_suits : (o : Object) (b : Bases) (s : ℕ) (base : List ℕ) → AreBasesOf o b
    → AreBytes base → length base ≡ length o.base → AreBasesOf o (with_base b s base)
with_base_suits o b s base suit are long = record {
  front_bytes = suit.front_bytes;
  front_long = suit.front_long;
  bytes = λ n. chosen (n == s) AreBytes base (b.each n) are (suit.bytes n);
  long = λ n. chosen (n == s) (λ (l : List ℕ). length l ≡ length o.base) base (b.each n) long
      (suit.long n);
}

module _ (o : Object) (x : Arranged) (b : Bases) (s : ℕ) (base : List ℕ) where
  items_other : (n : ℕ) → (n ≡ s → ⊥) → items_over b o x n ≡ items_over (with_base b s base) o x n
  items_other n other =
      sym (ap (λ (t : Bool). range_items o.header.class o.header.order x.held
      (if t then base else b.each n) (arranged_header x n) (range_in x n) (arranged_kind x n))
      (ne_eqb n s other))

  items_here : range_items o.header.class o.header.order x.held base (arranged_header x s)
      (range_in x s) (arranged_kind x s) ≡ items_over (with_base b s base) o x s
  items_here =
      sym (ap (λ (t : Bool). range_items o.header.class o.header.order x.held
      (if t then base else b.each s) (arranged_header x s) (range_in x s) (arranged_kind x s))
      (eq-eqb s s refl))

-- ---- Sections

pub none_read : (o : Object) (x : Arranged) → AreReadSections o x [] []
none_read o x = record {
  bases = zero_bases o;
  suit = zero_bases_suit o;
  is = sym (stated_none (arranged_header x) (items_over (zero_bases o) o x));
}

pub one_read : (o : Object) (x : Arranged) (s : ℕ) (items : Items)
    → IsReadSection o x.held (arranged_header x s) (range_in x s) (arranged_kind x s) items
    → AreReadSections o x (s ∷ []) (made_section (arranged_header x s) items ∷ [])
one_read o x s items read = record {
  bases = with_base (zero_bases o) s read.over;
  suit = with_base_suits o (zero_bases o) s read.over (zero_bases_suit o) read.are read.long;
  is = ap (λ (i : Items). made_section (arranged_header x s) i ∷ [])
      (read.is ∙ items_here o x (zero_bases o) s read.over)
      ∙ sym (stated_one (arranged_header x)
      (items_over (with_base (zero_bases o) s read.over) o x) s);
}

-- those before a number, and the one with it
module _ (o : Object) (x : Arranged) (s : ℕ) (some : 1 ≤ s) (l m : List Section)
    (before : AreReadSections o x (range_with_len 1 (s - 1)) l)
    (next : AreReadSections o x (s ∷ []) m) where
  abbrev base : List ℕ
  base = next.bases.each s

  abbrev bases : Bases
  bases = with_base before.bases s base

  before_is : l
      ≡ sections_by (arranged_header x) (items_over bases o x) (range_with_len 1 (s - 1))
  before_is =
      before.is
      ∙ stated_alike (arranged_header x) (items_over before.bases o x) (items_over bases o x)
      (s - 1) (λ i low. items_other o x before.bases s base i
      (λ same. omega (arith, low, same, some)))

  next_is : m ≡ sections_by (arranged_header x) (items_over bases o x) (s ∷ [])
  next_is =
      next.is
      ∙ stated_one (arranged_header x) (items_over next.bases o x) s
      ∙ ap (λ (i : Items). made_section (arranged_header x s) i ∷ [])
      (items_here o x before.bases s base)
      ∙ sym (stated_one (arranged_header x) (items_over bases o x) s)

  pub more_read : AreReadSections o x (range_with_len 1 s) (l ++ m)
  more_read = record {
    bases = bases;
    suit = with_base_suits o before.bases s base before.suit (next.suit.bytes s)
        (next.suit.long s);
    is = ap (λ (c : List Section). c ++ m) before_is
        ∙ ap (λ (c : List Section).
        sections_by (arranged_header x) (items_over bases o x) (range_with_len 1 (s - 1)) ++ c)
        next_is
        ∙ stated_next (arranged_header x) (items_over bases o x) s some;
  }
