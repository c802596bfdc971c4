-- What was gathered, with one row behind the others.
use Rattle.std.proofs.Common.{◌≡◌, ◌<◌, ◌+◌, ◌≤◌, ℕ, true, List, [], ◌∷◌, ◌++◌, length, length-append, refl, sym, ap, ◌∙◌, subst, inl, inr, arith}
use Rattle.std.specs.Prelude.{slice_get, unwrap_or}
use Rattle.std.proofs.lemmas.Bool.{cases_eq, cases_lt}
use Rattle.std.proofs.lemmas.List.{append-nil, get_or_append_left, get_or_push, get_or_past}
use Rattle.std.proofs.lemmas.Option.{unwrap_or-slice_get}
use Rattle.elf_types.specs.declared.constants.TheConstants.{SHT_STRTAB}
use Rattle.elf_types.specs.declared.records.Kind.{Kind}
use Rattle.elf_types.specs.declared.records.Kind.TheVariants as kinds
use Rattle.elf_types.specs.declared.records.Shdr.{Shdr}
use Rattle.elf_ident.specs.Front.{zero_shdr}
use Rattle.elf_object.specs.Object.{Object, header_of, section_at, new_section}
use Rattle.elf_object.specs.Valid.{IsObject}
use Rattle.rebuild_plan.specs.rebuild_image.declared.ranges.ranges.ByteRange.{ByteRange}
use Rattle.rebuild_plan.specs.declared.arranged.Arranged.{Arranged}
use Rattle.rebuild_copy.specs.Rows.{empty_held_range, gathered_header, size_in, gathered_range, gathered_kind, IsGatheredSection, Origin, IsListedAs, IsContents}
use Rattle.rebuild_copy.proofs.RowLaws.{row_as, class_as, HasSameFrame, frame_as}

-- ---- Lists

module _ {X : Type 0} (l : List X) (x d : X) where
  at_last : (n : ℕ) → length l ≡ n → unwrap_or (slice_get (l ++ x ∷ []) n) d ≡ x
  at_last n at = unwrap_or-slice_get (l ++ x ∷ []) n d ∙ get_or_push l x d n at

  at_before : (t : ℕ) → t < length l
      → unwrap_or (slice_get (l ++ x ∷ []) t) d ≡ unwrap_or (slice_get l t) d
  at_before t below =
      unwrap_or-slice_get (l ++ x ∷ []) t d
      ∙ get_or_append_left l (x ∷ []) d t below
      ∙ sym (unwrap_or-slice_get l t d)

at_past : {X : Type 0} (l : List X) (d : X) (t : ℕ) → length l ≤ t
    → unwrap_or (slice_get l t) d ≡ d
at_past l d t past = unwrap_or-slice_get l t d ∙ get_or_past l t d past

-- ---- A header of zeros

pub zero_type : zero_shdr.stype ≡ 0
unfolding zero_shdr
zero_type = refl

-- ---- One row more

module _ (o : Origin) (p q : Object) (x y : Arranged) (is : IsListedAs o p x) (h : Shdr)
    (size : ℕ) (range : ByteRange) (kind : Kind) (more : List ℕ) (same : HasSameFrame p q)
    (long : length q.sections ≡ length p.sections + 1)
    (other : (t : ℕ) → t < length p.sections → section_at q t ≡ section_at p t)
    (headers : y.listed.headers ≡ x.listed.headers ++ h ∷ [])
    (sizes : y.listed.sizes ≡ x.listed.sizes ++ size ∷ [])
    (ranges : y.ranges ≡ x.ranges ++ range ∷ []) (kinds_are : y.kinds ≡ x.kinds ++ kind ∷ [])
    (held : y.held ≡ x.held ++ more)
    (row : IsGatheredSection p.header.class p.header.order (o.bases.each (length p.sections))
    y.held (section_at q (length p.sections)) h size range kind) where
  abbrev n : ℕ
  n = length p.sections

  header_count : length x.listed.headers ≡ n
  header_count = is.count

  size_count : length x.listed.sizes ≡ n
  size_count = is.counted.sized ∙ is.count

  range_count : length x.ranges ≡ n
  range_count = is.counted.ranged ∙ is.count

  kind_count : length x.kinds ≡ n
  kind_count = is.counted.of_kinds ∙ is.count

  abbrev RowAt : ℕ → Type 0
  RowAt t =
      IsGatheredSection p.header.class p.header.order (o.bases.each t) y.held (section_at q t)
      (gathered_header y t) (size_in y t) (gathered_range y t) (gathered_kind y t)

  row_last : RowAt n
  row_last =
      row_as p.header.class p.header.order (o.bases.each n) y.held y.held (section_at q n)
      (section_at q n) h (gathered_header y n) size (size_in y n) range (gathered_range y n)
      kind (gathered_kind y n) [] refl
      (ap (λ (l : List Shdr). unwrap_or (slice_get l n) zero_shdr) headers
      ∙ at_last x.listed.headers h zero_shdr n header_count)
      (ap (λ (l : List ℕ). unwrap_or (slice_get l n) 0) sizes
      ∙ at_last x.listed.sizes size 0 n size_count)
      (ap (λ (l : List ByteRange). unwrap_or (slice_get l n) empty_held_range) ranges
      ∙ at_last x.ranges range empty_held_range n range_count)
      (ap (λ (l : List Kind). unwrap_or (slice_get l n) kinds.Empty) kinds_are
      ∙ at_last x.kinds kind kinds.Empty n kind_count)
      (sym (append-nil y.held)) row

  row_before : (t : ℕ) → t < n → RowAt t
  row_before t below =
      let in_headers : t < length x.listed.headers = omega (arith, below, header_count) in
      let in_sizes : t < length x.listed.sizes = omega (arith, below, size_count) in
      let in_ranges : t < length x.ranges = omega (arith, below, range_count) in
      let in_kinds : t < length x.kinds = omega (arith, below, kind_count) in
      row_as p.header.class p.header.order (o.bases.each t) x.held y.held (section_at p t)
      (section_at q t) (gathered_header x t) (gathered_header y t) (size_in x t) (size_in y t)
      (gathered_range x t) (gathered_range y t) (gathered_kind x t) (gathered_kind y t) more
      (other t below)
      (ap (λ (l : List Shdr). unwrap_or (slice_get l t) zero_shdr) headers
      ∙ at_before x.listed.headers h zero_shdr t in_headers)
      (ap (λ (l : List ℕ). unwrap_or (slice_get l t) 0) sizes
      ∙ at_before x.listed.sizes size 0 t in_sizes)
      (ap (λ (l : List ByteRange). unwrap_or (slice_get l t) empty_held_range) ranges
      ∙ at_before x.ranges range empty_held_range t in_ranges)
      (ap (λ (l : List Kind). unwrap_or (slice_get l t) kinds.Empty) kinds_are
      ∙ at_before x.kinds kind kinds.Empty t in_kinds)
      held (is.rows t below)

  row_at : (t : ℕ) → t < n + 1 → RowAt t
  row_at t there = elim (cases_eq t n) [
    | inl at ↦ subst RowAt (sym at) row_last
    | inr apart ↦ row_before t (omega (arith, there, apart))
  ]

  pub row_pushed : IsObject q → y.tail ≡ x.tail → y.listed.header ≡ header_of q
      → section_at q 0 ≡ new_section → IsListedAs o q y
  row_pushed object tail header first =
      let count = ap (λ (l : List Shdr). length l) headers
      ∙ length-append x.listed.headers (h ∷ []) in
      let sized = ap (λ (l : List ℕ). length l) sizes ∙ length-append x.listed.sizes (size ∷ []) in
      let ranged = ap (λ (l : List ByteRange). length l) ranges
      ∙ length-append x.ranges (range ∷ []) in
      let kinded = ap (λ (l : List Kind). length l) kinds_are
      ∙ length-append x.kinds (kind ∷ []) in
      let all = header_count in
      let all_sizes = size_count in
      let all_ranges = range_count in
      let all_kinds = kind_count in
      record {
        object = object;
        frame = frame_as o p q same is.frame;
        tail_is = tail ∙ is.tail_is;
        header = header;
        count = omega (arith, count, all, long);
        counted = record {
          sized = omega (arith, count, sized, all, all_sizes);
          ranged = omega (arith, count, ranged, all, all_ranges);
          of_kinds = omega (arith, count, kinded, all, all_kinds);
        };
        first = λ some. first;
        rows = λ t there.
            class_as p.header.class q.header.class p.header.order q.header.order
            (o.bases.each t) y.held (section_at q t) (gathered_header y t) (size_in y t)
            (gathered_range y t) (gathered_kind y t) same.class same.order
            (row_at t (omega (arith, there, long)));
      }

  -- the table of the names is none that is put behind
  table_after : ((gathered_header x x.listed.header.shstrndx).stype ≡ SHT_STRTAB
      → (gathered_range x x.listed.header.shstrndx).held ≡ true) → (h.stype ≡ SHT_STRTAB → ⊥)
      → (k : ℕ) → k ≡ x.listed.header.shstrndx → (gathered_header y k).stype ≡ SHT_STRTAB
      → (gathered_range y k).held ≡ true
  table_after before untyped k at typed = elim (cases_lt k n) [
    | inl below ↦
        let in_headers : k < length x.listed.headers = omega (arith, below, header_count) in
        let in_ranges : k < length x.ranges = omega (arith, below, range_count) in
        ap (λ (r : ByteRange). r.held)
        (ap (λ (l : List ByteRange). unwrap_or (slice_get l k) empty_held_range) ranges
        ∙ at_before x.ranges range empty_held_range k in_ranges)
        ∙ ap (λ (i : ℕ). (gathered_range x i).held) at
        ∙ before (ap (λ (i : ℕ). (gathered_header x i).stype) (sym at)
        ∙ ap (λ (j : Shdr). j.stype)
        (sym (ap (λ (l : List Shdr). unwrap_or (slice_get l k) zero_shdr) headers
        ∙ at_before x.listed.headers h zero_shdr k in_headers))
        ∙ typed)
    | inr past ↦ elim (cases_eq k n) [
      | inl last ↦
          absurd (untyped (ap (λ (j : Shdr). j.stype)
          (sym (at_last x.listed.headers h zero_shdr k (header_count ∙ sym last))
          ∙ sym (ap (λ (l : List Shdr). unwrap_or (slice_get l k) zero_shdr) headers))
          ∙ typed))
      | inr beyond ↦
          let count = ap (λ (l : List Shdr). length l) headers
          ∙ length-append x.listed.headers (h ∷ []) in
          let all = header_count in
          let none : (gathered_header y k).stype ≡ 0 =
          ap (λ (j : Shdr). j.stype)
          (at_past y.listed.headers zero_shdr k (omega (arith, past, beyond, count, all)))
          ∙ zero_type in
          let clash : SHT_STRTAB ≡ 0 = sym typed ∙ none in
          absurd (omega (arith, clash))
    ]
  ]

  pub contents_pushed : ((gathered_header x x.listed.header.shstrndx).stype ≡ SHT_STRTAB
      → (gathered_range x x.listed.header.shstrndx).held ≡ true) → (h.stype ≡ SHT_STRTAB → ⊥)
      → y.listed.header.shstrndx ≡ x.listed.header.shstrndx → IsObject q → y.tail ≡ x.tail
      → y.listed.header ≡ header_of q → section_at q 0 ≡ new_section → IsContents o q y
  contents_pushed before untyped index object tail header first = record {
    listed = row_pushed object tail header first;
    table = table_after before untyped y.listed.header.shstrndx index;
  }
