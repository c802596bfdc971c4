-- The table of the names, held.
use Rattle.std.proofs.Common.{◌≡◌, ◌≢◌, ◌⊎◌, inl, inr, ◌==◌, ◌&&◌, ◌+◌, ◌^◌, ◌<◌, ◌≤◌, ℕ, Bool, true, false, not, List, [], ◌++◌, length, take, drop, get_or, Result, Ok, Err, if◌then◌else◌, refl, sym, ap, ◌∙◌, subst, arith}
use Rattle.std.specs.Prelude.{IsTrue, slice_get, slice_set, unwrap_or, nat_le, nat_lt}
use Rattle.std.proofs.lemmas.Bool.{cases_lt, and_parts, not-true, eqb-true, eqb-false, ltb-true, ltb-false, leb-true, eq-eqb, ne_eqb}
use Rattle.std.proofs.lemmas.List.{get_or_past, length-take-le, length-drop}
use Rattle.std.proofs.lemmas.List.Sums.{get_or-le-sum_by}
use Rattle.std.proofs.lemmas.Option.{unwrap_or-slice_get}
use Rattle.elf_types.specs.Answers.{refused_if, answered}
use Rattle.elf_types.specs.declared.constants.TheConstants.{SHT_STRTAB}
use Rattle.elf_types.specs.declared.records.Ehdr.{Ehdr}
use Rattle.elf_types.specs.declared.records.Kind.TheVariants as kinds
use Rattle.elf_types.specs.declared.records.Shdr.{Shdr}
use Rattle.elf_types.specs.declared.errors.ElfError.{ElfError}
use Rattle.elf_types.specs.declared.errors.ElfError.TheVariants.{NoSection, Memory, Read}
use Rattle.elf_types.specs.Lists.{AreBytes}
use Rattle.elf_xlate.specs.declared.content.Items.TheVariants as items
use Rattle.elf_xlate.specs.Translation.{encoded}
use Rattle.elf_outside.specs.Asks.{Asks, ReadRose}
use Rattle.elf_outside.specs.declared.sources.Source.{Ghosts}
use Rattle.elf_ident.specs.Front.{zero_shdr}
use Rattle.elf_object.specs.Object.{Object, Section, section_at, occupies_file}
use Rattle.elf_object.specs.Calls.{home_answer}
use Rattle.elf_object.specs.Steps.{with_own}
use Rattle.elf_object.proofs.AnswerLaws.{home_value}
use Rattle.rebuild_edits.specs.elf_descriptor.State.{State}
use Rattle.law_object.proofs.StandLaws.{section_at-past}
use Rattle.elf_object.specs.Sections.{header_at}
use Rattle.law_rebuild.proofs.copy.RenewedNames.{strings_fill}
use Rattle.rebuild_plan.specs.rebuild_image.declared.ranges.ranges.ByteRange.{ByteRange}
use Rattle.rebuild_plan.specs.rebuild_image.Ranges.Ranges.{range_bytes, range_due}
use Rattle.rebuild_plan.specs.Reading.{ranges_due}
use Rattle.rebuild_object.specs.rebuild_keep.Makes.{AsksFor}
use Rattle.rebuild_plan.proofs.rebuild_keep.AskLaws.{asks_nothing, asks_as, asks_stop}
use Rattle.rebuild_edits.specs.Edits.Steps.{IsPresentSection}
use Rattle.rebuild_plan.specs.declared.arranged.Arranged.{Arranged}
use Rattle.rebuild_plan.specs.rebuild_image.Fronts.{HoldsAppended}
use Rattle.rebuild_plan.proofs.rebuild_image.FrontLaws.{held_bytes_stay}
use Rattle.rebuild_copy.specs.Rows.{empty_held_range, gathered_header, size_in, gathered_range, gathered_kind, IsGatheredSection, RowOf, Origin, origin, IsListedAs, IsContents, has_strings}
use Rattle.rebuild_copy.specs.Edits.{HasOtherBytes}
use Rattle.rebuild_copy.specs.Plans.{origin_over, table_due, HoldsTable}
use Rattle.rebuild_copy.proofs.DueLaws.{due_taken}
use Rattle.rebuild_copy.proofs.PushLaws.{zero_type}
use Rattle.rebuild_copy.proofs.RowLaws.{first_empty, set_same, at_here, shnum_is, row_set, same_frame}
use Rattle.rebuild_copy.proofs.EditLaws.{bytes_listed}

-- ---- How long the home of the names is

absent_len : (o : Object) (s : ℕ) → length o.sections ≤ s → (section_at o s).home.len ≡ 0
absent_len o s past =
    ap (λ (c : Section). c.home.len) (section_at-past o s past)

pub names_there : (o : Object) (index at len : ℕ) → index ≡ o.header.shstrndx
    → ◌≡◌ {A = Result (ℕ × ℕ) ElfError} (Ok (at, len)) (home_answer o index)
    → len ≡ table_due o
unfolding table_due
names_there o index at len same came =
    (home_value o index (at, len) (sym came)).2
    ∙ ap (λ (k : ℕ). (section_at o k).home.len) same

pub names_absent : (o : Object) (index : ℕ) (e : ElfError) → index ≡ o.header.shstrndx
    → ◌≡◌ {A = Result (ℕ × ℕ) ElfError} (Err e) (home_answer o index) → 0 ≡ table_due o
unfolding table_due home_answer
names_absent o index e same came =
    by_test (nat_le (length o.sections) index) refl
  where
    by_test : (b : Bool) → nat_le (length o.sections) index ≡ b
        → 0 ≡ (section_at o o.header.shstrndx).home.len
    by_test true past =
        sym (absent_len o o.header.shstrndx
        (let all = leb-true (length o.sections) index past in omega (arith, all, same)))
    by_test false here =
        let clash : ◌≡◌ {A = Result (ℕ × ℕ) ElfError} (Err e)
        (Ok ((section_at o index).home.at, (section_at o index).home.len)) =
        came ∙ ap (λ (b : Bool). answered (refused_if b (NoSection index (length o.sections)))
        ((section_at o index).home.at, (section_at o index).home.len)) here in
        cc

-- ---- Nothing to hold

module _ {S : Type 0} (g : Ghosts S) (x : Arranged) (s : State S)
    (held : (o : Origin) (p : Object) → IsListedAs o p x
    → (gathered_header x x.listed.header.shstrndx).stype ≡ SHT_STRTAB
    → (gathered_range x x.listed.header.shstrndx).held ≡ true) where
  stays_held : HoldsTable g x x (Ok tt) s s
  stays_held = record {
    ok = λ t p tail is. record { listed = is; table = held (origin s.o tail) p is };
    every = λ b p tail suit is.
        (p, record { listed = is; table = held (origin_over s.o b tail) p is });
    tail_is = refl;
    err = tt;
    due = 0;
    few = omega arith;
    some = omega arith;
    less = omega arith;
    asks = asks_nothing g (Ok tt) s 0 tt;
  }

-- it is held already
pub held_before : {S : Type 0} (g : Ghosts S) (x : Arranged) (s : State S)
    → (gathered_range x x.listed.header.shstrndx).held ≡ true → HoldsTable g x x (Ok tt) s s
held_before g x s at = stays_held g x s (λ o p is typed. at)

module _ {S : Type 0} (g : Ghosts S) (x : Arranged) (s : State S) where
  -- there is no table: of an object that has one, the tests hold
  module _ (fails : has_strings x ≡ false) where
    tests_hold : (o : Origin) (p : Object) → IsListedAs o p x
        → (gathered_header x x.listed.header.shstrndx).stype ≡ SHT_STRTAB → ⊥
    tests_hold o p is typed =
        by_zero (x.listed.header.shstrndx == 0) refl
        (nat_lt x.listed.header.shstrndx x.listed.header.shnum) refl
      where
        index_here : x.listed.header.shstrndx < length p.sections → x.listed.header.shstrndx ≢ 0
        index_here below none =
            let row = is.rows x.listed.header.shstrndx below in
            let filled = strings_fill (section_at p x.listed.header.shstrndx).header
            (ap (λ (h : Shdr). h.stype) (sym row.header) ∙ typed) in
            let clash : true ≡ false =
            sym filled
            ∙ ap (λ (k : ℕ). occupies_file (header_at p k)) none ∙ first_empty o p x is in
            cc

        typed_test : ((gathered_header x x.listed.header.shstrndx).stype == SHT_STRTAB) ≡ true
        typed_test = eq-eqb (gathered_header x x.listed.header.shstrndx).stype SHT_STRTAB typed

        by_zero : (a : Bool) → (x.listed.header.shstrndx == 0) ≡ a → (b : Bool)
            → nat_lt x.listed.header.shstrndx x.listed.header.shnum ≡ b → ⊥
        by_zero a at true below =
            let inside = ltb-true x.listed.header.shstrndx x.listed.header.shnum below in
            let count = shnum_is o p x is in
            let some = index_here (omega (arith, inside, count)) in
            let clash : true ≡ false =
            sym (ap (λ (b : Bool). not b && nat_lt x.listed.header.shstrndx x.listed.header.shnum
            && (gathered_header x x.listed.header.shstrndx).stype == SHT_STRTAB)
            (ne_eqb x.listed.header.shstrndx 0 some)
            ∙ ap (λ (b : Bool). not false && b
            && (gathered_header x x.listed.header.shstrndx).stype == SHT_STRTAB) below
            ∙ ap (λ (b : Bool). not false && true && b) typed_test)
            ∙ fails in
            cc
        by_zero a at false past =
            let beyond = ltb-false x.listed.header.shstrndx x.listed.header.shnum past in
            let count = shnum_is o p x is in
            let long = is.count in
            let none : (gathered_header x x.listed.header.shstrndx).stype ≡ 0 =
            ap (λ (h : Shdr). h.stype)
            (unwrap_or-slice_get x.listed.headers x.listed.header.shstrndx zero_shdr
            ∙ get_or_past x.listed.headers x.listed.header.shstrndx zero_shdr
            (omega (arith, beyond, count, long)))
            ∙ zero_type in
            let clash : SHT_STRTAB ≡ 0 = sym typed ∙ none in
            omega (arith, clash)

    pub no_table : HoldsTable g x x (Ok tt) s s
    no_table = stays_held g x s (λ o p is typed. absurd (tests_hold o p is typed))

-- ---- A range of the base

module _ {S : Type 0} (g : Ghosts S) (x : Arranged) (old new : State S)
    (strings : has_strings x ≡ true) (range : ByteRange)
    (at : range ≡ gathered_range x x.listed.header.shstrndx) (apart : range.held ≡ false) where
  abbrev k : ℕ
  k = x.listed.header.shstrndx

  -- it is one of those that are read of the base
  within_ranges : k < length x.ranges
  within_ranges = elim (cases_lt k (length x.ranges)) [
    | inl below ↦ below
    | inr past ↦
        let none : range ≡ empty_held_range =
        at ∙ unwrap_or-slice_get x.ranges k empty_held_range
        ∙ get_or_past x.ranges k empty_held_range past in
        let clash : false ≡ true = sym apart ∙ ap (λ (r : ByteRange). r.held) none in cc
  ]

  range_is : get_or x.ranges k empty_held_range ≡ range
  range_is = sym (unwrap_or-slice_get x.ranges k empty_held_range) ∙ sym at

  due_is : range_due (get_or x.ranges k empty_held_range) ≡ range.len
  due_is = ap range_due range_is ∙ ap (λ (b : Bool). if b then 0 else range.len) apart

  due_some : range.len ≤ ranges_due x.ranges
  due_some =
      let is = due_is in
      let less = get_or-le-sum_by range_due x.ranges k empty_held_range within_ranges in
      omega (arith, is, less)

  -- it is not the names, or there is no memory
  pub not_names : HoldsTable g x x (Err Memory) old old
  not_names = record {
    ok = λ t. tt;
    every = tt;
    tail_is = tt;
    err = inl refl;
    due = 0;
    few = omega arith;
    some = omega arith;
    less = tt;
    asks = asks_nothing g (Err Memory) old 0 tt;
  }

  module _ (stays : new ≡ record old { source = new.source }) (due : range.len ≤ table_due old.o)
    where
      object_same : new.o ≡ old.o
      object_same = ap (λ (s : State S). s.o) stays

      told_same : new.told ≡ old.told
      told_same = ap (λ (s : State S). s.told) stays

      stop : (e : ElfError) (y : Arranged) → (e ≡ Memory) ⊎ (e ≡ Read)
          → AsksFor {T = Unit {0}} g (Err e) old new range.len → HoldsTable g x y (Err e) old new
      stop e y want asks = record {
        ok = λ t. tt;
        every = tt;
        tail_is = tt;
        err = want;
        due = range.len;
        few = due;
        some = due_some;
        less = tt;
        asks = asks;
      }

      -- the bytes can not be read
      pub unread_stop : (e : ElfError) → (e ≡ Memory) ⊎ (e ≡ Read)
          → Asks {T = List ℕ} g (Err e) old.source new.source range.len
          → HoldsTable g x x (Err e) old new
      unread_stop e want asks =
          stop e x want (asks_stop g {T = List ℕ} {U = Unit {0}} e old new range.len
          (record { object = object_same; told = told_same; source = asks }))

      -- or not be held
      pub unheld_stop : (e : ElfError) (y : Arranged) (bytes : List ℕ) → e ≡ Memory
          → Asks {T = List ℕ} g (Ok bytes) old.source new.source range.len
          → HoldsTable g x y (Err e) old new
      unheld_stop e y bytes want asks =
          stop e y (inl want) (asks_as g (Ok bytes) (Err e) old new range.len
          (subst (λ (d : ElfError). ReadRose {T = Unit {0}} (Err d) (g.faults old.source)
          (g.faults new.source)) (sym want) tt)
          (record { object = object_same; told = told_same; source = asks }))

      module _ (bytes : List ℕ) (long : length bytes ≡ range.len) (are : AreBytes bytes)
          (small : length bytes < 2 ^ 64)
          (copied : IsTrue old.told → bytes ≡ take range.len (drop range.at old.o.base))
          (inside : range.at + range.len ≤ length old.o.base)
          (asks : Asks {T = List ℕ} g (Ok bytes) old.source new.source range.len) where
        module _ (found : ByteRange) (y : Arranged)
            (holds : HoldsAppended bytes x.held y.held found)
            (set : y ≡ record x {
              ranges = slice_set x.ranges x.listed.header.shstrndx found;
              held = y.held;
            }) where
          header_now : y.listed.header ≡ x.listed.header
          header_now = ap (λ (z : Arranged). z.listed.header) set

          index_now : y.listed.header.shstrndx ≡ k
          index_now = ap (λ (h : Ehdr). h.shstrndx) header_now

          ranges_now : y.ranges ≡ slice_set x.ranges k found
          ranges_now = ap (λ (z : Arranged). z.ranges) set

          -- the table is held
          table_held : (gathered_range y y.listed.header.shstrndx).held ≡ true
          table_held =
              ap (λ (i : ℕ). (gathered_range y i).held) index_now
              ∙ ap (λ (l : List ByteRange). (unwrap_or (slice_get l k) empty_held_range).held)
              ranges_now
              ∙ ap (λ (r : ByteRange). r.held)
              (at_here x.ranges k found empty_held_range within_ranges)
              ∙ holds.held

          tests : ((not (k == 0) && nat_lt k x.listed.header.shnum) ≡ true)
              × (((gathered_header x k).stype == SHT_STRTAB) ≡ true)
          tests =
              and_parts (not (k == 0) && nat_lt k x.listed.header.shnum)
              ((gathered_header x k).stype == SHT_STRTAB) strings

          typed : (gathered_header x k).stype ≡ SHT_STRTAB
          typed = eqb-true (gathered_header x k).stype SHT_STRTAB tests.1

          module _ (o : Origin) (p : Object) (is : IsListedAs o p x) where
            there : IsPresentSection p k
            there =
                let count = shnum_is o p x is in
                let one = and_parts (not (k == 0)) (nat_lt k x.listed.header.shnum) tests.0 in
                let some = eqb-false k 0 (not-true (k == 0) one.0) in
                let below = ltb-true k x.listed.header.shnum one.1 in
                (omega (arith, some), omega (arith, below, count))

            row : RowOf p (o.bases.each k) x k
            row = is.rows k there.1

            filled : occupies_file (header_at p k) ≡ true
            filled =
                strings_fill (section_at p k).header
                (ap (λ (h : Shdr). h.stype) (sym row.header) ∙ typed)

            -- what the range has of the base of its section
            row_bytes : take range.len (drop range.at (o.bases.each k))
                ≡ encoded p.header.class p.header.order row.own
            row_bytes =
                sym (ap (λ (b : Bool). take range.len (drop range.at
                (if b then x.held ++ [] else o.bases.each k))) apart)
                ∙ ap (range_bytes (x.held ++ []) (o.bases.each k)) at
                ∙ row.range_is filled []

            -- the same bytes, held
            module _ (same : bytes ≡ take range.len (drop range.at (o.bases.each k))) where
              held_row : IsGatheredSection p.header.class p.header.order (o.bases.each k) y.held
                  (section_at p k) (gathered_header x k) (size_in x k) found (gathered_kind x k)
              held_row = record {
                header = row.header;
                own = row.own;
                section = row.section;
                kind_is = row.kind_is;
                are = row.are;
                fits = row.fits;
                strings = row.strings;
                size_is = row.size_is;
                small = row.small;
                range_is = λ full later.
                    held_bytes_stay bytes x.held y.held later (o.bases.each k) found holds
                    ∙ same ∙ row_bytes;
              }

              same_contents : IsContents o p y
              same_contents = record {
                listed = row_set o p x is k there.1 p y (gathered_header x k) (size_in x k) found
                    (gathered_kind x k) bytes (same_frame p) (λ t other. refl)
                    (ap (λ (z : Arranged). z.listed.headers) set
                    ∙ sym (set_same x.listed.headers k zero_shdr))
                    (ap (λ (z : Arranged). z.listed.sizes) set ∙ sym (set_same x.listed.sizes k 0))
                    ranges_now
                    (ap (λ (z : Arranged). z.kinds) set ∙ sym (set_same x.kinds k kinds.Empty))
                    holds.all held_row is.object (ap (λ (z : Arranged). z.tail) set)
                    (header_now ∙ is.header) refl is.first;
                table = λ was. table_held;
              }

            -- other bytes, as many, of a source that does not tell its own
            module _ (suit : length (o.bases.each k) ≡ length old.o.base) where
              size_now : size_in x k ≡ found.len
              size_now =
                  let longer = length-take-le range.len (drop range.at (o.bases.each k))
                  (let rest = length-drop range.at (o.bases.each k) in
                  omega (arith, rest, suit, inside)) in
                  let held_long = holds.len in
                  row.size_is
                  ∙ ap (λ (b : Bool). if b
                  then length (encoded p.header.class p.header.order row.own) else 0) filled
                  ∙ ap (λ (l : List ℕ). length l) (sym row_bytes)
                  ∙ omega (arith, longer, held_long, long)

              kind_now : gathered_kind x k ≡ kinds.Bytes
              kind_now =
                  sym row.kind_is
                  ∙ row.strings (ap (λ (h : Shdr). h.stype) (sym row.header) ∙ typed)

              other : HasOtherBytes k bytes x y
              other = record {
                range = found;
                holds = holds;
                header = header_now;
                headers = ap (λ (z : Arranged). z.listed.headers) set;
                sizes = ap (λ (z : Arranged). z.listed.sizes) set
                    ∙ sym (ap (slice_set x.listed.sizes k) (sym size_now)
                    ∙ set_same x.listed.sizes k 0);
                ranges = ranges_now;
                kinds_are = ap (λ (z : Arranged). z.kinds) set
                    ∙ sym (ap (slice_set x.kinds k) (sym kind_now)
                    ∙ set_same x.kinds k kinds.Empty);
                tail = ap (λ (z : Arranged). z.tail) set;
                are = are;
                small = small;
              }

              other_contents : (q : Object) × IsContents o q y
              other_contents = (
                with_own p k 0 (items.Bytes bytes),
                record {
                  listed = bytes_listed o p x is k there filled bytes y other;
                  table = λ was. table_held;
                },
              )

          pub names_held : HoldsTable g x y (Ok tt) old new
          names_held = record {
            ok = λ t p tail is. same_contents (origin old.o tail) p is (copied t);
            every = λ b p tail suit is.
                other_contents (origin_over old.o b tail) p is (suit.long k);
            tail_is = ap (λ (z : Arranged). z.tail) set;
            err = tt;
            due = range.len;
            few = due;
            some = due_some;
            less =
                let taken = due_taken x.ranges k found holds.held within_ranges in
                let is = due_is in
                let now = ap ranges_due ranges_now in
                omega (arith, taken, is, now);
            asks = asks_as g (Ok bytes) (Ok (tt {0})) old new range.len tt
                (record { object = object_same; told = told_same; source = asks });
          }
