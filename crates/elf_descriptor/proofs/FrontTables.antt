-- Records are compared in place of the bytes that are written for them.
use Rattle.std.proofs.Common.{◌≡◌, ◌∙◌, ℕ, zero, suc, ◌+◌, ◌*◌, ◌<◌, ◌≤◌, Bool, true, false, ◌&&◌, ◌||◌, List, [], ◌∷◌, length, take, drop, get_or, Option, Some, None, refl, sym, ap, subst, arith}
use Rattle.std.specs.Prelude.{All, IsTrue, ◌==◌, slice_get, flat_map}
use Rattle.std.specs.Bool.{Decides}
use Rattle.std.specs.List.{enumerate_from}
use Rattle.std.specs.Str.{bytes_eq}
use Rattle.std.proofs.lemmas.Bool.{eqb-true, eqb-false, eq-eqb, ne_eqb}
use Rattle.std.proofs.lemmas.List.{ext_get_or, length-map}
use Rattle.std.proofs.lemmas.List.FromFn.{length-enumerate_from}
use Rattle.std.proofs.lemmas.Option.{get_or_from_slice_get, slice_get_within}
use Rattle.std.proofs.lemmas.Slice.Eq.{bytes_eq-Decides}
use Rattle.elf_types.specs.declared.records.Class.{Class}
use Rattle.elf_types.specs.declared.records.Class.TheVariants.{C32, C64}
use Rattle.elf_types.specs.declared.records.Order.{Order}
use Rattle.elf_types.specs.declared.records.Ehdr.{Ehdr}
use Rattle.elf_types.specs.declared.records.Phdr.{Phdr}
use Rattle.elf_types.specs.declared.records.Shdr.{Shdr}
use Rattle.section_table.specs.elf_xlate.Headers.{IsEhdr, HasNarrowCounts, HoldsEhdr, ehdr_size, ehdr_of, ehdr_bytes, ehdr_fits, IsPhdr, phdr_size, phdr_of, phdr_bytes, phdr_fits, IsShdr, shdr_size, shdr_of, shdr_bytes, shdr_fits}
use Rattle.section_table.specs.elf_ident.Reading.{IsStored, IsPhdrTable, IsShdrTable}
use Rattle.section_table.specs.elf_object.Blocks.{same_extent, same_block}
use Rattle.section_table.specs.elf_object.Open.{phdrs_bytes, shdrs_bytes}
use Rattle.law_object.proofs.LengthLaws.{length-ehdr_bytes, length-phdr_bytes, length-shdr_bytes, length-phdrs_bytes, length-shdrs_bytes}
use Rattle.law_object.proofs.ReopenLaws.{entry_bytes}
use Rattle.section_table.specs.elf_object.Layout.{section_place}
use Rattle.section_table.specs.elf_layout.declared.parts.Places.{Places}
use Rattle.section_table.specs.Sections.{SectionView as Scn, absent_scn}
use Rattle.elf_descriptor.specs.declared.body.Body.{Body}
use Rattle.elf_descriptor.specs.Views.{scn_at}
use Rattle.elf_descriptor.specs.Places.{stored_shdr}
use Rattle.elf_descriptor.specs.Fronts.{DiffersAt, Compares, header_block, segments_block, table_block, stored_shdrs}
use Rattle.elf_descriptor.proofs.Rows.{rows_at}

pub true_is_false : true ≡ false → ⊥
true_is_false e = cc

-- ---- Lists of records

-- two lists have the same items below an index
abbrev pub SameBelow : {X : Type 0} → X → List X → List X → ℕ → Type 0
SameBelow d xs ys n = (k : ℕ) → k < n → get_or xs k d ≡ get_or ys k d

pub same_here : {X : Type 0} (d one other : X) (xs ys : List X) (i : ℕ)
    → slice_get xs i ≡ Some one → slice_get ys i ≡ Some other → one ≡ other
    → get_or xs i d ≡ get_or ys i d
same_here d one other xs ys i first second same =
    get_or_from_slice_get xs i one d first ∙ same ∙ sym (get_or_from_slice_get ys i other d second)

pub same_lists : {X : Type 0} (d : X) (xs ys : List X) (n : ℕ) → length xs ≡ length ys
    → length xs ≤ n → SameBelow d xs ys n → xs ≡ ys
same_lists d xs ys n long all below =
    ext_get_or d xs ys long (λ k inside. below k (omega (arith, inside, all)))

-- what is known of two lists, by other names
pub compares_is : {X : Type 0} (InRange : X → Type 0) (r : Bool) (ones others xs ys : List X)
    → ones ≡ xs → others ≡ ys → Compares InRange r ones others → Compares InRange r xs ys
compares_is {X} InRange r ones others xs ys first second compared =
    subst (λ (l : List X). Compares InRange r xs l) second
    (subst (λ (l : List X). Compares InRange r l others) first compared)

-- ---- The bytes that are written for them

module _ {X : Type 0} (read : List ℕ → X) (enc : X → List ℕ) (size : ℕ)
    (len : (x : X) → length (enc x) ≡ size) (InRange Fit : X → Type 0)
    (back : (x : X) → InRange x → Fit x → read (enc x) ≡ x) where
  entry_at : (xs : List X) (i : ℕ) (x : X) → slice_get xs i ≡ Some x
      → take size (drop (i * size) (flat_map enc xs)) ≡ enc x
  entry_at xs i x at =
      entry_bytes enc size len xs i x (slice_get_within xs i x at)
      ∙ ap enc (get_or_from_slice_get xs i x x at)

  item_at : (P : X → Type 0) (xs : List X) (i : ℕ) (x : X) → All P xs
      → slice_get xs i ≡ Some x → P x
  item_at P xs i x each at =
      subst P (get_or_from_slice_get xs i x x at) (each i x (slice_get_within xs i x at))

  same_entry : (xs ys : List X) → All Fit xs → All InRange ys → All Fit ys
      → (d : DiffersAt InRange xs ys) → flat_map enc xs ≡ flat_map enc ys → d.one ≡ d.other
  same_entry xs ys fits ranged fitting d same =
      let fit = item_at Fit xs d.index d.one fits d.first in
      let other_fit = item_at Fit ys d.index d.other fitting d.second in
      let range = item_at InRange ys d.index d.other ranged d.second in
      let entries =
      sym (entry_at xs d.index d.one d.first)
      ∙ ap (λ (l : List ℕ). take size (drop (d.index * size) l)) same
      ∙ entry_at ys d.index d.other d.second in
      sym (back d.one d.ranged fit) ∙ ap read entries ∙ back d.other range other_fit

  pub bytes_compared : (b : Bool) (xs ys : List X) → Compares InRange b xs ys
      → All Fit xs → All InRange ys → All Fit ys
      → b ≡ bytes_eq (flat_map enc xs) (flat_map enc ys)
  bytes_compared true xs ys same fits ranged fitting =
      sym ((bytes_eq-Decides (flat_map enc xs) (flat_map enc ys)).1 (ap (flat_map enc) same))
  bytes_compared false xs ys d fits ranged fitting =
      by_test (bytes_eq (flat_map enc xs) (flat_map enc ys)) refl
    where
      by_test : (t : Bool) → bytes_eq (flat_map enc xs) (flat_map enc ys) ≡ t → false ≡ t
      by_test false e = refl
      by_test true e =
          let same = (bytes_eq-Decides (flat_map enc xs) (flat_map enc ys)).0 e in
          absurd (d.differs (same_entry xs ys fits ranged fitting d same))

-- ---- Extents of tables

module _ (size : ℕ) (cancel : (m n : ℕ) → m * size ≡ n * size → m ≡ n) where
  scaled : (m n : ℕ) → (m * size == n * size) ≡ (m == n)
  scaled m n = by_test (m == n) refl
    where
      by_test : (t : Bool) → (m == n) ≡ t → (m * size == n * size) ≡ t
      by_test true e = eq-eqb (m * size) (n * size) (ap (λ (k : ℕ). k * size) (eqb-true m n e))
      by_test false e =
          ne_eqb (m * size) (n * size) (λ same. eqb-false m n e (cancel m n same))

  none : (m : ℕ) → (m * size == 0) ≡ (m == 0)
  none m =
      let zero_is : 0 * size ≡ 0 = omega arith in
      ap (λ (k : ℕ). m * size == k) (sym zero_is) ∙ scaled m 0

  extents_scaled : (a m b n : ℕ)
      → same_extent a (m * size) b (n * size) ≡ same_extent a m b n
  unfolding same_extent
  extents_scaled a m b n =
      ap (λ (t : Bool). (a == b && t) || (m * size == 0 && n * size == 0)) (scaled m n)
      ∙ ap (λ (t : Bool). (a == b && m == n) || (t && n * size == 0)) (none m)
      ∙ ap (λ (t : Bool). (a == b && m == n) || (m == 0 && t)) (none n)

  -- two blocks of a table's bytes
  pub blocks_same : (a b : ℕ) (xs ys : List ℕ) (m n : ℕ)
      → length xs ≡ m * size → length ys ≡ n * size
      → same_block (record { at = a; bytes = xs }) (record { at = b; bytes = ys })
      ≡ (same_extent a m b n && bytes_eq xs ys)
  unfolding same_block
  blocks_same a b xs ys m n long other =
      ap (λ (k : ℕ). same_extent a k b (length ys) && bytes_eq xs ys) long
      ∙ ap (λ (k : ℕ). same_extent a (m * size) b k && bytes_eq xs ys) other
      ∙ ap (λ (t : Bool). t && bytes_eq xs ys) (extents_scaled a m b n)

phdr_cancel : (class : Class) (m n : ℕ) → m * phdr_size class ≡ n * phdr_size class → m ≡ n
phdr_cancel C32 m n h = omega (arith, h)
phdr_cancel C64 m n h = omega (arith, h)

shdr_cancel : (class : Class) (m n : ℕ) → m * shdr_size class ≡ n * shdr_size class → m ≡ n
shdr_cancel C32 m n h = omega (arith, h)
shdr_cancel C64 m n h = omega (arith, h)

-- a table that stands elsewhere or has another length is another one
and_false : (e : Bool) (t : Bool) → e ≡ false → false ≡ (e && t)
and_false e t is = sym (ap (λ (b : Bool). b && t) is)

and_true : (e t b : Bool) → e ≡ true → b ≡ t → b ≡ (e && t)
and_true e t b is same = same ∙ sym (ap (λ (c : Bool). c && t) is)

-- what the lengths of two lists say of their extents
extent_is : (a m b n k l : ℕ) → m ≡ k → n ≡ l → same_extent a m b n ≡ same_extent a k b l
extent_is a m b n k l first second =
    ap (λ (i : ℕ). same_extent a i b n) first ∙ ap (λ (i : ℕ). same_extent a k b i) second

-- ---- The program header table

module _ (class : Class) (order : Order) (at other : ℕ) (xs ys : List Phdr) where
  abbrev segments_test : Bool
  segments_test =
      same_block (segments_block class order at xs) (segments_block class order other ys)

  abbrev segments_extent : Bool
  segments_extent = same_extent at (length xs) other (length ys)

  abbrev segments_equal : Bool
  segments_equal = bytes_eq (phdrs_bytes class order xs) (phdrs_bytes class order ys)

  segments_is : segments_test ≡ (segments_extent && segments_equal)
  segments_is =
      blocks_same (phdr_size class) (phdr_cancel class) at other
      (phdrs_bytes class order xs) (phdrs_bytes class order ys) (length xs) (length ys)
      (length-phdrs_bytes class order xs) (length-phdrs_bytes class order ys)

  pub segments_elsewhere : (m n : ℕ) → m ≡ length xs → n ≡ length ys
      → same_extent at m other n ≡ false → false ≡ segments_test
  segments_elsewhere m n first second e =
      let extent = extent_is at m other n (length xs) (length ys) first second in
      and_false segments_extent segments_equal (sym extent ∙ e) ∙ sym segments_is

  abbrev pub ReadsPhdr : Type 0
  ReadsPhdr =
      (p : Phdr) → IsPhdr p → IsTrue (phdr_fits class p)
      → phdr_of class order (phdr_bytes class order p) ≡ p

  pub segments_compared : ReadsPhdr → (b : Bool) → Compares IsPhdr b xs ys
      → (m n : ℕ) → m ≡ length xs → n ≡ length ys → same_extent at m other n ≡ true
      → All (λ p. IsTrue (phdr_fits class p)) xs → IsPhdrTable class (length ys) ys
      → b ≡ segments_test
  unfolding phdrs_bytes
  segments_compared back b compared m n first second e fits table =
      let extent = extent_is at m other n (length xs) (length ys) first second in
      let same =
      bytes_compared (phdr_of class order) (phdr_bytes class order) (phdr_size class)
      (length-phdr_bytes class order) IsPhdr (λ p. IsTrue (phdr_fits class p)) back
      b xs ys compared fits table.range table.fitting in
      and_true segments_extent segments_equal b (sym extent ∙ e) same ∙ sym segments_is

-- ---- The section header table

module _ (class : Class) (order : Order) (at other : ℕ) (xs ys : List Shdr) where
  abbrev table_test : Bool
  table_test = same_block (table_block class order at xs) (table_block class order other ys)

  abbrev table_extent : Bool
  table_extent = same_extent at (length xs) other (length ys)

  abbrev table_equal : Bool
  table_equal = bytes_eq (shdrs_bytes class order xs) (shdrs_bytes class order ys)

  table_is : table_test ≡ (table_extent && table_equal)
  table_is =
      blocks_same (shdr_size class) (shdr_cancel class) at other
      (shdrs_bytes class order xs) (shdrs_bytes class order ys) (length xs) (length ys)
      (length-shdrs_bytes class order xs) (length-shdrs_bytes class order ys)

  pub table_elsewhere : (m n : ℕ) → m ≡ length xs → n ≡ length ys
      → same_extent at m other n ≡ false → false ≡ table_test
  table_elsewhere m n first second e =
      let extent = extent_is at m other n (length xs) (length ys) first second in
      and_false table_extent table_equal (sym extent ∙ e) ∙ sym table_is

  abbrev pub ReadsShdr : Type 0
  ReadsShdr =
      (h : Shdr) → IsShdr h → IsTrue (shdr_fits class h)
      → shdr_of class order (shdr_bytes class order h) ≡ h

  pub table_compared : ReadsShdr → (b : Bool) → Compares IsShdr b xs ys
      → (m n : ℕ) → m ≡ length xs → n ≡ length ys → same_extent at m other n ≡ true
      → All (λ h. IsTrue (shdr_fits class h)) xs → IsShdrTable class (length ys) ys
      → b ≡ table_test
  unfolding shdrs_bytes
  table_compared back b compared m n first second e fits table =
      let extent = extent_is at m other n (length xs) (length ys) first second in
      let same =
      bytes_compared (shdr_of class order) (shdr_bytes class order) (shdr_size class)
      (length-shdr_bytes class order) IsShdr (λ h. IsTrue (shdr_fits class h)) back
      b xs ys compared fits table.range table.fitting in
      and_true table_extent table_equal b (sym extent ∙ e) same ∙ sym table_is

-- ---- The ELF header

-- headers that fit are read as they were written
abbrev pub ReadsHeader : Type 0
ReadsHeader =
    (h : Ehdr) (pad : List ℕ) → IsEhdr h → HasNarrowCounts h → IsTrue (ehdr_fits h)
    → length pad ≡ 7 → HoldsEhdr h pad (ehdr_bytes h pad)

module _ (reads : ReadsHeader) (h w : Ehdr) (pad old : List ℕ) (ranged : IsEhdr h)
    (narrow : HasNarrowCounts h) (fits : IsTrue (ehdr_fits h)) (long : length pad ≡ 7)
    (class : h.class ≡ w.class) (order : h.order ≡ w.order) (stored : IsStored w old) where
  header_from : ehdr_bytes h pad ≡ ehdr_bytes w old → (h ≡ w) × (pad ≡ old)
  header_from same =
      let one = reads h pad ranged narrow fits long in
      let other = reads w old stored.range stored.narrow stored.fitting stored.pad_size in (
        sym one.value
            ∙ ap (λ (l : List ℕ). ehdr_of h.class h.order l) same
            ∙ ap (λ (c : Class). ehdr_of c h.order (ehdr_bytes w old)) class
            ∙ ap (λ (o : Order). ehdr_of w.class o (ehdr_bytes w old)) order
            ∙ other.value,
        sym one.pad_is ∙ ap (λ (l : List ℕ). take 7 (drop 9 l)) same ∙ other.pad_is,
      )

  abbrev header_test : Bool
  header_test = same_block (header_block h pad) (header_block w old)

  abbrev equal : Bool
  equal = bytes_eq (ehdr_bytes h pad) (ehdr_bytes w old)

  header_is : header_test ≡ equal
  unfolding same_block same_extent
  header_is =
      let size = ehdr_size w.class in
      let n = length (ehdr_bytes w old) in
      let one = length-ehdr_bytes h pad long ∙ ap ehdr_size class in
      let other : n ≡ size = length-ehdr_bytes w old stored.pad_size in
      let alike : (size == size) ≡ true = eq-eqb size size refl in
      ap (λ (k : ℕ). ((k == n) || (k == 0 && n == 0)) && equal) one
      ∙ ap (λ (k : ℕ). ((size == k) || (size == 0 && k == 0)) && equal) other
      ∙ ap (λ (t : Bool). (t || (size == 0 && size == 0)) && equal) alike

  header_compared : (a b : Bool) → Decides a (h ≡ w) → Decides b (pad ≡ old)
      → (a && b) ≡ header_test
  header_compared a b first second = by_test equal refl ∙ sym header_is
    where
      both : (c d : Bool) → c ≡ true → d ≡ true → (c && d) ≡ true
      both true true e f = refl
      both true false e f = cc
      both false d e f = cc

      by_parts : (c d : Bool) → Decides c (h ≡ w) → Decides d (pad ≡ old)
          → (ehdr_bytes h pad ≡ ehdr_bytes w old → ⊥) → (c && d) ≡ false
      by_parts true true x y apart =
          absurd (apart (ap (λ (e : Ehdr). ehdr_bytes e pad) (x.0 refl)
          ∙ ap (ehdr_bytes w) (y.0 refl)))
      by_parts true false x y apart = refl
      by_parts false d x y apart = refl

      by_test : (t : Bool) → equal ≡ t → (a && b) ≡ t
      by_test true e =
          let decides = bytes_eq-Decides (ehdr_bytes h pad) (ehdr_bytes w old) in
          let same = header_from (decides.0 e) in
          both a b (first.1 same.0) (second.1 same.1)
      by_test false e =
          let decides = bytes_eq-Decides (ehdr_bytes h pad) (ehdr_bytes w old) in
          by_parts a b first second (λ same. true_is_false (sym (decides.1 same) ∙ e))

  -- the identifications decide where the rest is the same
  pub header_alike : (a b : Bool) → a ≡ true → Decides a (h ≡ w) → Decides b (pad ≡ old)
      → b ≡ header_test
  header_alike a b e first second =
      ap (λ (t : Bool). t && b) (sym e) ∙ header_compared a b first second

  pub header_other : (a b : Bool) → a ≡ false → Decides a (h ≡ w) → Decides b (pad ≡ old)
      → false ≡ header_test
  header_other a b e first second =
      ap (λ (t : Bool). t && b) (sym e) ∙ header_compared a b first second

-- ---- The section headers that are stored

-- that of the section with a number
abbrev pub stored_row : Places → Ehdr → Body → ℕ → Shdr
stored_row places h b s = stored_shdr h s (section_place places s) (scn_at b s)

pub stored_count : (places : Places) (h : Ehdr) (b : Body)
    → length (stored_shdrs places h b) ≡ length b.sections
stored_count places h b =
    length-map (enumerate_from 0 b.sections)
    (λ (row : ℕ × Scn). stored_shdr h row.0 (section_place places row.0) row.1)
    ∙ length-enumerate_from 0 b.sections

pub stored_at : (places : Places) (h : Ehdr) (b : Body) (s : ℕ) → s < length b.sections
    → slice_get (stored_shdrs places h b) s ≡ Some (stored_row places h b s)
unfolding scn_at
stored_at places h b s there =
    let number : 0 + s ≡ s = omega arith in
    let x = get_or b.sections s absent_scn in
    rows_at (λ i y. stored_shdr h i (section_place places i) y) absent_scn 0 b.sections s
    there
    ∙ ap (λ (n : ℕ). Some (stored_shdr h n (section_place places n) x)) number

-- a header that was worked out from what was read of a section
pub shdr_read : (places : Places) (h : Ehdr) (b : Body) (s at : ℕ) (x : Scn) (r : Shdr)
    → r ≡ stored_shdr h s at x → at ≡ section_place places s → x ≡ scn_at b s
    → r ≡ stored_row places h b s
shdr_read places h b s at x r is place read =
    is
    ∙ ap (λ (n : ℕ). stored_shdr h s n x) place
    ∙ ap (λ (y : Scn). stored_shdr h s (section_place places s) y) read

-- a test of two headers is one of what stands at an index
abbrev item_or : {X : Type 0} → X → Option X → X
item_or d None = d
item_or d (Some x) = x

pub decides_at : (r : Bool) (one other stored : Shdr) (found : Option Shdr)
    → Decides r (one ≡ other) → one ≡ stored → found ≡ Some other
    → Decides r (found ≡ Some stored)
decides_at r one other stored found test is at = (
  (λ yes. at ∙ ap Some (sym (test.0 yes) ∙ is)),
  (λ same. test.1 (is ∙ sym (ap (item_or stored) same) ∙ ap (item_or stored) at)),
)

-- the next header is the one with its number in a table
pub row_here : (d : Shdr) (places : Places) (h : Ehdr) (b : Body) (table : List Shdr) (s : ℕ)
    → s < length b.sections → slice_get table s ≡ Some (stored_row places h b s)
    → get_or (stored_shdrs places h b) s d ≡ get_or table s d
row_here d places h b table s there at =
    same_here d _ _ (stored_shdrs places h b) table s (stored_at places h b s there) at refl

-- or it is not
pub row_differs : (places : Places) (h : Ehdr) (b : Body) (table : List Shdr) (s : ℕ)
    (other : Shdr) → s < length b.sections → slice_get table s ≡ Some other
    → (slice_get table s ≡ Some (stored_row places h b s) → ⊥) → IsShdr (stored_row places h b s)
    → DiffersAt IsShdr (stored_shdrs places h b) table
row_differs places h b table s other there found differs ranged = record {
  index = s;
  one = stored_row places h b s;
  other = other;
  first = stored_at places h b s there;
  second = found;
  differs = λ same. differs (found ∙ ap Some (sym same));
  ranged = ranged;
}

-- something stands below the end of a table
pub found_below : (table : List Shdr) (s : ℕ) (d : Shdr) → s < length table
    → slice_get table s ≡ Some (get_or table s d)
found_below [] s d there = absurd (omega (arith, there))
found_below (x ∷ l) zero d there = refl
found_below (x ∷ l) (suc s) d there = found_below l s d (omega (arith, there))
