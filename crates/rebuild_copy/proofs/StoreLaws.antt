-- A new table of names and the places of the names in it, stored in what was gathered.
use Rattle.std.proofs.Common.{◌≡◌, ◌+◌, ◌<◌, ◌≤◌, ◌^◌, ℕ, Bool, true, false, List, [], ◌∷◌, length, Result, Ok, Err, if◌then◌else◌, refl, sym, ap, ◌∙◌, subst, arith}
use Rattle.std.specs.Prelude.{IfSome, slice_get, unwrap_or}
use Rattle.elf_types.specs.declared.records.Ehdr.{Ehdr}
use Rattle.elf_types.specs.declared.records.Shdr.{Shdr}
use Rattle.elf_xlate.specs.declared.content.Items.TheVariants as items
use Rattle.elf_xlate.specs.Headers.{IsShdr}
use Rattle.elf_object.specs.Object.{Object, Piece, header_of, section_at, occupies_file}
use Rattle.elf_object.specs.Steps.{with_own, with_shdr, own_piece}
use Rattle.law_object.proofs.KeepLaws.{section_at_is}
use Rattle.elf_object.specs.Sections.{header_at}
use Rattle.rebuild_model.specs.Copied.{CopyFault as StatedFault}
use Rattle.rebuild_edits.specs.declared.naming.NewNameTable.{NewNameTable}
use Rattle.rebuild_plan.specs.declared.arranged.Arranged.{Arranged}
use Rattle.rebuild_changes.specs.declared.faults.CopyFault.{CopyFault}
use Rattle.rebuild_changes.specs.Stated.{stated_copy_fault, IsWithoutDeviceFault}
use Rattle.rebuild_edits.specs.Edits.Steps.{IsPresentSection}
use Rattle.rebuild_edits.proofs.edits.StepLaws.{alter_none}
use Rattle.rebuild_edits.specs.Stores.{with_places, with_table}
use Rattle.rebuild_edits.proofs.StoreLaws.{PutBelow, put_none, put_more, put_there, put_all, name_passes, unpieced, table_there, keeps_table}
use Rattle.rebuild_copy.specs.Rows.{gathered_header, Origin, IsContents}
use Rattle.rebuild_copy.specs.Edits.{HasBytesIf, HasOtherHeader, IsNamedAs}
use Rattle.rebuild_copy.specs.Steps.{known, ReadsNoMore, Turns, AltersContents, BecomesContents}
use Rattle.rebuild_copy.proofs.DueLaws.{due_same}
use Rattle.rebuild_copy.proofs.UpdateLaws.{bytes_less}
use Rattle.rebuild_copy.proofs.RowLaws.{row_pieces, shnum_is}
use Rattle.rebuild_copy.proofs.EditLaws.{bytes_left, header_left}
use Rattle.rebuild_copy.proofs.TurnLaws.{turns_not}

-- ---- One name

named_shdr : (h : Shdr) (place : ℕ) → IsShdr h → place < 2 ^ 32
    → IsShdr (record h { name = place })
named_shdr h place is small = record {
  name = small;
  stype = is.stype;
  flags = is.flags;
  addr = is.addr;
  offset = is.offset;
  size = is.size;
  link = is.link;
  info = is.info;
  addralign = is.addralign;
  entsize = is.entsize;
}

module _ (o : Origin) (p : Object) (x : Arranged) (is : IsContents o p x) (s : ℕ)
    (there : IsPresentSection p s) (place : ℕ) (small : place < 2 ^ 32) (y : Arranged)
    (named : IsNamedAs s place x y) where
  abbrev h : Shdr
  h = record (header_at p s) { name = place }

  stored_as : record (gathered_header x s) { name = place } ≡ h
  stored_as =
      ap (λ (k : Shdr). record k { name = place }) (is.listed.rows s there.1).header

  pub name_left : IsContents o (with_shdr p s h) y
  name_left =
      header_left o p x is s there h refl (name_passes p s place is.listed.object there)
      (named_shdr (header_at p s) place (section_at_is p s is.listed.object).header small) y
      (subst (λ (k : Shdr). HasOtherHeader s k x y) stored_as named)

-- ---- All names

-- the contents of an object whose sections below a number have the places of their names
pub record NamedBelow (places : List ℕ) (o : Origin) (p : Object) (s : ℕ) (y : Arranged)
    : Type 0 where
  pub now : Object
  pub put : PutBelow places p now s
  pub contents : IsContents o now y

pub named_none : (places : List ℕ) (o : Origin) (p : Object) (x : Arranged)
    → IsContents o p x → NamedBelow places o p 1 x
named_none places o p x is = record { now = p; put = put_none places p; contents = is }

module _ (places : List ℕ) (o : Origin) (p : Object) (s : ℕ) (y : Arranged)
    (so_far : NamedBelow places o p s y) where
  shnum_now : y.listed.header.shnum ≡ length p.sections
  shnum_now = shnum_is o so_far.now y so_far.contents.listed ∙ so_far.put.long

  pub named_more : (place : ℕ) (z : Arranged) → 1 ≤ s → s < y.listed.header.shnum → place < 2 ^ 32
      → place ≡ unwrap_or (slice_get places s) 0 → IsNamedAs s place y z
      → NamedBelow places o p (s + 1) z
  named_more place z from below small at named =
      let count = shnum_now in
      let first : 0 < s = omega (arith, from) in
      let inside : s < length p.sections = omega (arith, below, count) in
      let there = put_there places p so_far.now s so_far.put first inside in
      record {
        now = with_shdr so_far.now s (record (header_at so_far.now s) { name = place });
        put = put_more places p so_far.now s so_far.put place
            (with_shdr so_far.now s (record (header_at so_far.now s) { name = place })) first
            inside at refl;
        contents = name_left o so_far.now y so_far.contents s there place small z named;
      }

  pub named_all : y.listed.header.shnum ≤ s → IsContents o (with_places p places) y
  named_all all =
      let count = shnum_now in
      subst (λ (q : Object). IsContents o q y)
      (put_all places p so_far.now s so_far.put (omega (arith, all, count))) so_far.contents

-- there are as many sections as before
module _ (places : List ℕ) (o : Origin) (p : Object) (x : Arranged) (s : ℕ) (y : Arranged)
    (is : IsContents o p x) (so_far : NamedBelow places o p s y) where
  pub below_now : s < x.listed.header.shnum → s < y.listed.header.shnum
  below_now below =
      let before = shnum_is o p x is.listed in
      let now = shnum_now places o p s y so_far in
      omega (arith, below, before, now)

  pub past_now : x.listed.header.shnum ≤ s → y.listed.header.shnum ≤ s
  past_now past =
      let before = shnum_is o p x is.listed in
      let now = shnum_now places o p s y so_far in
      omega (arith, past, before, now)

-- ---- The table

-- it goes into the section of the names, where that has bytes in the file
pub table_left : (o : Origin) (p : Object) (x : Arranged) (is : IsContents o p x) (s : ℕ)
    (there : IsPresentSection p s) (bytes : List ℕ) (y : Arranged) → HasBytesIf s bytes x y
    → IsContents o (with_own p s 0 (items.Bytes bytes)) y
table_left o p x is s there bytes y has = by_kind (occupies_file (header_at p s)) refl
  where
    listed_as : (b : Bool) → occupies_file (header_at p s) ≡ b
        → occupies_file (gathered_header x s) ≡ b
    listed_as b at = ap occupies_file (is.listed.rows s there.1).header ∙ at

    by_kind : (b : Bool) → occupies_file (header_at p s) ≡ b
        → IsContents o (with_own p s 0 (items.Bytes bytes)) y
    by_kind true at =
        bytes_left o p x is s there at bytes y (has.some (listed_as true at))
    by_kind false at =
        let row = is.listed.rows s there.1 in
        let none : (section_at p s).pieces ≡ [] =
        row_pieces row ∙ ap (λ (b : Bool). if b then own_piece row.own 1 ∷ [] else []) at in
        let count = ap (λ (l : List Piece). length l) none in
        subst (λ (q : Object). IsContents o q y)
        (sym (unpieced p s (items.Bytes bytes) (omega (arith, count))))
        (subst (λ (z : Arranged). IsContents o p z) (sym (has.none (listed_as false at))) is)

placed_index : (p : Object) (places : List ℕ)
    → (with_places p places).header.shstrndx ≡ p.header.shstrndx
unfolding with_places
placed_index p places = refl

module _ (o : Origin) (p : Object) (x y z : Arranged) (names : NewNameTable)
    (mid : IsContents o (with_places p names.places) y)
    (there : IsPresentSection p p.header.shstrndx) where
  abbrev placed : Object
  placed = with_places p names.places

  index_is : y.listed.header.shstrndx ≡ p.header.shstrndx
  unfolding header_of with_places
  index_is = ap (λ (h : Ehdr). h.shstrndx) mid.listed.header

  pub stored_left : HasBytesIf y.listed.header.shstrndx names.table y z
      → IsContents o (with_table p names) z
  unfolding with_table
  stored_left has =
      table_left o placed y mid p.header.shstrndx
      (subst (λ (k : ℕ). IsPresentSection placed k) (placed_index p names.places)
      (table_there p placed names.places refl there)) names.table z
      (subst (λ (k : ℕ). HasBytesIf k names.table y z) index_is has)

  pub stored_turned : HasBytesIf y.listed.header.shstrndx names.table y z
      → Turns {T = Unit {0}} o p (Ok (with_table p names)) (Ok tt) z
  stored_turned has = record {
    left = with_table p names;
    alters = record {
      told = refl;
      keeps = keeps_table p names;
      unread = tt;
      altered = λ t. refl;
    };
    contents = stored_left has;
  }

-- ---- Contents in which the names are stored

-- no more is read of the base
table_less : (s : ℕ) (bytes : List ℕ) (y z : Arranged) → HasBytesIf s bytes y z
    → ReadsNoMore y z
table_less s bytes y z has = by (occupies_file (gathered_header y s)) refl
  where
    by : (b : Bool) → occupies_file (gathered_header y s) ≡ b → ReadsNoMore y z
    by true at = bytes_less s bytes y z (has.some at)
    by false at = due_same z.ranges y.ranges (ap (λ (x : Arranged). x.ranges) (has.none at))

pub table_alters : (names : NewNameTable) (x y z : Arranged)
    → BecomesContents (λ p. with_places p names.places) x y → y.ranges ≡ x.ranges
    → HasBytesIf y.listed.header.shstrndx names.table y z
    → AltersContents {T = Unit {0}} (λ p. IsPresentSection p p.header.shstrndx)
    (λ p. Ok (with_table p names)) (Ok tt) x z
table_alters names x y z becomes stays has = record {
  unread = tt;
  less =
      let first = due_same y.ranges x.ranges stays in
      let second = table_less y.listed.header.shstrndx names.table y z has in
      omega (arith, first, second);
  turns = λ o p is there. stored_turned o p x y z names (becomes o p is) there has;
}

pub stays_alters : (Holds : Object → Type 0) (x : Arranged)
    → AltersContents {T = Unit {0}} Holds (λ p. Ok p) (Ok tt) x x
stays_alters Holds x = record {
  unread = tt;
  less = omega arith;
  turns = λ o p is holds. record { left = p; alters = alter_none (known p); contents = is };
}

pub fault_stored : (Holds : Object → Type 0) (f : CopyFault)
    (answer : Object → Result Object StatedFault) (x : Arranged)
    → IsWithoutDeviceFault {T = Unit {0}} (Err f)
    → ((p : Object) → IfSome (stated_copy_fault f) (λ d. answer p ≡ Err d))
    → AltersContents {T = Unit {0}} Holds answer (Err f) x x
fault_stored Holds f answer x unread is = record {
  unread = unread;
  less = tt;
  turns = λ o p contents holds. turns_not o p (Unit {0}) (answer p) f x unread (is p);
}
