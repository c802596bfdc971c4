-- Copies of the bytes of a piece of a section.
use Rattle.std.proofs.Common.{◌≡◌, ℕ, ◌+◌, ◌<◌, ◌≤◌, ◌^◌, Bool, true, false, List, length, take, drop, get_or, Option, Some, None, Result, Ok, Err, refl, sym, ap, ◌∙◌, subst, arith}
use Rattle.std.specs.Prelude.{if◌then◌else◌, ◌==◌, ◌&&◌, ◌||◌, IsTrue, OnOk}
use Rattle.std.proofs.lemmas.List.{length-take, length-drop, get_or-take, get_or-drop, ext_get_or}
use Rattle.elf_types.specs.declared.errors.ElfError.{ElfError}
use Rattle.elf_types.specs.declared.records.Ehdr.{Ehdr}
use Rattle.elf_types.specs.declared.records.DataId.{DataId}
use Rattle.elf_types.specs.declared.records.Part.{Part}
use Rattle.elf_types.specs.declared.records.Part.TheVariants as part
use Rattle.elf_update_plan.specs.elf_xlate.declared.content.Items.{Items}
use Rattle.elf_update_plan.specs.elf_xlate.Translation.{encoded, first_unfit}
use Rattle.elf_update_plan.specs.elf_outside.Asks.{Asks}
use Rattle.elf_update_plan.specs.elf_outside.declared.sources.Source.{Ghosts}
use Rattle.elf_update_plan.specs.elf_object.Object.{Object, header_of, section_at, piece_at, has_file_bytes, home_is_clean}
use Rattle.elf_update_plan.specs.elf_object.Answers.{piece_count}
use Rattle.elf_update_plan.specs.elf_object.Due.{is_loaded, home_due}
use Rattle.elf_update_plan.specs.law_object.Writing.Plan.{section_due, places_below}
use Rattle.elf_update_plan.specs.law_object.Writing.Ready.{IsReady}
use Rattle.elf_update_plan.specs.elf_descriptor.State.{State}
use Rattle.elf_update_plan.specs.elf_descriptor.Held.{AreHeldBytes, IsUnread}
use Rattle.elf_update_to.specs.Origins.{absent_piece, origin_due, CopiesBy}
use Rattle.elf_update_to.specs.declared.parts.Origin.TheVariants.{Piece}
use Rattle.elf_update_to.specs.Descriptors.{kept_of_elf, faults_of, taken_of, stored_pieces, stored_due, HasToRead}
use Rattle.elf_update_to.proofs.StoredLaws.{own_fits, home_in_file}
use Rattle.elf_update_to.proofs.DataLaws.{HasPiece, some_there, own_stored, clean_stored, IsClean, clean_is, home_long}

-- ---- A copy and a descriptor

-- nothing was read
pub still_copies : {S : Type 0} (g : Ghosts S) (e : State S) (m : ℕ)
    → CopiesBy {T = Unit {0}} (kept_of_elf g) (faults_of g) (taken_of g) (Ok tt) e e m
still_copies g e m = record {
  leaves = refl;
  later = omega arith;
  read = tt;
  asks = record { later = omega arith; no_more = omega arith };
}

kept_over : {S : Type 0} (g : Ghosts S) (old : State S) (x : S) → g.size x ≡ g.size old.source
    → g.holds x ≡ g.holds old.source → g.rest x ≡ g.rest old.source
    → kept_of_elf g (record old { source = x }) ≡ kept_of_elf g old
kept_over g old x size holds rest =
    ap (λ (n : ℕ). record (kept_of_elf g (record old { source = x })) { size = n }) size
    ∙ ap (λ (b : Option (List ℕ)). record (kept_of_elf g (record old { source = x }))
    { size = g.size old.source; holds = b }) holds
    ∙ ap (λ (l : List (List ℕ)). record (kept_of_elf g (record old { source = x }))
    { size = g.size old.source; holds = g.holds old.source; rest = l }) rest

-- so many bytes were asked for
pub asks_copies : {S T : Type 0} (g : Ghosts S) (r : Result T ElfError) (old new : State S)
    (n m : ℕ) → new ≡ record old { source = new.source }
    → Asks g r old.source new.source n → n ≤ m → CopiesBy (kept_of_elf g) (faults_of g) (taken_of g) r old new m
asks_copies {S} g r old new n m stays asks most =
    let no_more = asks.taken.no_more in
    record {
      leaves = ap (λ (e : State S). kept_of_elf g e) stays
          ∙ kept_over g old new.source asks.leaves.same_len asks.leaves.same_bytes
          asks.leaves.same_rest;
      later = asks.later;
      read = asks.read;
      asks = record { later = asks.taken.later; no_more = omega (arith, no_more, most) };
    }

-- ---- An own piece

pub own_fit : (o : Object) (s p : ℕ) (items : Items) (h : Ehdr) → IsReady o → HasPiece o s p
    → (piece_at o s p).own ≡ Some items → h ≡ header_of o
    → first_unfit h.class items ≡ None
unfolding piece_at piece_count header_of
own_fit o s p items h ready is own same =
    ap (λ (x : Ehdr). first_unfit x.class items) same ∙ own_fits o s p items ready is.section is.filled is.piece own

own_same : (o : Object) (s p : ℕ) (items : Items) (h : Ehdr) → HasPiece o s p
    → (piece_at o s p).own ≡ Some items → h ≡ header_of o
    → encoded h.class h.order items ≡ (get_or (stored_pieces o (part.Section s)) p absent_piece).1
unfolding header_of
own_same o s p items h is own same =
    ap (λ (x : Ehdr). encoded x.class x.order items) same ∙ sym (own_stored o s p items is own)

pub own_room : (o : Object) (s p : ℕ) (items : Items) (h : Ehdr) (n : ℕ) → HasPiece o s p
    → (piece_at o s p).own ≡ Some items → h ≡ header_of o
    → n ≤ length (get_or (stored_pieces o (part.Section s)) p absent_piece).1
    → n ≤ length (encoded h.class h.order items)
own_room o s p items h n is own same room =
    let long = ap (λ (l : List ℕ). length l) (own_same o s p items h is own same) in omega (arith, long, room)

pub own_copied : (o : Object) (s p : ℕ) (items : Items) (h : Ehdr) (from n : ℕ) (out : List ℕ)
    → HasPiece o s p → (piece_at o s p).own ≡ Some items → h ≡ header_of o
    → out ≡ take n (drop from (encoded h.class h.order items))
    → out ≡ take n (drop from (get_or (stored_pieces o (part.Section s)) p absent_piece).1)
own_copied o s p items h from n out is own same put =
    put ∙ ap (λ (l : List ℕ). take n (drop from l)) (own_same o s p items h is own same)

-- ---- A piece whose bytes are held

pub held_room : {S : Type 0} (e : State S) (s p n : ℕ) (bytes : List ℕ) → HasPiece e.o s p → AreHeldBytes e s p bytes
    → n ≤ length (get_or (stored_pieces e.o (part.Section s)) p absent_piece).1 → n ≤ length bytes
held_room e s p n bytes is held room =
    let long = ap (λ (l : List ℕ). length l) (clean_stored e.o s p is held.clean) in
    let alike = held.alike in
    omega (arith, long, alike, room)

pub held_copied : {S : Type 0} (e : State S) (s p from n : ℕ) (bytes out : List ℕ)
    → HasPiece e.o s p → AreHeldBytes e s p bytes
    → out ≡ take n (drop from bytes) → IsTrue e.told
    → out ≡ take n (drop from (get_or (stored_pieces e.o (part.Section s)) p absent_piece).1)
held_copied e s p from n bytes out is held put told =
    put ∙ ap (λ (l : List ℕ). take n (drop from l)) (held.exact told ∙ sym (clean_stored e.o s p is held.clean))

-- a range that fits is as long as it is asked for
pub range_long : (from n : ℕ) (bytes out : List ℕ) → from + n ≤ length bytes
    → out ≡ take n (drop from bytes) → length out ≡ n
range_long from n bytes out there is =
    let long = ap (λ (l : List ℕ). length l) is in
    let part = length-take n (drop from bytes) in
    let rest = length-drop from bytes in
    omega (arith, long, part, rest, there)

-- ---- A piece that is not held

range_of : (at len from n : ℕ) (base : List ℕ) → from + n ≤ len → at + len ≤ length base
    → take n (drop (at + from) base) ≡ take n (drop from (take len (drop at base)))
range_of at len from n base within inside =
    let a = length-drop at base in
    let b = length-take len (drop at base) in
    let c = length-drop from (take len (drop at base)) in
    let d = length-take n (drop from (take len (drop at base))) in
    let e = length-drop (at + from) base in
    let f = length-take n (drop (at + from) base) in
    let left : length (take n (drop (at + from) base)) ≡ n = omega (arith, e, f, within, inside) in
    let right : length (take n (drop from (take len (drop at base)))) ≡ n = omega (arith, a, b, c, d, within, inside) in
    ext_get_or 0 (take n (drop (at + from) base)) (take n (drop from (take len (drop at base))))
    (left ∙ sym right) (λ j h.
    let below : j < n = omega (arith, h, left) in
    let place : at + from + j ≡ at + (from + j) = omega arith in
    get_or-take n (drop (at + from) base) j 0 below
    ∙ get_or-drop (at + from) base j 0
    ∙ ap (λ (k : ℕ). get_or base k 0) place
    ∙ sym (get_or-take n (drop from (take len (drop at base))) j 0 below
    ∙ get_or-drop from (take len (drop at base)) j 0
    ∙ get_or-take len (drop at base) (from + j) 0 (omega (arith, below, within))
    ∙ get_or-drop at base (from + j) 0))

-- what a home is due
home_asked : (o : Object) (loaded : List Bool) (s : ℕ) → has_file_bytes s (section_at o s) ≡ true
    → home_is_clean (section_at o s) ≡ true
    → is_loaded loaded s ≡ false → (section_at o s).home.out ≡ false
    → section_due o loaded s ≡ (section_at o s).home.len
unfolding section_due home_due
home_asked o loaded s filled clean unread inside =
    ap (λ (b : Bool). if b && home_is_clean (section_at o s) then
    (if is_loaded loaded s || (section_at o s).home.out then 0 else (section_at o s).home.len) else
    0) filled
    ∙ ap (λ (b : Bool). if b then (if is_loaded loaded s || (section_at o s).home.out then 0 else
    (section_at o s).home.len) else 0) clean
    ∙ ap (λ (b : Bool). if b || (section_at o s).home.out then 0 else (section_at o s).home.len) unread
    ∙ ap (λ (b : Bool). if b then 0 else (section_at o s).home.len) inside

-- a range of such a piece lies in the base
pub record IsInBase (o : Object) (s from n : ℕ) : Type 0 where
  pub section : s < length o.sections
  pub len : from + n ≤ (section_at o s).home.len
  pub base : (section_at o s).home.at + from + n ≤ length o.base
  pub small : (section_at o s).home.at + from < 2 ^ 64

module _ {S : Type 0} (e : State S) (s p from n : ℕ) (ready : IsReady e.o)
    (unread : IsUnread e s p) (some : 0 < n)
    (there : from + n ≤ length (get_or (stored_pieces e.o (part.Section s)) p absent_piece).1) where
  unread_there : HasPiece e.o s p
  unread_there = some_there e.o s p from n some there

  unread_clean : IsClean e.o s p
  unread_clean = clean_is e.o s p ready.object unread_there unread.clean

  unread_inside : (section_at e.o s).home.out ≡ false
  unread_inside =
      home_in_file e.o s ready unread_there.section unread_there.filled unread_clean.clean

  pub in_base : IsInBase e.o s from n
  in_base =
      let raw = ap (λ (l : List ℕ). length l) (clean_stored e.o s p unread_there unread.clean) in
      let long = home_long e.o s ready.object unread_there.section unread_inside in
      let len : from + n ≤ (section_at e.o s).home.len = omega (arith, raw, long, there) in
      let base = unread.inside unread_inside (omega (arith, len, some)) in
      let small = ready.object.base_length in
      record {
        section = unread_there.section;
        len = len;
        base = omega (arith, len, base);
        small = omega (arith, len, base, small, some);
      }

  pub base_copied : {T : Type 0} (r : Result T ElfError) (out : List ℕ)
      → (IsTrue e.told → OnOk r (out ≡ take n (drop ((section_at e.o s).home.at + from) e.o.base)))
      → IsTrue e.told
      → OnOk r (out ≡ take n (drop from (get_or (stored_pieces e.o (part.Section s)) p absent_piece).1))
  base_copied (Err x) out put told = tt
  base_copied (Ok x) out put told =
      let within = in_base in
      let len = within.len in
      let base = unread.inside unread_inside (omega (arith, len, some)) in
      put told
      ∙ range_of (section_at e.o s).home.at (section_at e.o s).home.len from n e.o.base within.len
      base
      ∙ ap (λ (l : List ℕ). take n (drop from l))
      (unread.stands told unread_inside ∙ sym (clean_stored e.o s p unread_there unread.clean))

  pub base_asked : n
      ≤ places_below (origin_due (stored_due e.o e.loaded) 0 (Piece (part.Section s) p)) from
      (from + n)
  base_asked =
      let within = in_base in
      let due = home_asked e.o e.loaded s unread_there.filled unread_clean.clean unread.unread
      unread_inside in
      let first : (if p == 0 then section_due e.o e.loaded s else 0) ≡ section_due e.o e.loaded s =
      ap (λ (q : ℕ). if q == 0 then section_due e.o e.loaded s else 0) unread_clean.first in
      let len = within.len in
      omega (arith, due, first, len)

-- ---- The base

pub base_bytes : (n from base : ℕ) → from + n ≤ base → n ≤ places_below base from (from + n)
base_bytes n from base there = omega (arith, there)

-- ---- A piece that has to be read, into a buffer that is as long as before

module _ {S : Type 0} (e : State S) (of : Part) (p : ℕ) (d : DataId) (is : HasToRead e of p d) where
  read_as : (P : Part → ℕ → Type 0) → P (part.Section d.section) d.piece → P of p
  read_as P h =
      subst (λ (x : Part). P x p) (sym is.section)
      (subst (λ (k : ℕ). P (part.Section d.section) k) (sym is.piece) h)

  pub read_there : (from n m : ℕ) → n ≡ m
      → from + m ≤ length (get_or (stored_pieces e.o of) p absent_piece).1
      → from + n ≤ length (get_or (stored_pieces e.o (part.Section d.section)) d.piece absent_piece).1
  read_there from n m same there =
      let of_section : from + m
      ≤ length (get_or (stored_pieces e.o (part.Section d.section)) p absent_piece).1 =
      subst (λ (x : Part). from + m ≤ length (get_or (stored_pieces e.o x) p absent_piece).1)
      is.section there in
      let of_piece : from + m
      ≤ length (get_or (stored_pieces e.o (part.Section d.section)) d.piece absent_piece).1 =
      subst (λ (k : ℕ).
      from + m ≤ length (get_or (stored_pieces e.o (part.Section d.section)) k absent_piece).1)
      is.piece of_section in
      omega (arith, same, of_piece)

  pub read_bytes : {T : Type 0} (r : Result T ElfError) (from n m : ℕ) (out : List ℕ) → n ≡ m
      → (IsTrue e.told → OnOk r (out ≡ take n (drop from
      (get_or (stored_pieces e.o (part.Section d.section)) d.piece absent_piece).1)))
      → IsTrue e.told
      → OnOk r (out ≡ take m (drop from (get_or (stored_pieces e.o of) p absent_piece).1))
  read_bytes r from n m out same put told =
      read_as (λ (x : Part) (k : ℕ).
      OnOk r (out ≡ take m (drop from (get_or (stored_pieces e.o x) k absent_piece).1)))
      (subst (λ (k : ℕ). OnOk r (out ≡ take k (drop from
      (get_or (stored_pieces e.o (part.Section d.section)) d.piece absent_piece).1))) same
      (put told))

  pub read_copies : {T : Type 0} (g : Ghosts S) (r : Result T ElfError) (new : State S)
      (from n m : ℕ) → n ≡ m
      → CopiesBy (kept_of_elf g) (faults_of g) (taken_of g) r e new
      (places_below (origin_due (stored_due e.o e.loaded) 0
      (Piece (part.Section d.section) d.piece)) from (from + n))
      → CopiesBy (kept_of_elf g) (faults_of g) (taken_of g) r e new
      (places_below (origin_due (stored_due e.o e.loaded) 0 (Piece of p)) from (from + m))
  read_copies g r new from n m same copies =
      read_as (λ (x : Part) (k : ℕ).
      CopiesBy (kept_of_elf g) (faults_of g) (taken_of g) r e new
      (places_below (origin_due (stored_due e.o e.loaded) 0 (Piece x k)) from (from + m)))
      (subst (λ (k : ℕ). CopiesBy (kept_of_elf g) (faults_of g) (taken_of g) r e new
      (places_below (origin_due (stored_due e.o e.loaded) 0
      (Piece (part.Section d.section) d.piece)) from (from + k))) same copies)
