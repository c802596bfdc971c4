-- What is loaded and held of each section, and what a call on it is due.
use Rattle.std.proofs.Common.{◌≡◌, ℕ, ◌<◌, ◌≤◌, arith, Bool, true, false, List, length, map, Option, Some, None, refl, sym, ap, ◌∙◌, subst, take, drop, ◌+◌}
use Rattle.std.specs.Prelude.{slice_get, IfSome, IsTrue, is_some, nat_lt, unwrap_or}
use Rattle.std.proofs.lemmas.Bool.{ltb-true, ltb-false}
use Rattle.std.proofs.lemmas.Option.{unwrap_or-slice_get}
use Rattle.std.proofs.lemmas.List.{length-replicate, get_or_past}
use Rattle.std.proofs.Math.ListN.{get_or-map}
use Rattle.section_table.specs.elf_outside.declared.sources.Source.{Ghosts}
use Rattle.section_table.specs.elf_object.Object.{Section, Piece, section_at}
use Rattle.section_table.specs.elf_object.Open.{home_bytes}
use Rattle.section_table.specs.elf_object.Due.{is_loaded}
use Rattle.section_table.specs.section_data.Views.{CellView, IsCell}
use Rattle.section_table.specs.section_data.Held.{cell_is_loaded}
use Rattle.section_table.specs.section_data.Nuls.{IsEndedFront}
use Rattle.elf_descriptor.specs.declared.held.Held.{Held}
use Rattle.elf_descriptor.specs.declared.held.Held.TheVariants.{Edited, Raw, Unread}
use Rattle.section_table.specs.Sections.{SectionView as Scn, absent_scn, IsAsOpened}
use Rattle.section_table.proofs.AsOpened.{piece_opened}
use Rattle.elf_descriptor.specs.declared.body.Body.{Body}
use Rattle.elf_descriptor.specs.Views.{object_of, section_of, raw_of, bytes_or, scn_at, loaded_of, held_of, state_of, base_of, room_of}
use Rattle.elf_descriptor.specs.Held.{IsHeld, IsHeldIn}
use Rattle.elf_descriptor.proofs.Objects.{section_is, piece_is}
use Rattle.elf_descriptor.specs.Sound.{IsElf}
use Rattle.elf_descriptor.proofs.Warming.{lies_in_part, empty_at}
use Rattle.elf_descriptor.proofs.BaseCalls.{base_is, home_stands, part_fits}

pub loaded_is : (b : Body) (s : ℕ) → is_loaded (loaded_of b) s ≡ cell_is_loaded (scn_at b s).cell
unfolding is_loaded loaded_of scn_at
loaded_is b s =
    unwrap_or-slice_get (map (λ (x : Scn). cell_is_loaded x.cell) b.sections) s false
    ∙ get_or-map (λ (x : Scn). cell_is_loaded x.cell) b.sections s absent_scn

pub home_held_is : (b : Body) (s : ℕ) → unwrap_or (slice_get (held_of b) s) false ≡ is_some (scn_at b s).cell.held
unfolding held_of scn_at
home_held_is b s =
    unwrap_or-slice_get (map (λ (x : Scn). is_some x.cell.held) b.sections) s false
    ∙ get_or-map (λ (x : Scn). is_some x.cell.held) b.sections s absent_scn

pub room_is : (b : Body) (s : ℕ) → is_loaded (room_of b) s ≡ (scn_at b s).cell.room
unfolding is_loaded room_of scn_at
room_is b s =
    unwrap_or-slice_get (map (λ (x : Scn). x.cell.room) b.sections) s false
    ∙ get_or-map (λ (x : Scn). x.cell.room) b.sections s absent_scn

-- a section that is not there
pub absent_at : (b : Body) (s : ℕ) → length b.sections ≤ s → scn_at b s ≡ absent_scn
unfolding scn_at
absent_at b s past = get_or_past b.sections s absent_scn past

pub loaded_there : (b : Body) (s : ℕ) → is_loaded (loaded_of b) s ≡ true → s < length b.sections
loaded_there b s loaded = by_range (nat_lt s (length b.sections)) refl
  where
    by_range : (t : Bool) → nat_lt s (length b.sections) ≡ t → s < length b.sections
    by_range true e = ltb-true s (length b.sections) e
    by_range false e =
        let absent =
        ap (λ (x : Scn). cell_is_loaded x.cell)
        (absent_at b s (ltb-false s (length b.sections) e)) in
        let none = sym loaded ∙ loaded_is b s ∙ absent in cc

-- ---- Raw bytes

replicated : (c : CellView) (bytes : List ℕ) → IsCell c → c.raw ≡ Some bytes → length bytes ≡ length (raw_of None c)
unfolding raw_of
replicated c bytes cell is = by_out c.home.out refl
  where
    size : length bytes ≡ c.home.len
    size = subst (λ (o : Option (List ℕ)). IfSome o (λ b. length b ≡ c.home.len)) is cell.sized

    by_out : (out : Bool) → c.home.out ≡ out → length bytes ≡ length (raw_of None c)
    by_out true e = let none = sym is ∙ cell.outside e in cc
    by_out false e = rw (raw_of, e) (size ∙ sym (length-replicate c.home.len 0))

told_raw : (image : List ℕ) (c : CellView) (bytes : List ℕ) → c.raw ≡ Some bytes → bytes ≡ raw_of (Some image) c
unfolding raw_of
told_raw image c bytes is = ap (λ (o : Option (List ℕ)). bytes_or o (home_bytes c.home image)) (sym is)

-- loaded bytes are those of the object where the source tells it, and as many in any case
pub raw_alike : (image : Option (List ℕ)) (c : CellView) (bytes : List ℕ) → IsCell c → c.raw ≡ Some bytes → length bytes ≡ length (raw_of image c)
raw_alike None c bytes cell is = replicated c bytes cell is
raw_alike (Some image) c bytes cell is = ap length (told_raw image c bytes is)

pub raw_exact : (image : Option (List ℕ)) (c : CellView) (bytes : List ℕ) → c.raw ≡ Some bytes → IsTrue (is_some image) → bytes ≡ raw_of image c
raw_exact None c bytes is told = cc
raw_exact (Some image) c bytes is told = told_raw image c bytes is

-- and so are those up to a last NUL
pub raw_ended : (image : Option (List ℕ)) (c : CellView) (front : List ℕ)
    → IfSome c.raw (λ bytes. IsEndedFront bytes front) → cell_is_loaded c ≡ true
    → IsTrue (is_some image) → IsEndedFront (raw_of image c) front
raw_ended image c front ended loaded told = by_raw c.raw refl ended loaded
  where
    by_raw : (raw : Option (List ℕ)) → c.raw ≡ raw → IfSome raw (λ bytes. IsEndedFront bytes front)
        → is_some raw ≡ true → IsEndedFront (raw_of image c) front
    by_raw None is ended loaded = cc
    by_raw (Some bytes) is ended loaded =
        subst (λ (l : List ℕ). IsEndedFront l front) (raw_exact image c bytes is told) ended

pub raw_is : (image : Option (List ℕ)) (size : ℕ) (b : Body) (s : ℕ) → (section_at (object_of image size b) s).raw ≡ raw_of image (scn_at b s).cell
unfolding section_of
raw_is image size b s = ap (λ (c : Section). c.raw) (section_is image size b s)

-- ---- What is held of a piece

-- a home that is not loaded stands in the base
unread_stands : (image : Option (List ℕ)) (size : ℕ) (b : Body) (s : ℕ) → IsElf image size b → (scn_at b s).cell.raw ≡ None → (scn_at b s).cell.home.out ≡ false → IsTrue (is_some image)
    → take (scn_at b s).cell.home.len (drop (scn_at b s).cell.home.at (base_of b.base image size)) ≡ raw_of image (scn_at b s).cell
unfolding raw_of
unread_stands None size b s is unread inside told = cc
unread_stands (Some bytes) size b s is unread inside told =
    home_stands b.base bytes size (scn_at b s).cell inside (lies_in_part (Some bytes) size b s is (ap (λ (r : Option (List ℕ)). is_some r) unread) inside) (empty_at (Some bytes) size b s is)
    ∙ ap (λ (r : Option (List ℕ)). bytes_or r (home_bytes (scn_at b s).cell.home bytes)) (sym unread)

-- of a section, with the base
abbrev Lies : List ℕ → Section → Type 0
Lies base c = c.home.out ≡ false → 0 < c.home.len → c.home.at + c.home.len ≤ length base

abbrev Stands : List ℕ → Section → Type 0
Stands base c = c.home.out ≡ false → take c.home.len (drop c.home.at base) ≡ c.raw

unread_lies : (image : Option (List ℕ)) (size : ℕ) (b : Body) (s : ℕ) → IsElf image size b → (scn_at b s).cell.raw ≡ None → Lies (base_of b.base image size) (section_of image (scn_at b s))
unfolding section_of
unread_lies image size b s is unread inside some =
    let part = lies_in_part image size b s is (ap (λ (r : Option (List ℕ)). is_some r) unread) inside some in
    let fits = part_fits b.base image size is.long is.within in
    omega (arith, part, fits)

unread_is : (image : Option (List ℕ)) (size : ℕ) (b : Body) (s : ℕ) → IsElf image size b → (scn_at b s).cell.raw ≡ None → IsTrue (is_some image) → Stands (base_of b.base image size) (section_of image (scn_at b s))
unfolding section_of
unread_is image size b s is unread told inside = unread_stands image size b s is unread inside told

-- a cell as it was opened holds nothing
pub opened_held : (c : CellView) (p : ℕ) → IsAsOpened c → IsHeldIn c p Unread
opened_held c p is = (ap (λ (q : Piece). q.own) (piece_opened c p is), is.raw)

-- where bytes are held
pub cell_where_raw : (c : CellView) → IsCell c → IfSome c.raw (λ raw. IsCell c)
cell_where_raw c cell = by_raw c.raw
  where
    by_raw : (raw : Option (List ℕ)) → IfSome raw (λ bytes. IsCell c)
    by_raw None = tt
    by_raw (Some bytes) = cell

pub held_as : {S : Type 0} (g : Ghosts S) (source : S) (b : Body) (s p : ℕ) (held : Held)
    → IsElf (g.holds source) (g.size source) b
    → IfSome (scn_at b s).cell.raw (λ raw. IsCell (scn_at b s).cell)
    → IsHeldIn (scn_at b s).cell p held
    → IsHeld (state_of g source b) s p held
held_as g source b s p (Edited items) sound cell is = ap (λ (q : Piece). q.own) (piece_is (g.holds source) (g.size source) b s p) ∙ is
held_as g source b s p (Raw bytes) sound cell is = record {
  clean = ap (λ (q : Piece). q.own) (piece_is (g.holds source) (g.size source) b s p) ∙ is.0;
  loaded = loaded_is b s ∙ ap (λ (o : Option (List ℕ)). is_some o) is.1;
  alike = raw_alike (g.holds source) (scn_at b s).cell bytes.now
      (subst (λ (o : Option (List ℕ)). IfSome o (λ raw. IsCell (scn_at b s).cell)) is.1 cell) is.1
      ∙ sym (ap length (raw_is (g.holds source) (g.size source) b s));
  exact = λ told. raw_exact (g.holds source) (scn_at b s).cell bytes.now is.1 told ∙ sym (raw_is (g.holds source) (g.size source) b s);
}
held_as g source b s p Unread sound cell is = record {
  clean = ap (λ (q : Piece). q.own) (piece_is (g.holds source) (g.size source) b s p) ∙ is.0;
  unread = loaded_is b s ∙ ap (λ (o : Option (List ℕ)). is_some o) is.1;
  inside = subst (λ (c : Section). Lies (object_of (g.holds source) (g.size source) b).base c) (sym (section_is (g.holds source) (g.size source) b s))
      (subst (λ (l : List ℕ). Lies l (section_of (g.holds source) (scn_at b s))) (sym (base_is (g.holds source) (g.size source) b)) (unread_lies (g.holds source) (g.size source) b s sound is.1));
  stands = λ told. subst (λ (c : Section). Stands (object_of (g.holds source) (g.size source) b).base c) (sym (section_is (g.holds source) (g.size source) b s))
      (subst (λ (l : List ℕ). Stands l (section_of (g.holds source) (scn_at b s))) (sym (base_is (g.holds source) (g.size source) b)) (unread_is (g.holds source) (g.size source) b s sound is.1 told));
}
