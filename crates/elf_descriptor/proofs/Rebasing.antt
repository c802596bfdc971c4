-- The base changes with the source: what the homes hold stays, and so does what is true of the descriptor.
use Rattle.std.proofs.Common.{◌≡◌, ◌∙◌, ℕ, zero, suc, ◌+◌, ◌^◌, ◌<◌, ◌≤◌, Bool, true, false, List, [], ◌∷◌, length, take, drop, get_or, map, Option, Some, None, refl, sym, ap, subst, arith}
use Rattle.std.specs.Prelude.{slice_get, ◌||◌, IfSome, IsSome, is_some, if◌then◌else◌}
use Rattle.std.proofs.lemmas.List.{length-take, length-drop}
use Rattle.std.proofs.lemmas.List.Elements.{All-get_or, All-take, All-replicate, All-from_get_or}
use Rattle.section_table.specs.elf_object.Object.{Object, Section, section_at, absent_section, is_dirty}
use Rattle.section_table.specs.elf_object.Open.{home_bytes}
use Rattle.elf_types.specs.Lists.{AreBytes}
use Rattle.section_table.specs.elf_object.Valid.{IsObject}
use Rattle.law_object.specs.Writing.Based.{IsBased, HomeStands, some_unmarked}
use Rattle.section_table.specs.section_data.Views.{CellView}
use Rattle.section_table.specs.section_data.Held.{cell_is_loaded}
use Rattle.section_table.specs.Sections.{SectionView as Scn, absent_scn}
use Rattle.elf_descriptor.specs.declared.body.Body.{Body}
use Rattle.elf_descriptor.specs.declared.body.Base.{Base}
use Rattle.elf_descriptor.specs.declared.body.Base.TheVariants as bases
use Rattle.elf_descriptor.specs.Views.{object_of, section_of, raw_of, bytes_or, base_of, source_bytes, scn_at, is_of_source, HasCounts, has_mark}
use Rattle.std.proofs.lemmas.Option.{get_or_from_slice_get, slice_get_within}
use Rattle.elf_descriptor.specs.Sound.{IsElf, IsSound, IsStanding, CellIn, source_part}
use Rattle.elf_descriptor.proofs.Objects.{section_is, section_count_is, base_length, base_count}
use Rattle.elf_descriptor.proofs.BaseCalls.{base_is, base_part, front_range}
use Rattle.elf_descriptor.proofs.Warming.{cell_at}
use Rattle.elf_descriptor.proofs.PieceCalls.{section_sound}

-- ---- Lists

map_alike : {X Y : Type 0} (f g : X → Y) (d : X) (l : List X) → ((i : ℕ) → i < length l → f (get_or l i d) ≡ g (get_or l i d)) → map f l ≡ map g l
map_alike f g d [] each = refl
map_alike {X} {Y} f g d (x ∷ l) each =
    ap (λ (y : Y). y ∷ map f l) (each 0 (omega arith))
    ∙ ap (λ (m : List Y). g x ∷ m) (map_alike f g d l (λ i h. each (suc i) (omega (arith, h))))

-- what stands at a number that is found
scn_found : (b : Body) (i : ℕ) (s : Scn) → slice_get b.sections i ≡ Some s → scn_at b i ≡ s
unfolding scn_at
scn_found b i s found = get_or_from_slice_get b.sections i s absent_scn found

-- ---- An object with another base

other_base : (o : Object) (bytes : List ℕ) → IsObject o → AreBytes bytes → length bytes < 2 ^ 64 → IsObject (record o { base = bytes })
other_base o bytes is each small = record {
  header = is.header;
  fitting = is.fitting;
  phnum = is.phnum;
  shnum = is.shnum;
  pad = is.pad;
  pad_bytes = is.pad_bytes;
  phdr_count = is.phdr_count;
  sections = is.sections;
  section_count = is.section_count;
  string_index = is.string_index;
  base = each;
  base_length = small;
  fill = is.fill;
}

marked_body : (image : Option (List ℕ)) (size : ℕ) (b : Body)
    → (object_of image size b).marked ≡ true → has_mark b ≡ true
unfolding object_of
marked_body image size b marked = ap (λ (t : Bool). t || b.header_marked) marked

marked_dirty : (o : Object) → o.marked ≡ true → is_dirty o ≡ true
unfolding is_dirty
marked_dirty o marked = rw marked refl

source_are_bytes : (image : Option (List ℕ)) (size : ℕ) → IfSome image AreBytes → AreBytes (source_bytes image size)
source_are_bytes None size each = All-replicate (λ n. n < 2 ^ 8) size 0 (omega arith)
source_are_bytes (Some bytes) size each = each

-- ---- The base is another part of another source

-- Of an old part of m bytes the first n are left. A run of places in the old part that is not
-- touched lies in what is left, and has its bytes.
pub record IsRebased (touched : ℕ → ℕ → Bool) (image now : Option (List ℕ)) (size after : ℕ) (old new : Body) : Type 0 where
  pub m : ℕ
  pub n : ℕ
  pub old_part : old.base ≡ bases.Source m
  pub new_part : new.base ≡ bases.Source n
  pub rest : new ≡ record old { base = new.base }
  pub fewer : n ≤ m
  pub within : n ≤ after
  pub told : is_some now ≡ is_some image
  pub long : IfSome now (λ bytes. length bytes ≡ after)
  pub ranged : IfSome now AreBytes
  pub same : IsSome image → (at len : ℕ) → 0 < len → at + len ≤ m → touched at len ≡ false
      → (at + len ≤ n) × (take len (drop at (source_bytes now after)) ≡ take len (drop at (source_bytes image size)))
  pub lies : (at len : ℕ) → 0 < len → at + len ≤ m → touched at len ≡ false → at + len ≤ n

-- what a home holds does not rest on the base
abbrev pub IsApart : Option (List ℕ) → Scn → Type 0
IsApart image x = (cell_is_loaded x.cell ≡ true) × (some_unmarked (section_of image x) ≡ false)

module _ (touched : ℕ → ℕ → Bool) (image now : Option (List ℕ)) (size after : ℕ) (old new : Body) (r : IsRebased touched image now size after old new) (is : IsElf image size old)
    (apart : (i : ℕ) → (scn_at old i).cell.home.out ≡ false → 0 < (scn_at old i).cell.home.len → (scn_at old i).cell.home.at + (scn_at old i).cell.home.len ≤ r.m
    → touched (scn_at old i).cell.home.at (scn_at old i).cell.home.len ≡ true → IsApart image (scn_at old i)) where
  -- a home that is not apart is not touched
  left_alone : (i : ℕ) → (scn_at old i).cell.home.out ≡ false → 0 < (scn_at old i).cell.home.len → (scn_at old i).cell.home.at + (scn_at old i).cell.home.len ≤ r.m
      → (IsApart image (scn_at old i) → ⊥) → touched (scn_at old i).cell.home.at (scn_at old i).cell.home.len ≡ false
  left_alone i inside some lies never = by_test (touched (scn_at old i).cell.home.at (scn_at old i).cell.home.len) refl
    where
      by_test : (t : Bool) → touched (scn_at old i).cell.home.at (scn_at old i).cell.home.len ≡ t → touched (scn_at old i).cell.home.at (scn_at old i).cell.home.len ≡ false
      by_test true e = absurd (never (apart i inside some lies e))
      by_test false e = e

  -- a home that is not loaded lies in the old part
  lay : (i : ℕ) → i < length old.sections → cell_is_loaded (scn_at old i).cell ≡ false
      → (scn_at old i).cell.home.out ≡ false → 0 < (scn_at old i).cell.home.len
      → (scn_at old i).cell.home.at + (scn_at old i).cell.home.len ≤ r.m
  lay i there unread inside some =
      subst (λ (b : Base). (scn_at old i).cell.home.at + (scn_at old i).cell.home.len ≤ source_part b) r.old_part ((cell_at image size old i is there).lies unread inside some)

  unread_apart : (x : Scn) → cell_is_loaded x.cell ≡ false → IsApart image x → ⊥
  unread_apart x unread both = let never : false ≡ true = sym unread ∙ both.0 in cc

  -- what it holds stays
  raw_same : (i : ℕ) → i < length old.sections
      → raw_of now (scn_at old i).cell ≡ raw_of image (scn_at old i).cell
  unfolding raw_of home_bytes
  raw_same i there = by_source image now refl refl r.told
    where
      c : CellView
      c = (scn_at old i).cell

      by_len : (len : ℕ) (old_bytes new_bytes : List ℕ) → (0 < len → take len (drop c.home.at new_bytes) ≡ take len (drop c.home.at old_bytes)) → take len (drop c.home.at new_bytes) ≡ take len (drop c.home.at old_bytes)
      by_len zero old_bytes new_bytes same = refl
      by_len (suc len) old_bytes new_bytes same = same (omega arith)

      by_out : (out : Bool) (old_bytes new_bytes : List ℕ) → c.home.out ≡ out → cell_is_loaded c ≡ false → image ≡ Some old_bytes → now ≡ Some new_bytes
          → (if out then [] else take c.home.len (drop c.home.at new_bytes)) ≡ (if out then [] else take c.home.len (drop c.home.at old_bytes))
      by_out true old_bytes new_bytes e unread told known = refl
      by_out false old_bytes new_bytes e unread told known =
          by_len c.home.len old_bytes new_bytes (λ some.
          let lies = lay i there unread e some in
          let same = (r.same (ap (λ (s : Option (List ℕ)). is_some s) told) c.home.at c.home.len some lies (left_alone i e some lies (unread_apart (scn_at old i) unread))).1 in
          subst (λ (s : Option (List ℕ)). take c.home.len (drop c.home.at (source_bytes s after)) ≡ take c.home.len (drop c.home.at old_bytes)) known
          (subst (λ (s : Option (List ℕ)). take c.home.len (drop c.home.at (source_bytes now after)) ≡ take c.home.len (drop c.home.at (source_bytes s size))) told same))

      by_raw : (raw : Option (List ℕ)) (old_bytes new_bytes : List ℕ) → c.raw ≡ raw → image ≡ Some old_bytes → now ≡ Some new_bytes
          → bytes_or raw (if c.home.out then [] else take c.home.len (drop c.home.at new_bytes)) ≡ bytes_or raw (if c.home.out then [] else take c.home.len (drop c.home.at old_bytes))
      by_raw (Some bytes) old_bytes new_bytes e told known = refl
      by_raw None old_bytes new_bytes e told known = by_out c.home.out old_bytes new_bytes refl (ap (λ (s : Option (List ℕ)). is_some s) e) told known

      by_source : (old_image new_image : Option (List ℕ)) → image ≡ old_image → now ≡ new_image → is_some now ≡ is_some image → raw_of new_image c ≡ raw_of old_image c
      by_source None None told known same = refl
      by_source (Some old_bytes) (Some new_bytes) told known same = by_raw c.raw old_bytes new_bytes refl told known
      by_source None (Some new_bytes) told known same =
          let never : true ≡ false = sym (ap (λ (s : Option (List ℕ)). is_some s) known) ∙ same ∙ ap (λ (s : Option (List ℕ)). is_some s) told in cc
      by_source (Some old_bytes) None told known same =
          let never : false ≡ true = sym (ap (λ (s : Option (List ℕ)). is_some s) known) ∙ same ∙ ap (λ (s : Option (List ℕ)). is_some s) told in cc

  section_same : (i : ℕ) → i < length old.sections
      → section_of now (scn_at old i) ≡ section_of image (scn_at old i)
  unfolding section_of
  section_same i there = ap (λ (raw : List ℕ). record (section_of image (scn_at old i)) { raw = raw }) (raw_same i there)

  -- the object, but for its base
  pub rebased_object : object_of now after new ≡ record (object_of image size old) { base = base_of new.base now after }
  unfolding object_of scn_at
  rebased_object =
      ap (λ (b : Body). object_of now after b) r.rest
      ∙ ap (λ (l : List Section). record (object_of image size old) { base = base_of new.base now after; sections = l })
      (map_alike (section_of now) (section_of image) absent_scn old.sections
      (λ i there. section_same i there))

  base_now : List ℕ
  base_now = base_of new.base now after

  base_now_is : base_of new.base now after ≡ take r.n (source_bytes now after)
  base_now_is = ap (λ (b : Base). base_of b now after) r.new_part

  -- it is as long as what is left
  pub rebased_length : length (base_of new.base now after) ≡ r.n
  rebased_length =
      base_length new.base now after r.long (subst (λ (b : Base). source_part b ≤ after) (sym r.new_part) r.within)
      ∙ ap (λ (b : Base). base_count b) r.new_part

  pub old_length : length (object_of image size old).base ≡ r.m
  old_length = ap length (base_is image size old) ∙ base_length old.base image size is.long is.within ∙ ap (λ (b : Base). base_count b) r.old_part

  -- where some piece is not marked, a home that stood in the base stands there
  stands : IsSome image → (i : ℕ) → i < length old.sections
      → HomeStands (object_of image size old).base (section_of image (scn_at old i))
      → HomeStands (base_of new.base now after) (section_of image (scn_at old i))
  unfolding section_of
  stands told i there before unmarked inside =
      by_len (scn_at old i).cell.home.len refl ∙ before unmarked inside
    where
      at : ℕ
      at = (scn_at old i).cell.home.at

      stood : (len : ℕ) → (scn_at old i).cell.home.len ≡ len → take len (drop at (take r.m (source_bytes image size))) ≡ raw_of image (scn_at old i).cell
      stood len e =
          ap (λ (l : List ℕ). take len (drop at l)) (sym (base_part image size old r.m r.old_part))
          ∙ ap (λ (k : ℕ). take k (drop at (object_of image size old).base)) (sym e)
          ∙ before unmarked inside

      long : (len : ℕ) → (scn_at old i).cell.home.len ≡ len → 0 < len → at + len ≤ r.m
      long len e some =
          let whole = (section_sound image size old i is there).home.inside inside in
          let run = ap length (stood len e) ∙ whole ∙ e in
          let taken = length-take len (drop at (take r.m (source_bytes image size))) in
          let dropped = length-drop at (take r.m (source_bytes image size)) in
          let front = length-take r.m (source_bytes image size) in
          omega (arith, run, taken, dropped, front, some)

      by_len : (len : ℕ) → (scn_at old i).cell.home.len ≡ len
          → take (scn_at old i).cell.home.len (drop at (base_of new.base now after)) ≡ take (scn_at old i).cell.home.len (drop at (object_of image size old).base)
      by_len zero e = ap (λ (k : ℕ). take k (drop at (base_of new.base now after))) e ∙ sym (ap (λ (k : ℕ). take k (drop at (object_of image size old).base)) e)
      by_len (suc k) e =
          let some : 0 < (scn_at old i).cell.home.len = omega (arith, e) in
          let lies = long (scn_at old i).cell.home.len refl some in
          let alone = left_alone i inside some lies (λ both. let never : false ≡ true = sym both.1 ∙ unmarked in cc) in
          let kept = r.same told at (scn_at old i).cell.home.len some lies alone in
          ap (λ (l : List ℕ). take (scn_at old i).cell.home.len (drop at l)) base_now_is
          ∙ front_range (source_bytes now after) r.n at (scn_at old i).cell.home.len (λ h. kept.0)
          ∙ kept.1
          ∙ sym (front_range (source_bytes image size) r.m at (scn_at old i).cell.home.len (λ h. lies))
          ∙ ap (λ (l : List ℕ). take (scn_at old i).cell.home.len (drop at l)) (sym (base_part image size old r.m r.old_part))

  rebased_based : IsSome image → (object_of image size old).marked ≡ true → IsBased (record (object_of image size old) { base = base_of new.base now after })
  unfolding section_at
  rebased_based told marked =
      let o = object_of image size old in
      let based = is.sound.based told in
      record {
        header = λ unmarked. let never : true ≡ false = sym marked ∙ unmarked in cc;
        segments = λ unmarked. let never : true ≡ false = sym marked ∙ unmarked in cc;
        table = λ unmarked. let never : true ≡ false = sym marked ∙ unmarked in cc;
        homes = All-from_get_or (HomeStands (base_of new.base now after)) o.sections absent_section (λ i there. home i there (All-get_or (HomeStands o.base) o.sections i absent_section there based.homes));
      }
    where
      home : (i : ℕ) → i < length (object_of image size old).sections → HomeStands (object_of image size old).base (get_or (object_of image size old).sections i absent_section)
          → HomeStands (base_of new.base now after) (get_or (object_of image size old).sections i absent_section)
      home i there before =
          let count = section_count_is image size old in
          let here : get_or (object_of image size old).sections i absent_section ≡ section_of image (scn_at old i) = section_is image size old i in
          subst (λ (c : Section). HomeStands (base_of new.base now after) c) (sym here)
          (stands told i (subst (λ (k : ℕ). i < k) count there) (subst (λ (c : Section). HomeStands (object_of image size old).base c) here before))

  -- what is true of the descriptor
  pub rebased_elf : (object_of image size old).marked ≡ true → IsElf now after new
  rebased_elf marked =
      let o = object_of image size old in
      let base = base_of new.base now after in
      let small = is.sound.object.base_length in
      let object : IsObject (record o { base = base }) =
      other_base o base is.sound.object
      (subst AreBytes (sym base_now_is) (All-take (λ k. k < 2 ^ 8) r.n (source_bytes now after) (source_are_bytes now after r.ranged)))
      (omega (arith, small, rebased_length, old_length, r.fewer)) in
      record {
        long = r.long;
        within = subst (λ (b : Base). source_part b ≤ after) (sym r.new_part) r.within;
        whole = λ h.
            let same : has_mark old ≡ false = ap has_mark (sym r.rest) ∙ h in
            let never : true ≡ false = sym (marked_body image size old marked) ∙ same in cc;
        counts = subst HasCounts (sym r.rest) (record { phnum = is.counts.phnum; shnum = is.counts.shnum });
        cells = λ i s found.
            cell_in i s (ap (λ (b : Body). slice_get b.sections i) (sym r.rest) ∙ found);
        written = subst (λ (b : Body). IfSome b.written (IsStanding b.header.class b.header.order)) (sym r.rest) is.written;
        sound = subst (λ (p : Object). IsSound now p) (sym rebased_object) (record {
          object = object;
          tied = λ told clean. let never : true ≡ false = sym (marked_dirty (record o { base = base }) marked) ∙ clean in cc;
          based = λ told. rebased_based (subst (λ (t : Bool). t ≡ true) r.told told) marked;
        });
      }
    where
      cell_in : (i : ℕ) (s : Scn) → slice_get old.sections i ≡ Some s
          → CellIn new.header.class new.header.order new.base i s
      cell_in i s found =
          let before = is.cells i s found in
          let there = slice_get_within old.sections i s found in
          let here : scn_at old i ≡ s = scn_found old i s found in
          subst (λ (b : Body). CellIn b.header.class b.header.order new.base i s) (sym r.rest) (record {
            number = before.number;
            lies = λ unread inside some.
                subst (λ (b : Base). s.cell.home.at + s.cell.home.len ≤ source_part b) (sym r.new_part)
                (subst (λ (x : Scn). cell_is_loaded x.cell ≡ false → x.cell.home.out ≡ false → 0 < x.cell.home.len → x.cell.home.at + x.cell.home.len ≤ r.n) here
                (λ u v w. let lies = lay i there u v w in r.lies (scn_at old i).cell.home.at (scn_at old i).cell.home.len w lies (left_alone i v w lies (unread_apart (scn_at old i) u))) unread inside some);
            empty = λ none. let never : true ≡ false = sym (ap is_of_source r.new_part) ∙ none in cc;
            items = before.items;
          })
