-- The calls that write the device and set its length: what they leave of the descriptor.
use Rattle.std.proofs.Common.{◌≡◌, ◌∙◌, ℕ, ◌+◌, ◌-◌, ◌<◌, ◌≤◌, Bool, true, false, List, length, take, drop, Option, Some, None, Result, Ok, Err, refl, sym, ap, subst, arith, ⊎_elim, ◌⊎◌, inl, inr}
use Rattle.std.specs.Prelude.{min, nat_lt, ◌&&◌, IfSome, IsSome, IsTrue, OnOk, OnErr, is_some}
use Rattle.std.proofs.Math.ListN.{replicate}
use Rattle.std.proofs.lemmas.Bool.{ltb-true, ltb-false, cases_lt}
use Rattle.std.proofs.lemmas.List.{length-take, length-drop, length-replicate, take-append-le, take-take, take-replicate, take_all, get_or-take, get_or-drop, ext_get_or}
use Rattle.elf_types.specs.declared.errors.ElfError.{ElfError}
use Rattle.section_table.specs.elf_outside.declared.sources.Source.{Ghosts}
use Rattle.section_table.specs.elf_outside.Writes.{WritesOver, TearsOver, Resizes, ResizesOrNot, IsTornBy, written_over, resized}
use Rattle.section_table.proofs.elf_outside.WriteLemmas.{written_is_torn}
use Rattle.section_table.specs.elf_object.Blocks.{extents_meet}
use Rattle.section_table.specs.elf_object.Object.{Object, Section}
use Rattle.elf_types.specs.Lists.{AreBytes}
use Rattle.law_object.specs.Writing.Based.{some_unmarked}
use Rattle.law_object.proofs.writing.DisturbedLaws.{meeting_to}
use Rattle.elf_descriptor.specs.declared.body.Body.{Body}
use Rattle.elf_descriptor.specs.declared.body.Base.{Base}
use Rattle.elf_descriptor.specs.declared.body.Base.TheVariants as bases
use Rattle.elf_descriptor.specs.Views.{object_of, section_of, base_of, source_bytes, scn_at, loaded_of, held_of, room_of, ready_of, is_of_source, has_lengths, cut_at, state_of}
use Rattle.elf_descriptor.specs.Sound.{IsElf, source_part}
use Rattle.elf_descriptor.specs.Cuts.{LiesInBase, IsKeptApart, MayWrite, MaySize, CutsBase}
use Rattle.elf_descriptor.proofs.Objects.{section_is}
use Rattle.elf_descriptor.proofs.Loaded.{loaded_is}
use Rattle.elf_descriptor.proofs.BaseCalls.{front_range, base_part, base_source}
use Rattle.elf_descriptor.proofs.Rebasing.{IsRebased, IsApart, rebased_object, rebased_length, old_length, rebased_elf}

-- ---- A ready object is over a part of its source

left_true : (a b : Bool) → (a && b) ≡ true → a ≡ true
left_true true b both = refl
left_true false b both = both

right_true : (a b : Bool) → (a && b) ≡ true → b ≡ true
right_true true b both = both
right_true false b both = cc

pub part_of_ready : (b : Body) → IsTrue (ready_of b) → (m : ℕ) × (b.base ≡ bases.Source m)
part_of_ready b ready =
    by_base b.base refl
    (left_true (is_of_source b.base) (has_lengths b.spare (length b.phdrs) (length b.sections))
    (right_true b.ready
    (is_of_source b.base && has_lengths b.spare (length b.phdrs) (length b.sections)) ready))
  where
    by_base : (base : Base) → b.base ≡ base → is_of_source base ≡ true → (m : ℕ) × (b.base ≡ bases.Source m)
    by_base (bases.Own bytes) e of_source = cc
    by_base (bases.Source m) e of_source = (m, e)

-- ---- What stays

-- a run of places that a torn range does not meet has its bytes
pub apart_same : (bytes torn piece : List ℕ) (at a len : ℕ) → IsTornBy bytes torn at piece → extents_meet a len at (length piece) ≡ false → take len (drop a torn) ≡ take len (drop a bytes)
apart_same bytes torn piece at a len is apart =
    let long = is.same_len in
    let old_run = length-take len (drop a bytes) in
    let new_run = length-take len (drop a torn) in
    let old_rest = length-drop a bytes in
    let new_rest = length-drop a torn in
    ext_get_or 0 (take len (drop a torn)) (take len (drop a bytes)) (omega (arith, long, old_run, new_run, old_rest, new_rest)) (λ i there.
    let below : i < len = omega (arith, there, new_run) in
    get_or-take len (drop a torn) i 0 below
    ∙ get_or-drop a torn i 0
    ∙ ⊎_elim (λ same. same) (λ put. absurd (met i below put.0 put.1)) (is.old_or_new (a + i))
    ∙ sym (get_or-take len (drop a bytes) i 0 below ∙ get_or-drop a bytes i 0))
  where
    met : (i : ℕ) → i < len → at ≤ a + i → a + i < at + length piece → ⊥
    met i below from to =
        let meets = meeting_to a len at (length piece) (record { some = omega (arith, below); other = omega (arith, from, to); before = omega (arith, to); after = omega (arith, from, below) }) in
        let never : true ≡ false = sym meets ∙ apart in cc

-- a source that tells its bytes is torn, and one that does not tells none
abbrev pub IsWritten : Option (List ℕ) → Option (List ℕ) → ℕ → List ℕ → Type 0
IsWritten None now at piece = now ≡ None
IsWritten (Some bytes) now at piece = (torn : List ℕ) × (now ≡ Some torn) × IsTornBy bytes torn at piece

pub is_written : (r : Result (Unit {0}) ElfError) (old now : Option (List ℕ)) (at : ℕ) (piece : List ℕ) → IfSome old (λ bytes. at + length piece ≤ length bytes) → OnOk r (WritesOver old now at piece)
    → OnErr r (TearsOver old now at piece) → IsWritten old now at piece
is_written (Ok x) None now at piece within ok err = ok
is_written (Ok x) (Some bytes) now at piece within ok err = (written_over bytes at piece, ok, written_is_torn bytes at piece within)
is_written (Err e) None now at piece within ok err = err.1
is_written (Err e) (Some bytes) now at piece within ok err = (err.0, err.1, err.2)

-- zeros are cut to zeros
zeros_cut : (m size after : ℕ) → m ≤ size → take {A = ℕ} (min m after) (replicate after 0) ≡ take {A = ℕ} after (take m (replicate size 0))
zeros_cut m size after within =
    let few : min m after ≤ after = omega arith in
    take-replicate (min m after) after 0 few
    ∙ sym (ap (λ (l : List ℕ). take after l) (take-replicate m size 0 within) ∙ by_longer (cases_lt m after))
  where
    by_longer : (m < after) ⊎ (after ≤ m) → take {A = ℕ} after (replicate m 0) ≡ replicate {A = ℕ} (min m after) 0
    by_longer (inl shorter) =
        let long = length-replicate {A = ℕ} m 0 in
        let least : m ≡ min m after = omega (arith, shorter) in
        take_all after (replicate m 0) (omega (arith, long, shorter)) ∙ ap (λ (k : ℕ). replicate {A = ℕ} k 0) least
    by_longer (inr longer) = let least : after ≡ min m after = omega (arith, longer) in take-replicate after m 0 longer ∙ ap (λ (k : ℕ). replicate {A = ℕ} k 0) least

-- ---- By what is rebased

module _ {D : Type 0} (g : Ghosts D) (source left : D) (touched : ℕ → ℕ → Bool) (old new : Body) (r : IsRebased touched (g.holds source) (g.holds left) (g.size source) (g.size left) old new)
    (is : IsElf (g.holds source) (g.size source) old) (least : r.n ≡ min r.m (g.size left))
    (apart : (i : ℕ) → (scn_at old i).cell.home.out ≡ false → 0 < (scn_at old i).cell.home.len → (scn_at old i).cell.home.at + (scn_at old i).cell.home.len ≤ r.m
    → touched (scn_at old i).cell.home.at (scn_at old i).cell.home.len ≡ true → IsApart (g.holds source) (scn_at old i)) where
  base : List ℕ
  base = base_of new.base (g.holds left) (g.size left)

  object : object_of (g.holds left) (g.size left) new ≡ record (object_of (g.holds source) (g.size source) old) { base = base_of new.base (g.holds left) (g.size left) }
  object = rebased_object touched (g.holds source) (g.holds left) (g.size source) (g.size left) old new r is apart

  base_same : (object_of (g.holds left) (g.size left) new).base ≡ base_of new.base (g.holds left) (g.size left)
  base_same = ap (λ (o : Object). o.base) object

  ready_same : ready_of new ≡ ready_of old
  ready_same =
      ap ready_of r.rest
      ∙ ap (λ (s : Bool).
      old.ready && (s && has_lengths old.spare (length old.phdrs) (length old.sections)))
      (ap is_of_source r.new_part ∙ sym (ap is_of_source r.old_part))

  state_same : state_of g left new ≡ record (state_of g source old) { o = record (object_of (g.holds source) (g.size source) old) { base = (object_of (g.holds left) (g.size left) new).base }; source = left }
  unfolding loaded_of held_of room_of
  state_same =
      let o = object_of (g.holds source) (g.size source) old in
      ap (λ (b : Body). state_of g left b) r.rest
      ∙ ap (λ (p : Object). record (state_of g source old) { o = p; told = is_some (g.holds left); ready = ready_of (record old { base = new.base }); source = left }) (ap (λ (b : Body). object_of (g.holds left) (g.size left) b) (sym r.rest) ∙ object)
      ∙ ap (λ (l : List ℕ). record (state_of g source old) { o = record o { base = l }; told = is_some (g.holds left); ready = ready_of (record old { base = new.base }); source = left }) (sym base_same)
      ∙ ap (λ (t : Bool). record (state_of g source old) { o = record o { base = (object_of (g.holds left) (g.size left) new).base }; told = t; ready = ready_of (record old { base = new.base }); source = left }) r.told
      ∙ ap (λ (t : Bool). record (state_of g source old) { o = record o { base = (object_of (g.holds left) (g.size left) new).base }; ready = t; source = left }) (sym (ap ready_of r.rest) ∙ ready_same)

  length_now : length (object_of (g.holds left) (g.size left) new).base ≡ r.n
  length_now = ap length base_same ∙ rebased_length touched (g.holds source) (g.holds left) (g.size source) (g.size left) old new r is apart

  length_old : length (object_of (g.holds source) (g.size source) old).base ≡ r.m
  length_old = old_length touched (g.holds source) (g.holds left) (g.size source) (g.size left) old new r is apart

  begins : IfSome (g.holds left) (λ held. take (length (object_of (g.holds left) (g.size left) new).base) held ≡ (object_of (g.holds left) (g.size left) new).base)
  begins = by_held (g.holds left) refl
    where
      by_held : (held : Option (List ℕ)) → g.holds left ≡ held → IfSome held (λ bytes. take (length (object_of (g.holds left) (g.size left) new).base) bytes ≡ (object_of (g.holds left) (g.size left) new).base)
      by_held None e = tt
      by_held (Some bytes) e =
          ap (λ (n : ℕ). take n bytes) length_now
          ∙ sym (base_same ∙ ap (λ (b : Base). base_of b (g.holds left) (g.size left)) r.new_part ∙ ap (λ (i : Option (List ℕ)). take r.n (source_bytes i (g.size left))) e)

  untold : g.holds left ≡ None → (object_of (g.holds left) (g.size left) new).base ≡ take (g.size left) (object_of (g.holds source) (g.size source) old).base
  untold none =
      let before : g.holds source ≡ None = none_before (g.holds source) (sym r.told ∙ ap (λ (i : Option (List ℕ)). is_some i) none) in
      base_same
      ∙ ap (λ (b : Base). base_of b (g.holds left) (g.size left)) r.new_part
      ∙ ap (λ (i : Option (List ℕ)). take r.n (source_bytes i (g.size left))) none
      ∙ ap (λ (k : ℕ). take k (replicate (g.size left) 0)) least
      ∙ zeros_cut r.m (g.size source) (g.size left) (subst (λ (b : Base). source_part b ≤ g.size source) r.old_part is.within)
      ∙ sym (ap (λ (l : List ℕ). take (g.size left) l) (base_part (g.holds source) (g.size source) old r.m r.old_part ∙ ap (λ (i : Option (List ℕ)). take r.m (source_bytes i (g.size source))) before))
    where
      none_before : (i : Option (List ℕ)) → is_some i ≡ false → i ≡ None
      none_before None e = refl
      none_before (Some bytes) e = cc

  pub cuts : CutsBase g (state_of g source old) (state_of g left new)
  cuts = record {
    state = state_same;
    long = length_now ∙ least ∙ ap (λ (k : ℕ). min k (g.size left)) (sym length_old);
    is = begins;
    untold = untold;
  }

  pub cuts_elf : (object_of (g.holds source) (g.size source) old).marked ≡ true → IsElf (g.holds left) (g.size left) new
  cuts_elf marked = rebased_elf touched (g.holds source) (g.holds left) (g.size source) (g.size left) old new r is apart marked

-- what the call asks of the homes, in what the program keeps
apart_in : {S : Type 0} (g : Ghosts S) (source : S) (b : Body) (i : ℕ) → IsKeptApart (state_of g source b) i → IsApart (g.holds source) (scn_at b i)
apart_in g source b i kept = (
  sym (loaded_is b i) ∙ kept.0,
  subst (λ (c : Section). some_unmarked c ≡ false) (section_is (g.holds source) (g.size source) b i) kept.1,
)

lies_in : (image : Option (List ℕ)) (size : ℕ) (b : Body) (i m : ℕ) → length (object_of image size b).base ≡ m → (scn_at b i).cell.home.out ≡ false → (scn_at b i).cell.home.at + (scn_at b i).cell.home.len ≤ m
    → LiesInBase (object_of image size b) i
unfolding section_of
lies_in image size b i m long inside within =
    subst (λ (c : Section). (c.home.out ≡ false) × (c.home.at + c.home.len ≤ length (object_of image size b).base)) (sym (section_is image size b i)) (inside, omega (arith, within, long))

-- ---- The device is written

module _ {D : Type 0} (g : Ghosts D) (source left : D) (b : Body) (at m : ℕ) (piece : List ℕ) (is : IsElf (g.holds source) (g.size source) b) (part : b.base ≡ bases.Source m)
    (len : g.size left ≡ g.size source) (within : at + length piece ≤ g.size source) (written : IsWritten (g.holds source) (g.holds left) at piece) (ranged : IfSome (g.holds left) AreBytes) where
  touches : ℕ → ℕ → Bool
  touches a n = extents_meet a n at (length piece)

  fits : m ≤ g.size source
  fits = subst (λ (base : Base). source_part base ≤ g.size source) part is.within

  write_rebased : IsRebased touches (g.holds source) (g.holds left) (g.size source) (g.size left) b b
  unfolding extents_meet touches
  write_rebased = record {
    m = m;
    n = m;
    old_part = part;
    new_part = part;
    rest = refl;
    fewer = omega arith;
    within = omega (arith, fits, len);
    told = told (g.holds source) (g.holds left) written;
    long = long (g.holds source) (g.holds left) written is.long;
    ranged = ranged;
    same = λ some a n positive lies apart. (lies, same (g.holds source) (g.holds left) written a n apart);
    lies = λ a n positive lies apart. lies;
  }
    where
      told : (old now : Option (List ℕ)) → IsWritten old now at piece → is_some now ≡ is_some old
      told None now w = ap (λ (i : Option (List ℕ)). is_some i) w
      told (Some bytes) now w = ap (λ (i : Option (List ℕ)). is_some i) w.1

      long : (old now : Option (List ℕ)) → IsWritten old now at piece → IfSome old (λ bytes. length bytes ≡ g.size source) → IfSome now (λ bytes. length bytes ≡ g.size left)
      long None now w was = subst (λ (i : Option (List ℕ)). IfSome i (λ bytes. length bytes ≡ g.size left)) (sym w) tt
      long (Some bytes) now w was = subst (λ (i : Option (List ℕ)). IfSome i (λ bytes. length bytes ≡ g.size left)) (sym w.1) (w.2.same_len ∙ was ∙ sym len)

      same : (old now : Option (List ℕ)) → IsWritten old now at piece → (a n : ℕ) → extents_meet a n at (length piece) ≡ false → take n (drop a (source_bytes now (g.size left))) ≡ take n (drop a (source_bytes old (g.size source)))
      same None now w a n apart = ap (λ (i : Option (List ℕ)). take n (drop a (source_bytes i (g.size left)))) w ∙ ap (λ (k : ℕ). take n (drop a (replicate k 0))) len
      same (Some bytes) now w a n apart = ap (λ (i : Option (List ℕ)). take n (drop a (source_bytes i (g.size left)))) w.1 ∙ apart_same bytes w.0 piece at a n w.2 apart

  module _ (may : MayWrite (state_of g source b) at (length piece)) where
    base_long : length (object_of (g.holds source) (g.size source) b).base ≡ m
    base_long = (base_source (g.holds source) (g.size source) b m part is.long is.within).0

    write_apart : (i : ℕ) → (scn_at b i).cell.home.out ≡ false → 0 < (scn_at b i).cell.home.len → (scn_at b i).cell.home.at + (scn_at b i).cell.home.len ≤ m
        → touches (scn_at b i).cell.home.at (scn_at b i).cell.home.len ≡ true → IsApart (g.holds source) (scn_at b i)
    unfolding section_of touches
    write_apart i inside some lies meets =
        apart_in g source b i
        (may.homes i (lies_in (g.holds source) (g.size source) b i m base_long inside lies)
        (ap (λ (c : Section). extents_meet c.home.at c.home.len at (length piece)) (section_is (g.holds source) (g.size source) b i) ∙ meets))

    pub write_cuts : CutsBase g (state_of g source b) (state_of g left b)
    unfolding write_rebased
    write_cuts =
        let least : m ≡ min m (g.size left) = omega (arith, fits, len) in
        cuts g source left touches b b write_rebased is least write_apart

    pub write_elf : IsElf (g.holds left) (g.size left) b
    unfolding write_rebased
    write_elf =
        let least : m ≡ min m (g.size left) = omega (arith, fits, len) in
        cuts_elf g source left touches b b write_rebased is least write_apart may.marked

-- ---- The device's length is set

-- it has that length or is as before: either way it begins as it did
abbrev pub IsResized : Option (List ℕ) → Option (List ℕ) → ℕ → ℕ → ℕ → Type 0
IsResized old now size after n = ((after ≡ size) × (now ≡ old)) ⊎ Resizes size after old now n

pub is_resized : (r : Result (Unit {0}) ElfError) (old now : Option (List ℕ)) (size after n : ℕ) → OnOk r (Resizes size after old now n) → OnErr r (ResizesOrNot size after old now n) → IsResized old now size after n
is_resized (Ok x) old now size after n ok err = inr ok
is_resized (Err e) old now size after n ok err = err

module _ {D : Type 0} (g : Ghosts D) (source left : D) (old new : Body) (m n : ℕ) (is : IsElf (g.holds source) (g.size source) old) (part : old.base ≡ bases.Source m)
    (resizes : IsResized (g.holds source) (g.holds left) (g.size source) (g.size left) n) (rest : new ≡ record old { base = new.base }) (cut : new.base ≡ cut_at (g.size left) old.base)
    (long : IfSome (g.holds left) (λ bytes. length bytes ≡ g.size left)) (ranged : IfSome (g.holds left) AreBytes) where
  k : ℕ
  k = min m (g.size left)

  passes : ℕ → ℕ → Bool
  passes a len = nat_lt k (a + len)

  room : m ≤ g.size source
  room = subst (λ (base : Base). source_part base ≤ g.size source) part is.within

  fronts : (o now : Option (List ℕ)) → IsResized o now (g.size source) (g.size left) n → IfSome o (λ bytes. length bytes ≡ g.size source) → IfSome o (λ bytes. (torn : List ℕ) × (now ≡ Some torn) × (take k torn ≡ take k bytes))
  unfolding k
  fronts None now sized was = tt
  fronts (Some bytes) now (inl same) was = (bytes, same.1, refl)
  fronts (Some bytes) now (inr sized) was =
      let few : min m (g.size left) ≤ n = omega (arith, sized.len) in
      let front = length-take n bytes in (
        resized n bytes,
        sized.bytes,
        take-append-le (min m (g.size left)) (take n bytes) (replicate (n - length bytes) 0) (omega (arith, few, front, room, was)) ∙ take-take (min m (g.size left)) n bytes few,
      )

  size_rebased : IsRebased passes (g.holds source) (g.holds left) (g.size source) (g.size left) old new
  unfolding k passes
  size_rebased = record {
    m = m;
    n = min m (g.size left);
    old_part = part;
    new_part = cut ∙ ap (λ (base : Base). cut_at (g.size left) base) part;
    rest = rest;
    fewer = omega arith;
    within = omega arith;
    told = told (g.holds source) (g.holds left) resizes;
    long = long;
    ranged = ranged;
    same = λ some a len positive lies apart. (ltb-false (min m (g.size left)) (a + len) apart, same (g.holds source) (g.holds left) some (fronts (g.holds source) (g.holds left) resizes is.long) a len (ltb-false (min m (g.size left)) (a + len) apart));
    lies = λ a len positive lies apart. ltb-false (min m (g.size left)) (a + len) apart;
  }
    where
      told : (o now : Option (List ℕ)) → IsResized o now (g.size source) (g.size left) n → is_some now ≡ is_some o
      told o now (inl same) = ap (λ (i : Option (List ℕ)). is_some i) same.1
      told None now (inr sized) = ap (λ (i : Option (List ℕ)). is_some i) sized.bytes
      told (Some bytes) now (inr sized) = ap (λ (i : Option (List ℕ)). is_some i) sized.bytes

      same : (o now : Option (List ℕ)) → IsSome o → IfSome o (λ bytes. (torn : List ℕ) × (now ≡ Some torn) × (take (min m (g.size left)) torn ≡ take (min m (g.size left)) bytes))
          → (a len : ℕ) → a + len ≤ min m (g.size left) → take len (drop a (source_bytes now (g.size left))) ≡ take len (drop a (source_bytes o (g.size source)))
      same None now some sized a len lies = cc
      same (Some bytes) now some sized a len lies =
          ap (λ (i : Option (List ℕ)). take len (drop a (source_bytes i (g.size left)))) sized.1
          ∙ sym (front_range sized.0 (min m (g.size left)) a len (λ h. lies))
          ∙ ap (λ (l : List ℕ). take len (drop a l)) sized.2
          ∙ front_range bytes (min m (g.size left)) a len (λ h. lies)

  module _ (may : MaySize (state_of g source old) n) where
    size_apart : (i : ℕ) → (scn_at old i).cell.home.out ≡ false → 0 < (scn_at old i).cell.home.len → (scn_at old i).cell.home.at + (scn_at old i).cell.home.len ≤ m
        → passes (scn_at old i).cell.home.at (scn_at old i).cell.home.len ≡ true → IsApart (g.holds source) (scn_at old i)
    unfolding section_of passes k
    size_apart i inside some lies passing =
        let past = ltb-true (min m (g.size left)) ((scn_at old i).cell.home.at + (scn_at old i).cell.home.len) passing in
        let base_long = (base_source (g.holds source) (g.size source) old m part is.long is.within).0 in
        let here = section_is (g.holds source) (g.size source) old i in
        let end : n < (scn_at old i).cell.home.at + (scn_at old i).cell.home.len =
        ⊎_elim (λ same. absurd (omega (arith, past, lies, room, same.0))) (λ sized. let is_n = sized.len in omega (arith, past, lies, is_n)) resizes in
        apart_in g source old i
        (may.homes i (lies_in (g.holds source) (g.size source) old i m base_long inside lies)
        (subst (λ (c : Section). 0 < c.home.len) (sym here) some)
        (subst (λ (c : Section). n < c.home.at + c.home.len) (sym here) end))

    pub size_cuts : CutsBase g (state_of g source old) (state_of g left new)
    unfolding k size_rebased
    size_cuts = cuts g source left passes old new size_rebased is refl size_apart

    pub size_elf : IsElf (g.holds left) (g.size left) new
    unfolding k size_rebased
    size_elf = cuts_elf g source left passes old new size_rebased is refl size_apart may.marked

-- a range that lies in the device lies in what it tells
pub fits_told : (image : Option (List ℕ)) (size at n : ℕ) → IfSome image (λ bytes. length bytes ≡ size) → at + n ≤ size → IfSome image (λ bytes. at + n ≤ length bytes)
fits_told None size at n long within = tt
fits_told (Some bytes) size at n long within = subst (λ (k : ℕ). at + n ≤ k) (sym long) within
