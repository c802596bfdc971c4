-- A range of one part of a base is a range of the whole.
use Rattle.std.proofs.Common.{◌≡◌, ◌+◌, ◌<◌, ◌≤◌, ℕ, zero, suc, Bool, true, false, List, [], ◌++◌, length, take, drop, Some, Ok, Err, if◌then◌else◌, refl, sym, ap, ◌∙◌, subst, arith}
use Rattle.std.specs.Prelude.{IsTrue, SomeIff}
use Rattle.std.proofs.Math.Seq.{drop-append-add}
use Rattle.std.proofs.lemmas.List.{drop-append-le, length-drop, length-take, take-append-le}
use Rattle.elf_types.specs.Answers.{refused_if}
use Rattle.elf_types.specs.declared.errors.ElfError.{ElfError}
use Rattle.elf_types.specs.declared.errors.ElfError.TheVariants.{OutOfFile}
use Rattle.elf_object.specs.Answers.{raw_refusal}
use Rattle.elf_object.specs.Object.{section_at}
use Rattle.rebuild_keep.specs.elf_descriptor.State.{State}
use Rattle.rebuild_plan.specs.rebuild_image.declared.ranges.ranges.ByteRange.{ByteRange}
use Rattle.rebuild_plan.specs.rebuild_image.Ranges.Ranges.{range_bytes}
use Rattle.rebuild_keep.proofs.HomeLaws.{raw_there}
use Rattle.rebuild_plan.specs.Ranges.{FindsHome, IsRangeOf}
use Rattle.rebuild_plan.proofs.RangeLaws.{home_bytes_in_base}
use Rattle.rebuild_join.specs.Ranges.{IsUnchanged, moved_range, FindsRaw}

-- ---- Bytes of a part

-- so many bytes from a place on are there
taken_there : (at len : ℕ) (base : List ℕ) → length (take len (drop at base)) ≡ len → 0 < len
    → at + len ≤ length base
taken_there at len base long some =
    let cut = length-take len (drop at base) in
    let left = length-drop at base in
    omega (arith, cut, left, long, some)

-- more stands behind
take_before : (at len : ℕ) (base more : List ℕ) → length (take len (drop at base)) ≡ len
    → take len (drop at (base ++ more)) ≡ take len (drop at base)
take_before at zero base more long = refl
take_before at (suc n) base more long =
    let within : at + suc n ≤ length base =
    taken_there at (suc n) base long (let some : 0 < suc n = omega arith in some) in
    let left = length-drop at base in
    ap (take (suc n)) (drop-append-le at base more (omega (arith, within)))
    ∙ take-append-le (suc n) (drop at base) more (omega (arith, within, left))

-- other bytes stand before
take_behind : (at len : ℕ) (front base : List ℕ)
    → take len (drop (at + length front) (front ++ base)) ≡ take len (drop at base)
take_behind at len front base =
    ap (λ (n : ℕ). take len (drop n (front ++ base)))
    (let same : at + length front ≡ length front + at = omega arith in same)
    ∙ ap (take len) (drop-append-add front base at)

-- ---- Ranges

module _ (told : Bool) (base bytes held : List ℕ) (range : ByteRange) (of_base : range.held ≡ false)
    (is : IsRangeOf told base bytes held held range) where
  stands : IsTrue told → take range.len (drop range.at base) ≡ bytes
  stands t =
      sym (ap (λ (b : Bool).
      take range.len (drop range.at (if b then held ++ [] else base))) of_base)
      ∙ is.is t []

  pub range_before : (more : List ℕ) → IsRangeOf told (base ++ more) bytes held held range
  range_before more = record {
    added = is.added;
    all = is.all;
    long = is.long;
    is = λ t later.
        ap (λ (b : Bool).
        take range.len (drop range.at (if b then held ++ later else base ++ more))) of_base
        ∙ take_before range.at range.len base more
        (ap (λ (l : List ℕ). length l) (stands t) ∙ sym (is.long t))
        ∙ stands t;
  }

  pub range_moved : (front : List ℕ) (moved : ByteRange)
      → moved ≡ moved_range (length front) range
      → IsRangeOf told (front ++ base) bytes held held moved
  range_moved front moved at = record {
    added = is.added;
    all = is.all;
    long = λ t. ap (λ (r : ByteRange). r.len) at ∙ is.long t;
    is = λ t later.
        ap (range_bytes (held ++ later) (front ++ base)) at
        ∙ ap (λ (b : Bool). take range.len
        (drop (range.at + length front) (if b then held ++ later else front ++ base))) of_base
        ∙ take_behind range.at range.len front base
        ∙ stands t;
  }

-- a place that is a sum
pub place_moved : (range : ByteRange) (len : ℕ) (fits : Type 0) (at : ℕ)
    → SomeIff (Some at) fits (range.at + len)
    → ◌≡◌ {A = ByteRange} (record { held = range.held; at = at; len = range.len })
    (moved_range len range)
place_moved range len fits at is =
    ap (λ (n : ℕ). record { held = range.held; at = n; len = range.len }) is.1

-- ---- Homes

module _ {S : Type 0} (s : State S) (n : ℕ) (there : n < length s.o.sections)
    (is : IsUnchanged s) where
  raw_is : (out : Bool) → (section_at s.o n).home.out ≡ out
      → raw_refusal s.o n ≡ refused_if out (OutOfFile n)
  raw_is out at_home =
      raw_there s.o n there ∙ ap (λ (b : Bool). refused_if b (OutOfFile n)) at_home

  module _ (range : ByteRange) (found : FindsHome s.o n (Ok range)) where
    own_range : (held : List ℕ)
        → IsRangeOf s.told s.o.base (section_at s.o n).raw held held range
    own_range held =
        home_bytes_in_base s.o n s.told range held is.object is.clean is.tied found.0 found.1

    own_base : range.held ≡ false
    own_base = ap (λ (r : ByteRange). r.held) found.1

    pub found_before : (more : List ℕ) → FindsRaw s.told (s.o.base ++ more) s.o n (Ok range)
    found_before more = record {
      ok = λ held.
          range_before s.told s.o.base (section_at s.o n).raw held range own_base
          (own_range held) more;
      passed = raw_is false found.0;
      err = tt;
    }

    pub found_behind : (front : List ℕ) (len : ℕ) (moved : ByteRange) → len ≡ length front
        → moved ≡ moved_range len range
        → FindsRaw s.told (front ++ s.o.base) s.o n (Ok moved)
    found_behind front len moved count at = record {
      ok = λ held.
          range_moved s.told s.o.base (section_at s.o n).raw held range own_base
          (own_range held) front moved (at ∙ ap (λ (k : ℕ). moved_range k range) count);
      passed = raw_is false found.0;
      err = tt;
    }

  pub out_found : (base : List ℕ) (e : ElfError) → FindsHome s.o n (Err e)
      → FindsRaw s.told base s.o n (Err e)
  out_found base e found =
      subst (λ (d : ElfError). FindsRaw s.told base s.o n (Err d)) (sym found.1)
      (record { ok = tt; passed = tt; err = raw_is true found.0 })
