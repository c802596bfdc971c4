-- Where the bytes of a section of the debug half are.
use Rattle.std.proofs.Common.{◌≡◌, ◌<◌, ℕ, Bool, true, false, List, [], length, None, Result, Ok, Err, if◌then◌else◌, refl, sym, ap, ◌∙◌, subst, arith}
use Rattle.std.specs.Prelude.{IsTrue}
use Rattle.std.proofs.lemmas.List.{append-nil}
use Rattle.elf_types.specs.Answers.{refused_if}
use Rattle.elf_types.specs.declared.records.Shdr.{Shdr}
use Rattle.elf_types.specs.declared.errors.ElfError.{ElfError}
use Rattle.elf_types.specs.declared.errors.ElfError.TheVariants.{OutOfFile}
use Rattle.elf_object.specs.Object.{section_at, is_dirty}
use Rattle.elf_object.specs.Answers.{raw_refusal}
use Rattle.elf_object.specs.Due.{home_due}
use Rattle.elf_object.specs.Valid.{IsObject, IsTied}
use Rattle.rebuild_object.specs.elf_descriptor.State.{State}
use Rattle.elf_object.specs.Sections.{header_at}
use Rattle.rebuild_model.specs.Split.{is_loaded_from_file}
use Rattle.rebuild_object.specs.rebuild_image.declared.ranges.ranges.ByteRange.{ByteRange}
use Rattle.rebuild_object.proofs.rebuild_keep.HomeLaws.{raw_there}
use Rattle.rebuild_object.specs.rebuild_plan.Ranges.{FindsHome, IsRangeOf}
use Rattle.rebuild_object.proofs.rebuild_plan.RangeLaws.{home_bytes_in_base}
use Rattle.rebuild_object.proofs.rebuild_plan.ReadingLaws.{home_within}
use Rattle.rebuild_debug.specs.Half.{debug_half_bytes, half_range_due}
use Rattle.rebuild_debug.specs.Ranges.{FindsHalf}

module _ {S : Type 0} (s : State S) (n : ℕ) (h : Shdr) (b : Bool)
    (at : h ≡ (section_at s.o n).header) (told : b ≡ is_loaded_from_file h) where
  loaded_is : (t : Bool) → b ≡ t → is_loaded_from_file (header_at s.o n) ≡ t
  loaded_is t is = ap is_loaded_from_file (sym at) ∙ sym told ∙ is

  bytes_are : (t : Bool) → b ≡ t → debug_half_bytes s.o n ≡ (if t then [] else (section_at s.o n).raw)
  unfolding debug_half_bytes
  bytes_are t is =
      ap (λ (c : Bool). if c then [] else (section_at s.o n).raw) (loaded_is t is)

  -- what is loaded of the file has none
  pub loaded_found : b ≡ true → FindsHalf s n (Ok (record { held = true; at = 0; len = 0 }))
  loaded_found is = record {
    ok = λ held. subst (λ (l : List ℕ). IsRangeOf s.told s.o.base l held held
        (record { held = true; at = 0; len = 0 })) (sym (bytes_are true is))
        (record {
          added = [];
          all = sym (append-nil held);
          long = λ t. refl;
          is = λ t later. refl;
        });
    within = omega arith;
    passed = ap (λ (c : Bool). if c then None else raw_refusal s.o n) (loaded_is true is);
    err = tt;
  }

  -- any other section has those of its home
  module _ (there : n < length s.o.sections) (is : IsObject s.o) (clean : is_dirty s.o ≡ false)
      (tied : IsTrue s.told → IsTied s.o) (kept : b ≡ false) where
    raw_is : (out : Bool) → (section_at s.o n).home.out ≡ out
        → (if is_loaded_from_file (header_at s.o n) then None else raw_refusal s.o n)
        ≡ refused_if out (OutOfFile n)
    raw_is out at_home =
        ap (λ (c : Bool). if c then None else raw_refusal s.o n) (loaded_is false kept)
        ∙ raw_there s.o n there
        ∙ ap (λ (c : Bool). refused_if c (OutOfFile n)) at_home

    pub kept_found : (r : Result ByteRange ElfError) → FindsHome s.o n r → FindsHalf s n r
    kept_found (Ok range) found = record {
      ok = λ held. subst (λ (l : List ℕ). IsRangeOf s.told s.o.base l held held range)
          (sym (bytes_are false kept))
          (home_bytes_in_base s.o n s.told range held is clean tied found.0 found.1);
      within =
          let home = home_within s.o n range found.0 found.1 in
          let due : half_range_due s.o n ≡ home_due s.o [] n =
          ap (λ (c : Bool). if c then 0 else home_due s.o [] n) (loaded_is false kept) in
          omega (arith, home, due);
      passed = raw_is false found.0;
      err = tt;
    }
    kept_found (Err e) found =
        subst (λ (d : ElfError). FindsHalf s n (Err d)) (sym found.1)
        (record { ok = tt; within = tt; passed = tt; err = raw_is true found.0 })
