-- What the debug half has of sections, one after another.
use Rattle.std.proofs.Common.{◌≡◌, ◌+◌, ◌-◌, ◌<◌, ◌≤◌, ℕ, List, [], ◌∷◌, length, map, take, get_or, take_all, Option, None, Result, Ok, Err, refl, sym, ap, ◌∙◌, subst, arith}
use Rattle.std.specs.Prelude.{IfErr, OnOk}
use Rattle.std.proofs.lemmas.List.{take_more}
use Rattle.std.proofs.lemmas.List.FromFn.{length-range_with_len, get_or-range_with_len, length-map-range_with_len}
use Rattle.elf_types.specs.Answers.{first_refusal, answered}
use Rattle.elf_types.specs.declared.records.Kind.TheVariants as kinds
use Rattle.elf_types.specs.declared.records.Shdr.{Shdr}
use Rattle.elf_types.specs.declared.errors.ElfError.{ElfError}
use Rattle.elf_types.specs.declared.errors.ElfError.TheVariants.{Memory}
use Rattle.elf_object.specs.Object.{Object}
use Rattle.elf_object.specs.Calls.{newphdr_refusal}
use Rattle.elf_object.specs.Layout.{section_numbers}
use Rattle.elf_object.specs.Valid.{IsObject}
use Rattle.rebuild_object.specs.elf_descriptor.State.{State}
use Rattle.rebuild_object.proofs.elf_update_plan.PlacingLaws.{passed_from}
use Rattle.rebuild_model.specs.Rebuilt.{index_refusal}
use Rattle.rebuild_model.specs.Split.{debug_section, debug_sections, debug_raw_refusal, debug_refusal}
use Rattle.rebuild_object.specs.rebuild_making.Refused.{RefusedBy}
use Rattle.rebuild_object.proofs.rebuild_making.AddLaws.{newphdr_states}
use Rattle.rebuild_object.proofs.rebuild_making.RefusedLaws.{alone, passes_first, first_step_refused, refused_later, refused_as, answer_refused, passed_more, passed_all}
use Rattle.rebuild_object.specs.rebuild_image.declared.ranges.ranges.ByteRange.{ByteRange}
use Rattle.rebuild_object.proofs.rebuild_keep.FillLaws.{none_passed}
use Rattle.rebuild_object.specs.rebuild_plan.declared.contents.Contents.{Contents}
use Rattle.rebuild_object.specs.rebuild_plan.Checks.{index_beyond}
use Rattle.rebuild_object.specs.rebuild_plan.Contents.{HasOneMore, IsPutBehind, AreKeptSections, HasFirst}
use Rattle.rebuild_object.proofs.rebuild_plan.CheckLaws.{index_is, index_states}
use Rattle.rebuild_object.proofs.rebuild_plan.KeepingLaws.{kept_more, none_has, some_has}
use Rattle.rebuild_object.proofs.rebuild_plan.StopLaws.{refused_stop}
use Rattle.rebuild_object.specs.rebuild_image.Ranges.Ranges.{range_due}
use Rattle.rebuild_object.specs.rebuild_plan.Reading.{IsReadAs, AreReadAs, IsFirstRead}
use Rattle.rebuild_object.proofs.rebuild_plan.ReadingLaws.{read_less, read_more}
use Rattle.rebuild_debug.specs.Half.{half_header, debug_half_bytes, half_range_due}
use Rattle.rebuild_debug.specs.Ranges.{FindsHalf}
use Rattle.rebuild_debug.specs.Keeping.{AddsHalf, AddsHalves, ListsHalf, KeepsHalf}

-- ---- One section

module _ {S : Type 0} (s : State S) (n : ℕ) (contents next : Contents) where
  pub half_added : (h : Shdr) (range : ByteRange) (q : Result (Unit {0}) ElfError)
      → h ≡ half_header s.o n → FindsHalf s n (Ok range)
      → OnOk q (IsPutBehind h range contents next)
      → OnOk q (IsReadAs kinds.Bytes (range_due range) contents next)
      → IfErr q (λ e. e ≡ Memory) → AddsHalf s n q contents next
  half_added h range (Ok x) header found put read only = record {
    ok = subst (λ (y : Shdr).
        HasOneMore s.told s.o.base y (debug_half_bytes s.o n) contents next) header
        (put s.told s.o.base (debug_half_bytes s.o n) (found.ok contents.held));
    read = read_less kinds.Bytes (range_due range) (half_range_due s.o n) contents next
        found.within read;
    passed = found.passed;
    err = tt;
  }
  half_added h range (Err e) header found put read only =
      subst (λ (d : ElfError). AddsHalf s n (Err d) contents next) (sym only)
      (record { ok = tt; read = tt; passed = tt; err = tt })

  pub half_refused : (e : ElfError) → FindsHalf s n (Err e) → AddsHalf s n (Err e) contents next
  half_refused e found = record { ok = tt; read = tt; passed = tt; err = found.err }

-- ---- One after another

numbers_long : (o : Object) → length (section_numbers o) ≡ length o.sections - 1
numbers_long o = length-range_with_len 1 (length o.sections - 1)

-- the sections from 1 on and below a number are added
pub record HalfKept {S : Type 0} (s : State S) (x : Contents) (n : ℕ) : Type 0 where
  pub passed : first_refusal (map (debug_raw_refusal s.o) (take (n - 1) (section_numbers s.o)))
      ≡ None
  pub kept : AreKeptSections s.told s.o.base (half_header s.o) (debug_half_bytes s.o)
      (take (n - 1) (section_numbers s.o)) x
  pub read : AreReadAs (λ k. kinds.Bytes) (half_range_due s.o)
      (take (n - 1) (section_numbers s.o)) x

module _ {S : Type 0} (s : State S) where
  abbrev numbers : List ℕ
  numbers = section_numbers s.o

  pub halves_none : (x : Contents) → HasFirst x → IsFirstRead x → HalfKept s x 1
  halves_none x first read = record {
    passed = refl;
    kept = first s.told s.o.base (half_header s.o) (debug_half_bytes s.o);
    read = read (λ k. kinds.Bytes) (half_range_due s.o);
  }

  module _ (x : Contents) (n : ℕ) (so_far : HalfKept s x n) (from : 1 ≤ n)
      (below : n < length s.o.sections) where
    there : n - 1 < length numbers
    there = let long = numbers_long s.o in omega (arith, long, from, below)

    number_is : get_or numbers (n - 1) 0 ≡ n
    number_is =
        let inside : n - 1 < length s.o.sections - 1 = omega (arith, from, below) in
        let sum : 1 + (n - 1) ≡ n = omega (arith, from) in
        get_or-range_with_len 1 (length s.o.sections - 1) (n - 1) 0 inside ∙ sum

    next_is : n - 1 + 1 ≡ n + 1 - 1
    next_is = omega (arith, from)

    pub halves_more : (y : Contents) → AddsHalf s n (Ok tt) x y → HalfKept s y (n + 1)
    halves_more y adds = record {
      passed = subst (λ (i : ℕ).
          first_refusal (map (debug_raw_refusal s.o) (take i numbers)) ≡ None) next_is
          (passed_more (debug_raw_refusal s.o) numbers (n - 1) there so_far.passed
          (ap (debug_raw_refusal s.o) number_is ∙ adds.passed));
      kept = subst (λ (i : ℕ).
          AreKeptSections s.told s.o.base (half_header s.o) (debug_half_bytes s.o) (take i numbers) y) next_is
          (subst (λ (l : List ℕ).
          AreKeptSections s.told s.o.base (half_header s.o) (debug_half_bytes s.o) l y)
          (sym (take_more numbers (n - 1) 0 there))
          (kept_more s.told s.o.base (half_header s.o) (debug_half_bytes s.o) (take (n - 1) numbers)
          (get_or numbers (n - 1) 0) x y so_far.kept
          (subst (λ (k : ℕ).
          HasOneMore s.told s.o.base (half_header s.o k) (debug_half_bytes s.o k) x y)
          (sym number_is) adds.ok)));
      read = subst (λ (i : ℕ).
          AreReadAs (λ k. kinds.Bytes) (half_range_due s.o) (take i numbers) y) next_is
          (subst (λ (l : List ℕ). AreReadAs (λ k. kinds.Bytes) (half_range_due s.o) l y)
          (sym (take_more numbers (n - 1) 0 there))
          (read_more (λ k. kinds.Bytes) (half_range_due s.o) (take (n - 1) numbers)
          (get_or numbers (n - 1) 0) x y so_far.read
          (subst (λ (k : ℕ). IsReadAs kinds.Bytes (half_range_due s.o k) x y) (sym number_is)
          adds.read)));
    }

    pub halves_stop : (e : ElfError) (y z : Contents) → AddsHalf s n (Err e) x y
        → AddsHalves s (Err e) z
    halves_stop e y z adds = record {
      ok = tt;
      read = tt;
      passed = tt;
      err = refused_stop (debug_raw_refusal s.o) numbers (n - 1) e there so_far.passed
          (subst (λ (k : ℕ). RefusedBy (debug_raw_refusal s.o k) e) (sym number_is) adds.err);
    }

  pub halves_all : (x : Contents) (n : ℕ) → HalfKept s x n → length s.o.sections ≤ n
      → AddsHalves s (Ok tt) x
  halves_all x n so_far all =
      let long = numbers_long s.o in
      let past : length numbers ≤ n - 1 = omega (arith, long, all) in
      record {
        ok = subst (λ (l : List ℕ).
            AreKeptSections s.told s.o.base (half_header s.o) (debug_half_bytes s.o) l x)
            (take_all (n - 1) numbers past) so_far.kept;
        read = subst (λ (l : List ℕ). AreReadAs (λ k. kinds.Bytes) (half_range_due s.o) l x)
            (take_all (n - 1) numbers past) so_far.read;
        passed = passed_all (debug_raw_refusal s.o) numbers (n - 1) past so_far.passed;
        err = tt;
      }

-- ---- All of them

few_numbers : (o : Object) → length (section_numbers o) ≤ length o.sections - 1
few_numbers o = let long = numbers_long o in omega (arith, long)

module _ {S : Type 0} (s : State S) where
  pub half_none : (x : Contents) → length s.o.sections ≡ 0 → x.headers ≡ [] → x.sizes ≡ []
      → x.ranges ≡ [] → x.kinds ≡ [] → ListsHalf s (Ok x)
  half_none x none headers sizes ranges ks = record {
    ok = none_has s.told s.o.base (half_header s.o) (debug_half_bytes s.o) (section_numbers s.o)
        (length s.o.sections) x none headers sizes;
    read = record { none = λ n. (ks, ranges); some = λ some. absurd (some none) };
    passed = none_passed s.o (debug_raw_refusal s.o) (section_numbers s.o) none
        (few_numbers s.o);
    err = tt;
  }

  pub half_listed : (x : Contents) → IsObject s.o → (length s.o.sections ≡ 0 → ⊥)
      → AddsHalves s (Ok tt) x → ListsHalf s (Ok x)
  half_listed x is some adds = record {
    ok = some_has s.told s.o.base (half_header s.o) (debug_half_bytes s.o) (section_numbers s.o)
        (length s.o.sections) x some is.section_count (few_numbers s.o) adds.ok;
    read = record { none = λ none. absurd (some none); some = λ there. adds.read };
    passed = adds.passed;
    err = tt;
  }

  pub half_not_listed : (e : ElfError) (x : Contents) → AddsHalves s (Err e) x
      → ListsHalf s (Err e)
  half_not_listed e x adds = record { ok = tt; read = tt; passed = tt; err = adds.err }

  pub half_wanted : (e : ElfError) → e ≡ Memory → ListsHalf s (Err e)
  half_wanted e want =
      subst (λ (d : ElfError). ListsHalf s (Err d)) (sym want)
      (record { ok = tt; read = tt; passed = tt; err = tt })

  -- ---- What is refused of the debug half

  abbrev segments : Option ElfError
  segments = newphdr_refusal (length s.o.phdrs)

  abbrev raw : Option ElfError
  raw = first_refusal (map (debug_raw_refusal s.o) (section_numbers s.o))

  abbrev index : Option ElfError
  index = index_refusal s.o (debug_sections s.o) s.o.header.shstrndx

  stated : first_refusal (segments ∷ raw ∷ index ∷ []) ≡ debug_refusal s.o
  unfolding debug_refusal
  stated = refl

  pub too_many_segments : (e : ElfError) (n : ℕ) → n ≡ length s.o.phdrs
      → ◌≡◌ {A = Result (Unit {0}) ElfError} (Err e) (answered (newphdr_refusal n) tt)
      → KeepsHalf s (Err e)
  too_many_segments e n at came =
      let by : RefusedBy (newphdr_refusal n) e =
      answer_refused (newphdr_refusal n) (tt {0}) e (newphdr_states n) came in
      record {
        ok = tt;
        read = tt;
        passed = tt;
        err = refused_as (first_refusal (segments ∷ raw ∷ index ∷ [])) (debug_refusal s.o) e
            stated (first_step_refused segments (raw ∷ index ∷ []) e
            (subst (λ (m : ℕ). RefusedBy (newphdr_refusal m) e) at by));
      }

  module _ (few : segments ≡ None) where
    pub half_unkept : (e : ElfError) → ListsHalf s (Err e) → KeepsHalf s (Err e)
    half_unkept e lists = record {
      ok = tt;
      read = tt;
      passed = tt;
      err = refused_as (first_refusal (segments ∷ raw ∷ index ∷ [])) (debug_refusal s.o) e
          stated (refused_later segments (raw ∷ index ∷ []) e few
          (first_step_refused raw (index ∷ []) e lists.err));
    }

    module _ (x : Contents) (is : IsObject s.o) (lists : ListsHalf s (Ok x)) (i count : ℕ)
        (index_as : i ≡ s.o.header.shstrndx) (count_as : count ≡ length s.o.sections) where
      index_stated : index ≡ index_beyond i count
      index_stated =
          index_is s.o (debug_sections s.o) s.o.header.shstrndx is
          ∙ ap (λ (j : ℕ). index_beyond j (length (debug_sections s.o))) (sym index_as)
          ∙ ap (index_beyond i)
          (length-map-range_with_len (debug_section s.o) 0 (length s.o.sections)
          ∙ sym count_as)

      refusal_is : debug_refusal s.o ≡ index_beyond i count
      refusal_is =
          sym stated
          ∙ passes_first segments (raw ∷ index ∷ []) few
          ∙ passes_first raw (index ∷ []) lists.passed
          ∙ alone index
          ∙ index_stated

      pub half_kept : ◌≡◌ {A = Result (Unit {0}) ElfError} (Ok tt)
          (answered (index_beyond i count) tt) → KeepsHalf s (Ok x)
      half_kept came = record {
        ok = lists.ok;
        read = lists.read;
        passed = refusal_is ∙ passed_from (index_beyond i count) came;
        err = tt;
      }

      pub half_index : (e : ElfError) → ◌≡◌ {A = Result (Unit {0}) ElfError} (Err e)
          (answered (index_beyond i count) tt) → KeepsHalf s (Err e)
      half_index e came = record {
        ok = tt;
        read = tt;
        passed = tt;
        err = refused_as (index_beyond i count) (debug_refusal s.o) e (sym refusal_is)
            (answer_refused (index_beyond i count) (tt {0}) e (index_states i count) came);
      }
