-- The object of the plan without some sections answers as is stated, and within what may be asked
-- for.
use Rattle.std.proofs.Common.{◌≡◌, inl, inr, ◌+◌, ◌-◌, ◌≤◌, ℕ, zero, suc, Bool, true, false, List, [], ◌∷◌, length, get_or, Option, None, Some, Result, Ok, Err, if◌then◌else◌, refl, sym, ap, ◌∙◌, subst, arith}
use Rattle.std.specs.Prelude.{IsTrue, sum_by, unwrap_or}
use Rattle.std.specs.List.{range_with_len}
use Rattle.std.proofs.lemmas.List.Sums.{sum_by-cons}
use Rattle.elf_types.specs.declared.errors.ElfError.{ElfError}
use Rattle.elf_types.specs.declared.errors.ElfError.TheVariants.{Memory, Read, Write}
use Rattle.elf_types.specs.declared.records.Kind.{Kind}
use Rattle.elf_types.specs.Answers.{answered}
use Rattle.elf_outside.specs.declared.sources.Source.{Ghosts}
use Rattle.elf_object.specs.Object.{Object, is_dirty, occupies_file}
use Rattle.elf_object.specs.Sections.{is_among}
use Rattle.elf_object.specs.Valid.{IsObject}
use Rattle.rebuild_model.specs.Arranged.{Rebuilt, arranged, placed_from, tail_refusal}
use Rattle.rebuild_model.specs.Rebuilt.{rebuilt, rebuilt_object, rebuilt_tail}
use Rattle.rebuild_plan.specs.elf_descriptor.State.{State}
use Rattle.rebuild_plan.specs.rebuild_image.declared.ranges.ranges.ByteRange.{ByteRange}
use Rattle.rebuild_plan.specs.rebuild_image.Ranges.Ranges.{range_due}
use Rattle.rebuild_plan.specs.law_rebuild.Strip.Made.{FitsClass}
use Rattle.rebuild_plan.proofs.law_rebuild.strip.RebuiltLaws.{rebuilt_known}
use Rattle.rebuild_plan.specs.rebuild_keep.Answers.{RebuildAnswers, EarlyBy, rebuild_due}
use Rattle.rebuild_plan.specs.rebuild_keep.Makes.{AsksFor}
use Rattle.rebuild_plan.proofs.rebuild_keep.AskLaws.{asks_more, asks_stop, asks_twice}
use Rattle.rebuild_plan.specs.declared.arranged.Arranged.{Arranged}
use Rattle.rebuild_plan.specs.Plans.{ArrangedAnswers, MakesRebuilt, stream_due}
use Rattle.rebuild_plan.specs.Reading.{ranges_due}
use Rattle.rebuild_plan.proofs.DueLaws.{stream_less}
use Rattle.rebuild_object.specs.Objects.{no_range, arranged_header, range_in, section_range_due, object_due, object_from_arranged, IsUnstated}
use Rattle.rebuild_object.specs.Planned.{IsCreatedWith}
use Rattle.rebuild_object.proofs.CreatedLaws.{rebuilt_created}
use Rattle.rebuild_object.proofs.PlanLaws.{plans_make}

-- ---- Errors

-- one of the plan
pub arranged_error : (o : Object) (e : ElfError) (stated : Result Rebuilt ElfError)
    → ArrangedAnswers o (Err e) stated → RebuildAnswers (Err e) stated
arranged_error o Memory stated is = tt
arranged_error o Read stated is = tt
arranged_error o Write stated is = is
arranged_error o e stated is = is

-- one of the object that is made of it
pub unstated_answer : {A : Type 0} (e : ElfError) (stated : Result A ElfError) → IsUnstated e
    → RebuildAnswers (Err e) stated
unstated_answer {A} e stated (inl is) =
    subst (λ (d : ElfError). RebuildAnswers {A = A} (Err d) stated) (sym is) tt
unstated_answer {A} e stated (inr is) =
    subst (λ (d : ElfError). RebuildAnswers {A = A} (Err d) stated) (sym is) tt

pub unstated_early : (e : ElfError) (stated : Option ElfError) → IsUnstated e → EarlyBy stated e
unstated_early e stated (inl is) = subst (EarlyBy stated) (sym is) tt
unstated_early e stated (inr is) = subst (EarlyBy stated) (sym is) tt

-- ---- The object

arranged_tail : (old new : Rebuilt) → arranged old ≡ Ok new → new.tail ≡ old.tail
unfolding arranged
arranged_tail old new came = by old.tail refl came
  where
    by_refusal : (tail : ℕ) (refusal : Option ElfError)
        → answered refusal (record old { object = placed_from old.object tail }) ≡ Ok new
        → new.tail ≡ old.tail
    by_refusal tail None is =
        let same : record old { object = placed_from old.object tail } ≡ new = cc in
        ap (λ (r : Rebuilt). r.tail) (sym same)
    by_refusal tail (Some e) is = cc

    by : (t : Option ℕ) → old.tail ≡ t → ◌≡◌ {A = Result Rebuilt ElfError} (elim t [
      | None ↦ Ok old
      | Some tail ↦ answered
          (tail_refusal old.object tail)
          (record old { object = placed_from old.object tail })
    ]) (Ok new) → new.tail ≡ old.tail
    by None at is =
        let same : old ≡ new = cc in ap (λ (r : Rebuilt). r.tail) (sym same)
    by (Some tail) at is = by_refusal tail (tail_refusal old.object tail) is

abbrev pub as_answer : Object → Option ℕ → Result Rebuilt ElfError
as_answer q n = Ok (record { object = q; tail = n })

-- what was arranged of an object without some sections is what the stated one is made of
pub rebuilt_over : (o : Object) (removed : List ℕ) (x : Arranged)
    → ArrangedAnswers o (Ok x) (rebuilt o removed) → MakesRebuilt o removed x → IsObject o
    → is_dirty o ≡ false → FitsClass o → is_among removed 0 ≡ false
    → rebuilt o removed ≡ as_answer (object_from_arranged o x) x.tail
rebuilt_over o removed x found makes is clean fit stays =
    let r = found.0 in
    let stated : rebuilt o removed ≡ Ok r = found.1 in
    let created = rebuilt_created o removed r is clean fit stays stated in
    let of_plan : IsCreatedWith o x.kinds r.object =
    subst (λ (ks : List Kind). IsCreatedWith o ks r.object) (sym makes.kinds_are) created in
    let same : object_from_arranged o x ≡ r.object = plans_make o r.object x found.2 of_plan in
    let tail : r.tail ≡ x.tail =
    arranged_tail (record { object = rebuilt_object o removed; tail = rebuilt_tail o removed }) r
    (rebuilt_known o removed r stated).is
    ∙ sym makes.tail_is in
    stated
    ∙ ap (λ (q : Object). as_answer q r.tail) (sym same)
    ∙ ap (λ (n : Option ℕ). as_answer (object_from_arranged o x) n) tail

module _ {S : Type 0} (old mid : State S) (object : mid.o ≡ old.o) (told : mid.told ≡ old.told)
    (removed : List ℕ) (is : IsObject old.o) (clean : is_dirty old.o ≡ false)
    (fit : IsTrue old.told → FitsClass old.o) (stays : is_among removed 0 ≡ false) where
  pub object_answers : (x : Arranged) (made : Object)
      → (IsTrue old.told → ArrangedAnswers old.o (Ok x) (rebuilt old.o removed))
      → MakesRebuilt old.o removed x → (IsTrue mid.told → made ≡ object_from_arranged mid.o x)
      → IsTrue old.told → rebuilt old.o removed ≡ as_answer made x.tail
  object_answers x made answer makes is_made t =
      let same : made ≡ object_from_arranged old.o x =
      is_made (subst (λ (b : Bool). IsTrue b) (sym told) t)
      ∙ ap (λ (o : Object). object_from_arranged o x) object in
      rebuilt_over old.o removed x (answer t) makes is clean (fit t) stays
      ∙ ap (λ (q : Object). as_answer q x.tail) (sym same)

-- ---- What is asked for

-- a sum over numbers, of which each is at most what a range has
sums_within : (f : ℕ → ℕ) (l : List ByteRange) (a m : ℕ)
    → ((s i : ℕ) → i ≡ a + s → f i ≤ range_due (get_or l s no_range))
    → sum_by f (range_with_len a m) ≤ ranges_due l
sums_within f l a zero less = omega arith
sums_within f [] a (suc m) less =
    let one = sum_by-cons f a (range_with_len (a + 1) m) in
    let here = less 0 a (omega arith) in
    let rest = sums_within f [] (a + 1) m
    (λ s i at. less (suc s) i (omega (arith, at))) in
    omega (arith, one, here, rest)
sums_within f (r ∷ l) a (suc m) less =
    let one = sum_by-cons f a (range_with_len (a + 1) m) in
    let all = sum_by-cons range_due r l in
    let here = less 0 a (omega arith) in
    let rest = sums_within f l (a + 1) m (λ s i at. less (suc s) i (omega (arith, at))) in
    omega (arith, one, all, here, rest)

section_within : (x : Arranged) (s : ℕ) → section_range_due x s ≤ range_due (range_in x s)
section_within x s = by (occupies_file (arranged_header x s))
  where
    by : (b : Bool)
        → (if b then range_due (range_in x s) else 0) ≤ range_due (range_in x s)
    by true = omega arith
    by false = omega arith

pub object_due_within : (x : Arranged) → object_due x ≤ unwrap_or x.tail 0 + ranges_due x.ranges
unfolding object_due
object_due_within x =
    let m = length x.listed.headers - 1 in
    let all = sums_within (section_range_due x) x.ranges 0 (suc m)
    (λ s i at. subst (λ (n : ℕ). section_range_due x n ≤ range_due (range_in x s))
    (sym (at_0 i s at)) (section_within x s)) in
    let one = sum_by-cons (section_range_due x) 0 (range_with_len 1 m) in
    omega (arith, all, one)
  where
    at_0 : (i s : ℕ) → i ≡ 0 + s → i ≡ s
    at_0 i s at = omega (arith, at)

module _ {S T : Type 0} (g : Ghosts S) (removed : List ℕ) (old mid new : State S) where
  pub asks_made : (x : Arranged) (r : Result T ElfError) → MakesRebuilt old.o removed x
      → AsksFor {T = Arranged} g (Ok x) old mid (stream_due old.o removed)
      → AsksFor g r mid new (object_due x) → AsksFor g r old new (rebuild_due old.o removed)
  asks_made x r makes first second =
      let due = object_due_within x in
      let within = makes.within in
      asks_more g r old new (stream_due old.o removed + object_due x) (rebuild_due old.o removed)
      (omega (arith, due, within))
      (asks_twice g (Ok x) r old mid new (stream_due old.o removed) (object_due x) first second)

  pub asks_arranged : (e : ElfError)
      → AsksFor {T = Arranged} g (Err e) old mid (stream_due old.o removed)
      → AsksFor {T = T} g (Err e) old mid (rebuild_due old.o removed)
  asks_arranged e asks =
      asks_more g {T = T} (Err e) old mid (stream_due old.o removed) (rebuild_due old.o removed)
      (stream_less old.o removed)
      (asks_stop g {T = Arranged} {U = T} e old mid (stream_due old.o removed) asks)
