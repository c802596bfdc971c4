-- What is planned of the debug half is the file that an update writes of it, and what is made of the
-- plan is its object.
use Rattle.std.proofs.Common.{◌≡◌, inl, inr, ◌⊎◌, ◌∷◌, ◌+◌, ◌-◌, ◌<◌, ◌≤◌, ◌^◌, ℕ, zero, suc, Bool, true, false, List, [], length, map, Option, None, Result, Ok, Err, if◌then◌else◌, refl, sym, ap, ◌∙◌, subst, arith}
use Rattle.std.specs.Prelude.{IsTrue, IfOk, IfErr, OnOk, unwrap_or}
use Rattle.std.specs.List.{range_with_len}
use Rattle.std.proofs.lemmas.Bool.{ne_eqb}
use Rattle.std.proofs.lemmas.List.Elements.{All-nil}
use Rattle.std.proofs.lemmas.List.FromFn.{get_or-map-range_with_len}
use Rattle.elf_types.specs.declared.records.Kind.{Kind}
use Rattle.elf_types.specs.declared.records.Kind.TheVariants as kinds
use Rattle.elf_types.specs.declared.errors.ElfError.{ElfError}
use Rattle.elf_types.specs.declared.errors.ElfError.TheVariants.{Memory}
use Rattle.elf_types.specs.Answers.{answered}
use Rattle.elf_types.specs.Lists.{AreBytes}
use Rattle.elf_outside.specs.declared.sources.Source.{Ghosts}
use Rattle.elf_xlate.specs.Translation.{encoded}
use Rattle.elf_object.specs.Object.{Object, section_at}
use Rattle.elf_object.specs.Layout.{section_numbers}
use Rattle.elf_object.specs.Sections.{header_at}
use Rattle.elf_object.specs.Valid.{IsObject}
use Rattle.elf_object.specs.Words.{result_map}
use Rattle.law_object.proofs.KeepLaws.{section_at_is}
use Rattle.rebuild_model.specs.Arranged.{over_base}
use Rattle.rebuild_model.specs.Rebuilt.{assembled}
use Rattle.rebuild_model.specs.Split.{is_loaded_from_file, debug_sections, debug_half, debug_refusal, debug_of}
use Rattle.rebuild_object.specs.elf_descriptor.State.{State}
use Rattle.rebuild_object.specs.rebuild_making.Refused.{UnreadBy}
use Rattle.rebuild_object.specs.law_rebuild.Strip.Made.{FitsClass}
use Rattle.rebuild_object.proofs.law_rebuild.strip.HalfLaws.{debug_is_object, halves_are_writable}
use Rattle.rebuild_object.proofs.law_rebuild.strip.MadeSections.{bytes_encoded}
use Rattle.rebuild_object.specs.rebuild_keep.Answers.{RebuildAnswers}
use Rattle.rebuild_object.specs.rebuild_keep.Makes.{AsksFor}
use Rattle.rebuild_object.proofs.rebuild_keep.AskLaws.{asks_more}
use Rattle.rebuild_object.specs.rebuild_plan.declared.arranged.Arranged.{Arranged}
use Rattle.rebuild_object.specs.rebuild_plan.declared.contents.Contents.{Contents}
use Rattle.rebuild_object.specs.rebuild_plan.declared.plans.RangedPlan.{RangedPlan}
use Rattle.rebuild_object.specs.rebuild_plan.Plans.{PlansCopied, IsGatheredOf, IsRangedBy, MayBeWritten, IsUnarranged, ArrangesContents}
use Rattle.rebuild_object.specs.rebuild_plan.Reading.{ranges_due}
use Rattle.rebuild_object.proofs.rebuild_plan.AnswerLaws.{copied_file}
use Rattle.rebuild_object.proofs.rebuild_plan.ListLaws.{gathered_over}
use Rattle.rebuild_object.specs.Objects.{kind_at, object_from_arranged, object_due, IsUnstated}
use Rattle.rebuild_object.specs.Planned.{IsCreatedWith}
use Rattle.rebuild_object.proofs.AnswerLaws.{unstated_answer, object_due_within}
use Rattle.rebuild_object.proofs.HalfLaws.{halves_created}
use Rattle.rebuild_object.proofs.PlanLaws.{plans_make}
use Rattle.rebuild_debug.specs.Half.{half_header, debug_half_bytes, half_kind, half_kinds, half_due}
use Rattle.rebuild_debug.specs.Keeping.{HasHalf, IsHalfRead}
use Rattle.rebuild_debug.specs.Planning.{ArrangesHalf, PlansHalf}
use Rattle.rebuild_debug.proofs.HalfLaws.{half_items, none_made, some_made, due_is, answer_made}

-- ---- The debug half of an object

module _ (o : Object) where
  abbrev half : Object
  half = assembled (over_base o None) o o.header.shstrndx (debug_sections o)

  half_is : debug_half o ≡ half
  unfolding debug_half over_base
  half_is = refl

  half_ranged : IsObject o → (n : ℕ) → AreBytes (debug_half_bytes o n)
  unfolding debug_half_bytes
  half_ranged is n = by_test (is_loaded_from_file (header_at o n))
    where
      by_test : (b : Bool) → AreBytes (if b then [] else (section_at o n).raw)
      by_test true = All-nil (λ n. n < 2 ^ 8)
      by_test false = (section_at_is o n is).home.bytes

  bytes_made : IsObject o → (n : ℕ)
      → debug_half_bytes o n ≡ encoded o.header.class o.header.order (half_items o n)
  bytes_made is n =
      sym (bytes_encoded o.header.class o.header.order (debug_half_bytes o n) (half_ranged is n))

  module _ (is : IsObject o) (fit : FitsClass o) (passed : debug_refusal o ≡ None) where
    stated : debug_of o ≡ Ok half
    unfolding debug_of
    stated =
        ap (λ (r : Option ElfError). answered r (debug_half o)) passed
        ∙ ap (λ (p : Object). Ok p) half_is

    may : MayBeWritten half
    may =
        let writable = halves_are_writable.debug o half is fit.segments stated in
        record {
          object = debug_is_object o half is stated;
          dirty = writable.dirty;
          content = writable.content;
        }

-- ---- Its plan

kind_from : (a n : ℕ) → 1 ≤ a → map half_kind (range_with_len a n) ≡ map (λ k. kinds.Bytes)
    (range_with_len a n)
kind_from a zero from = refl
kind_from a (suc n) from =
    ap (λ (b : Bool). (if b then kinds.Empty else kinds.Bytes)
    ∷ map half_kind (range_with_len (a + 1) n)) (ne_eqb a 0 (λ none. omega (arith, none, from)))
    ∙ ap (λ (l : List Kind). kinds.Bytes ∷ l) (kind_from (a + 1) n (omega (arith, from)))

kinds_from : (n : ℕ) → (n ≡ 0 → ⊥) → kinds.Empty ∷ map (λ k. kinds.Bytes)
    (range_with_len 1 (n - 1)) ≡ map half_kind (range_with_len 0 n)
kinds_from zero some = absurd (some refl)
kinds_from (suc n) some =
    ap (λ (k : ℕ). kinds.Empty ∷ map (λ k. kinds.Bytes) (range_with_len 1 k))
    (let same : suc n - 1 ≡ n = omega arith in same)
    ∙ ap (λ (l : List Kind). kinds.Empty ∷ l) (sym (kind_from 1 n (omega arith)))

module _ (o : Object) (x : Contents) (read : IsHalfRead o x) where
  kinds_read : x.kinds ≡ half_kinds o
  unfolding half_kinds
  kinds_read = by (length o.sections) refl
    where
      by : (n : ℕ) → length o.sections ≡ n
          → x.kinds ≡ map half_kind (range_with_len 0 (length o.sections))
      by zero none =
          (read.none none).0 ∙ sym (ap (λ (k : ℕ). map half_kind (range_with_len 0 k)) none)
      by (suc n) at =
          let some : length o.sections ≡ 0 → ⊥ = λ none. omega (arith, at, none) in
          (read.some some).kinds_are ∙ kinds_from (length o.sections) some

  ranges_read : ranges_due x.ranges ≤ half_due o
  ranges_read = by (length o.sections) refl
    where
      by : (n : ℕ) → length o.sections ≡ n → ranges_due x.ranges ≤ half_due o
      by zero none =
          let nothing : ranges_due x.ranges ≡ 0 = ap ranges_due (read.none none).1 in
          omega (arith, nothing)
      by (suc n) at =
          let within = (read.some (λ none. omega (arith, at, none))).within in
          let due = due_is o in
          omega (arith, within, due)

module _ {S : Type 0} (s : State S) (is : IsObject s.o) (fit : IsTrue s.told → FitsClass s.o)
    (x : Contents) (has : HasHalf s x) (read : IsHalfRead s.o x)
    (passed : debug_refusal s.o ≡ None) (index : ℕ) (index_is : index ≡ s.o.header.shstrndx) where
  gathered : IsTrue s.told
      → IsGatheredOf s.o s.o.header.shstrndx x None s.o.base (half s.o)
  gathered t =
      gathered_over s.o None s.o.header.shstrndx (half_header s.o) (half_items s.o)
      (section_numbers s.o) (length s.o.sections) (debug_sections s.o) (none_made s.o)
      (some_made s.o) s.told s.o.base (debug_half_bytes s.o) x has t (bytes_made s.o is) tt refl

  at_index : (r : Result Arranged ElfError) → ArrangesContents s.o index x None r
      → ArrangesContents s.o s.o.header.shstrndx x None r
  at_index r arranges =
      subst (λ (i : ℕ). ArrangesContents s.o i x None r) index_is arranges

  -- no place is given, so none is refused
  unplaced : (e : ElfError) → (e ≡ Memory) ⊎ IsUnarranged s.o index x None e → e ≡ Memory
  unplaced e (inl want) = want
  unplaced e (inr large) =
      let behind = large.behind in let never : false ≡ true = behind in cc

  pub half_arranged : (r : Result Arranged ElfError) → ArrangesContents s.o index x None r
      → ArrangesHalf s r
  half_arranged (Ok next) arranges = record {
    answer = λ t.
        subst (λ (p : Object). IsRangedBy s.o.phdrs s.o.base p next) (sym (half_is s.o))
        (((at_index (Ok next) arranges).ok s.o.base (half s.o) (gathered t)).ranges
        (may s.o is (fit t) passed));
    makes = record {
      tail_is = arranges.kept.tail_is;
      kinds_are = arranges.kept.kinds_are ∙ kinds_read s.o x read;
      within =
          let same : ranges_due next.ranges ≡ ranges_due x.ranges =
          ap ranges_due arranges.kept.ranges in
          let less = ranges_read s.o x read in
          omega (arith, same, less);
    };
    small = arranges.small;
    err = tt;
  }
  half_arranged (Err e) arranges =
      record { answer = λ t. tt; makes = tt; small = tt; err = unplaced e arranges.err }

module _ {S : Type 0} (s : State S) where
  pub half_planned : (next : Arranged) (r : Result RangedPlan ElfError)
      → ArrangesHalf s (Ok next)
      → PlansCopied s.o.phdrs next.listed next.ranges next.held next.tail r → PlansHalf s r
  half_planned next r arranges plans = record {
    answer = λ t.
        copied_file s.o.base (debug_half s.o) s.o.phdrs next r plans (arranges.answer t);
    unread = plans.unread;
  }

  pub half_unplanned : (e : ElfError) → e ≡ Memory → PlansHalf s (Err e)
  half_unplanned e want =
      subst (λ (d : ElfError). PlansHalf s (Err d)) (sym want)
      (record { answer = λ t. tt; unread = λ a b. tt })

-- ---- Its object

created : (o : Object) → IsObject o → IsCreatedWith o (half_kinds o) (debug_half o)
unfolding half_kinds
created o is = halves_created o (half_kinds o) is each
  where
    each : (s : ℕ) → 0 < s → s < length o.sections
        → kind_at (map half_kind (range_with_len 0 (length o.sections))) s ≡ kinds.Bytes
    each s some below =
        let at : 0 + s ≡ s = omega arith in
        get_or-map-range_with_len half_kind 0 (length o.sections) s s kinds.Empty below at
        ∙ ap (λ (b : Bool). if b then kinds.Empty else kinds.Bytes)
        (ne_eqb s 0 (λ none. omega (arith, none, some)))

module _ {S : Type 0} (g : Ghosts S) (old new : State S) (is : IsObject old.o)
    (passed : debug_refusal old.o ≡ None) (x : Arranged) (arranges : ArrangesHalf old (Ok x)) where
  made_half : (p : Object) → p ≡ object_from_arranged old.o x → IsTrue old.told → p ≡ debug_half old.o
  made_half p made t =
      made
      ∙ plans_make old.o (debug_half old.o) x (arranges.answer t)
      (subst (λ (ks : List Kind). IsCreatedWith old.o ks (debug_half old.o))
      (sym arranges.makes.kinds_are) (created old.o is))

  pub half_answers : {R : Type 0} (r : Result (State R) ElfError)
      → (IsTrue old.told → IfOk r (λ made. made.o ≡ object_from_arranged old.o x)) → IfErr r IsUnstated
      → IsTrue old.told → RebuildAnswers (result_map (λ (made : State R). made.o) r)
      (debug_of old.o)
  half_answers (Ok made) is_made err t =
      answer_made old.o made.o passed (made_half made.o (is_made t) t)
  half_answers (Err e) is_made err t = unstated_answer e (debug_of old.o) err

  pub half_early : {T : Type 0} (r : Result T ElfError) → IfErr r IsUnstated
      → IfErr r (UnreadBy (debug_refusal old.o))
  half_early (Ok x) err = tt
  half_early (Err e) (inl want) =
      subst (UnreadBy (debug_refusal old.o)) (sym want) tt
  half_early (Err e) (inr fails) =
      subst (UnreadBy (debug_refusal old.o)) (sym fails) tt

  pub half_passed : {T : Type 0} (r : Result T ElfError) → OnOk r (debug_refusal old.o ≡ None)
  half_passed (Ok x) = passed
  half_passed (Err e) = tt

  pub half_asks : {T : Type 0} (r : Result T ElfError) → AsksFor g r old new (object_due x)
      → AsksFor g r old new (half_due old.o)
  half_asks r asks =
      let due = object_due_within x in
      let none = ap (λ (t : Option ℕ). unwrap_or t 0) arranges.makes.tail_is in
      let less = arranges.makes.within in
      asks_more g r old new (object_due x) (half_due old.o) (omega (arith, due, none, less)) asks

-- memory is wanted before
pub memory_answer : (o : Object) (e : ElfError) → e ≡ Memory → RebuildAnswers (Err e) (debug_of o)
memory_answer o e want =
    subst (λ (d : ElfError). RebuildAnswers {A = Object} (Err d) (debug_of o)) (sym want) tt

pub memory_early : (o : Object) (e : ElfError) → e ≡ Memory → UnreadBy (debug_refusal o) e
memory_early o e want = subst (UnreadBy (debug_refusal o)) (sym want) tt
