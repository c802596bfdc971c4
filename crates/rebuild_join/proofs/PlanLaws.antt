-- What is planned of two halves is the file that an update writes of what they are combined to.
use Rattle.std.proofs.Common.{◌≡◌, inl, inr, ◌⊎◌, ◌≤◌, ◌&&◌, ◌++◌, ℕ, List, [], length, take, Option, None, Some, Result, Ok, Err, refl, sym, ap, ◌∙◌, subst}
use Rattle.std.specs.Prelude.{IsTrue, IfSome, unwrap_or}
use Rattle.std.specs.Cmp.Derive.{both_true}
use Rattle.std.proofs.lemmas.List.{take-append-le}
use Rattle.elf_types.specs.Answers.{answered}
use Rattle.elf_types.specs.declared.errors.ElfError.{ElfError}
use Rattle.elf_types.specs.declared.errors.ElfError.TheVariants.{Memory, TooLarge}
use Rattle.elf_outside.proofs.AskLemmas.{read_rose_on}
use Rattle.elf_object.specs.Layout.{section_numbers}
use Rattle.elf_object.specs.Object.{Object}
use Rattle.elf_object.specs.Valid.{IsObject}
use Rattle.rebuild_keep.specs.elf_descriptor.State.{State}
use Rattle.rebuild_model.specs.Arranged.{Rebuilt, over_base, arranged}
use Rattle.rebuild_model.specs.Files.{file_made}
use Rattle.rebuild_model.specs.Rebuilt.{assembled, rebuilt_tail}
use Rattle.rebuild_model.specs.Split.{combined_sections, combined_object, combine_fault, or_elf, unstripped}
use Rattle.rebuild_keep.specs.rebuild_making.Placing.{made_of, arranged_refusal}
use Rattle.rebuild_plan.specs.law_rebuild.Strip.Made.{FitsClass}
use Rattle.rebuild_plan.proofs.law_rebuild.strip.HalfLaws.{combined_is_object, halves_are_writable}
use Rattle.rebuild_keep.proofs.RebuildLaws.{tail_within}
use Rattle.rebuild_plan.specs.declared.arranged.Arranged.{Arranged}
use Rattle.rebuild_plan.specs.declared.contents.Contents.{Contents}
use Rattle.rebuild_plan.specs.declared.plans.RangedPlan.{RangedPlan}
use Rattle.rebuild_plan.specs.Plans.{arranged_object, IsArrangedAs, PlansCopied, IsGatheredOf, MayBeWritten, IsUnarranged, ArrangesContents, FileAnswers}
use Rattle.rebuild_plan.proofs.AnswerLaws.{copied_file}
use Rattle.rebuild_plan.proofs.ListLaws.{gathered_over}
use Rattle.rebuild_join.proofs.joined.FilledLaws.{combined_none}
use Rattle.rebuild_join.proofs.joined.JoinLaws.{whole_tail, unstripped_passed}
use Rattle.rebuild_join.specs.Ranges.{IsUnchanged}
use Rattle.rebuild_join.specs.Keeping.{joined_header, joined_bytes, joined_items, HasJoined}
use Rattle.rebuild_join.specs.Joining.{combined_made, PlansCombined}
use Rattle.rebuild_join.proofs.SectionLaws.{some_made, bytes_made}

-- ---- Places

-- they are given, or refused
arranged_by : (p : Object) (tail : Option ℕ) (r : Option ElfError) → arranged_refusal p tail ≡ r
    → arranged (made_of p tail) ≡ answered r (made_of (arranged_object p tail) tail)
unfolding arranged
arranged_by p None r is =
    ap (λ (x : Option ElfError). answered x (made_of p None)) is
arranged_by p (Some n) r is =
    ap (λ (x : Option ElfError). answered x (made_of (arranged_object p (Some n)) (Some n))) is

-- the first bytes of the stripped half are those of the base
below_tail : (tail : Option ℕ) (front more : List ℕ) → IfSome tail (λ n. n ≤ length front)
    → take (unwrap_or tail 0) (front ++ more) ≡ take (unwrap_or tail 0) front
below_tail None front more within = refl
below_tail (Some n) front more within = take-append-le n front more within

-- ---- The two combined

module _ (a b : Object) (tail : Option ℕ) (at : tail ≡ rebuilt_tail a []) where
  abbrev joined : Object
  joined = assembled (over_base a tail) a b.header.shstrndx (combined_sections a b)

  abbrev placed : Object
  placed = arranged_object joined tail

  joined_is : made_of joined tail ≡ combined_made a b
  unfolding combined_object
  joined_is =
      ap (λ (t : Option ℕ).
      made_of (assembled (over_base a t) a b.header.shstrndx (combined_sections a b)) t)
      (whole_tail a tail at)

  module _ (is : IsObject a) (other : IsObject b) (fit : FitsClass a)
      (passed : combine_fault a b ≡ None) (given : arranged_refusal joined tail ≡ None) where
    stated : unstripped a b ≡ Ok (made_of placed tail)
    stated =
        unstripped_passed a b passed
        ∙ ap (λ (r : Rebuilt). or_elf (arranged r)) (sym joined_is)
        ∙ ap or_elf (arranged_by joined tail None given)

    may : MayBeWritten placed
    may =
        let writable = halves_are_writable.combined a b (made_of placed tail) is other
        fit.segments stated in
        record {
          object = combined_is_object a b (made_of placed tail) is other stated;
          dirty = writable.dirty;
          content = writable.content;
        }

-- ---- Its plan

module _ {S T : Type 0} (s : State S) (d : State T) (one : IsUnchanged s) (two : IsUnchanged d)
    (fit : FitsClass s.o) (x : Contents) (has : HasJoined s d x)
    (passed : combine_fault s.o d.o ≡ None) (tail : Option ℕ) (at : tail ≡ rebuilt_tail s.o [])
    (index : ℕ) (index_is : index ≡ d.o.header.shstrndx) where
  abbrev base : List ℕ
  base = s.o.base ++ d.o.base

  gathered : IsTrue s.told → IsTrue d.told
      → IsGatheredOf s.o d.o.header.shstrndx x tail base (joined s.o d.o tail at)
  gathered t u =
      let within = tail_within s.o [] tail at in
      gathered_over s.o tail d.o.header.shstrndx (joined_header s.o d.o) (joined_items s.o d.o)
      (section_numbers d.o) (length d.o.sections) (combined_sections s.o d.o)
      (combined_none s.o d.o) (some_made s.o d.o) (s.told && d.told) base (joined_bytes s.o d.o) x
      has (both_true t u) (bytes_made s.o d.o one.object two.object) within
      (below_tail tail s.o.base d.o.base within)

  at_index : (r : Result Arranged ElfError) → ArrangesContents s.o index x tail r
      → ArrangesContents s.o d.o.header.shstrndx x tail r
  at_index r arranges =
      subst (λ (i : ℕ). ArrangesContents s.o i x tail r) index_is arranges

  -- what is answered of it
  answers_as : (r : Result RangedPlan ElfError)
      → FileAnswers base r (file_made (arranged (made_of (joined s.o d.o tail at) tail)))
      → FileAnswers base r (file_made (arranged (combined_made s.o d.o)))
  answers_as r answer =
      subst (λ (m : Rebuilt). FileAnswers base r (file_made (arranged m)))
      (joined_is s.o d.o tail at) answer

  module _ (next : Arranged) (r : Result RangedPlan ElfError)
      (plans : PlansCopied s.o.phdrs next.listed next.ranges next.held next.tail r) where
    given_answers : IsArrangedAs s.o.phdrs base (joined s.o d.o tail at) tail next
        → FileAnswers base r (file_made (arranged (made_of (joined s.o d.o tail at) tail)))
    given_answers laid =
        subst (λ (f : Result (List ℕ) ElfError). FileAnswers base r f)
        (sym (ap file_made (arranged_by (joined s.o d.o tail at) tail None laid.passed)))
        (copied_file base (placed s.o d.o tail at) s.o.phdrs next r plans
        (laid.ranges (may s.o d.o tail at one.object two.object fit passed laid.passed)))

    pub combined_planned : ArrangesContents s.o index x tail (Ok next) → PlansCombined s d r
    combined_planned arranges = record {
      answer = λ t u.
          answers_as r (given_answers
          ((at_index (Ok next) arranges).ok base (joined s.o d.o tail at) (gathered t u)));
      unread = plans.unread;
    }

  ungiven : (e : ElfError) → (e ≡ Memory) ⊎ IsUnarranged s.o d.o.header.shstrndx x tail e
      → IsTrue s.told → IsTrue d.told
      → FileAnswers base (Err e) (file_made (arranged (made_of (joined s.o d.o tail at) tail)))
  ungiven e (inl want) t u =
      subst (λ (c : ElfError). FileAnswers base (Err c)
      (file_made (arranged (made_of (joined s.o d.o tail at) tail)))) (sym want) tt
  ungiven e (inr large) t u =
      subst (λ (c : ElfError). FileAnswers base (Err c)
      (file_made (arranged (made_of (joined s.o d.o tail at) tail)))) (sym large.error)
      (ap file_made (arranged_by (joined s.o d.o tail at) tail (Some TooLarge)
      (large.refused base (joined s.o d.o tail at) (gathered t u))))

  pub combined_unplanned : (e : ElfError) → ArrangesContents s.o index x tail (Err e)
      → PlansCombined s d (Err e)
  combined_unplanned e arranges = record {
    answer = λ t u. answers_as (Err e) (ungiven e (at_index (Err e) arranges).err t u);
    unread = λ a b. read_rose_on Arranged RangedPlan e a b (arranges.unread a b);
  }
