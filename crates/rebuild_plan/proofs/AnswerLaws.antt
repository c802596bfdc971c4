-- What was kept is arranged as the rebuilt object, and its plan is that of the file that an update
-- writes of it.
use Rattle.std.proofs.Common.{◌≡◌, ◌⊎◌, inl, inr, ◌≤◌, ℕ, true, false, List, [], length, map, Option, Some, None, Result, Ok, Err, refl, sym, ap, ◌∙◌, subst}
use Rattle.std.specs.Prelude.{IsTrue, IfSome}
use Rattle.std.proofs.lemmas.Result.{IfOk-weaker, IfErr-weaker}
use Rattle.elf_types.specs.declared.records.Phdr.{Phdr}
use Rattle.elf_types.specs.declared.errors.ElfError.{ElfError}
use Rattle.elf_types.specs.declared.errors.ElfError.TheVariants.{Memory, Read, Write, TooLarge}
use Rattle.elf_types.specs.Answers.{first_refusal, answered, IsRefusal}
use Rattle.elf_outside.specs.declared.sources.Source.{Ghosts}
use Rattle.law_rebuild.specs.elf_object.Object.{Object, is_dirty}
use Rattle.law_rebuild.specs.elf_object.Calls.{newphdr_refusal}
use Rattle.law_rebuild.specs.elf_object.Image.{image}
use Rattle.law_rebuild.specs.elf_object.Refusal.{refusal}
use Rattle.law_rebuild.specs.elf_object.Valid.{IsObject}
use Rattle.law_rebuild.proofs.elf_object.RefusalLaws.{update_refuses}
use Rattle.rebuild_tables.specs.elf_descriptor.State.{State}
use Rattle.rebuild_tables.specs.elf_update_plan.Placing.{IsRefused}
use Rattle.law_rebuild.specs.rebuild_model.Arranged.{Rebuilt, over_base, placed_from, arranged}
use Rattle.law_rebuild.specs.rebuild_model.Files.{file_of, file_made}
use Rattle.law_rebuild.specs.rebuild_model.Followed.{kept_from_1}
use Rattle.law_rebuild.specs.rebuild_model.Rebuilt.{assembled, rebuilt, rebuilt_tail}
use Rattle.law_rebuild.specs.elf_object.Sections.{is_among}
use Rattle.law_rebuild.specs.Strip.Made.{FitsClass}
use Rattle.law_rebuild.proofs.strip.RebuiltLaws.{rebuilt_is_object}
use Rattle.law_rebuild.proofs.strip.WritableLaws.{rebuilt_is_writable}
use Rattle.rebuild_tables.specs.rebuild_making.Placing.{made_of, arranged_refusal}
use Rattle.rebuild_tables.specs.rebuild_making.Refused.{UnreadBy}
use Rattle.rebuild_tables.specs.rebuild_image.Ranges.Ranges.{KeptSource}
use Rattle.rebuild_tables.proofs.rebuild_image.ranges.ImageLaws.{ranges_make_image}
use Rattle.rebuild_tables.specs.rebuild_select.Steps.{IsRemovable}
use Rattle.rebuild_tables.specs.rebuild_keep.declared.naming.Names.{Names}
use Rattle.rebuild_tables.specs.rebuild_keep.declared.naming.Names.TheVariants as names
use Rattle.rebuild_tables.specs.rebuild_keep.declared.keepers.Keeper.{Keeper}
use Rattle.rebuild_tables.specs.rebuild_keep.Answers.{RebuildAnswers, EarlyBy, early_refusal, ChecksNames, refusal_of, sections_of}
use Rattle.rebuild_tables.specs.rebuild_keep.Keepers.{KeepsFor, refusal_by, index_by}
use Rattle.rebuild_tables.proofs.rebuild_keep.FillLaws.{filled_third}
use Rattle.rebuild_tables.proofs.rebuild_keep.MakeLaws.{unread_stated}
use Rattle.rebuild_tables.proofs.rebuild_keep.NumberLaws.{zero_stays}
use Rattle.rebuild_tables.proofs.rebuild_keep.RebuildLaws.{answers_early, early_error, early_is, names_refused, stated_is, tail_within}
use Rattle.rebuild_plan.specs.declared.arranged.Arranged.{Arranged}
use Rattle.rebuild_plan.specs.declared.contents.Contents.{Contents}
use Rattle.rebuild_plan.specs.declared.plans.RangedPlan.{RangedPlan}
use Rattle.rebuild_plan.specs.Checks.{index_beyond, ChecksLast}
use Rattle.rebuild_plan.specs.Contents.{HasContents, IsReadBy}
use Rattle.rebuild_plan.specs.Plans.{arranged_object, kept_with, AreRangesBy, PlansCopied, MayBeWritten, IsRangedBy, IsArrangedAs, IsUnarranged, KeepsRanges, ArrangesContents, FileAnswers, ArrangedAnswers, MakesRebuilt, ArrangesKept}
use Rattle.rebuild_plan.proofs.CheckLaws.{index_is, index_states, last_unread}
use Rattle.rebuild_plan.proofs.ListLaws.{contents_count, gathered}
use Rattle.rebuild_plan.proofs.MakesLaws.{makes_rebuilt}

-- ---- What is refused

-- a refusal of the object, as one of what is arranged
early_as_arranged : (o : Object) (e : ElfError) (stated : Result Rebuilt ElfError)
    → RebuildAnswers (Err e) stated → ArrangedAnswers o (Err e) stated
early_as_arranged o Memory stated is = tt
early_as_arranged o Read stated is = tt
early_as_arranged o Write stated is = is
early_as_arranged o e stated is = is

-- names whose table is too large are refused after what is early
names_early : (names : Names) (e : ElfError) → ChecksNames names (Err e)
    → (stated : Option ElfError) → stated ≡ None → EarlyBy stated e
names_early names.Stay e came stated none = cc
names_early (names.Anew n) e came stated none = cc
names_early names.TooLarge e came stated none =
    let same : e ≡ TooLarge = cc in subst (EarlyBy stated) (sym same) none

-- it is one of its file
pub arranged_as_file : (o : Object) (e : ElfError) (stated : Result Rebuilt ElfError)
    → ArrangedAnswers o (Err e) stated → FileAnswers o.base (Err e) (file_made stated)
arranged_as_file o Memory stated is = tt
arranged_as_file o Read stated is = tt
arranged_as_file o Write stated is = is
arranged_as_file o e stated is = ap file_made is

-- and so is one of the update
update_answers : (base : List ℕ) (e : ElfError) (q : Object) (stated : Result (List ℕ) ElfError)
    → refusal q ≡ Some e → stated ≡ Err e → FileAnswers base (Err e) stated
update_answers base Memory q stated is came = tt
update_answers base Read q stated is came = tt
update_answers base Write q stated is came =
    absurd (subst (λ (r : Option ElfError). IfSome r IsRefusal) is (update_refuses q))
update_answers base e q stated is came = came

-- ---- Places

pub arranged_ok : (p : Object) (tail : Option ℕ) → arranged_refusal p tail ≡ None
    → ◌≡◌ {A = Result Rebuilt ElfError} (Ok (made_of (arranged_object p tail) tail))
    (arranged (made_of p tail))
unfolding arranged
arranged_ok p None passed = refl
arranged_ok p (Some n) passed =
    sym (ap (λ (r : Option ElfError). answered r (made_of (placed_from p n) (Some n))) passed)

pub arranged_err : (p : Object) (tail : Option ℕ) (e : ElfError)
    → arranged_refusal p tail ≡ Some e
    → ◌≡◌ {A = Result Rebuilt ElfError} (Err e) (arranged (made_of p tail))
unfolding arranged
arranged_err p None e refused = cc
arranged_err p (Some n) e refused =
    sym (ap (λ (r : Option ElfError). answered r (made_of (placed_from p n) (Some n))) refused)

-- ---- Of a keeper

module _ {S : Type 0} (g : Ghosts S) (s : State S) (k : Keeper) (is : IsObject s.o)
    (clean : is_dirty s.o ≡ false) (removable : IsRemovable s.o k.removed.now)
    (keeps : KeepsFor s.told s.o k) where
  abbrev stated : Result Rebuilt ElfError
  stated = rebuilt s.o k.removed.now

  stays : is_among k.removed.now 0 ≡ false
  stays = zero_stays s.o k.removed.now removable

  early : refusal_of k s.o ≡ early_refusal s.o k.removed.now
  early = early_is s.told s.o k is clean removable keeps

  pub early_answer : (e : ElfError) → UnreadBy (refusal_of k s.o) e
      → ArrangedAnswers s.o (Err e) stated
  early_answer e by =
      early_as_arranged s.o e stated
      (answers_early s.o k.removed.now e (subst (λ (r : Option ElfError). UnreadBy r e) early by))

  pub early_stated : (e : ElfError) → UnreadBy (refusal_of k s.o) e
      → EarlyBy (early_refusal s.o k.removed.now) e
  early_stated e by =
      early_error s.o k.removed.now e (subst (λ (r : Option ElfError). UnreadBy r e) early by)

  module _ (fit : IsTrue s.told → FitsClass s.o) (segments : newphdr_refusal (length s.o.phdrs) ≡ None)
      (sections : first_refusal (map (refusal_by k s.o) (kept_from_1 s.o k.removed.now)) ≡ None)
      (x : Contents) (has : HasContents k s x) (index count : ℕ) (index_as : index ≡ index_by k s.o)
      (count_as : count ≡ length x.headers) where
    filled_is : refusal_of k s.o ≡ index_beyond index count
    filled_is =
        filled_third s.o (refusal_by k s.o) (kept_from_1 s.o k.removed.now) (sections_of k s.o)
        (index_by k s.o) segments sections
        ∙ index_is s.o (sections_of k s.o) (index_by k s.o) is
        ∙ ap (λ (i : ℕ). index_beyond i (length (sections_of k s.o))) (sym index_as)
        ∙ ap (index_beyond index) (sym (count_as ∙ contents_count k s x has))

    -- the string index is refused, or the names are
    index_answer : (e : ElfError) → index_beyond index count ≡ Some e
        → ArrangedAnswers s.o (Err e) stated
    index_answer e refused =
        early_answer e (unread_stated (refusal_of k s.o) e
        (subst (λ (r : Option ElfError). IfSome r IsRefusal) refused (index_states index count))
        (filled_is ∙ refused))

    names_answer : (e : ElfError) → index_beyond index count ≡ None → ChecksNames k.names (Err e)
        → IsTrue s.told → ArrangedAnswers s.o (Err e) stated
    names_answer e passed checks t =
        let large = names_refused s.told s.o k is clean removable keeps (filled_is ∙ passed) t e
        checks in
        subst (λ (d : ElfError). ArrangedAnswers s.o (Err d) stated) (sym large.0) large.1

    passes : index_beyond index count ≡ None → early_refusal s.o k.removed.now ≡ None
    passes passed = sym early ∙ filled_is ∙ passed

    last_early : (e : ElfError) → ChecksLast k.names index count (Err e)
        → EarlyBy (early_refusal s.o k.removed.now) e
    last_early e (inl refused) =
        early_stated e (unread_stated (refusal_of k s.o) e
        (subst (λ (r : Option ElfError). IfSome r IsRefusal) refused (index_states index count))
        (filled_is ∙ refused))
    last_early e (inr checks) = names_early k.names e checks.1 (early_refusal s.o k.removed.now) (passes checks.0)

    last_refused : (e : ElfError) → ChecksLast k.names index count (Err e) → IsTrue s.told
        → ArrangedAnswers s.o (Err e) stated
    last_refused e (inl refused) t = index_answer e refused
    last_refused e (inr checks) t = names_answer e checks.0 checks.1 t

    -- ---- Nothing is refused before the places are given

    module _ (passed : index_beyond index count ≡ None) (checked : ChecksNames k.names (Ok tt))
        (tail : Option ℕ) (tail_as : tail ≡ rebuilt_tail s.o k.removed.now) (t : IsTrue s.told)
      where
        abbrev p : Object
        p = assembled (over_base s.o tail) s.o (index_by k s.o) (sections_of k s.o)

        abbrev q : Object
        q = arranged_object p tail

        is_arranged : stated ≡ arranged (made_of p tail)
        is_arranged =
            stated_is s.told s.o k is clean removable keeps (filled_is ∙ passed) t tail tail_as
            checked

        is_rebuilt : arranged_refusal p tail ≡ None → stated ≡ Ok (made_of q tail)
        is_rebuilt placed = is_arranged ∙ sym (arranged_ok p tail placed)

        not_rebuilt : arranged_refusal p tail ≡ Some TooLarge → stated ≡ Err TooLarge
        not_rebuilt refused = is_arranged ∙ sym (arranged_err p tail TooLarge refused)

        may : stated ≡ Ok (made_of q tail) → MayBeWritten q
        may came =
            let writable = rebuilt_is_writable s.o k.removed.now (made_of q tail) is (fit t)
            stays came in
            record {
              object = rebuilt_is_object s.o k.removed.now (made_of q tail) is came;
              dirty = writable.dirty;
              content = writable.content;
            }

        arranged_answer : (next : Arranged) → IsArrangedAs s.o.phdrs s.o.base p tail next
            → ArrangedAnswers s.o (Ok next) stated
        arranged_answer next laid =
            let came = is_rebuilt laid.passed in (made_of q tail, came, laid.ranges (may came))

        within_base : IfSome tail (λ n. n ≤ length s.o.base)
        within_base = tail_within s.o k.removed.now tail tail_as

        unarranged_answer : (e : ElfError)
            → (e ≡ Memory) ⊎ IsUnarranged s.o (index_by k s.o) x tail e
            → ArrangedAnswers s.o (Err e) stated
        unarranged_answer e (inl want) =
            subst (λ (d : ElfError). ArrangedAnswers s.o (Err d) stated) (sym want) tt
        unarranged_answer e (inr large) =
            subst (λ (d : ElfError). ArrangedAnswers s.o (Err d) stated) (sym large.error)
            (not_rebuilt (large.refused s.o.base p (gathered k s x has tail t within_base)))

        answer_by : (r : Result Arranged ElfError)
            → ArrangesContents s.o (index_by k s.o) x tail r → ArrangedAnswers s.o r stated
        answer_by (Ok next) arranges =
            arranged_answer next
            (arranges.ok s.o.base p (gathered k s x has tail t within_base))
        answer_by (Err e) arranges = unarranged_answer e arranges.err

    places_early : (tail : Option ℕ) (e : ElfError) → early_refusal s.o k.removed.now ≡ None
        → (e ≡ Memory) ⊎ IsUnarranged s.o index x tail e
        → EarlyBy (early_refusal s.o k.removed.now) e
    places_early tail e none (inl want) =
        subst (EarlyBy (early_refusal s.o k.removed.now)) (sym want) tt
    places_early tail e none (inr large) =
        subst (EarlyBy (early_refusal s.o k.removed.now)) (sym large.error) none

    pub kept_arranged : (r : Result Arranged ElfError) (tail : Option ℕ)
        → IsReadBy k s.o x → ChecksLast k.names index count (Ok tt) → tail ≡ rebuilt_tail s.o k.removed.now
        → ArrangesContents s.o index x tail r → ArrangesKept s k.removed.now r
    kept_arranged r tail read checks tail_as arranges = record {
      answer = λ t.
          answer_by checks.0 checks.1 tail tail_as t r
          (subst (λ (i : ℕ). ArrangesContents s.o i x tail r) index_as arranges);
      early = IfErr-weaker r (λ e. (e ≡ Memory) ⊎ IsUnarranged s.o index x tail e)
          (EarlyBy (early_refusal s.o k.removed.now))
          (λ e. places_early tail e (passes checks.0)) arranges.err;
      makes = IfOk-weaker r (KeepsRanges x tail) (MakesRebuilt s.o k.removed.now)
          (λ next. makes_rebuilt s.told s.o k keeps is clean checks.1 x tail next stays read
          tail_as) arranges.kept;
      small = arranges.small;
      unread = arranges.unread;
    }

    pub kept_refused : (e : ElfError) → ChecksLast k.names index count (Err e)
        → ArrangesKept s k.removed.now (Err e)
    kept_refused e checks = record {
      answer = λ t. last_refused e checks t;
      early = last_early e checks;
      makes = tt;
      small = tt;
      unread = last_unread Arranged k.names index count e checks;
    }

-- ---- The file of what was arranged

-- an update writes it, or is refused
module _ (base : List ℕ) (q : Object) where
  abbrev some_source : KeptSource
  some_source = record { base = base; told = true; size = 0; holds = None; rest = [] }

  file_is : (r : Option ElfError) → refusal q ≡ r → file_of q ≡ answered r (image q)
  unfolding file_of
  file_is r refused = ap (λ (x : Option ElfError). answered x (image q)) refused

  planned_answer : (plan : RangedPlan) → AreRangesBy q base plan
      → FileAnswers base (Ok plan) (file_of q)
  planned_answer plan ranges = (
    image q,
    file_is None (ranges some_source refl).ready.passed,
    λ (e : KeptSource) same.
        ranges_make_image q (kept_with e plan) plan.plan plan.end (ranges e same),
  )

  refused_answer : (e : ElfError) → IsRefused q e → FileAnswers base (Err e) (file_of q)
  refused_answer e (inl both) =
      subst (λ (d : ElfError). FileAnswers base (Err d) (file_of q)) (sym both.0) tt
  refused_answer e (inr refused) =
      update_answers base e q (file_of q) refused (file_is (Some e) refused)

  pub copied_file : (phdrs : List Phdr) (x : Arranged) (r : Result RangedPlan ElfError)
      → PlansCopied phdrs x.listed x.ranges x.held x.tail r → IsRangedBy phdrs base q x
      → FileAnswers base r (file_of q)
  copied_file phdrs x (Ok plan) plans is = planned_answer plan (plans.ok base q is)
  copied_file phdrs x (Err e) plans is = refused_answer e (plans.err base q is)

-- of a stated object
pub arranged_planned : (o : Object) (x : Arranged) (stated : Result Rebuilt ElfError)
    (r : Result RangedPlan ElfError) → ArrangedAnswers o (Ok x) stated
    → PlansCopied o.phdrs x.listed x.ranges x.held x.tail r
    → FileAnswers o.base r (file_made stated)
arranged_planned o x stated r known plans =
    subst (λ (f : Result (List ℕ) ElfError). FileAnswers o.base r f)
    (sym (ap file_made known.1))
    (copied_file o.base known.0.object o.phdrs x r plans known.2)
