-- The whole step, one part after another.
use Rattle.std.proofs.Common.{◌≡◌, ◌⊎◌, inl, inr, ◌+◌, ℕ, Bool, true, false, List, [], length, map, None, Result, Ok, Err, refl, sym, ap, ◌∙◌, subst}
use Rattle.std.specs.Prelude.{IsTrue, IfSome, IfOk, IfErr, nat_le}
use Rattle.elf_types.specs.declared.constants.TheConstants.{PN_XNUM}
use Rattle.elf_types.specs.declared.errors.ElfError.{ElfError}
use Rattle.elf_types.specs.declared.errors.ElfError.TheVariants.{Memory, Read, TooMany}
use Rattle.elf_types.specs.Answers.{refused_if, first_refusal, answered, IsRefusal}
use Rattle.elf_outside.specs.declared.sources.Source.{Ghosts}
use Rattle.law_rebuild.specs.elf_object.Object.{Object, is_dirty}
use Rattle.law_rebuild.specs.elf_object.Calls.{newphdr_refusal}
use Rattle.law_rebuild.specs.elf_object.Due.{homes_due}
use Rattle.law_rebuild.specs.elf_object.Valid.{IsObject, IsTied}
use Rattle.rebuild_tables.specs.elf_descriptor.State.{State}
use Rattle.law_rebuild.specs.rebuild_model.Followed.{kept_from_1}
use Rattle.law_rebuild.specs.rebuild_model.Arranged.{Rebuilt}
use Rattle.law_rebuild.specs.rebuild_model.Rebuilt.{rebuilt}
use Rattle.law_rebuild.specs.Strip.Made.{FitsClass}
use Rattle.rebuild_tables.specs.rebuild_making.Refused.{RefusedBy, UnreadBy}
use Rattle.rebuild_tables.proofs.rebuild_making.RefusedLaws.{answer_refused}
use Rattle.rebuild_tables.specs.rebuild_select.Calls.{names_home}
use Rattle.rebuild_tables.specs.rebuild_select.Steps.{IsRemovable}
use Rattle.rebuild_tables.specs.rebuild_keep.declared.keepers.Keeper.{Keeper}
use Rattle.rebuild_tables.specs.rebuild_keep.Answers.{EarlyBy, early_refusal, sections_of}
use Rattle.rebuild_tables.specs.rebuild_keep.Keepers.{KeepsFor, header_by, refusal_by, index_by}
use Rattle.rebuild_tables.specs.rebuild_keep.Makes.{AsksFor}
use Rattle.rebuild_tables.proofs.rebuild_keep.AskLaws.{asks_as, asks_stop, asks_more, asks_nothing, asks_twice}
use Rattle.rebuild_tables.proofs.rebuild_keep.FillLaws.{segments_refused, sections_refused}
use Rattle.rebuild_tables.proofs.rebuild_keep.MakeLaws.{refused_quiet, quiet_rose}
use Rattle.rebuild_tables.proofs.rebuild_keep.RebuildLaws.{faults_early}
use Rattle.rebuild_plan.specs.declared.arranged.Arranged.{Arranged}
use Rattle.rebuild_plan.specs.declared.contents.Contents.{Contents}
use Rattle.rebuild_plan.specs.declared.plans.RangedPlan.{RangedPlan}
use Rattle.rebuild_plan.specs.Contents.{AreKeptSections, HasContents, IsReadBy, KeepsContents, sections_due}
use Rattle.rebuild_plan.specs.Ranges.{bytes_by}
use Rattle.rebuild_plan.specs.Plans.{PlansCopied, ArrangedAnswers, MakesRebuilt, ArrangesKept, ArrangesRebuilt, StreamsRebuilt, stream_due}
use Rattle.rebuild_plan.proofs.AnswerLaws.{arranged_as_file, arranged_planned, early_answer, early_stated}
use Rattle.rebuild_plan.proofs.DueLaws.{all_less, names_due_less}

-- ---- What is known of an object that was read

module _ {S : Type 0} (old mid : State S) (object : mid.o ≡ old.o) (told : mid.told ≡ old.told)
  where
    pub tied_stays : (IsTrue old.told → IsTied old.o) → IsTrue mid.told → IsTied mid.o
    tied_stays tied t =
        subst IsTied (sym object) (tied (subst (λ (b : Bool). IsTrue b) told t))

    pub fits_told : (IsTrue old.told → FitsClass old.o) → IsTrue mid.told → FitsClass mid.o
    fits_told fit t =
        subst FitsClass (sym object) (fit (subst (λ (b : Bool). IsTrue b) told t))

    pub segments_stay : (n : ℕ) → n ≡ length old.o.phdrs → newphdr_refusal n ≡ None
        → newphdr_refusal (length mid.o.phdrs) ≡ None
    segments_stay n at passed =
        ap (λ (o : Object). newphdr_refusal (length o.phdrs)) object
        ∙ ap newphdr_refusal (sym at) ∙ passed

    pub sections_stay : (k : Keeper) (numbers : List ℕ)
        → numbers ≡ kept_from_1 old.o k.removed.now
        → first_refusal (map (refusal_by k old.o) numbers) ≡ None
        → first_refusal (map (refusal_by k mid.o) (kept_from_1 mid.o k.removed.now)) ≡ None
    sections_stay k numbers at passed =
        ap (λ (o : Object). first_refusal (map (refusal_by k o) (kept_from_1 o k.removed.now)))
        object
        ∙ ap (λ (l : List ℕ). first_refusal (map (refusal_by k old.o) l)) (sym at)
        ∙ passed

    pub contents_stay : (k : Keeper) (x : Contents) → HasContents k old x → HasContents k mid x
    contents_stay k x has = record {
      few = has.few;
      same = has.same;
      none = λ none. has.none (sym (ap (λ (o : Object). length o.sections) object) ∙ none);
      some = λ some.
          subst (λ (o : Object). AreKeptSections mid.told o.base (header_by k o) (bytes_by k o)
          (kept_from_1 o k.removed.now) x) (sym object)
          (subst (λ (b : Bool). AreKeptSections b old.o.base (header_by k old.o) (bytes_by k old.o)
          (kept_from_1 old.o k.removed.now) x) (sym told)
          (has.some (λ none. some (ap (λ (o : Object). length o.sections) object ∙ none))));
    }

    pub read_stays : (k : Keeper) (x : Contents) → IsReadBy k old.o x → IsReadBy k mid.o x
    read_stays k x read = subst (λ (o : Object). IsReadBy k o x) (sym object) read

-- ---- By a keeper

pub segments_state : (n : ℕ) → IfSome (newphdr_refusal n) IsRefusal
segments_state n = by (nat_le PN_XNUM n)
  where
    by : (b : Bool) → IfSome (refused_if b TooMany) IsRefusal
    by true = tt
    by false = tt

module _ {S : Type 0} (g : Ghosts S) (k : Keeper) (old new : State S) (is : IsObject old.o)
    (clean : is_dirty old.o ≡ false) (removable : IsRemovable old.o k.removed.now)
    (keeps : KeepsFor old.told old.o k) (numbers : List ℕ) where
  abbrev Arranges : Result Arranged ElfError → State S → Type 0
  Arranges r next =
      ArrangesRebuilt g k.removed.now r (sections_due k old.o numbers) old next

  pub too_many : (e : ElfError) (n : ℕ) → n ≡ length old.o.phdrs
      → ◌≡◌ {A = Result (Unit {0}) ElfError} (Err e) (answered (newphdr_refusal n) tt)
      → Arranges (Err e) old
  too_many e n at came =
      let by : RefusedBy (newphdr_refusal n) e =
      answer_refused (newphdr_refusal n) (tt {0}) e (segments_state n) came in
      record {
        answer = λ t.
            early_answer g old k is clean removable keeps e
            (segments_refused old.o (refusal_by k old.o) (kept_from_1 old.o k.removed.now)
            (sections_of k old.o) (index_by k old.o) e
            (subst (λ (m : ℕ). RefusedBy (newphdr_refusal m) e) at by));
        early =
            early_stated g old k is clean removable keeps e
            (segments_refused old.o (refusal_by k old.o) (kept_from_1 old.o k.removed.now)
            (sections_of k old.o) (index_by k old.o) e
            (subst (λ (m : ℕ). RefusedBy (newphdr_refusal m) e) at by));
        makes = tt;
        small = tt;
        asks = asks_nothing g (Err e) old (sections_due k old.o numbers)
            (quiet_rose Arranged e (g.faults old.source) (g.faults old.source)
            (refused_quiet (newphdr_refusal n) e by));
      }

  pub sections_fail : (e : ElfError) → newphdr_refusal (length old.o.phdrs) ≡ None
      → numbers ≡ kept_from_1 old.o k.removed.now → KeepsContents g k numbers (Err e) old new
      → Arranges (Err e) new
  sections_fail e segments at keeping = record {
    answer = λ t.
        early_answer g old k is clean removable keeps e
        (sections_refused old.o (refusal_by k old.o) (kept_from_1 old.o k.removed.now)
        (sections_of k old.o) (index_by k old.o) segments e
        (subst (λ (l : List ℕ). UnreadBy (first_refusal (map (refusal_by k old.o) l)) e) at
        keeping.err));
    early =
        early_stated g old k is clean removable keeps e
        (sections_refused old.o (refusal_by k old.o) (kept_from_1 old.o k.removed.now)
        (sections_of k old.o) (index_by k old.o) segments e
        (subst (λ (l : List ℕ). UnreadBy (first_refusal (map (refusal_by k old.o) l)) e) at
        keeping.err));
    makes = tt;
    small = tt;
    asks = asks_stop g {T = Contents} {U = Arranged} e old new (sections_due k old.o numbers)
        keeping.asks;
  }

  pub sections_arranged : (x : Contents) (r : Result Arranged ElfError)
      → KeepsContents g k numbers (Ok x) old new → ArrangesKept new k.removed.now r
      → Arranges r new
  sections_arranged x r keeping arranges = record {
    answer = λ t.
        subst (λ (o : Object). ArrangedAnswers o r (rebuilt o k.removed.now))
        keeping.asks.object
        (arranges.answer (subst (λ (b : Bool). IsTrue b) (sym keeping.asks.told) t));
    early = subst (λ (o : Object). IfErr r (EarlyBy (early_refusal o k.removed.now)))
        keeping.asks.object arranges.early;
    makes = subst (λ (o : Object). IfOk r (MakesRebuilt o k.removed.now)) keeping.asks.object
        arranges.makes;
    small = arranges.small;
    asks = asks_as g (Ok x) r old new (sections_due k old.o numbers)
        (arranges.unread (g.faults old.source) (g.faults new.source)) keeping.asks;
  }

-- ---- The whole step

module _ {S : Type 0} (g : Ghosts S) (removed : List ℕ) (old mid : State S) where
  stops_early : (e : ElfError) → (e ≡ Memory) ⊎ (e ≡ Read)
      → AsksFor {T = Arranged} g (Err e) old mid (homes_due old.o [] (names_home old.o))
      → ArrangesRebuilt g removed (Err e) (stream_due old.o removed) old mid
  stops_early e only asks = record {
    answer = λ t. free e only (rebuilt old.o removed);
    early = faults_early e (early_refusal old.o removed) only;
    makes = tt;
    small = tt;
    asks = asks_more g (Err e) old mid (homes_due old.o [] (names_home old.o))
        (stream_due old.o removed) (names_due_less old.o removed) asks;
  }
    where
      free : (d : ElfError) → (d ≡ Memory) ⊎ (d ≡ Read) → (stated : Result Rebuilt ElfError)
          → ArrangedAnswers old.o (Err d) stated
      free d (inl want) stated =
          subst (λ (x : ElfError). ArrangedAnswers old.o (Err x) stated) (sym want) tt
      free d (inr read) stated =
          subst (λ (x : ElfError). ArrangedAnswers old.o (Err x) stated) (sym read) tt

  pub keeper_stops : (e : ElfError) → (e ≡ Memory) ⊎ (e ≡ Read)
      → AsksFor {T = Keeper} g (Err e) old mid (homes_due old.o [] (names_home old.o))
      → ArrangesRebuilt g removed (Err e) (stream_due old.o removed) old mid
  keeper_stops e only asks =
      stops_early e only (asks_stop g {T = Keeper} {U = Arranged} e old mid
      (homes_due old.o [] (names_home old.o)) asks)

  pub numbers_stop : (k : Keeper) (e : ElfError) → e ≡ Memory
      → AsksFor {T = Keeper} g (Ok k) old mid (homes_due old.o [] (names_home old.o))
      → ArrangesRebuilt g removed (Err e) (stream_due old.o removed) old mid
  numbers_stop k e want asks =
      subst (λ (d : ElfError).
      ArrangesRebuilt g removed (Err d) (stream_due old.o removed) old mid) (sym want)
      (stops_early Memory (inl refl)
      (asks_as g (Ok k) (Err Memory) old mid (homes_due old.o [] (names_home old.o)) tt asks))

  pub all_arranged : (new : State S) (k : Keeper) (numbers : List ℕ)
      (r : Result Arranged ElfError) → k.removed.now ≡ removed → IsObject old.o
      → is_dirty old.o ≡ false → KeepsFor old.told old.o k
      → numbers ≡ kept_from_1 mid.o k.removed.now
      → AsksFor {T = Keeper} g (Ok k) old mid (homes_due old.o [] (names_home old.o))
      → ArrangesRebuilt g k.removed.now r (sections_due k mid.o numbers) mid new
      → ArrangesRebuilt g removed r (stream_due old.o removed) old new
  all_arranged new k numbers r gone is clean keeps at first second =
      let object = first.object in
      let numbers_at : numbers ≡ kept_from_1 old.o k.removed.now =
      at ∙ ap (λ (o : Object). kept_from_1 o k.removed.now) object in
      let due : sections_due k mid.o numbers
      ≡ sections_due k old.o (kept_from_1 old.o k.removed.now) =
      ap (λ (o : Object). sections_due k o numbers) object
      ∙ ap (sections_due k old.o) numbers_at in
      subst (λ (l : List ℕ). ArrangesRebuilt g l r (stream_due old.o l) old new) gone (record {
        answer = λ t.
            subst (λ (o : Object). ArrangedAnswers o r (rebuilt o k.removed.now)) object
            (second.answer (subst (λ (b : Bool). IsTrue b) (sym first.told) t));
        early = subst (λ (o : Object). IfErr r (EarlyBy (early_refusal o k.removed.now))) object
            second.early;
        makes = subst (λ (o : Object). IfOk r (MakesRebuilt o k.removed.now)) object
            second.makes;
        small = second.small;
        asks = asks_more g r old new
            (homes_due old.o [] (names_home old.o)
            + sections_due k old.o (kept_from_1 old.o k.removed.now))
            (stream_due old.o k.removed.now) (all_less old.told old.o k keeps is clean)
            (asks_twice g (Ok k) r old mid new (homes_due old.o [] (names_home old.o))
            (sections_due k old.o (kept_from_1 old.o k.removed.now)) first
            (subst (λ (n : ℕ). AsksFor g r mid new n) due second.asks));
      })

-- ---- The plan of what was arranged

module _ {S : Type 0} (g : Ghosts S) (removed : List ℕ) (old new : State S) where
  pub rebuilt_planned : (x : Arranged) (r : Result RangedPlan ElfError)
      → ArrangesRebuilt g removed (Ok x) (stream_due old.o removed) old new
      → PlansCopied new.o.phdrs x.listed x.ranges x.held x.tail r
      → StreamsRebuilt g removed r (stream_due old.o removed) old new
  rebuilt_planned x r first plans = record {
    answer = λ t.
        arranged_planned old.o x (rebuilt old.o removed) r (first.answer t)
        (subst (λ (o : Object). PlansCopied o.phdrs x.listed x.ranges x.held x.tail r)
        first.asks.object plans);
    asks = asks_as g (Ok x) r old new (stream_due old.o removed)
        (plans.unread (g.faults old.source) (g.faults new.source)) first.asks;
  }

  pub rebuilt_unplanned : (e : ElfError)
      → ArrangesRebuilt g removed (Err e) (stream_due old.o removed) old new
      → StreamsRebuilt g removed (Err e) (stream_due old.o removed) old new
  rebuilt_unplanned e first = record {
    answer = λ t. arranged_as_file old.o e (rebuilt old.o removed) (first.answer t);
    asks = asks_stop g {T = Arranged} {U = RangedPlan} e old new (stream_due old.o removed)
        first.asks;
  }
