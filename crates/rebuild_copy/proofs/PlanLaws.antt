-- What copy arranges without some sections, and the whole of it; and the plan of its file.
use Rattle.std.proofs.Common.{◌≡◌, ◌+◌, ◌≤◌, ℕ, Bool, false, List, [], Option, Result, Ok, Err, refl, sym, ap, ◌∙◌, subst, inl, arith}
use Rattle.std.specs.Prelude.{IsTrue, IfSome, IfOk, unwrap_or}
use Rattle.elf_types.specs.Answers.{◌>>=◌}
use Rattle.elf_types.specs.declared.errors.ElfError.{ElfError}
use Rattle.elf_types.specs.declared.errors.ElfError.TheVariants.{Memory, Read, Write}
use Rattle.elf_outside.specs.Asks.{ReadRose}
use Rattle.elf_outside.specs.declared.sources.Source.{Ghosts}
use Rattle.elf_object.specs.Object.{Object, is_dirty}
use Rattle.elf_object.specs.Due.{homes_due}
use Rattle.elf_object.specs.Valid.{IsObject}
use Rattle.elf_object.specs.Words.{Wants, Answers}
use Rattle.rebuild_edits.specs.elf_descriptor.State.{State}
use Rattle.rebuild_edits.specs.elf_descriptor.Reads.{Queries}
use Rattle.rebuild_model.specs.Arranged.{Rebuilt}
use Rattle.rebuild_model.specs.Files.{file_of}
use Rattle.rebuild_model.specs.Rebuilt.{rebuilt, renews_names}
use Rattle.rebuild_model.specs.Removed.{removed_by_name}
use Rattle.rebuild_model.specs.Copied.{Changes, CopyFault as StatedFault, or_strip, copied}
use Rattle.law_rebuild.specs.Strip.Made.{FitsClass}
use Rattle.rebuild_edits.specs.rebuild_making.Placing.{made_of}
use Rattle.rebuild_edits.specs.rebuild_select.Calls as calls
use Rattle.rebuild_edits.specs.rebuild_select.Steps.{IsRemovable}
use Rattle.rebuild_edits.proofs.edits.StepLaws.{refused_bind}
use Rattle.rebuild_object.specs.rebuild_keep.Answers.{rebuild_due}
use Rattle.rebuild_plan.proofs.rebuild_keep.AskLaws.{asks_reads, asks_as, asks_stop, asks_more, asks_twice}
use Rattle.rebuild_plan.proofs.rebuild_keep.NumberLaws.{zero_stays}
use Rattle.rebuild_plan.specs.declared.arranged.Arranged.{Arranged}
use Rattle.rebuild_plan.specs.declared.plans.RangedPlan.{RangedPlan}
use Rattle.rebuild_plan.specs.Plans.{PlansCopied, ArrangedAnswers, ArrangesRebuilt, FileAnswers, stream_due}
use Rattle.rebuild_plan.specs.Reading.{ranges_due}
use Rattle.rebuild_plan.proofs.AnswerLaws.{copied_file}
use Rattle.rebuild_plan.proofs.DueLaws.{stream_less}
use Rattle.rebuild_object.specs.Objects.{bases_of, object_due, object_from_arranged}
use Rattle.rebuild_object.specs.Fitting.{IsArrangementReady}
use Rattle.rebuild_object.proofs.AnswerLaws.{rebuilt_over, object_due_within}
use Rattle.rebuild_object.proofs.OverLaws.{from_over}
use Rattle.rebuild_changes.specs.declared.faults.CopyFault.{CopyFault}
use Rattle.rebuild_changes.specs.declared.faults.CopyFault.TheVariants as faults
use Rattle.rebuild_changes.specs.Stated.{stated_copy_fault, outer_result}
use Rattle.rebuild_copy.specs.Changing.{changed_placed, changed_anew, IsUsable}
use Rattle.rebuild_copy.specs.Rows.{origin, IsListedAs}
use Rattle.rebuild_copy.specs.Plans.{ArrangesAs, EndsArranged, CopyArranges, ArrangesReady, ArrangesWithout, ArrangesCopied, copy_stream_due, table_due, file_copied, CopyFileAnswers, StreamsCopied}
use Rattle.rebuild_copy.proofs.EndLaws.{ranged_is}
use Rattle.rebuild_copy.proofs.ListLaws.{listed_over}
use Rattle.rebuild_copy.proofs.MadeLaws.{made_over}
use Rattle.rebuild_copy.proofs.HeldLaws.{own_bases}
use Rattle.rebuild_copy.proofs.UsableLaws.{strip_given, rebuilt_usable}
use Rattle.rebuild_copy.proofs.OuterLaws.{removable_by_name, ok_values_same, outer_only, outer_given, outer_early}

-- ---- A stated object, by its ranges

arranges_copy : (o : Object) (tail : Option ℕ) (stated : Result Rebuilt StatedFault)
    (r : Result Arranged CopyFault) → ArrangesAs (origin o tail) stated r → CopyArranges o stated r
arranges_copy o tail stated (Ok x) arranged =
    let by_tail : Option ℕ → Result Rebuilt StatedFault = λ t. Ok (made_of arranged.0 t) in (
      arranged.0,
      arranged.1 ∙ ap by_tail (sym arranged.2.tail_is),
      ranged_is o tail arranged.0 x arranged.2,
      from_over o x ∙ made_over (origin o tail) arranged.0 x arranged.2,
    )
arranges_copy o tail stated (Err f) arranged = arranged

-- ---- With the removed sections known

module _ {S : Type 0} (g : Ghosts S) (c : Changes) (removed : List ℕ) (old mid : State S)
    (is : IsObject old.o) (clean : is_dirty old.o ≡ false)
    (fit : IsTrue old.told → FitsClass old.o) (removable : IsRemovable old.o removed) where
  stated_stop : (d : ElfError) (r : Result Rebuilt ElfError)
      → ArrangedAnswers old.o (Err d) r
      → IfSome (stated_copy_fault (faults.Strip d)) (λ f. (or_strip r
      >>= changed_anew c (renews_names old.o removed)) ≡ Err f)
  stated_stop Memory r answer = tt
  stated_stop Read r answer = tt
  stated_stop Write r answer = absurd answer
  stated_stop d r answer =
      ap (λ (q : Result Rebuilt ElfError). or_strip q
      >>= changed_anew c (renews_names old.o removed)) answer

  pub without_stop : (e : ElfError)
      → ArrangesRebuilt g removed (Err e) (stream_due old.o removed) old mid
      → ArrangesWithout g c removed (Err (faults.Strip e)) old mid
  without_stop e gathers =
      let less = stream_less old.o removed in
      record {
        answer = λ t. stated_stop e (rebuilt old.o removed) (gathers.answer t);
        ends = inl (inl gathers.early);
        small = tt;
        due = stream_due old.o removed;
        few = omega arith;
        some = less;
        less = tt;
        asks = asks_stop g {T = Arranged} {U = Unit {0}} e old mid (stream_due old.o removed)
            gathers.asks;
      }

  module _ (x : Arranged) (renewed : Bool) (r : Result Arranged CopyFault) (new : State S)
      (renewed_is : renewed ≡ renews_names old.o removed)
      (gathers : ArrangesRebuilt g removed (Ok x) (stream_due old.o removed) old mid)
      (held : ArrangesReady g c renewed x r mid new) where
    abbrev p : Object
    p = object_from_arranged old.o x

    same : mid.o ≡ old.o
    same = gathers.asks.object

    stated : IsTrue old.told → rebuilt old.o removed ≡ Ok (made_of p x.tail)
    stated t =
        rebuilt_over old.o removed x (gathers.answer t) gathers.makes is clean (fit t)
        (zero_stays old.o removed removable)

    listed : IsArrangementReady mid.o x → IsListedAs (origin mid.o x.tail) p x
    listed ready =
        subst (λ (o : Object). IsListedAs (origin o x.tail) p x) (sym same)
        (subst (λ (q : Object). IsListedAs (origin old.o x.tail) q x) (sym (from_over old.o x))
        (listed_over old.o (bases_of old.o.base) x is (own_bases old.o is)
        (subst (λ (o : Object). IsArrangementReady o x) same ready)))

    usable : IsTrue old.told → IsUsable p renewed
    usable t =
        subst (λ (b : Bool). IsUsable p b) (sym renewed_is)
        (rebuilt_usable old.o removed (made_of p x.tail) removable (stated t))

    answer_told : IsTrue old.told → CopyArranges old.o
        (or_strip (rebuilt old.o removed) >>= changed_anew c (renews_names old.o removed)) r
    answer_told t =
        let told : IsTrue mid.told =
        subst (λ (b : Bool). IsTrue b) (sym gathers.asks.told) t in
        subst (λ (q : Result Rebuilt ElfError). CopyArranges old.o (or_strip q
        >>= changed_anew c (renews_names old.o removed)) r) (sym (stated t))
        (subst (λ (b : Bool). CopyArranges old.o (changed_placed c b x.tail p) r) renewed_is
        (subst (λ (o : Object). CopyArranges o (changed_placed c renewed x.tail p) r) same
        (arranges_copy mid.o x.tail (changed_placed c renewed x.tail p) r
        (held.told told p listed (usable t)))))

    less_all : (q : Result Arranged CopyFault) → IfOk q (λ y. y.tail ≡ x.tail)
        → IfOk q (λ y. held.due + ranges_due y.ranges ≤ ranges_due x.ranges)
        → IfOk q (λ y. stream_due old.o removed + held.due + object_due y
        ≤ rebuild_due old.o removed)
    less_all (Ok y) tail less =
        let within = gathers.makes.within in
        let made = object_due_within y in
        let at = ap (λ (t : Option ℕ). unwrap_or t 0) tail in
        omega (arith, within, made, at, less)
    less_all (Err f) tail less = tt

    pub without_arranged : ArrangesWithout g c removed r old new
    without_arranged = record {
      answer = answer_told;
      ends =
          subst (λ (b : Bool). EndsArranged old.o c b removed r) renewed_is
          (subst (λ (o : Object). EndsArranged o c renewed removed r) same (held.ends removed));
      small = held.small;
      due = stream_due old.o removed + held.due;
      few =
          let few = held.few in
          let table = ap table_due same in
          omega (arith, few, table);
      some =
          let within = gathers.makes.within in
          let some = held.some in
          omega (arith, within, some);
      less = less_all r held.tail_is held.less;
      asks = asks_twice g {T = Arranged} {U = Unit {0}} (Ok x) (outer_result r) old mid new
          (stream_due old.o removed) held.due gathers.asks held.asks;
    }

-- ---- The whole, arranged

copied_is : (c : Changes) (o : Object)
    → (or_strip (rebuilt o (removed_by_name c.remove o))
    >>= changed_anew c (renews_names o (removed_by_name c.remove o)))
    ≡ copied c o
unfolding copied
copied_is c o = refl

module _ {S : Type 0} (g : Ghosts S) (c : Changes) (old mid : State S) where
  less_named : (names : ℕ) (due all : ℕ) (q : Result Arranged CopyFault)
      → IfOk q (λ x. due + object_due x ≤ all)
      → IfOk q (λ x. names + due + object_due x ≤ names + all)
  less_named names due all (Ok x) less = omega (arith, less)
  less_named names due all (Err f) less = tt

  pub copied_arranged : (removed : List ℕ) (r : Result Arranged CopyFault) (new : State S)
      → (IsTrue old.told
      → ◌≡◌ {A = Result (List ℕ) ElfError} (Ok (removed_by_name c.remove old.o)) (Ok removed))
      → IsRemovable old.o removed
      → Queries {T = List ℕ} g (calls.removal_by_name c.remove) [] (Ok removed) old mid
      → ArrangesWithout g c removed r mid new → ArrangesCopied g c r old new
  copied_arranged removed r new found removable queries without =
      let same = queries.object in
      let exact : IsTrue old.told → removed ≡ removed_by_name c.remove old.o =
      λ t. sym (ok_values_same (removed_by_name c.remove old.o) removed (found t)) in
      let names = homes_due old.o [] (calls.names_home old.o) in
      let stream = ap (λ (o : Object). stream_due o removed + table_due o) same in
      let whole = ap (λ (o : Object). rebuild_due o removed) same in
      record {
        answer = λ t.
            subst (λ (q : Result Rebuilt StatedFault). CopyArranges old.o q r)
            (copied_is c old.o)
            (subst (λ (l : List ℕ). CopyArranges old.o
            (or_strip (rebuilt old.o l) >>= changed_anew c (renews_names old.o l)) r) (exact t)
            (subst (λ (o : Object). CopyArranges o
            (or_strip (rebuilt o removed) >>= changed_anew c (renews_names o removed)) r) same
            (without.answer (subst (λ (b : Bool). IsTrue b) (sym queries.reads.told) t))));
        removed = removed;
        removable = removable;
        exact = exact;
        ends =
            subst (λ (o : Object). EndsArranged o c (renews_names o removed) removed r) same
            without.ends;
        small = without.small;
        due = names + without.due;
        few = let few = without.few in omega (arith, few, stream);
        some = let some = without.some in omega (arith, some, whole);
        less = less_named names without.due (rebuild_due old.o removed) r
            (subst (λ (n : ℕ). IfOk r (λ x. without.due + object_due x ≤ n)) whole without.less);
        asks =
            asks_twice g {T = List ℕ} {U = Unit {0}} (Ok removed) (outer_result r) old mid new
            names without.due
            (asks_reads g (Ok removed) old mid (calls.names_home old.o) [] same queries.reads)
            without.asks;
      }

  pub copied_unarranged : (e : ElfError) (w : Wants)
      → Answers old.told w (Err e) (Ok (removed_by_name c.remove old.o))
      → Queries {T = List ℕ} g (calls.removal_by_name c.remove) [] (Err e) old mid
      → ArrangesCopied g c (Err (faults.Strip e)) old mid
  copied_unarranged e w found queries =
      let removed = removed_by_name c.remove old.o in
      let only = outer_only e old.told w removed found in
      record {
        answer = λ t. outer_given e only (copied c old.o);
        removed = removed;
        removable = removable_by_name c.remove old.o;
        exact = λ t. refl;
        ends = inl (inl (outer_early e only old.o removed));
        small = tt;
        due = homes_due old.o [] (calls.names_home old.o);
        few = omega arith;
        some = omega arith;
        less = tt;
        asks =
            asks_stop g {T = List ℕ} {U = Unit {0}} e old mid
            (homes_due old.o [] (calls.names_home old.o))
            (asks_reads g {T = List ℕ} (Err e) old mid (calls.names_home old.o) []
            queries.object queries.reads);
      }

-- ---- The whole, planned

-- a refusal of a file is a fault
file_fault : (base : List ℕ) (e : ElfError) (stated : Result (List ℕ) ElfError)
    → FileAnswers base (Err e) stated
    → IfSome (stated_copy_fault (faults.Strip e)) (λ d. or_strip stated ≡ Err d)
file_fault base Memory stated is = tt
file_fault base Read stated is = tt
file_fault base Write stated is = absurd is
file_fault base e stated is = strip_given e stated is

-- a plan of a file is one of copy
abbrev pub plan_fault : Result RangedPlan ElfError → Result RangedPlan CopyFault
plan_fault (Ok plan) = Ok plan
plan_fault (Err e) = Err (faults.Strip e)

file_answers : (base : List ℕ) (r : Result RangedPlan ElfError)
    (stated : Result (List ℕ) ElfError) → FileAnswers base r stated
    → CopyFileAnswers base (plan_fault r) (or_strip stated)
file_answers base (Ok plan) stated is =
    (is.0, ap (λ (q : Result (List ℕ) ElfError). or_strip q) is.1, is.2)
file_answers base (Err e) stated is = file_fault base e stated is

plan_unread : (r : Result RangedPlan ElfError) → ((a b : ℕ) → ReadRose r a b)
    → (a b : ℕ) → ReadRose (outer_result (plan_fault r)) a b
plan_unread (Ok plan) never a b = tt
plan_unread (Err e) never a b = never a b

module _ {S : Type 0} (g : Ghosts S) (c : Changes) (old mid : State S) where
  pub plan_answers : (x : Arranged) (r : Result RangedPlan ElfError)
      → ArrangesCopied g c (Ok x) old mid
      → PlansCopied mid.o.phdrs x.listed x.ranges x.held x.tail r
      → StreamsCopied g c (plan_fault r) old mid
  plan_answers x r arranged plans = record {
    answer = λ t.
        let known = arranged.answer t in
        let plans_old = subst (λ (o : Object).
        PlansCopied o.phdrs x.listed x.ranges x.held x.tail r) arranged.asks.object plans in
        subst (λ (s : Result Rebuilt StatedFault).
        CopyFileAnswers old.o.base (plan_fault r) (file_copied s)) (sym known.1)
        (file_answers old.o.base r (file_of known.0)
        (copied_file old.o.base known.0 old.o.phdrs x r plans_old known.2));
    removed = arranged.removed;
    removable = arranged.removable;
    exact = arranged.exact;
    asks =
        asks_more g (outer_result (plan_fault r)) old mid arranged.due
        (copy_stream_due old.o arranged.removed) arranged.few
        (asks_as g (Ok (tt {0})) (outer_result (plan_fault r)) old mid arranged.due
        (plan_unread r plans.unread (g.faults old.source) (g.faults mid.source))
        arranged.asks);
  }

  pub plan_ends : (f : CopyFault) → ArrangesCopied g c (Err f) old mid
      → StreamsCopied g c (Err f) old mid
  plan_ends f arranged = record {
    answer = λ t.
        refused_bind (copied c old.o) (λ (m : Rebuilt). or_strip (file_of m.object))
        (stated_copy_fault f) (arranged.answer t);
    removed = arranged.removed;
    removable = arranged.removable;
    exact = arranged.exact;
    asks =
        asks_more g (outer_result {T = RangedPlan} (Err f)) old mid arranged.due
        (copy_stream_due old.o arranged.removed) arranged.few arranged.asks;
  }
