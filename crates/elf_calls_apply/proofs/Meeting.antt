-- Calls of the library that meet those of a script.
use Rattle.std.proofs.Common.{◌≡◌, ℕ, Bool, true, false, not, List, [], Option, Some, None, Result, Ok, Err, refl, sym, ap, ◌∙◌, subst}
use Rattle.std.specs.Prelude.{IfErr, ◌||◌}
use Rattle.elf_types.specs.declared.records.DataId.{DataId}
use Rattle.elf_types.specs.declared.errors.ElfError.{ElfError}
use Rattle.elf_types.specs.declared.errors.ElfError.TheVariants.{Memory}
use Rattle.elf_types.specs.Answers.{IsRefusal, ◌>>=◌}
use Rattle.elf_outside.specs.declared.sources.Source.{Ghosts}
use Rattle.elf_outside.specs.Asks.{ReadRose}
use Rattle.elf_outside.proofs.AskLemmas.{read_rose_refused}
use Rattle.symbol_lookup.specs.elf_object.Object.{Object}
use Rattle.symbol_lookup.specs.elf_object.Due.{is_loaded, homes_due}
use Rattle.symbol_lookup.specs.elf_object.Words.{Refusals, AnswersRead, Edits, EditsWith, Updates, result_map, handing_back}
use Rattle.symbol_lookup.specs.elf_object.Calls as calls
use Rattle.symbol_lookup.specs.elf_object.Calls.{due}
use Rattle.symbol_lookup.specs.elf_object.Runs.{mapped, looked, after_look}
use Rattle.elf_update_plan.specs.elf_descriptor.State.{State}
use Rattle.elf_update_plan.specs.elf_descriptor.Reads.{Reads}
use Rattle.elf_update_plan.specs.elf_descriptor.Edits.{StepsTo}
use Rattle.elf_calls_apply.specs.Stated.{done_shown, refusal_without_items, copying}
use Rattle.elf_calls_apply.specs.Applies.{Meets, Sets, LeavesObject, all_early, at_any_step, set_refusals}
use Rattle.elf_calls_apply.proofs.Answered.{by_equal, by_reads, by_refusal, by_value}
use Rattle.elf_calls_apply.proofs.ReadLaws.{nothing_read, value_read, error_read, form_read}

-- ---- Calls that leave the object

-- it is as it was
pub same_left : {B : Type 0} (told : Bool) (c : calls.Call B) (x : Result B ElfError) (old new : Object) → c.after old ≡ old → new ≡ old → LeavesObject told c None x old new
same_left told c (Ok y) old new stays same = same ∙ sym stays
same_left told c (Err e) old new stays same = same

module _ {S B : Type 0} (g : Ghosts S) (c : calls.Call B) (q : Refusals) (exact : Bool) (holding : List ℕ) (old new : State S) where
  -- a value, or another answer that is no failed read, after a call of the library that gave a value
  pub value_meets : {T : Type 0} (r : Result T ElfError) (x : T) (answer : Result B ElfError) → r ≡ Ok x → ReadRose answer (g.faults old.source) (g.faults new.source)
      → c.after old.o ≡ old.o → new.o ≡ old.o → Reads g r old new (c.reads old.o) holding (due c old.o old.loaded)
      → AnswersRead exact at_any_step q answer (c.answer old.o) → Meets g c q exact None holding answer old new
  value_meets r x answer is rose stays same reads answers = record {
    answers = answers;
    leaves = same_left old.told c answer old.o new.o stays same;
    reads = value_read g old new (c.reads old.o) holding r x answer (due c old.o old.loaded) is rose reads;
  }

  -- a call of the library that was refused
  pub error_meets : {T : Type 0} (changed : Option DataId) (r : Result T ElfError) (e : ElfError) → r ≡ Err e
      → new.o ≡ old.o → Reads g r old new (c.reads old.o) holding (due c old.o old.loaded)
      → AnswersRead exact at_any_step q (Err e) (c.answer old.o) → Meets g c q exact changed holding (Err e) old new
  error_meets changed r e is same reads answers = record {
    answers = answers;
    leaves = same;
    reads = error_read g old new (c.reads old.o) holding holding (λ i is. is) r e (due c old.o old.loaded) is reads;
  }

-- ---- Calls that read nothing

-- what a call leaves that reads nothing and loads nothing
module _ {S B : Type 0} (g : Ghosts S) (c : calls.Call B) (q : Refusals) (exact : Bool) (changed : Option DataId) (holding : List ℕ) (answer : Result B ElfError) (old : State S) (left : Object) (ready : Bool) where
  pub left_meets : ReadRose answer (g.faults old.source) (g.faults old.source) → LeavesObject old.told c changed answer old.o left
      → AnswersRead exact at_any_step q answer (c.answer old.o) → Meets g c q exact changed holding answer old (record old { o = left; ready = ready })
  left_meets rose leaves answers = record {
    answers = answers;
    leaves = leaves;
    reads = nothing_read g old (record old { o = left; ready = ready }) (c.reads old.o) holding answer (due c old.o old.loaded) rose refl refl (λ i. refl) (λ i. refl) refl;
  }

-- an answer that is no failed read
pub no_read : {T : Type 0} (r : Result T ElfError) (a b : ℕ) → IfErr r IsRefusal → ReadRose r a b
no_read (Ok x) a b settled = tt
no_read {T} (Err e) a b settled = read_rose_refused T e a b settled

settled_form : {A B : Type 0} (f : A → B) (r : Result A ElfError) → IfErr r IsRefusal → IfErr (result_map f r) IsRefusal
settled_form f (Ok x) settled = tt
settled_form f (Err e) settled = settled

-- a getter, by an equation
pub shown : {S A B : Type 0} (g : Ghosts S) (answer : Object → Result A ElfError) (f : A → B) (exact : Bool) (r : Result A ElfError) (s : State S)
    → answer s.o ≡ r → IfErr r IsRefusal
    → Meets g (mapped f (calls.getter answer)) (all_early (result_map f (answer s.o))) exact None [] (result_map f r) s s
shown g answer f exact r s same settled =
    left_meets g (mapped f (calls.getter answer)) (all_early (result_map f (answer s.o))) exact None [] (result_map f r) s s.o s.ready
    (no_read (result_map f r) (g.faults s.source) (g.faults s.source) (settled_form f r settled))
    (same_left s.told (mapped f (calls.getter answer)) (result_map f r) s.o s.o refl refl)
    (by_equal f exact r (answer s.o) same)

-- ---- Edits that read nothing

-- nothing is done for want of memory
pub wants_memory : {S B : Type 0} (g : Ghosts S) (c : calls.Call B) (stated : Result B ElfError) (exact : Bool) (changed : Option DataId) (holding : List ℕ) (s : State S) → Meets g c (all_early stated) exact changed holding (Err Memory) s s
wants_memory g c stated exact changed holding s = left_meets g c (all_early stated) exact changed holding (Err Memory) s s.o s.ready tt refl (refl, refl)

-- what came is the stated answer, and what is left the stated object or, where it is refused, the object as it was
pub edit_meets : {S A B : Type 0} (g : Ghosts S) (f : A → B) (c : calls.Call B) (exact : Bool) (holding : List ℕ) (r : Result A ElfError) (old new : State S) (after : Object) (ready : Bool)
    → c.answer old.o ≡ result_map f r → after ≡ c.after old.o → IfErr r IsRefusal → StepsTo r old new (record old { o = after; ready = ready })
    → Meets g c (all_early (c.answer old.o)) exact None holding (result_map f r) old new
edit_meets {S} g f c exact holding (Ok x) old new after ready stated stepped settled left =
    subst (λ (s : State S). Meets g c (all_early (c.answer old.o)) exact None holding (Ok (f x)) old s) (sym left)
    (left_meets g c (all_early (c.answer old.o)) exact None holding (Ok (f x)) old after ready tt stepped (by_value exact (f x) (c.answer old.o) stated))
edit_meets {S} {A} {B} g f c exact holding (Err e) old new after ready stated stepped settled left =
    subst (λ (s : State S). Meets g c (all_early (c.answer old.o)) exact None holding (Err e) old s) (sym left)
    (left_meets g c (all_early (c.answer old.o)) exact None holding (Err e) old old.o old.ready (read_rose_refused B e (g.faults old.source) (g.faults old.source) settled) refl (by_refusal exact e (c.answer old.o) stated))

-- a call with another form of its answer
pub stepped_meets : {S A B : Type 0} (g : Ghosts S) (f : A → B) (c : calls.Call A) (exact : Bool) (holding : List ℕ) (r : Result A ElfError) (old new : State S) (ready : Bool)
    → r ≡ c.answer old.o → IfErr r IsRefusal → StepsTo r old new (record old { o = c.after old.o; ready = ready })
    → Meets g (mapped f c) (all_early (result_map f (c.answer old.o))) exact None holding (result_map f r) old new
stepped_meets {S} {A} g f c exact holding r old new ready came settled left =
    edit_meets g f (mapped f c) exact holding r old new (c.after old.o) ready (ap (λ (s : Result A ElfError). result_map f s) (sym came)) refl settled left

-- a header as it is, and the update with the changed one
module _ {S A : Type 0} (g : Ghosts S) (look : Object → Result A ElfError) (put : A → calls.Call (Unit {0})) (exact : Bool) (holding : List ℕ) where
  pub looked_meets : (x : A) (r : Result (Unit {0}) ElfError) (old new : State S) (ready : Bool) → look old.o ≡ Ok x → r ≡ (put x).answer old.o → IfErr r IsRefusal
      → StepsTo r old new (record old { o = (put x).after old.o; ready = ready })
      → Meets g (mapped done_shown (looked (calls.getter look) put)) (all_early (result_map done_shown ((looked (calls.getter look) put).answer old.o))) exact None holding (result_map done_shown r) old new
  looked_meets x r old new ready is came settled left =
      edit_meets g done_shown (mapped done_shown (looked (calls.getter look) put)) exact holding r old new ((put x).after old.o) ready
      (ap (λ (s : Result A ElfError). result_map done_shown (s >>= λ y. (put y).answer old.o)) is ∙ ap (λ (s : Result (Unit {0}) ElfError). result_map done_shown s) (sym came))
      (sym (ap (λ (s : Result A ElfError). after_look s (λ y. (put y).after old.o) old.o) is)) settled left

  pub looked_refused : (e : ElfError) (s : State S) → look s.o ≡ Err e → IsRefusal e
      → Meets g (mapped done_shown (looked (calls.getter look) put)) (all_early (result_map done_shown ((looked (calls.getter look) put).answer s.o))) exact None holding (Err e) s s
  looked_refused e s is settled =
      edit_meets {A = Unit {0}} g done_shown (mapped done_shown (looked (calls.getter look) put)) exact holding (Err e) s s s.o s.ready
      (ap (λ (r : Result A ElfError). result_map done_shown (r >>= λ y. (put y).answer s.o)) is)
      (sym (ap (λ (r : Result A ElfError). after_look r (λ y. (put y).after s.o) s.o) is)) settled refl

-- one that may want memory
pub edits_meet : {S A B : Type 0} (g : Ghosts S) (f : A → B) (c : calls.Call A) (exact : Bool) (holding : List ℕ) (r : Result A ElfError) (old new left : State S)
    → Edits r old new (c.answer old.o) left → ((e : ElfError) → c.answer old.o ≡ Err e → IsRefusal e)
    → left.o ≡ c.after old.o → left.source ≡ old.source → left.told ≡ old.told → ((i : ℕ) → is_loaded left.loaded i ≡ is_loaded old.loaded i) → ((i : ℕ) → is_loaded left.held i ≡ is_loaded old.held i)
    → homes_due old.o left.loaded (c.reads old.o) ≡ homes_due old.o old.loaded (c.reads old.o)
    → Meets g (mapped f c) (all_early (result_map f (c.answer old.o))) exact None holding (result_map f r) old new
edits_meet {S} {A} {B} g f c exact holding (Ok x) old new left came refuses after source told loaded held same =
    subst (λ (s : State S). Meets g (mapped f c) (all_early (result_map f (c.answer old.o))) exact None holding (Ok (f x)) old s) (sym came.1) (record {
      answers = by_value exact (f x) (result_map f (c.answer old.o)) (ap (λ (s : Result A ElfError). result_map f s) came.0);
      leaves = after;
      reads = nothing_read g old left (c.reads old.o) holding (Ok (f x)) (due c old.o old.loaded) tt source told loaded held same;
    })
edits_meet {S} g f c exact holding (Err Memory) old new left came refuses after source told loaded held same =
    subst (λ (s : State S). Meets g (mapped f c) (all_early (result_map f (c.answer old.o))) exact None holding (Err Memory) old s) (sym came.1)
    (wants_memory g (mapped f c) (result_map f (c.answer old.o)) exact None holding old)
edits_meet {S} {A} {B} g f c exact holding (Err e) old new left came refuses after source told loaded held same =
    stepped_meets g f c exact holding (Err e) old new old.ready (sym came.0) (refuses e came.0) came.1

-- an update that reads nothing, and keeps what an update needs
pub updates_meet : {S A B : Type 0} (g : Ghosts S) (f : A → B) (c : calls.Call A) (exact : Bool)
    (holding : List ℕ) (r : Result A ElfError) (old new : State S)
    → Updates r old new (c.answer old.o) (record old { o = c.after old.o })
    → ((e : ElfError) → c.answer old.o ≡ Err e → IsRefusal e)
    → Meets g (mapped f c) (all_early (result_map f (c.answer old.o))) exact None holding
    (result_map f r) old new
updates_meet {S} {A} g f c exact holding (Ok x) old new came refuses =
    edit_meets g f (mapped f c) exact holding (Ok x) old new (c.after old.o) old.ready
    (ap (λ (s : Result A ElfError). result_map f s) came.0) refl tt came.1
updates_meet {S} g f c exact holding (Err Memory) old new came refuses =
    subst (λ (s : State S). Meets g (mapped f c) (all_early (result_map f (c.answer old.o))) exact
    None holding (Err Memory) old s) (sym came.1)
    (wants_memory g (mapped f c) (result_map f (c.answer old.o)) exact None holding old)
updates_meet g f c exact holding (Err e) old new came refuses =
    stepped_meets g f c exact holding (Err e) old new old.ready (sym came.0) (refuses e came.0)
    came.1

-- what was handed back is dropped
dropped_back : {A B E : Type 0} (items : B) (stated : Result A E) → refusal_without_items (handing_back items stated) ≡ stated
dropped_back items (Ok x) = refl
dropped_back items (Err e) = refl

pub came_back : {A B E : Type 0} (items : B) (stated : Result A E) (r : Result A (B × E)) (q : Result A E) → q ≡ refusal_without_items r → r ≡ handing_back items stated → q ≡ stated
came_back {A} {B} {E} items stated r q is came = is ∙ ap (λ (s : Result A (B × E)). refusal_without_items s) came ∙ dropped_back items stated

pub dropped_steps : {A B E S : Type 0} (r : Result A (B × E)) (old new stepped : S) → StepsTo r old new stepped → StepsTo (refusal_without_items r) old new stepped
dropped_steps (Ok x) old new stepped left = left
dropped_steps (Err e) old new stepped left = left

pub dropped_edits : {A C B S : Type 0} (f : A → C) (r : Result A (B × ElfError)) (q : Result A ElfError) (items : B) (old new : S) (stated : Result C ElfError) (stepped : S) → refusal_without_items r ≡ q
    → EditsWith (result_map f r) items old new stated stepped → Edits (result_map f q) old new stated stepped
dropped_edits {A} {C} f (Ok x) q items old new stated stepped is came = subst (λ (a : Result A ElfError). Edits (result_map f a) old new stated stepped) is came
dropped_edits {A} {C} f (Err e) q items old new stated stepped is came = subst (λ (a : Result A ElfError). Edits (result_map f a) old new stated stepped) is came.1

pub none_due : (o : Object) (a b : List Bool) → homes_due o a [] ≡ homes_due o b []
unfolding homes_due
none_due o a b = refl

-- a copy takes memory, and nothing else of the call changes
pub copying_meets : {S B : Type 0} (g : Ghosts S) (c : calls.Call B) (q : Refusals) (exact : Bool) (holding : List ℕ) (r : Result B ElfError) (old new : State S)
    → Meets g c q exact None holding r old new → Meets g (copying c) q exact None holding r old new
copying_meets g c q exact holding (Ok x) old new meets = record { answers = meets.answers; leaves = meets.leaves; reads = meets.reads }
copying_meets g c q exact holding (Err e) old new meets = record { answers = meets.answers; leaves = meets.leaves; reads = meets.reads }

-- ---- The edit of an item, in the form of its answer

done_answers : (keeps exact : Bool) (d : DataId) (i : ℕ) (r stated : Result (Unit {0}) ElfError) → AnswersRead exact at_any_step (set_refusals keeps d i stated) r stated
    → AnswersRead exact at_any_step (set_refusals keeps d i (result_map done_shown stated)) (result_map done_shown r) (result_map done_shown stated)
done_answers true exact d i r (Ok x) came = by_reads done_shown exact at_any_step (set_refusals {A = Unit {0}} true d i (Ok x)) r (Ok x) came
done_answers true exact d i r (Err e) came = by_reads done_shown exact at_any_step (set_refusals {A = Unit {0}} true d i (Err e)) r (Err e) came
done_answers false exact d i r (Ok x) came = by_reads done_shown exact at_any_step (set_refusals {A = Unit {0}} false d i (Ok x)) r (Ok x) came
done_answers false exact d i r (Err e) came = by_reads done_shown exact at_any_step (set_refusals {A = Unit {0}} false d i (Err e)) r (Err e) came

done_leaves : (told : Bool) (c : calls.Call (Unit {0})) (d : DataId) (r : Result (Unit {0}) ElfError) (old new : Object) → LeavesObject told c (Some d) r old new
    → LeavesObject told (mapped done_shown c) (Some d) (result_map done_shown r) old new
done_leaves told c d (Ok x) old new left = left
done_leaves told c d (Err e) old new left = left

pub done_meets : {S : Type 0} (g : Ghosts S) (c : calls.Call (Unit {0})) (keeps : Bool) (d : DataId) (i : ℕ) (r : Result (Unit {0}) ElfError) (old new : State S) → Sets g c keeps d i r old new
    → Meets g (mapped done_shown c) (set_refusals keeps d i ((mapped done_shown c).answer old.o)) (not keeps || old.told) (Some d) ((mapped done_shown c).reads old.o) (result_map done_shown r) old new
done_meets g c keeps d i r old new sets = record {
  answers = done_answers keeps (not keeps || old.told) d i r (c.answer old.o) sets.answers;
  leaves = done_leaves old.told c d r old.o new.o sets.leaves;
  reads = form_read g done_shown r old new (c.reads old.o) (c.reads old.o) (due c old.o old.loaded) sets.reads;
}
