-- An object that is created over the base of another one.
use Rattle.std.proofs.Common.{◌≡◌, ℕ, ◌≤◌, Bool, true, List, [], length, take, Option, Some, None, Result, Ok, Err, refl, sym, ap, ◌∙◌, subst, arith}
use Rattle.std.specs.Prelude.{IsTrue}
use Rattle.std.proofs.lemmas.List.{length-take-le}
use Rattle.elf_types.specs.declared.records.Class.{Class}
use Rattle.elf_types.specs.declared.records.Order.{Order}
use Rattle.elf_types.specs.declared.records.Ehdr.{Ehdr}
use Rattle.elf_types.specs.declared.records.Part.TheVariants as part
use Rattle.elf_types.specs.declared.records.TheConstants.{LAYOUT}
use Rattle.elf_types.specs.declared.errors.ElfError.{ElfError}
use Rattle.elf_types.specs.Answers.{answered}
use Rattle.rebuild_model.specs.elf_outside.declared.sources.Source.{Ghosts}
use Rattle.rebuild_model.specs.elf_outside.Asks.{Asks}
use Rattle.rebuild_model.proofs.elf_outside.AskLemmas.{asks_then, read_rose_on}
use Rattle.rebuild_model.specs.elf_object.Object.{Object, header_of}
use Rattle.rebuild_model.specs.elf_object.Open.{created_over}
use Rattle.rebuild_model.specs.elf_object.Answers.{part_refusal}
use Rattle.rebuild_model.specs.elf_object.Steps.{with_layout, with_flags}
use Rattle.rebuild_model.specs.elf_object.Calls.{flag_refusal}
use Rattle.rebuild_model.specs.elf_object.Calls as calls
use Rattle.elf_update_plan.specs.elf_descriptor.State.{State}
use Rattle.elf_update_plan.specs.elf_descriptor.Created.{IsCreated}
use Rattle.elf_update_plan.specs.elf_descriptor.Edits.{flagged}
use Rattle.rebuild_model.specs.Arranged.{over_base}
use Rattle.elf_update_plan.proofs.RowLaws.{ok_is}
use Rattle.rebuild_making.specs.Based.{IsMade, IsMadeOver, created_with_layout}

-- ---- The layout

layout_flag : (o : Object) → with_flags o part.Object true LAYOUT ≡ with_layout o true
unfolding with_flags
layout_flag o = refl

pub layout_set : {S : Type 0} (old new : State S)
    → new ≡ flagged (calls.flag part.Object true LAYOUT) old
    → new ≡ record old { o = with_layout old.o true }
layout_set old new is = is ∙ ap (λ (q : Object). record old { o = q }) (layout_flag old.o)

passes_flag : (o : Object) → flag_refusal o part.Object true LAYOUT ≡ None
unfolding flag_refusal part_refusal
passes_flag o = refl

pub layout_allowed : (o : Object) (n : ℕ) (e : ElfError)
    → ◌≡◌ {A = Result ℕ ElfError} (Err e)
    (answered (flag_refusal o part.Object true LAYOUT) n) → ⊥
layout_allowed o n e came =
    let clash : ◌≡◌ {A = Result ℕ ElfError} (Err e) (Ok n) =
    came ∙ ap (λ (r : Option ElfError). answered r n) (passes_flag o) in
    cc

-- ---- What is created

pub laid_out_made : {S : Type 0} (class : Class) (order : Order) (base : List ℕ)
    (mid new : State S) → IsCreated class order base mid
    → new ≡ record mid { o = with_layout mid.o true } → IsMade (created_with_layout class order base) new
laid_out_made {S} class order base mid new made is = record {
  object = ap (λ (s : State S). s.o) is ∙ ap (λ (q : Object). with_layout q true) made.object;
  told = ap (λ (s : State S). s.told) is ∙ made.told;
  loaded = ap (λ (s : State S). s.loaded) is ∙ made.loaded;
  held = ap (λ (s : State S). s.held) is ∙ made.held;
  room = ap (λ (s : State S). s.room) is ∙ made.room;
  ready = ap (λ (s : State S). s.ready) is ∙ made.ready;
}

-- the class and the order of an object, as its header is told
module _ (o : Object) (h : Ehdr)
    (is : ◌≡◌ {A = Result Ehdr ElfError} (Ok h) (Ok (header_of o))) where
  class_told : h.class ≡ o.header.class
  unfolding header_of
  class_told = ap (λ (x : Ehdr). x.class) (ok_is h (header_of o) is)

  order_told : h.order ≡ o.header.order
  unfolding header_of
  order_told = ap (λ (x : Ehdr). x.order) (ok_is h (header_of o) is)

  -- over another base than the stated one
  over_others : (n : ℕ) (base : List ℕ)
      → created_with_layout h.class h.order base ≡ record (over_base o (Some n)) { base = base }
  unfolding over_base created_over
  over_others n base =
      ap (λ (c : Class). created_with_layout c h.order base) class_told
      ∙ ap (λ (x : Order). created_with_layout o.header.class x base) order_told

  over_stated : (n : ℕ)
      → created_with_layout o.header.class o.header.order (take n o.base) ≡ over_base o (Some n)
  unfolding over_base
  over_stated n = refl

  base_stated : (n : ℕ) → (over_base o (Some n)).base ≡ take n o.base
  unfolding over_base created_over
  base_stated n = refl

  pub made_over : {S : Type 0} (told : Bool) (n : ℕ) (base : List ℕ) (made : State S)
      → n ≤ length o.base → length base ≡ n → (IsTrue told → base ≡ take n o.base)
      → IsMade (created_with_layout h.class h.order base) made → IsMadeOver told o (Some n) made
  made_over {S} told n base made within long exact is_made = record {
    base = base;
    long = long ∙ sym (ap (λ (l : List ℕ). length l) (base_stated n)
        ∙ length-take-le n o.base within);
    made_is = subst (λ (q : Object). IsMade q made) (over_others n base) is_made;
    exact = λ t. is_made.object
        ∙ ap (λ (c : Class). created_with_layout c h.order base) class_told
        ∙ ap (λ (x : Order). created_with_layout o.header.class x base) order_told
        ∙ ap (λ (b : List ℕ). created_with_layout o.header.class o.header.order b) (exact t)
        ∙ over_stated n;
  }

  created_stated : created_over h.class h.order [] ≡ over_base o None
  unfolding over_base
  created_stated =
      ap (λ (c : Class). created_over c h.order []) class_told
      ∙ ap (λ (x : Order). created_over o.header.class x []) order_told

  none_stated : (over_base o None).base ≡ []
  unfolding over_base created_over
  none_stated = refl

  none_over : ◌≡◌ {A = Object} (over_base o None) (record (over_base o None) { base = [] })
  unfolding over_base created_over
  none_over = refl

  pub made_over_none : {S : Type 0} (told : Bool) (made : State S)
      → IsCreated h.class h.order [] made → IsMadeOver told o None made
  made_over_none {S} told made is_made = record {
    base = [];
    long = sym (ap (λ (l : List ℕ). length l) none_stated);
    made_is = record {
      object = is_made.object ∙ created_stated ∙ none_over;
      told = is_made.told;
      loaded = is_made.loaded;
      held = is_made.held;
      room = is_made.room;
      ready = is_made.ready;
    };
    exact = λ t. is_made.object ∙ created_stated;
  }

-- ---- What is asked

pub asks_on : {S T U : Type 0} (g : Ghosts S) (e : ElfError) (s t : S) (n : ℕ)
    → Asks {T = T} g (Err e) s t n → Asks {T = U} g (Err e) s t n
asks_on {S} {T} {U} g e s t n a =
    let r : Result T ElfError = Err e in
    let q : Result U ElfError = Err e in
    asks_then g r q s t n a (read_rose_on T U e (g.faults s) (g.faults t) a.read)

pub asks_nothing : {S T : Type 0} (g : Ghosts S) (x : T) (s : S) → Asks g (Ok x) s s 0
asks_nothing g x s = record {
  leaves = record { same_len = refl; same_bytes = refl; same_rest = refl };
  later = omega arith;
  read = tt;
  taken = record { later = omega arith; no_more = omega arith };
}
