-- Refusals of steps in a row.
use Rattle.std.proofs.Common.{◌≡◌, ℕ, ◌+◌, ◌<◌, ◌≤◌, List, [], ◌∷◌, ◌++◌, length, map, take, drop, get_or, take_all, Option, Some, None, Ok, Err, refl, sym, ap, ◌∙◌, subst}
use Rattle.std.specs.Prelude.{IfSome}
use Rattle.std.specs.Option.{option_or}
use Rattle.std.proofs.lemmas.List.{take-append-drop, drop_more, map-append, map_more}
use Rattle.elf_types.specs.declared.errors.ElfError.{ElfError}
use Rattle.elf_types.specs.declared.errors.ElfError.TheVariants.{Memory, Read, Write}
use Rattle.elf_types.specs.Answers.{first_refusal, answered, IsRefusal}
use Rattle.rebuild_model.specs.elf_object.Words.{Edits}
use Rattle.rebuild_model.proofs.elf_object.AnswerLaws.{answered_value, answered_refusal}
use Rattle.rebuild_model.proofs.elf_object.StepLaws.{first_refusal-append, first_refusal-more}
use Rattle.rebuild_making.specs.Refused.{RefusedBy, UnreadBy}

-- ---- Two steps

-- one test alone
pub alone : (r : Option ElfError) → first_refusal (r ∷ []) ≡ r
alone None = refl
alone (Some e) = refl

pub passes_first : (r : Option ElfError) (rest : List (Option ElfError)) → r ≡ None
    → first_refusal (r ∷ rest) ≡ first_refusal rest
passes_first r rest is = ap (λ (x : Option ElfError). first_refusal (x ∷ rest)) is

-- the first step is refused
pub first_step_refused : (r : Option ElfError) (rest : List (Option ElfError)) (e : ElfError)
    → RefusedBy r e → RefusedBy (first_refusal (r ∷ rest)) e
first_step_refused r rest Memory by = tt
first_step_refused r rest Read by = by
first_step_refused r rest Write by = by
first_step_refused r rest e by = ap (λ (x : Option ElfError). first_refusal (x ∷ rest)) by

-- the first one is not, and a later one is
pub refused_later : (r : Option ElfError) (rest : List (Option ElfError)) (e : ElfError)
    → r ≡ None → RefusedBy (first_refusal rest) e → RefusedBy (first_refusal (r ∷ rest)) e
refused_later r rest e none by =
    subst (λ (x : Option ElfError). RefusedBy x e) (sym (passes_first r rest none)) by

-- the same refusal, stated otherwise
pub refused_as : (r q : Option ElfError) (e : ElfError) → r ≡ q → RefusedBy r e → RefusedBy q e
refused_as r q e same by = subst (λ (x : Option ElfError). RefusedBy x e) same by

-- ---- One step

-- what a definition states is no want of memory and no fault
stated_by : (r : Option ElfError) (e : ElfError) → IfSome r IsRefusal → r ≡ Some e → IsRefusal e
stated_by r e are is = subst (λ (x : Option ElfError). IfSome x IsRefusal) is are

pub stated_refused : (r : Option ElfError) (e : ElfError) → IfSome r IsRefusal → r ≡ Some e
    → RefusedBy r e
stated_refused r Memory are is = tt
stated_refused r Read are is = stated_by r Read are is
stated_refused r Write are is = stated_by r Write are is
stated_refused r e are is = is

-- of an edit that reads nothing
pub edits_refused : {A S : Type 0} (r : Option ElfError) (v : A) (old new stepped : S)
    (e : ElfError) → IfSome r IsRefusal
    → Edits {A = A} (Err e) old new (answered r v) stepped → RefusedBy r e
edits_refused r v old new stepped Memory are came = tt
edits_refused r v old new stepped e are came =
    stated_refused r e are (answered_refusal r v e came.0)

-- of one that takes no memory
pub answer_refused : {A : Type 0} (r : Option ElfError) (v : A) (e : ElfError)
    → IfSome r IsRefusal → Err e ≡ answered r v → RefusedBy r e
answer_refused r v e are came =
    stated_refused r e are (answered_refusal r v e (sym came))

pub answer_passed : {A : Type 0} (r : Option ElfError) (v x : A) → Ok x ≡ answered r v → r ≡ None
answer_passed r v x came = (answered_value r v x (sym came)).0

-- where nothing is stated it is want of memory
pub only_memory : (r : Option ElfError) (e : ElfError) → r ≡ None → RefusedBy r e → e ≡ Memory
only_memory r Memory none by = refl
only_memory r Read none by = absurd by
only_memory r Write none by = absurd by
only_memory r e none by = let clash : ◌≡◌ {A = Option ElfError} None (Some e) = sym none ∙ by in cc

-- ---- Steps that read

pub unread_memory : (r : Option ElfError) (e : ElfError) → e ≡ Memory → UnreadBy r e
unread_memory r e is = subst (λ (x : ElfError). UnreadBy r x) (sym is) tt

pub unread_as : (r q : Option ElfError) (e : ElfError) → r ≡ q → UnreadBy r e → UnreadBy q e
unread_as r q e same by = subst (λ (x : Option ElfError). UnreadBy x e) same by

-- a later one is refused
unread_met : (before : List (Option ElfError)) (r : Option ElfError)
    (after : List (Option ElfError)) (e : ElfError) → first_refusal before ≡ None
    → UnreadBy r e → UnreadBy (first_refusal (before ++ r ∷ after)) e
unread_met before r after Memory none by = tt
unread_met before r after Read none by = tt
unread_met before r after Write none by = by
unread_met before r after e none by =
    first_refusal-append before (r ∷ after)
    ∙ ap (λ (x : Option ElfError). option_or x (first_refusal (r ∷ after))) none
    ∙ ap (λ (x : Option ElfError). first_refusal (x ∷ after)) by

-- one step for each number
module _ (f : ℕ → Option ElfError) (numbers : List ℕ) where
  split : (i : ℕ) → i < length numbers
      → map f numbers
      ≡ map f (take i numbers) ++ f (get_or numbers i 0) ∷ map f (drop (i + 1) numbers)
  split i there =
      ap (map f) (sym (take-append-drop i numbers))
      ∙ map-append f (take i numbers) (drop i numbers)
      ∙ ap (λ (l : List ℕ). map f (take i numbers) ++ map f l) (drop_more numbers i 0 there)

  pub unread_stop : (i : ℕ) (e : ElfError) → i < length numbers
      → first_refusal (map f (take i numbers)) ≡ None → UnreadBy (f (get_or numbers i 0)) e
      → UnreadBy (first_refusal (map f numbers)) e
  unread_stop i e there none by =
      subst (λ (l : List (Option ElfError)). UnreadBy (first_refusal l) e) (sym (split i there))
      (unread_met (map f (take i numbers)) (f (get_or numbers i 0)) (map f (drop (i + 1) numbers))
      e none by)

  pub passed_more : (i : ℕ) → i < length numbers → first_refusal (map f (take i numbers)) ≡ None
      → f (get_or numbers i 0) ≡ None → first_refusal (map f (take (i + 1) numbers)) ≡ None
  passed_more i there none here =
      ap first_refusal (map_more f numbers i 0 there)
      ∙ first_refusal-more (map f (take i numbers)) (f (get_or numbers i 0)) none
      ∙ ap (λ (x : Option ElfError). first_refusal (x ∷ [])) here

  pub passed_all : (i : ℕ) → length numbers ≤ i → first_refusal (map f (take i numbers)) ≡ None
      → first_refusal (map f numbers) ≡ None
  passed_all i all none =
      ap (λ (l : List ℕ). first_refusal (map f l)) (sym (take_all i numbers all)) ∙ none
