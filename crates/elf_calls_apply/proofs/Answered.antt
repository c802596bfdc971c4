-- An answer of the library in the form of a script's: as it is stated, in that form.
use Rattle.std.proofs.Common.{◌≡◌, inl, inr, Bool, None, ℕ, Result, Ok, Err, refl, sym, ap, ◌∙◌, subst}
use Rattle.elf_types.specs.declared.errors.ElfError.{ElfError}
use Rattle.elf_types.specs.declared.errors.ElfError.TheVariants.{Memory, Read}
use Rattle.elf_types.specs.declared.records.Kind.{Kind}
use Rattle.elf_types.specs.Answers.{err_of}
use Rattle.elf_xlate.specs.declared.content.Items.{Items}
use Rattle.elf_xlate.specs.Translation.{items_kind, items_count}
use Rattle.elf_outside.specs.Asks.{ReadRose}
use Rattle.symbol_lookup.specs.elf_object.Words.{Wants, Refusals, Answers, AnswersRead, IsLike, AlikeItems, result_map}
use Rattle.elf_calls_apply.specs.declared.answers.Answer.{Answer}
use Rattle.elf_calls_apply.specs.declared.answers.Answer.TheVariants as answer
use Rattle.elf_calls_apply.specs.Stated.{data_shown}
use Rattle.elf_calls_apply.specs.Applies.{at_any_step, all_early, at_any, IsCopyAnswer}

module _ {A B : Type 0} (f : A → B) where
  in_form : Result A ElfError → Result B ElfError
  in_form r = result_map f r

  -- an equation
  pub by_equal : (told : Bool) (r stated : Result A ElfError) → stated ≡ r → AnswersRead told at_any_step (all_early (result_map f stated)) (result_map f r) (result_map f stated)
  by_equal told (Ok x) stated same = (ap (λ (s : Result A ElfError). err_of (result_map f s)) same, λ t. ap (λ (s : Result A ElfError). result_map f s) same)
  by_equal told (Err Memory) stated same = (refl, refl)
  by_equal told (Err Read) stated same = (refl, refl)
  by_equal told (Err e) stated same = inl (ap (λ (s : Result A ElfError). err_of (result_map f s)) same, ap (λ (s : Result A ElfError). result_map f s) same)

  -- a call that reads
  pub by_answers : (told : Bool) (w : Wants) (r stated : Result A ElfError) → Answers told w r stated → AnswersRead told at_any_step (all_early (result_map f stated)) (result_map f r) (result_map f stated)
  by_answers told w (Ok x) (Ok y) came = (refl, λ t. ap (λ (s : Result A ElfError). result_map f s) (came.1 t))
  by_answers told w (Ok x) (Err e) came = cc
  by_answers told w (Err Memory) stated came = (refl, refl)
  by_answers told w (Err Read) stated came = (refl, refl)
  by_answers told w (Err e) stated came = inl (ap (λ (s : Result A ElfError). err_of (result_map f s)) came, ap (λ (s : Result A ElfError). result_map f s) came)

  -- a call that meets refusals in the bytes
  pub by_reads : (told : Bool) (w : Wants) (q : Refusals) (r stated : Result A ElfError) → AnswersRead told w q r stated → AnswersRead told at_any_step (at_any q) (result_map f r) (result_map f stated)
  by_reads told w q (Ok x) stated came = (came.0, λ t. ap (λ (s : Result A ElfError). result_map f s) (came.1 t))
  by_reads told w q (Err Memory) stated came = (refl, refl)
  by_reads told w q (Err Read) stated came = (refl, refl)
  by_reads told w q (Err e) stated (inl came) = inl (came.0, ap (λ (s : Result A ElfError). result_map f s) came.1)
  by_reads told w q (Err e) stated (inr came) = inr (came.0, came.1, λ t. ap (λ (s : Result A ElfError). result_map f s) (came.2 t))

-- the answer of a call that reads, in its own form
pub by_itself : {B : Type 0} (told : Bool) (w : Wants) (r stated : Result B ElfError) → Answers told w r stated → AnswersRead told at_any_step (all_early stated) r stated
by_itself told w (Ok x) (Ok y) came = (refl, came.1)
by_itself told w (Ok x) (Err e) came = cc
by_itself told w (Err Memory) stated came = (refl, refl)
by_itself told w (Err Read) stated came = (refl, refl)
by_itself {B} told w (Err e) stated came = inl (ap (λ (s : Result B ElfError). err_of s) came, came)

-- a refusal that is stated
pub by_refusal : {B : Type 0} (exact : Bool) (e : ElfError) (stated : Result B ElfError) → stated ≡ Err e → AnswersRead exact at_any_step (all_early stated) (Err e) stated
by_refusal exact Memory stated is = (refl, refl)
by_refusal exact Read stated is = (refl, refl)
by_refusal {B} exact e stated is = inl (ap (λ (s : Result B ElfError). err_of s) is, is)

-- a value that is stated
pub by_value : {B : Type 0} (exact : Bool) (x : B) (stated : Result B ElfError) → stated ≡ Ok x → AnswersRead exact at_any_step (all_early stated) (Ok x) stated
by_value {B} exact x stated is = (ap (λ (s : Result B ElfError). err_of s) is, λ t. is)

-- an error of a call that is refused as stated over every source
pub by_error : {A B : Type 0} (f : A → B) (exact told : Bool) (w : Wants) (e : ElfError) (stated : Result A ElfError) → Answers told w (Err e) stated → AnswersRead exact at_any_step (all_early (result_map f stated)) (Err e) (result_map f stated)
by_error f exact told w Memory stated came = (refl, refl)
by_error f exact told w Read stated came = (refl, refl)
by_error {A} {B} f exact told w e stated came = by_refusal {B = B} exact e (result_map f stated) (ap (λ (s : Result A ElfError). result_map f s) came)

-- what data is told of is known over every source
pub data_exact : (told : Bool) (w : Wants) (items : Items) (stated : Result Items ElfError) → Answers told w (Ok items) stated → IsLike AlikeItems (Ok items) stated → result_map data_shown stated ≡ Ok (data_shown items)
data_exact told w items (Ok y) came like =
    ap (λ (k : Kind). Ok (answer.Data k (items_count y))) (sym like.0) ∙ ap (λ (n : ℕ). Ok (answer.Data (items_kind items) n)) (sym like.1)
data_exact told w items (Err e) came like = absurd like

-- a copy, or want of memory
pub copied_answers : (exact : Bool) (q : Refusals) (copy : Answer) (stated : Result Answer ElfError) (r : Result Answer ElfError) → q.unread ≡ None → IsCopyAnswer copy r
    → AnswersRead exact at_any_step q (Ok copy) stated → AnswersRead exact at_any_step q r stated
copied_answers exact q copy stated (Ok a) first is came = subst (λ (b : Answer). AnswersRead exact at_any_step q (Ok b) stated) (sym is) came
copied_answers exact q copy stated (Err e) first is came = subst (λ (d : ElfError). AnswersRead exact at_any_step q (Err d) stated) (sym is) (first, refl)

pub copied_rose : (copy : Answer) (r : Result Answer ElfError) (a b : ℕ) → IsCopyAnswer copy r → ReadRose r a b
copied_rose copy (Ok x) a b is = tt
copied_rose copy (Err e) a b is = subst (λ (d : ElfError). ReadRose {T = Answer} (Err d) a b) (sym is) tt
