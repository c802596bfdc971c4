-- An item of data of any kind: whether there is one is known by the number of items.
use Rattle.std.proofs.Common.{◌≡◌, ℕ, Bool, List, length, Option, Some, None, Result, Ok, Err, refl, sym, ap, ◌∙◌, subst, inl, inr, arith}
use Rattle.std.specs.Prelude.{IsTrue, is_some, nat_lt, option_map, slice_get}
use Rattle.std.proofs.lemmas.Bool.{lt-ltb, le-ltb}
use Rattle.std.proofs.lemmas.Option.{slice_get_cases}
use Rattle.elf_types.specs.declared.errors.ElfError.{ElfError}
use Rattle.elf_types.specs.declared.errors.ElfError.TheVariants.{Memory, Read, NoEntry}
use Rattle.elf_types.specs.Answers.{err_of, ◌>>=◌}
use Rattle.elf_xlate.specs.declared.content.Items.{Items}
use Rattle.elf_xlate.specs.declared.content.Items.TheVariants as items
use Rattle.elf_xlate.specs.Translation.{items_count}
use Rattle.elf_outside.specs.declared.sources.Source.{Ghosts}
use Rattle.elf_outside.specs.Asks.{ReadRose}
use Rattle.symbol_lookup.specs.elf_object.Words.{Wants, Answers, AnswersRead, IsLike, AlikeItems, result_map}
use Rattle.symbol_lookup.specs.elf_object.Calls as calls
use Rattle.symbol_lookup.specs.elf_object.Calls.{data_answer}
use Rattle.symbol_lookup.specs.elf_object.Due.{unless_refused, when_piece_clean, homes_due}
use Rattle.symbol_lookup.specs.elf_object.Runs.{item, entry_of}
use Rattle.elf_update_plan.specs.elf_descriptor.State.{State}
use Rattle.elf_update_plan.specs.elf_descriptor.Reads.{Reads}
use Rattle.elf_calls_apply.specs.declared.answers.PieceItem.{PieceItem}
use Rattle.elf_calls_apply.specs.declared.answers.Answer.{Answer}
use Rattle.elf_calls_apply.specs.declared.answers.Answer.TheVariants as answer
use Rattle.elf_calls_apply.specs.Stated.{item_in}
use Rattle.elf_calls_apply.specs.Applies.{at_any_step, all_early}

get_there : {A : Type 0} (l : List A) (i : ℕ) → is_some (slice_get l i) ≡ nat_lt i (length l)
get_there {A} l i = elim (slice_get_cases l i).1 [
  | inl found ↦ ap (λ (o : Option A). is_some o) found.2 ∙ sym (lt-ltb i (length l) found.1)
  | inr past ↦ ap (λ (o : Option A). is_some o) past.1 ∙ sym (le-ltb i (length l) past.0)
]

form_there : {A : Type 0} (f : A → PieceItem) (l : List A) (i : ℕ) → is_some (option_map f (slice_get l i)) ≡ nat_lt i (length l)
form_there {A} f l i = same (slice_get l i) (nat_lt i (length l)) (get_there l i)
  where
    same : (there : Option A) (n : Bool) → is_some there ≡ n → is_some (option_map f there) ≡ n
    same None n is = is
    same (Some x) n is = is

-- there is an item exactly where the index is below their number
item_there : (l : Items) (i : ℕ) → is_some (item_in l i) ≡ nat_lt i (items_count l)
item_there items.Empty i = sym (le-ltb i 0 (omega arith))
item_there (items.Bytes l) i = form_there _ l i
item_there (items.Half l) i = form_there _ l i
item_there (items.Word l) i = form_there _ l i
item_there (items.Addr l) i = form_there _ l i
item_there (items.Sym l) i = form_there _ l i
item_there (items.Rel l) i = form_there _ l i
item_there (items.Rela l) i = form_there _ l i
item_there (items.Dyn l) i = form_there _ l i

-- the entry, or that there is none, among so many
entry_form : ℕ → ℕ → Option PieceItem → Result Answer ElfError
entry_form i n there = result_map answer.Item (elim there [ None ↦ Err (NoEntry i n) | Some x ↦ Ok x ])

entry_answers : (told : Bool) (i n m : ℕ) (there stated : Option PieceItem) → n ≡ m → is_some there ≡ is_some stated → (IsTrue told → entry_form i m stated ≡ entry_form i n there)
    → AnswersRead told at_any_step (all_early (entry_form i m stated)) (entry_form i n there) (entry_form i m stated)
unfolding entry_form
entry_answers told i n m (Some x) (Some y) count same is = (refl, is)
entry_answers told i n m (Some x) None count same is = cc
entry_answers told i n m None (Some y) count same is = cc
entry_answers told i n m None None count same is = inl (ap (λ (k : ℕ). Some (NoEntry i k)) (sym count), ap (λ (k : ℕ). Err (NoEntry i k)) (sym count))

pub item_answers : (told : Bool) (w : Wants) (i : ℕ) (l : Items) (stated : Result Items ElfError) → Answers told w (Ok l) stated → IsLike AlikeItems (Ok l) stated
    → AnswersRead told at_any_step (all_early (result_map answer.Item (stated >>= entry_of item_in i))) (result_map answer.Item (entry_of item_in i l)) (result_map answer.Item (stated >>= entry_of item_in i))
unfolding entry_form
item_answers told w i l (Ok y) came like =
    entry_answers told i (items_count l) (items_count y) (item_in l i) (item_in y i) like.1
    (item_there l i ∙ ap (λ (n : ℕ). nat_lt i n) like.1 ∙ sym (item_there y i))
    (λ t. ap (λ (r : Result Items ElfError). result_map answer.Item (r >>= entry_of item_in i)) (came.1 t))
item_answers told w i l (Err e) came like = absurd like

pub item_refused : (told : Bool) (w : Wants) (i : ℕ) (e : ElfError) (stated : Result Items ElfError) → Answers told w (Err e) stated
    → AnswersRead told at_any_step (all_early (result_map answer.Item (stated >>= entry_of item_in i))) (Err e) (result_map answer.Item (stated >>= entry_of item_in i))
item_refused told w i Memory stated came = (refl, refl)
item_refused told w i Read stated came = (refl, refl)
item_refused told w i e stated came =
    inl (ap (λ (s : Result Items ElfError). err_of (result_map answer.Item (s >>= entry_of item_in i))) came, ap (λ (s : Result Items ElfError). result_map answer.Item (s >>= entry_of item_in i)) came)

pub item_rose : (l : Items) (i a b : ℕ) → ReadRose (result_map answer.Item (entry_of item_in i l)) a b
item_rose l i a b = by_there (item_in l i)
  where
    by_there : (there : Option PieceItem) → ReadRose (result_map answer.Item (elim there [ None ↦ Err (NoEntry i (items_count l)) | Some x ↦ Ok x ])) a b
    by_there None = tt
    by_there (Some x) = tt

-- that there is no item is found after the home is read
reads_alike : (stated : Result Items ElfError) (i : ℕ) (sections : List ℕ) → unless_refused (err_of (stated >>= entry_of item_in i)) sections ≡ unless_refused (err_of stated) sections
reads_alike (Err e) i sections = refl
reads_alike (Ok l) i sections = by_there (item_in l i)
  where
    by_there : (there : Option PieceItem) → unless_refused (err_of {A = PieceItem} (elim there [ None ↦ Err (NoEntry i (items_count l)) | Some x ↦ Ok x ])) sections ≡ sections
    by_there None = refl
    by_there (Some x) = refl

pub item_reads : {S T : Type 0} (g : Ghosts S) (old new : State S) (s p i : ℕ) (r : Result T ElfError)
    → Reads g r old new ((calls.section_data s p).reads old.o) ((calls.section_data s p).reads old.o) (homes_due old.o old.loaded ((calls.section_data s p).reads old.o))
    → Reads g r old new ((item item_in s p i).reads old.o) ((item item_in s p i).reads old.o) (homes_due old.o old.loaded ((item item_in s p i).reads old.o))
item_reads g old new s p i r reads =
    subst (λ (l : List ℕ). Reads g r old new l l (homes_due old.o old.loaded l)) (sym (reads_alike (data_answer old.o s p) i (when_piece_clean old.o s p))) reads
