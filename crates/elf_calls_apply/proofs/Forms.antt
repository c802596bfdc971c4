-- What an answer is over every source.
use Rattle.std.proofs.Common.{◌≡◌, ℕ, ◌<◌, Bool, true, false, List, length, Option, Some, None, Result, Ok, Err, refl, sym, ◌∙◌, subst}
use Rattle.std.specs.Prelude.{IfOk, IfSome, ◌==◌, is_none, option_map, slice_get}
use Rattle.std.proofs.lemmas.Bool.{eqb-true}
use Rattle.elf_types.specs.declared.records.Kind.{Kind}
use Rattle.elf_types.specs.declared.records.Kind.TheVariants as kinds
use Rattle.elf_types.specs.declared.errors.ElfError.{ElfError}
use Rattle.elf_types.specs.declared.errors.ElfError.TheVariants.{NoEntry}
use Rattle.elf_types.specs.Answers.{answered}
use Rattle.elf_xlate.specs.declared.content.Items.{Items}
use Rattle.elf_xlate.specs.declared.content.Items.TheVariants as items
use Rattle.elf_xlate.specs.Translation.{items_kind, items_count}
use Rattle.symbol_lookup.specs.elf_object.Object.{Object, section_at}
use Rattle.symbol_lookup.specs.elf_object.Answers.{items_at, raw_refusal, data_refusal}
use Rattle.symbol_lookup.specs.elf_object.Words.{Wants, Refusals, AnswersRead, IsLike, AlikeBytes, AlikeItems, result_map}
use Rattle.symbol_lookup.specs.elf_object.Calls.{raw_answer, data_answer}
use Rattle.symbol_lookup.specs.elf_object.Runs.{entry_of}
use Rattle.symbol_lookup.specs.gelf_view.Notes.{IsNoteWithin}
use Rattle.symbol_lookup.specs.gelf_view.declared.notes.NoteAt.{NoteAt}
use Rattle.elf_outside.specs.declared.sources.Source.{Ghosts}
use Rattle.elf_update_plan.specs.elf_descriptor.State.{State}
use Rattle.elf_calls_script.specs.declared.calls.Call.{Call}
use Rattle.elf_calls_script.specs.declared.calls.Call.TheVariants as call
use Rattle.elf_calls_apply.specs.declared.answers.PieceItem.{PieceItem}
use Rattle.elf_calls_apply.specs.declared.answers.PieceItem.TheVariants as one
use Rattle.elf_calls_apply.specs.declared.answers.Answer.{Answer}
use Rattle.elf_calls_apply.specs.declared.answers.Answer.TheVariants as answer
use Rattle.elf_calls_apply.specs.Stated.{stated_call, item_in, note_shown, found_shown, done_shown}
use Rattle.elf_calls_apply.specs.Applies.{Meets, IsCopyAnswer, all_early, at_any_step, changed_piece, holding}
use Rattle.elf_calls_apply.specs.Forms.{IsRaw, IsItem, IsStr, IsNote, IsFound, IsDone, IsAnswerOf, item_kind}

-- a value that is answered as stated over every source is the stated one
stated_form : {A : Type 0} (w : Wants) (q : Refusals) (r stated : Result A ElfError) → AnswersRead true w q r stated → IfOk r (λ a. stated ≡ Ok a)
stated_form w q (Ok x) stated came = came.1 refl
stated_form w q (Err e) stated came = tt

-- a call that shows no bytes and sets no item
abbrev pub is_plain : Call → Bool
is_plain (call.Raw s) = false
is_plain (call.Item d i) = false
is_plain (call.Str s off) = false
is_plain (call.Note d at) = false
is_plain (call.Find s name) = false
is_plain (call.SetItem d i set) = false
is_plain _ = true

plain_form : (c : Call) (r : Result Answer ElfError) (o : Object) → is_plain c ≡ true → IfOk r (λ a. (stated_call c).answer o ≡ Ok a) → IfOk r (IsAnswerOf c o)
plain_form (call.Raw s) r o is form = cc
plain_form (call.Item d i) r o is form = cc
plain_form (call.Str s off) r o is form = cc
plain_form (call.Note d at) r o is form = cc
plain_form (call.Find s name) r o is form = cc
plain_form (call.SetItem d i set) r o is form = cc
plain_form c r o is form = form

pub form_met : {S : Type 0} (g : Ghosts S) (c d : Call) (r : Result Answer ElfError) (old new : State S) → d ≡ c → is_plain c ≡ true
    → Meets g (stated_call c) (all_early ((stated_call c).answer old.o)) true (changed_piece c old.o) (holding c old.o) r old new → IfOk r (IsAnswerOf d old.o)
form_met g c d r old new is plain meets =
    subst (λ (q : Call). IfOk r (IsAnswerOf q old.o)) (sym is)
    (plain_form c r old.o plain (stated_form at_any_step (all_early ((stated_call c).answer old.o)) r ((stated_call c).answer old.o) meets.answers))

-- what is like a value that is stated
like_value : {A : Type 0} (Like : A → A → Type 0) (x v : A) (refusal : Option ElfError) → IsLike Like (Ok x) (answered refusal v) → Like x v
like_value Like x v None like = like
like_value Like x v (Some e) like = absurd like

-- ---- Bytes

pub raw_form : (o : Object) (s : ℕ) (bytes : List ℕ) (r : Result Answer ElfError) → IsCopyAnswer (answer.Raw bytes) r → IsLike AlikeBytes (Ok bytes) (raw_answer o s) → IfOk r (IsRaw (length (section_at o s).raw))
unfolding raw_answer
raw_form o s bytes (Ok a) is like = subst (λ (b : Answer). IsRaw (length (section_at o s).raw) b) (sym is) (like_value AlikeBytes bytes (section_at o s).raw (raw_refusal o s) like)
raw_form o s bytes (Err e) is like = tt

pub str_form : (bytes : List ℕ) (r : Result Answer ElfError) → IsCopyAnswer (answer.Str bytes) r → IfOk r IsStr
str_form bytes (Ok a) is = subst IsStr (sym is) tt
str_form bytes (Err e) is = tt

-- ---- Items

mapped_kind : {A : Type 0} (f : A → PieceItem) (kind : Kind) (found : Option A) (x : PieceItem) → ((y : A) → item_kind (f y) ≡ kind) → option_map f found ≡ Some x → item_kind x ≡ kind
mapped_kind f kind None x of_kind is = cc
mapped_kind f kind (Some y) x of_kind is = let same : f y ≡ x = cc in subst (λ (z : PieceItem). item_kind z ≡ kind) same (of_kind y)

form_kind : (l : Items) (i : ℕ) (x : PieceItem) → item_in l i ≡ Some x → item_kind x ≡ items_kind l
form_kind items.Empty i x is = cc
form_kind (items.Bytes l) i x is = mapped_kind one.Byte kinds.Bytes (slice_get l i) x (λ y. refl) is
form_kind (items.Half l) i x is = mapped_kind one.Half kinds.Half (slice_get l i) x (λ y. refl) is
form_kind (items.Word l) i x is = mapped_kind one.Word kinds.Word (slice_get l i) x (λ y. refl) is
form_kind (items.Addr l) i x is = mapped_kind one.Addr kinds.Addr (slice_get l i) x (λ y. refl) is
form_kind (items.Sym l) i x is = mapped_kind one.Sym kinds.Sym (slice_get l i) x (λ y. refl) is
form_kind (items.Rel l) i x is = mapped_kind one.Rel kinds.Rel (slice_get l i) x (λ y. refl) is
form_kind (items.Rela l) i x is = mapped_kind one.Rela kinds.Rela (slice_get l i) x (λ y. refl) is
form_kind (items.Dyn l) i x is = mapped_kind one.Dyn kinds.Dyn (slice_get l i) x (λ y. refl) is

pub item_form : (o : Object) (s p i : ℕ) (l : Items) → IsLike AlikeItems (Ok l) (data_answer o s p)
    → IfOk (result_map answer.Item (entry_of item_in i l)) (IsItem (items_kind (items_at o s p)))
unfolding data_answer
item_form o s p i l like = by_there (item_in l i) (form_kind l i)
  where
    by_there : (there : Option PieceItem) → ((x : PieceItem) → there ≡ Some x → item_kind x ≡ items_kind l)
        → IfOk (result_map answer.Item (elim there [ None ↦ Err (NoEntry i (items_count l)) | Some x ↦ Ok x ])) (IsItem (items_kind (items_at o s p)))
    by_there None kind = tt
    by_there (Some x) kind = kind x refl ∙ (like_value AlikeItems l (items_at o s p) (data_refusal o s p) like).0

-- ---- Notes, symbols, and edits

pub note_form : (count at : ℕ) (found : Option NoteAt) → is_none found ≡ (at == count) → IfSome found (IsNoteWithin count at) → IsNote count at (note_shown found)
note_form count at None ended within = eqb-true at count (sym ended)
note_form count at (Some note) ended within = within

pub found_form : (count : ℕ) (found : Option ℕ) → IfSome found (λ i. i < count) → IsFound count (found_shown found)
found_form count None below = tt
found_form count (Some i) below = below

pub done_form : (r : Result (Unit {0}) ElfError) → IfOk (result_map done_shown r) IsDone
done_form (Ok x) = tt
done_form (Err e) = tt
