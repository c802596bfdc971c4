-- Calls one after the other, and calls that are made of several.
use Rattle.std.specs.Prelude.{ℕ, ◌+◌, ◌%◌, ◌^◌, false, ◌||◌, List, [], ◌∷◌, map, Option, Some, None, Result, Ok, Err}
use Rattle.elf_types.specs.declared.records.Kind.{Kind}
use Rattle.elf_types.specs.declared.records.Kind.TheVariants as kinds
use Rattle.elf_types.specs.declared.records.Ehdr.{Ehdr}
use Rattle.elf_types.specs.declared.records.Phdr.{Phdr}
use Rattle.elf_types.specs.declared.records.Shdr.{Shdr}
use Rattle.elf_types.specs.declared.records.Sym.{Sym}
use Rattle.elf_types.specs.declared.records.Rel.{Rel}
use Rattle.elf_types.specs.declared.records.Rela.{Rela}
use Rattle.elf_types.specs.declared.records.Dyn.{Dyn}
use Rattle.elf_types.specs.declared.errors.ElfError.{ElfError}
use Rattle.elf_types.specs.declared.errors.ElfError.TheVariants.{NoEntry}
use Rattle.elf_ident.specs.elf_xlate.declared.content.Items.{Items}
use Rattle.elf_ident.specs.elf_xlate.declared.content.Items.TheVariants as items
use Rattle.elf_ident.specs.elf_xlate.Translation.{items_count}
use Rattle.elf_object.specs.Object.{Object}
use Rattle.elf_object.specs.Answers.{items_at, kind_at, lend_refusal}
use Rattle.elf_types.specs.Answers.{answered, ◌>>=◌}
use Rattle.elf_object.specs.Steps.{with_own}
use Rattle.elf_object.specs.Due.{unless_refused, when_piece_clean, with_others}
use Rattle.elf_object.specs.Words.{result_map}
use Rattle.elf_object.specs.Calls.{Call, step, reader, unless_held, ehdr, phdr, shdr, update_ehdr, update_phdr, update_shdr, data_answer}

-- ---- Runs

-- the answers of calls in order, and the object that they leave
unfoldable pub answers_to : {A : Type 0} → List (Call A) → Object → List (Result A ElfError)
answers_to [] o = []
answers_to (c ∷ cs) o = c.answer o ∷ answers_to cs (step c o)

unfoldable pub left_by : {A : Type 0} → List (Call A) → Object → Object
left_by [] o = o
left_by (c ∷ cs) o = left_by cs (step c o)

abbrev pub runs : {A : Type 0} → List (Call A) → Object → List (Result A ElfError) × Object
runs cs o = (answers_to cs o, left_by cs o)

-- ---- A call with another form of its answer

abbrev pub mapped : {A B : Type 0} → (A → B) → Call A → Call B
mapped f c = record {
  answer = λ o. result_map f (c.answer o);
  after = c.after;
  reads = c.reads;
  memory = c.memory;
}

-- ---- A call that is made with what a getter answers

-- what follows a value, or else another
abbrev pub after_look : {A B : Type 0} → Result A ElfError → (A → B) → B → B
after_look (Ok x) follows otherwise = follows x
after_look (Err e) follows otherwise = otherwise

-- a getter, and then a call on the same object
abbrev pub looked : {A B : Type 0} → Call A → (A → Call B) → Call B
looked first second = record {
  answer = λ o. first.answer o >>= λ x. (second x).answer o;
  after = λ o. after_look (first.answer o) (λ x. (second x).after o) o;
  reads = λ o.
      with_others (first.reads o) (after_look (first.answer o) (λ x. (second x).reads o) []);
  memory = λ o loaded held.
      first.memory o loaded held
      || after_look (first.answer o) (λ x. (second x).memory o loaded held) false;
}

-- one field of a header: the header as it is, and the update with the changed one
abbrev pub set_ehdr : (Ehdr → Ehdr) → Call (Unit {0})
set_ehdr change = looked ehdr (λ h. update_ehdr (change h))

abbrev pub set_phdr : ℕ → (Phdr → Phdr) → Call (Unit {0})
set_phdr i change = looked (phdr i) (λ p. update_phdr i (change p))

abbrev pub set_shdr : ℕ → (Shdr → Shdr) → Call (Unit {0})
set_shdr s change = looked (shdr s) (λ h. update_shdr s (change h))

-- one field of an item: the item as it is, and the update with the changed one
abbrev pub set_item : {A : Type 0} → Call A → (A → Call (Unit {0})) → (A → A) → Call (Unit {0})
set_item get update change = looked get (λ x. update (change x))

-- ---- Item

-- item i of a piece of any kind, in a form of the caller's: the data, and then the entry
abbrev pub entry_of : {A : Type 0} → (Items → ℕ → Option A) → ℕ → Items → Result A ElfError
entry_of form i items =
    elim (form items i) [ None ↦ Err (NoEntry i (items_count items)) | Some x ↦ Ok x ]

abbrev pub item : {A : Type 0} → (Items → ℕ → Option A) → ℕ → ℕ → ℕ → Call A
item form s p i = reader s p (λ o. data_answer o s p >>= entry_of form i)

-- ---- A number added to each item

-- to one field, modulo the field's range
abbrev pub more : ℕ → ℕ → ℕ → ℕ
more bits n x = (x + n) % 2 ^ bits

abbrev pub more_sym : ℕ → Sym → Sym
more_sym n x = record x { value = more 64 n x.value }

abbrev pub more_rel : ℕ → Rel → Rel
more_rel n x = record x { offset = more 64 n x.offset }

abbrev pub more_rela : ℕ → Rela → Rela
more_rela n x = record x { offset = more 64 n x.offset }

abbrev pub more_dyn : ℕ → Dyn → Dyn
more_dyn n x = record x { val = more 64 n x.val }

unfoldable pub added : ℕ → Items → Items
added n items.Empty = items.Empty
added n (items.Bytes l) = items.Bytes (map (more 8 n) l)
added n (items.Half l) = items.Half (map (more 16 n) l)
added n (items.Word l) = items.Word (map (more 32 n) l)
added n (items.Addr l) = items.Addr (map (more 64 n) l)
added n (items.Sym l) = items.Sym (map (more_sym n) l)
added n (items.Rel l) = items.Rel (map (more_rel n) l)
added n (items.Rela l) = items.Rela (map (more_rela n) l)
added n (items.Dyn l) = items.Dyn (map (more_dyn n) l)

abbrev pub or_same : Kind → Object → Object → Object
or_same kinds.Empty old stepped = old
or_same _ old stepped = stepped

-- by the lend of the kind that the piece holds; it answers the number of items. A piece of kind
-- Empty can not be lent: it answers 0 and marks nothing. A piece of another kind is marked, also
-- where it has no items.
abbrev pub addall : ℕ → ℕ → ℕ → Call ℕ
addall s p n = record {
  answer = λ o. answered (lend_refusal o (kind_at o s p) s p) (items_count (items_at o s p));
  after = λ o. or_same (kind_at o s p) o (with_own o s p (added n (items_at o s p)));
  reads = λ o. unless_refused (lend_refusal o (kind_at o s p) s p) (when_piece_clean o s p);
  memory = unless_held s p;
}
