-- The call of the library that each line of a script stands for, and the form of its answer: a call
-- of the plain object, or a getter and then the update with what it gave, one field changed.
use Rattle.std.specs.Prelude.{ℕ, Option, Some, None, option_map, slice_get, Result, Ok, Err}
use Rattle.elf_xlate.specs.declared.content.Items.{Items}
use Rattle.elf_xlate.specs.declared.content.Items.TheVariants as items
use Rattle.elf_xlate.specs.Translation.{items_kind, items_count}
use Rattle.symbol_lookup.specs.elf_object.Calls as calls
use Rattle.symbol_lookup.specs.elf_object.Calls.{some_memory}
use Rattle.symbol_lookup.specs.elf_object.Runs.{mapped, set_ehdr, set_phdr, set_shdr, set_item, item, addall}
use Rattle.symbol_lookup.specs.elf_object.Strings as strings
use Rattle.symbol_lookup.specs.gelf_view.declared.notes.NoteAt.{NoteAt}
use Rattle.symbol_lookup.specs.gelf_view.Calls as views
use Rattle.symbol_lookup.specs.Lookups as lookups
use Rattle.elf_calls_script.specs.declared.calls.Call.{Call}
use Rattle.elf_calls_script.specs.declared.calls.Call.TheVariants as call
use Rattle.elf_calls_script.specs.declared.calls.ItemSet.{ItemSet}
use Rattle.elf_calls_script.specs.declared.calls.ItemSet.TheVariants as set
use Rattle.elf_calls_apply.specs.declared.answers.PieceItem.{PieceItem}
use Rattle.elf_calls_apply.specs.declared.answers.PieceItem.TheVariants as one
use Rattle.elf_calls_apply.specs.declared.answers.Answer.{Answer}
use Rattle.elf_calls_apply.specs.declared.answers.Answer.TheVariants as answer
use Rattle.elf_calls_apply.specs.Fields.{ehdr_with, phdr_with, shdr_with, sym_with, rel_with, rela_with, dyn_with}

-- ---- Forms of answers

abbrev pub data_shown : Items → Answer
data_shown l = answer.Data (items_kind l) (items_count l)

-- the item at an index
abbrev pub item_in : Items → ℕ → Option PieceItem
item_in items.Empty i = None
item_in (items.Bytes l) i = option_map one.Byte (slice_get l i)
item_in (items.Half l) i = option_map one.Half (slice_get l i)
item_in (items.Word l) i = option_map one.Word (slice_get l i)
item_in (items.Addr l) i = option_map one.Addr (slice_get l i)
item_in (items.Sym l) i = option_map one.Sym (slice_get l i)
item_in (items.Rel l) i = option_map one.Rel (slice_get l i)
item_in (items.Rela l) i = option_map one.Rela (slice_get l i)
item_in (items.Dyn l) i = option_map one.Dyn (slice_get l i)

-- a note, or that there is none at the end of the piece
abbrev pub note_shown : Option NoteAt → Answer
note_shown (Some note) = answer.Note note
note_shown None = answer.NoteEnd

-- the index of a symbol, or that none has the name
abbrev pub found_shown : Option ℕ → Answer
found_shown (Some i) = answer.Found i
found_shown None = answer.FoundNone

abbrev pub done_shown : Unit {0} → Answer
done_shown x = answer.Done

abbrev pub piece_shown : ℕ × ℕ → Answer
piece_shown d = answer.Piece d.0 d.1

-- a refusal without the items that it hands back, which a script drops
abbrev pub refusal_without_items : {A B E : Type 0} → Result A (B × E) → Result A E
refusal_without_items (Ok x) = Ok x
refusal_without_items (Err (items, e)) = Err e

-- ---- Calls

-- one whose answer holds a copy of bytes, which takes memory
abbrev pub copying : {A : Type 0} → calls.Call A → calls.Call A
copying c = record c { memory = some_memory }

-- one field of an item, by the getter and the update of its kind
abbrev pub half_set : ℕ → ℕ → ℕ → ℕ → calls.Call (Unit {0})
half_set v s p i = set_item (calls.half s p i) (calls.update_half s p i) (λ x. v)

abbrev pub word_set : ℕ → ℕ → ℕ → ℕ → calls.Call (Unit {0})
word_set v s p i = set_item (calls.word s p i) (calls.update_word s p i) (λ x. v)

abbrev pub addr_set : ℕ → ℕ → ℕ → ℕ → calls.Call (Unit {0})
addr_set v s p i = set_item (calls.addr s p i) (calls.update_addr s p i) (λ x. v)

abbrev pub sym_set : ItemSet → ℕ → ℕ → ℕ → calls.Call (Unit {0})
sym_set set s p i = set_item (calls.sym s p i) (calls.update_sym s p i) (sym_with set)

abbrev pub rel_set : ItemSet → ℕ → ℕ → ℕ → calls.Call (Unit {0})
rel_set set s p i = set_item (calls.rel s p i) (calls.update_rel s p i) (rel_with set)

abbrev pub rela_set : ItemSet → ℕ → ℕ → ℕ → calls.Call (Unit {0})
rela_set set s p i = set_item (calls.rela s p i) (calls.update_rela s p i) (rela_with set)

abbrev pub dyn_set : ItemSet → ℕ → ℕ → ℕ → calls.Call (Unit {0})
dyn_set set s p i = set_item (calls.dynent s p i) (calls.update_dynent s p i) (dyn_with set)

unfoldable pub item_set_call : ItemSet → ℕ → ℕ → ℕ → calls.Call (Unit {0})
item_set_call (set.Half v) s p i = half_set v s p i
item_set_call (set.Word v) s p i = word_set v s p i
item_set_call (set.Addr v) s p i = addr_set v s p i
item_set_call (set.SymName v) s p i = sym_set (set.SymName v) s p i
item_set_call (set.SymValue v) s p i = sym_set (set.SymValue v) s p i
item_set_call (set.SymSize v) s p i = sym_set (set.SymSize v) s p i
item_set_call (set.SymInfo v) s p i = sym_set (set.SymInfo v) s p i
item_set_call (set.SymOther v) s p i = sym_set (set.SymOther v) s p i
item_set_call (set.SymShndx v) s p i = sym_set (set.SymShndx v) s p i
item_set_call (set.RelOffset v) s p i = rel_set (set.RelOffset v) s p i
item_set_call (set.RelSym v) s p i = rel_set (set.RelSym v) s p i
item_set_call (set.RelType v) s p i = rel_set (set.RelType v) s p i
item_set_call (set.RelaOffset v) s p i = rela_set (set.RelaOffset v) s p i
item_set_call (set.RelaSym v) s p i = rela_set (set.RelaSym v) s p i
item_set_call (set.RelaType v) s p i = rela_set (set.RelaType v) s p i
item_set_call (set.RelaAddend v) s p i = rela_set (set.RelaAddend v) s p i
item_set_call (set.DynTag v) s p i = dyn_set (set.DynTag v) s p i
item_set_call (set.DynVal v) s p i = dyn_set (set.DynVal v) s p i

unfoldable pub stated_call : Call → calls.Call Answer
stated_call call.Ehdr = mapped answer.Ehdr calls.ehdr
stated_call (call.Phdr i) = mapped answer.Phdr (calls.phdr i)
stated_call (call.Shdr s) = mapped answer.Shdr (calls.shdr s.0)
stated_call (call.Pieces s) = mapped answer.Pieces (calls.pieces s.0)
stated_call (call.Data d) = mapped data_shown (calls.section_data d.section d.piece)
stated_call (call.Raw s) = copying (mapped answer.Raw (calls.raw s.0))
stated_call (call.Item d i) = mapped answer.Item (item item_in d.section d.piece i)
stated_call (call.Str s off) = copying (mapped answer.Str (strings.strptr s.0 off))
stated_call (call.Note d at) = mapped note_shown (views.note d.section d.piece at)
stated_call (call.Find s name) = mapped found_shown (lookups.find_linear s.0 name)
stated_call (call.SetEhdr set) = mapped done_shown (set_ehdr (ehdr_with set))
stated_call (call.SetPhdr i set) = mapped done_shown (set_phdr i (phdr_with set))
stated_call (call.SetShdr s set) = mapped done_shown (set_shdr s.0 (shdr_with set))
stated_call (call.SetItem d i set) = mapped done_shown (item_set_call set d.section d.piece i)
stated_call (call.AddAll d n) = mapped answer.Changed (addall d.section d.piece n)
stated_call call.NewScn = mapped answer.Section calls.newscn
stated_call (call.NewPhdr n) = mapped done_shown (calls.newphdr n)
stated_call (call.NewData s bytes) = mapped piece_shown (calls.newdata s.0 (items.Bytes bytes))
stated_call (call.NewDataAligned s bytes align) =
    mapped piece_shown (calls.newdata_aligned s.0 (items.Bytes bytes) align)
stated_call (call.Fill byte) = mapped done_shown (calls.set_fill byte)
stated_call (call.Replace d bytes) =
    copying (mapped done_shown (calls.replace d.section d.piece (items.Bytes bytes)))
stated_call (call.Flag part set bits) = mapped answer.Flags (calls.flag part set bits)
stated_call call.Null = mapped answer.Size calls.update_null
