-- The calls of a script: none changes a home, and none names a home twice.
use Rattle.std.proofs.Common.{ℕ, List, [], ◌∷◌, Result, Ok, Err}
use Rattle.elf_types.specs.declared.errors.ElfError.{ElfError}
use Rattle.elf_xlate.specs.declared.content.Items.TheVariants as items
use Rattle.symbol_lookup.specs.elf_object.Object.{Object, header_of}
use Rattle.symbol_lookup.specs.elf_object.Answers.{items_at, kind_at}
use Rattle.symbol_lookup.specs.elf_object.Calls as calls
use Rattle.symbol_lookup.specs.elf_object.Calls.{step, after_answer, phdr_answer, shdr_answer}
use Rattle.symbol_lookup.specs.elf_object.Due.{unless_refused, when_clean, when_piece_clean}
use Rattle.symbol_lookup.specs.elf_object.Runs.{looked, after_look, set_item, added}
use Rattle.symbol_lookup.specs.elf_object.Steps.{with_own}
use Rattle.symbol_lookup.specs.Lookups.{link_of, linear_needs, linear_refusal, table_homes}
use Rattle.elf_calls_script.specs.declared.calls.Call.{Call}
use Rattle.elf_calls_script.specs.declared.calls.Call.TheVariants as call
use Rattle.elf_calls_script.specs.declared.calls.ItemSet.{ItemSet}
use Rattle.elf_calls_script.specs.declared.calls.ItemSet.TheVariants as set
use Rattle.elf_calls_apply.specs.Fields.{ehdr_with, phdr_with, shdr_with, sym_with, rel_with, rela_with, dyn_with}
use Rattle.elf_calls_apply.specs.Stated.{stated_call, item_set_call}
use Rattle.tool_objects.proofs.OnceSums.{Once, once_none, once_one, once_others}
use Rattle.tool_objects.proofs.OnceReads.{once_unless, once_piece, once_clean, once_read}
use Rattle.calls_tool.proofs.HomeSteps.{KeepsHomes, homes_same, keeps_placed, keeps_ehdr, keeps_phdr, keeps_shdr, keeps_own, keeps_or_same, keeps_look, keeps_new_section, keeps_new_phdrs, keeps_new_piece, keeps_fill, keeps_flags}

-- ---- What is left

keeps_answer : {A : Type 0} (r : Result A ElfError) (o after : Object) → KeepsHomes o after → KeepsHomes o (after_answer r o after)
keeps_answer (Ok x) o after keeps = keeps
keeps_answer (Err e) o after keeps = homes_same o

keeps_step : {A : Type 0} (c : calls.Call A) (o : Object) → KeepsHomes o (c.after o) → KeepsHomes o (step c o)
unfolding step
keeps_step c o keeps = keeps_answer (c.answer o) o (c.after o) keeps

keeps_set : {A : Type 0} (get : calls.Call A) (update : A → calls.Call (Unit {0})) (change : A → A) (o : Object)
    → ((x : A) → KeepsHomes o ((update x).after o)) → KeepsHomes o ((set_item get update change).after o)
keeps_set get update change o keeps = keeps_look o (get.answer o) (λ x. (update (change x)).after o) (λ x. keeps (change x))

keeps_item : (v : ItemSet) (s p i : ℕ) (o : Object) → KeepsHomes o ((item_set_call v s p i).after o)
unfolding item_set_call
keeps_item (set.Half v) s p i o = keeps_set (calls.half s p i) (calls.update_half s p i) _ o (λ x. keeps_own o s p _)
keeps_item (set.Word v) s p i o = keeps_set (calls.word s p i) (calls.update_word s p i) _ o (λ x. keeps_own o s p _)
keeps_item (set.Addr v) s p i o = keeps_set (calls.addr s p i) (calls.update_addr s p i) _ o (λ x. keeps_own o s p _)
keeps_item (set.SymName v) s p i o = keeps_set (calls.sym s p i) (calls.update_sym s p i) _ o (λ x. keeps_own o s p _)
keeps_item (set.SymValue v) s p i o = keeps_set (calls.sym s p i) (calls.update_sym s p i) _ o (λ x. keeps_own o s p _)
keeps_item (set.SymSize v) s p i o = keeps_set (calls.sym s p i) (calls.update_sym s p i) _ o (λ x. keeps_own o s p _)
keeps_item (set.SymInfo v) s p i o = keeps_set (calls.sym s p i) (calls.update_sym s p i) _ o (λ x. keeps_own o s p _)
keeps_item (set.SymOther v) s p i o = keeps_set (calls.sym s p i) (calls.update_sym s p i) _ o (λ x. keeps_own o s p _)
keeps_item (set.SymShndx v) s p i o = keeps_set (calls.sym s p i) (calls.update_sym s p i) _ o (λ x. keeps_own o s p _)
keeps_item (set.RelOffset v) s p i o = keeps_set (calls.rel s p i) (calls.update_rel s p i) _ o (λ x. keeps_own o s p _)
keeps_item (set.RelSym v) s p i o = keeps_set (calls.rel s p i) (calls.update_rel s p i) _ o (λ x. keeps_own o s p _)
keeps_item (set.RelType v) s p i o = keeps_set (calls.rel s p i) (calls.update_rel s p i) _ o (λ x. keeps_own o s p _)
keeps_item (set.RelaOffset v) s p i o = keeps_set (calls.rela s p i) (calls.update_rela s p i) _ o (λ x. keeps_own o s p _)
keeps_item (set.RelaSym v) s p i o = keeps_set (calls.rela s p i) (calls.update_rela s p i) _ o (λ x. keeps_own o s p _)
keeps_item (set.RelaType v) s p i o = keeps_set (calls.rela s p i) (calls.update_rela s p i) _ o (λ x. keeps_own o s p _)
keeps_item (set.RelaAddend v) s p i o = keeps_set (calls.rela s p i) (calls.update_rela s p i) _ o (λ x. keeps_own o s p _)
keeps_item (set.DynTag v) s p i o = keeps_set (calls.dynent s p i) (calls.update_dynent s p i) _ o (λ x. keeps_own o s p _)
keeps_item (set.DynVal v) s p i o = keeps_set (calls.dynent s p i) (calls.update_dynent s p i) _ o (λ x. keeps_own o s p _)

keeps_after : (q : Call) (o : Object) → KeepsHomes o ((stated_call q).after o)
unfolding stated_call
keeps_after call.Ehdr o = homes_same o
keeps_after (call.Phdr i) o = homes_same o
keeps_after (call.Shdr s) o = homes_same o
keeps_after (call.Pieces s) o = homes_same o
keeps_after (call.Data d) o = homes_same o
keeps_after (call.Raw s) o = homes_same o
keeps_after (call.Item d i) o = homes_same o
keeps_after (call.Str s off) o = homes_same o
keeps_after (call.Note d at) o = homes_same o
keeps_after (call.Find s name) o = homes_same o
keeps_after (call.SetEhdr v) o = keeps_ehdr o (ehdr_with v (header_of o))
keeps_after (call.SetPhdr i v) o = keeps_look o (phdr_answer o i) (λ x. (calls.update_phdr i (phdr_with v x)).after o) (λ x. keeps_phdr o i (phdr_with v x))
keeps_after (call.SetShdr s v) o = keeps_look o (shdr_answer o s.0) (λ x. (calls.update_shdr s.0 (shdr_with v x)).after o) (λ x. keeps_shdr o s.0 (shdr_with v x))
keeps_after (call.SetItem d i v) o = keeps_item v d.section d.piece i o
keeps_after (call.AddAll d n) o =
    let left = with_own o d.section d.piece (added n (items_at o d.section d.piece)) in
    keeps_or_same o (kind_at o d.section d.piece) left (keeps_own o d.section d.piece (added n (items_at o d.section d.piece)))
keeps_after call.NewScn o = keeps_new_section o
keeps_after (call.NewPhdr n) o = keeps_new_phdrs o n
keeps_after (call.NewData s bytes) o = keeps_new_piece o s.0 (items.Bytes bytes) 1
keeps_after (call.NewDataAligned s bytes align) o = keeps_new_piece o s.0 (items.Bytes bytes) align
keeps_after (call.Fill byte) o = keeps_fill o byte
keeps_after (call.Replace d bytes) o = keeps_own o d.section d.piece (items.Bytes bytes)
keeps_after (call.Flag part mark bits) o = keeps_flags o part mark bits
keeps_after call.Null o = keeps_placed o

pub stated_keeps : (q : Call) (o : Object) → KeepsHomes o (step (stated_call q) o)
stated_keeps q o = keeps_step (stated_call q) o (keeps_after q o)

-- ---- What is read

once_find : (o : Object) (s : ℕ) → Once (unless_refused (linear_refusal o s) (linear_needs o s).homes)
unfolding linear_needs table_homes
once_find o s =
    once_unless (linear_refusal o s) (table_homes o s) (once_others (when_piece_clean o s 0) (when_clean o (link_of o s)) (once_piece o s 0) (once_clean o (link_of o s)))

once_look : {A : Type 0} (r : Result A ElfError) (reads : A → List ℕ) → ((x : A) → Once (reads x)) → Once (after_look r reads [])
once_look (Ok x) reads once = once x
once_look (Err e) reads once = once_none

once_looked : {A B : Type 0} (first : calls.Call A) (second : A → calls.Call B) (o : Object) → Once (first.reads o) → ((x : A) → Once ((second x).reads o))
    → Once ((looked first second).reads o)
once_looked first second o one other =
    once_others (first.reads o) (after_look (first.answer o) (λ x. (second x).reads o) []) one (once_look (first.answer o) (λ x. (second x).reads o) other)

once_set : {A : Type 0} (get : calls.Call A) (update : A → calls.Call (Unit {0})) (change : A → A) (o : Object) → Once (get.reads o) → ((x : A) → Once ((update x).reads o))
    → Once ((set_item get update change).reads o)
once_set get update change o one other = once_looked get (λ x. update (change x)) o one (λ x. other (change x))

once_item : (v : ItemSet) (s p i : ℕ) (o : Object) → Once ((item_set_call v s p i).reads o)
unfolding item_set_call
once_item (set.Half v) s p i o = once_set (calls.half s p i) (calls.update_half s p i) (λ x. v) o (once_read s p o _) (λ x. once_unless _ _ (once_piece o s p))
once_item (set.Word v) s p i o = once_set (calls.word s p i) (calls.update_word s p i) (λ x. v) o (once_read s p o _) (λ x. once_unless _ _ (once_piece o s p))
once_item (set.Addr v) s p i o = once_set (calls.addr s p i) (calls.update_addr s p i) (λ x. v) o (once_read s p o _) (λ x. once_unless _ _ (once_piece o s p))
once_item (set.SymName v) s p i o = once_set (calls.sym s p i) (calls.update_sym s p i) (sym_with (set.SymName v)) o (once_read s p o _) (λ x. once_unless _ _ (once_piece o s p))
once_item (set.SymValue v) s p i o = once_set (calls.sym s p i) (calls.update_sym s p i) (sym_with (set.SymValue v)) o (once_read s p o _) (λ x. once_unless _ _ (once_piece o s p))
once_item (set.SymSize v) s p i o = once_set (calls.sym s p i) (calls.update_sym s p i) (sym_with (set.SymSize v)) o (once_read s p o _) (λ x. once_unless _ _ (once_piece o s p))
once_item (set.SymInfo v) s p i o = once_set (calls.sym s p i) (calls.update_sym s p i) (sym_with (set.SymInfo v)) o (once_read s p o _) (λ x. once_unless _ _ (once_piece o s p))
once_item (set.SymOther v) s p i o = once_set (calls.sym s p i) (calls.update_sym s p i) (sym_with (set.SymOther v)) o (once_read s p o _) (λ x. once_unless _ _ (once_piece o s p))
once_item (set.SymShndx v) s p i o = once_set (calls.sym s p i) (calls.update_sym s p i) (sym_with (set.SymShndx v)) o (once_read s p o _) (λ x. once_unless _ _ (once_piece o s p))
once_item (set.RelOffset v) s p i o = once_set (calls.rel s p i) (calls.update_rel s p i) (rel_with (set.RelOffset v)) o (once_read s p o _) (λ x. once_unless _ _ (once_piece o s p))
once_item (set.RelSym v) s p i o = once_set (calls.rel s p i) (calls.update_rel s p i) (rel_with (set.RelSym v)) o (once_read s p o _) (λ x. once_unless _ _ (once_piece o s p))
once_item (set.RelType v) s p i o = once_set (calls.rel s p i) (calls.update_rel s p i) (rel_with (set.RelType v)) o (once_read s p o _) (λ x. once_unless _ _ (once_piece o s p))
once_item (set.RelaOffset v) s p i o = once_set (calls.rela s p i) (calls.update_rela s p i) (rela_with (set.RelaOffset v)) o (once_read s p o _) (λ x. once_unless _ _ (once_piece o s p))
once_item (set.RelaSym v) s p i o = once_set (calls.rela s p i) (calls.update_rela s p i) (rela_with (set.RelaSym v)) o (once_read s p o _) (λ x. once_unless _ _ (once_piece o s p))
once_item (set.RelaType v) s p i o = once_set (calls.rela s p i) (calls.update_rela s p i) (rela_with (set.RelaType v)) o (once_read s p o _) (λ x. once_unless _ _ (once_piece o s p))
once_item (set.RelaAddend v) s p i o = once_set (calls.rela s p i) (calls.update_rela s p i) (rela_with (set.RelaAddend v)) o (once_read s p o _) (λ x. once_unless _ _ (once_piece o s p))
once_item (set.DynTag v) s p i o = once_set (calls.dynent s p i) (calls.update_dynent s p i) (dyn_with (set.DynTag v)) o (once_read s p o _) (λ x. once_unless _ _ (once_piece o s p))
once_item (set.DynVal v) s p i o = once_set (calls.dynent s p i) (calls.update_dynent s p i) (dyn_with (set.DynVal v)) o (once_read s p o _) (λ x. once_unless _ _ (once_piece o s p))

pub stated_once : (q : Call) (o : Object) → Once ((stated_call q).reads o)
unfolding stated_call
stated_once call.Ehdr o = once_none
stated_once (call.Phdr i) o = once_none
stated_once (call.Shdr s) o = once_none
stated_once (call.Pieces s) o = once_none
stated_once (call.Data d) o = once_read d.section d.piece o _
stated_once (call.Raw s) o = once_unless _ (s.0 ∷ []) (once_one s.0)
stated_once (call.Item d i) o = once_read d.section d.piece o _
stated_once (call.Str s off) o = once_unless _ _ (once_clean o s.0)
stated_once (call.Note d at) o = once_read d.section d.piece o _
stated_once (call.Find s name) o = once_find o s.0
stated_once (call.SetEhdr v) o = once_looked calls.ehdr (λ h. calls.update_ehdr (ehdr_with v h)) o once_none (λ x. once_none)
stated_once (call.SetPhdr i v) o = once_looked (calls.phdr i) (λ h. calls.update_phdr i (phdr_with v h)) o once_none (λ x. once_none)
stated_once (call.SetShdr s v) o = once_looked (calls.shdr s.0) (λ h. calls.update_shdr s.0 (shdr_with v h)) o once_none (λ x. once_none)
stated_once (call.SetItem d i v) o = once_item v d.section d.piece i o
stated_once (call.AddAll d n) o = once_unless _ _ (once_piece o d.section d.piece)
stated_once call.NewScn o = once_none
stated_once (call.NewPhdr n) o = once_none
stated_once (call.NewData s bytes) o = once_none
stated_once (call.NewDataAligned s bytes align) o = once_none
stated_once (call.Fill byte) o = once_none
stated_once (call.Replace d bytes) o = once_none
stated_once (call.Flag part mark bits) o = once_none
stated_once call.Null o = once_none
