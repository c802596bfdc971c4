-- What the calls of a script leave can be reopened: each call keeps that it is an object, with
-- program headers in the ranges of their types, and that of its base where nothing is dirty.
use Rattle.std.proofs.Common.{◌≡◌, ◌<◌, ◌^◌, ℕ, [], ◌∷◌, Result, Ok, Err, refl, sym, ap, ◌∙◌, subst}
use Rattle.std.proofs.lemmas.List.Elements.{All-head, All-tail}
use Rattle.elf_types.specs.declared.records.Ehdr.{Ehdr}
use Rattle.elf_types.specs.declared.records.Phdr.{Phdr}
use Rattle.elf_types.specs.declared.records.Shdr.{Shdr}
use Rattle.elf_types.specs.declared.errors.ElfError.{ElfError}
use Rattle.elf_xlate.specs.declared.content.Items.TheVariants as items
use Rattle.elf_xlate.specs.Headers.{IsEhdr, IsPhdr, IsShdr}
use Rattle.elf_object.specs.Object.{Object}
use Rattle.elf_object.specs.Open.{opened}
use Rattle.elf_object.specs.Calls as calls
use Rattle.elf_object.specs.Calls.{step, after_answer}
use Rattle.elf_object.specs.Runs as runs
use Rattle.elf_object.specs.Runs.{left_by, mapped}
use Rattle.elf_object.specs.Valid.{KeepsObject, KeepsTied}
use Rattle.elf_object.specs.Words.{result_map}
use Rattle.elf_object.proofs.PassedLaws.{step_same}
use Rattle.law_object.specs.Laws.{ReopenLaw}
use Rattle.law_object.proofs.LawsHold.{beginnings_are, every_step_keeps}
use Rattle.law_object.proofs.TiedLaws.{beginnings_are_tied, every_step_keeps_tied}
use Rattle.law_rebuild.proofs.strip.WrittenLaws.{written_known}
use Rattle.elf_calls_script.specs.declared.calls.Call.{Call}
use Rattle.elf_calls_script.specs.declared.calls.Call.TheVariants as call
use Rattle.elf_calls_script.specs.declared.calls.EhdrSet.{EhdrSet}
use Rattle.elf_calls_script.specs.declared.calls.EhdrSet.TheVariants as ehdr
use Rattle.elf_calls_script.specs.declared.calls.PhdrSet.{PhdrSet}
use Rattle.elf_calls_script.specs.declared.calls.PhdrSet.TheVariants as phdr
use Rattle.elf_calls_script.specs.declared.calls.ShdrSet.{ShdrSet}
use Rattle.elf_calls_script.specs.declared.calls.ShdrSet.TheVariants as shdr
use Rattle.elf_calls_script.specs.declared.calls.ItemSet.{ItemSet}
use Rattle.elf_calls_script.specs.declared.calls.ItemSet.TheVariants as set
use Rattle.elf_calls_apply.specs.declared.answers.Answer.TheVariants as answer
use Rattle.elf_calls_apply.specs.Fields.{ehdr_with, phdr_with, shdr_with, sym_with, rel_with, rela_with, dyn_with}
use Rattle.elf_calls_apply.specs.Stated.{stated_call, done_shown, piece_shown, copying, half_set, word_set, addr_set, sym_set, rel_set, rela_set, dyn_set, item_set_call}
use Rattle.calls_tool.specs.Runs.{stated_calls}
use Rattle.law_reopen.specs.Phdrs.{KeepsPhdrs}
use Rattle.law_reopen.specs.Scripts.{IsEhdrSet, IsPhdrSet, IsShdrSet, IsScriptCall, IsReopenable, OpenedIsReopenable, CallsKeepReopenable, CallsReopen}
use Rattle.law_reopen.proofs.PhdrLaws.{every_step_keeps_phdrs}
use Rattle.law_reopen.proofs.ScriptLaws.{scripts_are_in_range}

-- ---- Headers with one field set

-- with these fields
ehdr_fields_are : (h : Ehdr) (osabi abiversion etype machine entry phoff shoff flags shstrndx : ℕ)
    → IsEhdr h
    → osabi < 2 ^ 8
    → abiversion < 2 ^ 8
    → etype < 2 ^ 16
    → machine < 2 ^ 16
    → entry < 2 ^ 64
    → phoff < 2 ^ 64
    → shoff < 2 ^ 64
    → flags < 2 ^ 32
    → shstrndx < 2 ^ 32
    → IsEhdr (record h {
      osabi = osabi;
      abiversion = abiversion;
      etype = etype;
      machine = machine;
      entry = entry;
      phoff = phoff;
      shoff = shoff;
      flags = flags;
      shstrndx = shstrndx;
    })
ehdr_fields_are h osabi abiversion etype machine entry phoff shoff flags shstrndx is is_osabi
    is_abiversion is_etype is_machine is_entry is_phoff is_shoff is_flags is_shstrndx = record {
      osabi = is_osabi;
      abiversion = is_abiversion;
      etype = is_etype;
      machine = is_machine;
      version = is.version;
      entry = is_entry;
      phoff = is_phoff;
      shoff = is_shoff;
      flags = is_flags;
      ehsize = is.ehsize;
      phentsize = is.phentsize;
      phnum = is.phnum;
      shentsize = is.shentsize;
      shnum = is.shnum;
      shstrndx = is_shstrndx;
    }

ehdr_with_is : (v : EhdrSet) → IsEhdrSet v → (h : Ehdr) → IsEhdr h → IsEhdr (ehdr_with v h)
ehdr_with_is (ehdr.Osabi v) small h is =
    ehdr_fields_are h v h.abiversion h.etype h.machine h.entry h.phoff h.shoff h.flags h.shstrndx is
    small is.abiversion is.etype is.machine is.entry is.phoff is.shoff is.flags is.shstrndx
ehdr_with_is (ehdr.Abiversion v) small h is =
    ehdr_fields_are h h.osabi v h.etype h.machine h.entry h.phoff h.shoff h.flags h.shstrndx is
    is.osabi
    small is.etype is.machine is.entry is.phoff is.shoff is.flags is.shstrndx
ehdr_with_is (ehdr.Etype v) small h is =
    ehdr_fields_are h h.osabi h.abiversion v h.machine h.entry h.phoff h.shoff h.flags h.shstrndx is
    is.osabi is.abiversion small is.machine is.entry is.phoff is.shoff is.flags is.shstrndx
ehdr_with_is (ehdr.Machine v) small h is =
    ehdr_fields_are h h.osabi h.abiversion h.etype v h.entry h.phoff h.shoff h.flags h.shstrndx is
    is.osabi is.abiversion is.etype small is.entry is.phoff is.shoff is.flags is.shstrndx
ehdr_with_is (ehdr.Entry v) small h is =
    ehdr_fields_are h h.osabi h.abiversion h.etype h.machine v h.phoff h.shoff h.flags h.shstrndx is
    is.osabi is.abiversion is.etype is.machine small is.phoff is.shoff is.flags is.shstrndx
ehdr_with_is (ehdr.Phoff v) small h is =
    ehdr_fields_are h h.osabi h.abiversion h.etype h.machine h.entry v h.shoff h.flags h.shstrndx is
    is.osabi is.abiversion is.etype is.machine is.entry small is.shoff is.flags is.shstrndx
ehdr_with_is (ehdr.Shoff v) small h is =
    ehdr_fields_are h h.osabi h.abiversion h.etype h.machine h.entry h.phoff v h.flags h.shstrndx is
    is.osabi is.abiversion is.etype is.machine is.entry is.phoff small is.flags is.shstrndx
ehdr_with_is (ehdr.Flags v) small h is =
    ehdr_fields_are h h.osabi h.abiversion h.etype h.machine h.entry h.phoff h.shoff v h.shstrndx is
    is.osabi is.abiversion is.etype is.machine is.entry is.phoff is.shoff small is.shstrndx
ehdr_with_is (ehdr.Shstrndx v) small h is =
    ehdr_fields_are h h.osabi h.abiversion h.etype h.machine h.entry h.phoff h.shoff h.flags v is
    is.osabi is.abiversion is.etype is.machine is.entry is.phoff is.shoff is.flags small

phdr_fields_are : (p : Phdr) (ptype flags offset vaddr paddr filesz memsz align : ℕ) → IsPhdr p
    → ptype < 2 ^ 32
    → flags < 2 ^ 32
    → offset < 2 ^ 64
    → vaddr < 2 ^ 64
    → paddr < 2 ^ 64
    → filesz < 2 ^ 64
    → memsz < 2 ^ 64
    → align < 2 ^ 64
    → IsPhdr (record p {
      ptype = ptype;
      flags = flags;
      offset = offset;
      vaddr = vaddr;
      paddr = paddr;
      filesz = filesz;
      memsz = memsz;
      align = align;
    })
phdr_fields_are p ptype flags offset vaddr paddr filesz memsz align is is_ptype is_flags is_offset
    is_vaddr is_paddr is_filesz is_memsz is_align = record {
      ptype = is_ptype;
      flags = is_flags;
      offset = is_offset;
      vaddr = is_vaddr;
      paddr = is_paddr;
      filesz = is_filesz;
      memsz = is_memsz;
      align = is_align;
    }

phdr_with_is : (v : PhdrSet) → IsPhdrSet v → (p : Phdr) → IsPhdr p → IsPhdr (phdr_with v p)
phdr_with_is (phdr.Ptype v) small p is =
    phdr_fields_are p v p.flags p.offset p.vaddr p.paddr p.filesz p.memsz p.align is small is.flags
    is.offset is.vaddr is.paddr is.filesz is.memsz is.align
phdr_with_is (phdr.Flags v) small p is =
    phdr_fields_are p p.ptype v p.offset p.vaddr p.paddr p.filesz p.memsz p.align is is.ptype small
    is.offset is.vaddr is.paddr is.filesz is.memsz is.align
phdr_with_is (phdr.Offset v) small p is =
    phdr_fields_are p p.ptype p.flags v p.vaddr p.paddr p.filesz p.memsz p.align is is.ptype
    is.flags
    small is.vaddr is.paddr is.filesz is.memsz is.align
phdr_with_is (phdr.Vaddr v) small p is =
    phdr_fields_are p p.ptype p.flags p.offset v p.paddr p.filesz p.memsz p.align is is.ptype
    is.flags
    is.offset small is.paddr is.filesz is.memsz is.align
phdr_with_is (phdr.Paddr v) small p is =
    phdr_fields_are p p.ptype p.flags p.offset p.vaddr v p.filesz p.memsz p.align is is.ptype
    is.flags
    is.offset is.vaddr small is.filesz is.memsz is.align
phdr_with_is (phdr.Filesz v) small p is =
    phdr_fields_are p p.ptype p.flags p.offset p.vaddr p.paddr v p.memsz p.align is is.ptype
    is.flags
    is.offset is.vaddr is.paddr small is.memsz is.align
phdr_with_is (phdr.Memsz v) small p is =
    phdr_fields_are p p.ptype p.flags p.offset p.vaddr p.paddr p.filesz v p.align is is.ptype
    is.flags
    is.offset is.vaddr is.paddr is.filesz small is.align
phdr_with_is (phdr.Align v) small p is =
    phdr_fields_are p p.ptype p.flags p.offset p.vaddr p.paddr p.filesz p.memsz v is is.ptype
    is.flags
    is.offset is.vaddr is.paddr is.filesz is.memsz small

shdr_fields_are : (h : Shdr) (name stype flags addr offset size link info addralign entsize : ℕ) →
    IsShdr h
    → name < 2 ^ 32
    → stype < 2 ^ 32
    → flags < 2 ^ 64
    → addr < 2 ^ 64
    → offset < 2 ^ 64
    → size < 2 ^ 64
    → link < 2 ^ 32
    → info < 2 ^ 32
    → addralign < 2 ^ 64
    → entsize < 2 ^ 64
    → IsShdr (record h {
      name = name;
      stype = stype;
      flags = flags;
      addr = addr;
      offset = offset;
      size = size;
      link = link;
      info = info;
      addralign = addralign;
      entsize = entsize;
    })
shdr_fields_are h name stype flags addr offset size link info addralign entsize is is_name is_stype
    is_flags is_addr is_offset is_size is_link is_info is_addralign is_entsize = record {
      name = is_name;
      stype = is_stype;
      flags = is_flags;
      addr = is_addr;
      offset = is_offset;
      size = is_size;
      link = is_link;
      info = is_info;
      addralign = is_addralign;
      entsize = is_entsize;
    }

shdr_with_is : (v : ShdrSet) → IsShdrSet v → (h : Shdr) → IsShdr h → IsShdr (shdr_with v h)
shdr_with_is (shdr.Name v) small h is =
    shdr_fields_are h v h.stype h.flags h.addr h.offset h.size h.link h.info h.addralign h.entsize
    is
    small is.stype is.flags is.addr is.offset is.size is.link is.info is.addralign is.entsize
shdr_with_is (shdr.Stype v) small h is =
    shdr_fields_are h h.name v h.flags h.addr h.offset h.size h.link h.info h.addralign h.entsize is
    is.name small is.flags is.addr is.offset is.size is.link is.info is.addralign is.entsize
shdr_with_is (shdr.Flags v) small h is =
    shdr_fields_are h h.name h.stype v h.addr h.offset h.size h.link h.info h.addralign h.entsize is
    is.name is.stype small is.addr is.offset is.size is.link is.info is.addralign is.entsize
shdr_with_is (shdr.Addr v) small h is =
    shdr_fields_are h h.name h.stype h.flags v h.offset h.size h.link h.info h.addralign h.entsize
    is
    is.name is.stype is.flags small is.offset is.size is.link is.info is.addralign is.entsize
shdr_with_is (shdr.Offset v) small h is =
    shdr_fields_are h h.name h.stype h.flags h.addr v h.size h.link h.info h.addralign h.entsize is
    is.name is.stype is.flags is.addr small is.size is.link is.info is.addralign is.entsize
shdr_with_is (shdr.Size v) small h is =
    shdr_fields_are h h.name h.stype h.flags h.addr h.offset v h.link h.info h.addralign h.entsize
    is
    is.name is.stype is.flags is.addr is.offset small is.link is.info is.addralign is.entsize
shdr_with_is (shdr.Link v) small h is =
    shdr_fields_are h h.name h.stype h.flags h.addr h.offset h.size v h.info h.addralign h.entsize
    is
    is.name is.stype is.flags is.addr is.offset is.size small is.info is.addralign is.entsize
shdr_with_is (shdr.Info v) small h is =
    shdr_fields_are h h.name h.stype h.flags h.addr h.offset h.size h.link v h.addralign h.entsize
    is
    is.name is.stype is.flags is.addr is.offset is.size is.link small is.addralign is.entsize
shdr_with_is (shdr.Addralign v) small h is =
    shdr_fields_are h h.name h.stype h.flags h.addr h.offset h.size h.link h.info v h.entsize is
    is.name
    is.stype is.flags is.addr is.offset is.size is.link is.info small is.entsize
shdr_with_is (shdr.Entsize v) small h is =
    shdr_fields_are h h.name h.stype h.flags h.addr h.offset h.size h.link h.info h.addralign v is
    is.name is.stype is.flags is.addr is.offset is.size is.link is.info is.addralign small

-- ---- One call

abbrev Keeps : {A : Type 0} → calls.Call A → Type 0
Keeps c = (o : Object) → IsReopenable o → IsReopenable (step c o)

keeps_all : {A : Type 0} (c : calls.Call A) → KeepsObject c → KeepsPhdrs c → KeepsTied c → Keeps c
keeps_all c object phdrs tied o is = record {
  object = object o is.object;
  phdrs = phdrs o is.phdrs;
  tied = tied o is.tied;
}

-- with another form of its answer
mapped_keeps : {A B : Type 0} (f : A → B) (c : calls.Call A) → Keeps c → Keeps (mapped f c)
unfolding step
mapped_keeps {A} f c keeps o is = by_answer (c.answer o) (keeps o is)
  where
    by_answer : (r : Result A ElfError) → IsReopenable (after_answer r o (c.after o))
        → IsReopenable (after_answer (result_map f r) o (c.after o))
    by_answer (Ok x) h = h
    by_answer (Err e) h = h

-- with memory for a copy
copying_keeps : {A : Type 0} (c : calls.Call A) → Keeps c → Keeps (copying c)
unfolding step
copying_keeps c keeps o is = keeps o is

-- a call that only looks
looks_keep : {A : Type 0} (c : calls.Call A) → ((o : Object) → c.after o ≡ o) → Keeps c
looks_keep c same o is = subst IsReopenable (sym (step_same c o (same o))) is

-- ---- One field of an item

half_keeps : (v s p i : ℕ) → Keeps (half_set v s p i)
half_keeps v s p i =
    keeps_all (half_set v s p i) (every_step_keeps.set_half s p i (λ x. v))
    (every_step_keeps_phdrs.set_half s p i (λ x. v))
    (every_step_keeps_tied.set_half s p i (λ x. v))

word_keeps : (v s p i : ℕ) → Keeps (word_set v s p i)
word_keeps v s p i =
    keeps_all (word_set v s p i) (every_step_keeps.set_word s p i (λ x. v))
    (every_step_keeps_phdrs.set_word s p i (λ x. v))
    (every_step_keeps_tied.set_word s p i (λ x. v))

addr_keeps : (v s p i : ℕ) → Keeps (addr_set v s p i)
addr_keeps v s p i =
    keeps_all (addr_set v s p i) (every_step_keeps.set_addr s p i (λ x. v))
    (every_step_keeps_phdrs.set_addr s p i (λ x. v))
    (every_step_keeps_tied.set_addr s p i (λ x. v))

sym_keeps : (v : ItemSet) (s p i : ℕ) → Keeps (sym_set v s p i)
sym_keeps v s p i =
    keeps_all (sym_set v s p i) (every_step_keeps.set_sym s p i (sym_with v))
    (every_step_keeps_phdrs.set_sym s p i (sym_with v))
    (every_step_keeps_tied.set_sym s p i (sym_with v))

rel_keeps : (v : ItemSet) (s p i : ℕ) → Keeps (rel_set v s p i)
rel_keeps v s p i =
    keeps_all (rel_set v s p i) (every_step_keeps.set_rel s p i (rel_with v))
    (every_step_keeps_phdrs.set_rel s p i (rel_with v))
    (every_step_keeps_tied.set_rel s p i (rel_with v))

rela_keeps : (v : ItemSet) (s p i : ℕ) → Keeps (rela_set v s p i)
rela_keeps v s p i =
    keeps_all (rela_set v s p i) (every_step_keeps.set_rela s p i (rela_with v))
    (every_step_keeps_phdrs.set_rela s p i (rela_with v))
    (every_step_keeps_tied.set_rela s p i (rela_with v))

dyn_keeps : (v : ItemSet) (s p i : ℕ) → Keeps (dyn_set v s p i)
dyn_keeps v s p i =
    keeps_all (dyn_set v s p i) (every_step_keeps.set_dynent s p i (dyn_with v))
    (every_step_keeps_phdrs.set_dynent s p i (dyn_with v))
    (every_step_keeps_tied.set_dynent s p i (dyn_with v))

item_keeps : (v : ItemSet) (s p i : ℕ) → Keeps (item_set_call v s p i)
unfolding item_set_call
item_keeps (set.Half v) s p i = half_keeps v s p i
item_keeps (set.Word v) s p i = word_keeps v s p i
item_keeps (set.Addr v) s p i = addr_keeps v s p i
item_keeps (set.SymName v) s p i = sym_keeps (set.SymName v) s p i
item_keeps (set.SymValue v) s p i = sym_keeps (set.SymValue v) s p i
item_keeps (set.SymSize v) s p i = sym_keeps (set.SymSize v) s p i
item_keeps (set.SymInfo v) s p i = sym_keeps (set.SymInfo v) s p i
item_keeps (set.SymOther v) s p i = sym_keeps (set.SymOther v) s p i
item_keeps (set.SymShndx v) s p i = sym_keeps (set.SymShndx v) s p i
item_keeps (set.RelOffset v) s p i = rel_keeps (set.RelOffset v) s p i
item_keeps (set.RelSym v) s p i = rel_keeps (set.RelSym v) s p i
item_keeps (set.RelType v) s p i = rel_keeps (set.RelType v) s p i
item_keeps (set.RelaOffset v) s p i = rela_keeps (set.RelaOffset v) s p i
item_keeps (set.RelaSym v) s p i = rela_keeps (set.RelaSym v) s p i
item_keeps (set.RelaType v) s p i = rela_keeps (set.RelaType v) s p i
item_keeps (set.RelaAddend v) s p i = rela_keeps (set.RelaAddend v) s p i
item_keeps (set.DynTag v) s p i = dyn_keeps (set.DynTag v) s p i
item_keeps (set.DynVal v) s p i = dyn_keeps (set.DynVal v) s p i

-- ---- The calls of a script

script_call_keeps : (q : Call) → IsScriptCall q → Keeps (stated_call q)
unfolding stated_call
script_call_keeps call.Ehdr is = looks_keep (stated_call call.Ehdr) (λ o. refl)
script_call_keeps (call.Phdr i) is = looks_keep (stated_call (call.Phdr i)) (λ o. refl)
script_call_keeps (call.Shdr s) is = looks_keep (stated_call (call.Shdr s)) (λ o. refl)
script_call_keeps (call.Pieces s) is = looks_keep (stated_call (call.Pieces s)) (λ o. refl)
script_call_keeps (call.Data d) is = looks_keep (stated_call (call.Data d)) (λ o. refl)
script_call_keeps (call.Raw s) is = looks_keep (stated_call (call.Raw s)) (λ o. refl)
script_call_keeps (call.Item d i) is = looks_keep (stated_call (call.Item d i)) (λ o. refl)
script_call_keeps (call.Str s off) is = looks_keep (stated_call (call.Str s off)) (λ o. refl)
script_call_keeps (call.Note d at) is = looks_keep (stated_call (call.Note d at)) (λ o. refl)
script_call_keeps (call.Find s name) is = looks_keep (stated_call (call.Find s name)) (λ o. refl)
script_call_keeps (call.SetEhdr v) is =
    mapped_keeps done_shown (runs.set_ehdr (ehdr_with v)) (keeps_all (runs.set_ehdr (ehdr_with v))
    (every_step_keeps.set_ehdr (ehdr_with v) (ehdr_with_is v is))
    (every_step_keeps_phdrs.set_ehdr (ehdr_with v))
    (every_step_keeps_tied.set_ehdr (ehdr_with v)))
script_call_keeps (call.SetPhdr i v) is =
    mapped_keeps done_shown (runs.set_phdr i (phdr_with v)) (keeps_all (runs.set_phdr i (phdr_with v))
    (every_step_keeps.set_phdr i (phdr_with v))
    (every_step_keeps_phdrs.set_phdr i (phdr_with v) (phdr_with_is v is))
    (every_step_keeps_tied.set_phdr i (phdr_with v)))
script_call_keeps (call.SetShdr s v) is =
    mapped_keeps done_shown (runs.set_shdr s.0 (shdr_with v)) (keeps_all (runs.set_shdr s.0 (shdr_with v))
    (every_step_keeps.set_shdr s.0 (shdr_with v) (shdr_with_is v is))
    (every_step_keeps_phdrs.set_shdr s.0 (shdr_with v))
    (every_step_keeps_tied.set_shdr s.0 (shdr_with v)))
script_call_keeps (call.SetItem d i v) is =
    mapped_keeps done_shown (item_set_call v d.section d.piece i) (item_keeps v d.section d.piece i)
script_call_keeps (call.AddAll d n) is =
    mapped_keeps answer.Changed (runs.addall d.section d.piece n)
    (keeps_all (runs.addall d.section d.piece n)
    (every_step_keeps.addall d.section d.piece n)
    (every_step_keeps_phdrs.addall d.section d.piece n)
    (every_step_keeps_tied.addall d.section d.piece n))
script_call_keeps call.NewScn is =
    mapped_keeps answer.Section calls.newscn (keeps_all calls.newscn
    every_step_keeps.newscn every_step_keeps_phdrs.newscn every_step_keeps_tied.newscn)
script_call_keeps (call.NewPhdr n) is =
    mapped_keeps done_shown (calls.newphdr n) (keeps_all (calls.newphdr n)
    (every_step_keeps.newphdr n) (every_step_keeps_phdrs.newphdr n)
    (every_step_keeps_tied.newphdr n))
script_call_keeps (call.NewData s bytes) is =
    mapped_keeps piece_shown (calls.newdata s.0 (items.Bytes bytes))
    (keeps_all (calls.newdata s.0 (items.Bytes bytes))
    (every_step_keeps.newdata s.0 (items.Bytes bytes) 1)
    (every_step_keeps_phdrs.newdata s.0 (items.Bytes bytes) 1)
    (every_step_keeps_tied.newdata s.0 (items.Bytes bytes) 1))
script_call_keeps (call.NewDataAligned s bytes align) is =
    mapped_keeps piece_shown (calls.newdata_aligned s.0 (items.Bytes bytes) align)
    (keeps_all (calls.newdata_aligned s.0 (items.Bytes bytes) align)
    (every_step_keeps.newdata s.0 (items.Bytes bytes) align)
    (every_step_keeps_phdrs.newdata s.0 (items.Bytes bytes) align)
    (every_step_keeps_tied.newdata s.0 (items.Bytes bytes) align))
script_call_keeps (call.Fill byte) is =
    mapped_keeps done_shown (calls.set_fill byte) (keeps_all (calls.set_fill byte)
    (every_step_keeps.set_fill byte is) (every_step_keeps_phdrs.set_fill byte)
    (every_step_keeps_tied.set_fill byte))
script_call_keeps (call.Replace d bytes) is =
    let replace = calls.replace d.section d.piece (items.Bytes bytes) in
    copying_keeps (mapped done_shown replace) (mapped_keeps done_shown replace (keeps_all replace
    (every_step_keeps.replace d.section d.piece (items.Bytes bytes))
    (every_step_keeps_phdrs.replace d.section d.piece (items.Bytes bytes))
    (every_step_keeps_tied.replace d.section d.piece (items.Bytes bytes))))
script_call_keeps (call.Flag part mark bits) is =
    mapped_keeps answer.Flags (calls.flag part mark bits) (keeps_all (calls.flag part mark bits)
    (every_step_keeps.flag part mark bits) (every_step_keeps_phdrs.flag part mark bits)
    (every_step_keeps_tied.flag part mark bits))
script_call_keeps call.Null is =
    mapped_keeps answer.Size calls.update_null (keeps_all calls.update_null
    every_step_keeps.update_null every_step_keeps_phdrs.update_null
    every_step_keeps_tied.update_null)

-- ---- The laws

pub opened_is_reopenable : OpenedIsReopenable
opened_is_reopenable image o bytes opens = record {
  object = beginnings_are.from_image image o bytes opens;
  phdrs = beginnings_are.phdrs image o bytes opens;
  tied = beginnings_are_tied.from_image image o opens;
}

pub calls_keep_reopenable : CallsKeepReopenable
unfolding left_by
calls_keep_reopenable [] o are is = is
calls_keep_reopenable (q ∷ cs) o are is =
    calls_keep_reopenable cs (step (stated_call q) o) (All-tail IsScriptCall q cs are)
    (script_call_keeps q (All-head IsScriptCall q cs are) o is)

pub calls_reopen : ((o : Object) → ReopenLaw o) → CallsReopen
calls_reopen reopens script image cs before out said bytes opens written =
    let left = left_by (stated_calls cs) before in
    let is = calls_keep_reopenable cs before (scripts_are_in_range script cs said)
    (opened_is_reopenable image before bytes opens) in
    let value = written_known left out written in
    ap opened (sym value.1) ∙ reopens left is.object is.phdrs is.tied value.0
