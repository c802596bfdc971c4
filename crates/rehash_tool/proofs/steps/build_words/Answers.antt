use Rattle.std.proofs.Common.{Ok, Err}
use Rattle.elf_xlate.specs.declared.content.Items.TheVariants as items
use Rattle.elf_object.specs.Calls as calls
use Rattle.tool_files.specs.elf_descriptor.Reads.{wanted}
use Rattle.elf_object.specs.Sections.{edited}
use Rattle.hash_model.specs.BuiltHashes.{build_sysv_answer}
use Rattle.hash_build.specs.Calls as built
use Rattle.rehash_tool.proofs.StepLemmas.{answers_given, turns_then, turns_end, turns_of}
use Rattle.rehash_tool.proofs.CallLemmas.{looked}
use Rattle.rehash_tool.proofs.steps.build_words.Goals as goal

pub build_sysv-requires : goal.build_sysv-requires
build_sysv-requires g c = c.requires

pub returns-in-Ok : goal.returns-in-Ok
returns-in-Ok g c =
    let old = c.args.elf.now in
    let n = c.args.n in
    let call = built.build_sysv c.args.s.0 c.args.nbucket in
    let came = c.in-Ok.ensures in
    turns_then g.S.Source (λ x. x) (build_sysv_answer old.o c.args.s.0 c.args.nbucket)
    (λ words. edited (calls.replace n 0 (items.Word words)) old.o) c.in-Ok.words
    c.put_items.result old c.build_sysv.new.elf c.put_items.new.elf
    (looked g.S.Source call (Ok c.in-Ok.words) old c.build_sysv.new.elf
    (answers_given old.told (wanted call old) (Ok c.in-Ok.words) (call.answer old.o) came.answer)
    came.looks)
    (turns_of g.S.Source (λ p. edited (calls.replace n 0 (items.Word c.in-Ok.words)) p) old.o
    c.put_items.result c.build_sysv.new.elf c.put_items.new.elf came.looks.object
    c.put_items.ensures)

pub returns-in-Err : goal.returns-in-Err
returns-in-Err g c =
    let old = c.args.elf.now in
    let n = c.args.n in
    let call = built.build_sysv c.args.s.0 c.args.nbucket in
    let came = c.in-Err.ensures in
    turns_end g.S.Source (λ x. x) (build_sysv_answer old.o c.args.s.0 c.args.nbucket)
    (λ words. edited (calls.replace n 0 (items.Word words)) old.o) c.in-Err.e old
    c.build_sysv.new.elf
    (looked g.S.Source call (Err c.in-Err.e) old c.build_sysv.new.elf
    (answers_given old.told (wanted call old) (Err c.in-Err.e) (call.answer old.o) came.answer)
    came.looks)
