use Rattle.std.proofs.Common.{Ok, Err}
use Rattle.elf_xlate.specs.declared.content.Items.TheVariants as items
use Rattle.elf_object.specs.Calls as calls
use Rattle.tool_files.specs.elf_descriptor.Reads.{wanted}
use Rattle.elf_object.specs.Sections.{edited}
use Rattle.hash_model.specs.BuiltHashes.{build_gnu_answer, hash_refusal}
use Rattle.hash_build.specs.Calls as built
use Rattle.rehash_tool.proofs.StepLemmas.{answers_read_given, turns_then, turns_end, turns_of}
use Rattle.rehash_tool.proofs.CallLemmas.{looked}
use Rattle.rehash_tool.proofs.steps.build_in.Goals as goal

pub build_gnu-requires-clause-shift : goal.build_gnu-requires-clause-shift
build_gnu-requires-clause-shift g c = c.requires.shift

pub build_gnu-requires-clause-bloom : goal.build_gnu-requires-clause-bloom
build_gnu-requires-clause-bloom g c = c.requires.bloom

pub build_gnu-requires-clause-buckets : goal.build_gnu-requires-clause-buckets
build_gnu-requires-clause-buckets g c = c.requires.buckets

pub returns-in-Ok : goal.returns-in-Ok
returns-in-Ok g c =
    let old = c.args.elf.now in
    let n = c.args.n in
    let call = built.build_gnu c.args.s.0 c.args.shape in
    let came = c.in-Ok.ensures in
    turns_then g.S.Source (λ x. x) (build_gnu_answer old.o c.args.s.0 (built.stated c.args.shape))
    (λ bytes. edited (calls.replace n 0 (items.Bytes bytes)) old.o) c.in-Ok.bytes
    c.put_items.result old c.build_gnu.new.elf c.put_items.new.elf
    (looked g.S.Source call (Ok c.in-Ok.bytes) old c.build_gnu.new.elf
    (answers_read_given old.told (wanted call old)
    (built.order_refusals (hash_refusal old.o c.args.s.0)) (Ok c.in-Ok.bytes)
    (call.answer old.o) came.answer)
    came.looks)
    (turns_of g.S.Source (λ p. edited (calls.replace n 0 (items.Bytes c.in-Ok.bytes)) p) old.o
    c.put_items.result c.build_gnu.new.elf c.put_items.new.elf came.looks.object
    c.put_items.ensures)

pub returns-in-Err : goal.returns-in-Err
returns-in-Err g c =
    let old = c.args.elf.now in
    let n = c.args.n in
    let call = built.build_gnu c.args.s.0 c.args.shape in
    let came = c.in-Err.ensures in
    turns_end g.S.Source (λ x. x) (build_gnu_answer old.o c.args.s.0 (built.stated c.args.shape))
    (λ bytes. edited (calls.replace n 0 (items.Bytes bytes)) old.o) c.in-Err.e old
    c.build_gnu.new.elf
    (looked g.S.Source call (Err c.in-Err.e) old c.build_gnu.new.elf
    (answers_read_given old.told (wanted call old)
    (built.order_refusals (hash_refusal old.o c.args.s.0)) (Err c.in-Err.e)
    (call.answer old.o) came.answer)
    came.looks)
