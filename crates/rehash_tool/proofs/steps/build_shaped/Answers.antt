use Rattle.std.proofs.Common.{Ok, Err}
use Rattle.tool_files.specs.elf_descriptor.Reads.{wanted}
use Rattle.hash_model.specs.BuiltHashes.{gnu_order_answer}
use Rattle.hash_build.specs.Calls as built
use Rattle.rehash_tool.specs.Steps.{sorted_gnu}
use Rattle.rehash_tool.proofs.StepLemmas.{answers_given, turns_then, turns_end, turns_of}
use Rattle.rehash_tool.proofs.CallLemmas.{looked, order_of_symbols}
use Rattle.rehash_tool.proofs.steps.build_shaped.Goals as goal

pub build_sorted-requires-clause-usable : goal.build_sorted-requires-clause-usable
build_sorted-requires-clause-usable g c = c.requires

pub gnu_order-requires : goal.gnu_order-requires
gnu_order-requires g c = c.requires.buckets

pub build_sorted-requires-clause-order : goal.build_sorted-requires-clause-order
build_sorted-requires-clause-order g c =
    order_of_symbols c.args.elf.now.o c.gnu_order.new.elf.o c.args.s.0 c.args.shape.nbuckets
    c.in-Ok.order c.in-Ok.ensures.looks.object c.in-Ok.ensures.answer.0 c.in-Ok.ensures.whole

pub returns-in-Ok : goal.returns-in-Ok
returns-in-Ok g c =
    let old = c.args.elf.now in
    let s = c.args.s.0 in
    let shape = built.stated c.args.shape in
    let call = built.gnu_order s c.args.shape.nbuckets in
    let came = c.in-Ok.ensures in
    turns_then g.S.Source (λ x. x) (gnu_order_answer old.o s c.args.shape.nbuckets)
    (λ order. sorted_gnu old.o s c.args.n shape order) c.in-Ok.order c.build_sorted.result old
    c.gnu_order.new.elf c.build_sorted.new.elf
    (looked g.S.Source call (Ok c.in-Ok.order) old c.gnu_order.new.elf
    (answers_given old.told (wanted call old) (Ok c.in-Ok.order) (call.answer old.o) came.answer)
    came.looks)
    (turns_of g.S.Source (λ p. sorted_gnu p s c.args.n shape c.in-Ok.order) old.o
    c.build_sorted.result c.gnu_order.new.elf c.build_sorted.new.elf came.looks.object
    c.build_sorted.ensures)

pub returns-in-Err : goal.returns-in-Err
returns-in-Err g c =
    let old = c.args.elf.now in
    let s = c.args.s.0 in
    let shape = built.stated c.args.shape in
    let call = built.gnu_order s c.args.shape.nbuckets in
    let came = c.in-Err.ensures in
    turns_end g.S.Source (λ x. x) (gnu_order_answer old.o s c.args.shape.nbuckets)
    (λ order. sorted_gnu old.o s c.args.n shape order) c.in-Err.e old c.gnu_order.new.elf
    (looked g.S.Source call (Err c.in-Err.e) old c.gnu_order.new.elf
    (answers_given old.told (wanted call old) (Err c.in-Err.e) (call.answer old.o) came.answer)
    came.looks)
