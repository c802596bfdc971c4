use Rattle.std.proofs.Common.{Ok, Err}
use Rattle.elf_types.specs.Answers.{answered}
use Rattle.hash_model.specs.Reordered.{reordered, reorder_refusal}
use Rattle.hash_build.specs.Calls.{stated}
use Rattle.hash_order.specs.Calls.{reorder_wants}
use Rattle.rehash_tool.specs.Steps.{built_gnu}
use Rattle.rehash_tool.proofs.StepLemmas.{object_then, object_end}
use Rattle.rehash_tool.proofs.CallLemmas.{reorder_turns}
use Rattle.rehash_tool.proofs.steps.build_sorted.Goals as goal

pub reorder-requires : goal.reorder-requires
reorder-requires g c = c.requires.order

pub build_in-requires : goal.build_in-requires
build_in-requires g c = c.requires.usable

pub returns-in-Ok : goal.returns-in-Ok
returns-in-Ok g c =
    let old = c.args.elf.now in
    let s = c.args.s.0 in
    let order = c.args.order.now in
    object_then g.S.Source (answered (reorder_refusal old.o s) (reordered old.o s order))
    (λ p. built_gnu p s c.args.n (stated c.args.shape)) (tt {0}) c.build_in.result old
    c.reorder.new.elf c.build_in.new.elf
    (reorder_turns g.S.Source (reorder_wants old s) s order (Ok tt) old c.reorder.new.elf
    c.in-Ok.ensures.answer
    c.in-Ok.ensures.reorders)
    c.build_in.ensures

pub returns-in-Err : goal.returns-in-Err
returns-in-Err g c =
    let old = c.args.elf.now in
    let s = c.args.s.0 in
    let order = c.args.order.now in
    object_end g.S.Source (answered (reorder_refusal old.o s) (reordered old.o s order))
    (λ p. built_gnu p s c.args.n (stated c.args.shape)) {T = Unit {0}} c.in-Err.e old
    c.reorder.new.elf
    (reorder_turns g.S.Source (reorder_wants old s) s order (Err c.in-Err.e) old c.reorder.new.elf
    c.in-Err.ensures.answer c.in-Err.ensures.reorders)
