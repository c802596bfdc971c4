use Rattle.std.proofs.Common.{Err}
use Rattle.elf_types.specs.Answers.{◌>>=◌}
use Rattle.rebuild_model.specs.Rehashed.{with_gnu}
use Rattle.hash_build.specs.Calls.{stated}
use Rattle.rehash_tool.specs.Steps.{kept_shape, shaped_gnu}
use Rattle.rehash_tool.proofs.StepLemmas.{turns_then, turns_end, turns_of, turns_as}
use Rattle.rehash_tool.proofs.CallLemmas.{with_gnu_is}
use Rattle.rehash_tool.proofs.steps.with_gnu.Goals as goal

pub build_shaped-requires : goal.build_shaped-requires
build_shaped-requires g c = c.in-Ok.ensures.usable

pub returns-in-Ok : goal.returns-in-Ok
returns-in-Ok g c =
    let old = c.args.elf.now in
    let s = c.args.s.0 in
    let n = c.args.n in
    let came = c.in-Ok.ensures.gives in
    turns_as g.S.Source (kept_shape old.o n >>= λ shape. shaped_gnu old.o s n shape)
    (with_gnu old.o s n) c.build_shaped.result old c.build_shaped.new.elf
    (with_gnu_is old.o s n)
    (turns_then g.S.Source stated (kept_shape old.o n) (λ shape. shaped_gnu old.o s n shape)
    c.in-Ok.shape c.build_shaped.result old c.kept_shape.new.elf c.build_shaped.new.elf came
    (turns_of g.S.Source (λ p. shaped_gnu p s n (stated c.in-Ok.shape)) old.o
    c.build_shaped.result c.kept_shape.new.elf c.build_shaped.new.elf came.object
    c.build_shaped.ensures))

pub returns-in-Err : goal.returns-in-Err
returns-in-Err g c =
    let old = c.args.elf.now in
    let s = c.args.s.0 in
    let n = c.args.n in
    turns_as g.S.Source {T = Unit {0}} (kept_shape old.o n >>= λ shape. shaped_gnu old.o s n shape)
    (with_gnu old.o s n) (Err c.in-Err.e) old c.kept_shape.new.elf
    (with_gnu_is old.o s n)
    (turns_end g.S.Source stated (kept_shape old.o n) (λ shape. shaped_gnu old.o s n shape)
    c.in-Err.e old c.kept_shape.new.elf c.in-Err.ensures.gives)
