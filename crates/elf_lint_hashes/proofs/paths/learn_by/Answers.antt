use Rattle.std.proofs.Common.{sym, ◌∙◌, arith}
use Rattle.elf_lint_hashes.proofs.PathLaws.{paths_more}
use Rattle.elf_lint_hashes.proofs.paths.learn_by.Goals as goal

pub store-requires-clause-steps : goal.store-requires-clause-steps
store-requires-clause-steps c = (c.has_place.ensures c.if-not-has_place.false).0

pub store-requires-clause-leaps : goal.store-requires-clause-leaps
store-requires-clause-leaps c = (c.has_place.ensures c.if-not-has_place.false).1

pub returns : goal.returns
returns c =
    let there = c.has_place.ensures c.if-not-has_place.false in
    paths_more c.args.words.now c.args.t c.args.paths.now c.requires.are c.store.new.paths
    c.args.at c.args.next c.number_of-steps.result c.leap_behind-leap.result c.requires.other
    c.requires.next (sym c.is_known.ensures ∙ c.if-not-is_known.false) c.number_of-steps.ensures
    (omega arith) c.leap_behind-leap.ensures there.0 there.1 c.store.ensures.steps
    c.store.ensures.leaps
