use Rattle.std.proofs.Common.{Ok, Err, Some, ap, ◌∙◌, below_more, arith}
use Rattle.std.proofs.lemmas.Result.{err_from_is_err_and}
use Rattle.elf_types.specs.declared.records.Kind.TheVariants as kinds
use Rattle.hash_model.proofs.elf_object.AnswerLaws.{lend_passed}
use Rattle.symbol_lookup.specs.Lookups.{linear_needs}
use Rattle.symbol_lookup.proofs.SearchLaws.{searches_both, searches_value, searches_end}
use Rattle.symbol_lookup.proofs.LinearLaws.{none_found, first_found, still_has, told_match, passed_more}
use Rattle.symbol_lookup.proofs.linear.first_match.Goals as goal

pub link-strings-requires : goal.link-strings-requires
link-strings-requires g c = (lend_passed c.args.elf.now.o kinds.Sym c.args.s.0 0 c.requires.passed).0

pub returns-in_err-is_match-clause-searches : goal.returns-in_err-is_match-clause-searches
returns-in_err-is_match-clause-searches g c =
    let p = err_from_is_err_and c.from_residual.result c.from_residual.ensures.1 in
    let needs = linear_needs c.args.elf.now.o c.args.s.0 in
    rw (p.1, p.2) (searches_end g.S.Source needs _ c.args.elf.now c.is_match.new.elf
    (searches_both g.S.Source needs (tt {0}) (Err _) c.args.elf.now c.loop-next.elf c.is_match.new.elf c.loop-next.invariant.1
    (c.in_err-is_match.ensures.searches needs (still_has c.args.elf.now c.loop-next.elf c.args.s.0 c.loop-next.invariant.0))))

pub returns-then-branch-clause-follows : goal.returns-then-branch-clause-follows
returns-then-branch-clause-follows g c = λ told.
    ap Ok (first_found c.args.elf.now.o c.args.s.0 c.args.count c.args.name.now c.requires.passed c.requires.count c.pass_over-i.result (omega (arith, c.if-i-count.false)) (passed_more c.args.elf.now c.loop-next.elf c.args.s.0 c.loop-next.invariant.0 c.args.name.now c.loop-next.next c.pass_over-i.result c.loop-next.invariant.2 c.pass_over-i.ensures.passed told)
    (told_match c.args.elf.now c.loop-next.elf c.args.s.0 c.loop-next.invariant.0 c.args.name.now c.pass_over-i.result _ c.in_ok-is_match.ensures.follows told ∙ c.if-branch.true))

pub returns-then-branch-clause-searches : goal.returns-then-branch-clause-searches
returns-then-branch-clause-searches g c =
    let needs = linear_needs c.args.elf.now.o c.args.s.0 in
    searches_value g.S.Source needs _ (Some c.pass_over-i.result) c.args.elf.now c.is_match.new.elf
    (searches_both g.S.Source needs (tt {0}) (Ok _) c.args.elf.now c.loop-next.elf c.is_match.new.elf c.loop-next.invariant.1
    (c.in_ok-is_match.ensures.searches needs (still_has c.args.elf.now c.loop-next.elf c.args.s.0 c.loop-next.invariant.0)))

pub loop-next-preserved : goal.loop-next-preserved
loop-next-preserved g c =
    let needs = linear_needs c.args.elf.now.o c.args.s.0 in (
      record {
        object = c.in_ok-is_match.ensures.stays.object ∙ c.loop-next.invariant.0.object;
        told = c.in_ok-is_match.ensures.stays.told ∙ c.loop-next.invariant.0.told;
      },
      searches_value g.S.Source needs _ (tt {0}) c.args.elf.now c.is_match.new.elf
          (searches_both g.S.Source needs (tt {0}) (Ok _) c.args.elf.now c.loop-next.elf c.is_match.new.elf c.loop-next.invariant.1
          (c.in_ok-is_match.ensures.searches needs (still_has c.args.elf.now c.loop-next.elf c.args.s.0 c.loop-next.invariant.0))),
      λ told. below_more _ _ (passed_more c.args.elf.now c.loop-next.elf c.args.s.0 c.loop-next.invariant.0 c.args.name.now c.loop-next.next c.pass_over-i.result c.loop-next.invariant.2 c.pass_over-i.ensures.passed told)
          (told_match c.args.elf.now c.loop-next.elf c.args.s.0 c.loop-next.invariant.0 c.args.name.now c.pass_over-i.result _ c.in_ok-is_match.ensures.follows told ∙ c.if-branch.false),
    )

pub returns-clause-follows : goal.returns-clause-follows
returns-clause-follows g c = λ told.
    ap Ok (none_found c.args.elf.now.o c.args.s.0 c.args.count c.args.name.now c.requires.passed c.requires.count (λ j below. c.loop-next.invariant.2 told j (omega (arith, below, c.loop-next-test.false))))

pub returns-then-i-count-clause-follows : goal.returns-then-i-count-clause-follows
returns-then-i-count-clause-follows g c = λ told.
    ap Ok (none_found c.args.elf.now.o c.args.s.0 c.args.count c.args.name.now c.requires.passed c.requires.count
    (λ j below. passed_more c.args.elf.now c.loop-next.elf c.args.s.0 c.loop-next.invariant.0 c.args.name.now c.loop-next.next c.pass_over-i.result c.loop-next.invariant.2 c.pass_over-i.ensures.passed told j (omega (arith, below, c.if-i-count.true))))
