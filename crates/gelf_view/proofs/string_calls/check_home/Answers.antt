use Rattle.std.proofs.Common.{sym, ◌∙◌, arith}
use Rattle.gelf_view.proofs.HomeLemmas.{below_count, others_own, home_inside, home_of_none, home_of_own, home_refused}
use Rattle.gelf_view.proofs.string_calls.check_home.Goals as goal
use Rattle.gelf_view.proofs.string_calls.check_home.Goals.{then-count-eq0-via-then-count-eq0, then-count-eq0-via-else-count-eq0+then-is_edited}

pub returns-then-not-is_out-clause-answer : goal.returns-then-not-is_out-clause-answer
returns-then-not-is_out-clause-answer g c =
    home_inside c.args.elf.now.o c.args.s.0 c.home_len.result c.is_out.ensures.object (sym c.is_out.ensures.out ∙ c.if-not-is_out.true) c.home_len.ensures

pub returns-then-not-is_out-clause-others : goal.returns-then-not-is_out-clause-others
returns-then-not-is_out-clause-others g c = others_own c.args.elf.now.o c.args.s.0 c.is_out.ensures.object

pub is_edited-requires : goal.is_edited-requires
is_edited-requires g c = below_count c.args.elf.now.o c.args.s.0 0 c.requires.section (omega arith)

pub returns-then-count-eq0-clause-answer : goal.returns-then-count-eq0-clause-answer
returns-then-count-eq0-clause-answer g c =
    let out = sym c.is_out.ensures.out ∙ c.if-not-is_out.false in
    elim c.then-count-eq0.branch [
      | then-count-eq0-via-then-count-eq0 w ↦ home_of_none c.args.elf.now.o c.args.s.0 c.is_out.ensures.object out (sym c.requires.count ∙ w.if-count-eq0.true)
      | then-count-eq0-via-else-count-eq0+then-is_edited w ↦
          home_of_own c.args.elf.now.o c.args.s.0 c.is_out.ensures.object out (omega (arith, c.requires.count, w.if-count-eq0.false)) (sym w.is_edited.ensures ∙ w.if-is_edited.true)
    ]

pub returns-then-count-eq0-clause-others : goal.returns-then-count-eq0-clause-others
returns-then-count-eq0-clause-others g c = others_own c.args.elf.now.o c.args.s.0 c.is_out.ensures.object

pub returns-clause-answer : goal.returns-clause-answer
returns-clause-answer g c =
    home_refused c.args.elf.now.o c.args.s.0 (sym c.is_out.ensures.out ∙ c.if-not-is_out.false) (omega (arith, c.requires.count, c.if-count-eq0.false)) (sym c.is_edited.ensures ∙ c.if-is_edited.false)

pub returns-clause-others : goal.returns-clause-others
returns-clause-others g c = others_own c.args.elf.now.o c.args.s.0 c.is_out.ensures.object
