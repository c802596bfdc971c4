use Rattle.std.proofs.Common.{Some, None}
use Rattle.rebuild_numbers.proofs.SymLaws.{extended_follows}
use Rattle.rebuild_numbers.proofs.symbols.followed_extended.Goals as goal

pub returns-in-Some : goal.returns-in-Some
returns-in-Some c =
    extended_follows c.args.numbering.now c.args.word c.args.x c.moved_sym.result
    (Some c.in-Some.number) c.in-Some.ensures.value c.moved_sym.ensures

pub returns-in-None : goal.returns-in-None
returns-in-None c =
    extended_follows c.args.numbering.now c.args.word c.args.x c.without_section.result
    None c.in-None.ensures.value c.without_section.ensures
