use Rattle.std.proofs.Common.{◌∙◌}
use Rattle.nm_tool.specs.Kept.{shown_name_in, linked_shown_name}
use Rattle.nm_tool.proofs.KeptLemmas.{order_same, names_held}
use Rattle.nm_tool.proofs.Ranking.{indexes_made}
use Rattle.nm_tool.proofs.ranked.order_at_hand.Goals as goal

pub returns-in-Some : goal.returns-in-Some
returns-in-Some g c = λ told.
    let s = c.args.t.symbols.0 in
    let strings = c.in-Some.strings.now in
    indexes_made c.args.by_value (shown_name_in strings) c.args.list c.ranked.result c.ranked.ensures
    ∙ order_same c.args.by_value (shown_name_in strings) (linked_shown_name c.args.elf.now.o s)
    (names_held c.args.elf.now s c.args.t.names.0 strings c.requires.names
    c.in-Some.ensures.strings told) c.args.list
