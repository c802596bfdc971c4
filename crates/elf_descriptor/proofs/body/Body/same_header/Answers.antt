use Rattle.std.proofs.Common.{◌≡◌, ◌∙◌, true, false}
use Rattle.elf_descriptor.proofs.FrontTables.{header_alike, header_other}
use Rattle.elf_descriptor.proofs.body.Body.same_header.Goals as goal

pub returns-then-same : goal.returns-then-same
returns-then-same c =
    let yes : c.same_ehdr-same.result ≡ true = cc in
    λ fits long class order stored.
    header_alike c.ehdr_both_ways.ensures.written c.args.h.now c.args.front.now.header
    c.args.self.now.pad c.args.front.now.pad c.same_ehdr-same.ensures.ranged c.requires
    fits long class order stored c.same_ehdr-same.result c.same_pad-alike.result
    yes c.same_ehdr-same.ensures.same c.same_pad-alike.ensures

pub returns-else-same : goal.returns-else-same
returns-else-same c =
    let no : c.same_ehdr-same.result ≡ false = cc in
    λ fits long class order stored.
    no
    ∙ header_other c.ehdr_both_ways.ensures.written c.args.h.now c.args.front.now.header
    c.args.self.now.pad c.args.front.now.pad c.same_ehdr-same.ensures.ranged c.requires
    fits long class order stored c.same_ehdr-same.result c.same_pad-alike.result
    no c.same_ehdr-same.ensures.same c.same_pad-alike.ensures
