use Rattle.gelf_view.specs.elf_object.SymbolSections.{place_of_symbol}
use Rattle.gelf_view.specs.elf_descriptor.Reads.{wanted}
use Rattle.gelf_view.specs.Calls as calls
use Rattle.gelf_view.specs.declared.symbols.SymPlace.TheVariants.{Special, Section}
use Rattle.tool_objects.specs.Symbols.{told_symbol_place}
use Rattle.tool_objects.proofs.OnceReads.{once_word}
use Rattle.tool_objects.proofs.QueryLemmas.{learns_unless, unless_stated}
use Rattle.tool_objects.proofs.symbols.symbol_place_or_stop.Goals as goal

pub returns : goal.returns
unfolding told_symbol_place
returns g c =
    let told = c.args.elf.now.told in
    let o = c.args.elf.now.o in
    let call = calls.symbol_place told c.args.s.0 c.args.i c.args.x in
    rw c.unless_refused.ensures (learns_unless g.S.Source call _ c.args.elf.now _ (once_word o c.args.i _)
    (λ m. told_symbol_place m c.args.s.0 c.args.i c.args.x) c.symbol_place.result
    (unless_stated told (wanted call c.args.elf.now) c.symbol_place.result (place_of_symbol Special Section o c.args.s.0 c.args.i c.args.x) c.symbol_place.ensures.answer)
    c.symbol_place.ensures.looks)
