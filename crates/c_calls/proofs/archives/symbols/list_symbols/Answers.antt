use Rattle.std.proofs.Common.{ℕ, List, ap}
use Rattle.ar_members.specs.declared.symbols.ArSym.{ArSym}
use Rattle.ar_members.specs.Symbols.{arsyms}
use Rattle.c_handles.proofs.objects.ImageLaws.{same_image}
use Rattle.c_calls.specs.Archives.Forms.{counted_symbols}
use Rattle.c_calls.specs.Archives.Steps.{bytes_of}
use Rattle.c_calls.proofs.archives.Given.{answer_given, answer_refused}
use Rattle.c_calls.proofs.archives.symbols.list_symbols.Goals as goal

pub returns-in-Ok-clause-gives : goal.returns-in-Ok-clause-gives
returns-in-Ok-clause-gives c =
    let old = c.args.archive.now in let symbols = c.in-Ok.symbols in
    answer_given counted_symbols (arsyms (bytes_of old)) (c.args.count.now, old.symbols) symbols
    (c.len.result, symbols) c.in-Ok.ensures.symbols
    (ap (λ (n : ℕ). (n, symbols)) c.len.ensures)

pub returns-in-Ok-clause-image : goal.returns-in-Ok-clause-image
returns-in-Ok-clause-image c =
    same_image c.args.archive.now.ar.source c.arsym.new.self.source c.in-Ok.ensures.asks.leaves

pub returns-in-Err-clause-gives : goal.returns-in-Err-clause-gives
returns-in-Err-clause-gives c =
    let old = c.args.archive.now in
    answer_refused counted_symbols (arsyms (bytes_of old)) (c.args.count.now, old.symbols)
    (List ArSym) c.in-Err.e c.code_of.result c.code_of.ensures c.in-Err.ensures.asks.read
    c.in-Err.ensures.symbols

pub returns-in-Err-clause-image : goal.returns-in-Err-clause-image
returns-in-Err-clause-image c =
    same_image c.args.archive.now.ar.source c.arsym.new.self.source c.in-Err.ensures.asks.leaves
