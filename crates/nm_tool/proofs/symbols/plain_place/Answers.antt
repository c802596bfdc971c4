use Rattle.std.proofs.Common.{◌∙◌, sym, arith}
use Rattle.nm_tool.proofs.PlaceLemmas.{place_below, place_extended, place_special}
use Rattle.nm_tool.proofs.symbols.plain_place.Goals as goal

pub returns-then-index-lt-SHN_LORESERVE : goal.returns-then-index-lt-SHN_LORESERVE
returns-then-index-lt-SHN_LORESERVE c = λ o s i x none is.
    place_below o s i x c.from-index.result none (is ∙ sym c.from-index.ensures)
    c.if-index-lt-SHN_LORESERVE.true

pub returns-then-index-eq-SHN_XINDEX : goal.returns-then-index-eq-SHN_XINDEX
returns-then-index-eq-SHN_XINDEX c = λ o s i x none is.
    place_extended o s i x c.from-index.result none (is ∙ sym c.from-index.ensures)
    c.if-index-lt-SHN_LORESERVE.false c.if-index-eq-SHN_XINDEX.true

pub returns : goal.returns
returns c = λ o s i x none is.
    place_special o s i x c.args.shndx none is
    (omega (arith, c.if-index-lt-SHN_LORESERVE.false, c.from-index.ensures))
    (λ e. c.if-index-eq-SHN_XINDEX.false (c.from-index.ensures ∙ e))
