use Rattle.std.proofs.Common.{◌≡◌, ◌/◌, sym, ap, ◌∙◌}
use Rattle.std.specs.Prelude.{is_some}
use Rattle.elf_types.specs.declared.records.Kind.{Kind}
use Rattle.elf_object.specs.elf_xlate.Items.{item_size}
use Rattle.elf_object.specs.Object.{Piece}
use Rattle.section_data.proofs.Holdings.{kind_own, kind_clean, count_own, count_clean}
use Rattle.section_data.proofs.cell.Cell.item_count.Goals as goal

pub list-requires : goal.list-requires
list-requires g c =
    let own = ap (λ (q : Piece). q.own) (sym c.piece-piece.ensures.value) ∙ c.items.ensures in
    sym (kind_own c.args.self.now c.args.p c.items.result.now own) ∙ c.requires.kind

pub returns-then-is_own : goal.returns-then-is_own
returns-then-is_own g c =
    let own = ap (λ (q : Piece). q.own) (sym c.piece-piece.ensures.value) ∙ c.items.ensures in
    c.len.ensures ∙ c.list.ensures.counted ∙ sym (count_own c.args.class c.args.self.now c.args.p c.items.result.now own)

pub nonzero_div-result : goal.nonzero_div-result
nonzero_div-result g c = rw c.size.ensures (g.met.T.Item.sized c.args.class)

pub returns : goal.returns
returns g c =
    let clean : is_some (c.piece-piece.result.now).own ≡ _ = sym c.is_own.ensures.value ∙ c.if-is_own.false in
    let there = ap (λ (q : Piece). is_some q.own) (sym c.piece-piece.ensures.value) ∙ clean in
    let kind = sym (kind_clean c.args.self.now c.args.p there) ∙ c.requires.kind in
    ap (λ n. c.home.result.len / n) (c.size.ensures ∙ ap (λ (k : Kind). item_size k c.args.class) (sym kind))
    ∙ ap (λ n. n / item_size c.args.self.now.home.kind c.args.class) c.home.ensures.len
    ∙ ap (λ n. n.home.len / item_size c.args.self.now.home.kind c.args.class) c.self.view_is
    ∙ sym (count_clean c.args.class c.args.self.now c.args.p there)
