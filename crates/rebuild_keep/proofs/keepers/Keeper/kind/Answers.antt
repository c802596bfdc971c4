use Rattle.std.proofs.Common.{ℕ, ◌==◌, sym, ap, ◌∙◌}
use Rattle.elf_update_plan.proofs.RowLaws.{ok_is}
use Rattle.rebuild_keep.specs.Keepers.{is_renewed}
use Rattle.rebuild_keep.proofs.KeeperLaws.{symbols_told, kind_renewed, kind_symbols, kind_words, kind_bytes}
use Rattle.rebuild_keep.proofs.keepers.Keeper.kind.Goals as goal

pub returns-then-is_renewed : goal.returns-then-is_renewed
returns-then-is_renewed g c =
    kind_renewed c.args.self.now c.args.elf.now.o c.args.s.0
    (sym (c.is_renewed.ensures
    ∙ ap (λ (n : ℕ). is_renewed c.args.self.now.names (c.args.s.0 == n))
    (ok_is _ _ c.shstrndx.ensures))
    ∙ c.if-is_renewed.true)

pub returns-then-is_symbol_table : goal.returns-then-is_symbol_table
returns-then-is_symbol_table g c =
    let o = c.args.elf.now.o in
    let s = c.args.s.0 in
    kind_symbols c.args.self.now o s
    (sym (c.is_renewed.ensures
    ∙ ap (λ (n : ℕ). is_renewed c.args.self.now.names (s == n)) (ok_is _ _ c.shstrndx.ensures))
    ∙ c.if-is_renewed.false)
    (symbols_told o s c.section_header-h.result c.is_symbol_table.result _
    c.section_header-h.ensures c.if-is_symbol_table.true c.is_symbol_table.ensures)

pub returns-then-follows : goal.returns-then-follows
returns-then-follows g c =
    let o = c.args.elf.now.o in
    let s = c.args.s.0 in
    kind_words c.args.self.now o s
    (sym (c.is_renewed.ensures
    ∙ ap (λ (n : ℕ). is_renewed c.args.self.now.names (s == n)) (ok_is _ _ c.shstrndx.ensures))
    ∙ c.if-is_renewed.false)
    (symbols_told o s c.section_header-h.result c.is_symbol_table.result _
    c.section_header-h.ensures c.if-is_symbol_table.false c.is_symbol_table.ensures)
    (sym c.follows.ensures ∙ c.if-follows.true)

pub returns : goal.returns
returns g c =
    let o = c.args.elf.now.o in
    let s = c.args.s.0 in
    kind_bytes c.args.self.now o s
    (sym (c.is_renewed.ensures
    ∙ ap (λ (n : ℕ). is_renewed c.args.self.now.names (s == n)) (ok_is _ _ c.shstrndx.ensures))
    ∙ c.if-is_renewed.false)
    (symbols_told o s c.section_header-h.result c.is_symbol_table.result _
    c.section_header-h.ensures c.if-is_symbol_table.false c.is_symbol_table.ensures)
    (sym c.follows.ensures ∙ c.if-follows.false)
