use Rattle.std.proofs.Common.{ℕ, List, [], ◌∷◌, length, take, drop, sym, ap, ◌∙◌, subst, arith, rules}
use Rattle.std.specs.Prelude.{All}
use Rattle.std.proofs.lemmas.List.Elements.{All-cons, All-append}
use Rattle.nm_tool.specs.declared.order.SymbolSortRow.{SymbolSortRow}
use Rattle.nm_tool.specs.Keys.{KeyIs}
use Rattle.nm_tool.proofs.RowLemmas.{rows_begin, rows_more, rows_all, take_least, drop_least}
use Rattle.nm_tool.proofs.pools.rows_of.Goals as goal

pub loop-spot-init : goal.loop-spot-init
loop-spot-init c = record {
  rows = rows_begin c.args.by_value c.in_ok-rows.rows.items _ _ _ _ c.in_ok-rows.ensures.items c.as_slice-names.ensures c.as_slice-spots.ensures;
  keys = λ k d lt. absurd (omega (arith, lt, ap (λ (l : List SymbolSortRow). length l) c.in_ok-rows.ensures.items));
}

pub loop-spot-preserved : goal.loop-spot-preserved
loop-spot-preserved c =
    let P : SymbolSortRow → Type 0 = KeyIs c.args.by_value in
    let names = c.loop-spot.names.now in record {
      rows = rows_more c.args.by_value c.loop-spot.rows.items c.push.new.self.items c.row_of.result names c.split_at.result.0.now c.split_at.result.1.now c.as_slice-spots.result.now c.loop-spot.spot-index _ _
          c.loop-spot-test.true (search rules) c.row_of.ensures.entry
          (c.split_at.ensures.front ∙ ap (λ (n : ℕ). take n names) c.min-len.ensures ∙ take_least _ names)
          (c.split_at.ensures.back ∙ ap (λ (n : ℕ). drop n names) c.min-len.ensures ∙ drop_least _ names)
          c.in_ok-push.ensures.items c.loop-spot.invariant.rows;
      keys = subst (λ (l : List SymbolSortRow). All P l) (sym c.in_ok-push.ensures.items)
          (All-append P c.loop-spot.rows.items (c.row_of.result ∷ []) c.loop-spot.invariant.keys (All-cons P c.row_of.result [] c.row_of.ensures.key (λ k d lt. absurd (omega (arith, lt)))));
    }

pub returns-clause-rows : goal.returns-clause-rows
returns-clause-rows c = rows_all _ _ _ _ _ _ c.loop-spot-test.false c.loop-spot.invariant.rows
