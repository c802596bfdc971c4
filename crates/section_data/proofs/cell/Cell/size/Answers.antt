use Rattle.std.proofs.Common.{◌≡◌, ◌+◌, ◌<◌, ◌≤◌, ℕ, List, length, drop, sym, ap, ◌∙◌, arith}
use Rattle.std.proofs.Math.ListN.{drop_of_length-le}
use Rattle.elf_object.specs.Object.{Piece}
use Rattle.section_data.specs.Held.{piece_in}
use Rattle.section_data.specs.Sizes.{piece_end, stacked_end}
use Rattle.section_data.proofs.Sizes.{stacked_end_next, stacked_end_le}
use Rattle.section_data.proofs.LeadingPieces.{size_from}
use Rattle.section_data.proofs.cell.Cell.size.Goals as goal

pub loop-p-init : goal.loop-p-init
loop-p-init c = (
  omega arith,
  size_from c.args.class c.args.self.now c.first_pieces-first.result.count
      c.first_pieces-first.result.end c.first_pieces-first.ensures.first
      ∙ ap (λ (n : ℕ).
      stacked_end c.args.class n c.first_pieces-first.result.end
      (drop c.first_pieces-first.result.count c.args.self.now.pieces))
      (sym c.home_size-home_len.ensures),
)

pub returns-in-None : goal.returns-in-None
unfolding piece_in
returns-in-None c =
    let there : c.loop-p.p < length c.args.self.now.pieces = omega (arith, c.loop-p-test.true, c.piece_count-p-end.ensures.value) in
    let next = piece_end c.args.class c.home_size-home_len.result c.loop-p.end c.piece.result.now in
    let same : next ≡ _ = ap (λ (q : Piece). piece_end c.args.class c.home_size-home_len.result c.loop-p.end q) c.piece.ensures.value in
    let later = stacked_end_le c.args.class c.home_size-home_len.result (piece_end c.args.class c.home_size-home_len.result c.loop-p.end (piece_in c.args.self.now c.loop-p.p)) (drop (c.loop-p.p + 1) c.args.self.now.pieces) in
    let whole = c.loop-p.invariant.1 ∙ stacked_end_next c.args.class c.home_size-home_len.result c.loop-p.end c.args.self.now.pieces c.loop-p.p there in
    omega (arith, c.in-None.ensures, same, later, whole)

pub loop-p-preserved : goal.loop-p-preserved
unfolding piece_in
loop-p-preserved c =
    let there : c.loop-p.p < length c.args.self.now.pieces = omega (arith, c.loop-p-test.true, c.piece_count-p-end.ensures.value) in
    let same = ap (λ (q : Piece). piece_end c.args.class c.home_size-home_len.result c.loop-p.end q) c.piece.ensures.value in (
      omega (arith, c.in-Some.ensures.0, c.in-Some.ensures.1),
      c.loop-p.invariant.1
          ∙ stacked_end_next c.args.class c.home_size-home_len.result c.loop-p.end c.args.self.now.pieces c.loop-p.p there
          ∙ ap (λ (n : ℕ). stacked_end c.args.class c.home_size-home_len.result n (drop (c.loop-p.p + 1) c.args.self.now.pieces)) (sym (c.in-Some.ensures.1 ∙ same)),
    )

pub returns : goal.returns
unfolding stacked_end
returns c =
    let all : length c.args.self.now.pieces ≤ c.loop-p.p = omega (arith, c.loop-p-test.false, c.piece_count-p-end.ensures.value) in
    let whole = c.loop-p.invariant.1
    ∙ ap (λ (l : List Piece). stacked_end c.args.class c.home_size-home_len.result c.loop-p.end l) (drop_of_length-le c.args.self.now.pieces all) in
    omega (arith, c.loop-p.invariant.0, whole)
