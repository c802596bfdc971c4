use Rattle.std.proofs.Common.{◌≡◌, ◌≤◌}
use Rattle.gelf_view.specs.section_data.Held.{items_of_bytes}
use Rattle.tool_objects.specs.AtHand.Items.{passing_from}
use Rattle.tool_objects.proofs.at_hand.scans.next_in.Given as goal

-- of those that pass, none stands before the place that is looked at
abbrev pub invariant-loop-i : goal.invariant-loop-i
invariant-loop-i g l =
    let items = g.T.Listed.list_of (items_of_bytes g.T.Listed.kind l.class l.order l.bytes) in
    let holds = g.C.ItemTest.holds l.test in
    record {
      begun : l.fn.span.from ≤ l.i;
      left : passing_from holds items l.fn.span.from ≡ passing_from holds items l.i;
    }
