use Rattle.std.proofs.Common.{refl, arith}
use Rattle.tool_output.proofs.SourceLemmas.{refuses_after}
use Rattle.tool_objects.specs.Images.{image_report}
use Rattle.tool_objects.specs.Archives.{member_report}
use Rattle.tool_objects.proofs.MemberAsked.{asked_begins, asked_goes_on, asked_ends, asked_breaks_by}
use Rattle.tool_objects.proofs.MemberLemmas.{left_report, member_left, no_member_left, bad_left}
use Rattle.tool_objects.proofs.SourceSteps.{after_read, way_begins, way_goes_on, way_stops_at, way_last_by, way_ends}
use Rattle.tool_objects.proofs.archives.show_members.Goals as goal

pub loop-header-init : goal.loop-header-init
loop-header-init g c = record {
  way = way_begins g.S.Source g.O.Sink g.E.Sink c.args.archive.source c.args.outputs.now _;
  asks = asked_begins (g.T.ObjectTool.looks c.args.tool.now)
      (g.S.Source.holds c.args.archive.source) c.args.archive.walk _;
}

pub loop-header-preserved : goal.loop-header-preserved
loop-header-preserved g c =
    let command = g.T.ObjectTool.command c.args.tool.now in
    let report = image_report command (g.T.ObjectTool.report c.args.tool.now) in
    let file = c.args.file.now in
    let header = c.in-Ok-Some.header in
    let next = c.in-Ok-Some.ensures in
    let member = c.show_member-after.ensures in
    let i = c.loop-header.invariant in
    rw member.walk (record {
      way = way_goes_on i.way (λ bytes. member_report report file bytes header)
          (left_report command report file c.next.new.self.walk)
          (member_left command report file (g.S.Source.holds c.loop-header.archive.source)
          c.loop-header.archive.walk c.next.new.self.walk header
          (rw c.in-Ok-Some.field-0-is at next.members))
          (after_read g.S.Source g.O.Sink g.E.Sink _ _ _ _ _ _ _ _ _ next.asks
          (rw c.in-Ok.is at member.reports)) refl;
      asks = asked_goes_on (g.T.ObjectTool.looks c.args.tool.now)
          (g.S.Source.holds c.args.archive.source) (g.S.Source.holds c.loop-header.archive.source)
          i.way.source.same_bytes
          c.args.archive.walk c.loop-header.archive.walk _ _ i.asks _ c.next.new.self.walk header _
          _ next.asks.leaves.same_bytes
          (rw c.in-Ok-Some.field-0-is at next.members) next.left (rw c.in-Ok.is at member.asks);
    })

pub show_member-after-requires : goal.show_member-after-requires
show_member-after-requires g c =
    let next = c.in-Ok-Some.ensures in
    let lies = rw c.in-Ok-Some.field-0-is at next.lies in
    let within = lies.within in
    let same = next.asks.leaves.same_len in
    omega (arith, within, same)

pub returns-in-Err-shown-clause-reports : goal.returns-in-Err-shown-clause-reports
returns-in-Err-shown-clause-reports g c =
    let command = g.T.ObjectTool.command c.args.tool.now in
    let report = image_report command (g.T.ObjectTool.report c.args.tool.now) in
    let file = c.args.file.now in
    let header = c.in-Ok-Some.header in
    way_stops_at c.loop-header.invariant.way (λ bytes. member_report report file bytes header)
    (left_report command report file c.next.new.self.walk)
    (member_left command report file (g.S.Source.holds c.loop-header.archive.source) c.loop-header.archive.walk c.next.new.self.walk header (rw c.in-Ok-Some.field-0-is at c.in-Ok-Some.ensures.members))
    (after_read g.S.Source g.O.Sink g.E.Sink _ _ _ _ _ _ _ _ _ c.in-Ok-Some.ensures.asks (rw c.in-Err-shown.is at c.show_member-after.ensures.reports))

pub returns-in-Ok-None-clause-reports : goal.returns-in-Ok-None-clause-reports
returns-in-Ok-None-clause-reports g c =
    let command = g.T.ObjectTool.command c.args.tool.now in
    let report = image_report command (g.T.ObjectTool.report c.args.tool.now) in
    way_ends c.loop-header.invariant.way _ _ _ c.in-Ok-None.ensures.asks
    (no_member_left command report c.args.file.now (g.S.Source.holds c.loop-header.archive.source) c.loop-header.archive.walk c.next.new.self.walk (rw c.in-Ok-None.field-0-is at c.in-Ok-None.ensures.members))

pub returns-in-Ok-None-clause-asks : goal.returns-in-Ok-None-clause-asks
returns-in-Ok-None-clause-asks g c =
    let i = c.loop-header.invariant in
    asked_ends (g.T.ObjectTool.looks c.args.tool.now) (g.S.Source.holds c.args.archive.source)
    (g.S.Source.holds c.loop-header.archive.source) i.way.source.same_bytes
    c.args.archive.walk c.loop-header.archive.walk _ _ i.asks c.next.new.self.walk _
    c.in-Ok-None.ensures.left

pub returns-in-Err-clause-reports : goal.returns-in-Err-clause-reports
returns-in-Err-clause-reports g c =
    let command = g.T.ObjectTool.command c.args.tool.now in
    let report = image_report command (g.T.ObjectTool.report c.args.tool.now) in
    let ends = c.end_members-ended.ensures in
    way_last_by c.loop-header.invariant.way ends.own _ ends.joined
    (refuses_after g.O.Sink g.E.Sink g.S.Source _ _ _ c.loop-header.archive.source _
    c.loop-header.outputs _ _ _ c.in-Err.ensures.asks
    (bad_left command report c.args.file.now (g.S.Source.holds c.loop-header.archive.source)
    c.loop-header.archive.walk c.next.new.self.walk c.in-Err.e c.in-Err.ensures.members)
    ends.refuses.reports ends.refuses.stops ends.refuses.leaves)

pub returns-in-Err-clause-asks : goal.returns-in-Err-clause-asks
returns-in-Err-clause-asks g c =
    let i = c.loop-header.invariant in
    asked_breaks_by (g.T.ObjectTool.looks c.args.tool.now)
    (g.S.Source.holds c.args.archive.source) (g.S.Source.holds c.loop-header.archive.source)
    i.way.source.same_bytes c.args.archive.walk c.loop-header.archive.walk _ _ i.asks
    c.end_members-ended.result _ c.in-Err.ensures.due
