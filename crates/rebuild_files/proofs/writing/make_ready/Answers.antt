use Rattle.rebuild_files.specs.Writing.{image_text}
use Rattle.rebuild_files.proofs.WritingLemmas.{not_made, plan_made}
use Rattle.rebuild_files.proofs.writing.make_ready.Goals as goal

pub returns-then-not-is_ready : goal.returns-then-not-is_ready
returns-then-not-is_ready g c =
    not_made g.S.Source g.F.Files c.args.name.now (image_text g.S.Source c.args.image.now)
    c.args.image.now.parts.source c.args.files.now

pub returns : goal.returns
returns g c =
    plan_made g.S.Source g.F.Files c.args.name.now (image_text g.S.Source c.args.image.now) _
    c.make_file.result c.args.image.now.parts.source c.make_file.new.image.parts.source
    c.args.files.now c.make_file.new.files c.make_file.ensures.makes c.make_file.ensures.source
    c.make_file.ensures.live
