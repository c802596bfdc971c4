use Rattle.std.proofs.Common.{◌≡◌, ◌++◌, take, Some, Ok}
use Rattle.copy_tool.specs.Files.{ReadsFiles, pairs, byte_names, file_names}
use Rattle.copy_tool.proofs.ByteLemmas.{read_upto, due_upto}
use Rattle.copy_tool.proofs.files.fill_files.Given as goal

-- the files before this one were there
abbrev pub invariant-loop-each : goal.invariant-loop-each
invariant-loop-each g l = record {
  reads : ReadsFiles g.F.Files g.O.Sink g.E.Sink
      (read_upto (pairs l.initial.read) l.named l.each-index) (due_upto l.named l.each-index)
      (Ok (Some (pairs l.read))) l.initial.files l.files l.initial.outputs l.outputs;
  names : byte_names l.read
      ≡ byte_names l.initial.read ++ file_names (take l.each-index l.named);
}
