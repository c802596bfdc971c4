use Rattle.std.proofs.Common.{◌≡◌, length, get_or, take, None, Ok}
use Rattle.std.specs.Prelude.{IsTrue}
use Rattle.hash_build.specs.Hashed.{listed_hashes}
use Rattle.hash_build.specs.Tables.{ReadsTable}
use Rattle.hash_build.proofs.listed.fill_hashes.Given as goal

abbrev pub invariant-loop-i : goal.invariant-loop-i
invariant-loop-i g l = record {
  reads : ReadsTable {T = Unit {0}} g.S.Source l.t.section.0 (Ok (tt {0})) l.initial.elf l.elf;
  told : IsTrue l.initial.elf.told
      → l.hashes ≡ take l.i (listed_hashes l.by l.initial.elf.o l.t.section.0);
  long : length l.hashes ≡ l.i;
  first : get_or l.hashes 0 None ≡ None;
}
