use Rattle.std.proofs.Common.{◌≡◌, ◌<◌, ◌++◌, ◌∷◌, ℕ, List, [], None, Option, Ok, Err, length, get_or, sym, ap, ◌∙◌, subst, arith}
use Rattle.std.specs.Prelude.{IsTrue, Bool}
use Rattle.symbol_lookup.specs.elf_object.Object.{Object}
use Rattle.hash_build.specs.Hashed.{listed_hashes}
use Rattle.hash_build.specs.Tables.{IsSymbolTable}
use Rattle.hash_build.proofs.ReadLaws.{table_nothing, table_both}
use Rattle.hash_build.proofs.ListedLaws.{hashes_long, filled_more, filled_all}
use Rattle.hash_build.proofs.listed.fill_hashes.Goals as goal

pub push_hash-requires : goal.push_hash-requires
push_hash-requires g c =
    subst (λ (o : Object). IsSymbolTable o c.args.t)
    (sym c.loop-i.invariant.reads.object) c.requires.table

pub loop-i-init : goal.loop-i-init
loop-i-init g c = record {
  reads = table_nothing g.S.Source c.args.t.section.0 (tt {0}) c.args.elf.now;
  told = λ told. c.requires.none;
  long = ap (λ (l : List (Option ℕ)). length l) c.requires.none;
  first = ap (λ (l : List (Option ℕ)). get_or l 0 None) c.requires.none;
}

pub loop-i-preserved : goal.loop-i-preserved
loop-i-preserved g c =
    let inv = c.loop-i.invariant in
    let s = c.args.t.section.0 in
    let hashes = listed_hashes c.args.by c.args.elf.now.o s in
    let long : length (listed_hashes c.args.by c.args.elf.now.o s) ≡ c.args.t.count =
    hashes_long c.args.by c.args.elf.now.o s ∙ sym c.requires.table.count in
    let below : c.loop-i.i < length (listed_hashes c.args.by c.args.elf.now.o s) =
    omega (arith, long, c.loop-i-test.true) in
    record {
      reads = table_both g.S.Source s (tt {0}) (Ok (tt {0})) c.args.elf.now c.loop-i.elf
          c.push_hash.new.elf inv.reads c.in-Ok.ensures.reads;
      told = λ told. filled_more hashes c.loop-i.hashes c.push_hash.new.hashes c.loop-i.i below
          (inv.told told)
          (subst (λ (o : Object). c.push_hash.new.hashes
          ≡ c.loop-i.hashes ++ get_or (listed_hashes c.args.by o s) c.loop-i.i None ∷ [])
          inv.reads.object
          (c.in-Ok.ensures.told (subst (λ (b : Bool). IsTrue b) (sym inv.reads.reads.told) told)));
      long = omega (arith, c.in-Ok.ensures.long, inv.long);
      first = c.in-Ok.ensures.first (sym inv.long) inv.first;
    }

pub returns-in-Err-clause-reads : goal.returns-in-Err-clause-reads
returns-in-Err-clause-reads g c =
    table_both g.S.Source c.args.t.section.0 (tt {0}) (Err c.in-Err.e) c.args.elf.now
    c.loop-i.elf c.push_hash.new.elf c.loop-i.invariant.reads c.in-Err.ensures.reads

pub returns-clause-told : goal.returns-clause-told
returns-clause-told g c = λ told.
    let s = c.args.t.section.0 in
    let long : length (listed_hashes c.args.by c.args.elf.now.o s) ≡ c.args.t.count =
    hashes_long c.args.by c.args.elf.now.o s ∙ sym c.requires.table.count in
    filled_all (listed_hashes c.args.by c.args.elf.now.o s) c.loop-i.hashes c.loop-i.i
    (omega (arith, long, c.loop-i-test.false)) (c.loop-i.invariant.told told)

pub returns-clause-long : goal.returns-clause-long
returns-clause-long g c =
    omega (arith, c.loop-i.invariant.long, c.loop-i-test.false, c.loop-i.auto.i-end)

pub returns-clause-first : goal.returns-clause-first
returns-clause-first g c = c.loop-i.invariant.first
