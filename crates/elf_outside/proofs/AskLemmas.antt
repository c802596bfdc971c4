-- Calls that read, one after another.
use Rattle.std.proofs.Common.{◌+◌, ◌≤◌, ℕ, Result, Ok, Err, ◌∙◌, arith}
use Rattle.elf_types.specs.declared.errors.ElfError.{ElfError}
use Rattle.elf_types.specs.declared.errors.ElfError.TheVariants.{Memory, Read, Write}
use Rattle.elf_types.specs.Answers.{IsRefusal}
use Rattle.elf_outside.specs.Asks.{ReadRose, Asks}
use Rattle.elf_outside.specs.declared.sources.Source.{Ghosts}

-- a count that rose from a later value on rose from the first
pub read_rose_before : {T : Type 0} (r : Result T ElfError) (a b c : ℕ) → a ≤ b → ReadRose r b c → ReadRose r a c
read_rose_before (Ok x) a b c h k = tt
read_rose_before (Err Read) a b c h k = omega arith
read_rose_before (Err Write) a b c h k = k
read_rose_before (Err e) a b c h k = tt

-- a refusal that is passed on has the same cause
pub read_rose_on : (T U : Type 0) (e : ElfError) (a b : ℕ) → ReadRose {T = T} (Err e) a b → ReadRose {T = U} (Err e) a b
read_rose_on T U Read a b k = k
read_rose_on T U Write a b k = k
read_rose_on T U e a b k = tt

-- two calls in a row, of which the second answers
pub asks_both : {S T U : Type 0} (g : Ghosts S) (r : Result T ElfError) (q : Result U ElfError) (s t u : S) (n m : ℕ)
    → Asks g r s t n → Asks g q t u m → Asks g q s u (n + m)
asks_both g r q s t u n m first second = record {
  leaves = record {
    same_len = second.leaves.same_len ∙ first.leaves.same_len;
    same_bytes = second.leaves.same_bytes ∙ first.leaves.same_bytes;
    same_rest = second.leaves.same_rest ∙ first.leaves.same_rest;
  };
  later = omega (arith, first.later, second.later);
  read = read_rose_before q (g.faults s) (g.faults t) (g.faults u) first.later second.read;
  taken = record {
    later = omega (arith, first.taken.later, second.taken.later);
    no_more = omega (arith, first.taken.no_more, second.taken.no_more);
  };
}

-- fewer bytes
pub asks_fewer : {S T : Type 0} (g : Ghosts S) (r : Result T ElfError) (s t : S) (n m : ℕ) → n ≤ m → Asks g r s t n → Asks g r s t m
asks_fewer g r s t n m h a = record {
  leaves = a.leaves;
  later = a.later;
  read = a.read;
  taken = record {
    later = a.taken.later;
    no_more = omega (arith, a.taken.no_more);
  };
}

-- an answer that is no Read after a call that was Ok
pub asks_then : {S T U : Type 0} (g : Ghosts S) (r : Result T ElfError) (q : Result U ElfError) (s t : S) (n : ℕ)
    → Asks g r s t n → ReadRose q (g.faults s) (g.faults t) → Asks g q s t n
asks_then g r q s t n a read = record {
  leaves = a.leaves;
  later = a.later;
  read = read;
  taken = a.taken;
}

-- a refusal of a definition shows no fault
pub read_rose_refused : (T : Type 0) (e : ElfError) (a b : ℕ) → IsRefusal e → ReadRose {T = T} (Err e) a b
read_rose_refused T Memory a b h = tt
read_rose_refused T Read a b h = absurd h
read_rose_refused T Write a b h = absurd h
read_rose_refused T e a b h = tt
