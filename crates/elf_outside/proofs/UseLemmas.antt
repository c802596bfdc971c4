-- Calls that read a source and write elsewhere, and calls that only read a device.
use Rattle.std.proofs.Common.{◌≡◌, ◌+◌, ◌≤◌, ◌∷◌, [], ℕ, Result, Err, get_or, drop, sym, ap, refl, ◌∙◌, arith}
use Rattle.elf_types.specs.declared.errors.ElfError.{ElfError}
use Rattle.elf_outside.specs.Asks.{Asks, DeviceReadRose, UsesSource}
use Rattle.elf_outside.specs.Puts.{WriteRose, UsesSink}
use Rattle.elf_outside.specs.Patches.{UsesDevice}
use Rattle.elf_outside.specs.declared.sinks.Sink.{Ghosts as SinkGhosts}
use Rattle.elf_outside.specs.declared.sources.Source.{Ghosts as SourceGhosts}
use Rattle.elf_outside.specs.declared.devices.Device.{Ghosts as DeviceGhosts}
use Rattle.elf_outside.proofs.PutLemmas.{device_read_rose_before, device_read_rose_on, write_rose_on, reads_device}

-- ---- Sources

-- nothing was read; the answer is Ok, or a refusal that no source gives
pub uses_source_none : {S T : Type 0} (g : SourceGhosts S) (r : Result T ElfError) (s : S)
    → DeviceReadRose r (g.faults s) (g.faults s) → UsesSource g r s s 0
uses_source_none g r s read = record {
  leaves = record { same_len = refl; same_bytes = refl; same_rest = refl };
  later = omega arith;
  read = read;
  taken = record { later = omega arith; no_more = omega arith };
}

-- a call that only reads
pub uses_asks : {S T : Type 0} (g : SourceGhosts S) (r : Result T ElfError) (s t : S) (n : ℕ)
    → Asks g r s t n → UsesSource g r s t n
uses_asks g r s t n a = record {
  leaves = a.leaves;
  later = a.later;
  read = (reads_device r (g.faults s) (g.faults t) 0 0 a.read).0;
  taken = a.taken;
}

-- two calls in a row, of which the second answers
pub uses_source_both : {S T U : Type 0} (g : SourceGhosts S) (r : Result T ElfError)
    (q : Result U ElfError) (s t u : S) (n m : ℕ)
    → UsesSource g r s t n → UsesSource g q t u m → UsesSource g q s u (n + m)
uses_source_both g r q s t u n m first second = record {
  leaves = record {
    same_len = second.leaves.same_len ∙ first.leaves.same_len;
    same_bytes = second.leaves.same_bytes ∙ first.leaves.same_bytes;
    same_rest = second.leaves.same_rest ∙ first.leaves.same_rest;
  };
  later = omega (arith, first.later, second.later);
  read = device_read_rose_before q (g.faults s) (g.faults t) (g.faults u) first.later second.read;
  taken = record {
    later = omega (arith, first.taken.later, second.taken.later);
    no_more = omega (arith, first.taken.no_more, second.taken.no_more);
  };
}

-- more was asked for
pub uses_source_as : {S T : Type 0} (g : SourceGhosts S) (r : Result T ElfError) (s t : S)
    (n m : ℕ) → n ≤ m → UsesSource g r s t n → UsesSource g r s t m
uses_source_as g r s t n m more a = record {
  leaves = a.leaves;
  later = a.later;
  read = a.read;
  taken = record { later = a.taken.later; no_more = omega (arith, a.taken.no_more) };
}

-- a refusal that is passed on, with a wider bound
pub uses_source_on : {S T U : Type 0} (g : SourceGhosts S) (e : ElfError) (s t : S) (n m : ℕ)
    → n ≤ m → UsesSource {T = T} g (Err e) s t n → UsesSource {T = U} g (Err e) s t m
uses_source_on {T = T} {U = U} g e s t n m more a = record {
  leaves = a.leaves;
  later = a.later;
  read = device_read_rose_on T U e (g.faults s) (g.faults t) a.read;
  taken = record { later = a.taken.later; no_more = omega (arith, a.taken.no_more) };
}

-- another answer, whose cause is shown
pub uses_source_then : {S T U : Type 0} (g : SourceGhosts S) (r : Result T ElfError)
    (q : Result U ElfError) (s t : S) (n : ℕ)
    → UsesSource g r s t n → DeviceReadRose q (g.faults s) (g.faults t) → UsesSource g q s t n
uses_source_then g r q s t n a read = record {
  leaves = a.leaves;
  later = a.later;
  read = read;
  taken = a.taken;
}

-- ---- Sinks

-- nothing was put; the answer is Ok, or a refusal that no sink gives
pub uses_sink_none : {K T : Type 0} (g : SinkGhosts K) (r : Result T ElfError) (s : K)
    → WriteRose r (g.faults s) (g.faults s) → UsesSink g r s s
uses_sink_none g r s write = record { rest = refl; later = omega arith; write = write }

-- a refusal that is passed on
pub uses_sink_on : {K T U : Type 0} (g : SinkGhosts K) (e : ElfError) (s t : K)
    → UsesSink {T = T} g (Err e) s t → UsesSink {T = U} g (Err e) s t
uses_sink_on {T = T} {U = U} g e s t a = record {
  rest = a.rest;
  later = a.later;
  write = write_rose_on T U e (g.faults s) (g.faults t) a.write;
}

-- another answer, whose cause is shown
pub uses_sink_then : {K T U : Type 0} (g : SinkGhosts K) (r : Result T ElfError)
    (q : Result U ElfError) (s t : K)
    → UsesSink g r s t → WriteRose q (g.faults s) (g.faults t) → UsesSink g q s t
uses_sink_then g r q s t a write = record { rest = a.rest; later = a.later; write = write }

-- ---- Devices

-- nothing was read or written; the answer is Ok, or a refusal that no device gives
pub uses_device_none : {D T : Type 0} (g : SourceGhosts D) (d : DeviceGhosts D)
    (r : Result T ElfError) (s : D) → DeviceReadRose r (g.faults s) (g.faults s)
    → WriteRose r (d.write_faults s) (d.write_faults s) → UsesDevice g d r s s 0 0
uses_device_none g d r s read write = record {
  rest_after = refl;
  later = omega arith;
  read = read;
  write_later = omega arith;
  write = write;
  taken = record { later = omega arith; no_more = omega arith };
  given = record { later = omega arith; no_more = omega arith };
}

-- more was asked for and handed
pub uses_device_as : {D T : Type 0} (g : SourceGhosts D) (d : DeviceGhosts D)
    (r : Result T ElfError) (s t : D) (m n k l : ℕ) → m ≤ k → n ≤ l
    → UsesDevice g d r s t m n → UsesDevice g d r s t k l
uses_device_as g d r s t m n k l asked handed a = record {
  rest_after = a.rest_after;
  later = a.later;
  read = a.read;
  write_later = a.write_later;
  write = a.write;
  taken = record { later = a.taken.later; no_more = omega (arith, a.taken.no_more) };
  given = record { later = a.given.later; no_more = omega (arith, a.given.no_more) };
}

-- a call that only reads a device: its rest begins with its counts, so it leaves them
pub asks_device : {D T : Type 0} (g : SourceGhosts D) (d : DeviceGhosts D)
    → ((x : D) → g.rest x ≡ (d.given x ∷ d.write_faults x ∷ []) ∷ d.rest_after x)
    → (r : Result T ElfError) (s t : D) (n : ℕ) → Asks g r s t n → UsesDevice g d r s t n 0
asks_device g d begins r s t n a =
    let same : (d.given t ∷ d.write_faults t ∷ []) ∷ d.rest_after t
    ≡ (d.given s ∷ d.write_faults s ∷ []) ∷ d.rest_after s =
    sym (begins t) ∙ a.leaves.same_rest ∙ begins s in
    let given : d.given t ≡ d.given s = ap (λ l. get_or (get_or l 0 []) 0 0) same in
    let faults : d.write_faults t ≡ d.write_faults s =
    ap (λ l. get_or (get_or l 0 []) 1 0) same in
    let shown = reads_device r (g.faults s) (g.faults t) (d.write_faults s) (d.write_faults t)
    a.read in
    record {
      rest_after = ap (λ l. drop 1 l) same;
      later = a.later;
      read = shown.0;
      write_later = omega (arith, faults);
      write = shown.1;
      taken = a.taken;
      given = record { later = omega (arith, given); no_more = omega (arith, given) };
    }
