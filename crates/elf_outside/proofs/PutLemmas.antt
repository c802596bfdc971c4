-- Calls that write, one after another.
use Rattle.std.proofs.Common.{◌+◌, ◌≤◌, ℕ, List, ◌++◌, Option, Some, None, IfSome, Result, Ok, Err, length, ap, ◌∙◌, subst, arith}
use Rattle.std.specs.Option.{option_map}
use Rattle.elf_types.specs.declared.errors.ElfError.{ElfError}
use Rattle.elf_types.specs.declared.errors.ElfError.TheVariants.{Read, Write}
use Rattle.elf_outside.specs.Writes.{written_over, WritesOver, IsTornBy, TearsOver}
use Rattle.elf_outside.specs.Puts.{WriteRose, UsesSink, Puts}
use Rattle.elf_outside.specs.Asks.{ReadRose, DeviceReadRose}
use Rattle.elf_outside.specs.Patches.{UsesDevice, Patches}
use Rattle.elf_outside.specs.declared.sinks.Sink.{Ghosts}
use Rattle.elf_outside.specs.declared.sources.Source.{Ghosts as SourceGhosts}
use Rattle.elf_outside.specs.declared.devices.Device.{Ghosts as DeviceGhosts}
use Rattle.elf_outside.proofs.WriteLemmas.{appends_both, front_after, front_before, written_over_both, written_is_torn, torn_before, torn_after}

-- a count that rose from a later value on rose from the first
pub write_rose_before : {T : Type 0} (r : Result T ElfError) (a b c : ℕ) → a ≤ b → WriteRose r b c → WriteRose r a c
write_rose_before (Ok x) a b c h k = tt
write_rose_before (Err Write) a b c h k = omega arith
write_rose_before (Err e) a b c h k = tt

-- a refusal that is passed on has the same cause
pub write_rose_on : (T U : Type 0) (e : ElfError) (a b : ℕ) → WriteRose {T = T} (Err e) a b → WriteRose {T = U} (Err e) a b
write_rose_on T U Write a b k = k
write_rose_on T U e a b k = tt

-- ---- Sinks

-- two calls in a row, of which the second answers
pub uses_sink_both : {K T U : Type 0} (g : Ghosts K) (r : Result T ElfError) (q : Result U ElfError) (s t u : K)
    → UsesSink g r s t → UsesSink g q t u → UsesSink g q s u
uses_sink_both g r q s t u first second = record {
  rest = second.rest ∙ first.rest;
  later = omega (arith, first.later, second.later);
  write = write_rose_before q (g.faults s) (g.faults t) (g.faults u) first.later second.write;
}

-- a text after one that was put whole
pub puts_both : {K T U : Type 0} (g : Ghosts K) (x : T) (q : Result U ElfError) (s t u : K) (a b : List ℕ)
    → Puts g (Ok x) s t a → Puts g q t u b → Puts g q s u (a ++ b)
puts_both g x (Ok y) s t u a b first second = record {
  uses = uses_sink_both g (Ok x) (Ok y) s t u first.uses second.uses;
  ok = appends_both (g.wrote s) (g.wrote t) (g.wrote u) a b first.ok second.ok;
  err = tt;
}
puts_both g x (Err e) s t u a b first second = record {
  uses = uses_sink_both g (Ok x) (Err e) s t u first.uses second.uses;
  ok = tt;
  err = front_after (g.wrote s) (g.wrote t) (g.wrote u) a b first.ok second.err;
}

-- a text whose front was refused, of which more was to come
pub puts_stop : {K T U : Type 0} (g : Ghosts K) (e : ElfError) (s t : K) (a b : List ℕ)
    → Puts {T = T} g (Err e) s t a → Puts {T = U} g (Err e) s t (a ++ b)
puts_stop {T = T} {U = U} g e s t a b first = record {
  uses = record { rest = first.uses.rest; later = first.uses.later; write = write_rose_on T U e (g.faults s) (g.faults t) first.uses.write };
  ok = tt;
  err = front_before (g.wrote s) (g.wrote t) a b first.err;
}

-- ---- Devices

-- a count of failed reads that rose from a later value on rose from the first
pub device_read_rose_before : {T : Type 0} (r : Result T ElfError) (a b c : ℕ) → a ≤ b → DeviceReadRose r b c → DeviceReadRose r a c
device_read_rose_before (Ok x) a b c h k = tt
device_read_rose_before (Err Read) a b c h k = omega arith
device_read_rose_before (Err e) a b c h k = tt

-- a refusal that is passed on has the same cause
pub device_read_rose_on : (T U : Type 0) (e : ElfError) (a b : ℕ) → DeviceReadRose {T = T} (Err e) a b → DeviceReadRose {T = U} (Err e) a b
device_read_rose_on T U Read a b k = k
device_read_rose_on T U e a b k = tt

-- a call that only reads a device shows its faults so
pub reads_device : {T : Type 0} (r : Result T ElfError) (a b c d : ℕ) → ReadRose r a b → DeviceReadRose r a b × WriteRose r c d
reads_device (Ok x) a b c d k = (tt, tt)
reads_device (Err Read) a b c d k = (k, tt)
reads_device (Err Write) a b c d k = absurd k
reads_device (Err e) a b c d k = (tt, tt)

-- two calls in a row, of which the second answers
pub uses_device_both : {D T U : Type 0} (g : SourceGhosts D) (d : DeviceGhosts D) (r : Result T ElfError) (q : Result U ElfError) (s t u : D) (m n k l : ℕ)
    → UsesDevice g d r s t m n → UsesDevice g d q t u k l → UsesDevice g d q s u (m + k) (n + l)
uses_device_both g d r q s t u m n k l first second = record {
  rest_after = second.rest_after ∙ first.rest_after;
  later = omega (arith, first.later, second.later);
  read = device_read_rose_before q (g.faults s) (g.faults t) (g.faults u) first.later second.read;
  write_later = omega (arith, first.write_later, second.write_later);
  write = write_rose_before q (d.write_faults s) (d.write_faults t) (d.write_faults u) first.write_later second.write;
  taken = record {
    later = omega (arith, first.taken.later, second.taken.later);
    no_more = omega (arith, first.taken.no_more, second.taken.no_more);
  };
  given = record {
    later = omega (arith, first.given.later, second.given.later);
    no_more = omega (arith, first.given.no_more, second.given.no_more);
  };
}

-- a refusal that is passed on, with wider bounds
pub uses_device_on : {D T U : Type 0} (g : SourceGhosts D) (d : DeviceGhosts D) (e : ElfError) (s t : D) (m n k l : ℕ) → m ≤ k → n ≤ l
    → UsesDevice {T = T} g d (Err e) s t m n → UsesDevice {T = U} g d (Err e) s t k l
uses_device_on {T = T} {U = U} g d e s t m n k l asked handed uses = record {
  rest_after = uses.rest_after;
  later = uses.later;
  read = device_read_rose_on T U e (g.faults s) (g.faults t) uses.read;
  write_later = uses.write_later;
  write = write_rose_on T U e (d.write_faults s) (d.write_faults t) uses.write;
  taken = record { later = uses.taken.later; no_more = omega (arith, uses.taken.no_more) };
  given = record { later = uses.given.later; no_more = omega (arith, uses.given.no_more) };
}

-- a piece over bytes that are told, behind one that was put whole
writes_over_both : (a b c : Option (List ℕ)) (at : ℕ) (p q : List ℕ) → IfSome a (λ bytes. at + length p ≤ length bytes)
    → WritesOver a b at p → WritesOver b c (at + length p) q → WritesOver a c at (p ++ q)
writes_over_both None b c at p q within first second =
    second ∙ ap (λ (o : Option (List ℕ)). option_map (λ bytes. written_over bytes (at + length p) q) o) first
writes_over_both (Some bytes) b c at p q within first second =
    second ∙ ap (λ (o : Option (List ℕ)). option_map (λ bytes. written_over bytes (at + length p) q) o) first
    ∙ ap Some (written_over_both bytes at p q within)

tears_over_both : (a b c : Option (List ℕ)) (at : ℕ) (p q : List ℕ) → IfSome a (λ bytes. at + length p ≤ length bytes)
    → WritesOver a b at p → TearsOver b c (at + length p) q → TearsOver a c at (p ++ q)
tears_over_both None b c at p q within first second =
    (second.0, second.1 ∙ ap (λ (o : Option (List ℕ)). option_map (λ (bytes : List ℕ). second.0) o) first, tt)
tears_over_both (Some bytes) b c at p q within first second =
    let torn : IsTornBy (written_over bytes at p) second.0 (at + length p) q =
    subst (λ (o : Option (List ℕ)). IfSome o (λ w. IsTornBy w second.0 (at + length p) q)) first second.2 in (
      second.0,
      second.1 ∙ ap (λ (o : Option (List ℕ)). option_map (λ (w : List ℕ). second.0) o) first,
      torn_after bytes (written_over bytes at p) second.0 at p q (written_is_torn bytes at p within) torn,
    )

tears_over_before : (a b : Option (List ℕ)) (at : ℕ) (p q : List ℕ) → TearsOver a b at p → TearsOver a b at (p ++ q)
tears_over_before None b at p q torn = torn
tears_over_before (Some bytes) b at p q torn = (torn.0, torn.1, torn_before bytes torn.0 at p q torn.2)

-- a piece behind one that was put whole. Where the bytes are told, the first piece lies in them
pub patches_both : {D T U : Type 0} (g : SourceGhosts D) (d : DeviceGhosts D) (x : T) (q : Result U ElfError) (s t u : D) (at : ℕ) (a b : List ℕ) (n l : ℕ)
    → IfSome (g.holds s) (λ bytes. at + length a ≤ length bytes)
    → Patches g d (Ok x) s t at a n → Patches g d q t u (at + length a) b l → Patches g d q s u at (a ++ b) (n + l)
patches_both g d x (Ok y) s t u at a b n l within first second = record {
  uses = uses_device_both g d (Ok x) (Ok y) s t u 0 n 0 l first.uses second.uses;
  faults = second.faults ∙ first.faults;
  len = second.len ∙ first.len;
  ok = writes_over_both (g.holds s) (g.holds t) (g.holds u) at a b within first.ok second.ok;
  err = tt;
}
patches_both g d x (Err e) s t u at a b n l within first second = record {
  uses = uses_device_both g d (Ok x) (Err e) s t u 0 n 0 l first.uses second.uses;
  faults = second.faults ∙ first.faults;
  len = second.len ∙ first.len;
  ok = tt;
  err = tears_over_both (g.holds s) (g.holds t) (g.holds u) at a b within first.ok second.err;
}

-- a piece that was refused, behind which another was to come
pub patches_stop : {D T U : Type 0} (g : SourceGhosts D) (d : DeviceGhosts D) (e : ElfError) (s t : D) (at : ℕ) (a b : List ℕ) (n l : ℕ) → n ≤ l
    → Patches {T = T} g d (Err e) s t at a n → Patches {T = U} g d (Err e) s t at (a ++ b) l
patches_stop g d e s t at a b n l handed first = record {
  uses = uses_device_on g d e s t 0 n 0 l (omega arith) handed first.uses;
  faults = first.faults;
  len = first.len;
  ok = tt;
  err = tears_over_before (g.holds s) (g.holds t) at a b first.err;
}
