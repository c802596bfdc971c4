-- A file that is opened, read whole and closed.
use Rattle.std.proofs.Common.{◌≡◌, ◌≢◌, ◌⊎◌, inl, inr, ◌+◌, ◌-◌, ◌<◌, ◌≤◌, ℕ, List, [], length, take, drop, codes, Option, Some, None, Result, Ok, Err, IfOk, IfErr, IfSome, sym, ap, ◌∙◌, subst, arith}
use Rattle.std.proofs.lemmas.List.{take_all}
use Rattle.elf_types.specs.declared.errors.ElfError.{ElfError}
use Rattle.elf_types.specs.declared.errors.ElfError.TheVariants as error
use Rattle.elf_outside.specs.Asks.{Asks, ReadRose}
use Rattle.elf_outside.specs.Counts.{Rose, RaisedBy, RisesWith, next_count}
use Rattle.elf_outside.specs.Names.{Map, SameNames, Closes}
use Rattle.elf_outside.specs.Opens.{meanings, HandsOver}
use Rattle.elf_outside.specs.declared.sources.Source.{Ghosts as SourceGhosts}
use Rattle.elf_outside.specs.declared.devices.Device.{Ghosts as DeviceGhosts}
use Rattle.elf_outside.specs.declared.sinks.Sink.{Ghosts as SinkGhosts}
use Rattle.elf_outside.specs.declared.file_sets.Files.{Ghosts as FilesGhosts}
use Rattle.tool_output.specs.declared.stops.Stop.{Stop}
use Rattle.tool_output.specs.declared.stops.Stop.TheVariants as stops
use Rattle.tool_output.specs.declared.outputs.Outputs.{Outputs}
use Rattle.tool_output.specs.Names.{file_name}
use Rattle.tool_output.specs.Reports.{refusal_report}
use Rattle.tool_output.specs.Steps.{OnRead, OnWrite, Performs, SinkRose}
use Rattle.tool_output.specs.Stops.{value_or_stop}
use Rattle.tool_output.specs.Files.{Totals, LeavesFiles}
use Rattle.tool_output.specs.Made.{Complaint}
use Rattle.tool_output.proofs.StepLemmas.{keeps_none, went_none, writes_went, writes_nothing}
use Rattle.rebuild_files.specs.elfkit_outcomes.Files.{bytes_named}
use Rattle.copy_tool.specs.Files.{ReadsWhole, length_held}
use Rattle.copy_tool.proofs.ByteLemmas.{bytes_are_there, bytes_are_absent}
use Rattle.copy_tool.proofs.ReadLemmas.{SaysRead, says_value}

-- ---- A source

module _ {S : Type 0} (g : SourceGhosts S) (a b : S)
    (sized : IfSome (g.holds a) (λ bytes. length bytes ≡ g.size a)) where
  pub whole_read : (r : Result (List ℕ) ElfError) (len : ℕ) → len ≡ g.size a
      → IfOk r (λ read. IfSome (g.holds a) (λ bytes. read ≡ take len (drop 0 bytes)))
      → IfOk r (λ read. length read ≡ len) → Asks g r a b len
      → IfErr r (λ e. (e ≡ error.Memory) ⊎ (e ≡ error.Read)) → ReadsWhole g r a b
  whole_read r len is bytes long asks err = record {
    value = by_held (g.holds a) sized r bytes;
    long = subst (λ (n : ℕ). IfOk r (λ read. length read ≡ n)) is long;
    asks = subst (λ (n : ℕ). Asks g r a b n) is asks;
    err = err;
  }
    where
      by_held : (held : Option (List ℕ)) → IfSome held (λ image. length image ≡ g.size a)
          → (q : Result (List ℕ) ElfError)
          → IfOk q (λ read. IfSome held (λ image. read ≡ take len (drop 0 image)))
          → IfSome held (λ image. IfOk q (λ read. read ≡ image))
      by_held None same q h = tt
      by_held (Some image) same (Ok read) h = h ∙ take_all len image (omega (arith, same, is))
      by_held (Some image) same (Err e) h = tt

-- ---- What is said

-- a step that stops before it does anything
pub stopped_says : {O E A : Type 0} (o : SinkGhosts O) (e : SinkGhosts E) (stop : Stop)
    (q : Result A Complaint) (s : Outputs O E) → SaysRead o e q (Err stop) s s
stopped_says o e stop q s =
    record { writes = writes_nothing o e stop s _; value_is = tt }

module _ {O E : Type 0} (o : SinkGhosts O) (e : SinkGhosts E) (m : Map) (file : List ℕ) where
  -- the file is not there
  pub absent_says : (r : Result (Option (List ℕ)) Stop) (s t : Outputs O E) → m file ≡ None
      → Performs o e r s t
      (refusal_report (codes "copy") (file_name file) (codes "not found")).marks None
      → SaysRead o e (bytes_named m file) r s t
  absent_says r s t none h =
      subst (λ (q : Result (List ℕ) Complaint). SaysRead o e q r s t)
      (sym (bytes_are_absent m file none)) h

  -- what the open file holds is what the name does
  pub file_says : (held : Option (List ℕ)) (r : Result (List ℕ) ElfError) (s : Outputs O E)
      → held ≡ m file → m file ≢ None
      → IfSome held (λ bytes. IfOk r (λ read. read ≡ bytes))
      → IfErr r (λ e. (e ≡ error.Memory) ⊎ (e ≡ error.Read))
      → SaysRead o e (bytes_named m file) (value_or_stop r) s s
  file_says None r s same there value err = absurd (there (sym same))
  file_says (Some bytes) (Ok read) s same there value err =
      subst (λ (q : Result (List ℕ) Complaint). SaysRead o e q (Ok (Some read)) s s)
      (sym (bytes_are_there m file read (sym same ∙ ap (λ (l : List ℕ). Some l) (sym value))))
      (says_value o e s s {T = Unit {0}} tt read
      (writes_went o e {T = Unit {0}} tt s s [] (went_none o e s)))
  file_says (Some bytes) (Err d) s same there value (inl is) =
      subst (λ (x : ElfError). SaysRead o e (bytes_named m file) (value_or_stop (Err x)) s s)
      (sym is)
      (stopped_says o e stops.Memory (bytes_named m file) s)
  file_says (Some bytes) (Err d) s same there value (inr is) =
      subst (λ (x : ElfError). SaysRead o e (bytes_named m file) (value_or_stop (Err x)) s s)
      (sym is)
      (stopped_says o e stops.Read (bytes_named m file) s)

-- ---- What is asked for

pub read_file_asks : (m : Map) (file : List ℕ) (held : Option (List ℕ))
    (size own_old own_new before opened after : ℕ) → held ≡ m file → m file ≢ None
    → IfSome held (λ bytes. length bytes ≡ size) → own_new ≤ own_old + size → own_old ≡ 0
    → opened ≡ before → after ≤ opened + own_new → after ≤ before + length_held (m file)
read_file_asks m file None size own_old own_new before opened after same there sized asked fresh
    first last = absurd (there (sym same))
read_file_asks m file (Some bytes) size own_old own_new before opened after same there sized asked
    fresh first last =
    subst (λ (held : Option (List ℕ)). after ≤ before + length_held held) same
    (let most : after ≤ before + length bytes =
    omega (arith, sized, asked, fresh, first, last) in most)

-- of a file that was not handed out nothing
pub unasked : (before after n : ℕ) → after ≡ before → after ≤ before + n
unasked before after n same = omega (arith, same)

-- ---- What is left

module _ {F D O E : Type 0} (f : FilesGhosts F D) (o : SinkGhosts O) (e : SinkGhosts E)
    (w : SourceGhosts D) (d : DeviceGhosts D) (a b c : F) (file left : D) (name : List ℕ)
    (s : Outputs O E) (r : Result (List ℕ) ElfError)
    (opened : SameNames (f.tells a) (f.named a) (f.tells b) (f.named b))
    (hands : HandsOver
    (meanings f.tells f.named f.read_faults f.write_faults f.taken f.given f.live) w d a b
    (Ok file))
    (closed : Closes (f.tells b) (f.named b) (f.tells c) (f.named c) name (w.holds left))
    (reads : RisesWith (f.read_faults b) (f.read_faults c) (w.faults left))
    (writes : RisesWith (f.write_faults b) (f.write_faults c) (d.write_faults left))
    (taken : RaisedBy (f.taken b) (f.taken c) (w.taken left))
    (given : RaisedBy (f.given b) (f.given c) (d.given left))
    (live : f.live c ≡ f.live b - 1) where
  file_totals : Totals f a c
  file_totals = record {
    tells = closed.others.same_tells ∙ opened.same_tells;
    read_faults =
        let first : f.read_faults a ≤ f.read_faults b = hands.read_faults in
        let last = reads.later in omega (arith, first, last);
    write_faults =
        let first : f.write_faults a ≤ f.write_faults b = hands.write_faults in
        let last = writes.later in omega (arith, first, last);
    taken =
        let first : f.taken b ≡ f.taken a = hands.taken in
        let last = taken.later in omega (arith, first, last);
    given =
        let first : f.given b ≡ f.given a = hands.given in
        let last = given.later in omega (arith, first, last);
    live = λ small.
        let more : f.live b ≡ next_count (f.live a) = hands.live in
        omega (arith, small, more, live);
  }

  file_cause : (q : Result (List ℕ) ElfError)
      → IfErr q (λ e. (e ≡ error.Memory) ⊎ (e ≡ error.Read))
      → ReadRose q (w.faults file) (w.faults left)
      → OnRead (value_or_stop q) (Rose (f.read_faults a) (f.read_faults c))
  file_cause (Ok bytes) err rose = tt
  file_cause (Err x) (inl is) rose =
      subst (λ (y : ElfError). OnRead {T = Option (List ℕ)} (value_or_stop (Err y))
      (Rose (f.read_faults a) (f.read_faults c))) (sym is) tt
  file_cause (Err x) (inr is) rose =
      subst (λ (y : ElfError). OnRead {T = Option (List ℕ)} (value_or_stop (Err y))
      (Rose (f.read_faults a) (f.read_faults c))) (sym is)
      (let own : Rose (w.faults file) (w.faults left) =
      subst (λ (y : ElfError). ReadRose {T = List ℕ} (Err y) (w.faults file) (w.faults left)) is
      rose in
      let fresh : w.faults file ≡ 0 = hands.fresh.faults in
      let some : 0 < w.faults left = omega (arith, own, fresh) in
      let first : f.read_faults a ≤ f.read_faults b = hands.read_faults in
      let rises = reads.rose some in omega (arith, first, rises))

  file_written : (q : Result (List ℕ) ElfError) (P : Type 0)
      → IfErr q (λ e. (e ≡ error.Memory) ⊎ (e ≡ error.Read)) → OnWrite (value_or_stop q) P
  file_written (Ok bytes) P err = tt
  file_written (Err x) P (inl is) =
      subst (λ (y : ElfError). OnWrite {T = Option (List ℕ)} (value_or_stop (Err y)) P) (sym is) tt
  file_written (Err x) P (inr is) =
      subst (λ (y : ElfError). OnWrite {T = Option (List ℕ)} (value_or_stop (Err y)) P) (sym is) tt

  pub file_leaves : IfErr r (λ e. (e ≡ error.Memory) ⊎ (e ≡ error.Read))
      → ReadRose r (w.faults file) (w.faults left) → LeavesFiles f o e (value_or_stop r) a c s s
  file_leaves err rose = record {
    totals = file_totals;
    keeps = keeps_none o e s;
    read = file_cause r err rose;
    write = file_written r
        (Rose (f.write_faults a) (f.write_faults c)
        ⊎ SinkRose o e s.out.now s.out.now s.err.now s.err.now) err;
  }
