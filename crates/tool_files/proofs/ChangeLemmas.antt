-- A file that was opened, changed in place and closed.
use Rattle.std.proofs.Common.{◌≡◌, ◌≢◌, ◌⊎◌, inl, inr, ◌-◌, ◌<◌, ◌≤◌, ℕ, Bool, true, false, List, Option, Some, None, Result, Ok, Err, IfSome, IsSome, IsTrue, refl, sym, ◌∙◌, subst, arith}
use Rattle.std.specs.Str.{bytes_eq}
use Rattle.std.proofs.lemmas.Bool.{true≢false}
use Rattle.std.proofs.lemmas.Slice.Eq.{bytes_eq-Decides}
use Rattle.tool_output.specs.elf_outside.Counts.{Rose, RaisedBy, RisesWith, next_count}
use Rattle.tool_output.specs.elf_outside.Names.{SameNames, Closes}
use Rattle.tool_output.specs.elf_outside.Opens.{meanings, HandsOver}
use Rattle.tool_output.specs.elf_outside.declared.sources.Source.{Ghosts as SourceGhosts}
use Rattle.tool_output.specs.elf_outside.declared.devices.Device.{Ghosts as DeviceGhosts}
use Rattle.tool_output.specs.elf_outside.declared.sinks.Sink.{Ghosts as SinkGhosts}
use Rattle.tool_output.specs.elf_outside.declared.file_sets.Files.{Ghosts as FilesGhosts}
use Rattle.tool_output.specs.declared.stops.Stop.{Stop}
use Rattle.tool_output.specs.declared.stops.Stop.TheVariants.{Read, Write, Memory}
use Rattle.tool_output.specs.declared.outputs.Outputs.{Outputs}
use Rattle.tool_output.specs.Statuses.{refused_status, stop_status}
use Rattle.tool_output.specs.Steps.{OnRead, OnWrite, SinkRose}
use Rattle.tool_output.specs.Files.{IsWithin, LeavesFiles}
use Rattle.tool_output.specs.Outcomes.{FileWrite, Outcome, write_of, held_after, MayHold, Does}
use Rattle.tool_files.specs.Edits.{edited_outcome}
use Rattle.tool_files.specs.Changes.{DoesInPlace, ChangesFile}

some_is : (x : Option (List ℕ)) (y : List ℕ) → x ≡ Some y → IsSome x
some_is x y is = rw is refl

module _ {F D O E : Type 0} (f : FilesGhosts F D) (o : SinkGhosts O) (e : SinkGhosts E)
    (command : List ℕ) (outcome : List ℕ → List ℕ → Outcome) (name : List ℕ)
    (w : SourceGhosts D) (d : DeviceGhosts D) (r : Result Bool Stop) (a b g : F) (file left : D)
    (s t : Outputs O E) (opened : SameNames (f.tells a) (f.named a) (f.tells b) (f.named b))
    (hands : HandsOver
    (meanings f.tells f.named f.read_faults f.write_faults f.taken f.given f.live) w d a b
    (Ok file))
    (changes : ChangesFile w d o e (outcome name) name r file left s t)
    (closed : Closes (f.tells b) (f.named b) (f.tells g) (f.named g) name (w.holds left)) where
  -- ---- What is done

  module _ (told : IsTrue (f.tells a)) (bytes : List ℕ) (there : f.named a name ≡ Some bytes)
      (others : (other : List ℕ) → other ≢ name
      → write_of (outcome name bytes).writes other ≡ None)
      (taken : RaisedBy (f.taken b) (f.taken g) (w.taken left))
      (given : RaisedBy (f.given b) (f.given g) (d.given left)) where
    abbrev stated : Outcome
    stated = outcome name bytes

    -- the name holds what the file does
    closed_holds : f.named g name ≡ w.holds left
    closed_holds =
        closed.set (subst (λ (q : Bool). IsTrue q) (sym opened.same_tells) told)
        (some_is (f.named b name) bytes (opened.same name ∙ there))

    -- what holds of a name: of the file, or of one that is as before
    at_name : (P : Option FileWrite → Option (List ℕ) → Option (List ℕ) → Type 0)
        (other : List ℕ) → P (write_of stated.writes name) (Some bytes) (w.holds left)
        → ((held : Option (List ℕ)) → P None held held)
        → P (write_of stated.writes other) (f.named a other) (f.named g other)
    at_name P other here same = by (bytes_eq other name) refl
      where
        by : (q : Bool) → bytes_eq other name ≡ q
            → P (write_of stated.writes other) (f.named a other) (f.named g other)
        by true is =
            subst (λ (n : List ℕ). P (write_of stated.writes n) (f.named a n) (f.named g n))
            (sym ((bytes_eq-Decides other name).0 is))
            (subst (λ (old : Option (List ℕ)). P (write_of stated.writes name) old (f.named g name))
            (sym there)
            (subst (λ (now : Option (List ℕ)). P (write_of stated.writes name) (Some bytes) now)
            (sym closed_holds) here))
        by false is =
            let differs : other ≢ name =
            λ (same_name : other ≡ name).
            true≢false (sym ((bytes_eq-Decides other name).1 same_name) ∙ is) in
            subst (λ (write : Option FileWrite). P write (f.named a other) (f.named g other))
            (sym (others other differs))
            (subst (λ (now : Option (List ℕ)). P None (f.named a other) now)
            (sym (closed.others.same other differs ∙ opened.same other)) (same (f.named a other)))

    within : (bound : Option ℕ) → IsWithin bound (w.taken file) (w.taken left)
        → IsWithin bound (f.taken a) (f.taken g)
    within None h = tt
    within (Some n) h =
        let fresh : w.taken file ≡ 0 = hands.fresh.taken in
        let before : f.taken b ≡ f.taken a = hands.taken in
        let no_more = taken.no_more in omega arith

    handed : (bound : Option ℕ) → IsWithin bound (d.given file) (d.given left)
        → IsWithin bound (f.given a) (f.given g)
    handed None h = tt
    handed (Some n) h =
        let fresh : d.given file ≡ 0 = hands.fresh.given in
        let before : f.given b ≡ f.given a = hands.given in
        let no_more = given.no_more in omega arith

    done_by : (q : Result Bool Stop) → DoesInPlace w d o e stated name bytes q file left s t
        → Does f o e refused_status stated q a g s t
    done_by (Ok x) h = record {
      writes = h.writes;
      status = h.status;
      files = λ other.
          at_name (λ write old now. now ≡ held_after write old) other h.bytes (λ held. refl);
      left = tt;
      asks = within stated.asks h.asks;
      gives = handed stated.gives h.gives;
    }
    done_by (Err stop) h = record {
      writes = h.writes;
      status = tt;
      files = tt;
      left = λ other.
          at_name (MayHold (stop_status stop)) other h.left (λ held. refl);
      asks = tt;
      gives = handed stated.gives h.gives;
    }

    pub change_is_done : DoesInPlace w d o e stated name bytes r file left s t
        → Does f o e refused_status (edited_outcome command outcome name (f.named a)) r a g s t
    unfolding edited_outcome
    change_is_done h = rw there (done_by r h)

  -- by what the open file holds
  pub change_done : IsTrue (f.tells a) → f.named a name ≢ None → w.holds file ≡ f.named a name
      → ((bytes other : List ℕ) → other ≢ name
      → write_of (outcome name bytes).writes other ≡ None)
      → RaisedBy (f.taken b) (f.taken g) (w.taken left)
      → RaisedBy (f.given b) (f.given g) (d.given left)
      → Does f o e refused_status (edited_outcome command outcome name (f.named a)) r a g s t
  change_done told there held others taken given = by (f.named a name) refl held
    where
      by : (was : Option (List ℕ)) → f.named a name ≡ was → w.holds file ≡ was
          → Does f o e refused_status (edited_outcome command outcome name (f.named a)) r a g s t
      by None is holds = absurd (there is)
      by (Some bytes) is holds =
          change_is_done told bytes is (others bytes) taken given
          (subst (λ (h : Option (List ℕ)). IfSome h (λ x.
          DoesInPlace w d o e (outcome name x) name x r file left s t)) holds changes.does)

  -- ---- What is left

  pub change_leaves : RisesWith (f.read_faults b) (f.read_faults g) (w.faults left)
      → RisesWith (f.write_faults b) (f.write_faults g) (d.write_faults left)
      → RaisedBy (f.taken b) (f.taken g) (w.taken left)
      → RaisedBy (f.given b) (f.given g) (d.given left) → f.live g ≡ f.live b - 1
      → LeavesFiles f o e r a g s t
  change_leaves reads writes taken given live = record {
    totals = record {
      tells = closed.others.same_tells ∙ opened.same_tells;
      read_faults = let last = reads.later in omega (arith, first_read, last);
      write_faults = let last = writes.later in omega (arith, first_write, last);
      taken =
          let first : f.taken b ≡ f.taken a = hands.taken in
          let last = taken.later in omega (arith, first, last);
      given =
          let first : f.given b ≡ f.given a = hands.given in
          let last = given.later in omega (arith, first, last);
      live = λ small.
          let more : f.live b ≡ next_count (f.live a) = hands.live in
          omega (arith, small, more, live);
    };
    keeps = changes.leaves.keeps;
    read = read_by r changes.leaves.read;
    write = write_by r changes.leaves.write;
  }
    where
      first_read : f.read_faults a ≤ f.read_faults b
      first_read = hands.read_faults

      first_write : f.write_faults a ≤ f.write_faults b
      first_write = hands.write_faults

      read_by : (q : Result Bool Stop) → OnRead q (Rose (w.faults file) (w.faults left))
          → OnRead q (Rose (f.read_faults a) (f.read_faults g))
      read_by (Ok x) rose = tt
      read_by (Err Read) rose =
          let fresh : w.faults file ≡ 0 = hands.fresh.faults in
          let own : 0 < w.faults left = omega (arith, rose, fresh) in
          let rises = reads.rose own in omega (arith, first_read, rises)
      read_by (Err Write) rose = tt
      read_by (Err Memory) rose = tt

      wrote : Rose (d.write_faults file) (d.write_faults left)
          ⊎ SinkRose o e s.out.now t.out.now s.err.now t.err.now
          → Rose (f.write_faults a) (f.write_faults g)
          ⊎ SinkRose o e s.out.now t.out.now s.err.now t.err.now
      wrote (inl rose) =
          let fresh : d.write_faults file ≡ 0 = hands.fresh.write_faults in
          let own : 0 < d.write_faults left = omega (arith, rose, fresh) in
          let rises = writes.rose own in inl (omega (arith, first_write, rises))
      wrote (inr rose) = inr rose

      write_by : (q : Result Bool Stop)
          → OnWrite q (Rose (d.write_faults file) (d.write_faults left)
          ⊎ SinkRose o e s.out.now t.out.now s.err.now t.err.now)
          → OnWrite q (Rose (f.write_faults a) (f.write_faults g)
          ⊎ SinkRose o e s.out.now t.out.now s.err.now t.err.now)
      write_by (Ok x) rose = tt
      write_by (Err Read) rose = tt
      write_by (Err Write) rose = wrote rose
      write_by (Err Memory) rose = tt
