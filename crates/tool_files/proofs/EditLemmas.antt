-- A file that stays open while other files are made of it.
use Rattle.std.proofs.Common.{◌≡◌, ◌≢◌, ◌⊎◌, inl, inr, ◌+◌, ◌-◌, ◌<◌, ◌≤◌, ℕ, Bool, List, [], codes, Option, Some, None, Result, Ok, Err, IfSome, IsTrue, OnOk, refl, sym, ap, ◌∙◌, subst, arith}
use Rattle.tool_output.specs.elf_outside.Counts.{Rose, RaisedBy, RisesWith, next_count}
use Rattle.tool_output.specs.elf_outside.Names.{SameNames, Closes}
use Rattle.tool_output.specs.elf_outside.Opens.{meanings, HandsOver, Opens}
use Rattle.tool_output.specs.elf_outside.declared.file_sets.OpenFault.{OpenFault}
use Rattle.tool_output.specs.elf_outside.declared.file_sets.OpenFault.TheVariants as fault
use Rattle.tool_output.specs.elf_outside.declared.sources.Source.{Ghosts as SourceGhosts}
use Rattle.tool_output.specs.elf_outside.declared.devices.Device.{Ghosts as DeviceGhosts}
use Rattle.tool_output.specs.elf_outside.declared.sinks.Sink.{Ghosts as SinkGhosts}
use Rattle.tool_output.specs.elf_outside.declared.file_sets.Files.{Ghosts as FilesGhosts}
use Rattle.tool_output.specs.declared.stops.Stop.{Stop}
use Rattle.tool_output.specs.declared.stops.Stop.TheVariants.{Read, Write, Memory}
use Rattle.tool_output.specs.declared.outputs.Outputs.{Outputs}
use Rattle.tool_output.specs.Names.{file_name}
use Rattle.tool_output.specs.Reports.{Reports, refusal_report}
use Rattle.tool_output.specs.Statuses.{refused_status, stop_status}
use Rattle.tool_output.specs.Steps.{OnRead, OnWrite, SinkRose}
use Rattle.tool_output.specs.Files.{OnlyReads, Totals, IsWithin, LeavesFiles}
use Rattle.tool_output.specs.Outcomes.{Outcome, write_of, held_after, MayHold, Does}
use Rattle.tool_output.proofs.StepLemmas.{writes_nothing, keeps_none}
use Rattle.tool_output.proofs.FileLemmas.{closed_same}
use Rattle.tool_output.proofs.OutcomeLemmas.{reads_done}
use Rattle.tool_output.proofs.MadeLemmas.{stopped_done}
use Rattle.tool_files.specs.Edits.{edited_outcome, unbounded, EditsFile, RefusesOpening}
use Rattle.tool_files.proofs.LeftLemmas.{said_leaves}

module _ {F D O E : Type 0} (f : FilesGhosts F D) (o : SinkGhosts O) (e : SinkGhosts E)
    (command : List ℕ) (outcome : List ℕ → List ℕ → Outcome) (name : List ℕ) where
  abbrev Edited : Result Bool Stop → F → F → Outputs O E → Outputs O E → Type 0
  Edited r a b s t =
      Does f o e refused_status (edited_outcome command outcome name (f.named a)) r a b s t

  -- ---- A file that is not handed out

  module _ (a b : F) (s t : Outputs O E) (told : IsTrue (f.tells a)) (reads : OnlyReads f a b) where
    -- it is not there
    pub edit_absent : (r : Result Bool Stop) → f.named a name ≡ None → f.taken b ≡ f.taken a
        → Reports o e r s t (refusal_report command (file_name name) (codes "not found"))
        → Edited r a b s t
    unfolding edited_outcome
    edit_absent r none taken h =
        rw none (reads_done f o e a b s t
        (refusal_report command (file_name name) (codes "not found")) (Some 0) r told reads
        (within r) h)
      where
        within : (q : Result Bool Stop) → OnOk q (IsWithin (Some 0) (f.taken a) (f.taken b))
        within (Ok x) = omega arith
        within (Err stop) = tt

    -- or the outside failed, or there is no memory for it
    pub edit_unopened : (stop : Stop) → t ≡ s → Edited (Err stop) a b s t
    edit_unopened stop same =
        rw same (stopped_done f o e {T = Bool} {U = Bool} refused_status
        (edited_outcome command outcome name (f.named a)) []
        (edited_outcome command outcome name (f.named a)).marks stop a b s s refl told reads
        (writes_nothing o e {T = Bool} stop s []))

  -- what is done with a name that could not be opened
  module _ (w : SourceGhosts D) (d : DeviceGhosts D) (a b : F) (s t : Outputs O E) where
    abbrev OpensNot : OpenFault → Type 0
    OpensNot x = Opens
        (meanings f.tells f.named f.read_faults f.write_faults f.taken f.given f.live) w d a b name
        (Err x)

    only_opens : (x : OpenFault) → OpensNot x → OnlyReads f a b
    only_opens x h = record { names = λ told. h.names; given = h.hands.given }

    pub unopened_done : (x : OpenFault) (r : Result Bool Stop) → OpensNot x
        → RefusesOpening o e command name x r s t → IsTrue (f.tells a) → Edited r a b s t
    unopened_done fault.NotThere r h k told =
        edit_absent a b s t told (only_opens fault.NotThere h) r ((h.not_there told).0 refl)
        h.hands.taken k.0
    unopened_done fault.Failed r h k told =
        subst (λ (q : Result Bool Stop). Edited q a b s t) (sym k.0)
        (edit_unopened a b s t told (only_opens fault.Failed h) Read k.1)
    unopened_done fault.Memory r h k told =
        subst (λ (q : Result Bool Stop). Edited q a b s t) (sym k.0)
        (edit_unopened a b s t told (only_opens fault.Memory h) Memory k.1)

    totals_unopened : (x : OpenFault) → OpensNot x → Totals f a b
    totals_unopened x h = record {
      tells = h.names.same_tells;
      read_faults = h.hands.read_faults;
      write_faults = h.hands.write_faults;
      taken = let same : f.taken b ≡ f.taken a = h.hands.taken in omega (arith, same);
      given = let same : f.given b ≡ f.given a = h.hands.given in omega (arith, same);
      live = λ small. h.hands.not_live;
    }

    stop_leaves : (r : Result Bool Stop) (stop : Stop) → (r ≡ Err stop) × (t ≡ s)
        → LeavesFiles {T = Bool} f o e (Err stop) a b s s → LeavesFiles f o e r a b s t
    stop_leaves r stop is h =
        subst (λ (q : Result Bool Stop). LeavesFiles f o e q a b s t) (sym is.0)
        (subst (λ (u : Outputs O E). LeavesFiles {T = Bool} f o e (Err stop) a b s u) (sym is.1) h)

    pub unopened_leaves : (x : OpenFault) (r : Result Bool Stop) → OpensNot x
        → RefusesOpening o e command name x r s t → LeavesFiles f o e r a b s t
    unopened_leaves fault.NotThere r h k =
        said_leaves f o e (Rose (f.read_faults a) (f.read_faults b)) r a b s t
        (totals_unopened fault.NotThere h) k.1
    unopened_leaves fault.Failed r h k =
        stop_leaves r Read k (record {
          totals = totals_unopened fault.Failed h;
          keeps = keeps_none o e s;
          read = h.failed refl;
          write = tt;
        })
    unopened_leaves fault.Memory r h k =
        stop_leaves r Memory k (record {
          totals = totals_unopened fault.Memory h;
          keeps = keeps_none o e s;
          read = tt;
          write = tt;
        })

  -- ---- A file that was opened, and is closed behind what is done with it

  module _ (w : SourceGhosts D) (d : DeviceGhosts D) (r : Result Bool Stop) (a b c g : F)
      (file left : D) (s t : Outputs O E)
      (opened : SameNames (f.tells a) (f.named a) (f.tells b) (f.named b))
      (hands : HandsOver
      (meanings f.tells f.named f.read_faults f.write_faults f.taken f.given f.live) w d a b
      (Ok file))
      (edits : EditsFile w f o e (outcome name) r file left b c s t)
      (closed : Closes (f.tells c) (f.named c) (f.tells g) (f.named g) name (w.holds left)) where
    module _ (told : IsTrue (f.tells a)) (bytes : List ℕ) (there : f.named a name ≡ Some bytes)
        (holds : w.holds left ≡ Some bytes)
        (unwritten : write_of (outcome name bytes).writes name ≡ None)
        (does : Does f o e refused_status (unbounded (outcome name bytes)) r b c s t)
        (asks : OnOk r (IsWithin (outcome name bytes).asks
        (w.taken file + f.taken b) (w.taken left + f.taken c)))
        (taken : RaisedBy (f.taken c) (f.taken g) (w.taken left))
        (given : f.given g ≡ f.given c) where
      abbrev stated : Outcome
      stated = outcome name bytes

      told_then : IsTrue (f.tells c)
      told_then =
          subst (λ (q : Bool). IsTrue q) (sym (edits.leaves.totals.tells ∙ opened.same_tells)) told

      -- the open file has the name as it was
      untouched : (q : Result Bool Stop) → Does f o e refused_status (unbounded stated) q b c s t
          → f.named c name ≡ f.named b name
      untouched (Ok x) h =
          h.files name ∙ ap (λ (w : Option _). held_after w (f.named b name)) unwritten
      untouched (Err stop) h =
          subst (λ (w : Option _). MayHold (stop_status stop) w (f.named b name) (f.named c name))
          unwritten (h.left name)

      -- so closing it changes no name
      same : SameNames (f.tells c) (f.named c) (f.tells g) (f.named g)
      same =
          closed_same (f.tells c) (f.tells c) (f.tells g) (f.named c) (f.named c) (f.named g) name
          (w.holds left) told_then (record { same_tells = refl; same = λ n. refl }) closed
          (holds ∙ sym there ∙ sym (opened.same name) ∙ sym (untouched r does))

      within : (bound : Option ℕ) → IsWithin bound (w.taken file + f.taken b) (w.taken left + f.taken c)
          → IsWithin bound (f.taken a) (f.taken g)
      within None h = tt
      within (Some n) h =
          let fresh = hands.fresh.taken in
          let before : f.taken b ≡ f.taken a = hands.taken in
          let no_more = taken.no_more in omega arith

      handed : (bound : Option ℕ) → IsWithin bound (f.given b) (f.given c)
          → IsWithin bound (f.given a) (f.given g)
      handed None h = tt
      handed (Some n) h = let before : f.given b ≡ f.given a = hands.given in omega arith

      edit_done_by : (q : Result Bool Stop) → Does f o e refused_status (unbounded stated) q b c s t
          → OnOk q (IsWithin stated.asks (w.taken file + f.taken b) (w.taken left + f.taken c))
          → Does f o e refused_status stated q a g s t
      edit_done_by (Ok x) h k = record {
        writes = h.writes;
        status = h.status;
        files = λ n.
            same.same n ∙ h.files n
            ∙ ap (held_after (write_of stated.writes n)) (opened.same n);
        left = tt;
        asks = within stated.asks k;
        gives = handed stated.gives h.gives;
      }
      edit_done_by (Err stop) h k = record {
        writes = h.writes;
        status = tt;
        files = tt;
        left = λ n.
            subst (λ (old : Option (List ℕ)).
            MayHold (stop_status stop) (write_of stated.writes n) old (f.named g n))
            (opened.same n)
            (subst (λ (now : Option (List ℕ)).
            MayHold (stop_status stop) (write_of stated.writes n) (f.named b n) now)
            (sym (same.same n)) (h.left n));
        asks = tt;
        gives = handed stated.gives h.gives;
      }

      pub edit_is_done : Edited r a g s t
      unfolding edited_outcome
      edit_is_done = rw there (edit_done_by r does asks)

    -- by what the open file holds
    pub edit_done : IsTrue (f.tells a) → f.named a name ≢ None → w.holds file ≡ f.named a name
        → ((bytes : List ℕ) → write_of (outcome name bytes).writes name ≡ None)
        → RaisedBy (f.taken c) (f.taken g) (w.taken left) → f.given g ≡ f.given c
        → Edited r a g s t
    edit_done told there held unwritten taken given =
        by (f.named a name) refl held
      where
        told_b : IsTrue (f.tells b)
        told_b = subst (λ (q : Bool). IsTrue q) (sym opened.same_tells) told

        by : (was : Option (List ℕ)) → f.named a name ≡ was → w.holds file ≡ was
            → Edited r a g s t
        by None is holds = absurd (there is)
        by (Some bytes) is holds =
            edit_is_done told bytes is (edits.source.same_bytes ∙ holds) (unwritten bytes)
            (subst (λ (h : Option (List ℕ)). IfSome h (λ x.
            Does f o e refused_status (unbounded (outcome name x)) r b c s t)) holds
            (edits.does told_b))
            (subst (λ (h : Option (List ℕ)). IfSome h (λ x. OnOk r (IsWithin (outcome name x).asks
            (w.taken file + f.taken b) (w.taken left + f.taken c)))) holds (edits.asks told_b))
            taken given

    -- what is left
    pub edit_leaves : RisesWith (f.read_faults c) (f.read_faults g) (w.faults left)
        → RisesWith (f.write_faults c) (f.write_faults g) (d.write_faults left)
        → RaisedBy (f.taken c) (f.taken g) (w.taken left)
        → RaisedBy (f.given c) (f.given g) (d.given left) → f.live g ≡ f.live c - 1
        → LeavesFiles f o e r a g s t
    edit_leaves reads writes taken given live = record {
      totals = record {
        tells = closed.others.same_tells ∙ edits.leaves.totals.tells ∙ opened.same_tells;
        read_faults = let last = reads.later in omega (arith, first_read, mid_read, last);
        write_faults = let last = writes.later in omega (arith, first_write, mid_write, last);
        taken =
            let first : f.taken b ≡ f.taken a = hands.taken in
            let mid : f.taken b ≤ f.taken c = edits.leaves.totals.taken in
            let last = taken.later in omega (arith, first, mid, last);
        given =
            let first : f.given b ≡ f.given a = hands.given in
            let mid : f.given b ≤ f.given c = edits.leaves.totals.given in
            let last = given.later in omega (arith, first, mid, last);
        live = λ small.
            let more : f.live b ≡ next_count (f.live a) = hands.live in
            let kept : f.live c ≡ f.live b = edits.live (omega (arith, small, more)) in
            omega (arith, small, more, kept, live);
      };
      keeps = edits.leaves.keeps;
      read = read_by r edits.leaves.read;
      write = write_by r edits.leaves.write;
    }
      where
        first_read : f.read_faults a ≤ f.read_faults b
        first_read = hands.read_faults

        mid_read : f.read_faults b ≤ f.read_faults c
        mid_read = edits.leaves.totals.read_faults

        first_write : f.write_faults a ≤ f.write_faults b
        first_write = hands.write_faults

        mid_write : f.write_faults b ≤ f.write_faults c
        mid_write = edits.leaves.totals.write_faults

        read_by : (q : Result Bool Stop) → OnRead q (Rose (w.faults file) (w.faults left))
            → OnRead q (Rose (f.read_faults a) (f.read_faults g))
        read_by (Ok x) rose = tt
        read_by (Err Read) rose =
            let fresh : w.faults file ≡ 0 = hands.fresh.faults in
            let own : 0 < w.faults left = omega (arith, rose, fresh) in
            let rises = reads.rose own in omega (arith, first_read, mid_read, rises)
        read_by (Err Write) rose = tt
        read_by (Err Memory) rose = tt

        wrote : Rose (f.write_faults b) (f.write_faults c)
            ⊎ SinkRose o e s.out.now t.out.now s.err.now t.err.now
            → Rose (f.write_faults a) (f.write_faults g)
            ⊎ SinkRose o e s.out.now t.out.now s.err.now t.err.now
        wrote (inl rose) =
            let last = writes.later in inl (omega (arith, first_write, rose, last))
        wrote (inr rose) = inr rose

        write_by : (q : Result Bool Stop)
            → OnWrite q (Rose (f.write_faults b) (f.write_faults c)
            ⊎ SinkRose o e s.out.now t.out.now s.err.now t.err.now)
            → OnWrite q (Rose (f.write_faults a) (f.write_faults g)
            ⊎ SinkRose o e s.out.now t.out.now s.err.now t.err.now)
        write_by (Ok x) rose = tt
        write_by (Err Read) rose = tt
        write_by (Err Write) rose = wrote rose
        write_by (Err Memory) rose = tt
