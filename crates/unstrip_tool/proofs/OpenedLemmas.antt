-- A file that is opened, a step beside it, and the file closed again; and one that is not opened.
use Rattle.std.proofs.Common.{◌≡◌, ◌≢◌, ◌⊎◌, inl, inr, ◌↔◌, ◌+◌, ◌-◌, ◌^◌, ◌<◌, ℕ, Bool, List, [], codes, Option, Some, None, Result, Ok, Err, IsSome, IsTrue, refl, sym, ap, ◌∙◌, subst, arith}
use Rattle.std.specs.Prelude.{IsErrOf}
use Rattle.elf_types.specs.Answers.{◌>>=◌}
use Rattle.elf_outside.specs.Asks.{Leaves}
use Rattle.elf_outside.specs.Counts.{Rose, RaisedBy, RisesWith, next_count}
use Rattle.elf_outside.specs.Names.{SameNames, Closes}
use Rattle.elf_outside.specs.Opens.{meanings, HandsOver}
use Rattle.elf_outside.specs.declared.file_sets.OpenFault.{OpenFault}
use Rattle.elf_outside.specs.declared.file_sets.OpenFault.TheVariants as opening
use Rattle.elf_outside.specs.declared.sources.Source.{Ghosts as SourceGhosts}
use Rattle.elf_outside.specs.declared.devices.Device.{Ghosts as DeviceGhosts}
use Rattle.elf_outside.specs.declared.sinks.Sink.{Ghosts as SinkGhosts}
use Rattle.elf_outside.specs.declared.file_sets.Files.{Ghosts as FilesGhosts}
use Rattle.elf_object.specs.Object.{Object}
use Rattle.tool_output.specs.declared.stops.Stop.{Stop}
use Rattle.tool_output.specs.declared.stops.Stop.TheVariants.{Read, Write, Memory}
use Rattle.tool_output.specs.declared.outputs.Outputs.{Outputs}
use Rattle.tool_output.specs.Names.{file_name}
use Rattle.tool_output.specs.Reports.{refusal_report}
use Rattle.tool_output.specs.Statuses.{refused_status, stop_status}
use Rattle.tool_output.specs.Steps.{LeavesOutputs, OnRead, OnWrite, SinkRose}
use Rattle.tool_output.specs.Files.{Totals, OnlyReads, IsWithin, LeavesFilesBy}
use Rattle.tool_output.specs.Outcomes.{Outcome, FileWrite, write_of, held_after, MayHold}
use Rattle.tool_output.specs.Made.{Done, Complaint, written_outcome}
use Rattle.tool_output.proofs.StepLemmas.{writes_nothing, keeps_none}
use Rattle.tool_output.proofs.FileLemmas.{closed_same}
use Rattle.tool_output.proofs.MadeLemmas.{report_done, stopped_done}
use Rattle.rebuild_files.proofs.tool_files.elf_images.WriteLemmas.{DoesHere}
use Rattle.unstrip_tool.specs.Refusing.{RefusesWith, RefusesUnopened}
use Rattle.unstrip_tool.specs.Joins.{held_object, WritesBeside}
use Rattle.unstrip_tool.proofs.DoneLemmas.{IsUnwritten, bound_unwritten}

-- no bound is stated on what is asked for, nor on what is handed to writes
free_asks : (command : List ℕ) (q : Result Done Complaint) (m n : ℕ)
    → IsWithin (written_outcome command q).asks m n
unfolding written_outcome
free_asks command (Ok done) m n = tt
free_asks command (Err c) m n = tt

free_gives : (command : List ℕ) (q : Result Done Complaint) (m n : ℕ)
    → IsWithin (written_outcome command q).gives m n
unfolding written_outcome
free_gives command (Ok done) m n = tt
free_gives command (Err c) m n = tt

some_of : (x : Option (List ℕ)) (bytes : List ℕ) → x ≡ Some bytes → IsSome x
some_of x bytes is = rw is refl

module _ {F D O E : Type 0} (f : FilesGhosts F D) (o : SinkGhosts O) (e : SinkGhosts E)
    (file : List ℕ) (done : Object → Result Done Complaint) where
  abbrev stated : Option (List ℕ) → Result Done Complaint
  stated held = held_object file held >>= done

  -- ---- A file that was opened, and is closed behind what is done beside it

  module _ (w : SourceGhosts D) (d : DeviceGhosts D) (opens : ℕ) (P before : Type 0)
      (r : Result Bool Stop) (a b c g : F) (held left : D) (s t : Outputs O E)
      (opened : SameNames (f.tells a) (f.named a) (f.tells b) (f.named b))
      (hands : HandsOver
      (meanings f.tells f.named f.read_faults f.write_faults f.taken f.given f.live) w d a b
      (Ok held))
      (inner : WritesBeside f o e opens (P ⊎ (0 < w.faults left)) before
      (stated (w.holds held)) r b c s t)
      (kept : Leaves w held left)
      (closed : Closes (f.tells c) (f.named c) (f.tells g) (f.named g) file (w.holds left)) where
    -- ---- What is done

    module _ (told : IsTrue (f.tells a)) (bytes : List ℕ) (there : f.named a file ≡ Some bytes)
        (holds : w.holds left ≡ Some bytes) (q : Result Done Complaint)
        (unwritten : IsUnwritten file q) where
      abbrev wanted : Outcome
      wanted = written_outcome (codes "unstrip") q

      told_then : IsTrue (f.tells c)
      told_then =
          subst (λ (x : Bool). IsTrue x) (sym (inner.leaves.totals.tells ∙ opened.same_tells)) told

      -- the open file has the name as it was
      untouched : (x : Result Bool Stop) → DoesHere f o e (codes "unstrip") q x b c s t
          → f.named c file ≡ f.named b file
      untouched (Ok x) h =
          h.files file ∙ ap (λ (v : Option FileWrite). held_after v (f.named b file)) unwritten
      untouched (Err stop) h =
          subst (λ (v : Option FileWrite). MayHold (stop_status stop) v (f.named b file)
          (f.named c file)) unwritten (h.left file)

      -- so closing it changes no name
      same : (x : Result Bool Stop) → DoesHere f o e (codes "unstrip") q x b c s t
          → SameNames (f.tells c) (f.named c) (f.tells g) (f.named g)
      same x h =
          closed_same (f.tells c) (f.tells c) (f.tells g) (f.named c) (f.named c) (f.named g) file
          (w.holds left) told_then (record { same_tells = refl; same = λ n. refl }) closed
          (holds ∙ sym there ∙ sym (opened.same file) ∙ sym (untouched x h))

      done_by : (x : Result Bool Stop) → DoesHere f o e (codes "unstrip") q x b c s t
          → DoesHere f o e (codes "unstrip") q x a g s t
      done_by (Ok x) h = record {
        writes = h.writes;
        status = h.status;
        files = λ n.
            (same (Ok x) h).same n ∙ h.files n
            ∙ ap (held_after (write_of wanted.writes n)) (opened.same n);
        left = tt;
        asks = free_asks (codes "unstrip") q (f.taken a) (f.taken g);
        gives = free_gives (codes "unstrip") q (f.given a) (f.given g);
      }
      done_by (Err stop) h = record {
        writes = h.writes;
        status = tt;
        files = tt;
        left = λ n.
            subst (λ (was : Option (List ℕ)).
            MayHold (stop_status stop) (write_of wanted.writes n) was (f.named g n))
            (opened.same n)
            (subst (λ (now : Option (List ℕ)).
            MayHold (stop_status stop) (write_of wanted.writes n) (f.named b n) now)
            (sym ((same (Err stop) h).same n)) (h.left n));
        asks = tt;
        gives = free_gives (codes "unstrip") q (f.given a) (f.given g);
      }

    -- by what the name holds
    done_beside : ((p : Object) → IsUnwritten file (done p)) → IsTrue (f.tells a)
        → f.named a file ≢ None → w.holds held ≡ f.named a file
        → (IsSome (w.holds held) → before)
        → DoesHere f o e (codes "unstrip") (stated (f.named a file)) r a g s t
    done_beside each told there same knows = by (f.named a file) refl same
      where
        told_b : IsTrue (f.tells b)
        told_b = subst (λ (x : Bool). IsTrue x) (sym opened.same_tells) told

        by : (was : Option (List ℕ)) → f.named a file ≡ was → w.holds held ≡ was
            → DoesHere f o e (codes "unstrip") (stated (f.named a file)) r a g s t
        by None is holds = absurd (there is)
        by (Some bytes) is holds =
            subst (λ (x : Option (List ℕ)).
            DoesHere f o e (codes "unstrip") (stated x) r a g s t) (sym is)
            (done_by told bytes is (kept.same_bytes ∙ holds) (stated (Some bytes))
            (bound_unwritten file (held_object file (Some bytes)) done each) r
            (subst (λ (x : Option (List ℕ)).
            DoesHere f o e (codes "unstrip") (stated x) r b c s t) holds
            (inner.does told_b (knows (some_of (w.holds held) bytes holds)))))

    -- ---- What is left

    module _ (reads : RisesWith (f.read_faults c) (f.read_faults g) (w.faults left))
        (writes : RisesWith (f.write_faults c) (f.write_faults g) (d.write_faults left))
        (taken : RaisedBy (f.taken c) (f.taken g) (w.taken left))
        (given : RaisedBy (f.given c) (f.given g) (d.given left))
        (live : f.live g ≡ f.live c - 1) where
      live_then : f.live a + (opens + 1) < 2 ^ 64 - 1 → f.live g ≡ f.live a
      live_then small =
          let more : f.live b ≡ next_count (f.live a) = hands.live in
          let inside : f.live b + opens < 2 ^ 64 - 1 = omega (arith, small, more) in
          let same = inner.live inside in omega (arith, small, more, same, live)

      totals : opens + 1 < 7 → Totals f a g
      totals few = record {
        tells = closed.others.same_tells ∙ inner.leaves.totals.tells ∙ opened.same_tells;
        read_faults =
            let one = hands.read_faults in
            let two = inner.leaves.totals.read_faults in
            let last = reads.later in omega (arith, one, two, last);
        write_faults =
            let one = hands.write_faults in
            let two = inner.leaves.totals.write_faults in
            let last = writes.later in omega (arith, one, two, last);
        taken =
            let one : f.taken b ≡ f.taken a = hands.taken in
            let two = inner.leaves.totals.taken in
            let last = taken.later in omega (arith, one, two, last);
        given =
            let one : f.given b ≡ f.given a = hands.given in
            let two = inner.leaves.totals.given in
            let last = given.later in omega (arith, one, two, last);
        live = λ small. live_then (omega (arith, small, few));
      }

      -- a read of it that failed shows in the total, and so does one of another
      closed_rose : 0 < w.faults left → Rose (f.read_faults a) (f.read_faults g)
      closed_rose own =
          let rises = reads.rose own in
          let one = hands.read_faults in
          let two = inner.leaves.totals.read_faults in omega (arith, rises, one, two)

      wrote : Rose (f.write_faults b) (f.write_faults c)
          ⊎ SinkRose o e s.out.now t.out.now s.err.now t.err.now
          → Rose (f.write_faults a) (f.write_faults g)
          ⊎ SinkRose o e s.out.now t.out.now s.err.now t.err.now
      wrote (inl rose) =
          let one = hands.write_faults in
          let last = writes.later in inl (omega (arith, rose, one, last))
      wrote (inr rose) = inr rose

      module _ (causes : Type 0) (beside : P → causes)
          (own : Rose (f.read_faults a) (f.read_faults g) → causes) where
        cause : P ⊎ (0 < w.faults left) → causes
        cause (inl p) = beside p
        cause (inr some) = own (closed_rose some)

        left_by : opens + 1 < 7 → (x : Result Bool Stop)
            → OnRead x (P ⊎ (0 < w.faults left))
            → OnWrite x (Rose (f.write_faults b) (f.write_faults c)
            ⊎ SinkRose o e s.out.now t.out.now s.err.now t.err.now)
            → LeavesFilesBy f o e causes x a g s t
        left_by few (Ok x) read write =
            record { totals = totals few; keeps = inner.leaves.keeps; read = tt; write = tt }
        left_by few (Err Read) read write = record {
          totals = totals few;
          keeps = inner.leaves.keeps;
          read = cause read;
          write = tt;
        }
        left_by few (Err Write) read write = record {
          totals = totals few;
          keeps = inner.leaves.keeps;
          read = tt;
          write = wrote write;
        }
        left_by few (Err Memory) read write =
            record { totals = totals few; keeps = inner.leaves.keeps; read = tt; write = tt }

        pub closed_writes : (known : Type 0) → opens + 1 < 7
            → ((p : Object) → IsUnwritten file (done p))
            → (IsTrue (f.tells a) → f.named a file ≢ None)
            → (IsTrue (f.tells a) → w.holds held ≡ f.named a file)
            → (known → IsSome (w.holds held) → before)
            → WritesBeside f o e (opens + 1) causes known (stated (f.named a file)) r a g s t
        closed_writes known few each there same knows = record {
          does = λ tells k. done_beside each tells (there tells) (same tells) (knows k);
          live = live_then;
          leaves = left_by few r inner.leaves.read inner.leaves.write;
        }

  -- ---- A file that is not handed out

  module _ (w : SourceGhosts D) (d : DeviceGhosts D) (opens : ℕ) (causes known : Type 0)
      (a b : F) (s t : Outputs O E)
      (same : SameNames (f.tells a) (f.named a) (f.tells b) (f.named b)) where
    abbrev Unopened : OpenFault → Type 0
    Unopened fault =
        HandsOver (meanings f.tells f.named f.read_faults f.write_faults f.taken f.given f.live)
        w d a b (Err fault)

    abbrev Beside : Result Bool Stop → Type 0
    Beside r = WritesBeside f o e opens causes known (stated (f.named a file)) r a b s t

    module _ (fault : OpenFault) (hands : Unopened fault) where
      only : OnlyReads f a b
      only = record { names = λ told. same; given = hands.given }

      all_totals : Totals f a b
      all_totals = record {
        tells = same.same_tells;
        read_faults = hands.read_faults;
        write_faults = hands.write_faults;
        taken = let is : f.taken b ≡ f.taken a = hands.taken in omega (arith, is);
        given = let is : f.given b ≡ f.given a = hands.given in omega (arith, is);
        live = λ small. hands.not_live;
      }

      outputs_left : (r : Result Bool Stop) → LeavesOutputs o e ⊥ r s t
          → LeavesFilesBy f o e causes r a b s t
      outputs_left (Ok x) h =
          record { totals = all_totals; keeps = h.keeps; read = tt; write = tt }
      outputs_left (Err Read) h = absurd h.read
      outputs_left (Err Write) h =
          record { totals = all_totals; keeps = h.keeps; read = tt; write = inr h.write }
      outputs_left (Err Memory) h =
          record { totals = all_totals; keeps = h.keeps; read = tt; write = tt }

      -- it is not there
      absent : (r : Result Bool Stop) → (IsTrue (f.tells a) → f.named a file ≡ None)
          → RefusesWith o e file (codes "not found") r s t → Beside r
      unfolding written_outcome
      absent r none h = record {
        does = λ tells k.
            subst (λ (x : Option (List ℕ)). DoesHere f o e (codes "unstrip") (stated x) r a b s t)
            (sym (none tells))
            (report_done f o e
            (refusal_report (codes "unstrip") (file_name file) (codes "not found")) r a b s t
            tells only h.reports);
        live = λ small. hands.not_live;
        leaves = outputs_left r h.leaves;
      }

      -- or the outside failed, or there is no memory for it
      stopped_does : (stop : Stop) → t ≡ s → IsTrue (f.tells a)
          → DoesHere f o e (codes "unstrip") (stated (f.named a file)) (Err stop) a b s t
      stopped_does stop is tells =
          rw is (stopped_done f o e {T = Bool} {U = Bool} refused_status
          (written_outcome (codes "unstrip") (stated (f.named a file))) []
          (written_outcome (codes "unstrip") (stated (f.named a file))).marks stop a b s s refl
          tells only (writes_nothing o e {T = Bool} stop s []))

    pub unopened : (fault : OpenFault) (r : Result Bool Stop) → Unopened fault
        → (IsTrue (f.tells a)
        → IsErrOf {T = D} (Err fault) opening.NotThere ↔ (f.named a file ≡ None))
        → (IsErrOf {T = D} (Err fault) opening.Failed → causes)
        → RefusesUnopened o e file fault r s t → Beside r
    unopened opening.NotThere r hands there failed h =
        absent opening.NotThere hands r (λ tells. (there tells).0 refl) h
    unopened opening.Failed r hands there failed h =
        rw (h.0) (record {
          does = λ tells k. stopped_does opening.Failed hands Read h.1 tells;
          live = λ small. hands.not_live;
          leaves = record {
            totals = all_totals opening.Failed hands;
            keeps = rw (h.1) (keeps_none o e s);
            read = failed refl;
            write = tt;
          };
        })
    unopened opening.Memory r hands there failed h =
        rw (h.0) (record {
          does = λ tells k. stopped_does opening.Memory hands Memory h.1 tells;
          live = λ small. hands.not_live;
          leaves = record {
            totals = all_totals opening.Memory hands;
            keeps = rw (h.1) (keeps_none o e s);
            read = tt;
            write = tt;
          };
        })
