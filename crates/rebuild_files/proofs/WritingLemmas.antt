-- What a step that copies an image does.
use Rattle.std.proofs.Common.{◌≡◌, ◌⊎◌, inl, inr, ◌-◌, ◌^◌, ◌<◌, ℕ, Bool, List, [], take, Option, Some, None, Result, Ok, Err, IfSome, OnErr, refl, sym, subst, arith}
use Rattle.std.specs.Prelude.{OnOk}
use Rattle.elf_outside.specs.declared.sources.Source.{Ghosts as SourceGhosts}
use Rattle.elf_outside.specs.declared.sinks.Sink.{Ghosts as SinkGhosts}
use Rattle.elf_outside.specs.declared.file_sets.Files.{Ghosts as FilesGhosts}
use Rattle.tool_output.specs.declared.stops.Stop.{Stop}
use Rattle.tool_output.specs.declared.stops.Stop.TheVariants.{Read, Write, Memory}
use Rattle.tool_output.specs.declared.outputs.Outputs.{Outputs}
use Rattle.tool_output.specs.Files.{LeavesFilesBy}
use Rattle.tool_output.specs.Made.{MakesFile}
use Rattle.tool_output.specs.Steps.{Writes, LeavesOutputs}
use Rattle.tool_output.proofs.FileLemmas.{totals_none}
use Rattle.elf_outside.specs.Counts.{Rose}
use Rattle.tool_files.specs.Making.{ReadsFrom}
use Rattle.tool_files.proofs.WriteLemmas.{image_unput, image_done, image_stopped}
use Rattle.rebuild_files.specs.Writing.{MakesPlan, WritesImage, refuses_nothing}

-- ---- A file

module _ {S F D : Type 0} (g : SourceGhosts S) (f : FilesGhosts F D) (name : List ℕ)
    (text : Option (List ℕ)) where
  -- a step that stops for want of memory before it does anything
  pub not_made : (src : S) (a : F) → MakesPlan g f name text (Err Memory) src src a a
  not_made src a = record {
    makes = record {
      others = record { same_tells = refl; same = λ n differs. refl };
      made = λ told. nothing text;
      left = λ told. same text;
      totals = record {
        tells = refl;
        read_faults = omega arith;
        write_faults = omega arith;
        taken = omega arith;
        given = omega arith;
        live = λ small. refl;
      };
      read = tt;
      write = tt;
    };
    source = record { same_len = refl; same_bytes = refl; same_rest = refl };
    later = omega arith;
    live = λ small. refl;
  }
    where
      stopped : Result (Unit {0}) Stop
      stopped = Err Memory

      nothing : (t : Option (List ℕ))
          → IfSome t (λ bytes. OnOk stopped (f.named a name ≡ Some bytes))
      nothing None = tt
      nothing (Some bytes) = tt

      same : (t : Option (List ℕ)) → IfSome t (λ bytes. OnErr stopped
          ((f.named a name ≡ f.named a name)
          ⊎ ((n : ℕ) × (f.named a name ≡ Some (take n bytes)))))
      same None = tt
      same (Some bytes) = inl refl

  -- one that makes it
  pub plan_made : (n : ℕ) (r : Result (Unit {0}) Stop) (src next : S) (a b : F)
      → MakesFile f name text r (g.faults src) (g.faults next) a b → ReadsFrom g src next n
      → (f.live a < 2 ^ 64 - 2 → f.live b ≡ f.live a) → MakesPlan g f name text r src next a b
  plan_made n r src next a b makes reads live = record {
    makes = makes;
    source = reads.leaves;
    later = reads.later;
    live = live;
  }

-- ---- What was said before is put, and then it is made

module _ {S F D O E : Type 0} (g : SourceGhosts S) (f : FilesGhosts F D) (o : SinkGhosts O)
    (e : SinkGhosts E) (out : List ℕ) (text : Option (List ℕ)) (src : S) (a : F)
    (s t : Outputs O E) where
  -- a step that stops by what was put
  pub put_left : (P : Type 0) (stop : Stop) → LeavesOutputs {T = Unit {0}} o e ⊥ (Err stop) s t
      → LeavesFilesBy {T = Bool} f o e P (Err stop) a a s t
  put_left P Read l = absurd l.read
  put_left P Write l =
      record { totals = totals_none f o e a; keeps = l.keeps; read = tt; write = inr l.write }
  put_left P Memory l =
      record { totals = totals_none f o e a; keeps = l.keeps; read = tt; write = tt }

  pub unput_image : (stop : Stop) → Writes {T = Unit {0}} o e (Err stop) s t []
      → LeavesOutputs {T = Unit {0}} o e ⊥ (Err stop) s t
      → WritesImage g f o e out text (Err stop) src src a a s t
  unput_image stop put l = record {
    does = λ told. image_unput f o e a s t told stop out text put;
    source = record { same_len = refl; same_bytes = refl; same_rest = refl };
    later = omega arith;
    live = λ small. refl;
    leaves = put_left (Rose (g.faults src) (g.faults src)) stop l;
  }

  module _ (put : Writes {T = Unit {0}} o e (Ok tt) s t [])
      (l : LeavesOutputs {T = Unit {0}} o e ⊥ (Ok tt) s t) (next : S) (b : F) where
    pub made_left : (r : Result (Unit {0}) Stop) → MakesPlan g f out text r src next a b
        → LeavesFilesBy f o e (Rose (g.faults src) (g.faults next)) (refuses_nothing r) a b s t
    made_left (Ok x) made =
        record { totals = made.makes.totals; keeps = l.keeps; read = tt; write = tt }
    made_left (Err Read) made = record {
      totals = made.makes.totals;
      keeps = l.keeps;
      read = made.makes.read;
      write = tt;
    }
    made_left (Err Write) made = record {
      totals = made.makes.totals;
      keeps = l.keeps;
      read = tt;
      write = inl made.makes.write;
    }
    made_left (Err Memory) made =
        record { totals = made.makes.totals; keeps = l.keeps; read = tt; write = tt }

    image_by : (r : Result (Unit {0}) Stop) → MakesPlan g f out text r src next a b
        → WritesImage g f o e out text (refuses_nothing r) src next a b s t
    image_by (Ok x) made = record {
      does = λ told. image_done f o e a s t told (tt {0}) b out (g.faults src) (g.faults next) put
          x text made.makes;
      source = made.source;
      later = made.later;
      live = made.live;
      leaves = made_left (Ok x) made;
    }
    image_by (Err stop) made = record {
      does = λ told. image_stopped f o e a s t told (tt {0}) b out (g.faults src)
          (g.faults next) put stop text made.makes;
      source = made.source;
      later = made.later;
      live = made.live;
      leaves = made_left (Err stop) made;
    }

    pub made_image : (r : Result (Unit {0}) Stop) (q : Result Bool Stop) → q ≡ refuses_nothing r
        → MakesPlan g f out text r src next a b
        → WritesImage g f o e out text q src next a b s t
    made_image r q is made =
        subst (λ (x : Result Bool Stop). WritesImage g f o e out text x src next a b s t)
        (sym is) (image_by r made)
