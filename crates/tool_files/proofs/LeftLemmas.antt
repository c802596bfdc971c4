-- What steps over a set of files leave.
use Rattle.std.proofs.Common.{◌⊎◌, inl, inr, ℕ, Bool, List, Option, Result, Ok, Err, OnOk, OnErr, ◌≡◌, sym, subst, arith}
use Rattle.tool_output.specs.elf_outside.Counts.{Rose}
use Rattle.tool_output.specs.elf_outside.declared.sinks.Sink.{Ghosts as SinkGhosts}
use Rattle.tool_output.specs.elf_outside.declared.file_sets.Files.{Ghosts as FilesGhosts}
use Rattle.tool_output.specs.declared.stops.Stop.{Stop}
use Rattle.tool_output.specs.declared.stops.Stop.TheVariants.{Read, Write, Memory}
use Rattle.tool_output.specs.declared.outputs.Outputs.{Outputs}
use Rattle.tool_output.specs.Steps.{LeavesOutputs, KeepsSinks}
use Rattle.tool_output.specs.Files.{Totals, LeavesFilesBy}
use Rattle.tool_output.specs.Made.{MakesFile}
use Rattle.tool_output.proofs.FileLemmas.{totals_none, totals_then}
use Rattle.tool_files.specs.Making.{MakesFiles}

module _ {F D O E : Type 0} (f : FilesGhosts F D) (o : SinkGhosts O) (e : SinkGhosts E) where
  -- a step that writes on the outputs alone, after others that leave the outputs
  pub said_leaves : (P : Type 0) (r : Result Bool Stop) (a b : F) (s t : Outputs O E)
      → Totals f a b → LeavesOutputs o e ⊥ r s t → LeavesFilesBy f o e P r a b s t
  said_leaves P (Ok x) a b s t totals h =
      record { totals = totals; keeps = h.keeps; read = tt; write = tt }
  said_leaves P (Err Read) a b s t totals h = absurd h.read
  said_leaves P (Err Write) a b s t totals h =
      record { totals = totals; keeps = h.keeps; read = tt; write = inr h.write }
  said_leaves P (Err Memory) a b s t totals h =
      record { totals = totals; keeps = h.keeps; read = tt; write = tt }

  module _ (P : Type 0) (stop : Stop) (a : F) (s t : Outputs O E) where
    -- what waits could not be put
    pub unput_leaves : {T U : Type 0} → LeavesOutputs {T = U} o e ⊥ (Err stop) s t
        → LeavesFilesBy {T = T} f o e P (Err stop) a a s t
    unput_leaves {T} {U} h = by stop h
      where
        by : (why : Stop) → LeavesOutputs {T = U} o e ⊥ (Err why) s t
            → LeavesFilesBy {T = T} f o e P (Err why) a a s t
        by Read k = absurd k.read
        by Write k = record {
          totals = totals_none f o e a;
          keeps = k.keeps;
          read = tt;
          write = inr k.write;
        }
        by Memory k =
            record { totals = totals_none f o e a; keeps = k.keeps; read = tt; write = tt }

  module _ (a b : F) (s t : Outputs O E) (keeps : KeepsSinks o e s t) where
    -- all is made
    pub made_leaves : {T : Type 0} (P : Type 0) (x : T) → Totals f a b
        → LeavesFilesBy {T = T} f o e P (Ok x) a b s t
    made_leaves P x totals = record { totals = totals; keeps = keeps; read = tt; write = tt }

    -- a file is not made
    pub unmade_leaves : {T U : Type 0} (P : Type 0) (stop : Stop) (name : List ℕ)
        (image : Option (List ℕ)) (n m : ℕ) → (Rose n m → P)
        → MakesFile {T = U} f name image (Err stop) n m a b
        → LeavesFilesBy {T = T} f o e P (Err stop) a b s t
    unmade_leaves P Read name image n m why h =
        record { totals = h.totals; keeps = keeps; read = why h.read; write = tt }
    unmade_leaves P Write name image n m why h =
        record { totals = h.totals; keeps = keeps; read = tt; write = inl h.write }
    unmade_leaves P Memory name image n m why h =
        record { totals = h.totals; keeps = keeps; read = tt; write = tt }

    -- a file is not made, after another one
    later_unmade : {T U : Type 0} (P : Type 0) (stop : Stop) (name : List ℕ)
        (image : Option (List ℕ)) (n m : ℕ) (c : F) → (Rose n m → P) → Totals f a c
        → MakesFile {T = U} f name image (Err stop) n m c b
        → LeavesFilesBy {T = T} f o e P (Err stop) a b s t
    later_unmade P Read name image n m c why first h = record {
      totals = totals_then f o e a c b first h.totals;
      keeps = keeps;
      read = why h.read;
      write = tt;
    }
    later_unmade P Write name image n m c why first h = record {
      totals = totals_then f o e a c b first h.totals;
      keeps = keeps;
      read = tt;
      write = inl (let low = first.write_faults in let rose = h.write in omega (arith, low, rose));
    }
    later_unmade P Memory name image n m c why first h = record {
      totals = totals_then f o e a c b first h.totals;
      keeps = keeps;
      read = tt;
      write = tt;
    }

    -- two files, one after another
    module _ {U : Type 0} (first second : List ℕ) (one other : Option (List ℕ)) (n m k l : ℕ) where
      pub both_leave : {T : Type 0} (P : Type 0) (x : T) (y : U)
          → MakesFiles f first second one other (Ok y) n m k l a b
          → LeavesFilesBy {T = T} f o e P (Ok x) a b s t
      both_leave P x y h = made_leaves P x (by h.made h.makes h.stopped h.next)
        where
          by : (made : Result U Stop) → MakesFile f first one made n m a h.middle
              → OnErr made ((Ok y ≡ made) × (b ≡ h.middle))
              → OnOk made (MakesFile {T = U} f second other (Ok y) k l h.middle b)
              → Totals f a b
          by (Ok z) makes stopped next =
              totals_then f o e a h.middle b makes.totals next.totals
          by (Err why) makes stopped next = let is = stopped.0 in cc

      pub stopped_leave : {T : Type 0} (stop : Stop)
          → MakesFiles {T = U} f first second one other (Err stop) n m k l a b
          → LeavesFilesBy {T = T} f o e (Rose n m ⊎ Rose k l) (Err stop) a b s t
      stopped_leave {T} stop h = by h.made h.makes h.stopped h.next
        where
          by : (made : Result U Stop) → MakesFile f first one made n m a h.middle
              → OnErr made ((Err stop ≡ made) × (b ≡ h.middle))
              → OnOk made (MakesFile {T = U} f second other (Err stop) k l h.middle b)
              → LeavesFilesBy {T = T} f o e (Rose n m ⊎ Rose k l) (Err stop) a b s t
          by (Ok z) makes stopped next =
              later_unmade (Rose n m ⊎ Rose k l) stop second other k l h.middle
              (λ rose. inr rose) makes.totals next
          by (Err why) makes stopped next =
              let same : stop ≡ why = let is = stopped.0 in cc in
              unmade_leaves (Rose n m ⊎ Rose k l) stop first one n m (λ rose. inl rose)
              (subst (λ (x : Stop). MakesFile {T = U} f first one (Err x) n m a b) (sym same)
              (subst (λ (g : F). MakesFile {T = U} f first one (Err why) n m a g)
              (sym stopped.1) makes))
